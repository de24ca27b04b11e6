use Rattle.std.proofs.Common.{◌≡◌, Option, subst}
use Rattle.unit_defs.specs.CuUpRecords.{CuUpContext}
use Rattle.unit_defs.specs.CuUp.{context_of}
use Rattle.cu_up_contexts.specs.contexts.Tables.{OctetUp}
use Rattle.cu_user.specs.cu_up_rows.Modes.{may_switch}
use Rattle.cu_user.proofs.cu_up_rows.record.CuUpRecord.may_switch.Goals as goal

pub returns-in-Some : goal.returns-in-Some
returns-in-Some c = λ codec.
    subst (λ (s : OctetUp). c.may_switch.result ≡ may_switch codec c.args.downlinks.now (context_of s c.args.ue)) c.self.view_is
    (subst (λ (o : Option CuUpContext). c.may_switch.result ≡ may_switch codec c.args.downlinks.now o) c.in-Some.ensures (c.may_switch.ensures codec))

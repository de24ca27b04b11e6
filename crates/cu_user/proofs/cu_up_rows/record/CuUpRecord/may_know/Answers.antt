use Rattle.std.proofs.Common.{◌≡◌, Option, subst}
use Rattle.unit_defs.specs.CuUpRecords.{CuUpContext}
use Rattle.unit_defs.specs.CuUp.{context_of}
use Rattle.cu_up_contexts.specs.contexts.Tables.{OctetUp}
use Rattle.cu_user.specs.cu_up_rows.Modes.{may_know}
use Rattle.cu_user.proofs.cu_up_rows.record.CuUpRecord.may_know.Goals as goal

pub returns-in-Some : goal.returns-in-Some
returns-in-Some c = λ codec.
    subst (λ (s : OctetUp). c.may_know.result ≡ may_know codec c.args.statuses.now (context_of s c.args.ue)) c.self.view_is
    (subst (λ (o : Option CuUpContext). c.may_know.result ≡ may_know codec c.args.statuses.now o) c.in-Some.ensures (c.may_know.ensures codec))

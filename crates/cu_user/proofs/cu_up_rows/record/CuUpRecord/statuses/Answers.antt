use Rattle.std.proofs.Common.{◌≡◌, Option, IfOk, subst}
use Rattle.unit_defs.specs.CuUpRecords.{CuUpContext}
use Rattle.unit_defs.specs.CuUp.{context_of}
use Rattle.cu_up_contexts.specs.contexts.Tables.{OctetUp}
use Rattle.cu_user.specs.cu_up_rows.Modes.{statuses_on}
use Rattle.cu_user.proofs.cu_up_rows.record.CuUpRecord.statuses.Goals as goal

pub returns-in-Some : goal.returns-in-Some
returns-in-Some c = λ codec.
    subst (λ (s : OctetUp). IfOk c.statuses.result (λ list. list ≡ statuses_on codec (context_of s c.args.ue))) c.self.view_is
    (subst (λ (o : Option CuUpContext). IfOk c.statuses.result (λ list. list ≡ statuses_on codec o)) c.in-Some.ensures (c.statuses.ensures codec))

use Rattle.std.proofs.Common.{◌≡◌, ◌++◌, List, ap, ◌∙◌, subst}
use Rattle.std.specs.List.{flat_map}
use Rattle.transactions.specs.declared.caller.Due.{Due}
use Rattle.unit_defs.specs.CuUp.{tick}
use Rattle.unit_defs.specs.octet_defs.Codec.{octet_way}
use Rattle.unit_messages.specs.steps.Steps.{stepped, step_after}
use Rattle.unit_requests.specs.setup_requests.Dues.{put_again}
use Rattle.cu_user.proofs.cu_up_rows.SetupSteps.{tick_step}
use Rattle.cu_up_contexts.specs.contexts.Tables.{OctetUp}
use Rattle.cu_user.specs.cu_up_rows.Records.{cu_up_record}
use Rattle.cu_user.proofs.cu_up_rows.record.CuUpRecord.tick.Goals as goal

pub returns : goal.returns
returns c = λ codec.
    let r : OctetUp = cu_up_record c.self.inside.gnb c.self.inside.number c.self.inside.is_set_up c.self.inside.contexts c.self.inside.requests in
    let now : OctetUp = cu_up_record c.self.inside.gnb c.self.inside.number c.self.inside.is_set_up c.self.inside.contexts c.tick.new.self in
    subst (λ (s : OctetUp). step_after c.args.outputs.now (tick (octet_way codec) s) ≡ stepped c.put_due.new.outputs now) c.self.view_is
    (tick_step codec c.args.outputs.now c.put_due.new.outputs r c.in_ok-due.due c.tick.new.self c.in_ok-due.ensures.due
    (c.in_ok-put_due.ensures ∙ ap (λ (ds : List Due). c.args.outputs.now ++ flat_map put_again ds) c.as_slice.ensures)
    c.in_ok-due.ensures.ok)

use Rattle.std.proofs.Common.{◌≡◌, ℕ, List, sym, ap, ◌∙◌, subst}
use Rattle.unit_defs.specs.CuCpRecords.{CuCpRecord}
use Rattle.unit_defs.specs.CuCp.{set_up}
use Rattle.unit_defs.specs.octet_defs.Codec.{octet_way}
use Rattle.unit_messages.specs.Messages.{message_as}
use Rattle.unit_messages.specs.steps.Steps.{stepped, step_after}
use Rattle.cu_control.proofs.SetUpSteps.{set_up_step}
use Rattle.cu_control.proofs.asked.set_up.Goals as goal

pub returns : goal.returns
returns g c =
    let codec = g.C.MessageCodec.codec in
    let inside = c.record.inside in
    let r : CuCpRecord (List ℕ) (List ℕ) = record { gnb = inside.gnb; units = inside.units.items; terminals = inside.terminals; transactions = inside.requests } in
    subst (λ (s : CuCpRecord (List ℕ) (List ℕ)). step_after c.args.outputs.now (set_up (octet_way codec) c.args.from (message_as c.args.response) s)
    ≡ stepped c.put_reply.new.outputs c.set_up.new.self) c.record.view_is
    (set_up_step codec c.args.outputs.now c.put_reply.new.outputs c.args.from (message_as c.args.response) r c.put_reply.new.requests c.in_ok-put_reply.ensures
    ∙ ap (λ (s : CuCpRecord (List ℕ) (List ℕ)). stepped c.put_reply.new.outputs s) (sym (c.in_ok-set_up.ensures.ok codec)))

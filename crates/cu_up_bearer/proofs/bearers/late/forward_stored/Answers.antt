use Rattle.std.proofs.Common.{ℕ, ◌+◌, List, ◌++◌, sym, ap, ◌∙◌}
use Rattle.gnb_types.specs.declared.names.Dir.TheVariants.{Ul}
use Rattle.gnb_types.specs.declared.outputs.Output.{Output}
use Rattle.unit_messages.specs.steps.Steps.{stepped}
use Rattle.pdcp_bearers.specs.ue_bearers.Senders.{from_on}
use Rattle.cu_up_bearer.proofs.downlink.Resends.{all_from}
use Rattle.cu_up_bearer.proofs.bearers.Forwards.{counted_outputs, counted_none, lates, first_packet}
use Rattle.cu_up_bearer.proofs.bearers.late.forward_stored.Goals as goal

pub returns : goal.returns
returns c = λ codec b hop_is.
    let l = c.loop-count in
    let es = c.args.receiving.now.receiver.stored in
    lates c.args.at.now c.args.hop codec b hop_is es c.args.out.now
    ∙ ap (λ (os : List Output). stepped os b)
    (sym (sym (counted_none c.args.at.now c.args.hop Ul l.out (from_on l.from es) c.in_default.ensures)
    ∙ l.invariant ∙ ap (λ (xs : List (ℕ × List ℕ)). c.args.out.now ++ counted_outputs c.args.at.now c.args.hop Ul xs) (all_from es)))

pub put_counted-requires : goal.put_counted-requires
put_counted-requires c =
    let l = c.loop-count in
    first_packet l.from c.args.receiving.now.receiver.stored (from_on (c.in-Some.count + 1) c.args.receiving.now.receiver.stored) c.in-Some.count c.in-Some.packet.now
    c.requires.2 c.in-Some.ensures.0

use Rattle.std.proofs.Common.{ℕ, List, ◌++◌, sym, ap, ◌∙◌}
use Rattle.gnb_types.specs.declared.names.Dir.TheVariants.{Dl}
use Rattle.gnb_types.specs.declared.outputs.Output.{Output}
use Rattle.unit_messages.specs.steps.Steps.{stepped}
use Rattle.pdcp_bearers.specs.ue_bearers.Senders.{from_on}
use Rattle.cu_up_bearer.proofs.downlink.Resends.{all_from}
use Rattle.cu_up_bearer.proofs.bearers.Forwards.{counted_outputs, counted_none, downs}
use Rattle.cu_up_bearer.proofs.bearers.forwarding.forward_unconfirmed.Goals as goal

pub returns : goal.returns
returns c = λ codec b hop_is.
    let l = c.loop-count in
    let es = c.args.sending.now.sender.unconfirmed in
    downs c.args.at.now c.args.hop codec b hop_is es c.args.out.now
    ∙ ap (λ (os : List Output). stepped os b)
    (sym (sym (counted_none c.args.at.now c.args.hop Dl l.out (from_on l.from es) c.in_default.ensures)
    ∙ l.invariant ∙ ap (λ (xs : List (ℕ × List ℕ)). c.args.out.now ++ counted_outputs c.args.at.now c.args.hop Dl xs) (all_from es)))

use Rattle.std.proofs.Common.{◌==◌, ℕ, not, List, filter, sym, ap, ◌∙◌}
use Rattle.gnb_types.specs.declared.outputs.Output.{Output}
use Rattle.unit_messages.specs.steps.Steps.{step_after}
use Rattle.cu_up_bearer.proofs.downlink.Sequels.{step_as}
use Rattle.cu_up_bearer.specs.bearers.Bearers.{kept}
use Rattle.cu_up_items.proofs.ends.UplinkEnds.{hop_after, closes_uplink, others}
use Rattle.cu_up_items.proofs.ends.uplinks.end_uplink.Goals as goal

pub returns-clause-step : goal.returns-clause-step
returns-clause-step c = λ codec.
    let a = c.args.at.now in
    let b = kept c.args.bearer.now in
    let teid = c.args.teid in
    step_as _ _ _ _ _
    (closes_uplink codec a b c.args.out.now teid
    ∙ ap (λ (os : List Output). step_after os (hop_after codec a b (record b { uplinks = others teid b.uplinks }))) (sym c.in_ok-push.ensures.ok)
    ∙ ap (λ (ts : List ℕ). step_after c.push.new.self (hop_after codec a b (record b { uplinks = ts }))) (sym (c.in_ok-bearer.ensures ∙ ap (λ (ts : List ℕ). others teid ts) c.as_slice.ensures)))
    (c.end_hop_up.ensures.step codec)

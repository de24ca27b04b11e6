use Rattle.std.proofs.Common.{◌≡◌, ◌++◌, ℕ, List, [], map, Some, sym, ap, ◌∙◌, arith}
use Rattle.std.specs.List.{flat_map}
use Rattle.std.proofs.lemmas.List.{drop_all}
use Rattle.unit_defs.specs.CuUpRecords.{CuUpTunnel, n3, f1u_uplink, forwarding_down, forwarding_up}
use Rattle.unit_defs.specs.CuUp.{entries}
use Rattle.cu_up_bearer.proofs.orders.Orders.{on_ok}
use Rattle.cu_up_contexts.specs.bearer_context.Answers.{entry_as}
use Rattle.cu_up_contexts.proofs.bearer_context.Opened.{four}
use Rattle.cu_up_contexts.proofs.bearer_context.answers.push_openings.Goals as goal

pub returns : goal.returns
returns c = λ ue context.
    let b = c.args.bearer.now in
    let seen = map (entry_as ue context) in
    let ups : List ℕ → List (ℕ × CuUpTunnel) = λ teids. flat_map (λ teid. entries ue c.args.id context f1u_uplink (Some teid)) teids in
    let l = c.loop-teid in
    let items = c.as_slice-teid-items.result.now in
    let rest : seen l.openings ++ [] ≡ seen c.push_opening.new.openings ++ ups b.uplinks =
    ap (λ (ts : List ℕ). seen l.openings ++ ups ts) (sym (drop_all l.teid-index items (omega (arith, c.loop-teid-test.false))))
    ∙ l.invariant ue context
    ∙ ap (λ (ts : List ℕ). seen c.push_opening.new.openings ++ ups ts) c.as_slice-teid-items.ensures in
    on_ok c.push_opening-3.result
    (λ last. four (seen c.args.openings.now) (entries ue c.args.id context n3 b.n3) (ups b.uplinks) (entries ue c.args.id context forwarding_down b.forward_down)
    (entries ue c.args.id context forwarding_up b.forward_up) (seen c.push_opening.new.openings) (seen l.openings) (seen c.push_opening-2.new.openings)
    (seen c.push_opening-3.new.openings) (c.in_ok-push_opening.ensures ue context) rest (c.in_ok-push_opening-3.ensures ue context) last)
    (c.push_opening-3.ensures ue context)

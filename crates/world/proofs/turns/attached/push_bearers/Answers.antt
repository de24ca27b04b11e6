use Rattle.std.proofs.Common.{◌+◌, ◌-◌, [], ◌∷◌, ◌++◌, List, map, sym, ◌∙◌, ap, append_assoc}
use Rattle.gnb_types.specs.declared.names.UeId.{UeId}
use Rattle.gnb_types.specs.declared.names.BearerId.{BearerId}
use Rattle.run_defs.specs.Steps.{bearer_numbers}
use Rattle.world.proofs.turns.Lists.{of_terminal, numbered}
use Rattle.world.proofs.turns.attached.push_bearers.Goals as goal

pub loop-before-preserved : goal.loop-before-preserved
loop-before-preserved c =
    let rest : List (UeId × BearerId) =
    map (of_terminal c.args.ue) (bearer_numbers (c.loop-before.before + 1 + 1) (c.args.count - (c.loop-before.before + 1))) in
    let here : UeId × BearerId = of_terminal c.args.ue (record { 0 = c.loop-before.before + 1 }) in
    ap (λ (l : List (UeId × BearerId)). l ++ rest) c.in_ok-push.ensures.ok ∙ append_assoc c.loop-before.bearers (here ∷ []) rest
    ∙ ap (λ (l : List (UeId × BearerId)). c.loop-before.bearers ++ l)
    (sym (numbered c.args.ue c.loop-before.before c.args.count c.loop-before-test.true))
    ∙ c.loop-before.invariant

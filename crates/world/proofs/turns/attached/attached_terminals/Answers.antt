use Rattle.std.proofs.Common.{◌≡◌, [], ◌++◌, List, sym, ◌∙◌, ap, arith}
use Rattle.std.specs.List.{flat_map}
use Rattle.std.proofs.lemmas.List.{append-nil}
use Rattle.std.proofs.lemmas.Grind.{common_steps}
use Rattle.gnb_types.specs.declared.names.UeId.{UeId}
use Rattle.gnb_types.specs.declared.plans.Plan.{Plan}
use Rattle.world.specs.turns.Turns.{terminals_there}
use Rattle.world.proofs.turns.Lists.{terminals_are}
use Rattle.world.proofs.turns.attached.attached_terminals.Goals as goal

pub returns : goal.returns
returns c units core =
    let l = c.loop-ue in
    let gone = c.args.network.now.gone in
    let none : l.ue-iterator ≡ [] = grind (arith, common_steps) in
    sym (append-nil l.terminals)
    ∙ ap (λ (es : List (UeId × Plan)). l.terminals ++ flat_map (λ e. terminals_there gone e.0) es) (sym none) ∙ l.invariant
    ∙ terminals_are gone c.args.network.now.plans

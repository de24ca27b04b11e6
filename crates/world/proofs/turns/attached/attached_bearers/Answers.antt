use Rattle.std.proofs.Common.{◌≡◌, [], ◌++◌, List, sym, ◌∙◌, ap, arith}
use Rattle.std.specs.List.{flat_map}
use Rattle.std.proofs.lemmas.List.{append-nil}
use Rattle.std.proofs.lemmas.Grind.{common_steps}
use Rattle.gnb_types.specs.declared.names.UeId.{UeId}
use Rattle.gnb_types.specs.declared.plans.Plan.{Plan}
use Rattle.world.specs.turns.Turns.{bearers_there}
use Rattle.world.proofs.turns.Lists.{bearers_are}
use Rattle.world.proofs.turns.attached.attached_bearers.Goals as goal

pub returns : goal.returns
returns c units core =
    let l = c.loop-ue in
    let gone = c.args.network.now.gone in
    let none : l.ue-iterator ≡ [] = grind (arith, common_steps) in
    sym (append-nil l.bearers)
    ∙ ap (λ (es : List (UeId × Plan)). l.bearers ++ flat_map (λ e. bearers_there gone e.0 e.1.bearers) es) (sym none) ∙ l.invariant
    ∙ bearers_are gone c.args.network.now.plans

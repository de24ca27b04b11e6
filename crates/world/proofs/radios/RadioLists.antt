-- A list of bearers in place of that of their radios.
use Rattle.std.proofs.Common.{◌≡◌, List, [], ◌∷◌, ◌++◌, refl, sym, ◌∙◌, ap}
use Rattle.std.specs.List.{flat_map}
use Rattle.std.proofs.lemmas.List.Folds.{flat_map-map}
use Rattle.std.proofs.lemmas.Grind.{flat_map-append}
use Rattle.gnb_types.specs.declared.names.UeId.{UeId}
use Rattle.gnb_types.specs.declared.names.BearerId.{BearerId}
use Rattle.gnb_types.specs.declared.names.Dir.TheVariants.{Dl, Ul}
use Rattle.gnb_types.specs.declared.keys.EntityKey.{EntityKey}
use Rattle.gnb_types.specs.declared.plans.Plan.{Plan}
use Rattle.run_defs.specs.States.{entity}
use Rattle.run_defs.specs.Steps.{bearer_numbers, entities_of}
use Rattle.run_defs.specs.Settling.{bearers_of, radio_turn, all_radios}
use Rattle.run_links.specs.Networks.{OctetState, OctetWorld}
use Rattle.run_links.specs.Spans.{both_of}
use Rattle.world.proofs.turns.Lists.{next_same, next_next}
use Rattle.world.specs.radios.RadioTurns.{turned, both_turns, bearer_turns}

abbrev pub entities : UeId × BearerId → List EntityKey
entities e = both_of e.0 e.1

turns_are : (world : OctetWorld) (es : List (UeId × BearerId)) (s : OctetState) → bearer_turns world es s ≡ all_radios world (flat_map entities es) s
unfolding turned
turns_are world [] s = refl
turns_are world (e ∷ es) s =
    next_same (both_turns world e.0 e.1 s) (bearer_turns world es) (all_radios world (flat_map entities es)) (turns_are world es)
    ∙ sym (next_next (radio_turn world (entity e.0 e.1 Dl) s) (radio_turn world (entity e.0 e.1 Ul)) (all_radios world (flat_map entities es)))

pub entities_are : (plans : List (UeId × Plan)) → flat_map entities (flat_map bearers_of plans) ≡ flat_map entities_of plans
entities_are [] = refl
entities_are (e ∷ es) =
    flat_map-append entities (bearers_of e) (flat_map bearers_of es)
    ∙ ap (λ (l : List EntityKey). l ++ flat_map entities (flat_map bearers_of es))
    (flat_map-map entities (λ b. (e.0, b)) (bearer_numbers 1 e.1.bearers))
    ∙ ap (λ (l : List EntityKey). entities_of e ++ l) (entities_are es)

pub all_turns_are : (world : OctetWorld) (plans : List (UeId × Plan)) (s : OctetState)
    → bearer_turns world (flat_map bearers_of plans) s ≡ all_radios world (flat_map entities_of plans) s
all_turns_are world plans s =
    turns_are world (flat_map bearers_of plans) s ∙ ap (λ (l : List EntityKey). all_radios world l s) (entities_are plans)

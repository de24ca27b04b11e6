-- Where all steps are refusals, the state is as it was before; each step of a unit is no refusal.
use Rattle.std.proofs.Common.{◌≡◌, ℕ, Bool, true, false, ◌&&◌, List, [], ◌∷◌, Option, Some, None, refl, sym, ◌∙◌}
use Rattle.std.specs.Prelude.{if◌then◌else◌}
use Rattle.std.specs.List.{list_all}
use Rattle.std.proofs.lemmas.List.Folds.{list_all-append}
use Rattle.gnb_types.specs.declared.names.NodeId.{NodeId}
use Rattle.gnb_types.specs.declared.reasons.RefuseReason.{RefuseReason}
use Rattle.unit_defs.specs.Ways.{Put, held, no}
use Rattle.run_defs.specs.Lines.{RunLine, was_refused}
use Rattle.run_defs.specs.Units.{Units}
use Rattle.run_defs.specs.States.{State, Given, Stepped, stepped, step_spent, World, sn_of, spent_counter, goes, stops, told_before, ◌next◌, goes_on, Within, Outcome, RunStep, as_step, refused}
use Rattle.run_defs.specs.Steps.{control_messages_spent, too_many_control_messages, Done, is_done, is_held, is_refused, carried_out, done_with, does, ordered_by, step}

abbrev refuses : {M : Type 0} → Option NodeId → List (RunLine M) → Bool
refuses (Some node) lines = false
refuses None (was_refused reason ∷ []) = true
refuses None lines = false

abbrev pub is_refusal_step : {M : Type 0} → RunStep M → Bool
is_refusal_step step = refuses step.actor step.lines

first_holds : (a b : Bool) → a && b ≡ true → a ≡ true
first_holds true b h = refl
first_holds false b h = h

second_holds : (a b : Bool) → a && b ≡ true → b ≡ true
second_holds true b h = h
second_holds false b h = absurd cc

module _ {M C L P : Type 0} (world : World M C L P) where
  abbrev IsBack : State M C L P → Outcome M C L P → Type 0
  IsBack s (goes steps after) = list_all is_refusal_step steps ≡ true → after ≡ s
  IsBack s (stops steps why) = Unit {0}

  pub record Stays (s : State M C L P) (e : Outcome M C L P) : Type 0 where
    pub it : IsBack s e

  abbrev pub Keeps : (State M C L P → Outcome M C L P) → Type 0
  Keeps f = (s : State M C L P) → Stays s (f s)

  back_then : (s mid : State M C L P) (told : List (RunStep M)) (e : Outcome M C L P) → (list_all is_refusal_step told ≡ true → mid ≡ s)
      → IsBack mid e → IsBack s (told_before told e)
  back_then s mid told (goes more after) p q = λ h.
      let split : list_all is_refusal_step told && list_all is_refusal_step more ≡ true =
      sym (list_all-append is_refusal_step told more) ∙ h in
      q (second_holds (list_all is_refusal_step told) _ split) ∙ p (first_holds _ _ split)
  back_then s mid told (stops more why) p q = tt

  then_back : (s : State M C L P) (e : Outcome M C L P) (more : State M C L P → Outcome M C L P) → IsBack s e → Keeps more → IsBack s (e next more)
  then_back s (goes told mid) more p q = back_then s mid told (more mid) p (q mid).it
  then_back s (stops told why) more p q = tt

  pub then_more : (s : State M C L P) (e : Outcome M C L P) (more : State M C L P → Outcome M C L P) → Stays s e → Keeps more → Stays s (e next more)
  then_more s e more p q = record { it = then_back s e more p.it q }

  -- a unit's step is no refusal
  of_unit : (s : State M C L P) (node : NodeId) (w : Within M C L P) → IsBack s (as_step (Some node) w)
  of_unit s node (goes lines after) = λ h. absurd cc
  of_unit s node (stops lines why) = tt

  pub a_step : (s : State M C L P) (node : NodeId) (w : Within M C L P) → Stays s (as_step (Some node) w)
  a_step s node w = record { it = of_unit s node w }

  pub just_goes_on : Keeps goes_on
  just_goes_on s = record { it = λ h. refl }

  pub goes_refused : (reason : RefuseReason) → Keeps (refused reason)
  goes_refused reason s = record { it = λ h. refl }

  pub choose : (s : State M C L P) (t : Bool) (a b : Outcome M C L P) → Stays s a → Stays s b → Stays s (if t then a else b)
  choose s true a b p q = p
  choose s false a b p q = q

  -- ---- what an input comes to

  abbrev pub DoneStays : State M C L P → Done M C L P → Type 0
  DoneStays s (is_done outcome) = Stays s outcome
  DoneStays s (is_held reason) = Unit {0}
  DoneStays s (is_refused reason) = Unit {0}

  pub record DoneKeeps (s : State M C L P) (d : Done M C L P) : Type 0 where
    pub it : DoneStays s d

  module _ (node : NodeId) (taken : Option ℕ) (first : State M C L P → Within M C L P) (s : State M C L P) where
    goes_if_few : (outputs : List (Put M L P)) (units : Units M C) (t : Bool)
        → DoneStays s (if t then is_done (stops [] (spent_counter control_messages_spent)) else is_done (as_step (Some node) (carried_out world node taken first outputs units s)))
    goes_if_few outputs units true = record { it = tt }
    goes_if_few outputs units false = a_step s node (carried_out world node taken first outputs units s)

    goes_done : (answer : Stepped M C L P) → DoneStays s (done_with world node taken first s answer)
    goes_done (stepped (held reason ∷ []) units) = tt
    goes_done (stepped (no reason ∷ []) units) = tt
    goes_done (stepped outputs units) = goes_if_few outputs units (too_many_control_messages world outputs s)
    goes_done (step_spent counter) = record { it = tt }

    pub goes_does : (given : Given M L P) → DoneKeeps s (does world node given taken first s)
    unfolding does
    goes_does given = record { it = goes_done (world.answer (sn_of s) s.units node given) }

  ordered : (s : State M C L P) (d : Done M C L P) → DoneStays s d → Stays s (ordered_by world s d)
  ordered s (is_done outcome) p = p
  ordered s (is_held reason) p = just_goes_on s
  ordered s (is_refused reason) p = goes_refused reason s

  pub goes_ordered : (s : State M C L P) (d : Done M C L P) → DoneKeeps s d → Stays s (ordered_by world s d)
  goes_ordered s d p = ordered s d p.it

  pub goes_step : (node : NodeId) (given : Given M L P) → Keeps (step world node given)
  unfolding step
  goes_step node given s = goes_ordered s (does world node given None goes_on s) (goes_does node None goes_on s given)

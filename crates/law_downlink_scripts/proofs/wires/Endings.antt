-- Lines one after another, and how what is said of a step, or of several, is said of one after another.
use Rattle.std.proofs.Common.{◌≡◌, List, [], ◌∷◌, ◌++◌, refl, sym, subst}
use Rattle.std.proofs.lemmas.List.{append-nil}
use Rattle.std.proofs.lemmas.Grind.{flat_map-append}
use Rattle.std.specs.Prelude.{Option}
use Rattle.gnb_types.specs.declared.names.NodeId.{NodeId}
use Rattle.run_defs.specs.Lines.{RunLine}
use Rattle.run_defs.specs.States.{State, Ending, goes, stops, told_before, ◌next◌, RunStep, Within, as_step}
use Rattle.run_defs.specs.Said.{lines_in, OnLinks, after_line, WiresFrom}

abbrev pub after_lines : {M : Type 0} → OnLinks M → List (RunLine M) → OnLinks M
after_lines on [] = on
after_lines on (line ∷ lines) = after_lines (after_line on line) lines

pub after_append : {M : Type 0} (on : OnLinks M) (xs ys : List (RunLine M)) → after_lines on (xs ++ ys) ≡ after_lines (after_lines on xs) ys
after_append on [] ys = refl
after_append on (x ∷ xs) ys = after_append (after_line on x) xs ys

pub wires_append : {M : Type 0} (on : OnLinks M) (xs ys : List (RunLine M)) → WiresFrom on xs → WiresFrom (after_lines on xs) ys
    → WiresFrom on (xs ++ ys)
wires_append on [] ys p q = q
wires_append on (x ∷ xs) ys p q = (p.0, wires_append (after_line on x) xs ys p.1 q)

-- what is printed keeps to the links, and afterwards K holds of the links and the state
abbrev pub GoesWith : {M X S : Type 0} → (List X → List (RunLine M)) → (OnLinks M → S → Type 0) → OnLinks M → Ending X S → Type 0
GoesWith lines K on (goes told after) = WiresFrom on (lines told) × K (after_lines on (lines told)) after
GoesWith lines K on (stops told why) = WiresFrom on (lines told)

module _ {M X S : Type 0} (lines : List X → List (RunLine M)) (joined : (xs ys : List X) → lines (xs ++ ys) ≡ lines xs ++ lines ys)
    (K : OnLinks M → S → Type 0) where
  pub more_told : (on : OnLinks M) (told : List X) (e : Ending X S) → WiresFrom on (lines told) → GoesWith lines K (after_lines on (lines told)) e
      → GoesWith lines K on (told_before told e)
  more_told on told (goes more after) p q = (
    subst (λ (ls : List (RunLine M)). WiresFrom on ls) (sym (joined told more)) (wires_append on (lines told) (lines more) p q.0),
    subst (λ (ls : List (RunLine M)). K (after_lines on ls) after) (sym (joined told more))
        (subst (λ (l : OnLinks M). K l after) (sym (after_append on (lines told) (lines more))) q.1),
  )
  more_told on told (stops more why) p q =
      subst (λ (ls : List (RunLine M)). WiresFrom on ls) (sym (joined told more)) (wires_append on (lines told) (lines more) p q)

  -- one after another; in between J holds
  pub one_and_next : (J : OnLinks M → S → Type 0) (on : OnLinks M) (e : Ending X S) (more : S → Ending X S) → GoesWith lines J on e
      → ((l : OnLinks M) (t : S) → J l t → GoesWith lines K l (more t)) → GoesWith lines K on (e next more)
  one_and_next J on (goes told after) more p q = more_told on told (more after) p.0 (q (after_lines on (lines told)) after p.1)
  one_and_next J on (stops told why) more p q = p

abbrev pub as_lines : {M : Type 0} → List (RunLine M) → List (RunLine M)
as_lines lines = lines

abbrev pub Goes : {M S : Type 0} → (OnLinks M → S → Type 0) → OnLinks M → Ending (RunLine M) S → Type 0
Goes K on e = GoesWith as_lines K on e

abbrev pub GoesBySteps : {M S : Type 0} → (OnLinks M → S → Type 0) → OnLinks M → Ending (RunStep M) S → Type 0
GoesBySteps K on e = GoesWith lines_in K on e

module _ {M S : Type 0} (K J : OnLinks M → S → Type 0) (on : OnLinks M) where
  pub then_line : (e : Ending (RunLine M) S) (more : S → Ending (RunLine M) S) → Goes J on e
      → ((l : OnLinks M) (t : S) → J l t → Goes K l (more t)) → Goes K on (e next more)
  then_line e more p q = one_and_next as_lines (λ xs ys. refl) K J on e more p q

  pub then_step : (e : Ending (RunStep M) S) (more : S → Ending (RunStep M) S) → GoesBySteps J on e
      → ((l : OnLinks M) (t : S) → J l t → GoesBySteps K l (more t)) → GoesBySteps K on (e next more)
  then_step e more p q = one_and_next lines_in (flat_map-append (λ step. step.lines)) K J on e more p q

module _ {M C L P : Type 0} (K : OnLinks M → State M C L P → Type 0) (on : OnLinks M) where
  one_step : (lines : List (RunLine M)) (after : State M C L P) → WiresFrom on lines → K (after_lines on lines) after
      → WiresFrom on (lines ++ []) × K (after_lines on (lines ++ [])) after
  one_step lines after p q = (
    subst (λ (ls : List (RunLine M)). WiresFrom on ls) (sym (append-nil lines)) p,
    subst (λ (ls : List (RunLine M)). K (after_lines on ls) after) (sym (append-nil lines)) q,
  )

  pub in_a_step : (actor : Option NodeId) (w : Within M C L P) → Goes K on w → GoesBySteps K on (as_step actor w)
  in_a_step actor (goes lines after) p = one_step lines after p.0 p.1
  in_a_step actor (stops lines why) p = subst (λ (ls : List (RunLine M)). WiresFrom on ls) (sym (append-nil lines)) p

-- what holds afterwards, and what follows from that
pub goes_map : {M X S : Type 0} (lines : List X → List (RunLine M)) (J K : OnLinks M → S → Type 0) (on : OnLinks M) (e : Ending X S)
    → ((l : OnLinks M) (t : S) → J l t → K l t) → GoesWith lines J on e → GoesWith lines K on e
goes_map lines J K on (goes told after) f p = (p.0, f (after_lines on (lines told)) after p.1)
goes_map lines J K on (stops told why) f p = p

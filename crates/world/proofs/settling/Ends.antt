-- What is printed at the end of `settle`, and its rounds.
use Rattle.std.proofs.Common.{◌≡◌, ℕ, zero, suc, ◌+◌, Bool, true, false, if◌then◌else◌, List, [], ◌∷◌, ◌++◌, refl, sym, ◌∙◌, ap, subst, append_assoc}
use Rattle.std.specs.Prelude.{Result, Ok, Err}
use Rattle.std.proofs.lemmas.List.{append-nil}
use Rattle.scenario_text.specs.declared.line.OutLine.{OutLine}
use Rattle.run_defs.specs.Lines.{RunLine, has_not_settled}
use Rattle.run_defs.specs.Printing.{out_line}
use Rattle.run_defs.specs.States.{◌next◌, prints}
use Rattle.run_defs.specs.Settling.{all_quiet, ask_lines, settled, round, rounds_from}
use Rattle.run_links.specs.Networks.{Octets, OctetState, OctetWorld, OctetOutcome}
use Rattle.run_links.specs.Told.{printed, EndsAt}
use Rattle.world_steps.specs.declared.cause.Cause.{Cause}
use Rattle.world_steps.specs.Gives.{EventGives}
use Rattle.world_steps.proofs.Following.{first_stops}
use Rattle.world.specs.turns.Turns.{Continues}
use Rattle.world.proofs.turns.Turned.{then_continues}
use Rattle.world.specs.settling.Rounds.{ends_with}

pub prints_all : (before middle lines : List OutLine) (l : RunLine Octets) (more : List (RunLine Octets)) (s : OctetState)
    → middle ≡ before ++ out_line (λ octets. octets) l ∷ [] → lines ≡ middle ++ printed more
    → EventGives before (prints (l ∷ more) s) lines s (Ok tt)
prints_all before middle lines l more s e f = (
  f ∙ ap (λ (ls : List OutLine). ls ++ printed more) e ∙ append_assoc before (out_line (λ octets. octets) l ∷ []) (printed more)
      ∙ ap (λ (ls : List (RunLine Octets)). before ++ printed (l ∷ ls)) (sym (append-nil more)),
  refl,
)

ends_as : (world : OctetWorld) (rounds : ℕ) (quiet : Bool) (s : OctetState) (before lines : List OutLine)
    (result : Result (Unit {0}) Cause) (b : Bool) → quiet ≡ b → EventGives before (ends_with world rounds quiet s) lines s result
    → EventGives before (ends_with world rounds b s) lines s result
ends_as world rounds quiet s before lines result b e h =
    subst (λ (q : Bool). EventGives before (ends_with world rounds q s) lines s result) e h

module _ (world : OctetWorld) (rounds left : ℕ) (s : OctetState) where
  abbrev by_quiet : Bool → OctetOutcome
  by_quiet b = if b then settled world rounds s else (round world s next rounds_from world (rounds + 1) left)

  pub quiet_now : (before lines : List OutLine) (result : Result (Unit {0}) Cause) → true ≡ all_quiet world s
      → EventGives before (ends_with world rounds true s) lines s result
      → EventGives before (rounds_from world rounds (suc left) s) lines s result
  quiet_now before lines result e h = subst (λ (b : Bool). EventGives before (by_quiet b) lines s result) e h

  pub one_round : (t : OctetState) (before middle : List OutLine) → false ≡ all_quiet world s → EndsAt before (round world s) middle t
      → Continues before (rounds_from world rounds (suc left) s) middle (rounds_from world (rounds + 1) left t)
  one_round t before middle e h =
      subst (λ (b : Bool). Continues before (by_quiet b) middle (rounds_from world (rounds + 1) left t)) e
      (then_continues (round world s) (rounds_from world (rounds + 1) left) before middle t h)

  pub round_stops : (t : OctetState) (before lines : List OutLine) (cause : Cause) → false ≡ all_quiet world s
      → EventGives before (round world s) lines t (Err cause)
      → EventGives before (rounds_from world rounds (suc left) s) lines t (Err cause)
  round_stops t before lines cause e h =
      subst (λ (b : Bool). EventGives before (by_quiet b) lines t (Err cause)) e
      (first_stops (round world s) (rounds_from world (rounds + 1) left) before lines t t cause h)

-- no round is left
pub last_round : (world : OctetWorld) (rounds : ℕ) (quiet : Bool) (s : OctetState) (before lines : List OutLine)
    (result : Result (Unit {0}) Cause) → quiet ≡ all_quiet world s → EventGives before (ends_with world rounds quiet s) lines s result
    → EventGives before (rounds_from world rounds zero s) lines s result
last_round world rounds quiet s before lines result e h =
    subst (λ (o : OctetOutcome). EventGives before o lines s result) (by (all_quiet world s))
    (ends_as world rounds quiet s before lines result (all_quiet world s) e h)
  where
    by : (b : Bool) → ends_with world rounds b s
        ≡ (if b then settled world rounds s else prints (has_not_settled rounds ∷ ask_lines world s) s)
    by true = refl
    by false = refl

-- Messages are given, as long as any is in flight, and at most so many times.
use Rattle.std.proofs.Common.{◌≡◌, ℕ, zero, suc, List, [], ◌∷◌, Some, None, sym, subst}
use Rattle.std.specs.Prelude.{Result, Ok, Err}
use Rattle.scenario_text.specs.declared.line.OutLine.{OutLine}
use Rattle.tables.specs.Queues.{first_item}
use Rattle.run_defs.specs.Events.{give, pump_on, pump_times, pump_limit, pump}
use Rattle.run_links.specs.Networks.{OctetState, OctetWorld}
use Rattle.run_links.specs.Told.{EndsAt}
use Rattle.world_steps.specs.declared.cause.Cause.{Cause}
use Rattle.world_steps.specs.Gives.{EventGives}
use Rattle.world_steps.proofs.Following.{then_event, first_stops, nothing_more}

-- none is in flight
pub pumps_none : (world : OctetWorld) (times : ℕ) (s : OctetState) (lines : List OutLine) → None ≡ first_item s.bag.flight
    → EventGives lines (pump_times world times s) lines s (Ok tt)
pumps_none world zero s lines is = nothing_more lines s
pumps_none world (suc times) s lines is = by s.bag.flight is
  where
    by : (flight : List ℕ) → None ≡ first_item flight → EventGives lines (pump_on world (pump_times world times) s flight) lines s (Ok tt)
    by [] h = nothing_more lines s
    by (number ∷ numbers) h = absurd cc

-- all were given that may be
pub pumps_no_more : (world : OctetWorld) (times : ℕ) (s : OctetState) (lines : List OutLine) → times ≡ 0
    → EventGives lines (pump_times world times s) lines s (Ok tt)
pumps_no_more world times s lines is =
    subst (λ (n : ℕ). EventGives lines (pump_times world n s) lines s (Ok tt)) (sym is) (nothing_more lines s)

-- one is given, and then the rest
pumps_first : (world : OctetWorld) (times number : ℕ) (s t : OctetState) (before lines : List OutLine) (result : Result (Unit {0}) Cause)
    → Some number ≡ first_item s.bag.flight → EventGives before (pump_on world (pump_times world times) s (number ∷ [])) lines t result
    → EventGives before (pump_times world (suc times) s) lines t result
pumps_first world times number s t before lines result is h = by s.bag.flight is
  where
    by : (flight : List ℕ) → Some number ≡ first_item flight → EventGives before (pump_on world (pump_times world times) s flight) lines t result
    by [] e = absurd cc
    by (n ∷ ns) e =
        let same : number ≡ n = cc in
        subst (λ (m : ℕ). EventGives before (pump_on world (pump_times world times) s (m ∷ ns)) lines t result) same h

pub pumps_one : (world : OctetWorld) (all times number : ℕ) (s t u : OctetState) (before middle lines : List OutLine)
    (result : Result (Unit {0}) Cause) → all ≡ suc times → Some number ≡ first_item s.bag.flight → EndsAt before (give world number s) middle t
    → EventGives middle (pump_times world times t) lines u result → EventGives before (pump_times world all s) lines u result
pumps_one world all times number s t u before middle lines result more is h k =
    subst (λ (n : ℕ). EventGives before (pump_times world n s) lines u result) (sym more)
    (pumps_first world times number s u before lines result is
    (then_event (give world number s) (pump_times world times) before middle lines t u result h k))

pub pump_stops : (world : OctetWorld) (all times number : ℕ) (s t : OctetState) (before lines : List OutLine) (cause : Cause) → all ≡ suc times
    → Some number ≡ first_item s.bag.flight → EventGives before (give world number s) lines t (Err cause)
    → EventGives before (pump_times world all s) lines t (Err cause)
pump_stops world all times number s t before lines cause more is h =
    subst (λ (n : ℕ). EventGives before (pump_times world n s) lines t (Err cause)) (sym more)
    (pumps_first world times number s t before lines (Err cause) is
    (first_stops (give world number s) (pump_times world times) before lines t t cause h))

pub pumps : (world : OctetWorld) (times : ℕ) (s t : OctetState) (before lines : List OutLine) (result : Result (Unit {0}) Cause)
    → times ≡ pump_limit world → EventGives before (pump_times world times s) lines t result → EventGives before (pump world s) lines t result
unfolding pump
pumps world times s t before lines result is h = subst (λ (n : ℕ). EventGives before (pump_times world n s) lines t result) is h

-- Steps after one another, and steps so many times.
use Rattle.std.proofs.Common.{◌≡◌, ℕ, suc, ◌-◌, ◌<◌, Bool, true, false, cond, nat_lt, List, [], ◌∷◌, ◌++◌, length, Ok, Err, refl, sym, ap, ◌∙◌, subst, arith, append_assoc, append-nil}
use Rattle.std.specs.Prelude.{Result, IfOk}
use Rattle.std.proofs.lemmas.Result.{IfOk-weaker}
use Rattle.gnb_types.specs.declared.names.SnBits.{SnBits}
use Rattle.pdcp.specs.Numbers.{half}
use Rattle.dup_defs.specs.declared.types.leg.Leg.{Leg}
use Rattle.dup_defs.specs.declared.types.event.DupEvent.{DupEvent}
use Rattle.dup_defs.specs.declared.types.event.DupEvent.TheVariants as events
use Rattle.dup_defs.specs.declared.types.line.DupRefusal.TheVariants.{Down}
use Rattle.dup_defs.specs.declared.types.line.DupLine.{DupLine}
use Rattle.dup_defs.specs.declared.types.line.DupLine.TheVariants as lines
use Rattle.dup_defs.specs.declared.types.stop.DupStop.{DupStop}
use Rattle.dup_defs.specs.declared.types.stop.DupStop.TheVariants as stop_kinds
use Rattle.dup_defs.specs.declared.types.stop.DupEnd.TheVariants as ends
use Rattle.dup_defs.specs.Senders.{is_up}
use Rattle.dup_defs.specs.dup_run_defs.Run.{items_of, refused, where_up, DupRun, DupOutcome, goes_on, counts_spent, new_run, span}
use Rattle.dup_defs.specs.dup_run_defs.Steps.{DupStep, passes, stops, step_of, printed_first, ◌and◌, for_each, is_empty, round, rounds, drains, work, steps}
use Rattle.dup_bearer.specs.Bearers.{BearerState, with_run, IsOutcome}
use Rattle.dup_bearer.specs.declared.fault.DupFault.{DupFault}
use Rattle.dup_bearer.specs.declared.fault.DupFault.TheVariants as faults
use Rattle.dup.specs.declared.run.drain.Part.{Part}
use Rattle.dup.specs.declared.run.drain.Part.TheVariants.{Carries, Confirms}
use Rattle.dup.specs.run.inside.Views.{IsStep, outcome_by}
use Rattle.dup.specs.run.inside.Loops.{times, step_by, items_by, all_by}

-- ---- one after another

pub first_none : (d : DupStep) → printed_first [] d ≡ d
first_none (passes printed after) = refl
first_none (stops printed end) = refl

pub first_both : (xs ys : List DupLine) (d : DupStep) → printed_first (xs ++ ys) d ≡ printed_first xs (printed_first ys d)
first_both xs ys (passes printed after) = ap (λ (ls : List DupLine). passes ls after) (append_assoc xs ys printed)
first_both xs ys (stops printed end) = ap (λ (ls : List DupLine). stops ls end) (append_assoc xs ys printed)

-- earlier lines, a step that went on, and what comes after it
pub goes_then : (lines printed : List DupLine) (d : DupStep) (after : DupRun) (more : DupRun → DupStep) → printed_first lines d ≡ passes printed after
    → printed_first lines (d and more) ≡ printed_first printed (more after)
goes_then lines printed (passes front s) after more is =
    let front_is : lines ++ front ≡ printed = cc in
    let after_is : s ≡ after = cc in
    sym (first_both lines front (more s))
    ∙ (ap (λ (ls : List DupLine). printed_first ls (more s)) front_is ∙ ap (λ (t : DupRun). printed_first printed (more t)) after_is)
goes_then lines printed (stops front end) after more is = absurd (cc)

-- earlier lines, and a step that ended
pub ends_then : (lines : List DupLine) (d : DupStep) (run after : DupRun) (more : DupRun → DupStep) (why : DupStop)
    → IsStep (printed_first lines d) run (Err why) → IsStep (printed_first lines (d and more)) after (Err why)
ends_then lines (stops front end) run after more (stop_kinds.Outstanding far window printed) is = is
ends_then lines (stops front end) run after more (stop_kinds.CountsSpent printed) is = is
ends_then lines (stops front end) run after more stop_kinds.Memory is = tt
ends_then lines (passes front s) run after more (stop_kinds.Outstanding far window printed) is = absurd (cc)
ends_then lines (passes front s) run after more (stop_kinds.CountsSpent printed) is = absurd (cc)
ends_then lines (passes front s) run after more stop_kinds.Memory is = tt

-- the same without earlier lines
pub goes_on_then : (printed : List DupLine) (d : DupStep) (after : DupRun) (more : DupRun → DupStep) → d ≡ passes printed after
    → (d and more) ≡ printed_first printed (more after)
goes_on_then printed d after more is = ap (λ (e : DupStep). e and more) is

-- ---- for each item

pub each_is : {X : Type 0} (step : DupRun → DupStep) (xs : List X) (s : DupRun) → for_each step xs s ≡ times step (length xs) s
each_is step [] s = refl
each_is step (x ∷ xs) s = after (step s) (λ t. each_is step xs t)
  where
    after : (d : DupStep) → ((t : DupRun) → for_each step xs t ≡ times step (length xs) t) → (d and for_each step xs) ≡ (d and times step (length xs))
    after (passes printed t) later = ap (printed_first printed) (later t)
    after (stops printed end) later = refl

pub all_is : (b : BearerState) (part : Part) (leg : Leg) → all_by b part leg ≡ times (step_by b.sn b.quota part leg) (items_by part leg b.run) b.run
all_is b Carries leg = each_is (step_by b.sn b.quota Carries leg) (items_of leg b.run).coming b.run
all_is b Confirms leg = each_is (step_by b.sn b.quota Confirms leg) (items_of leg b.run).carried b.run

pub times_more : (step : DupRun → DupStep) (n m : ℕ) (s : DupRun) → suc m ≡ n → times step n s ≡ (step s and times step m)
times_more step n m s is = ap (λ k. times step k s) (sym is)

pub times_none : (step : DupRun → DupStep) (n : ℕ) (s : DupRun) → n ≡ 0 → times step n s ≡ passes [] s
times_none step n s is = ap (λ k. times step k s) is

-- ---- round after round

module _ (sn : SnBits) (quota : ℕ) where
  pub rounds_more : (n m : ℕ) (s : DupRun) → suc m ≡ n → is_empty sn quota s ≡ false → rounds sn quota n s ≡ (round sn quota s and rounds sn quota m)
  rounds_more n m s is some =
      ap (λ k. rounds sn quota k s) (sym is) ∙ ap (λ b. cond b (passes [] s) (round sn quota s and rounds sn quota m)) some

-- ---- a loop: earlier lines, and what is left, are the whole

module _ (front : List DupLine) (left whole : DupStep) where
  pub left_goes : (printed : List DupLine) (d : DupStep) (after : DupRun) (more : DupRun → DupStep) → printed_first front left ≡ whole → left ≡ (d and more)
      → printed_first front d ≡ passes printed after → printed_first printed (more after) ≡ whole
  left_goes printed d after more all is passed =
      sym (goes_then front printed d after more passed) ∙ (ap (printed_first front) (sym is) ∙ all)

  pub left_ends : (d : DupStep) (after : DupRun) (more : DupRun → DupStep) (why : DupStop) → printed_first front left ≡ whole → left ≡ (d and more)
      → IsStep (printed_first front d) after (Err why) → IsStep whole after (Err why)
  left_ends d after more why all is ended =
      subst (λ (s : DupStep). IsStep s after (Err why)) (ap (printed_first front) (sym is) ∙ all) (ends_then front d after after more why ended)

  pub left_none : (run : DupRun) → printed_first front left ≡ whole → left ≡ passes [] run → whole ≡ passes front run
  left_none run all is = sym all ∙ (ap (printed_first front) is ∙ ap (λ (ls : List DupLine). passes ls run) (append-nil front))

-- steps that are joined pass alone where the last of them did
pub joined_same : (front : List DupLine) (step result : Result (List DupLine) DupStop) (P : Type 0)
    → ((s : DupStep) (run : DupRun) → IsStep s run step → IsStep (printed_first front s) run result) → IfOk step (λ _. P) → IfOk result (λ _. P)
joined_same front step (Err why) P joins same = tt
joined_same front (Ok more) (Ok all) P joins same = same
joined_same front (Err (stop_kinds.Outstanding far window more)) (Ok all) P joins same =
    let passed = joins (stops more (ends.Outstanding far window)) new_run refl in absurd (cc)
joined_same front (Err (stop_kinds.CountsSpent more)) (Ok all) P joins same =
    let passed = joins (stops more ends.CountsSpent) new_run refl in absurd (cc)
joined_same front (Err stop_kinds.Memory) (Ok all) P joins same =
    let passed = joins (stops [] ends.CountsSpent) new_run tt in absurd (cc)

-- ---- a step of the code, and what comes after it

module _ (old one two : BearerState) (step result : Result (List DupLine) DupStop) where
  pub then_is : (printed : List DupLine) (d : DupStep) (more : SnBits → ℕ → DupRun → DupStep) → d ≡ passes printed one.run → one ≡ with_run old one.run
      → IsStep (more one.sn one.quota one.run) two.run step → ((s : DupStep) (run : DupRun) → IsStep s run step → IsStep (printed_first printed s) run result)
      → IsStep (d and more old.sn old.quota) two.run result
  then_is printed d more is same next joins =
      subst (λ (s : DupStep). IsStep s two.run result) (sym (goes_on_then printed d one.run (more old.sn old.quota) is))
      (subst (λ (v : BearerState). IsStep (printed_first printed (more v.sn v.quota one.run)) two.run result) same (joins (more one.sn one.quota one.run) two.run next))

  pub then_same : (printed : List DupLine) → one ≡ with_run old one.run → IfOk step (λ _. two ≡ with_run one two.run)
      → ((s : DupStep) (run : DupRun) → IsStep s run step → IsStep (printed_first printed s) run result) → IfOk result (λ _. two ≡ with_run old two.run)
  then_same printed same later joins =
      joined_same printed step result (two ≡ with_run old two.run) joins
      (IfOk-weaker step (λ _. two ≡ with_run one two.run) (λ _. two ≡ with_run old two.run) (λ _ e. subst (λ (v : BearerState). two ≡ with_run v two.run) same e) later)

-- ---- what an outcome is of the run

module _ (sn : SnBits) (run : DupRun) where
  -- out of memory is all that is a step of whatever outcome
  only_memory : (result : Result (List DupLine) DupStop) → ((o : DupOutcome) → IsStep (step_of sn o) run result) → (d : DupStep) → IsStep d run result
  only_memory (Ok printed) all d = let spent = all counts_spent in absurd (cc)
  only_memory (Err (stop_kinds.Outstanding far window printed)) all d = let spent = all counts_spent in absurd (cc)
  only_memory (Err (stop_kinds.CountsSpent printed)) all d = by (nat_lt (half sn) (span run)) (all (goes_on [] run))
    where
      by : (b : Bool)
          → cond b (stops (lines.Outstanding (span run) (half sn) ∷ []) (ends.Outstanding (span run) (half sn))) (passes [] run) ≡ stops printed ends.CountsSpent
          → IsStep d run (Err (stop_kinds.CountsSpent printed))
      by true is = absurd (cc)
      by false is = absurd (cc)
  only_memory (Err stop_kinds.Memory) all d = tt

  pub outcome_same : (outcome : Result (List DupLine) DupFault) (result : Result (List DupLine) DupStop) (P : Type 0)
      → ((o : DupOutcome) → IsOutcome o run outcome → IsStep (step_of sn o) run result) → IfOk outcome (λ _. P) → IfOk result (λ _. P)
  outcome_same outcome (Err why) P all same = tt
  outcome_same (Ok printed) (Ok after) P all same = same
  outcome_same (Err faults.CountsSpent) (Ok after) P all same = let spent = all counts_spent refl in absurd (cc)
  outcome_same (Err faults.Memory) (Ok after) P all same = let spent = all counts_spent tt in absurd (cc)

-- a step for the length of numbers that the bearer had
pub step_is : (old new : BearerState) (o : DupOutcome) (outcome : Result (List DupLine) DupFault) (result : Result (List DupLine) DupStop)
    → ((p : DupOutcome) → IsOutcome p new.run outcome → IsStep (step_of new.sn p) new.run result) → IsOutcome o new.run outcome
    → IfOk outcome (λ _. new ≡ with_run old new.run) → IsStep (step_of old.sn o) new.run result
step_is old new o (Ok printed) result all is same =
    subst (λ (v : BearerState). IsStep (step_of v.sn o) new.run result) same (all o is)
step_is old new o (Err faults.CountsSpent) result all is same =
    subst (λ (p : DupOutcome). IsStep (step_of old.sn p) new.run result) (sym is) (all counts_spent refl)
step_is old new o (Err faults.Memory) result all is same = only_memory new.sn new.run result (λ p. all p tt) (step_of old.sn o)

-- ---- an event

pub refused_where_down : (leg : Leg) (s : DupRun) (does : DupOutcome) → is_up s.entity leg ≡ false → refused Down s ≡ where_up leg s does
refused_where_down leg s does is = sym (ap (λ b. cond b does (refused Down s)) is)

pub steps_are : (b : BearerState) (event : DupEvent) → (event ≡ events.Drain → ⊥) → step_of b.sn (outcome_by b event) ≡ steps b.sn b.quota event b.run
unfolding steps
steps_are b (events.Offer packet) other = refl
steps_are b (events.Carry leg) other = refl
steps_are b (events.Confirm leg) other = refl
steps_are b (events.Fail leg) other = refl
steps_are b (events.Mend leg) other = refl
steps_are b (events.SetMode mode) other = refl
steps_are b events.Drain other = absurd (other refl)
steps_are b events.Ask other = refl

-- ---- one step of the code

pub one_step : (old new b : BearerState) (o : DupOutcome) (outcome r : Result (List DupLine) DupFault) (result : Result (List DupLine) DupStop) → new ≡ b → outcome ≡ r
    → IsOutcome o b.run r → IfOk r (λ _. b ≡ with_run old b.run) → ((p : DupOutcome) → IsOutcome p new.run outcome → IsStep (step_of new.sn p) new.run result)
    → IsStep (step_of old.sn o) new.run result × IfOk result (λ _. new ≡ with_run old new.run)
one_step old new b o outcome r result new_is outcome_is is same all =
    let here = subst (λ (v : BearerState). IsOutcome o v.run outcome) (sym new_is) (subst (λ (x : Result (List DupLine) DupFault). IsOutcome o b.run x) (sym outcome_is) is) in
    let kept = subst (λ (v : BearerState). IfOk outcome (λ _. v ≡ with_run old v.run)) (sym new_is)
    (subst (λ (x : Result (List DupLine) DupFault). IfOk x (λ _. b ≡ with_run old b.run)) (sym outcome_is) same) in
    (step_is old new o outcome result all here kept, outcome_same new.sn new.run outcome result (new ≡ with_run old new.run) all kept)

-- ---- a step for each item

module _ (old : BearerState) (part : Part) (leg : Leg) where
  abbrev one_by : DupRun → DupStep
  one_by s = step_by old.sn old.quota part leg s

  -- a step of a bearer with the same numbers and quota
  own : (front : List DupLine) (b : BearerState) (run : DupRun) (r : Result (List DupLine) DupStop) → b ≡ with_run old b.run
      → IsStep (printed_first front (step_by b.sn b.quota part leg b.run)) run r → IsStep (printed_first front (one_by b.run)) run r
  own front b run r same is = subst (λ (v : BearerState). IsStep (printed_first front (step_by v.sn v.quota part leg b.run)) run r) same is

  pub all_start : (start : List DupLine) (count : ℕ) → start ≡ [] → count ≡ items_by part leg old.run → printed_first start (times one_by count old.run) ≡ all_by old part leg
  all_start start count none is =
      ap (λ (ls : List DupLine). printed_first ls (times one_by count old.run)) none
      ∙ (first_none (times one_by count old.run) ∙ (ap (λ n. times one_by n old.run) is ∙ sym (all_is old part leg)))

  module _ (front : List DupLine) (left : ℕ) (b after : BearerState) (whole : DupStep) where
    pub all_ends : (why : DupStop) → 0 < left → b ≡ with_run old b.run → printed_first front (times one_by left b.run) ≡ whole
        → IsStep (printed_first front (step_by b.sn b.quota part leg b.run)) after.run (Err why) → IsStep whole after.run (Err why)
    all_ends why some same all ended =
        left_ends front (times one_by left b.run) whole (one_by b.run) after.run (times one_by (left - 1)) why all
        (times_more one_by left (left - 1) b.run (omega arith)) (own front b after.run (Err why) same ended)

    pub all_goes : (printed : List DupLine) → 0 < left → b ≡ with_run old b.run → printed_first front (times one_by left b.run) ≡ whole
        → printed_first front (step_by b.sn b.quota part leg b.run) ≡ passes printed after.run → printed_first printed (times one_by (left - 1) after.run) ≡ whole
    all_goes printed some same all passed =
        left_goes front (times one_by left b.run) whole printed (one_by b.run) after.run (times one_by (left - 1)) all
        (times_more one_by left (left - 1) b.run (omega arith)) (own front b after.run (Ok printed) same passed)

-- ---- round after round, in the code

module _ (old : BearerState) where
  own_round : (front : List DupLine) (b : BearerState) (run : DupRun) (r : Result (List DupLine) DupStop) → b ≡ with_run old b.run
      → IsStep (printed_first front (round b.sn b.quota b.run)) run r → IsStep (printed_first front (round old.sn old.quota b.run)) run r
  own_round front b run r same is = subst (λ (v : BearerState). IsStep (printed_first front (round v.sn v.quota b.run)) run r) same is

  pub drain_start : (start : List DupLine) (count : ℕ) → start ≡ [] → count ≡ work old.sn old.quota old.run
      → printed_first start (rounds old.sn old.quota count old.run) ≡ drains old.sn old.quota old.run
  unfolding drains
  drain_start start count none is =
      ap (λ (ls : List DupLine). printed_first ls (rounds old.sn old.quota count old.run)) none
      ∙ (first_none (rounds old.sn old.quota count old.run) ∙ ap (λ n. rounds old.sn old.quota n old.run) is)

  module _ (front : List DupLine) (left : ℕ) (b after : BearerState) (whole : DupStep) where
    pub drain_ends : (why : DupStop) → 0 < left → is_empty old.sn old.quota b.run ≡ false → b ≡ with_run old b.run
        → printed_first front (rounds old.sn old.quota left b.run) ≡ whole
        → IsStep (printed_first front (round b.sn b.quota b.run)) after.run (Err why) → IsStep whole after.run (Err why)
    drain_ends why more some same all ended =
        left_ends front (rounds old.sn old.quota left b.run) whole (round old.sn old.quota b.run) after.run (rounds old.sn old.quota (left - 1)) why all
        (rounds_more old.sn old.quota left (left - 1) b.run (omega arith) some) (own_round front b after.run (Err why) same ended)

    pub drain_goes : (printed : List DupLine) → 0 < left → is_empty old.sn old.quota b.run ≡ false → b ≡ with_run old b.run
        → printed_first front (rounds old.sn old.quota left b.run) ≡ whole
        → printed_first front (round b.sn b.quota b.run) ≡ passes printed after.run → printed_first printed (rounds old.sn old.quota (left - 1) after.run) ≡ whole
    drain_goes printed more some same all passed =
        left_goes front (rounds old.sn old.quota left b.run) whole printed (round old.sn old.quota b.run) after.run (rounds old.sn old.quota (left - 1)) all
        (rounds_more old.sn old.quota left (left - 1) b.run (omega arith) some) (own_round front b after.run (Ok printed) same passed)

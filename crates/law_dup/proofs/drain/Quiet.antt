-- After a drain nothing is under way, and all was delivered.
use Rattle.std.proofs.Common.{◌≡◌, ◌==◌, ℕ, zero, suc, ◌+◌, ◌<◌, ◌≤◌, Bool, true, false, cond, ◌&&◌, nat_lt, List, [], ◌∷◌, ◌++◌, length, map, drop, Option, Some, None, refl, sym, ap, ◌∙◌, subst, arith}
use Rattle.std.proofs.lemmas.Bool.Decides.{nat_tests}
use borrow.Author.Tests.{eqb-true}
use Rattle.gnb_types.specs.declared.names.SnBits.{SnBits}
use Rattle.gnb_types.specs.declared.names.SnBits.TheVariants.{Len12, Len18}
use Rattle.pdcp.specs.Numbers.{half}
use Rattle.pdcp_defs.specs.Senders.{window}
use Rattle.pdcp_defs.specs.Receivers.{Receiver}
use Rattle.dup_defs.specs.declared.types.leg.Leg.{Leg}
use Rattle.dup_defs.specs.declared.types.leg.Leg.TheVariants as legs
use Rattle.dup_defs.specs.declared.types.event.DupEvent.{DupEvent}
use Rattle.dup_defs.specs.declared.types.event.DupEvent.TheVariants as events
use Rattle.dup_defs.specs.declared.types.line.DupLine.{DupLine}
use Rattle.dup_defs.specs.declared.types.line.DupLine.TheVariants as lines
use Rattle.dup_defs.specs.declared.types.stop.DupEnd.{DupEnd}
use Rattle.dup_defs.specs.declared.types.stop.DupEnd.TheVariants as ends
use Rattle.dup_defs.specs.Senders.{serves, in_mode}
use Rattle.dup_defs.specs.dup_run_defs.Run.{LegItems, DupRun, size_of, holds_nothing, is_quiet, outstanding, span_from, span}
use Rattle.dup_defs.specs.dup_run_defs.Steps.{DupStep, passes, stops, printed_first, ◌and◌, turn, round, is_empty, rounds, work, drains, steps, script_of}
use Rattle.law_dup.specs.events.Counted.{AreCounted}
use Rattle.law_dup.specs.Scripts.{accepted}
use Rattle.law_dup.specs.events.Kept.{WaitsFull, IsCarried, IsLeg, KeepsLeg, IsKept, AreNear}
use Rattle.law_dup.proofs.events.Lists.{counted_one}
use Rattle.law_dup.proofs.Steps.{StepGood, round_good, drain_good}
use Rattle.law_dup.proofs.drain.Draining.{LessThen, and_less, turn_no_more, turn_less, turn_nothing}
use Rattle.law_dup.proofs.Scripts.{script_good, IsGood, Goes}

module _ (sn : SnBits) (quota : ℕ) (packets : List (List ℕ)) where
  -- a leg that holds something is up
  up_where : (r : Receiver (List ℕ)) (low next : ℕ) (b u : Bool) (items : LegItems) → KeepsLeg r low next (b && u) items → 1 ≤ size_of items → u ≡ true
  up_where r low next true true items keeps some = refl
  up_where r low next false true items keeps some = refl
  up_where r low next true false items keeps some = absurd (nothing items keeps some)
    where
      nothing : (i : LegItems) → (i.carried ≡ []) × (i.coming ≡ []) → 1 ≤ size_of i → ⊥
      nothing i keeps some =
          let a : length i.carried ≡ 0 = ap (λ (x : List ℕ). length x) keeps.0 in
          let b : length i.coming ≡ 0 = ap (λ (x : List (ℕ × List ℕ)). length x) keeps.1 in
          absurd (omega (arith, a, b, some))
  up_where r low next false false items keeps some = absurd (nothing items keeps some)
    where
      nothing : (i : LegItems) → (i.carried ≡ []) × (i.coming ≡ []) → 1 ≤ size_of i → ⊥
      nothing i keeps some =
          let a : length i.carried ≡ 0 = ap (λ (x : List ℕ). length x) keeps.0 in
          let b : length i.coming ≡ 0 = ap (λ (x : List (ℕ × List ℕ)). length x) keeps.1 in
          absurd (omega (arith, a, b, some))

  module _ (s : DupRun) (kept : IsKept sn quota packets s) where
    first_up : 1 ≤ size_of s.first → s.entity.first_up ≡ true
    first_up some = up_where s.receiver kept.base.low s.entity.sender.next (in_mode s.entity.mode legs.First) s.entity.first_up s.first kept.base.first some

    second_up : 1 ≤ size_of s.second → s.entity.second_up ≡ true
    second_up some = up_where s.receiver kept.base.low s.entity.sender.next (in_mode s.entity.mode legs.Second) s.entity.second_up s.second kept.base.second some

    -- a round leaves less to do
    round_less : is_empty sn quota s ≡ false → LessThen sn quota 2 (work sn quota s) (round sn quota s)
    round_less some = by (size_of s.first == 0) (size_of s.second == 0) refl refl some
      where
        by : (a b : Bool) → (size_of s.first == 0) ≡ a → (size_of s.second == 0) ≡ b → (a && b) ≡ false → LessThen sn quota 2 (work sn quota s) (round sn quota s)
        by true true is_a is_b some = cc
        by false b is_a is_b some =
            let more : 1 ≤ size_of s.first = grind (arith, nat_tests) in
            and_less sn quota 2 0 (work sn quota s) (turn sn quota legs.First s) (turn sn quota legs.Second) (turn_less sn quota legs.First s (first_up more) more)
            (turn_no_more sn quota legs.Second)
        by true false is_a is_b some =
            let none : size_of s.first ≡ 0 = eqb-true (size_of s.first) 0 is_a in
            let more : 1 ≤ size_of s.second = grind (arith, nat_tests) in
            subst (λ (a : DupStep). LessThen sn quota 2 (work sn quota s) (a and turn sn quota legs.Second)) (sym (turn_nothing sn quota legs.First s none))
            (then_ (turn sn quota legs.Second s) (turn_less sn quota legs.Second s (second_up more) more))
          where
            then_ : (b : DupStep) → LessThen sn quota 2 (work sn quota s) b → LessThen sn quota 2 (work sn quota s) (printed_first [] b)
            then_ (stops again end) l = tt
            then_ (passes again t) l = l

  -- ---- all rounds

  abbrev pub EmptyThen : DupStep → Type 0
  EmptyThen (passes printed s) = is_empty sn quota s ≡ true
  EmptyThen (stops printed end) = Unit {0}

  pub empty_then : (n : ℕ) (s : DupRun) → IsKept sn quota packets s → AreNear sn s → work sn quota s ≤ n → EmptyThen (rounds sn quota n s)
  empty_then zero s kept near less = by (size_of s.first == 0) (size_of s.second == 0) refl refl
    where
      by : (a b : Bool) → (size_of s.first == 0) ≡ a → (size_of s.second == 0) ≡ b → (a && b) ≡ true
      by true true is_a is_b = refl
      by false b is_a is_b = let more : 1 ≤ size_of s.first = grind (arith, nat_tests) in absurd (omega (arith, less, more))
      by true false is_a is_b = let more : 1 ≤ size_of s.second = grind (arith, nat_tests) in absurd (omega (arith, less, more))
  empty_then (suc n) s kept near less =
      by (is_empty sn quota s) refl
      (λ some. after (λ u kept_then near_then less_then. empty_then n u kept_then near_then less_then) (round sn quota s) (round_good sn quota packets s kept near)
      (round_less s kept some))
    where
      chain : (printed : List DupLine) (b : DupStep) → EmptyThen b → EmptyThen (printed_first printed b)
      chain printed (passes again t) is = is
      chain printed (stops again end) is = tt

      after : ((u : DupRun) → IsKept sn quota packets u → AreNear sn u → work sn quota u ≤ n → EmptyThen (rounds sn quota n u))
          → (a : DupStep) → StepGood sn quota packets s.receiver.deliv a → LessThen sn quota 2 (work sn quota s) a → EmptyThen (a and rounds sn quota n)
      after again (stops printed end) good l = tt
      after again (passes printed u) good l = chain printed (rounds sn quota n u) (again u good.0 good.1 (omega (arith, less, l)))

      by : (b : Bool) → is_empty sn quota s ≡ b → (is_empty sn quota s ≡ false → EmptyThen (round sn quota s and rounds sn quota n))
          → EmptyThen (cond b (passes [] s) (round sn quota s and rounds sn quota n))
      by true is rest = is
      by false is rest = rest is

  -- ---- a run whose legs hold nothing, and one of which serves

  nothing_on : (items : LegItems) → holds_nothing items ≡ true → (items.carried ≡ []) × (items.coming ≡ [])
  nothing_on items is =
      let none = eqb-true (size_of items) 0 is in
      (no_counts items.carried (omega (arith, none)), no_items items.coming (omega (arith, none)))
    where
      no_counts : (cs : List ℕ) → length cs ≡ 0 → cs ≡ []
      no_counts [] is = refl
      no_counts (c ∷ cs) is = absurd (omega (arith, is))

      no_items : (es : List (ℕ × List ℕ)) → length es ≡ 0 → es ≡ []
      no_items [] is = refl
      no_items (e ∷ es) is = absurd (omega (arith, is))

  -- all that was numbered is confirmed
  all_confirmed : (r : Receiver (List ℕ)) (low next : ℕ) (items : LegItems) → low ≤ next → (items.carried ≡ []) × (items.coming ≡ []) → IsLeg r low next items → low ≡ next
  all_confirmed r low next items up none leg =
      let carried : leg.high ≤ low = subst (λ (cs : List ℕ). IsCarried low leg.high cs) none.0 leg.carried in
      let coming : leg.high ≡ next = subst (λ (es : List (ℕ × List ℕ)). AreCounted leg.high next es) none.1 leg.coming in
      omega (arith, up, carried, coming)

  none_counted : (n : ℕ) (es : List (ℕ × List ℕ)) → AreCounted n n es → es ≡ []
  none_counted n [] is = refl
  none_counted n (e ∷ es) is = let l = counted_one n n e es is in absurd (omega (arith, l))

  window_some : (t : SnBits) → 1 ≤ quota → 1 ≤ window t quota
  window_some Len12 some = omega (arith, some)
  window_some Len18 some = omega (arith, some)

  none_wait : (full next : ℕ) (ws : List (List ℕ)) → next < full → WaitsFull full next ws → ws ≡ []
  none_wait full next [] l is = refl
  none_wait full next (w ∷ ws) l is = let same : next ≡ full = is in absurd (omega (arith, l, same))

  drop_none : {X : Type 0} (n : ℕ) (xs : List X) → drop n xs ≡ [] → length xs ≤ n
  drop_none n [] is = omega arith
  drop_none zero (x ∷ xs) is = cc
  drop_none (suc n) (x ∷ xs) is = let l = drop_none n xs is in omega (arith, l)

  and_first : (a b : Bool) → (a && b) ≡ true → a ≡ true
  and_first true b is = refl
  and_first false b is = cc

  and_second : (a b : Bool) → (a && b) ≡ true → b ≡ true
  and_second true b is = is
  and_second false b is = cc

  module _ (t : DupRun) (kept : IsKept sn quota packets t) (empty : is_empty sn quota t ≡ true) (some : 1 ≤ quota) where
    first_none : (t.first.carried ≡ []) × (t.first.coming ≡ [])
    first_none = nothing_on t.first (and_first (holds_nothing t.first) (holds_nothing t.second) empty)

    second_none : (t.second.carried ≡ []) × (t.second.coming ≡ [])
    second_none = nothing_on t.second (and_second (holds_nothing t.first) (holds_nothing t.second) empty)

    all_low : (leg : Leg) → serves t.entity leg ≡ true → kept.base.low ≡ t.entity.sender.next
    all_low legs.First serving =
        let confirmed = kept.base.confirmed in
        let given = kept.base.given in
        all_confirmed t.receiver kept.base.low t.entity.sender.next t.first (omega (arith, confirmed, given)) first_none
        (subst (λ (b : Bool). KeepsLeg t.receiver kept.base.low t.entity.sender.next b t.first) serving kept.base.first)
    all_low legs.Second serving =
        let confirmed = kept.base.confirmed in
        let given = kept.base.given in
        all_confirmed t.receiver kept.base.low t.entity.sender.next t.second (omega (arith, confirmed, given)) second_none
        (subst (λ (b : Bool). KeepsLeg t.receiver kept.base.low t.entity.sender.next b t.second) serving kept.base.second)

    module _ (leg : Leg) (serving : serves t.entity leg ≡ true) where
      none_held : t.entity.sender.unconfirmed ≡ []
      none_held =
          none_counted t.entity.sender.next t.entity.sender.unconfirmed
          (subst (λ (n : ℕ). AreCounted n t.entity.sender.next t.entity.sender.unconfirmed) (all_low leg serving) kept.base.unconfirmed)

      none_waiting : t.entity.waiting ≡ []
      none_waiting =
          let low = all_low leg serving in
          let more = window_some sn some in
          none_wait (kept.base.low + window sn quota) t.entity.sender.next t.entity.waiting (omega (arith, low, more)) kept.full

      all_given : t.receiver.deliv ≡ t.entity.sender.next
      all_given =
          let low = all_low leg serving in
          let confirmed = kept.base.confirmed in
          let given = kept.base.given in
          omega (arith, low, confirmed, given)

      pub all_delivered : t.receiver.deliv ≡ length packets
      all_delivered =
          let most = drop_none t.entity.sender.next packets (kept.base.waiting ∙ none_waiting) in
          let least = kept.base.numbered in
          let given = all_given in
          omega (arith, most, least, given)

      quiet_now : is_quiet t ≡ true
      quiet_now =
          ap (λ (es : List (ℕ × List ℕ)). (length es + length t.entity.waiting == 0) && holds_nothing t.first && holds_nothing t.second) none_held
          ∙ (ap (λ (ws : List (List ℕ)). (0 + length ws == 0) && holds_nothing t.first && holds_nothing t.second) none_waiting ∙ empty)

      not_under : (a b : ℕ) → a ≡ b → nat_lt a b ≡ false
      not_under a b same = grind (arith, nat_tests)

      none_outstanding : outstanding t ≡ []
      none_outstanding =
          ap (λ (b : Bool). cond b (t.receiver.deliv ∷ []) [] ++ (t.first.carried ++ map (λ e. e.0) t.first.coming) ++ (t.second.carried ++ map (λ e. e.0) t.second.coming))
          (not_under t.receiver.deliv t.entity.sender.next all_given)
          ∙ (ap (λ (cs : List ℕ). (cs ++ map (λ e. e.0) t.first.coming) ++ (t.second.carried ++ map (λ e. e.0) t.second.coming)) first_none.0
          ∙ (ap (λ (es : List (ℕ × List ℕ)). map (λ e. e.0) es ++ (t.second.carried ++ map (λ e. e.0) t.second.coming)) first_none.1
          ∙ (ap (λ (cs : List ℕ). cs ++ map (λ e. e.0) t.second.coming) second_none.0 ∙ ap (λ (es : List (ℕ × List ℕ)). map (λ e. e.0) es) second_none.1)))

      nothing_outstanding : span t ≡ 0
      unfolding span
      nothing_outstanding = ap (span_from t.entity.sender.next) none_outstanding

      within : nat_lt (half sn) (span t) ≡ false
      within = let none = nothing_outstanding in grind (arith, nat_tests)

      pub asks_quiet : steps sn quota events.Ask t ≡ passes (lines.Quiet (length packets) ∷ []) t
      unfolding steps
      asks_quiet =
          ap (λ (b : Bool). cond b (stops (cond (is_quiet t) (lines.Quiet t.receiver.deliv) lines.Busy ∷ lines.Outstanding (span t) (half sn) ∷ []) (ends.Outstanding (span t) (half sn)))
          (passes (cond (is_quiet t) (lines.Quiet t.receiver.deliv) lines.Busy ∷ []) t)) within
          ∙ (ap (λ (b : Bool). passes (cond b (lines.Quiet t.receiver.deliv) lines.Busy ∷ []) t) quiet_now
          ∙ ap (λ (n : ℕ). passes (lines.Quiet n ∷ []) t) all_delivered)

-- a drain of a script that goes on
module _ (sn : SnBits) (quota : ℕ) (some : 1 ≤ quota) (script : List DupEvent) (going : (script_of sn quota script).ended ≡ None) where
  abbrev packets : List (List ℕ)
  packets = accepted (script_of sn quota script)

  abbrev now : DupRun
  now = (script_of sn quota script).now

  kept_now : IsKept sn quota packets now × AreNear sn now
  kept_now = by (script_of sn quota script).ended going good.goes
    where
      good : IsGood sn quota (script_of sn quota script)
      good = script_good sn quota script

      by : (o : Option DupEnd) → o ≡ None → Goes sn quota (script_of sn quota script) good.end o → IsKept sn quota packets now × AreNear sn now
      by None is goes = (goes.0, goes.1)
      by (Some end) is goes = cc

  pub quiet_after : (printed : List DupLine) (after : DupRun) → drains sn quota now ≡ passes printed after → (leg : Leg) → serves after.entity leg ≡ true
      → steps sn quota events.Ask after ≡ passes (lines.Quiet (length packets) ∷ []) after
  unfolding drains
  quiet_after printed after is leg serving =
      let good = subst (λ (a : DupStep). StepGood sn quota packets now.receiver.deliv a) is (drain_good sn quota packets now kept_now.0 kept_now.1) in
      let empty = subst (λ (a : DupStep). EmptyThen sn quota packets a) is (empty_then sn quota packets (work sn quota now) now kept_now.0 kept_now.1 (omega arith)) in
      asks_quiet sn quota packets after good.0 empty some leg serving

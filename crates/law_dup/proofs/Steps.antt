-- Steps one after another: each keeps the run, and what they deliver goes on where the one before ended.
use Rattle.std.proofs.Common.{◌≡◌, ℕ, zero, suc, ◌+◌, ◌-◌, ◌≤◌, Bool, true, false, cond, nat_lt, List, [], ◌∷◌, ◌++◌, length, map, refl, sym, ap, ◌∙◌, subst, arith, append-nil}
use Rattle.std.specs.Prelude.{fold, min}
use Rattle.std.specs.List.{AllByRecursion}
use Rattle.std.proofs.lemmas.Bool.Decides.{nat_tests}
use Rattle.gnb_types.specs.declared.names.SnBits.{SnBits}
use Rattle.pdcp.specs.Numbers.{half}
use Rattle.pdcp.specs.declared.pdu.TheConstants.{PACKET_LIMIT}
use Rattle.dup_defs.specs.declared.types.leg.Leg.{Leg}
use Rattle.dup_defs.specs.declared.types.leg.Leg.TheVariants as legs
use Rattle.dup_defs.specs.declared.types.event.DupEvent.{DupEvent}
use Rattle.dup_defs.specs.declared.types.event.DupEvent.TheVariants as events
use Rattle.dup_defs.specs.declared.types.line.DupLine.{DupLine}
use Rattle.dup_defs.specs.declared.types.line.DupLine.TheVariants as lines
use Rattle.dup_defs.specs.declared.types.line.DupRefusal.{DupRefusal}
use Rattle.dup_defs.specs.declared.types.line.DupRefusal.TheVariants as refusals
use Rattle.dup_defs.specs.declared.types.stop.DupEnd.TheVariants as ends
use Rattle.dup_defs.specs.Senders.{DupPut, DupNumbers, gives, spends, is_up, is_full, offered}
use Rattle.dup_defs.specs.dup_run_defs.Run.{DupRun, DupOutcome, goes_on, counts_spent, items_of, with_puts, put_line, puts_out, refused, offers, carry, confirm, where_up, fails, mends, changes_mode, asked, counts_on, undelivered, outstanding, span_from, span}
use Rattle.dup_defs.specs.dup_run_defs.Steps.{DupStep, passes, stops, step_of, printed_first, ◌and◌, for_each, carry_all, confirm_all, turn, round, is_empty, rounds, work, drains, steps}
use Rattle.law_dup.specs.events.Counted.{AreOf, AreCounted, delivered_in}
use Rattle.law_dup.specs.Scripts.{is_refused, unless_refused, offered_in, accepted_in}
use Rattle.law_dup.specs.events.Kept.{IsKept, AreNear}
use Rattle.law_dup.proofs.events.Lists.{of_added, counted_added}
use Rattle.law_dup.proofs.events.Outcomes.{Good, delivered_append, accepted_good, refused_good}
use Rattle.law_dup.proofs.events.Legs.{carry_good, confirm_good, ask_good, up_good}
use Rattle.law_dup.proofs.events.Modes.{fail_good, mend_good, mode_good}

-- ---- the least of a list

least_first : (n : ℕ) (xs : List ℕ) → fold min n xs ≤ n
least_first n [] = omega arith
least_first n (x ∷ xs) = let l = least_first (min n x) xs in omega (arith, l)

least_all : (n : ℕ) (xs : List ℕ) → AllByRecursion (λ x. fold min n xs ≤ x) xs
least_all n [] = tt
least_all n (x ∷ xs) = ((let l = least_first (min n x) xs in omega (arith, l)), least_all (min n x) xs)

all_near : (next least bound : ℕ) (xs : List ℕ) → next - least ≤ bound → AllByRecursion (λ x. least ≤ x) xs → AllByRecursion (λ x. next ≤ x + bound) xs
all_near next least bound [] l all = tt
all_near next least bound (x ∷ xs) l all = ((let h : least ≤ x = all.0 in omega (arith, l, h)), all_near next least bound xs l all.1)

span_near : (next bound : ℕ) (xs : List ℕ) → span_from next xs ≤ bound → AllByRecursion (λ x. next ≤ x + bound) xs
span_near next bound [] l = tt
span_near next bound (x ∷ xs) l =
    ((let h = least_first x xs in omega (arith, l, h)), all_near next (fold min x xs) bound xs l (least_all x xs))

all_front : (P : ℕ → Type 0) (xs ys : List ℕ) → AllByRecursion P (xs ++ ys) → AllByRecursion P xs
all_front P [] ys all = tt
all_front P (x ∷ xs) ys all = (all.0, all_front P xs ys all.1)

all_rest : (P : ℕ → Type 0) (xs ys : List ℕ) → AllByRecursion P (xs ++ ys) → AllByRecursion P ys
all_rest P [] ys all = all
all_rest P (x ∷ xs) ys all = all_rest P xs ys all.1

module _ (sn : SnBits) (quota : ℕ) where
  near_span : (s : DupRun) → span s ≤ half sn → AreNear sn s
  unfolding span
  near_span s l =
      let n = s.entity.sender.next in
      let P : ℕ → Type 0 = λ c. n ≤ c + half sn in
      let all = span_near n (half sn) (outstanding s) l in
      let front = all_front P (undelivered s ++ counts_on s.first) (counts_on s.second) all in
      record {
        first = all_front P s.first.carried (map (λ e. e.0) s.first.coming) (all_rest P (undelivered s) (counts_on s.first) front);
        second = all_front P s.second.carried (map (λ e. e.0) s.second.coming)
            (all_rest P (undelivered s ++ counts_on s.first) (counts_on s.second) all);
      }

  -- a step is good where these packets were accepted, and this COUNT was awaited before
  abbrev pub StepGood : List (List ℕ) → ℕ → DupStep → Type 0
  StepGood packets deliv (passes printed s) =
      IsKept sn quota packets s × AreNear sn s × AreCounted deliv s.receiver.deliv (delivered_in printed) × AreOf packets (delivered_in printed)
  StepGood packets deliv (stops printed end) =
      (awaited : ℕ) × AreCounted deliv awaited (delivered_in printed) × AreOf packets (delivered_in printed)

  abbrev told : DupRun → DupLine
  told s = lines.Outstanding (span s) (half sn)

  no_more : (printed : List DupLine) (s : DupRun) → delivered_in (printed ++ told s ∷ []) ≡ delivered_in printed
  no_more printed s = delivered_append printed (told s ∷ []) ∙ append-nil (delivered_in printed)

  pub step_good : (packets : List (List ℕ)) (deliv : ℕ) (o : DupOutcome) → Good sn quota packets deliv o → StepGood packets deliv (step_of sn o)
  step_good packets deliv counts_spent good = (deliv, refl, tt)
  step_good packets deliv (goes_on printed s) good = by (nat_lt (half sn) (span s)) refl
    where
      by : (b : Bool) → nat_lt (half sn) (span s) ≡ b
          → StepGood packets deliv
          (cond b (stops (printed ++ told s ∷ []) (ends.Outstanding (span s) (half sn))) (passes printed s))
      by true is = (
        s.receiver.deliv,
        subst (λ (es : List (ℕ × List ℕ)). AreCounted deliv s.receiver.deliv es) (sym (no_more printed s)) good.1,
        subst (λ (es : List (ℕ × List ℕ)). AreOf packets es) (sym (no_more printed s)) good.2,
      )
      by false is = (good.0, near_span s (grind (arith, nat_tests)), good.1, good.2)

  -- one step and then another
  pub and_good : (packets : List (List ℕ)) (deliv : ℕ) (a : DupStep) (more : DupRun → DupStep) → StepGood packets deliv a
      → ((s : DupRun) → IsKept sn quota packets s → AreNear sn s → StepGood packets s.receiver.deliv (more s)) → StepGood packets deliv (a and more)
  and_good packets deliv (stops printed end) more good next = good
  and_good packets deliv (passes printed s) more good next = by (more s) (next s good.0 good.1)
    where
      by : (b : DupStep) → StepGood packets s.receiver.deliv b → StepGood packets deliv (printed_first printed b)
      by (passes again t) then_good = (
        then_good.0,
        then_good.1,
        subst (λ (es : List (ℕ × List ℕ)). AreCounted deliv t.receiver.deliv es) (sym (delivered_append printed again))
            (counted_added deliv s.receiver.deliv t.receiver.deliv (delivered_in printed) (delivered_in again) good.2 then_good.2),
        subst (λ (es : List (ℕ × List ℕ)). AreOf packets es) (sym (delivered_append printed again))
            (of_added packets (delivered_in printed) (delivered_in again) good.3 then_good.3),
      )
      by (stops again end) then_good = (
        then_good.0,
        subst (λ (es : List (ℕ × List ℕ)). AreCounted deliv then_good.0 es) (sym (delivered_append printed again))
            (counted_added deliv s.receiver.deliv then_good.0 (delivered_in printed) (delivered_in again) good.2 then_good.1),
        subst (λ (es : List (ℕ × List ℕ)). AreOf packets es) (sym (delivered_append printed again))
            (of_added packets (delivered_in printed) (delivered_in again) good.3 then_good.2),
      )

  -- ---- draining

  module _ (packets : List (List ℕ)) where
    abbrev pub Goes : (DupRun → DupStep) → Type 0
    Goes step = (s : DupRun) → IsKept sn quota packets s → AreNear sn s → StepGood packets s.receiver.deliv (step s)

    stays : Goes (λ s. passes [] s)
    stays s kept near = (kept, near, refl, tt)

    each_good : {X : Type 0} (step : DupRun → DupStep) → Goes step → (xs : List X) → Goes (for_each step xs)
    each_good step good [] s kept near = stays s kept near
    each_good step good (x ∷ xs) s kept near =
        and_good packets s.receiver.deliv (step s) (for_each step xs) (good s kept near) (each_good step good xs)

    carries : (leg : Leg) → Goes (λ s. step_of sn (carry sn leg s))
    carries leg s kept near = step_good packets s.receiver.deliv (carry sn leg s) (carry_good sn quota packets s kept leg)

    confirms : (leg : Leg) → Goes (λ s. step_of sn (confirm sn quota leg s))
    confirms leg s kept near = step_good packets s.receiver.deliv (confirm sn quota leg s) (confirm_good sn quota packets s kept near leg)

    turn_good : (leg : Leg) → Goes (turn sn quota leg)
    turn_good leg s kept near = by (is_up s.entity leg)
      where
        by : (b : Bool) → StepGood packets s.receiver.deliv (cond b (carry_all sn quota leg s and confirm_all sn quota leg) (passes [] s))
        by true =
            and_good packets s.receiver.deliv (carry_all sn quota leg s) (confirm_all sn quota leg)
            (each_good (λ t. step_of sn (carry sn leg t)) (carries leg) (items_of leg s).coming s kept near)
            (λ t kept_then near_then. each_good (λ u. step_of sn (confirm sn quota leg u)) (confirms leg) (items_of leg t).carried t kept_then near_then)
        by false = stays s kept near

    pub round_good : Goes (round sn quota)
    round_good s kept near = and_good packets s.receiver.deliv (turn sn quota legs.First s) (turn sn quota legs.Second) (turn_good legs.First s kept near) (turn_good legs.Second)

    pub rounds_good : (n : ℕ) → Goes (rounds sn quota n)
    rounds_good zero s kept near = stays s kept near
    rounds_good (suc n) s kept near = by (is_empty sn quota s) (and_good packets s.receiver.deliv (round sn quota s) (rounds sn quota n) (round_good s kept near) (rounds_good n))
      where
        by : (b : Bool) → StepGood packets s.receiver.deliv (round sn quota s and rounds sn quota n)
            → StepGood packets s.receiver.deliv (cond b (passes [] s) (round sn quota s and rounds sn quota n))
        by true good = stays s kept near
        by false good = good

    pub drain_good : Goes (drains sn quota)
    unfolding drains
    drain_good s kept near = rounds_good (work sn quota s) s kept near

  -- ---- each event, and the packets that were accepted with it

  abbrev pub printed_of : DupStep → List DupLine
  printed_of (passes printed s) = printed
  printed_of (stops printed end) = printed

  abbrev pub now_accepted : List (List ℕ) → DupEvent → DupStep → List (List ℕ)
  now_accepted packets event step = packets ++ accepted_in (record { event = event; printed = printed_of step })

  abbrev pub EventGood : List (List ℕ) → ℕ → DupEvent → DupStep → Type 0
  EventGood packets deliv event step = StepGood (now_accepted packets event step) deliv step

  none_accepted : (packets : List (List ℕ)) (b : Bool) → packets ≡ packets ++ unless_refused b []
  none_accepted packets true = sym (append-nil packets)
  none_accepted packets false = sym (append-nil packets)

  module _ (packets : List (List ℕ)) (s : DupRun) (kept : IsKept sn quota packets s) (near : AreNear sn s) where
    -- an event that offers nothing
    other_good : (event : DupEvent) → offered_in event ≡ [] → (step : DupStep) → StepGood packets s.receiver.deliv step → EventGood packets s.receiver.deliv event step
    other_good event none step good =
        subst (λ (hs : List (List ℕ)). StepGood (packets ++ unless_refused (is_refused (printed_of step)) hs) s.receiver.deliv step) (sym none)
        (subst (λ (hs : List (List ℕ)). StepGood hs s.receiver.deliv step) (none_accepted packets (is_refused (printed_of step))) good)

    -- a packet that is refused
    refused_step : (packet : List ℕ) (reason : DupRefusal) → EventGood packets s.receiver.deliv (events.Offer packet) (step_of sn (refused reason s))
    refused_step packet reason =
        by (nat_lt (half sn) (span s)) (step_good packets s.receiver.deliv (refused reason s) (refused_good sn quota packets reason s kept))
      where
        by : (b : Bool)
            → StepGood packets s.receiver.deliv
            (cond b (stops (lines.Refused reason ∷ told s ∷ []) (ends.Outstanding (span s) (half sn))) (passes (lines.Refused reason ∷ []) s))
            → EventGood packets s.receiver.deliv (events.Offer packet)
            (cond b (stops (lines.Refused reason ∷ told s ∷ []) (ends.Outstanding (span s) (half sn))) (passes (lines.Refused reason ∷ []) s))
        by true good = subst (λ (hs : List (List ℕ)). StepGood hs s.receiver.deliv (stops (lines.Refused reason ∷ told s ∷ []) (ends.Outstanding (span s) (half sn)))) (sym (append-nil packets)) good
        by false good = subst (λ (hs : List (List ℕ)). StepGood hs s.receiver.deliv (passes (lines.Refused reason ∷ []) s)) (sym (append-nil packets)) good

    -- one that is accepted
    not_refused : (puts : List DupPut) (more : List DupLine) → is_refused more ≡ false → is_refused (map (put_line sn) puts ++ more) ≡ false
    not_refused [] more is = is
    not_refused (p ∷ ps) more is = refl

    accepted_step : (packet : List ℕ) (r : DupNumbers) → Good sn quota (packets ++ packet ∷ []) s.receiver.deliv (puts_out sn s r)
        → EventGood packets s.receiver.deliv (events.Offer packet) (step_of sn (puts_out sn s r))
    accepted_step packet spends good = step_good (packets ++ packet ∷ []) s.receiver.deliv counts_spent good
    accepted_step packet (gives puts after) good =
        by (nat_lt (half sn) (span t)) (step_good (packets ++ packet ∷ []) s.receiver.deliv (goes_on (map (put_line sn) puts) t) good)
      where
        t : DupRun
        t = with_puts puts (record s { entity = after })

        printed : List DupLine
        printed = map (put_line sn) puts

        by : (b : Bool)
            → StepGood (packets ++ packet ∷ []) s.receiver.deliv
            (cond b (stops (printed ++ told t ∷ []) (ends.Outstanding (span t) (half sn))) (passes printed t))
            → EventGood packets s.receiver.deliv (events.Offer packet)
            (cond b (stops (printed ++ told t ∷ []) (ends.Outstanding (span t) (half sn))) (passes printed t))
        by true is =
            subst
            (λ (b : Bool). StepGood (packets ++ unless_refused b (packet ∷ [])) s.receiver.deliv (stops (printed ++ told t ∷ []) (ends.Outstanding (span t) (half sn))))
            (sym (not_refused puts (told t ∷ []) refl)) is
        by false is =
            subst (λ (b : Bool). StepGood (packets ++ unless_refused b (packet ∷ [])) s.receiver.deliv (passes printed t))
            (sym (ap is_refused (sym (append-nil printed)) ∙ not_refused puts [] refl)) is

    offer_good : (packet : List ℕ) → EventGood packets s.receiver.deliv (events.Offer packet) (step_of sn (offers sn quota packet s))
    unfolding offers
    offer_good packet = by (nat_lt PACKET_LIMIT (length packet)) (is_full quota s.entity)
      where
        by : (a b : Bool) → EventGood packets s.receiver.deliv (events.Offer packet)
            (step_of sn (cond a (refused refusals.Size s) (cond b (refused refusals.Quota s) (puts_out sn s (offered sn quota packet s.entity)))))
        by true b = refused_step packet refusals.Size
        by false true = refused_step packet refusals.Quota
        by false false = accepted_step packet (offered sn quota packet s.entity) (accepted_good sn quota packets packet s kept)

    pub event_good : (event : DupEvent) → EventGood packets s.receiver.deliv event (steps sn quota event s)
    unfolding steps
    event_good (events.Offer packet) = offer_good packet
    event_good (events.Carry leg) =
        other_good (events.Carry leg) refl (step_of sn (where_up leg s (carry sn leg s)))
        (step_good packets s.receiver.deliv (where_up leg s (carry sn leg s)) (up_good sn quota packets s kept leg (carry sn leg s) (λ up. carry_good sn quota packets s kept leg)))
    event_good (events.Confirm leg) =
        other_good (events.Confirm leg) refl (step_of sn (where_up leg s (confirm sn quota leg s)))
        (step_good packets s.receiver.deliv (where_up leg s (confirm sn quota leg s))
        (up_good sn quota packets s kept leg (confirm sn quota leg s) (λ up. confirm_good sn quota packets s kept near leg)))
    event_good (events.Fail leg) = other_good (events.Fail leg) refl (steps sn quota (events.Fail leg) s) (step_good packets s.receiver.deliv (fails sn leg s) (fail_good sn quota packets s kept leg))
    event_good (events.Mend leg) = other_good (events.Mend leg) refl (steps sn quota (events.Mend leg) s) (step_good packets s.receiver.deliv (mends sn leg s) (mend_good sn quota packets s kept leg))
    event_good (events.SetMode mode) = other_good (events.SetMode mode) refl (steps sn quota (events.SetMode mode) s) (step_good packets s.receiver.deliv (changes_mode sn mode s) (mode_good sn quota packets s kept mode))
    event_good events.Drain = other_good events.Drain refl (drains sn quota s) (drain_good packets s kept near)
    event_good events.Ask = other_good events.Ask refl (steps sn quota events.Ask s) (step_good packets s.receiver.deliv (asked s) (ask_good sn quota packets s kept))

-- What was taken is delivered or stays stored.
use Rattle.std.proofs.Common.{◌≡◌, ◌⊎◌, ℕ, ◌+◌, ◌-◌, ◌<◌, ◌≤◌, Bool, true, false, cond, nat_lt, nat_le, is_some, List, [], ◌∷◌, ◌++◌, length, Option, Some, None, refl, sym, ap, ◌∙◌, subst, inl, inr, arith}
use Rattle.std.proofs.lemmas.Bool.Decides.{nat_tests}
use Rattle.std.specs.Cmp.{ranks}
use Rattle.std.specs.Ordering.{nat_cmp, is_eq, match_ordering, MatchOrdering}
use Rattle.std.specs.declared.cmp.Ordering.{Ordering}
use Rattle.std.specs.declared.cmp.Ordering.TheVariants.{Less, Equal, Greater}
use Rattle.std.specs.Map.{lookup}
use Rattle.std.specs.BTreeMap.{is_at, insert_entry}
use Rattle.gnb_types.specs.declared.names.SnBits.{SnBits}
use Rattle.gnb_types.specs.declared.reasons.RefuseReason.TheVariants.{Size, NoSuch}
use Rattle.tables.specs.Tables.{find, put, without}
use Rattle.pdcp.specs.Near.{last_count}
use Rattle.pdcp.specs.declared.pdu.TheConstants.{PACKET_LIMIT}
use Rattle.um_defs.specs.declared.types.error.UmError.{UmError}
use Rattle.um_defs.specs.declared.types.error.UmError.TheVariants as errors
use Rattle.um_defs.specs.declared.types.event.UmEvent.{UmEvent}
use Rattle.um_defs.specs.declared.types.event.UmEvent.TheVariants as events
use Rattle.um_defs.specs.declared.types.line.UmLine.{UmLine}
use Rattle.um_defs.specs.declared.types.line.UmLine.TheVariants as lines
use Rattle.um_defs.specs.Receivers.{UmReceiver, room, refuses, received, received_unless, takes, ticked}
use Rattle.um_defs.specs.um_run_defs.Run.{UmRun, UmOutcome, goes_on, spends, does_event, offered, sent, of_message, on_link, landed, taken, taken_as, ticks_by, delivered, most_messages, counts_spent, messages_spent}
use Rattle.law_um.proofs.Steps.{received_so, ticked_so}
use Rattle.law_um.specs.run.Reached.{IsReached}
use Rattle.law_um.specs.run.Gaps.{Gives}
use Rattle.law_um.specs.run.Taken.{Has, Delivers, WasTaken, WasDelivered}
use Rattle.law_um.proofs.run.Lists.{each_find, within_each}
use Rattle.law_um.proofs.run.Kept.{IsKept, found, always_kept}

-- ---- packets in lists

has_split : {X : Type 0} (count : ℕ) (x : X) (ps es : List (ℕ × X)) → Has count x (ps ++ es) → Has count x ps ⊎ Has count x es
has_split count x [] es h = inr h
has_split count x (p ∷ ps) es (inl h) = inl (inl h)
has_split count x (p ∷ ps) es (inr h) = by (has_split count x ps es h)
  where
    by : Has count x ps ⊎ Has count x es → Has count x (p ∷ ps) ⊎ Has count x es
    by (inl g) = inl (inr g)
    by (inr g) = inr g

has_delivers : (count : ℕ) (packet : List ℕ) (ps : List (ℕ × List ℕ)) → Has count packet ps → Delivers count packet (delivered ps)
has_delivers count packet [] h = h
has_delivers count packet (p ∷ ps) (inl h) = inl h
has_delivers count packet (p ∷ ps) (inr h) = inr (has_delivers count packet ps h)

has_put : {X : Type 0} (es : List (ℕ × X)) (k : ℕ) (x : X) → Has k x (put nat_cmp es k x)
unfolding put
has_put [] k x = inl (refl, refl)
has_put (e ∷ es) k x = by (nat_cmp k e.0) (ranks k e.0) (has_put es k x)
  where
    by : (r : Ordering) → MatchOrdering r (k < e.0) (k ≡ e.0) (e.0 < k) → Has k x (insert_entry nat_cmp es k x)
        → Has k x (match_ordering r ((k, x) ∷ e ∷ es) ((e.0, x) ∷ es) (e ∷ insert_entry nat_cmp es k x))
    by Less is later = inl (refl, refl)
    by Equal is later = inl (sym is, refl)
    by Greater is later = inr later

has_put_other : {X : Type 0} (count : ℕ) (y : X) (es : List (ℕ × X)) (k : ℕ) (x : X) → (k ≡ count → ⊥) → Has count y es
    → Has count y (put nat_cmp es k x)
unfolding put
has_put_other count y [] k x other h = absurd h
has_put_other count y (e ∷ es) k x other h = by (nat_cmp k e.0) (ranks k e.0) h (has_put_other count y es k x other)
  where
    by : (r : Ordering) → MatchOrdering r (k < e.0) (k ≡ e.0) (e.0 < k) → Has count y (e ∷ es)
        → (Has count y es → Has count y (insert_entry nat_cmp es k x))
        → Has count y (match_ordering r ((k, x) ∷ e ∷ es) ((e.0, x) ∷ es) (e ∷ insert_entry nat_cmp es k x))
    by Less is g later = inr g
    by Equal is (inl g) later = absurd (other (is ∙ g.0))
    by Equal is (inr g) later = inr g
    by Greater is (inl g) later = inl g
    by Greater is (inr g) later = inr (later g)

has_find : {X : Type 0} (count : ℕ) (x : X) (es : List (ℕ × X)) → Has count x es → is_some (find nat_cmp es count) ≡ true
unfolding find
has_find count x [] h = absurd h
has_find count x (e ∷ es) h = by (nat_cmp count e.0) (ranks count e.0) h (has_find count x es)
  where
    by : (r : Ordering) → MatchOrdering r (count < e.0) (count ≡ e.0) (e.0 < count) → Has count x (e ∷ es)
        → (Has count x es → is_some (lookup (is_at (nat_cmp count)) es) ≡ true)
        → is_some (cond (is_eq r) (Some e.1) (lookup (is_at (nat_cmp count)) es)) ≡ true
    by Less is (inl g) later = absurd (omega (arith, is, g.0))
    by Less is (inr g) later = later g
    by Equal is g later = refl
    by Greater is (inl g) later = absurd (omega (arith, is, g.0))
    by Greater is (inr g) later = later g

-- what is taken isn't stored yet
not_stored : (r : UmReceiver (List ℕ)) (count : ℕ) → refuses r (Some count) ≡ None → is_some (find nat_cmp r.receiver.stored count) ≡ false
unfolding refuses
not_stored r count h = by (nat_lt count r.receiver.deliv) (is_some (find nat_cmp r.receiver.stored count)) (nat_le (r.receiver.deliv + room) count) h
  where
    by : (a b c : Bool) → cond a (Some (errors.Late count)) (cond b (Some (errors.Duplicate count)) (cond c (Some (errors.Ahead count)) None)) ≡ None
        → b ≡ false
    by true b c e = absurd (cc)
    by false true c e = absurd (cc)
    by false false c e = refl

-- ---- an event

module _ (sn : SnBits) (ticks : ℕ) where
  abbrev Holds : ℕ → List ℕ → UmOutcome → Type 0
  Holds count packet (spends counter) = Unit {0}
  Holds count packet (goes_on printed after) = Has count packet after.entity.receiver.stored ⊎ Delivers count packet printed

  module _ (earlier : List UmEvent) (s : UmRun) (kept : IsKept sn ticks earlier s) where
    -- what a step hands up and what it stores is what was there
    of_all : (count : ℕ) (packet : List ℕ) (was ps es : List (ℕ × List ℕ)) → was ≡ ps ++ es → Has count packet was
        → Has count packet es ⊎ Delivers count packet (delivered ps)
    of_all count packet was ps es all h = by (has_split count packet ps es (subst (Has count packet) all h))
      where
        by : Has count packet ps ⊎ Has count packet es → Has count packet es ⊎ Delivers count packet (delivered ps)
        by (inl g) = inr (has_delivers count packet ps g)
        by (inr g) = inl g

    module _ (count : ℕ) (packet : List ℕ) (here : Has count packet s.entity.receiver.stored) where
      offer_holds : (offer : List ℕ) → Holds count packet (offered sn offer s)
      offer_holds offer = by (nat_lt PACKET_LIMIT (length offer)) (nat_lt last_count s.puts) (nat_le most_messages s.puts)
        where
          by : (a b c : Bool)
              → Holds count packet (cond a (goes_on (lines.Refused Size ∷ []) s) (cond b (spends counts_spent) (cond c (spends messages_spent) (sent sn offer s))))
          by true b c = inl here
          by false true c = tt
          by false false true = tt
          by false false false = inl here

      message_holds : (number : ℕ) (go : List ℕ → UmOutcome)
          → ((p : List ℕ) → find nat_cmp s.flight number ≡ Some p → Holds count packet (go p)) → Holds count packet (of_message number s go)
      message_holds number go good = by (nat_lt s.puts number) (find nat_cmp s.flight number) refl
        where
          on : (o : Option (List ℕ)) → find nat_cmp s.flight number ≡ o → Holds count packet (on_link number s go o)
          on None is = inl here
          on (Some p) is = good p is

          by : (b : Bool) (o : Option (List ℕ)) → find nat_cmp s.flight number ≡ o
              → Holds count packet (cond b (goes_on (lines.Refused NoSuch ∷ []) s) (on_link number s go o))
          by true o is = inl here
          by false o is = on o is

      taken_holds : (number : ℕ) (p : List ℕ) → find nat_cmp s.flight number ≡ Some p → (flight : List (ℕ × List ℕ))
          → Holds count packet (taken sn ticks number s (record s { flight = flight }) p)
      unfolding takes
      taken_holds number p at flight =
          subst (λ (o : Option ℕ). Holds count packet (taken_as sn number p s (record s { flight = flight }) (received_unless ticks s.entity o p (refuses s.entity o))))
          (sym (found sn ticks earlier s kept number p at)) (by (refuses s.entity (Some (number - 1))) refl)
        where
          other : refuses s.entity (Some (number - 1)) ≡ None → number - 1 ≡ count → ⊥
          other none same =
              let stored : is_some (find nat_cmp s.entity.receiver.stored (number - 1)) ≡ true = ap (λ k. is_some (find nat_cmp s.entity.receiver.stored k)) same
              ∙ has_find count packet s.entity.receiver.stored here in
              let clash : true ≡ false = sym stored ∙ not_stored s.entity (number - 1) none in
              cc

          by : (o : Option UmError) → refuses s.entity (Some (number - 1)) ≡ o
              → Holds count packet (taken_as sn number p s (record s { flight = flight }) (received_unless ticks s.entity (Some (number - 1)) p o))
          by None none =
              let step = received_so ticks s.entity (number - 1) p kept.sound none in
              let d = received ticks s.entity (number - 1) p in
              of_all count packet (put nat_cmp s.entity.receiver.stored (number - 1) p) d.packets d.after.receiver.stored step.all
              (has_put_other count packet s.entity.receiver.stored (number - 1) p (other none) here)
          by (Some (errors.Late c)) is = inl here
          by (Some (errors.Duplicate c)) is = inl here
          by (Some (errors.Ahead c)) is = inl here
          by (Some errors.NoCount) is = inl here
          by (Some errors.Memory) is = inl here

      tick_holds : Holds count packet (ticks_by s (ticked ticks s.entity))
      tick_holds =
          let step = ticked_so ticks s.entity kept.sound in
          let d = ticked ticks s.entity in
          of_all count packet s.entity.receiver.stored d.packets d.after.receiver.stored step.all here

      event_holds : (event : UmEvent) → Holds count packet (does_event sn ticks event s)
      unfolding does_event
      event_holds (events.Offer offer) = offer_holds offer
      event_holds (events.Give number) =
          message_holds number (taken sn ticks number s (landed number s)) (λ p at. taken_holds number p at (without nat_cmp s.flight number))
      event_holds (events.Again number) = message_holds number (taken sn ticks number s s) (λ p at. taken_holds number p at s.flight)
      event_holds (events.Lose number) = message_holds number (λ p. goes_on (lines.Lost number ∷ []) (landed number s)) (λ p at. inl here)
      event_holds events.Tick = tick_holds
      event_holds events.Ask = inl here

    -- the packet that is taken now
    module _ (number : ℕ) (packet : List ℕ) (at : find nat_cmp s.flight number ≡ Some packet)
        (none : refuses s.entity (Some (number - 1)) ≡ None) where
      bounds : (1 ≤ number) × (number < s.puts + 1)
      bounds = each_find (λ k x. (1 ≤ k) × (k < s.puts + 1)) s.flight number packet (within_each 1 (s.puts + 1) s.flight kept.flight) at

      now_holds : (flight : List (ℕ × List ℕ)) → Holds (number - 1) packet (taken sn ticks number s (record s { flight = flight }) packet)
      unfolding takes
      now_holds flight =
          subst (λ (o : Option ℕ). Holds (number - 1) packet (taken_as sn number packet s (record s { flight = flight }) (received_unless ticks s.entity o packet (refuses s.entity o))))
          (sym (found sn ticks earlier s kept number packet at))
          (subst (λ (o : Option UmError). Holds (number - 1) packet (taken_as sn number packet s (record s { flight = flight }) (received_unless ticks s.entity (Some (number - 1)) packet o))) (sym none)
          (let step = received_so ticks s.entity (number - 1) packet kept.sound none in
          let d = received ticks s.entity (number - 1) packet in
          of_all (number - 1) packet (put nat_cmp s.entity.receiver.stored (number - 1) packet) d.packets d.after.receiver.stored step.all
          (has_put s.entity.receiver.stored (number - 1) packet)))

      of_message_now : (go : List ℕ → UmOutcome) → Holds (number - 1) packet (go packet) → Holds (number - 1) packet (of_message number s go)
      of_message_now go good = by (nat_lt s.puts number) refl
        where
          by : (b : Bool) → nat_lt s.puts number ≡ b
              → Holds (number - 1) packet (cond b (goes_on (lines.Refused NoSuch ∷ []) s) (on_link number s go (find nat_cmp s.flight number)))
          by true test = let above : s.puts < number = grind (arith, nat_tests) in absurd (omega (arith, above, bounds.1))
          by false test = subst (λ (o : Option (List ℕ)). Holds (number - 1) packet (on_link number s go o)) (sym at) good

      give_now : Holds (number - 1) packet (does_event sn ticks (events.Give number) s)
      unfolding does_event
      give_now = of_message_now (taken sn ticks number s (landed number s)) (now_holds (without nat_cmp s.flight number))

      again_now : Holds (number - 1) packet (does_event sn ticks (events.Again number) s)
      unfolding does_event
      again_now = of_message_now (taken sn ticks number s s) (now_holds s.flight)

    gives_now : (event : UmEvent) (count : ℕ) (packet : List ℕ) → Gives event count → find nat_cmp s.flight (count + 1) ≡ Some packet
        → refuses s.entity (Some count) ≡ None → Holds count packet (does_event sn ticks event s)
    gives_now event count packet gives at none = by gives
      where
        same : count + 1 - 1 ≡ count
        same = omega arith

        none_at : refuses s.entity (Some (count + 1 - 1)) ≡ None
        none_at = ap (λ (k : ℕ). refuses s.entity (Some k)) same ∙ none

        by : Gives event count → Holds count packet (does_event sn ticks event s)
        by (inl is) =
            subst (λ (e : UmEvent). Holds count packet (does_event sn ticks e s)) (sym is)
            (subst (λ (k : ℕ). Holds k packet (does_event sn ticks (events.Give (count + 1)) s)) same (give_now (count + 1) packet at none_at))
        by (inr is) =
            subst (λ (e : UmEvent). Holds count packet (does_event sn ticks e s)) (sym is)
            (subst (λ (k : ℕ). Holds k packet (does_event sn ticks (events.Again (count + 1)) s)) same (again_now (count + 1) packet at none_at))

  -- ---- over lists of events

  -- a list of events reaches one run
  same_after : (outcome : UmOutcome) (xs ys : List UmLine) (s t : UmRun) → outcome ≡ goes_on xs s → outcome ≡ goes_on ys t → s ≡ t
  same_after outcome xs ys s t p q = cc

  reached_once : (all : List UmEvent) (s t : UmRun) → IsReached sn ticks all s → IsReached sn ticks all t → s ≡ t
  reached_once [] s t p q = p ∙ sym q
  reached_once (event ∷ earlier) s t (b, xs, p, f) (c, ys, q, g) =
      let same : b ≡ c = reached_once earlier b c p q in
      same_after (does_event sn ticks event c) xs ys s t (ap (does_event sn ticks event) (sym same) ∙ f.outcome) g.outcome

  pub held : (all : List UmEvent) (s : UmRun) → IsReached sn ticks all s → (count : ℕ) (packet : List ℕ) → WasTaken sn ticks all count packet
      → Has count packet s.entity.receiver.stored ⊎ WasDelivered sn ticks all count packet
  held [] s reached count packet taken = absurd taken
  held (event ∷ earlier) s (before, printed, reached, goes) count packet taken = by taken (held earlier before reached count packet)
    where
      kept : IsKept sn ticks earlier before
      kept = always_kept sn ticks earlier before reached

      after : Holds count packet (does_event sn ticks event before)
          → Has count packet s.entity.receiver.stored ⊎ WasDelivered sn ticks (event ∷ earlier) count packet
      after h = on (subst (Holds count packet) goes.outcome h)
        where
          on : Has count packet s.entity.receiver.stored ⊎ Delivers count packet printed
              → Has count packet s.entity.receiver.stored ⊎ WasDelivered sn ticks (event ∷ earlier) count packet
          on (inl g) = inl g
          on (inr g) = inr (inl (before, printed, s, reached, goes, g))

      was : Has count packet before.entity.receiver.stored ⊎ WasDelivered sn ticks earlier count packet
          → Has count packet s.entity.receiver.stored ⊎ WasDelivered sn ticks (event ∷ earlier) count packet
      was (inl g) = after (event_holds earlier before kept count packet g event)
      was (inr g) = inr (inr g)

      by : WasTaken sn ticks (event ∷ earlier) count packet
          → (WasTaken sn ticks earlier count packet → Has count packet before.entity.receiver.stored ⊎ WasDelivered sn ticks earlier count packet)
          → Has count packet s.entity.receiver.stored ⊎ WasDelivered sn ticks (event ∷ earlier) count packet
      by (inl (gives, there, reach, at, none)) more =
          let same : there ≡ before = reached_once earlier there before reach reached in
          after (gives_now earlier before kept event count packet gives
          (subst (λ (r : UmRun). find nat_cmp r.flight (count + 1) ≡ Some packet) same at)
          (subst (λ (r : UmRun). refuses r.entity (Some count) ≡ None) same none))
      by (inr earlier_taken) more = was (more earlier_taken)

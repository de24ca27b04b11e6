-- What is so of an entity after any packets and ticks.
use Rattle.std.proofs.Common.{◌≡◌, ℕ, zero, suc, ◌+◌, ◌<◌, ◌≤◌, max, List, [], ◌∷◌, Bool, true, false, nat_lt, Option, Some, None, refl, sym, ap, ◌∙◌, subst, arith, inl, inr, ◌⊎◌}
use Rattle.um_defs.specs.declared.types.error.UmError.{UmError}
use Rattle.um_defs.specs.Receivers.{UmReceiver, UmDelivery, refuses, received, ticked}
use Rattle.law_um.specs.Sound.{IsSound, IsWithin, HasNone}
use Rattle.law_um.specs.Histories.{Step, arrival, a_tick, arrives_unless, does, state, TakenAgo}
use Rattle.std.specs.Ordering.{nat_cmp}
use Rattle.std.proofs.lemmas.Bool.Decides.{nat_tests}
use Rattle.tables.specs.Tables.{put}
use Rattle.law_um.proofs.Deliveries.{least_from, none_past, none_both, none_put, put_has}
use Rattle.law_um.proofs.Steps.{IsStep, is_sound, received_so, received_next, received_waits, ticked_so, ticked_next, ticked_waits, ticked_passes}

-- a COUNT not below this one less one was taken so long ago that the timer's ticks have passed but these
abbrev pub WaitsFor : {X : Type 0} → ℕ → List (Step X) → ℕ → ℕ → Type 0
WaitsFor ticks steps left reord = (n greater : ℕ) × (reord ≤ greater + 1) × TakenAgo ticks n greater steps × (ticks ≤ left + n)

pub record IsKept {X : Type 0} (ticks : ℕ) (steps : List (Step X)) : Type 0 where
  pub sound : IsSound (state ticks steps)
  pub top : (k : ℕ) → (state ticks steps).next ≡ suc k → (n : ℕ) × TakenAgo ticks n k steps
  pub waits : (left : ℕ) → (state ticks steps).left ≡ Some left → WaitsFor ticks steps left (state ticks steps).reord

chosen_max : (a b : ℕ) (t : Bool) → nat_lt a b ≡ t → (max a b ≡ a) ⊎ (max a b ≡ b)
chosen_max a b true h = let less : a < b = grind (arith, nat_tests) in inr (omega (arith, less))
chosen_max a b false h = let least : b ≤ a = least_from a b h in inl (omega (arith, least))

new_kept : {X : Type 0} (ticks : ℕ) → IsKept {X = X} ticks []
new_kept ticks = record {
  sound = record { deliv = omega arith; stored = tt; reord = omega arith; runs = refl; awaits = tt };
  top = λ k is. absurd (let no : 0 ≡ suc k = is in omega (arith, no));
  waits = λ left is. absurd (cc);
}

-- what was so before a packet came
later_packet : {X : Type 0} (ticks : ℕ) (steps : List (Step X)) (count : ℕ) (x : X) (left reord : ℕ) → WaitsFor ticks steps left reord
    → WaitsFor ticks (arrival count x ∷ steps) left reord
later_packet ticks steps count x left reord w = (w.0, w.1, w.2, inr w.3, w.4)

module _ {X : Type 0} (ticks : ℕ) (steps : List (Step X)) (kept : IsKept ticks steps) where
  r : UmReceiver X
  r = state ticks steps

  -- the timer is started anew: RX_NEXT is one above a COUNT that was taken
  anew : (more : List (Step X)) (next : ℕ) → ((k : ℕ) → next ≡ suc k → (n : ℕ) × TakenAgo ticks n k more) → 0 < next → WaitsFor ticks more ticks next
  anew more zero top h = absurd (omega (arith, h))
  anew more (suc k) top h = let t = top k refl in (t.0, k, omega arith, t.1, omega arith)

  module _ (count : ℕ) (x : X) (none : refuses (state ticks steps) (Some count) ≡ None) where
    sound : IsSound (state ticks steps)
    sound = kept.sound

    top_of : (next : ℕ) → next ≡ max (state ticks steps).next (count + 1) → (k : ℕ) → next ≡ suc k → (n : ℕ) × TakenAgo ticks n k (arrival count x ∷ steps)
    top_of next is k at = by (chosen_max (state ticks steps).next (count + 1) (nat_lt (state ticks steps).next (count + 1)) refl)
      where
        by : (max (state ticks steps).next (count + 1) ≡ (state ticks steps).next) ⊎ (max (state ticks steps).next (count + 1) ≡ count + 1)
            → (n : ℕ) × TakenAgo ticks n k (arrival count x ∷ steps)
        by (inl old) = let t = kept.top k (sym old ∙ (sym is ∙ at)) in (t.0, inr t.1)
        by (inr new) =
            let here : count ≡ k = omega (arith, new, is, at) in
            (0, inl (refl, here, subst (λ c. refuses (state ticks steps) (Some c) ≡ None) here none))

    pub packet_kept : (d : UmDelivery X) → d ≡ received ticks (state ticks steps) count x
        → (after : UmReceiver X) → after ≡ d.after
        → (IsSound after) × ((k : ℕ) → after.next ≡ suc k → (n : ℕ) × TakenAgo ticks n k (arrival count x ∷ steps))
        × ((left : ℕ) → after.left ≡ Some left → WaitsFor ticks (arrival count x ∷ steps) left after.reord)
    packet_kept d is after at =
        subst (λ (u : UmReceiver X). (IsSound u) × ((k : ℕ) → u.next ≡ suc k → (n : ℕ) × TakenAgo ticks n k (arrival count x ∷ steps))
        × ((left : ℕ) → u.left ≡ Some left → WaitsFor ticks (arrival count x ∷ steps) left u.reord)) (sym (at ∙ ap (λ (e : UmDelivery X). e.after) is)) (
          is_sound ticks (state ticks steps) _ (received ticks (state ticks steps) count x) (received_so ticks (state ticks steps) count x kept.sound none),
          top_of (received ticks (state ticks steps) count x).after.next (received_next ticks (state ticks steps) count x kept.sound none),
          received_waits ticks (state ticks steps) count x kept.sound none (λ left reord. WaitsFor ticks (arrival count x ∷ steps) left reord)
              (λ left h. later_packet ticks steps count x left (state ticks steps).reord (kept.waits left h))
              (anew (arrival count x ∷ steps) (max (state ticks steps).next (count + 1)) (top_of (max (state ticks steps).next (count + 1)) refl)),
        )

  -- a history that is kept, from what is so of the entity after it
  abbrev Whole : List (Step X) → UmReceiver X → Type 0
  Whole more u = (IsSound u) × ((k : ℕ) → u.next ≡ suc k → (n : ℕ) × TakenAgo ticks n k more)
      × ((left : ℕ) → u.left ≡ Some left → WaitsFor ticks more left u.reord)

  whole : (more : List (Step X)) → Whole more (state ticks more) → IsKept ticks more
  whole more t = record { sound = t.0; top = t.1; waits = t.2 }

  pub packet : (count : ℕ) (x : X) → IsKept ticks (arrival count x ∷ steps)
  packet count x = whole (arrival count x ∷ steps) (by (refuses (state ticks steps) (Some count)) refl)
    where
      by : (o : Option UmError) → refuses (state ticks steps) (Some count) ≡ o
          → Whole (arrival count x ∷ steps) (arrives_unless ticks (state ticks steps) count x o).after
      by (Some error) is =
          (kept.sound, (λ k h. let t = kept.top k h in (t.0, inr t.1)), λ left h. later_packet ticks steps count x left (state ticks steps).reord (kept.waits left h))
      by None is = packet_kept count x is (received ticks (state ticks steps) count x) refl (received ticks (state ticks steps) count x).after refl

  pub tick : IsKept ticks (a_tick ∷ steps)
  tick = record {
    sound = is_sound ticks (state ticks steps) (state ticks steps).receiver.stored (ticked ticks (state ticks steps)) (ticked_so ticks (state ticks steps) kept.sound);
    top = top_of_tick;
    waits = ticked_waits ticks (state ticks steps) kept.sound (λ left reord. WaitsFor ticks (a_tick ∷ steps) left reord)
        (λ left h. let w = kept.waits (left + 1) h in (suc w.0, w.1, w.2, w.3, omega (arith, w.4)))
        (anew (a_tick ∷ steps) (state ticks steps).next (λ k h. let t = kept.top k h in (suc t.0, t.1)));
  }
    where
      top_of_tick : (k : ℕ) → (state ticks (a_tick ∷ steps)).next ≡ suc k → (n : ℕ) × TakenAgo ticks n k (a_tick ∷ steps)
      top_of_tick k h = let t = kept.top k (sym (ticked_next ticks (state ticks steps) kept.sound) ∙ h) in (suc t.0, t.1)

pub kept_always : {X : Type 0} (ticks : ℕ) (steps : List (Step X)) → IsKept ticks steps
kept_always ticks [] = new_kept ticks
kept_always ticks (arrival count x ∷ steps) = packet ticks steps (kept_always ticks steps) count x
kept_always ticks (a_tick ∷ steps) = tick ticks steps (kept_always ticks steps)

-- ---- each step

-- a COUNT that was taken is below RX_DELIV, or stored
passed_since : {X : Type 0} (ticks : ℕ) (r : UmReceiver X) (was : List (ℕ × X)) (d : UmDelivery X) (count : ℕ) → IsStep ticks r was d
    → (HasNone count was → count < d.after.receiver.deliv) → HasNone count d.after.receiver.stored → count < d.after.receiver.deliv
passed_since ticks r was d count is before none = by (nat_lt count d.after.receiver.deliv) refl
  where
    by : (t : Bool) → nat_lt count d.after.receiver.deliv ≡ t → count < d.after.receiver.deliv
    by true h = grind (arith, nat_tests)
    by false h =
        before (subst (HasNone count) (sym is.all)
        (none_both count d.packets d.after.receiver.stored
        (none_past r.receiver.deliv d.after.receiver.deliv count d.packets is.packets (least_from count d.after.receiver.deliv h)) none))

pub passed_or_stored : {X : Type 0} (ticks : ℕ) (steps : List (Step X)) (n count : ℕ) → TakenAgo ticks n count steps
    → HasNone count (state ticks steps).receiver.stored → count < (state ticks steps).receiver.deliv
passed_or_stored ticks [] n count taken none = absurd taken
passed_or_stored ticks (arrival c x ∷ steps) n count taken none =
    by (refuses (state ticks steps) (Some c)) refl none taken
    (λ old before. passed_or_stored ticks steps n count old before)
  where
    by : (o : Option UmError) → refuses (state ticks steps) (Some c) ≡ o
        → HasNone count (arrives_unless ticks (state ticks steps) c x o).after.receiver.stored
        → ((n ≡ 0) × (c ≡ count) × (refuses (state ticks steps) (Some count) ≡ None)) ⊎ TakenAgo ticks n count steps
        → (TakenAgo ticks n count steps → HasNone count (state ticks steps).receiver.stored → count < (state ticks steps).receiver.deliv)
        → count < (arrives_unless ticks (state ticks steps) c x o).after.receiver.deliv
    by (Some error) is none (inr old) before = before old none
    by (Some error) is none (inl (zero_ticks, same, taken)) before =
        absurd (let no : Some error ≡ None = sym is ∙ (ap (λ k. refuses (state ticks steps) (Some k)) same ∙ taken) in cc)
    by None is none (inr old) before =
        let sound = (kept_always ticks steps).sound in
        let step = received_so ticks (state ticks steps) c x sound is in
        passed_since ticks (state ticks steps) (put nat_cmp (state ticks steps).receiver.stored c x) (received ticks (state ticks steps) c x) count step
        (λ without. omega (arith, before old (none_put count (state ticks steps).receiver.stored c x without), step.up)) none
    by None is none (inl (zero_ticks, same, taken)) before =
        let sound = (kept_always ticks steps).sound in
        let step = received_so ticks (state ticks steps) c x sound is in
        passed_since ticks (state ticks steps) (put nat_cmp (state ticks steps).receiver.stored c x) (received ticks (state ticks steps) c x) count step
        (λ without. absurd (put_has (state ticks steps).receiver.stored c x (subst (λ k. HasNone k (put nat_cmp (state ticks steps).receiver.stored c x)) (sym same) without))) none
passed_or_stored ticks (a_tick ∷ steps) zero count taken none = absurd taken
passed_or_stored ticks (a_tick ∷ steps) (suc n) count taken none =
    let sound = (kept_always ticks steps).sound in
    let step = ticked_so ticks (state ticks steps) sound in
    passed_since ticks (state ticks steps) (state ticks steps).receiver.stored (ticked ticks (state ticks steps)) count step
    (λ without. omega (arith, passed_or_stored ticks steps n count taken without, step.up)) none

taken_not_awaited : {X : Type 0} (ticks : ℕ) (steps : List (Step X)) (n greater count : ℕ) → TakenAgo ticks n greater steps
    → (state ticks steps).receiver.deliv ≤ count → HasNone count (state ticks steps).receiver.stored → greater ≡ count → ⊥
taken_not_awaited ticks steps n greater count taken from none same =
    let below = passed_or_stored ticks steps n greater taken (subst (λ k. HasNone k (state ticks steps).receiver.stored) (sym same) none) in
    omega (arith, below, same, from)

pub gap : {X : Type 0} (ticks : ℕ) (steps : List (Step X)) (count : ℕ) → (state ticks steps).receiver.deliv ≤ count
    → HasNone count (state ticks steps).receiver.stored → count < (state ticks (a_tick ∷ steps)).receiver.deliv
    → (n greater : ℕ) × (count < greater) × TakenAgo ticks n greater steps × (ticks ≤ n + 1)
gap ticks steps count from none less =
    let kept = kept_always ticks steps in
    let p = ticked_passes ticks (state ticks steps) kept.sound count from none less in
    let w = kept.waits p.0 p.1 in
    let apart : (w.1 ≡ count → ⊥) = taken_not_awaited ticks steps w.0 w.1 count w.3 from none in
    (w.0, w.1, omega (arith, w.2, p.3, apart), w.3, omega (arith, w.4, p.2))

pub rises : {X : Type 0} (ticks : ℕ) (r : UmReceiver X) (step : Step X) → IsSound r
    → IsWithin r.receiver.deliv (does ticks r step).after.receiver.deliv (does ticks r step).packets
rises ticks r (arrival count x) sound = by (refuses r (Some count)) refl
  where
    by : (o : Option UmError) → refuses r (Some count) ≡ o
        → IsWithin r.receiver.deliv (arrives_unless ticks r count x o).after.receiver.deliv (arrives_unless ticks r count x o).packets
    by (Some error) is = tt
    by None is = (received_so ticks r count x sound is).packets
rises ticks r a_tick sound = (ticked_so ticks r sound).packets

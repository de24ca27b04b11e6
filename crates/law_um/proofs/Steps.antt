-- What a step does to an entity.
use Rattle.std.proofs.Common.{◌≡◌, ◌==◌, ℕ, ◌+◌, ◌-◌, ◌<◌, ◌≤◌, Bool, true, false, cond, nat_lt, nat_le, max, List, [], ◌++◌, Option, Some, None, is_some, refl, sym, ap, ◌∙◌, subst, arith}
use Rattle.std.specs.Prelude.{IfSome}
use Rattle.std.specs.Ordering.{nat_cmp}
use Rattle.std.proofs.lemmas.Bool.Decides.{nat_tests}
use Rattle.tables.specs.Tables.{find, put}
use Rattle.pdcp_defs.specs.Receivers.{Receiver, deliver, deliver_from, stored}
use Rattle.um_defs.specs.declared.types.error.UmError.TheVariants as errors
use Rattle.um_defs.specs.Receivers.{UmReceiver, UmDelivery, refuses, received, timed, handed_up, none_up, kept, started, stopped, expired, up_to_reord, ticked, ticked_at, room}
use Rattle.law_um.specs.Sound.{IsWithin, IsRun, HasNone, IsSound}
use Rattle.law_um.proofs.Deliveries.{wider, lower, within_put, delivered, handed, run_within, least_from}
use Rattle.law_um.proofs.Timers.{IsTimed, timed_so, starts_anew}

same_from : (a b : ℕ) → (a == b) ≡ true → a ≡ b
same_from a b h = grind (arith, nat_tests)

apart_from : (a b : ℕ) → (a == b) ≡ false → a ≡ b → ⊥
apart_from a b h e = grind (arith, nat_tests)

-- a step's delivery, from the entity before it: what is handed up, what stays stored, and how the timer is then
pub record IsStep {X : Type 0} (ticks : ℕ) (r : UmReceiver X) (was : List (ℕ × X)) (d : UmDelivery X) : Type 1 where
  pub packets : IsWithin r.receiver.deliv d.after.receiver.deliv d.packets
  pub up : r.receiver.deliv ≤ d.after.receiver.deliv
  pub stored : IsWithin (d.after.receiver.deliv + 1) d.after.next d.after.receiver.stored
  pub all : was ≡ d.packets ++ d.after.receiver.stored
  pub deliv : d.after.receiver.deliv ≤ d.after.next
  pub reord : d.after.reord ≤ d.after.next
  pub runs : is_some d.after.left ≡ nat_lt d.after.receiver.deliv d.after.next
  pub awaits : IfSome d.after.left (λ left. d.after.receiver.deliv < d.after.reord)

pub is_sound : {X : Type 0} (ticks : ℕ) (r : UmReceiver X) (was : List (ℕ × X)) (d : UmDelivery X) → IsStep ticks r was d → IsSound d.after
is_sound ticks r was d is = record { deliv = is.deliv; stored = is.stored; reord = is.reord; runs = is.runs; awaits = is.awaits }

-- a step from what the timer is left with
after_timer : {X : Type 0} (ticks : ℕ) (r s t : UmReceiver X) (was ps : List (ℕ × X)) → IsTimed ticks s t
    → IsWithin r.receiver.deliv s.receiver.deliv ps → IsWithin (s.receiver.deliv + 1) s.next s.receiver.stored
    → was ≡ ps ++ s.receiver.stored → s.receiver.deliv ≤ s.next → r.receiver.deliv ≤ s.receiver.deliv
    → IsStep ticks r was (record { packets = ps; after = t })
after_timer ticks r s t was ps timer up rest all low rises = record {
  up = subst (λ (rc : Receiver _). r.receiver.deliv ≤ rc.deliv) (sym timer.receiver) rises;
  packets = subst (λ (rc : Receiver _). IsWithin r.receiver.deliv rc.deliv ps) (sym timer.receiver) up;
  stored = subst (λ n. IsWithin (t.receiver.deliv + 1) n t.receiver.stored) (sym timer.next)
      (subst (λ (rc : Receiver _). IsWithin (rc.deliv + 1) s.next rc.stored) (sym timer.receiver) rest);
  all = all ∙ ap (λ (rc : Receiver _). ps ++ rc.stored) (sym timer.receiver);
  deliv = subst (λ n. t.receiver.deliv ≤ n) (sym timer.next) (subst (λ (rc : Receiver _). rc.deliv ≤ s.next) (sym timer.receiver) low);
  reord = timer.reord;
  runs = timer.runs;
  awaits = timer.awaits;
}

-- ---- a packet that is taken

from_deliv : {X : Type 0} (r : UmReceiver X) (count : ℕ) → refuses r (Some count) ≡ None → r.receiver.deliv ≤ count
unfolding refuses
from_deliv r count none = by (nat_lt count r.receiver.deliv) refl none
  where
    by : (b : Bool) → nat_lt count r.receiver.deliv ≡ b
        → cond b (Some (errors.Late count)) (cond (is_some (find nat_cmp r.receiver.stored count)) (Some (errors.Duplicate count))
        (cond (nat_le (r.receiver.deliv + room) count) (Some (errors.Ahead count)) None)) ≡ None
        → r.receiver.deliv ≤ count
    by true test none = absurd (cc)
    by false test none = least_from count r.receiver.deliv test

module _ {X : Type 0} (ticks : ℕ) (r : UmReceiver X) (count : ℕ) (x : X) (sound : IsSound r) (none : refuses r (Some count) ≡ None) where
  next : ℕ
  next = max r.next (count + 1)

  all : List (ℕ × X)
  all = put nat_cmp r.receiver.stored count x

  new : Receiver X
  new = record { deliv = r.receiver.deliv; stored = all }

  low : r.receiver.deliv ≤ count
  low = from_deliv r count none

  -- those that are stored with it, from a COUNT on
  with_it : (from : ℕ) → from ≤ r.receiver.deliv + 1 → from ≤ count → IsWithin from (max r.next (count + 1)) (put nat_cmp r.receiver.stored count x)
  with_it from h k =
      within_put from (max r.next (count + 1)) r.receiver.stored count x
      (lower (r.receiver.deliv + 1) from (max r.next (count + 1)) r.receiver.stored h
      (wider (r.receiver.deliv + 1) r.next (max r.next (count + 1)) r.receiver.stored (omega arith) sound.stored)) k (omega arith)

  pub received_so : IsStep ticks r (put nat_cmp r.receiver.stored count x) (received ticks r count x)
  unfolding received stored deliver
  received_so = by (count == r.receiver.deliv) refl
    where
      by : (b : Bool) → (count == r.receiver.deliv) ≡ b
          → IsStep ticks r (put nat_cmp r.receiver.stored count x)
          (timed ticks (cond b (handed_up (kept r count x) (deliver_from r.receiver.deliv (put nat_cmp r.receiver.stored count x))) (none_up (kept r count x))))
      by true test =
          let d = delivered r.receiver.deliv (max r.next (count + 1)) (put nat_cmp r.receiver.stored count x)
          (with_it r.receiver.deliv (omega arith) (from_deliv r count none)) (omega (arith, from_deliv r count none)) in
          let got = deliver_from r.receiver.deliv (put nat_cmp r.receiver.stored count x) in
          after_timer ticks r (record (kept r count x) { receiver = got.after })
          (started ticks (stopped (record (kept r count x) { receiver = got.after })))
          (put nat_cmp r.receiver.stored count x) got.packets
          (timed_so ticks got.after (max r.next (count + 1)) r.reord (omega (arith, sound.reord)) r.left)
          (run_within r.receiver.deliv got.after.deliv got.packets d.up d.packets) d.stored d.all d.within d.up
      by false test =
          let apart : (count ≡ r.receiver.deliv → ⊥) = apart_from count r.receiver.deliv test in
          let above : r.receiver.deliv + 1 ≤ count = omega (arith, apart, from_deliv r count none) in
          after_timer ticks r (kept r count x) (started ticks (stopped (kept r count x))) (put nat_cmp r.receiver.stored count x) []
          (timed_so ticks (record { deliv = r.receiver.deliv; stored = put nat_cmp r.receiver.stored count x }) (max r.next (count + 1)) r.reord (omega (arith, sound.reord)) r.left)
          tt (with_it (r.receiver.deliv + 1) (omega arith) above) refl (omega (arith, sound.deliv)) (omega arith)

  pub received_next : (received ticks r count x).after.next ≡ max r.next (count + 1)
  unfolding received stored deliver
  received_next = by (count == r.receiver.deliv)
    where
      by : (b : Bool)
          → (timed ticks (cond b (handed_up (kept r count x) (deliver_from r.receiver.deliv (put nat_cmp r.receiver.stored count x))) (none_up (kept r count x)))).after.next
          ≡ max r.next (count + 1)
      by true =
          (timed_so ticks (deliver_from r.receiver.deliv (put nat_cmp r.receiver.stored count x)).after (max r.next (count + 1)) r.reord (omega (arith, sound.reord)) r.left).next
      by false =
          (timed_so ticks (record { deliv = r.receiver.deliv; stored = put nat_cmp r.receiver.stored count x }) (max r.next (count + 1)) r.reord (omega (arith, sound.reord)) r.left).next

  pub received_waits : (P : ℕ → ℕ → Type 0) → ((left : ℕ) → r.left ≡ Some left → P left r.reord) → (0 < max r.next (count + 1) → P ticks (max r.next (count + 1)))
      → (left : ℕ) → (received ticks r count x).after.left ≡ Some left → P left (received ticks r count x).after.reord
  unfolding received stored deliver
  received_waits P was now = by (count == r.receiver.deliv)
    where
      by : (b : Bool) (left : ℕ)
          → (timed ticks (cond b (handed_up (kept r count x) (deliver_from r.receiver.deliv (put nat_cmp r.receiver.stored count x))) (none_up (kept r count x)))).after.left ≡ Some left
          → P left (timed ticks (cond b (handed_up (kept r count x) (deliver_from r.receiver.deliv (put nat_cmp r.receiver.stored count x))) (none_up (kept r count x)))).after.reord
      by true =
          (timed_so ticks (deliver_from r.receiver.deliv (put nat_cmp r.receiver.stored count x)).after (max r.next (count + 1)) r.reord (omega (arith, sound.reord)) r.left).waits P was now
      by false =
          (timed_so ticks (record { deliv = r.receiver.deliv; stored = put nat_cmp r.receiver.stored count x }) (max r.next (count + 1)) r.reord (omega (arith, sound.reord)) r.left).waits P was now

  -- no gap is passed
  pub received_run : IsRun r.receiver.deliv (received ticks r count x).after.receiver.deliv (received ticks r count x).packets
  unfolding received stored deliver
  received_run = by (count == r.receiver.deliv)
    where
      by : (b : Bool)
          → IsRun r.receiver.deliv
          (timed ticks (cond b (handed_up (kept r count x) (deliver_from r.receiver.deliv (put nat_cmp r.receiver.stored count x))) (none_up (kept r count x)))).after.receiver.deliv
          (timed ticks (cond b (handed_up (kept r count x) (deliver_from r.receiver.deliv (put nat_cmp r.receiver.stored count x))) (none_up (kept r count x)))).packets
      by true =
          let got = deliver_from r.receiver.deliv (put nat_cmp r.receiver.stored count x) in
          let timer = timed_so ticks got.after (max r.next (count + 1)) r.reord (omega (arith, sound.reord)) r.left in
          let d = delivered r.receiver.deliv (max r.next (count + 1)) (put nat_cmp r.receiver.stored count x)
          (with_it r.receiver.deliv (omega arith) (from_deliv r count none)) (omega (arith, from_deliv r count none)) in
          subst (λ (rc : Receiver X). IsRun r.receiver.deliv rc.deliv got.packets) (sym timer.receiver) d.packets
      by false =
          let timer = timed_so ticks (record { deliv = r.receiver.deliv; stored = put nat_cmp r.receiver.stored count x }) (max r.next (count + 1)) r.reord (omega (arith, sound.reord)) r.left in
          sym (ap (λ (rc : Receiver X). rc.deliv) timer.receiver)

-- ---- a tick

module _ {X : Type 0} (ticks : ℕ) (r : UmReceiver X) (sound : IsSound r) where
  nothing_so : (left : Option ℕ) → is_some left ≡ is_some r.left → IfSome left (λ l. r.receiver.deliv < r.reord)
      → IsStep ticks r r.receiver.stored (none_up (record r { left = left }))
  nothing_so left runs awaits = record {
    packets = tt;
    up = omega arith;
    stored = sound.stored;
    all = refl;
    deliv = sound.deliv;
    reord = sound.reord;
    runs = runs ∙ sound.runs;
    awaits = awaits;
  }

  expired_so : r.receiver.deliv < r.reord → IsStep ticks r r.receiver.stored (expired ticks r)
  unfolding expired
  expired_so awaits =
      let got = up_to_reord r.reord r.receiver.stored in
      let d = handed r.receiver.deliv r.reord r.next r.receiver.stored
      (lower (r.receiver.deliv + 1) r.receiver.deliv r.next r.receiver.stored (omega arith) sound.stored) (omega (arith, awaits)) sound.reord in
      after_timer ticks r (record r { receiver = got.after; left = None }) (started ticks (record r { receiver = got.after; left = None }))
      r.receiver.stored got.packets (starts_anew ticks got.after r.next r.reord sound.reord) d.packets d.stored d.all d.within (omega (arith, d.up, awaits))

  awaits_in : (left : Option ℕ) → r.left ≡ left → IfSome left (λ l. r.receiver.deliv < r.reord)
  awaits_in left is = subst (λ (o : Option ℕ). IfSome o (λ l. r.receiver.deliv < r.reord)) is sound.awaits

  pub ticked_so : IsStep ticks r r.receiver.stored (ticked ticks r)
  unfolding ticked
  ticked_so = by r.left refl
    where
      last : (l : ℕ) (b : Bool) → r.left ≡ Some l → IsStep ticks r r.receiver.stored (cond b (expired ticks r) (none_up (record r { left = Some (l - 1) })))
      last l true is = expired_so (awaits_in (Some l) is)
      last l false is = nothing_so (Some (l - 1)) (sym (ap is_some is)) (awaits_in (Some l) is)

      by : (left : Option ℕ) → r.left ≡ left → IsStep ticks r r.receiver.stored (ticked_at ticks r left)
      by None is = subst (λ (o : Option ℕ). IsStep ticks r r.receiver.stored (none_up (record r { left = o }))) refl (nothing_so r.left refl sound.awaits)
      by (Some l) is = last l (nat_le l 1) is

  pub ticked_next : (ticked ticks r).after.next ≡ r.next
  unfolding ticked expired
  ticked_next = by r.left
    where
      last : (l : ℕ) (b : Bool) → (cond b (expired ticks r) (none_up (record r { left = Some (l - 1) }))).after.next ≡ r.next
      last l true = (starts_anew ticks (up_to_reord r.reord r.receiver.stored).after r.next r.reord sound.reord).next
      last l false = refl

      by : (left : Option ℕ) → (ticked_at ticks r left).after.next ≡ r.next
      by None = refl
      by (Some l) = last l (nat_le l 1)

  -- the timer has a tick less, or was started with all of them
  pub ticked_waits : (P : ℕ → ℕ → Type 0) → ((left : ℕ) → r.left ≡ Some (left + 1) → P left r.reord) → (0 < r.next → P ticks r.next)
      → (left : ℕ) → (ticked ticks r).after.left ≡ Some left → P left (ticked ticks r).after.reord
  unfolding ticked expired
  ticked_waits P was now = by r.left refl
    where
      more : (l : ℕ) → nat_le l 1 ≡ false → l ≡ l - 1 + 1
      more l h = grind (arith, nat_tests)

      last : (l : ℕ) (b : Bool) → nat_le l 1 ≡ b → r.left ≡ Some l → (left : ℕ)
          → (cond b (expired ticks r) (none_up (record r { left = Some (l - 1) }))).after.left ≡ Some left
          → P left (cond b (expired ticks r) (none_up (record r { left = Some (l - 1) }))).after.reord
      last l true test is left at =
          (starts_anew ticks (up_to_reord r.reord r.receiver.stored).after r.next r.reord sound.reord).waits P (λ left no. absurd (cc)) now left at
      last l false test is left at =
          let one : l - 1 ≡ left = cc in
          subst (λ n. P n r.reord) one (was (l - 1) (is ∙ ap (λ n. Some n) (more l test)))

      by : (left : Option ℕ) → r.left ≡ left → (l : ℕ) → (ticked_at ticks r left).after.left ≡ Some l → P l (ticked_at ticks r left).after.reord
      by None is l at = absurd (let no : None ≡ Some l = sym is ∙ at in cc)
      by (Some left) is l at = last left (nat_le left 1) refl is l at

  -- a COUNT that is passed without being stored was below RX_REORD, and the timer had one tick left
  pub ticked_passes : (count : ℕ) → r.receiver.deliv ≤ count → HasNone count r.receiver.stored → count < (ticked ticks r).after.receiver.deliv
      → (left : ℕ) × (r.left ≡ Some left) × (left ≤ 1) × (count < r.reord)
  unfolding ticked expired
  ticked_passes count from none less = by r.left refl less
    where
      one : (l : ℕ) → nat_le l 1 ≡ true → l ≤ 1
      one l h = grind (arith, nat_tests)

      last : (l : ℕ) (b : Bool) → nat_le l 1 ≡ b → r.left ≡ Some l
          → count < (cond b (expired ticks r) (none_up (record r { left = Some (l - 1) }))).after.receiver.deliv
          → (left : ℕ) × (r.left ≡ Some left) × (left ≤ 1) × (count < r.reord)
      last l true test is less =
          let got = up_to_reord r.reord r.receiver.stored in
          let timer = starts_anew ticks got.after r.next r.reord sound.reord in
          let awaits = awaits_in (Some l) is in
          let d = handed r.receiver.deliv r.reord r.next r.receiver.stored
          (lower (r.receiver.deliv + 1) r.receiver.deliv r.next r.receiver.stored (omega arith) sound.stored) (omega (arith, awaits)) sound.reord in
          (l, is, one l test, d.passed count none (subst (λ (rc : Receiver X). count < rc.deliv) timer.receiver less))
      last l false test is less = absurd (let no : count < r.receiver.deliv = less in omega (arith, no, from))

      by : (left : Option ℕ) → r.left ≡ left → count < (ticked_at ticks r left).after.receiver.deliv
          → (left : ℕ) × (r.left ≡ Some left) × (left ≤ 1) × (count < r.reord)
      by None is less = absurd (let no : count < r.receiver.deliv = less in omega (arith, no, from))
      by (Some l) is less = last l (nat_le l 1) refl is less

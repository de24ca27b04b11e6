-- The sender of a bearer with the octets of its packets, and with their places.
use Rattle.std.proofs.Common.{◌≡◌, ℕ, ◌+◌, ◌-◌, ◌^◌, ◌<◌, ◌≤◌, Bool, true, false, cond, not, nat_lt, nat_le, List, [], ◌∷◌, ◌++◌, Option, Some, None, refl, sym, ap, ◌∙◌, subst, arith}
use Rattle.std.specs.Prelude.{find as find_first}
use Rattle.std.specs.List.{AllByRecursion, filter}
use Rattle.std.proofs.lemmas.Bool.Decides.{nat_tests}
use borrow.Author.Tests.{leb-true}
use Rattle.gnb_types.specs.declared.names.SnBits.{SnBits}
use Rattle.tables.specs.Tables.{map_values}
use Rattle.pdcp.specs.Near.{last_count}
use Rattle.pdcp_defs.specs.Senders.{Sender, first, first_of, window, has_room, numbered}
use Rattle.pdcp_defs.specs.pool_defs.Pools.{PoolState}
use Rattle.pdcp_entities.specs.declared.tx.NumberError.{NumberError}
use Rattle.pdcp_entities.specs.declared.tx.NumberError.TheVariants as errors
use Rattle.pdcp_entities.specs.Packets.{octets_at, octets_in}
use Rattle.pdcp_entities.specs.Entities.{TxState, sender_in, refuses_number}
use Rattle.pdcp_bearers.specs.ue_bearers.Senders.{SenderState, Numbering, numbers, stays, ends, numbering_of, from_on}
use Rattle.pdcp_bearers.specs.ue_bearers.inside.Views.{IsAscending}

-- ---- the window, seen with octets

first_mapped : {X Y : Type 0} (f : X → Y) (next : ℕ) (es : List (ℕ × X)) → first_of next (map_values f es) ≡ first_of next es
unfolding map_values
first_mapped f next [] = refl
first_mapped f next (e ∷ es) = refl

room_in : (p : PoolState) (tx : TxState) → has_room tx.sn tx.quota (sender_in p tx) ≡ has_room tx.sn tx.quota tx.sender
unfolding has_room first sender_in octets_in
room_in p tx =
    ap (λ (n : ℕ). nat_lt (tx.sender.next - n) (window tx.sn tx.quota)) (first_mapped (octets_at p) tx.sender.next tx.sender.unconfirmed)

next_in : (p : PoolState) (tx : TxState) → (sender_in p tx).next ≡ tx.sender.next
unfolding sender_in
next_in p tx = refl

abbrev pub up : SnBits → ℕ → Sender (List ℕ) → List (List ℕ) → SenderState
up sn quota sender waiting = record { sn = sn; quota = quota; sender = sender; waiting = waiting }

-- what becomes of the packet that waits longest, by what the entity refuses
abbrev by_refusal : Option NumberError → Numbering → Numbering
by_refusal None n = n
by_refusal (Some errors.CountSpent) n = ends
by_refusal (Some e) n = stays

numbering_by : (p : PoolState) (tx : TxState) → tx.frozen ≡ false → (packet : List ℕ) (packets : List (List ℕ))
    → numbering_of (up tx.sn tx.quota (sender_in p tx) (packet ∷ packets)) (packet ∷ packets)
    ≡ by_refusal (refuses_number tx) (numbers tx.sender.next packet (up tx.sn tx.quota (numbered (sender_in p tx) packet) packets))
unfolding sender_in
numbering_by p tx going packet packets =
    by tx.frozen (has_room tx.sn tx.quota tx.sender) (nat_lt last_count tx.sender.next) (has_room tx.sn tx.quota (sender_in p tx)) going (room_in p tx)
    (numbers tx.sender.next packet (up tx.sn tx.quota (numbered (sender_in p tx) packet) packets))
  where
    by : (f r l s : Bool) → f ≡ false → s ≡ r → (n : Numbering)
        → cond (not s) stays (cond l ends n)
        ≡ by_refusal (cond f (Some errors.Frozen) (cond (not r) (Some errors.WindowFull) (cond l (Some errors.CountSpent) None))) n
    by true r l s going same n = cc
    by false true true true going same n = refl
    by false true false true going same n = refl
    by false false l false going same n = refl
    by false true l false going same n = cc
    by false false l true going same n = cc

module _ (p : PoolState) (tx : TxState) (going : tx.frozen ≡ false) (packet : List ℕ) (packets : List (List ℕ)) where
  abbrev is_now : Numbering
  is_now = numbering_of (up tx.sn tx.quota (sender_in p tx) (packet ∷ packets)) (packet ∷ packets)

  pub numbers_now : refuses_number tx ≡ None
      → is_now ≡ numbers tx.sender.next packet (up tx.sn tx.quota (numbered (sender_in p tx) packet) packets)
  numbers_now none =
      numbering_by p tx going packet packets
      ∙ ap (λ (o : Option NumberError). by_refusal o (numbers tx.sender.next packet (up tx.sn tx.quota (numbered (sender_in p tx) packet) packets))) none

  pub ends_now : refuses_number tx ≡ Some errors.CountSpent → is_now ≡ ends
  ends_now is =
      numbering_by p tx going packet packets
      ∙ ap (λ (o : Option NumberError). by_refusal o (numbers tx.sender.next packet (up tx.sn tx.quota (numbered (sender_in p tx) packet) packets))) is

  pub stays_now : refuses_number tx ≡ Some errors.WindowFull → is_now ≡ stays
  stays_now is =
      numbering_by p tx going packet packets
      ∙ ap (λ (o : Option NumberError). by_refusal o (numbers tx.sender.next packet (up tx.sn tx.quota (numbered (sender_in p tx) packet) packets))) is

pub never_frozen : (tx : TxState) → tx.frozen ≡ false → refuses_number tx ≡ Some errors.Frozen → ⊥
never_frozen tx going is = by tx.frozen (not (has_room tx.sn tx.quota tx.sender)) (nat_lt last_count tx.sender.next) going is
  where
    by : (f r l : Bool) → f ≡ false → cond f (Some errors.Frozen) (cond r (Some errors.WindowFull) (cond l (Some errors.CountSpent) None)) ≡ Some errors.Frozen → ⊥
    by true r l going is = cc
    by false true l going is = cc
    by false false true going is = cc
    by false false false going is = cc

-- a COUNT that is given is not the last number of 32 bits
pub given_below : (tx : TxState) → refuses_number tx ≡ None → tx.sender.next < 2 ^ 32 - 1
given_below tx none = by tx.frozen (not (has_room tx.sn tx.quota tx.sender)) (nat_lt last_count tx.sender.next) refl none
  where
    by : (f r l : Bool) → nat_lt last_count tx.sender.next ≡ l
        → cond f (Some errors.Frozen) (cond r (Some errors.WindowFull) (cond l (Some errors.CountSpent) None)) ≡ None → tx.sender.next < 2 ^ 32 - 1
    by true r l is none = cc
    by false true l is none = cc
    by false false true is none = cc
    by false false false is none = grind (arith, nat_tests)

-- ---- COUNTs in ascending order

all_more : {X : Type 0} (P : X → Type 0) (es : List X) (e : X) → AllByRecursion P es → P e → AllByRecursion P (es ++ e ∷ [])
all_more P [] e all here = (here, tt)
all_more P (x ∷ es) e all here = (all.0, all_more P es e all.1 here)

pub all_added : {X : Type 0} (P : X → Type 0) (es : List X) (e : X) → AllByRecursion P es → P e → AllByRecursion P (es ++ e ∷ [])
all_added P es e all here = all_more P es e all here

pub all_kept : {X : Type 0} (P : X → Type 0) (t : X → Bool) (es : List X) → AllByRecursion P es → AllByRecursion P (filter t es)
all_kept P t [] all = tt
all_kept P t (e ∷ es) all = by (t e) (all_kept P t es all.1)
  where
    by : (b : Bool) → AllByRecursion P (filter t es) → AllByRecursion P (cond b (e ∷ filter t es) (filter t es))
    by true rest = (all.0, rest)
    by false rest = rest

pub all_weaker : {X : Type 0} (P Q : X → Type 0) → ((x : X) → P x → Q x) → (es : List X) → AllByRecursion P es → AllByRecursion Q es
all_weaker P Q f [] all = tt
all_weaker P Q f (e ∷ es) all = (f e all.0, all_weaker P Q f es all.1)

pub ascending_added : (es : List (ℕ × ℕ)) (e : ℕ × ℕ) → IsAscending es → AllByRecursion (λ x. x.0 < e.0) es → IsAscending (es ++ e ∷ [])
ascending_added [] e up all = (tt, tt)
ascending_added (x ∷ es) e up all = (all_more (λ y. x.0 < y.0) es e up.0 all.0, ascending_added es e up.1 all.1)

pub ascending_kept : (t : ℕ × ℕ → Bool) (es : List (ℕ × ℕ)) → IsAscending es → IsAscending (filter t es)
ascending_kept t [] up = tt
ascending_kept t (e ∷ es) up = by (t e) (ascending_kept t es up.1)
  where
    by : (b : Bool) → IsAscending (filter t es) → IsAscending (cond b (e ∷ filter t es) (filter t es))
    by true rest = (all_kept (λ x. e.0 < x.0) t es up.0, rest)
    by false rest = rest

-- ---- the least COUNT that nothing confirmed

-- what holds of all entries holds of one that is found
pub found_all : (P : ℕ × ℕ → Type 0) (from : ℕ) (es : List (ℕ × ℕ)) (e : ℕ × ℕ) → AllByRecursion P es → find_first (λ x. nat_le from x.0) es ≡ Some e → P e
found_all P from [] e all is = cc
found_all P from (x ∷ es) e all is = by (nat_le from x.0) is (found_all P from es e all.1)
  where
    by : (b : Bool) → cond b (Some x) (find_first (λ y. nat_le from y.0) es) ≡ Some e → (find_first (λ y. nat_le from y.0) es ≡ Some e → P e) → P e
    by true is again = let same : x ≡ e = cc in subst P same all.0
    by false is again = again is

module _ (f : ℕ → List ℕ) where
  -- all of them are above
  all_from : (from count : ℕ) → from ≤ count + 1 → (es : List (ℕ × ℕ)) → AllByRecursion (λ x. count < x.0) es
      → from_on from (map_values f es) ≡ from_on (count + 1) (map_values f es)
  unfolding map_values
  all_from from count low [] all = refl
  all_from from count low (e ∷ es) all =
      let above : count < e.0 = all.0 in
      let a : nat_le from e.0 ≡ true = grind (arith, nat_tests) in
      let b : nat_le (count + 1) e.0 ≡ true = grind (arith, nat_tests) in
      ap (λ (t : Bool). cond t ((e.0, f e.1) ∷ from_on from (map_values f es)) (from_on from (map_values f es))) a
      ∙ (ap (λ (xs : List (ℕ × List ℕ)). (e.0, f e.1) ∷ xs) (all_from from count low es all.1)
      ∙ sym (ap (λ (t : Bool). cond t ((e.0, f e.1) ∷ from_on (count + 1) (map_values f es)) (from_on (count + 1) (map_values f es))) b))

  pub least_from : (from : ℕ) (es : List (ℕ × ℕ)) (e : ℕ × ℕ) → IsAscending es → find_first (λ x. nat_le from x.0) es ≡ Some e
      → from_on from (map_values f es) ≡ (e.0, f e.1) ∷ from_on (e.0 + 1) (map_values f es)
  unfolding map_values
  least_from from [] e up is = cc
  least_from from (x ∷ es) e up is = by (nat_le from x.0) refl is (least_from from es e up.1)
    where
      by : (b : Bool) → nat_le from x.0 ≡ b → cond b (Some x) (find_first (λ y. nat_le from y.0) es) ≡ Some e
          → (find_first (λ y. nat_le from y.0) es ≡ Some e
          → from_on from (map_values f es) ≡ (e.0, f e.1) ∷ from_on (e.0 + 1) (map_values f es))
          → cond b ((x.0, f x.1) ∷ from_on from (map_values f es)) (from_on from (map_values f es))
          ≡ (e.0, f e.1) ∷ cond (nat_le (e.0 + 1) x.0) ((x.0, f x.1) ∷ from_on (e.0 + 1) (map_values f es)) (from_on (e.0 + 1) (map_values f es))
      by true low is again =
          let same : x ≡ e = cc in
          let l : from ≤ x.0 = leb-true from x.0 low in
          let not_again : nat_le (x.0 + 1) x.0 ≡ false = grind (arith, nat_tests) in
          subst
          (λ (y : ℕ × ℕ). (x.0, f x.1) ∷ from_on from (map_values f es)
          ≡ (y.0, f y.1) ∷ cond (nat_le (y.0 + 1) x.0) ((x.0, f x.1) ∷ from_on (y.0 + 1) (map_values f es)) (from_on (y.0 + 1) (map_values f es))) same
          (ap (λ (xs : List (ℕ × List ℕ)). (x.0, f x.1) ∷ xs) (all_from from x.0 (omega arith) es up.0)
          ∙ sym
          (ap (λ (t : Bool). (x.0, f x.1) ∷ cond t ((x.0, f x.1) ∷ from_on (x.0 + 1) (map_values f es)) (from_on (x.0 + 1) (map_values f es))) not_again))
      by false high is again =
          let l : x.0 < e.0 = above_head is in
          let not_again : nat_le (e.0 + 1) x.0 ≡ false = grind (arith, nat_tests) in
          again is
          ∙ sym
          (ap (λ (t : Bool). (e.0, f e.1) ∷ cond t ((x.0, f x.1) ∷ from_on (e.0 + 1) (map_values f es)) (from_on (e.0 + 1) (map_values f es))) not_again)
        where
          above_head : find_first (λ y. nat_le from y.0) es ≡ Some e → x.0 < e.0
          above_head is = found_all (λ y. x.0 < y.0) from es e up.0 is

  pub none_from : (from : ℕ) (es : List (ℕ × ℕ)) → find_first (λ x. nat_le from x.0) es ≡ None → from_on from (map_values f es) ≡ []
  unfolding map_values
  none_from from [] is = refl
  none_from from (x ∷ es) is = by (nat_le from x.0) is (none_from from es)
    where
      by : (b : Bool) → cond b (Some x) (find_first (λ y. nat_le from y.0) es) ≡ None
          → (find_first (λ y. nat_le from y.0) es ≡ None → from_on from (map_values f es) ≡ [])
          → cond b ((x.0, f x.1) ∷ from_on from (map_values f es)) (from_on from (map_values f es)) ≡ []
      by true is again = cc
      by false is again = again is

-- What an uplink keeps after each of its calls.
use Rattle.std.proofs.Common.{◌≡◌, ℕ, suc, ◌+◌, ◌-◌, ◌<◌, ◌≤◌, Bool, true, false, cond, not, nat_lt, List, [], ◌∷◌, ◌++◌, length, Option, Some, None, Ok, Err, refl, sym, ap, ◌∙◌, subst, arith, length-append}
use Rattle.std.specs.Prelude.{Result, IsSome, OnOk, OnErr}
use Rattle.std.specs.List.{AllByRecursion, filter}
use Rattle.std.proofs.lemmas.List.Filters.{length-filter_both}
use Rattle.gnb_types.specs.declared.names.SnBits.{SnBits}
use Rattle.gnb_types.specs.declared.keys.EntityKey.{EntityKey}
use Rattle.gnb_types.specs.Orders.{entity_cmp}
use Rattle.tables.specs.Tables.{at, map_values}
use Rattle.pdcp_defs.specs.Senders.{Sender, confirmed_to, confirmed_by, is_reported}
use Rattle.pdcp_defs.specs.Counts.{count_below}
use Rattle.pdcp_defs.specs.pool_defs.Pools.{PoolState, quota, packet_at, with_quota, new_pool, AreApart, IsPool}
use Rattle.pdcp_entities.specs.Bits.{bits_of}
use Rattle.pdcp_entities.specs.Packets.{AreParked, HasNone, Frees, all_freed, octets_at, octets_in}
use Rattle.pdcp_entities.specs.Entities.{TxState, new_tx, sender_in, confirmed_if, confirmed_number, confirmed_report, named_by_number, named_by_report, up_to}
use Rattle.pdcp_bearers.specs.ue_bearers.Senders.{SenderState, new_sender_state, used as in_use, IsPacket}
use Rattle.pdcp_bearers.specs.ue_bearers.inside.Views.{IsSender, IsAscending, sender_state}
use Rattle.pdcp_bearers.proofs.ue_bearers.RefLemmas.{at_here}
use Rattle.pdcp_bearers.proofs.ue_bearers.FreedLemmas.{pool_sole, all_freed_fewer}
use Rattle.pdcp_bearers.proofs.ue_bearers.UpLemmas.{all_added, all_kept, ascending_kept}

abbrev pub sender : {X : Type 0} → ℕ → List (ℕ × X) → Sender X
sender next es = record { next = next; unconfirmed = es }

-- ---- a new one

pub begins : (sn : SnBits) (limit : ℕ) (key : EntityKey) (p : PoolState) (tx : TxState) → 4 ≤ limit → limit ≤ 4096
    → p ≡ with_quota (new_pool limit) key limit → tx ≡ new_tx sn 0 limit → IsSender sn limit key 0 p tx []
unfolding quota sender_in octets_in map_values
begins sn limit key p tx least small pool entity =
    subst (λ (q : PoolState). IsSender sn limit key 0 q tx []) (sym pool)
    (subst (λ (x : TxState). IsSender sn limit key 0 (with_quota (new_pool limit) key limit) x []) (sym entity)
    (record {
      sn_is = refl;
      quota_is = refl;
      small = small;
      least = least;
      frozen = refl;
      blocks = at_here key limit;
      parked = record { there = tt; apart = tt };
      held_is = refl;
      few = omega arith;
      room = omega arith;
      fits = omega arith;
      ascending = tt;
      below = tt;
      packets = tt;
      waiting_packets = tt;
    }))

pub begins_seen : (sn : SnBits) (limit : ℕ) (p : PoolState) (tx : TxState) → tx ≡ new_tx sn 0 limit
    → sender_state sn limit p tx [] ≡ new_sender_state sn limit
unfolding sender_in octets_in map_values
begins_seen sn limit p tx entity = ap (λ (x : TxState). sender_state sn limit p x []) entity

-- ---- how much is used

length_mapped : {X Y : Type 0} (f : X → Y) (es : List (ℕ × X)) → length (map_values f es) ≡ length es
unfolding map_values
length_mapped f [] = refl
length_mapped f (e ∷ es) = ap (λ n. suc n) (length_mapped f es)

pub held_length : (p : PoolState) (tx : TxState) → length (sender_in p tx).unconfirmed ≡ length tx.sender.unconfirmed
unfolding sender_in octets_in
held_length p tx = length_mapped (octets_at p) tx.sender.unconfirmed

pub used_seen : (sn : SnBits) (limit : ℕ) (p : PoolState) (tx : TxState) (waiting : List (List ℕ)) (d : SenderState) → sender_state sn limit p tx waiting ≡ d
    → (held n : ℕ) → held ≡ length tx.sender.unconfirmed → n ≡ length waiting → held + n ≡ in_use d
used_seen sn limit p tx waiting d seen held n held_is n_is =
    let same = held_length p tx in
    let all : held + n ≡ in_use (sender_state sn limit p tx waiting) = omega (arith, same, held_is, n_is) in
    all ∙ ap in_use seen

-- ---- a packet waits

module _ (sn : SnBits) (limit : ℕ) (key : EntityKey) (held : ℕ) (p : PoolState) (tx : TxState) (waiting : List (List ℕ)) (old : IsSender sn limit key held p tx waiting) where
  pub kept_offered : {X E : Type 0} (r : Result X E) (after : List (List ℕ)) (packet : List ℕ) (d : SenderState)
      → OnOk r (after ≡ waiting ++ packet ∷ []) → OnErr r (after ≡ waiting) → sender_state sn limit p tx waiting ≡ d
      → in_use d < d.quota → IsPacket packet → IsSender sn limit key held p tx after
  kept_offered (Err e) after packet d ok err seen room is_packet = subst (λ (w : List (List ℕ)). IsSender sn limit key held p tx w) (sym err) old
  kept_offered (Ok x) after packet d ok err seen room is_packet =
      let room_now : in_use (sender_state sn limit p tx waiting) < limit = subst (λ (e : SenderState). in_use e < e.quota) (sym seen) room in
      let same = held_length p tx in
      let held_is = old.held_is in
      subst (λ (w : List (List ℕ)). IsSender sn limit key held p tx w) (sym ok)
      (record {
        sn_is = old.sn_is;
        quota_is = old.quota_is;
        small = old.small;
        least = old.least;
        frozen = old.frozen;
        blocks = old.blocks;
        parked = old.parked;
        held_is = old.held_is;
        few = old.few;
        room = omega (arith, room_now, same, held_is, length-append waiting (packet ∷ []));
        fits = old.fits;
        ascending = old.ascending;
        below = old.below;
        packets = old.packets;
        waiting_packets = all_added IsPacket waiting packet old.waiting_packets is_packet;
      })

  -- ---- packets are confirmed

  pub kept_freed : (t u : ℕ × ℕ → Bool) (v : ℕ × List ℕ → Bool) (other : (x : ℕ × ℕ) → u x ≡ not (t x)) (q : PoolState) (ty : TxState) (count : ℕ)
      → ty ≡ record tx { sender = sender tx.sender.next (filter u tx.sender.unconfirmed) }
      → count ≡ length (filter t tx.sender.unconfirmed) → Frees (filter t tx.sender.unconfirmed) p q
      → (sender_in q ty).unconfirmed ≡ filter v (sender_in p tx).unconfirmed
      → AreParked q ty.sender.unconfirmed → IsPool 2048 p
      → IsSender sn limit key (held - count) q ty waiting
  unfolding quota
  kept_freed t u v other q ty count after count_is frees octets parked sound =
      let es = tx.sender.unconfirmed in
      let parts = length-filter_both t u other es in
      let refs = all_freed_fewer (filter t es) p (pool_sole 2048 p sound) (all_kept (λ e. IsSome (packet_at p e.1)) t es old.parked.there) (apart_kept es old.parked.apart) in
      let refs_now : length q.refs ≡ length (all_freed p (filter t es)).refs = ap (λ (x : PoolState). length x.refs) frees.pool in
      let list : ty.sender.unconfirmed ≡ filter u es = ap (λ (x : TxState). x.sender.unconfirmed) after in
      let next : ty.sender.next ≡ tx.sender.next = ap (λ (x : TxState). x.sender.next) after in
      let size : length ty.sender.unconfirmed ≡ length (filter u es) = ap (λ (xs : List (ℕ × ℕ)). length xs) list in
      let held_is = old.held_is in
      let few = old.few in
      let room = old.room in
      let fits = old.fits in
      record {
        sn_is = ap (λ (x : TxState). x.sn) after ∙ old.sn_is;
        quota_is = ap (λ (x : TxState). x.quota) after ∙ old.quota_is;
        small = old.small;
        least = old.least;
        frozen = ap (λ (x : TxState). x.frozen) after ∙ old.frozen;
        blocks = ap (λ (m : List (EntityKey × ℕ)). at entity_cmp 0 m key) frees.others.quotas ∙ old.blocks;
        parked = parked;
        held_is = omega (arith, parts, size, held_is, count_is);
        few = omega (arith, parts, refs, refs_now, held_is, count_is, few);
        room = omega (arith, room);
        fits = omega (arith, fits, next);
        ascending = subst (λ (xs : List (ℕ × ℕ)). IsAscending xs) (sym list) (ascending_kept u es old.ascending);
        below = subst (λ (n : ℕ). AllByRecursion (λ e. e.0 < n) ty.sender.unconfirmed) (sym next)
            (subst (λ (xs : List (ℕ × ℕ)). AllByRecursion (λ e. e.0 < tx.sender.next) xs) (sym list) (all_kept (λ e. e.0 < tx.sender.next) u es old.below));
        packets = subst (λ (xs : List (ℕ × List ℕ)). AllByRecursion (λ e. IsPacket e.1) xs) (sym octets)
            (all_kept (λ e. IsPacket e.1) v (sender_in p tx).unconfirmed old.packets);
        waiting_packets = old.waiting_packets;
      }
    where
      none_kept : (xs : List (ℕ × ℕ)) (place : ℕ) → HasNone xs place → HasNone (filter t xs) place
      none_kept xs place none = all_kept (λ e. e.1 ≡ place → ⊥) t xs none

      apart_kept : (xs : List (ℕ × ℕ)) → AreApart xs → AreApart (filter t xs)
      apart_kept [] apart = tt
      apart_kept (x ∷ xs) apart = by (t x) (apart_kept xs apart.1)
        where
          by : (b : Bool) → AreApart (filter t xs) → AreApart (cond b (x ∷ filter t xs) (filter t xs))
          by true rest = (none_kept xs x.1 apart.0, rest)
          by false rest = rest

  -- as many as were confirmed were held
  pub count_within : (t u : ℕ × ℕ → Bool) (other : (x : ℕ × ℕ) → u x ≡ not (t x)) (count : ℕ)
      → count ≡ length (filter t tx.sender.unconfirmed) → count ≤ held
  count_within t u other count count_is =
      let parts = length-filter_both t u other tx.sender.unconfirmed in
      let held_is = old.held_is in
      omega (arith, parts, held_is, count_is)

  -- by a number
  pub kept_confirmed : (q : PoolState) (ty : TxState) (number count : ℕ) → ty ≡ record tx { sender = confirmed_number tx.sn tx.sender number }
      → count ≡ length (named_by_number tx.sn tx.sender number) → Frees (named_by_number tx.sn tx.sender number) p q
      → sender_in q ty ≡ confirmed_number tx.sn (sender_in p tx) number → AreParked q ty.sender.unconfirmed → IsPool 2048 p
      → (count ≤ held) × IsSender sn limit key (held - count) q ty waiting
  unfolding confirmed_number named_by_number confirmed_to sender_in
  kept_confirmed q ty number count after count_is frees octets parked sound =
      by (count_below tx.sn tx.sender.next number) after count_is frees (ap (λ (s : Sender (List ℕ)). s.unconfirmed) octets)
    where
      back : (b : Bool) → b ≡ not (not b)
      back true = refl
      back false = refl

      all_is : {X : Type 0} (xs : List X) → filter (λ x. true) xs ≡ xs
      all_is [] = refl
      all_is {X} (x ∷ xs) = ap (λ (ys : List X). x ∷ ys) (all_is xs)

      none_is : {X : Type 0} (xs : List X) → filter (λ x. false) xs ≡ []
      none_is [] = refl
      none_is (x ∷ xs) = none_is xs

      by : (o : Option ℕ) → ty ≡ record tx { sender = confirmed_if tx.sender o } → count ≡ length (up_to o tx.sender.unconfirmed)
          → Frees (up_to o tx.sender.unconfirmed) p q
          → (sender_in q ty).unconfirmed ≡ (confirmed_if (sender_in p tx) o).unconfirmed
          → (count ≤ held) × IsSender sn limit key (held - count) q ty waiting
      by None after count_is frees octets =
          let es = tx.sender.unconfirmed in
          let none = none_is es in
          let count_now : count ≡ length (filter (λ x. false) es) = count_is ∙ sym (ap (λ (xs : List (ℕ × ℕ)). length xs) none) in (
            count_within (λ x. false) (λ x. true) (λ x. refl) count count_now,
            kept_freed (λ x. false) (λ x. true) (λ x. true) (λ x. refl) q ty count
                (after ∙ ap (λ (xs : List (ℕ × ℕ)). record tx { sender = sender tx.sender.next xs }) (sym (all_is es))) count_now
                (subst (λ (xs : List (ℕ × ℕ)). Frees xs p q) (sym none) frees) (octets ∙ sym (all_is (sender_in p tx).unconfirmed)) parked sound,
          )
      by (Some c) after count_is frees octets = (
        count_within (λ e. not (nat_lt c e.0)) (λ e. nat_lt c e.0) (λ e. back (nat_lt c e.0)) count count_is,
        kept_freed (λ e. not (nat_lt c e.0)) (λ e. nat_lt c e.0) (λ e. nat_lt c e.0) (λ e. back (nat_lt c e.0)) q ty count after count_is frees octets
            parked sound,
      )

  -- by a status report
  pub kept_reported : (q : PoolState) (ty : TxState) (fmc : ℕ) (bits : List ℕ) (count : ℕ) → ty ≡ record tx { sender = confirmed_report tx.sender fmc bits }
      → count ≡ length (named_by_report tx.sender fmc bits) → Frees (named_by_report tx.sender fmc bits) p q
      → sender_in q ty ≡ confirmed_report (sender_in p tx) fmc bits → AreParked q ty.sender.unconfirmed → IsPool 2048 p
      → (count ≤ held) × IsSender sn limit key (held - count) q ty waiting
  unfolding confirmed_report named_by_report confirmed_by
  kept_reported q ty fmc bits count after count_is frees octets parked sound = (
    count_within (λ e. is_reported fmc (bits_of bits) e.0) (λ e. not (is_reported fmc (bits_of bits) e.0)) (λ e. refl) count count_is,
    kept_freed (λ e. is_reported fmc (bits_of bits) e.0) (λ e. not (is_reported fmc (bits_of bits) e.0)) (λ e. not (is_reported fmc (bits_of bits) e.0))
        (λ e. refl) q ty count after count_is frees (ap (λ (s : Sender (List ℕ)). s.unconfirmed) octets) parked sound,
  )

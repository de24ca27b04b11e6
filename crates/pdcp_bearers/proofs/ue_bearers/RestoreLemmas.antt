-- A packet that another entity numbered is held, or given up again.
use Rattle.std.proofs.Common.{◌≡◌, ℕ, ◌+◌, ◌-◌, ◌^◌, ◌<◌, Bool, true, false, ◌&&◌, nat_lt, nat_le, List, [], ◌∷◌, ◌++◌, length, Option, Some, None, refl, sym, ap, ◌∙◌, subst, arith, length-append}
use Rattle.std.specs.Prelude.{IsTrue}
use Rattle.std.specs.List.{AllByRecursion}
use borrow.Author.Tests.{ltb-true}
use Rattle.gnb_types.specs.declared.names.SnBits.{SnBits}
use Rattle.gnb_types.specs.declared.keys.EntityKey.{EntityKey}
use Rattle.gnb_types.specs.Orders.{entity_cmp}
use Rattle.std.specs.Ordering.{nat_cmp}
use Rattle.tables.specs.Tables.{find, at, map_values}
use Rattle.pdcp_defs.specs.Senders.{Sender, last_of, is_above, window, may_restore, restored, new_sender, emptied}
use Rattle.pdcp_defs.specs.pool_defs.Pools.{PoolState, quota, packet_of, with_packet, IsPool}
use Rattle.pdcp_entities.specs.Packets.{AreParked, Parks, Frees, all_freed, bytes_of, octets_at, octets_in}
use Rattle.pdcp_entities.specs.Entities.{TxState, new_tx, sender_in}
use Rattle.pdcp_bearers.specs.ue_bearers.Senders.{SenderState, used as in_use, IsPacket}
use Rattle.pdcp_bearers.specs.ue_bearers.inside.Views.{IsSender, IsAscending, sender_state}
use Rattle.pdcp_bearers.proofs.ue_bearers.UpLemmas.{up, all_added, ascending_added}
use Rattle.pdcp_bearers.proofs.ue_bearers.KeptLemmas.{used_seen, held_length}
use Rattle.pdcp_bearers.proofs.ue_bearers.FreedLemmas.{pool_sole, all_freed_fewer}
use Rattle.pdcp_bearers.proofs.ue_bearers.PutLemmas.{more_with, seen_with, bytes_with}

-- ---- what a COUNT that may be held again says

both_last : (a b c : Bool) → (a && b && c) ≡ true → (b ≡ true) × (c ≡ true)
both_last true true true e = (refl, refl)
both_last true true false e = cc
both_last true false true e = cc
both_last true false false e = cc
both_last false true true e = cc
both_last false true false e = cc
both_last false false true e = cc
both_last false false false e = cc

below_last : (count : ℕ) (e : ℕ × ℕ) (es : List (ℕ × ℕ)) → is_above count (last_of (Some e.0) es) ≡ true → IsAscending (e ∷ es) → e.0 < count
below_last count e [] above up = ltb-true e.0 count above
below_last count e (x ∷ xs) above up =
    let first : e.0 < x.0 = up.0.0 in
    let rest = below_last count x xs above up.1 in
    omega (arith, first, rest)

-- it is above all that are held
above_all : (count : ℕ) (last : Option ℕ) (es : List (ℕ × ℕ)) → is_above count (last_of last es) ≡ true → IsAscending es
    → AllByRecursion (λ x. x.0 < count) es
above_all count last [] above up = tt
above_all count last (e ∷ es) above up = (below_last count e es above up, above_all count (Some e.0) es above up.1)

module _ (tx : TxState) (count : ℕ) (may : may_restore tx.sn tx.quota tx.sender count ≡ true) where
  parts : (nat_lt count tx.sender.next ≡ true) × (is_above count (last_of None tx.sender.unconfirmed) ≡ true)
  unfolding may_restore
  parts =
      both_last (nat_le (tx.sender.next - window tx.sn tx.quota) count) (nat_lt count tx.sender.next) (is_above count (last_of None tx.sender.unconfirmed)) may

  pub is_given : count < tx.sender.next
  is_given = ltb-true count tx.sender.next parts.0

  pub is_last : IsAscending tx.sender.unconfirmed → AllByRecursion (λ x. x.0 < count) tx.sender.unconfirmed
  is_last up = above_all count None tx.sender.unconfirmed parts.1 up

-- a COUNT that is refused may not be held
pub not_held : (b : Bool) → (IsTrue b → false ≡ true) → false ≡ b
not_held true refused = refused refl
not_held false refused = refl

-- ---- the same seen with octets

last_mapped : {X Y : Type 0} (f : X → Y) (last : Option ℕ) (es : List (ℕ × X)) → last_of last (map_values f es) ≡ last_of last es
unfolding map_values
last_mapped f last [] = refl
last_mapped f last (e ∷ es) = last_mapped f (Some e.0) es

may_in : (p : PoolState) (tx : TxState) (count : ℕ) → may_restore tx.sn tx.quota (sender_in p tx) count ≡ may_restore tx.sn tx.quota tx.sender count
unfolding may_restore sender_in octets_in
may_in p tx count =
    ap (λ (o : Option ℕ). nat_le (tx.sender.next - window tx.sn tx.quota) count && nat_lt count tx.sender.next && is_above count o)
    (last_mapped (octets_at p) None tx.sender.unconfirmed)

module _ (sn : SnBits) (limit : ℕ) (key : EntityKey) (held : ℕ) (p : PoolState) (tx : TxState) (waiting : List (List ℕ)) (old : IsSender sn limit key held p tx waiting)
    (d : SenderState) (seen : sender_state sn limit p tx waiting ≡ d) (free : in_use d < d.quota) where
  pub room_with : held < limit
  room_with =
      let used : held + length waiting ≡ in_use d = used_seen sn limit p tx waiting d seen held (length waiting) old.held_is refl in
      let limit_is : limit ≡ d.quota = ap (λ (u : SenderState). u.quota) seen in
      omega (arith, used, limit_is, free)

  room_all : held + length waiting < limit
  room_all =
      let used : held + length waiting ≡ in_use d = used_seen sn limit p tx waiting d seen held (length waiting) old.held_is refl in
      let limit_is : limit ≡ d.quota = ap (λ (u : SenderState). u.quota) seen in
      omega (arith, used, limit_is, free)

  pub may_seen : (count : ℕ) → may_restore tx.sn tx.quota tx.sender count ≡ may_restore d.sn d.quota d.sender count
  may_seen count =
      sym (may_in p tx count)
      ∙ (ap (λ (s : SnBits). may_restore s tx.quota (sender_in p tx) count) old.sn_is
      ∙ (ap (λ (q : ℕ). may_restore sn q (sender_in p tx) count) old.quota_is
      ∙ ap (λ (u : SenderState). may_restore u.sn u.quota u.sender count) seen))

  module _ (x : List ℕ) (is_packet : IsPacket x) (r : ℕ) (b : List ℕ) (b_is : b ≡ x) (sound : IsPool 2048 p) (fresh : find nat_cmp p.refs r ≡ None) (q : PoolState)
      (put_is : q ≡ with_packet p r (record { key = key; bytes = b })) (q' : PoolState) (ty : TxState) (place count : ℕ)
      (may : may_restore tx.sn tx.quota tx.sender count ≡ true)
      (ty_is : ty ≡ record tx { sender = restored tx.sender count place }) (parks : Parks r (count, place) q q')
      (octets : sender_in q' ty ≡ restored (sender_in q tx) count (bytes_of (packet_of q r))) (parked : AreParked q' ty.sender.unconfirmed) where
    octets_now : sender_in q' ty ≡ restored (sender_in p tx) count x
    octets_now =
        octets
        ∙ (ap (λ (z : Sender (List ℕ)). restored z count (bytes_of (packet_of q r))) (seen_with sn limit key held p tx waiting old x r b b_is sound fresh q put_is)
        ∙ ap (λ (v : List ℕ). restored (sender_in p tx) count v) (bytes_with sn limit key held p tx waiting old x r b b_is sound fresh q put_is))

    pub restored_seen : sender_state sn limit q' ty waiting ≡ record d { sender = restored d.sender count x }
    restored_seen =
        ap (λ (z : Sender (List ℕ)). up sn limit z waiting) octets_now
        ∙ ap (λ (u : SenderState). record u { sender = restored u.sender count x }) seen

    pub kept_restored : IsSender sn limit key (held + 1) q' ty waiting
    unfolding quota restored
    kept_restored =
        let es = tx.sender.unconfirmed in
        let e : ℕ × ℕ = (count, place) in
        let list : ty.sender.unconfirmed ≡ es ++ e ∷ [] = ap (λ (t : TxState). t.sender.unconfirmed) ty_is in
        let next : ty.sender.next ≡ tx.sender.next = ap (λ (t : TxState). t.sender.next) ty_is in
        let size : length ty.sender.unconfirmed ≡ length (es ++ e ∷ []) = ap (λ (xs : List (ℕ × ℕ)). length xs) list in
        let refs : length q'.refs ≡ length q.refs = ap (λ (s : PoolState). length s.refs) parks.pool in
        let more = more_with sn limit key held p tx waiting old x r b b_is sound fresh q put_is in
        let held_is = old.held_is in
        let few = old.few in
        let room = room_all in
        let fits = old.fits in
        record {
          sn_is = ap (λ (t : TxState). t.sn) ty_is ∙ old.sn_is;
          quota_is = ap (λ (t : TxState). t.quota) ty_is ∙ old.quota_is;
          small = old.small;
          least = old.least;
          frozen = ap (λ (t : TxState). t.frozen) ty_is ∙ old.frozen;
          blocks = ap (λ (m : List (EntityKey × ℕ)). at entity_cmp 0 m key) (parks.others.quotas ∙ ap (λ (s : PoolState). s.quotas) put_is) ∙ old.blocks;
          parked = parked;
          held_is = omega (arith, size, held_is, length-append es (e ∷ []));
          few = omega (arith, refs, more, few);
          room = omega (arith, room);
          fits = omega (arith, fits, next);
          ascending = subst (λ (xs : List (ℕ × ℕ)). IsAscending xs) (sym list) (ascending_added es e old.ascending (is_last tx count may old.ascending));
          below = subst (λ (n : ℕ). AllByRecursion (λ v. v.0 < n) ty.sender.unconfirmed) (sym next)
              (subst (λ (xs : List (ℕ × ℕ)). AllByRecursion (λ v. v.0 < tx.sender.next) xs) (sym list)
              (all_added (λ v. v.0 < tx.sender.next) es e old.below (is_given tx count may)));
          packets = subst (λ (z : Sender (List ℕ)). AllByRecursion (λ v. IsPacket v.1) z.unconfirmed) (sym octets_now)
              (all_added (λ v. IsPacket v.1) (sender_in p tx).unconfirmed (count, x) old.packets is_packet);
          waiting_packets = old.waiting_packets;
        }

-- ---- what is held is given up, and another first COUNT

module _ (sn : SnBits) (limit : ℕ) (key : EntityKey) (held : ℕ) (p : PoolState) (tx : TxState) (waiting : List (List ℕ)) (old : IsSender sn limit key held p tx waiting) where
  pub none_waits : IsSender sn limit key held p tx []
  none_waits =
      let room = old.room in
      record {
        sn_is = old.sn_is;
        quota_is = old.quota_is;
        small = old.small;
        least = old.least;
        frozen = old.frozen;
        blocks = old.blocks;
        parked = old.parked;
        held_is = old.held_is;
        few = old.few;
        room = omega (arith, room);
        fits = old.fits;
        ascending = old.ascending;
        below = old.below;
        packets = old.packets;
        waiting_packets = tt;
      }

  pub kept_begun : (ty : TxState) (next : ℕ) → tx.sender.unconfirmed ≡ [] → ty ≡ new_tx sn next limit → next < 2 ^ 32
      → IsSender sn limit key held p ty waiting
  unfolding sender_in octets_in map_values
  kept_begun ty next none after fits =
      let size : length tx.sender.unconfirmed ≡ 0 = ap (λ (es : List (ℕ × ℕ)). length es) none in
      let held_is = old.held_is in
      subst (λ (t : TxState). IsSender sn limit key held p t waiting) (sym after)
      (record {
        sn_is = refl;
        quota_is = refl;
        small = old.small;
        least = old.least;
        frozen = refl;
        blocks = old.blocks;
        parked = record { there = tt; apart = tt };
        held_is = omega (arith, size, held_is);
        few = old.few;
        room = old.room;
        fits = fits;
        ascending = tt;
        below = tt;
        packets = tt;
        waiting_packets = old.waiting_packets;
      })

  pub kept_cleared : (q : PoolState) (ty : TxState) → ty ≡ record tx { sender = emptied tx.sender } → Frees tx.sender.unconfirmed p q → IsPool 2048 p
      → IsSender sn limit key 0 q ty []
  unfolding quota sender_in octets_in map_values
  kept_cleared q ty after frees sound =
      let least = all_freed_fewer tx.sender.unconfirmed p (pool_sole 2048 p sound) old.parked.there old.parked.apart in
      let few = old.few in
      let held_is = old.held_is in
      let refs : length q.refs ≡ length (all_freed p tx.sender.unconfirmed).refs = ap (λ (x : PoolState). length x.refs) frees.pool in
      subst (λ (t : TxState). IsSender sn limit key 0 q t []) (sym after)
      (record {
        sn_is = old.sn_is;
        quota_is = old.quota_is;
        small = old.small;
        least = old.least;
        frozen = old.frozen;
        blocks = ap (λ (m : List (EntityKey × ℕ)). at entity_cmp 0 m key) frees.others.quotas ∙ old.blocks;
        parked = record { there = tt; apart = tt };
        held_is = refl;
        few = omega (arith, least, few, held_is, refs);
        room = omega arith;
        fits = old.fits;
        ascending = tt;
        below = tt;
        packets = tt;
        waiting_packets = tt;
      })

module _ (sn : SnBits) (limit : ℕ) (p : PoolState) (tx : TxState) (waiting : List (List ℕ)) (d : SenderState) (seen : sender_state sn limit p tx waiting ≡ d) where
  -- where nothing is unconfirmed the entity holds nothing
  pub none_inside : d.sender.unconfirmed ≡ [] → tx.sender.unconfirmed ≡ []
  none_inside none =
      nothing tx.sender.unconfirmed
      (sym (held_length p tx) ∙ (ap (λ (u : SenderState). length u.sender.unconfirmed) seen ∙ ap (λ (es : List (ℕ × List ℕ)). length es) none))
    where
      nothing : (es : List (ℕ × ℕ)) → length es ≡ 0 → es ≡ []
      nothing [] is = refl
      nothing (e ∷ es) is = absurd (omega (arith, is))

  pub begun_seen : (ty : TxState) (next : ℕ) → ty ≡ new_tx sn next limit → sender_state sn limit p ty waiting ≡ record d { sender = new_sender next }
  unfolding sender_in octets_in map_values
  begun_seen ty next after =
      ap (λ (t : TxState). sender_state sn limit p t waiting) after ∙ ap (λ (u : SenderState). record u { sender = new_sender next }) seen

  pub cleared_seen : (q : PoolState) (ty : TxState) → ty ≡ record tx { sender = emptied tx.sender }
      → sender_state sn limit q ty [] ≡ record d { sender = emptied d.sender; waiting = [] }
  unfolding sender_in octets_in map_values
  cleared_seen q ty after =
      ap (λ (t : TxState). sender_state sn limit q t []) after ∙ ap (λ (u : SenderState). record u { sender = emptied u.sender; waiting = [] }) seen

  pub next_seen : tx.sender.next ≡ d.sender.next
  unfolding sender_in
  next_seen = ap (λ (u : SenderState). u.sender.next) seen

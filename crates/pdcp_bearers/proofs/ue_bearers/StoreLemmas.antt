-- What is seen of the packets that a downlink stores, and what it keeps when they are given up.
use Rattle.std.proofs.Common.{◌≡◌, ℕ, ◌+◌, ◌-◌, ◌^◌, ◌<◌, ◌≤◌, Bool, true, false, cond, nat_lt, nat_le, List, [], ◌∷◌, ◌++◌, length, Option, Some, None, refl, sym, ap, ◌∙◌, subst, arith, length-append}
use Rattle.std.proofs.lemmas.Bool.Decides.{nat_tests}
use Rattle.std.proofs.lemmas.List.{length-replicate}
use Rattle.std.specs.Prelude.{IsSome, replicate, find as find_first}
use Rattle.std.specs.Option.{option_map}
use Rattle.std.specs.Ordering.{nat_cmp}
use Rattle.std.specs.Map.{lookup}
use Rattle.std.specs.BTreeMap.{is_at}
use Rattle.std.specs.List.{AllByRecursion}
use Rattle.gnb_types.specs.declared.names.SnBits.{SnBits}
use Rattle.gnb_types.specs.declared.keys.EntityKey.{EntityKey}
use Rattle.gnb_types.specs.Orders.{entity_cmp}
use Rattle.tables.specs.Tables.{find, at, map_values}
use Rattle.pdcp_defs.specs.Receivers.{new_receiver, bits_from, received_bits}
use Rattle.pdcp_defs.specs.pool_defs.Pools.{Stored, PoolState, quota, used, packet_by, packet_at, IsPool}
use Rattle.pdcp_entities.specs.Packets.{Frees, all_freed, octets_at, octets_in}
use Rattle.pdcp_entities.specs.Entities.{RxState, new_rx, receiver_in, cleared}
use Rattle.pdcp_bearers.specs.ue_bearers.Senders.{from_on}
use Rattle.pdcp_bearers.specs.ue_bearers.Receivers.{ReceiverState}
use Rattle.pdcp_bearers.specs.ue_bearers.inside.Views.{IsReceiver, receiver_state}
use Rattle.pdcp_bearers.proofs.ue_bearers.RefLemmas.{used_few}
use Rattle.pdcp_bearers.proofs.ue_bearers.FreedLemmas.{pool_sole, all_freed_fewer}
use Rattle.pdcp_bearers.proofs.ue_bearers.UpLemmas.{found_all, least_from, none_from}
use Rattle.pdcp_bearers.proofs.ue_bearers.DownLemmas.{bits_in, stored_length, octets_are}

pub deliv_seen : (sn : SnBits) (limit : ℕ) (p : PoolState) (rx : RxState) (d : ReceiverState) → receiver_state sn limit p rx ≡ d
    → rx.receiver.deliv ≡ d.receiver.deliv
unfolding receiver_in
deliv_seen sn limit p rx d seen = ap (λ (e : ReceiverState). e.receiver.deliv) seen

-- a bit for each COUNT below a bound, at most
bits_most : (bound next : ℕ) (es : List (ℕ × ℕ)) → AllByRecursion (λ e. e.0 < bound) es → length (bits_from next es) ≤ bound - next
bits_most bound next [] all = omega arith
bits_most bound next (e ∷ es) all = by (nat_lt e.0 next) refl (bits_most bound next es all.1) (bits_most bound (e.0 + 1) es all.1)
  where
    by : (b : Bool) → nat_lt e.0 next ≡ b → length (bits_from next es) ≤ bound - next → length (bits_from (e.0 + 1) es) ≤ bound - (e.0 + 1)
        → length (cond b (bits_from next es) (replicate (e.0 - next) false ++ true ∷ bits_from (e.0 + 1) es)) ≤ bound - next
    by true is low high = low
    by false is low high =
        let above : next ≤ e.0 = grind (arith, nat_tests) in
        let below : e.0 < bound = all.0 in
        let size = length-append (replicate (e.0 - next) false) (true ∷ bits_from (e.0 + 1) es) in
        let zeros = length-replicate (e.0 - next) false in
        omega (arith, size, zeros, high, above, below)

-- ---- a packet at a place is within a block

within_at : (limit : ℕ) (refs : List (ℕ × Stored)) (r : ℕ) (bytes : List ℕ) → AllByRecursion (λ e. length e.1.bytes ≤ limit) refs
    → option_map (λ packet. packet.bytes) (find nat_cmp refs r) ≡ Some bytes → length bytes ≤ limit
unfolding find
within_at limit [] r bytes all is = absurd cc
within_at limit (e ∷ es) r bytes all is = by (within_at limit es r bytes all.1) (is_at (nat_cmp r) e.0) is
  where
    by : (option_map (λ packet. packet.bytes) (find nat_cmp es r) ≡ Some bytes → length bytes ≤ limit) → (t : Bool)
        → option_map (λ packet. packet.bytes) (cond t (Some e.1) (lookup (is_at (nat_cmp r)) es)) ≡ Some bytes → length bytes ≤ limit
    by later true h = let same : e.1.bytes ≡ bytes = cc in subst (λ (b : List ℕ). length b ≤ limit) same all.0
    by later false h = later h

sized_at : (limit : ℕ) (p : PoolState) (place : ℕ) (bytes : List ℕ) → IsPool limit p
    → option_map (λ packet. packet.bytes) (packet_at p place) ≡ Some bytes → length bytes ≤ limit
unfolding packet_at
sized_at limit p place bytes sound is = by (find nat_cmp p.parked place) is
  where
    by : (o : Option ℕ) → option_map (λ packet. packet.bytes) (packet_by p o) ≡ Some bytes → length bytes ≤ limit
    by None h = absurd cc
    by (Some r) h = within_at limit p.refs r bytes sound.sized h

module _ (sn : SnBits) (limit : ℕ) (key : EntityKey) (p : PoolState) (rx : RxState) (old : IsReceiver sn limit key p rx) where
  -- as many references as packets are stored
  pub refs_are : IsPool 2048 p → length p.refs ≡ length rx.receiver.stored
  refs_are sound =
      let least = all_freed_fewer rx.receiver.stored p (pool_sole 2048 p sound) old.parked.there old.parked.apart in
      let few = old.few in
      omega (arith, least, few)

  pub kept_cleared : (q : PoolState) (ry : RxState) → ry ≡ record rx { receiver = cleared rx.receiver } → Frees rx.receiver.stored p q → IsPool 2048 p
      → IsReceiver sn limit key q ry
  unfolding quota receiver_in octets_in map_values
  kept_cleared q ry after frees sound =
      let least = all_freed_fewer rx.receiver.stored p (pool_sole 2048 p sound) old.parked.there old.parked.apart in
      let few = old.few in
      let refs : length q.refs ≡ length (all_freed p rx.receiver.stored).refs = ap (λ (x : PoolState). length x.refs) frees.pool in
      let less = used_few q key in
      subst (λ (x : RxState). IsReceiver sn limit key q x) (sym after)
      (record {
        sn_is = old.sn_is;
        quota_is = old.quota_is;
        frozen = old.frozen;
        blocks = ap (λ (m : List (EntityKey × ℕ)). at entity_cmp 0 m key) frees.others.quotas ∙ old.blocks;
        parked = record { there = tt; apart = tt };
        few = omega (arith, least, few, refs);
        own = omega (arith, least, few, refs, less);
        fits = tt;
        near = tt;
        small = old.small;
        least = old.least;
        ascending = tt;
      })

  pub kept_begun : (ry : RxState) (deliv : ℕ) → rx.receiver.stored ≡ [] → ry ≡ new_rx sn deliv limit → IsReceiver sn limit key p ry
  unfolding receiver_in octets_in map_values
  kept_begun ry deliv none after =
      let few = old.few in
      let size : length rx.receiver.stored ≡ 0 = ap (λ (es : List (ℕ × ℕ)). length es) none in
      subst (λ (x : RxState). IsReceiver sn limit key p x) (sym after)
      (record {
        sn_is = refl;
        quota_is = refl;
        frozen = refl;
        blocks = old.blocks;
        parked = record { there = tt; apart = tt };
        few = omega (arith, few, size);
        own = old.own;
        fits = tt;
        near = tt;
        small = old.small;
        least = old.least;
        ascending = tt;
      })

  -- a report is short
  pub bits_short : length (received_bits rx.receiver) ≤ 4096
  unfolding received_bits
  bits_short =
      let most = bits_most (rx.receiver.deliv + limit) (rx.receiver.deliv + 1) rx.receiver.stored old.near in
      let small = old.small in
      omega (arith, most, small)

  module _ (d : ReceiverState) (seen : receiver_state sn limit p rx ≡ d) where
    pub length_seen : (n : ℕ) → n ≡ used p key → IsPool 2048 p → n ≡ length d.receiver.stored
    length_seen n n_is sound =
        n_is ∙ (old.own ∙ (refs_are sound ∙ (sym (stored_length p rx) ∙ ap (λ (e : ReceiverState). length e.receiver.stored) seen)))

    pub short_seen : length (received_bits d.receiver) ≤ 4096
    unfolding receiver_in
    short_seen =
        subst (λ (bs : List Bool). length bs ≤ 4096) (sym (bits_in p rx) ∙ ap (λ (e : ReceiverState). received_bits e.receiver) seen) bits_short

    pub begun_seen : (ry : RxState) (deliv : ℕ) → ry ≡ new_rx sn deliv limit → receiver_state sn limit p ry ≡ record d { receiver = new_receiver deliv }
    unfolding receiver_in octets_in map_values
    begun_seen ry deliv after =
        ap (λ (x : RxState). receiver_state sn limit p x) after ∙ ap (λ (e : ReceiverState). record e { receiver = new_receiver deliv }) seen

    pub cleared_seen : (q : PoolState) (ry : RxState) → ry ≡ record rx { receiver = cleared rx.receiver }
        → receiver_state sn limit q ry ≡ record d { receiver = record d.receiver { stored = [] } }
    unfolding receiver_in octets_in map_values
    cleared_seen q ry after =
        ap (λ (x : RxState). receiver_state sn limit q x) after ∙ ap (λ (e : ReceiverState). record e { receiver = record e.receiver { stored = [] } }) seen

    -- where nothing is stored the entity stores nothing
    pub none_inside : d.receiver.stored ≡ [] → rx.receiver.stored ≡ []
    none_inside none =
        nothing rx.receiver.stored (sym (stored_length p rx) ∙ ap (λ (e : ReceiverState). length e.receiver.stored) seen ∙ ap (λ (es : List (ℕ × List ℕ)). length es) none)
      where
        nothing : (es : List (ℕ × ℕ)) → length es ≡ 0 → es ≡ []
        nothing [] is = refl
        nothing (e ∷ es) is = absurd (omega (arith, is))

    module _ (from : ℕ) where
      pub none_stored : find_first (λ x. nat_le from x.0) rx.receiver.stored ≡ None → from_on from d.receiver.stored ≡ []
      unfolding receiver_in octets_in
      none_stored none =
          subst (λ (e : ReceiverState). from_on from e.receiver.stored ≡ []) seen (none_from (octets_at p) from rx.receiver.stored none)

      module _ (e : ℕ × ℕ) (is : find_first (λ x. nat_le from x.0) rx.receiver.stored ≡ Some e) where
        pub parked_stored : IsSome (packet_at p e.1)
        parked_stored = found_all (λ x. IsSome (packet_at p x.1)) from rx.receiver.stored e old.parked.there is

        pub least_stored : (bytes : List ℕ) → option_map (λ packet. packet.bytes) (packet_at p e.1) ≡ Some bytes → IsPool 2048 p
            → (from_on from d.receiver.stored ≡ (e.0, bytes) ∷ from_on (e.0 + 1) d.receiver.stored) × (length bytes ≤ 2048) × (e.0 < 2 ^ 32 - 1)
        unfolding receiver_in octets_in
        least_stored bytes bytes_are sound =
            let f = octets_at p in
            let es = rx.receiver.stored in
            let same : f e.1 ≡ bytes = octets_are (packet_at p e.1) bytes bytes_are in (
              subst (λ (x : ReceiverState). from_on from x.receiver.stored ≡ (e.0, bytes) ∷ from_on (e.0 + 1) x.receiver.stored) seen
                  (subst (λ (b : List ℕ). from_on from (map_values f es) ≡ (e.0, b) ∷ from_on (e.0 + 1) (map_values f es)) same (least_from f from es e old.ascending is)),
              sized_at 2048 p e.1 bytes sound bytes_are,
              found_all (λ x. x.0 < 2 ^ 32 - 1) from es e old.fits is,
            )

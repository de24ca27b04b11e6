use Rattle.std.proofs.Common.{◌≡◌, ℕ, ◌+◌, ◌<◌, ◌≤◌, List, [], ◌∷◌, Option, None, Some, length, sym, ap, ◌∙◌, subst, refl, arith}
use Rattle.std.specs.Prelude.{IsSome, slice_get, unwrap_or}
use Rattle.std.specs.Ordering.{nat_cmp}
use Rattle.packet_pool.specs.declared.region.TheConstants.{BLOCK}
use Rattle.tables.specs.Tables.{find, put}
use Rattle.pdcp_defs.specs.Receivers.{is_duplicate, is_ahead, stored}
use Rattle.pdcp_defs.specs.pool_defs.Pools.{Stored, PoolState, packet_of, used, with_packet, with_place}
use Rattle.pdcp_defs.proofs.pool_defs.PoolLaws.{packet_of_put}
use Rattle.pdcp_entities.specs.Packets.{AreParked, Puts, octets_in}
use Rattle.pdcp_entities.specs.Entities.{RxState, receiver_in}
use Rattle.pdcp_entities.specs.inside.Rings.{held}
use Rattle.pdcp_entities.proofs.ParkLemmas.{puts, puts_parked, puts_octets, puts_used}
use Rattle.pdcp_entities.proofs.RxLemmas.{receiver, new_count, has_place, not_full, receivers}
use Rattle.pdcp_entities.proofs.rx.Rx.store.Goals as goal

pub park-place-requires : goal.park-place-requires
park-place-requires c =
    let x : Stored = record { key = c.args.key; bytes = c.args.packet.now } in
    let packet = packet_of_put BLOCK c.args.pool.now c.put.ensures.sound c.in-Ok.r x c.in-Ok.ensures.fresh in
    subst (λ (o : Option Stored). IsSome o) (sym (ap (λ (p : PoolState). packet_of p c.in-Ok.r) c.in-Ok.ensures.ok ∙ packet)) refl

pub unreachable-requires : goal.unreachable-requires
unreachable-requires c =
    let t = c.self.inside in
    let ring = t.stored in
    let new = new_count ring.first c.args.count ring.slots.items (ap (λ (v : RxState). is_duplicate v.receiver c.args.count) c.self.view_is ∙ c.requires.new) in
    let room = has_place t.quota c.args.count (receiver ring.first (held ring)) (ap (λ (v : RxState). is_ahead v.quota v.receiver c.args.count) c.self.view_is ∙ c.requires.room) in
    let few = not_full ring.first c.args.count t.quota ring.slots.items c.self.invariant.short new.0 room new.1 in
    let size = ap (λ (v : RxState). length v.receiver.stored) c.self.view_is in
    let quota = ap (λ (v : RxState). v.quota) c.self.view_is in
    omega (arith, few, size, quota, c.requires.quota, c.requires.used, c.in-Err.ensures.refused)

pub place-requires-clause-from : goal.place-requires-clause-from
place-requires-clause-from c =
    let ring = c.self.inside.stored in
    (new_count ring.first c.args.count ring.slots.items (ap (λ (v : RxState). is_duplicate v.receiver c.args.count) c.self.view_is ∙ c.requires.new)).0

pub place-requires-clause-room : goal.place-requires-clause-room
place-requires-clause-room c =
    let t = c.self.inside in
    let ring = t.stored in
    let room = has_place t.quota c.args.count (receiver ring.first (held ring)) (ap (λ (v : RxState). is_ahead v.quota v.receiver c.args.count) c.self.view_is ∙ c.requires.room) in
    omega (arith, room, c.self.invariant.capacity)

pub place-requires-clause-empty : goal.place-requires-clause-empty
place-requires-clause-empty c =
    let ring = c.self.inside.stored in
    (new_count ring.first c.args.count ring.slots.items (ap (λ (v : RxState). is_duplicate v.receiver c.args.count) c.self.view_is ∙ c.requires.new)).1

pub returns-clause-stored : goal.returns-clause-stored
unfolding stored
returns-clause-stored c =
    let t = c.self.inside in
    let place = c.park-place.result in
    let x : Stored = record { key = c.args.key; bytes = c.args.packet.now } in
    let e : ℕ × ℕ = (c.args.count, place) in
    let pool = c.park-place.ensures.parked ∙ ap (λ (p : PoolState). with_place p place c.in-Ok.r) c.in-Ok.ensures.ok in
    let fresh = ap (λ (p : PoolState). find nat_cmp p.parked place) (sym c.in-Ok.ensures.ok) ∙ c.park-place.ensures.fresh in (
      place,
      ap (λ (n : ℕ). record { sn = t.sn; quota = t.quota; frozen = t.frozen; receiver = record { deliv = n; stored = held c.place.new.self } }) c.place.ensures.first
          ∙ (ap (λ (es : List (ℕ × ℕ)). record { sn = t.sn; quota = t.quota; frozen = t.frozen; receiver = record { deliv = t.stored.first; stored = es } }) c.place.ensures.held
          ∙ ap (λ (v : RxState). record { sn = v.sn; quota = v.quota; frozen = v.frozen; receiver = stored v.receiver c.args.count place }) c.self.view_is),
      subst (λ (q : PoolState). Puts x e c.args.pool.now q) (sym pool)
          (puts BLOCK c.args.pool.now c.put.ensures.sound c.in-Ok.r x e c.in-Ok.ensures.fresh fresh),
    )

pub returns-clause-octets : goal.returns-clause-octets
unfolding stored receiver_in
returns-clause-octets c =
    let t = c.self.inside in
    let old = c.args.self.now in
    let place = c.park-place.result in
    let p = c.args.pool.now in
    let q = c.park-place.new.self in
    let x : Stored = record { key = c.args.key; bytes = c.args.packet.now } in
    let e : ℕ × ℕ = (c.args.count, place) in
    let pool = c.park-place.ensures.parked ∙ ap (λ (s : PoolState). with_place s place c.in-Ok.r) c.in-Ok.ensures.ok in
    let fresh = ap (λ (s : PoolState). find nat_cmp s.parked place) (sym c.in-Ok.ensures.ok) ∙ c.park-place.ensures.fresh in
    let put_there = subst (λ (s : PoolState). Puts x e p s) (sym pool) (puts BLOCK p c.put.ensures.sound c.in-Ok.r x e c.in-Ok.ensures.fresh fresh) in
    let held_now = c.place.ensures.held ∙ ap (λ (v : RxState). put nat_cmp v.receiver.stored c.args.count place) c.self.view_is in
    receivers (c.place.ensures.first ∙ ap (λ (v : RxState). v.receiver.deliv) c.self.view_is)
    (ap (octets_in q) held_now ∙ puts_octets x e p q old.receiver.stored put_there c.requires.parked)

pub returns-clause-parked : goal.returns-clause-parked
returns-clause-parked c =
    let old = c.args.self.now in
    let place = c.park-place.result in
    let p = c.args.pool.now in
    let q = c.park-place.new.self in
    let x : Stored = record { key = c.args.key; bytes = c.args.packet.now } in
    let e : ℕ × ℕ = (c.args.count, place) in
    let pool = c.park-place.ensures.parked ∙ ap (λ (s : PoolState). with_place s place c.in-Ok.r) c.in-Ok.ensures.ok in
    let fresh = ap (λ (s : PoolState). find nat_cmp s.parked place) (sym c.in-Ok.ensures.ok) ∙ c.park-place.ensures.fresh in
    let put_there = subst (λ (s : PoolState). Puts x e p s) (sym pool) (puts BLOCK p c.put.ensures.sound c.in-Ok.r x e c.in-Ok.ensures.fresh fresh) in
    let held_now = c.place.ensures.held ∙ ap (λ (v : RxState). put nat_cmp v.receiver.stored c.args.count place) c.self.view_is in
    subst (λ (es : List (ℕ × ℕ)). AreParked q es) (sym held_now) (puts_parked x e p q old.receiver.stored put_there c.requires.parked)

pub returns-clause-used : goal.returns-clause-used
returns-clause-used c =
    let place = c.park-place.result in
    let p = c.args.pool.now in
    let x : Stored = record { key = c.args.key; bytes = c.args.packet.now } in
    let pool = c.park-place.ensures.parked ∙ ap (λ (s : PoolState). with_place s place c.in-Ok.r) c.in-Ok.ensures.ok in
    let more = puts_used BLOCK p c.put.ensures.sound c.in-Ok.r x place c.in-Ok.ensures.fresh in
    let size = ap (λ (v : RxState). length v.receiver.stored) c.self.view_is in
    let now = ap (λ (s : PoolState). used s c.args.key) pool in
    let added = c.place.ensures.more in
    omega (arith, now, more, size, added)

pub invariant_of-self : goal.invariant_of-self
invariant_of-self c =
    let t = c.self.inside in
    let ring = t.stored in
    let inv = c.self.invariant in
    let room = has_place t.quota c.args.count (receiver ring.first (held ring)) (ap (λ (v : RxState). is_ahead v.quota v.receiver c.args.count) c.self.view_is ∙ c.requires.room) in
    let facts = c.place.ensures in
    record {
      bounds = inv.bounds;
      capacity = facts.capacity ∙ inv.capacity;
      short = omega (arith, facts.end, facts.first, room, inv.short);
      last_full = facts.last_full;
      in_range = omega (arith, facts.end, inv.in_range, c.requires.given);
    }

use Rattle.std.proofs.Common.{◌≡◌, ℕ, ◌+◌, Bool, List, [], ◌∷◌, Option, Some, None, length, drop, cond, sym, ap, ◌∙◌, subst, refl, arith}
use Rattle.std.specs.Prelude.{IsSome}
use Rattle.packet_pool.specs.declared.region.TheConstants.{BLOCK}
use Rattle.pdcp_defs.specs.Receivers.{deliver, with_packet}
use Rattle.pdcp_defs.specs.pool_defs.Pools.{Stored, PoolState, packet_of, without_place}
use Rattle.pdcp_entities.specs.Packets.{AreParked, Unparks, bytes_of, octets_in}
use Rattle.pdcp_entities.specs.Entities.{RxState, receiver_in, handed_up, first_at, advanced}
use Rattle.pdcp_entities.specs.inside.Rings.{held, held_from}
use Rattle.pdcp_entities.proofs.ParkLemmas.{unparks, unparks_parked, unparks_octets}
use Rattle.pdcp_entities.proofs.RxLemmas.{receiver, receivers, first_slot, first_empty, first_here, delivers}
use Rattle.pdcp_entities.proofs.rx.Rx.next.Goals as goal

pub returns-then-self-clause-none : goal.returns-then-self-clause-none
unfolding handed_up
returns-then-self-clause-none c =
    let old = c.args.self.now in (
      ap (λ (b : Bool). cond b None (first_at old.receiver.deliv old.receiver.stored)) (sym (ap (λ (v : RxState). v.frozen) c.self.view_is) ∙ c.if-self.true),
      refl,
      refl,
    )

pub returns-in_default-clause-none : goal.returns-in_default-clause-none
unfolding handed_up
returns-in_default-clause-none c =
    let t = c.self.inside in (
      sym (ap handed_up c.self.view_is)
          ∙ (ap (λ (b : Bool). cond b None (first_at t.stored.first (held t.stored))) c.if-self.false
          ∙ first_empty t.stored.first t.stored.first t.stored.slots.items c.in_default.ensures),
      refl,
      refl,
    )

pub returns-clause-some : goal.returns-clause-some
unfolding handed_up
returns-clause-some c =
    let t = c.self.inside in
    let ring = t.stored in
    let new = c.pop.new.self in
    let place = c.in-Some.place in
    let e : ℕ × ℕ = (ring.first, place) in
    let split : held ring ≡ e ∷ held new =
    first_slot ring.first ring.first ring.slots.items new.slots.items c.pop.result place c.pop.ensures.slots c.in-Some.ensures
    ∙ ap (λ n. e ∷ held_from n new.slots.items) (sym c.pop.ensures.first) in (
      place,
      sym (ap handed_up c.self.view_is)
          ∙ (ap (λ (b : Bool). cond b None (first_at ring.first (held ring))) c.if-self.false
          ∙ (ap (first_at ring.first) split ∙ first_here ring.first place (held new))),
      ap (λ (n : ℕ). record { sn = t.sn; quota = t.quota; frozen = t.frozen; receiver = record { deliv = n; stored = held new } }) c.pop.ensures.first
          ∙ (ap (λ (es : List (ℕ × ℕ)). record { sn = t.sn; quota = t.quota; frozen = t.frozen; receiver = record { deliv = ring.first + 1; stored = drop 1 es } }) (sym split)
          ∙ ap (λ (v : RxState). record { sn = v.sn; quota = v.quota; frozen = v.frozen; receiver = advanced v.receiver }) c.self.view_is),
      subst (λ (q : PoolState). Unparks c.unpark.result e c.args.pool.now q) (sym c.unpark.ensures.unparked)
          (unparks BLOCK c.args.pool.now c.unpark.ensures.sound c.unpark.result e c.unpark.ensures.there),
    )

pub returns-clause-octets : goal.returns-clause-octets
unfolding receiver_in
returns-clause-octets c =
    let t = c.self.inside in
    let ring = t.stored in
    let new = c.pop.new.self in
    let place = c.in-Some.place in
    let p = c.args.pool.now in
    let q = c.unpark.new.self in
    let e : ℕ × ℕ = (ring.first, place) in
    let split : held ring ≡ e ∷ held new =
    first_slot ring.first ring.first ring.slots.items new.slots.items c.pop.result place c.pop.ensures.slots c.in-Some.ensures
    ∙ ap (λ n. e ∷ held_from n new.slots.items) (sym c.pop.ensures.first) in
    let taken = subst (λ (s : PoolState). Unparks c.unpark.result e p s) (sym c.unpark.ensures.unparked)
    (unparks BLOCK p c.unpark.ensures.sound c.unpark.result e c.unpark.ensures.there) in
    let stored = sym (ap (λ (v : RxState). v.receiver.stored) c.self.view_is) ∙ split in
    let parked = subst (λ (es : List (ℕ × ℕ)). AreParked p es) stored c.requires in
    ap deliver
    (receivers (sym (ap (λ (v : RxState). v.receiver.deliv) c.self.view_is))
    (ap (octets_in p) stored ∙ unparks_octets c.unpark.result e p q (held new) taken parked))
    ∙ (delivers ring.first (bytes_of (packet_of q c.unpark.result)) (octets_in q (held new))
    ∙ ap (λ n. with_packet (ring.first, bytes_of (packet_of q c.unpark.result)) (deliver (receiver n (octets_in q (held new))))) (sym c.pop.ensures.first))

pub returns-clause-parked : goal.returns-clause-parked
returns-clause-parked c =
    let ring = c.self.inside.stored in
    let new = c.pop.new.self in
    let place = c.in-Some.place in
    let p = c.args.pool.now in
    let q = c.unpark.new.self in
    let e : ℕ × ℕ = (ring.first, place) in
    let split : held ring ≡ e ∷ held new =
    first_slot ring.first ring.first ring.slots.items new.slots.items c.pop.result place c.pop.ensures.slots c.in-Some.ensures
    ∙ ap (λ n. e ∷ held_from n new.slots.items) (sym c.pop.ensures.first) in
    let taken = subst (λ (s : PoolState). Unparks c.unpark.result e p s) (sym c.unpark.ensures.unparked)
    (unparks BLOCK p c.unpark.ensures.sound c.unpark.result e c.unpark.ensures.there) in
    let stored = sym (ap (λ (v : RxState). v.receiver.stored) c.self.view_is) ∙ split in
    unparks_parked c.unpark.result e p q (held new) taken (subst (λ (es : List (ℕ × ℕ)). AreParked p es) stored c.requires)

pub returns-clause-given : goal.returns-clause-given
returns-clause-given c =
    let ring = c.self.inside.stored in
    let new = c.pop.new.self in
    let place = c.in-Some.place in
    let p = c.args.pool.now in
    let q = c.unpark.new.self in
    let e : ℕ × ℕ = (ring.first, place) in
    let split : held ring ≡ e ∷ held new =
    first_slot ring.first ring.first ring.slots.items new.slots.items c.pop.result place c.pop.ensures.slots c.in-Some.ensures
    ∙ ap (λ n. e ∷ held_from n new.slots.items) (sym c.pop.ensures.first) in
    let taken = subst (λ (s : PoolState). Unparks c.unpark.result e p s) (sym c.unpark.ensures.unparked)
    (unparks BLOCK p c.unpark.ensures.sound c.unpark.result e c.unpark.ensures.there) in
    let stored = sym (ap (λ (v : RxState). v.receiver.stored) c.self.view_is) ∙ split in
    let parked = subst (λ (es : List (ℕ × ℕ)). AreParked p es) stored c.requires in
    subst (λ (o : Option Stored). IsSome o) (sym taken.packet) parked.there.0

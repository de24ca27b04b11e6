use Rattle.std.proofs.Common.{◌≡◌, ℕ, ◌+◌, ◌<◌, ◌≤◌, List, [], ◌∷◌, ◌++◌, length, arith, sym, ap, ◌∙◌, subst, refl, true}
use Rattle.pdcp_defs.specs.Senders.{Sender, window, restored, may_restore}
use Rattle.pdcp_defs.specs.pool_defs.Pools.{PoolState, packet_of, with_place}
use Rattle.pdcp_entities.specs.Packets.{AreParked, Parks, bytes_of, octets_in}
use Rattle.pdcp_entities.specs.Entities.{TxState, sender_in}
use Rattle.pdcp_entities.specs.inside.Rings.{held}
use Rattle.pdcp_entities.proofs.ParkLemmas.{parks, parks_parked, parks_octets}
use Rattle.pdcp_entities.proofs.TxLemmas.{window_within, restored_at, still_under_way, senders}
use Rattle.pdcp_entities.proofs.tx.Tx.restore.Goals as goal

pub append-requires-clause-after : goal.append-requires-clause-after
append-requires-clause-after c =
    let t = c.self.inside in
    let may = ap (λ (v : TxState). may_restore v.sn v.quota v.sender c.args.count) c.self.view_is ∙ (sym c.may_restore.ensures ∙ c.if-not-may_restore.false) in
    (restored_at t.sn t.quota t.next t.unconfirmed.first c.args.count t.unconfirmed.slots.items c.self.invariant.last_full may).2

pub append-requires-clause-room : goal.append-requires-clause-room
append-requires-clause-room c = λ some.
    let t = c.self.inside in
    let may = ap (λ (v : TxState). may_restore v.sn v.quota v.sender c.args.count) c.self.view_is ∙ (sym c.may_restore.ensures ∙ c.if-not-may_restore.false) in
    let at = restored_at t.sn t.quota t.next t.unconfirmed.first c.args.count t.unconfirmed.slots.items c.self.invariant.last_full may in
    let most = c.self.invariant.under_way some in
    omega (arith, at.1, most, window_within t.sn t.quota, c.self.invariant.capacity)

pub invariant_of-self : goal.invariant_of-self
invariant_of-self c =
    let t = c.self.inside in
    let inv = c.self.invariant in
    let may = ap (λ (v : TxState). may_restore v.sn v.quota v.sender c.args.count) c.self.view_is ∙ (sym c.may_restore.ensures ∙ c.if-not-may_restore.false) in
    let at = restored_at t.sn t.quota t.next t.unconfirmed.first c.args.count t.unconfirmed.slots.items inv.last_full may in
    let facts = c.append.ensures in
    record {
      bounds = inv.bounds;
      capacity = facts.capacity ∙ inv.capacity;
      first_full = facts.first_full inv.first_full;
      last_full = facts.last_full;
      below = omega (arith, facts.end, at.1);
      in_range = inv.in_range;
      under_way = λ some.
          still_under_way (length t.unconfirmed.slots.items) t.unconfirmed.first c.append.new.self.first t.next c.args.count (window t.sn t.quota) facts.first
          inv.under_way (omega (arith, at.0));
    }

pub returns-clause-held : goal.returns-clause-held
unfolding restored
returns-clause-held c =
    let t = c.self.inside in
    let place = c.park-place.result in
    let e : ℕ × ℕ = (c.args.count, place) in (
      place,
      ap (λ (es : List (ℕ × ℕ)). record { sn = t.sn; quota = t.quota; frozen = t.frozen; sender = record { next = t.next; unconfirmed = es } }) c.append.ensures.held
          ∙ ap (λ (v : TxState). record { sn = v.sn; quota = v.quota; frozen = v.frozen; sender = restored v.sender c.args.count place }) c.self.view_is,
      subst (λ (q : PoolState). Parks c.args.r e c.args.pool.now q) (sym c.park-place.ensures.parked)
          (parks c.args.pool.now c.args.r e c.requires.given c.park-place.ensures.fresh),
    )

pub returns-clause-octets : goal.returns-clause-octets
unfolding restored sender_in
returns-clause-octets c =
    let t = c.self.inside in
    let place = c.park-place.result in
    let q = c.park-place.new.self in
    let old = c.args.self.now in
    let e : ℕ × ℕ = (c.args.count, place) in
    let parked_at = subst (λ (s : PoolState). Parks c.args.r e c.args.pool.now s) (sym c.park-place.ensures.parked)
    (parks c.args.pool.now c.args.r e c.requires.given c.park-place.ensures.fresh) in
    let held_now : held c.append.new.self ≡ old.sender.unconfirmed ++ e ∷ [] =
    c.append.ensures.held ∙ ap (λ (v : TxState). v.sender.unconfirmed ++ (c.args.count, place) ∷ []) c.self.view_is in
    let octets = ap (octets_in q) held_now ∙ parks_octets c.args.r e c.args.pool.now q old.sender.unconfirmed c.requires.given parked_at c.requires.parked in
    let next = ap (λ (v : TxState). v.sender.next) c.self.view_is in
    senders next octets

pub returns-clause-parked : goal.returns-clause-parked
returns-clause-parked c =
    let place = c.park-place.result in
    let q = c.park-place.new.self in
    let old = c.args.self.now in
    let e : ℕ × ℕ = (c.args.count, place) in
    let parked_at = subst (λ (s : PoolState). Parks c.args.r e c.args.pool.now s) (sym c.park-place.ensures.parked)
    (parks c.args.pool.now c.args.r e c.requires.given c.park-place.ensures.fresh) in
    let held_now : held c.append.new.self ≡ old.sender.unconfirmed ++ e ∷ [] =
    c.append.ensures.held ∙ ap (λ (v : TxState). v.sender.unconfirmed ++ (c.args.count, place) ∷ []) c.self.view_is in
    subst (λ (es : List (ℕ × ℕ)). AreParked q es) (sym held_now)
    (parks_parked c.args.r e c.args.pool.now q old.sender.unconfirmed c.requires.given parked_at c.requires.parked)

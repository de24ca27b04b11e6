use Rattle.std.proofs.Common.{◌≡◌, ℕ, List, Option, sym, ap, ◌∙◌, subst, refl}
use Rattle.std.specs.Prelude.{IsSome}
use Rattle.packet_pool.specs.declared.region.TheConstants.{BLOCK}
use Rattle.gnb_types.specs.declared.keys.EntityKey.{EntityKey}
use Rattle.tests_packets.specs.declared.entities.sending.TheConstants.{DOWN}
use Rattle.pdcp_defs.specs.pool_defs.Pools.{Stored, PoolState, packet_of, with_packet, without_packet}
use Rattle.pdcp_defs.proofs.pool_defs.PoolLaws.{packet_of_put}
use Rattle.pdcp_entities.specs.Packets.{AreParked}
use Rattle.pdcp_entities.proofs.ParkLemmas.{parked_put, parked_taken, still_given}
use Rattle.tests_packets.proofs.entities.sending.number.Goals as goal

pub number-requires-clause-parked : goal.number-requires-clause-parked
number-requires-clause-parked c =
    let x : Stored = record { key = DOWN; bytes = c.args.packet.now } in
    subst (λ (p : PoolState). AreParked p c.args.tx.now.sender.unconfirmed) (sym c.in-Ok.ensures.ok)
    (parked_put BLOCK c.args.pool.now c.put.ensures.sound c.in-Ok.r x c.in-Ok.ensures.fresh c.args.tx.now.sender.unconfirmed c.requires.parked)

pub number-requires-clause-given : goal.number-requires-clause-given
number-requires-clause-given c =
    let x : Stored = record { key = DOWN; bytes = c.args.packet.now } in
    let packet = packet_of_put BLOCK c.args.pool.now c.put.ensures.sound c.in-Ok.r x c.in-Ok.ensures.fresh in
    subst (λ (o : Option Stored). IsSome o) (sym (ap (λ (p : PoolState). packet_of p c.in-Ok.r) c.in-Ok.ensures.ok ∙ packet)) refl

pub take-requires : goal.take-requires
take-requires c =
    let x : Stored = record { key = DOWN; bytes = c.args.packet.now } in
    let packet = packet_of_put BLOCK c.args.pool.now c.put.ensures.sound c.in-Ok.r x c.in-Ok.ensures.fresh in
    let given = subst (λ (o : Option Stored). IsSome o) (sym (ap (λ (p : PoolState). packet_of p c.in-Ok.r) c.in-Ok.ensures.ok ∙ packet)) refl in
    still_given c.put.new.self c.number.new.pool c.in-Ok.r c.in-Err.r c.in-Err.ensures.err.3 c.in-Err.ensures.err.1 given

pub returns-in-Err : goal.returns-in-Err
returns-in-Err c =
    let x : Stored = record { key = DOWN; bytes = c.args.packet.now } in
    let packet = packet_of_put BLOCK c.args.pool.now c.put.ensures.sound c.in-Ok.r x c.in-Ok.ensures.fresh in
    let given = subst (λ (o : Option Stored). IsSome o) (sym (ap (λ (p : PoolState). packet_of p c.in-Ok.r) c.in-Ok.ensures.ok ∙ packet)) refl in
    let still = still_given c.put.new.self c.number.new.pool c.in-Ok.r c.in-Err.r c.in-Err.ensures.err.3 c.in-Err.ensures.err.1 given in
    subst (λ (p : PoolState). AreParked p c.number.new.self.sender.unconfirmed) (sym c.take.ensures.taken)
    (parked_taken c.number.new.pool c.in-Err.r still c.number.new.self.sender.unconfirmed c.number.ensures.parked)

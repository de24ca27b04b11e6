use Rattle.std.proofs.Common.{ℕ, List, sym, subst}
use Rattle.pdcp_defs.specs.pool_defs.Pools.{PoolState}
use Rattle.pdcp_entities.specs.Packets.{AreParked}
use Rattle.pdcp_entities.proofs.ParkLemmas.{parked_taken}
use Rattle.tests_packets.proofs.entities.receiving.hand_up.Goals as goal

pub returns-clause-parked : goal.returns-clause-parked
returns-clause-parked c =
    subst (λ (p : PoolState). AreParked p c.next.new.self.receiver.stored) (sym c.take.ensures.taken)
    (parked_taken c.next.new.pool c.in_ok-count.r c.in_ok-count.ensures.given c.next.new.self.receiver.stored c.next.ensures.parked)

use Rattle.tests_packets.proofs.entities.QuotaLemmas.{no_quota}
use Rattle.tests_packets.proofs.entities.quotas.a_pool_from_end_to_end.Goals as goal

pub reserve_quota-requires : goal.reserve_quota-requires
reserve_quota-requires g c = no_quota _ _ _ c.in_ok-other.ensures

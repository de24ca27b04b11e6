use Rattle.gtpu.proofs.Decided.{decided}
use Rattle.gtpu.proofs.Unique.{not_both, one_packet, one_refusal}
use Rattle.gtpu.proofs.laws.octets_have_one_reading.Goals as goal

pub returns : goal.returns
returns c = record { some = decided; not_both = not_both; one_packet = one_packet; one_reason = one_refusal }

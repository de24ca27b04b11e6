use Rattle.law_um.proofs.Steps.{received_run}
use Rattle.law_um.proofs.a_packet_passes_no_gap.Goals as goal

pub returns : goal.returns
returns p c = λ ticks r count x sound none. received_run ticks r count x sound none

use Rattle.law_messages.proofs.refused_messages.RefusedF1 as f1
use Rattle.law_messages.proofs.refused_messages.RefusedE1 as e1
use Rattle.law_messages.proofs.refused_messages.RefusedXn as xn
use Rattle.law_messages.proofs.refused_messages.RefusedCore as core
use Rattle.law_messages.proofs.refused_messages.unknown_procedures_are_refused.Goals as goal

pub returns : goal.returns
returns c = record { f1 = f1.unknown; e1 = e1.unknown; xn = xn.unknown; core = core.unknown }

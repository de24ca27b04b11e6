use Rattle.law_asn1.proofs.names.ModuleHeld.{unknown_first}
use Rattle.law_asn1.proofs.names.unknown_names_are_first.Goals as goal

pub returns : goal.returns
returns c text m t = unknown_first _ m t.means

use Rattle.std.proofs.Common.{◌∷◌, ◌++◌}
use Rattle.proof_asn1.proofs.reading.Readings.{read_of}
use Rattle.asn1_module.proofs.RowLinks.{linked}
use Rattle.law_asn1.specs.names.Held.{givens}
use Rattle.law_asn1.proofs.names.ModuleHeld.{module_held}
use Rattle.law_asn1.proofs.names.ReferHeld.{leads_by_names}
use Rattle.law_asn1.proofs.names.assignments_lead_by_names.Goals as goal

pub returns : goal.returns
returns c text m t k j lt = leads_by_names m (givens (t.front ++ t.last ∷ t.rest)) (linked text m (read_of text m t)) (module_held t.means).parts k j lt

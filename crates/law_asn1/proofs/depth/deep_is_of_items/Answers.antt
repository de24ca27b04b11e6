use Rattle.std.proofs.Common.{◌∷◌, ◌++◌}
use Rattle.proof_asn1.proofs.reading.Readings.{read_of}
use Rattle.asn1_module.proofs.RowLinks.{linked}
use Rattle.law_asn1.specs.depth.Levels.{assigned}
use Rattle.law_asn1.proofs.depth.ModuleStands.{module_laid}
use Rattle.law_asn1.proofs.depth.DepthHeld.{depth_held}
use Rattle.law_asn1.proofs.depth.deep_is_of_items.Goals as goal

pub returns : goal.returns
returns c text m t k lt = depth_held m (assigned (t.front ++ t.last ∷ t.rest)) (linked text m (read_of text m t)) (module_laid t.means) k 60 lt

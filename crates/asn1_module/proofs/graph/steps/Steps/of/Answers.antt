use Rattle.asn1_module.proofs.graph.AmongLemmas.{range_among}
use Rattle.asn1_module.proofs.graph.steps.Steps.of.Goals as goal

pub returns : goal.returns
returns c = range_among _ _ c.args.self.now.edges.now

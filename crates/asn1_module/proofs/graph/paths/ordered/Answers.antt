use Rattle.std.proofs.Common.{List, subst}
use Rattle.asn1_defs.specs.declared.graph.Edge.{Edge}
use Rattle.asn1_defs.specs.Paths.{IsAmong}
use Rattle.asn1_module.proofs.graph.AmongLemmas.{append_among}
use Rattle.asn1_module.proofs.graph.paths.ordered.Goals as goal

pub loop-vertex-preserved : goal.loop-vertex-preserved
loop-vertex-preserved c = λ e among.
    append_among c.loop-vertex.found.items c.of.result.now c.args.steps.now.edges.now c.loop-vertex.invariant c.of.ensures e
    (subst (λ (es : List Edge). IsAmong e es) c.in_ok-extend_from_slice.ensures.items among)

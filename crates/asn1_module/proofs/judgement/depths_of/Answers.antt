use Rattle.std.proofs.Common.{ℕ, List, length, subst, ◌∙◌}
use Rattle.std.specs.Prelude.{IfOk}
use Rattle.asn1_defs.specs.declared.graph.Edge.{Edge}
use Rattle.asn1_defs.specs.Graph.{vertex_count}
use Rattle.asn1_module.specs.graph.Walks.{IsDepth}
use Rattle.asn1_defs.specs.Judgement.{weights_of}
use Rattle.asn1_module.proofs.JudgementLemmas.{length-weights_of}
use Rattle.asn1_module.proofs.judgement.depths_of.Goals as goal

pub returns : goal.returns
returns c =
    subst (λ (es : List Edge). IfOk c.depths.result (λ table. IsDepth (vertex_count c.args.syntax.now) es (weights_of c.args.syntax.now) table.items)) c.requires
    (subst (λ (n : ℕ). IfOk c.depths.result (λ table. IsDepth n c.args.edges.now (weights_of c.args.syntax.now) table.items)) (length-weights_of c.args.syntax.now)
    (subst (λ (w : List ℕ). IfOk c.depths.result (λ table. IsDepth (length w) c.args.edges.now w table.items)) (c.deref.ensures.value ∙ c.in_ok-weights.ensures) c.depths.ensures))

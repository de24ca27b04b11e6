use Rattle.std.proofs.Common.{List, length, ap}
use Rattle.asn1_syntax.specs.declared.types.definition.Node.{Node}
use Rattle.asn1_module.proofs.JudgementLemmas.{first_told}
use Rattle.asn1_module.proofs.judgement.first_recursive.Goals as goal

pub returns : goal.returns
returns c =
    first_told c.args.syntax.now c.args.edges.now c.vertex_count.result (length c.as_slice.result.now) c.first_looping.result c.requires c.vertex_count.ensures
    (ap (λ (ns : List Node). length ns) c.as_slice.ensures) c.first_looping.ensures

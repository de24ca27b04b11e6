use Rattle.std.proofs.Common.{sym, ap, ◌∙◌, arith}
use Rattle.std.specs.Prelude.{None}
use Rattle.asn1_syntax.specs.declared.types.definition.Node.{Node}
use Rattle.asn1_defs.specs.Numbers.{number_in}
use Rattle.asn1_module.proofs.graph.NumberLemmas.{target_there, targets_long}
use Rattle.asn1_module.proofs.names.first_unknown.Goals as goal

pub bounds-targets-number : goal.bounds-targets-number
bounds-targets-number c = targets_long c.args.assignments.now c.args.nodes.now c.args.targets.now c.loop-number.number c.requires (omega arith)

pub is_known-requires : goal.is_known-requires
is_known-requires c =
    target_there c.args.assignments.now c.args.nodes.now c.args.targets.now c.loop-number.number None c.index-nodes-number.result c.requires (omega arith)
    ∙ ap (λ (n : Node). number_in c.args.assignments.now n.definition) (sym c.index-nodes-number.is)

use Rattle.std.proofs.Common.{ℕ, List, ap, ◌∙◌, arith}
use Rattle.asn1_syntax.specs.declared.assignments.assignment.Assignment.{Assignment}
use Rattle.asn1_syntax.specs.assignments.Index.{numbered}
use Rattle.asn1_syntax.specs.assignments.inside.Index.{noted}
use Rattle.asn1_syntax.proofs.assignments.Indexed.{indexed_more, indexed_all}
use Rattle.asn1_syntax.proofs.assignments.index.index_of.Goals as goal

pub loop-number-preserved : goal.loop-number-preserved
loop-number-preserved c =
    indexed_more c.loop-number.index c.note.new.self c.args.assignments.now c.loop-number.number c.index-assignments-number.result (omega arith)
    (λ other. c.in_ok-note.ensures other ∙ ap (λ (n : List ℕ). noted n c.loop-number.number other (numbered c.loop-number.index other)) (c.as_slice.ensures ∙ ap (λ (a : Assignment). a.name) c.index-assignments-number.is))
    c.loop-number.invariant

pub returns : goal.returns
returns c = indexed_all c.loop-number.index c.args.assignments.now c.loop-number.number (omega arith) c.loop-number.invariant

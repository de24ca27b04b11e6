use Rattle.std.proofs.Common.{arith, length, ap, ◌+◌, List, below_more}
use Rattle.asn1_syntax.specs.declared.types.definition.Node.{Node}
use Rattle.asn1_syntax.specs.declared.assignments.assignment.Assignment.{Assignment}
use Rattle.asn1_module.proofs.JudgementLemmas.{deep_here, deep_absent}
use Rattle.asn1_module.proofs.judgement.first_deep.Goals as goal

pub returns-then-value_at-gt-DEPTH : goal.returns-then-value_at-gt-DEPTH
returns-then-value_at-gt-DEPTH c =
    let size = ap (λ (xs : List Assignment). length xs) c.as_slice-number-end.ensures in
    let at = ap (λ (ns : List Node). length ns + c.loop-number.number) c.as_slice-base.ensures in (
      omega (arith, size),
      deep_here c.args.syntax.now c.args.table.now c.loop-number.number _ _ c.requires at (omega (arith, size)) c.value_at.ensures c.if-value_at-gt-DEPTH.true,
      c.loop-number.invariant,
    )

pub loop-number-preserved : goal.loop-number-preserved
loop-number-preserved c =
    below_more _ _ c.loop-number.invariant
    (deep_absent c.args.syntax.now c.args.table.now c.loop-number.number _ _ c.requires (ap (λ (ns : List Node). length ns + c.loop-number.number) c.as_slice-base.ensures) c.value_at.ensures c.if-value_at-gt-DEPTH.false)

pub returns : goal.returns
returns c = λ k lt.
    let size = ap (λ (xs : List Assignment). length xs) c.as_slice-number-end.ensures in
    c.loop-number.invariant k (omega (arith, size))

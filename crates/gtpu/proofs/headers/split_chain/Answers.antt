use Rattle.std.proofs.Common.{arith}
use Rattle.std.proofs.lemmas.Result.{err_from_is_err_and}
use Rattle.gtpu.proofs.Chains.{passes_more, fault_then, split_shorter}
use Rattle.gtpu.proofs.headers.split_chain.Goals as goal

pub returns-in_err-split-clause-refused : goal.returns-in_err-split-clause-refused
returns-in_err-split-clause-refused c =
    let p = err_from_is_err_and c.from_residual.result c.from_residual.ensures.1 in
    rw (p.1, p.2) (fault_then c.args.first c.args.octets.now c.loop-code.code c.loop-code.rest.now c.in_err-split.field-0.0 (omega arith) c.loop-code.invariant.passes c.in_err-split.ensures.refused)

pub loop-code-preserved : goal.loop-code-preserved
loop-code-preserved c =
    let s = c.in_ok-split.split in
    record {
      passes = passes_more c.args.first c.args.octets.now c.loop-code.code c.loop-code.rest.now s.content.now s.next s.rest.now c.loop-code.invariant.passes c.in_ok-split.ensures.found;
      within = omega (arith, split_shorter c.loop-code.code c.loop-code.rest.now s.content.now s.next s.rest.now c.in_ok-split.ensures.found);
    }

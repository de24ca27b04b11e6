use Rattle.std.proofs.Common.{ap, sym, ◌∙◌, ◌++◌, Bool, List, map, arith}
use Rattle.bits_core.specs.Bits.{bit_value}
use Rattle.aper_defs.specs.Fields.{bit}
use Rattle.aper_fields.proofs.Followed.{run_put, bits_run, all_taken}
use Rattle.aper_fields.proofs.runs.put_bit_run.Goals as goal

pub returns-clause-follows : goal.returns-clause-follows
returns-clause-follows c = run_put c.args.out.now c.loop-bit.out bit (map bit_value c.args.bits.now)
    (c.loop-bit.invariant.bits
    ∙ ap (λ (bs : List Bool). c.args.out.now.bits ++ bs)
    (all_taken c.loop-bit.bit-index c.args.bits.now (omega arith) ∙ sym (bits_run c.args.bits.now)))

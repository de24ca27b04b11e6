use Rattle.std.proofs.Common.{ap, ◌∙◌, ◌++◌, ℕ, List, arith}
use Rattle.bits_core.specs.Bits.{octet_bits}
use Rattle.aper_defs.specs.Fields.{octet}
use Rattle.aper_fields.proofs.Followed.{run_put, characters_put, all_taken}
use Rattle.aper_fields.proofs.runs.put_few_octets.Goals as goal

pub returns-clause-follows : goal.returns-clause-follows
returns-clause-follows c = run_put c.args.out.now c.loop-octet.out octet c.args.octets.now
    (c.loop-octet.invariant.bits
    ∙ ap (λ (os : List ℕ). c.args.out.now.bits ++ octet_bits os) (all_taken c.loop-octet.octet-index c.args.octets.now (omega arith)))

pub returns-clause-characters : goal.returns-clause-characters
returns-clause-characters c = characters_put c.args.out.now c.loop-octet.out c.args.octets.now
    (c.loop-octet.invariant.bits
    ∙ ap (λ (os : List ℕ). c.args.out.now.bits ++ octet_bits os) (all_taken c.loop-octet.octet-index c.args.octets.now (omega arith)))

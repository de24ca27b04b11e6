use Rattle.std.proofs.Common.{List, Bool, false, ◌++◌, ap, sym, ◌∙◌, arith}
use Rattle.std.proofs.lemmas.Grind.{common_steps}
use Rattle.bits_core.specs.Bits.{octet_bits, bits_of}
use Rattle.bits_core.specs.Writing.{Written}
use Rattle.bits_core.proofs.WriterLemmas.{none_begun, octets_put}
use Rattle.bits_core.proofs.writer.BitWriter.put_octets.Goals as goal

pub invariant_of-self-in_default : goal.invariant_of-self-in_default
invariant_of-self-in_default c = record {
  used = c.self.invariant.used;
  last = c.self.invariant.last;
  room = λ some. absurd (omega (arith, none_begun c.self.inside c.args.self.now c.self.view_is c.self.invariant.used c.requires));
}

pub returns : goal.returns
returns c = (
  sym (ap (λ (o : Written). o.failed) c.self.view_is) ∙ c.if-self.false,
  ap (λ (b : Bool). record { bits = octet_bits c.extend_from_slice.new.self.items ++ bits_of c.self.inside.used c.self.inside.last; failed = b }) c.if-self.false
      ∙ ap (λ (xs : List Bool). record { bits = xs; failed = false })
      (octets_put c.self.inside c.args.self.now c.args.octets.now c.extend_from_slice.new.self.items c.self.view_is (none_begun c.self.inside c.args.self.now c.self.view_is c.self.invariant.used c.requires) (grind (arith, common_steps))),
)

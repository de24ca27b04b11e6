use Rattle.std.proofs.Common.{List, Bool, ℕ, ◌++◌, ap, ◌∙◌, false}
use Rattle.bits_core.specs.Bits.{octet_bits, bits_of}
use Rattle.bits_core.proofs.WriterLemmas.{no_bits}
use Rattle.bits_core.proofs.writer.BitWriter.new.Goals as goal

pub returns : goal.returns
returns c =
    ap (λ (octets : List ℕ). record { bits = octet_bits octets ++ bits_of 0 0; failed = false }) c.new.ensures.items
    ∙ ap (λ (bits : List Bool). record { bits = bits; failed = false }) (no_bits 0)

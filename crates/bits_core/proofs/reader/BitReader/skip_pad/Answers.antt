use Rattle.std.proofs.Common.{ℕ, true, false, arith, refl, ◌-◌, ◌+◌, ◌%◌, ◌^◌, ◌≡◌, ◌==◌, sym, ap, ◌∙◌}
use Rattle.std.proofs.lemmas.Bool.Decides.{nat_tests}
use Rattle.bits_core.specs.Reading.{pad_number}
use Rattle.bits_core.proofs.ReaderLemmas.{pad_number_is, moved_pad}
use Rattle.bits_core.proofs.reader.BitReader.skip_pad.Goals as goal

is_none : (n : ℕ) → n ≡ 0 → (n == 0) ≡ true
is_none n h = grind (arith, nat_tests)

is_some : (n m : ℕ) → n ≡ m → (m ≡ 0 → ⊥) → (n == 0) ≡ false
is_some n m h some = grind (arith, nat_tests)

pub returns-then-low_bits-ne0 : goal.returns-then-low_bits-ne0
returns-then-low_bits-ne0 c =
    let pad = 8 - c.self.inside.place % 8 in (
      is_some (pad_number c.args.self.now) _
          (pad_number_is c.self.inside.octets.now c.self.inside.place pad c.args.self.now c.self.view_is (omega arith) (omega arith) (omega arith))
          (λ none. c.if-low_bits-ne0.true (c.low_bits.ensures ∙ ap (λ (o : ℕ). o % 2 ^ pad) c.from.ensures ∙ none)),
      refl,
    )

pub returns : goal.returns
returns c =
    let pad = 8 - c.self.inside.place % 8 in (
      is_none (pad_number c.args.self.now)
          (pad_number_is c.self.inside.octets.now c.self.inside.place pad c.args.self.now c.self.view_is (omega arith) (omega arith) (omega arith)
          ∙ sym (c.low_bits.ensures ∙ ap (λ (o : ℕ). o % 2 ^ pad) c.from.ensures) ∙ c.if-low_bits-ne0.false),
      ap (λ (n : ℕ). record { octets = c.self.inside.octets.now; place = c.self.inside.place + n }) c.from-2.ensures
          ∙ moved_pad c.self.inside.octets.now c.self.inside.place pad c.args.self.now c.self.view_is (omega arith),
    )

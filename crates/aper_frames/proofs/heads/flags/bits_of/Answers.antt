use Rattle.std.proofs.Common.{◌≡◌, ℕ, suc, ◌+◌, ◌-◌, ◌/◌, ◌%◌, ◌^◌, ◌==◌, Bool, List, [], ◌∷◌, ◌++◌, length, sym, ap, ◌∙◌, arith, length-append}
use Rattle.std.proofs.lemmas.List.{append-nil}
use Rattle.bits_core.specs.Bits.{bits_of}
use Rattle.aper_frames.proofs.heads.FlagTurns.{bits_turn, bits_none}
use Rattle.aper_frames.proofs.heads.flags.bits_of.Goals as goal

pub loop-done-preserved : goal.loop-done-preserved
loop-done-preserved c =
    let l = c.loop-done in
    let number = c.args.number in
    let width : ℕ = c.args.count - (l.done + 1) in
    let bit : Bool = number / 2 ^ (c.args.count - 1 - l.done) % 2 == 1 in
    let pushed : c.push.new.self.items ≡ l.bits.items ++ bit ∷ [] = (c.in_ok-push.ensures {u = tt}).items in
    let before : c.args.count - 1 - l.done ≡ width = omega arith in
    let wider : suc width ≡ c.args.count - l.done = omega arith in
    record {
      bits = ap (λ (bs : List Bool). bs ++ bits_of width number) pushed
          ∙ bits_turn width number l.bits.items bit (ap (λ (k : ℕ). number / 2 ^ k % 2 == 1) before)
          ∙ ap (λ (k : ℕ). l.bits.items ++ bits_of k number) wider
          ∙ l.invariant.bits;
      size = omega (arith, ap length pushed, length-append l.bits.items (bit ∷ []), l.invariant.size);
    }

pub returns-clause-bits : goal.returns-clause-bits
returns-clause-bits c =
    let l = c.loop-done in
    let none : c.args.count - l.done ≡ 0 = omega arith in
    c.from_vec.ensures ∙ sym (append-nil l.bits.items)
    ∙ ap (λ (bs : List Bool). l.bits.items ++ bs) (sym (bits_none c.args.number))
    ∙ ap (λ (k : ℕ). l.bits.items ++ bits_of k c.args.number) (sym none) ∙ l.invariant.bits

use Rattle.std.proofs.Common.{◌≡◌, ℕ, ◌+◌, ◌*◌, ◌^◌, ◌∷◌, List, Option, length, drop, is_some, sym, ap, ◌∙◌, arith}
use Rattle.std.specs.Int.{from_bool}
use Rattle.aper_values.specs.declared.value.Value.{Value}
use Rattle.aper_fields.proofs.members.Turns.{item_at}
use Rattle.aper_fields.proofs.members.HeadLemmas.{marks_of, marks_turn, marks_small, bool_small}
use Rattle.aper_fields.proofs.members.heads.marks.Goals as goal

pub loop-addition-preserved : goal.loop-addition-preserved
loop-addition-preserved c =
    let l = c.loop-addition in
    let xs : List (Option Value) = c.args.additions.now in
    let x : Option Value = c.addition-item.result in
    let left : List (Option Value) = drop (l.addition-index + 1) xs in
    let here : drop l.addition-index xs ≡ x ∷ left = item_at xs l.addition-index x (omega arith) c.addition-item.is in
    let bit : c.from.result ≡ from_bool (is_some x) = c.from.ensures ∙ ap from_bool c.is_some.ensures in
    record {
      value = ap (λ (n : ℕ). (2 * l.marks + n) * 2 ^ length left + marks_of left) bit
          ∙ marks_turn l.marks x left
          ∙ ap (λ (ys : List (Option Value)). l.marks * 2 ^ length ys + marks_of ys) (sym here)
          ∙ l.invariant.value;
      small = marks_small l.marks c.from.result l.addition-index l.invariant.small (omega (arith, bit, bool_small (is_some x)));
    }

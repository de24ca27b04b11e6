use Rattle.std.proofs.Common.{◌≡◌, ◌+◌, ◌-◌, ℕ, List, length, sym, ap, ◌∙◌, subst, arith}
use Rattle.dup_defs.specs.dup_run_defs.Run.{LegItems, above}
use Rattle.dup_bearer.specs.legs.Legs.{ArePackets, items_state}
use Rattle.dup_bearer.proofs.legs.ItemLemmas.{fewer_above, packets_above}
use Rattle.dup_bearer.proofs.legs.items.Items.lose_to.Goals as goal

pub overflow_sub-result : goal.overflow_sub-result
overflow_sub-result c =
    let coming = c.self.inside.coming in
    let left_is = c.in_ok-self-inside.ensures ∙ ap (above c.args.count) c.replace-coming.ensures.value in
    omega (arith, fewer_above c.args.count coming, c.len.ensures, c.len-before.ensures, ap (λ (es : List (ℕ × List ℕ)). length es) left_is)

pub invariant_of-self-2 : goal.invariant_of-self-2
invariant_of-self-2 c =
    let coming = c.self.inside.coming in
    let left_is = c.in_ok-self-inside.ensures ∙ ap (above c.args.count) c.replace-coming.ensures.value in
    record {
      few = omega (arith, fewer_above c.args.count coming, c.self.invariant.few, ap (λ (es : List (ℕ × List ℕ)). length es) left_is);
      packets = subst ArePackets (sym left_is) (packets_above c.args.count coming c.self.invariant.packets);
    }

pub returns : goal.returns
returns c =
    let coming = c.self.inside.coming in
    let left_is = c.in_ok-self-inside.ensures ∙ ap (above c.args.count) c.replace-coming.ensures.value in (
      ap (λ (es : List (ℕ × List ℕ)). items_state c.self.inside.carried es) left_is
          ∙ ap (λ (v : LegItems). record v { coming = above c.args.count v.coming }) c.self.view_is,
      subst (λ (v : LegItems). c.len-before.result - c.len.result + length (above c.args.count v.coming) ≡ length v.coming) c.self.view_is
          (omega (arith, fewer_above c.args.count coming, c.len.ensures, c.len-before.ensures, ap (λ (es : List (ℕ × List ℕ)). length es) left_is)),
    )

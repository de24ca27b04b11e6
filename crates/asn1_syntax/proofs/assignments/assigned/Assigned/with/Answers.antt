use Rattle.std.proofs.Common.{◌≡◌, ℕ, ◌-◌, List, Bool, true, false, cond, sym, ap, ◌∙◌, subst, arith}
use Rattle.std.specs.List.{count_by}
use Rattle.asn1_syntax.specs.declared.assignments.assignment.Assignment.{Assignment}
use Rattle.asn1_syntax.specs.assignments.Module.{is_type}
use Rattle.asn1_syntax.specs.assignments.Index.{numbered, Indexes}
use Rattle.asn1_syntax.specs.assignments.inside.Index.{noted}
use Rattle.asn1_syntax.proofs.assignments.Indexed.{indexes_more, left_more}
use Rattle.asn1_syntax.proofs.assignments.assigned.Assigned.with.Goals.{then-is_type, else-is_type}
use Rattle.asn1_syntax.proofs.assignments.assigned.Assigned.with.Goals as goal

one_taken : (b r : Bool) (left after : ℕ) → r ≡ b → r ≡ true → after ≡ left - 1 → after ≡ left - cond b 1 0
one_taken true r left after is here took = took
one_taken false r left after is here took = let wrong : false ≡ true = sym is ∙ here in cc

none_taken : (b r : Bool) (left after : ℕ) → r ≡ b → r ≡ false → after ≡ left → after ≡ left - cond b 1 0
none_taken true r left after is other same = let wrong : true ≡ false = sym is ∙ other in cc
none_taken false r left after is other same = omega (arith, same)

pub invariant_of-result : goal.invariant_of-result
invariant_of-result c = (
  subst (Indexes c.note.new.self) (sym c.in_ok-push.ensures.ok)
      (indexes_more c.self.inside.index c.note.new.self c.self.inside.assignments c.args.assignment c.len.result c.len.ensures
      (λ name. c.in_ok-note.ensures name ∙ ap (λ (n : List ℕ). noted n c.len.result name (numbered c.self.inside.index name)) c.as_slice.ensures)
      c.self.invariant.0),
  subst (λ (l : List Assignment). c.if-is_type.types_left ≡ 1000 - count_by is_type l) (sym c.in_ok-push.ensures.ok)
      (left_more c.self.inside.assignments c.args.assignment c.self.inside.types_left c.self.invariant.1 c.if-is_type.types_left
      (elim c.if-is_type.branch [
        | then-is_type w ↦ one_taken (is_type c.args.assignment) c.is_type.result c.self.inside.types_left c.if-is_type.types_left c.is_type.ensures w.if-is_type.true (omega (arith, w.types_left-is, w.saturating_sub-types_left.ensures))
        | else-is_type w ↦ none_taken (is_type c.args.assignment) c.is_type.result c.self.inside.types_left c.if-is_type.types_left c.is_type.ensures w.if-is_type.false w.types_left-is
      ])),
)

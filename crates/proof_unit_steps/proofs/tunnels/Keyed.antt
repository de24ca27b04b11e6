-- Answers of which something is asked where what is there afterwards holds; and what was put is found.
use Rattle.std.proofs.Common.{◌≡◌, Bool, true, false, cond, List, Some, refl, sym, ◌∙◌, subst}
use Rattle.std.specs.Prelude.{if◌then◌else◌}
use Rattle.std.specs.Ordering.{eq_by_cmp}
use Rattle.std.specs.Cmp.{Equal-is, tied_itself}
use Rattle.gnb_types.specs.declared.names.NodeId.{NodeId}
use Rattle.gnb_types.specs.declared.names.UeId.{UeId}
use Rattle.gnb_types.specs.Orders.{ue_cmp}
use Rattle.gnb_types.proofs.OrderLemmas.{ue_total}
use Rattle.tables.specs.Tables.{find, put}
use Rattle.tables.proofs.TableLaws.{find-put}
use Rattle.unit_defs.specs.Ways.{Way, Answer, gives, spent, with_outputs, ◌then◌}
use Rattle.intervals.proofs.Intervals.{all_append}
use Rattle.proof_unit_steps.specs.tunnel_names.Names.{Property, OutputNames, AnswerNames}
use Rattle.proof_unit_steps.specs.tunnels.Units.{AnswerIf}

-- what was put is found
pub put_found : {X : Type 0} (es : List (UeId × X)) (ue : UeId) (x : X) → find ue_cmp (put ue_cmp es ue x) ue ≡ Some x
put_found es ue x =
    let tie : eq_by_cmp ue_cmp ue ue ≡ true = (Equal-is (ue_cmp ue ue)).1 (tied_itself ue_total ue) in
    find-put ue_total es ue x ue ∙ subst (λ (b : Bool). cond b (Some x) (find ue_cmp es ue) ≡ Some x) (sym tie) refl

module _ {M C P : Type 0} {way : Way M C P} (is : Property way) (node : NodeId) where
  pub always : {R : Type 0} (Holds Q : R → Type 0) (a : Answer M P R) → AnswerNames is Q node a → AnswerIf is Holds Q node a
  always Holds Q (gives os r) p = λ h. p
  always Holds Q (spent k) p = tt

  pub if_then : {R S : Type 0} (Holds : S → Type 0) (Q : R → Type 0) (T : S → Type 0) (a : Answer M P R) (f : R → Answer M P S) → AnswerNames is Q node a
      → ((r : R) → Q r → AnswerIf is Holds T node (f r)) → AnswerIf is Holds T node (a then f)
  if_then {S = S} Holds Q T (gives os r) f p q = by (f r) (q r p.0)
    where
      by : (b : Answer M P S) → AnswerIf is Holds T node b → AnswerIf is Holds T node (with_outputs os b)
      by (gives more s) h = λ k. let both = h k in (both.0, all_append (OutputNames is node) os more p.1 both.1)
      by (spent k) h = tt
  if_then Holds Q T (spent k) f p q = tt

  pub either_if : {R : Type 0} (Holds Q : R → Type 0) (t : Bool) (x y : Answer M P R) → AnswerIf is Holds Q node x → AnswerIf is Holds Q node y
      → AnswerIf is Holds Q node (if t then x else y)
  either_if Holds Q true x y p q = p
  either_if Holds Q false x y p q = q

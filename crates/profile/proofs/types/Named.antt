-- The type of a name that has the tree of a form.
use Rattle.std.proofs.Common.{◌≡◌, ap, subst, ◌∙◌, Option, Some}
use Rattle.asn1_syntax.specs.declared.types.definition.TypeId.{TypeId}
use Rattle.asn1_syntax.specs.declared.assignments.assignment.Syntax.{Syntax}
use Rattle.asn1_defs.specs.Targets.{find_type}
use Rattle.message_defs.specs.profile_defs.Forms.{Form, name_of, tree}
use Rattle.profile.specs.trees.Trees.{HasTree}
use Rattle.profile.specs.types.Types.{IsTypeOf}

one : (a b : TypeId) (found : Option TypeId) → found ≡ Some a → found ≡ Some b → a ≡ b
one a b found h k = cc

pub is_its : (m s : Syntax) (form : Form) (h : HasTree s form) → m ≡ s → (found : Option TypeId) (id : TypeId)
    → found ≡ find_type (name_of form) m.assignments → found ≡ Some id → IsTypeOf s (tree form) id
is_its m s form h same found id e k =
    let there : found ≡ Some h.id = e ∙ ap (λ (x : Syntax). find_type (name_of form) x.assignments) same ∙ h.named in
    subst (λ (i : TypeId). IsTypeOf s (tree form) i) (one h.id id found there k) (record { inside = h.inside; is = h.is })

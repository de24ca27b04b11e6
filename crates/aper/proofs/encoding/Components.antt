-- Components from a place on.
use Rattle.std.proofs.Common.{◌≡◌, ℕ, zero, suc, ◌+◌, ◌<◌, List, [], ◌∷◌, length, drop, get_or, Option, Some, None, sym, subst, arith}
use Rattle.bits_core.specs.Writing.{Written}
use Rattle.asn1_syntax.specs.declared.types.definition.Component.{Component}
use Rattle.aper_defs.specs.Trees.{Tree}
use Rattle.aper_values.specs.types.Types.{parts_of}
use Rattle.aper_values.specs.declared.value.Value.{Value}
use Rattle.aper_values.specs.Views.{view, options_view}
use Rattle.aper_fields.specs.members.Membership.{IsValue, AreComponents}
use Rattle.aper_fields.specs.members.Followed.{ValueFollows, ComponentsFollow}
use Rattle.aper_fields.proofs.members.Turns.{item_at, component_absent, component_present, component_value, components_left}
use Rattle.aper_fields.proofs.members.Members.{further}

module _ (of : ℕ → Tree) where
  pub component_at : (parts : List Component) (i : ℕ) (c : Component) (v : Value) (vs : List (Option Value)) → i < length parts
      → c ≡ get_or parts i c → AreComponents (parts_of of (drop i parts)) (options_view (Some v ∷ vs)) → IsValue (of c.definition.number) (view v)
  component_at parts i c v vs less is h =
      component_value of c (drop (i + 1) parts) v vs
      (subst (λ (cs : List Component). AreComponents (parts_of of cs) (options_view (Some v ∷ vs))) (item_at parts i c less is) h)

  pub components_next : (parts : List Component) (i : ℕ) (x : Option Value) (vs : List (Option Value)) → i < length parts
      → AreComponents (parts_of of (drop i parts)) (options_view (x ∷ vs)) → AreComponents (parts_of of (drop (i + 1) parts)) (options_view vs)
  components_next [] i x vs less h = absurd (omega arith)
  components_next (c ∷ parts) zero x vs less h = components_left of c parts x vs h
  components_next (c ∷ parts) (suc i) x vs less h =
      subst (λ (cs : List Component). AreComponents (parts_of of cs) (options_view vs)) (sym (further i c parts))
      (components_next parts i x vs (omega arith) h)

  pub components_absent : (old new : Written) (parts : List Component) (i : ℕ) (vs : List (Option Value)) → i < length parts
      → ComponentsFollow of old new (drop (i + 1) parts) vs → ComponentsFollow of old new (drop i parts) (None ∷ vs)
  components_absent old new [] i vs less more = absurd (omega arith)
  components_absent old new (c ∷ parts) zero vs less more = component_absent of old new c parts vs more
  components_absent old new (c ∷ parts) (suc i) vs less more =
      components_absent old new parts i vs (omega arith)
      (subst (λ (cs : List Component). ComponentsFollow of old new cs vs) (further i c parts) more)

  pub component_turn : (old mid new : Written) (parts : List Component) (i : ℕ) (c : Component) (v : Value) (vs : List (Option Value))
      → i < length parts → c ≡ get_or parts i c → ValueFollows old mid (of c.definition.number) (view v)
      → ComponentsFollow of mid new (drop (i + 1) parts) vs → ComponentsFollow of old new (drop i parts) (Some v ∷ vs)
  component_turn old mid new parts i c v vs less is here more =
      subst (λ (cs : List Component). ComponentsFollow of old new cs (Some v ∷ vs)) (sym (item_at parts i c less is))
      (component_present of old mid new c (drop (i + 1) parts) v vs here more)

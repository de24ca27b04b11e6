-- Components, additions and alternatives by their places.
use Rattle.std.proofs.Common.{◌≡◌, ℕ, zero, suc, ◌+◌, ◌≤◌, List, [], ◌∷◌, ◌++◌, length, drop, Option, Some, None, sym, subst, arith}
use Rattle.std.proofs.lemmas.List.{drop_all}
use Rattle.bits_core.specs.Writing.{Written}
use Rattle.asn1_syntax.specs.declared.types.definition.Component.{Component}
use Rattle.aper_defs.specs.Trees.{Tree}
use Rattle.aper_defs.specs.Values.{Value as SeenValue}
use Rattle.aper_defs.specs.Fields.{Path, Field}
use Rattle.aper_defs.specs.Fields as fields
use Rattle.aper_defs.specs.Bits.{put_all}
use Rattle.aper_defs.specs.Layouts.{added_fields}
use Rattle.aper_defs.specs.Membership.{HasComponents, HasAdded}
use Rattle.aper_values.specs.types.Types.{parts_of}
use Rattle.aper_values.specs.declared.value.Value.{Value}
use Rattle.aper_values.specs.Views.{view, options_view}
use Rattle.aper_fields.specs.members.Rows.{part_type}
use Rattle.aper_fields.specs.members.Membership.{IsInside, AreComponents, AreNamed}
use Rattle.aper_fields.specs.members.Followed.{InsideFollows, AdditionsFollow}
use Rattle.aper_fields.proofs.members.Members.{further}
use Rattle.aper_fields.proofs.members.Turns.{addition_named, addition_raw, addition_value, addition_unknown, additions_left, unknown_left}

abbrev no_components : List Component
no_components = []

module _ (of : ℕ → Tree) where
  fit : (p : Path) (parts : List Component) (vs : List (Option Value)) → HasComponents p (parts_of of parts) (options_view vs)
      → length vs ≤ length parts
  unfolding HasComponents
  fit p [] [] h = omega arith
  fit p [] (None ∷ vs) h = absurd h
  fit p [] (Some v ∷ vs) h = absurd h
  fit p (c ∷ parts) [] h = omega arith
  fit p (c ∷ parts) (None ∷ vs) h = let k : length vs ≤ length parts = fit p parts vs h.1 in omega (arith, k)
  fit p (c ∷ parts) (Some v ∷ vs) h = let k : length vs ≤ length parts = fit p parts vs h.1 in omega (arith, k)

  pub components_fit : (parts : List Component) (vs : List (Option Value)) → AreComponents (parts_of of parts) (options_view vs)
      → length vs ≤ length parts
  components_fit parts vs h = fit h.path parts vs h.has

  -- ---- an alternative past the root
  pub added_inside : (p : Path) (parts : List Component) (i : ℕ) (v : SeenValue) → HasAdded p (parts_of of parts) i v
      → IsInside of (part_type i parts) v
  unfolding HasAdded
  added_inside p [] i v h = h
  added_inside p (c ∷ parts) zero v h = record { path = fields.component c.name ∷ p; has = h.0; fits = h.1 }
  added_inside p (c ∷ parts) (suc i) v h = added_inside p parts i v h

  pub added_follows : (old new : Written) (parts : List Component) (i : ℕ) (v : SeenValue) → InsideFollows of (part_type i parts) old new v
      → (p : Path) (rest : List Field) → put_all old.bits (added_fields p (parts_of of parts) i v ++ rest) ≡ put_all new.bits rest
  unfolding added_fields
  added_follows old new [] i v h p rest = h p p rest
  added_follows old new (c ∷ parts) zero v h p rest = h p (fields.component c.name ∷ p) rest
  added_follows old new (c ∷ parts) (suc i) v h p rest = added_follows old new parts i v h p rest

  -- ---- an addition of a SEQUENCE
  none_left : (i : ℕ) → drop i no_components ≡ no_components
  none_left i = drop_all i no_components (omega arith)

  pub addition_inside : (parts : List Component) (i : ℕ) (v : Value) (vs : List (Option Value))
      → AreNamed (parts_of of (drop i parts)) (options_view (Some v ∷ vs)) → IsInside of (part_type i parts) (view v)
  addition_inside [] i v vs h =
      addition_unknown of v vs (subst (λ (cs : List Component). AreNamed (parts_of of cs) (options_view (Some v ∷ vs))) (none_left i) h)
  addition_inside (c ∷ parts) zero v vs h = addition_value of c parts v vs h
  addition_inside (c ∷ parts) (suc i) v vs h = addition_inside parts i v vs h

  pub additions_next : (parts : List Component) (i : ℕ) (x : Option Value) (vs : List (Option Value))
      → AreNamed (parts_of of (drop i parts)) (options_view (x ∷ vs)) → AreNamed (parts_of of (drop (i + 1) parts)) (options_view vs)
  additions_next [] i x vs h =
      subst (λ (cs : List Component). AreNamed (parts_of of cs) (options_view vs)) (sym (none_left (i + 1)))
      (unknown_left of x vs (subst (λ (cs : List Component). AreNamed (parts_of of cs) (options_view (x ∷ vs))) (none_left i) h))
  additions_next (c ∷ parts) zero x vs h = additions_left of c parts x vs h
  additions_next (c ∷ parts) (suc i) x vs h =
      subst (λ (cs : List Component). AreNamed (parts_of of cs) (options_view vs)) (sym (further i c parts)) (additions_next parts i x vs h)

  pub addition_turn : (old mid new : Written) (parts : List Component) (i : ℕ) (v : Value) (vs : List (Option Value))
      → InsideFollows of (part_type i parts) old mid (view v) → AdditionsFollow of mid new (drop (i + 1) parts) vs
      → AdditionsFollow of old new (drop i parts) (Some v ∷ vs)
  addition_turn old mid new [] i v vs here more =
      subst (λ (cs : List Component). AdditionsFollow of old new cs (Some v ∷ vs)) (sym (none_left i))
      (addition_raw of old mid new v vs here
      (subst (λ (cs : List Component). AdditionsFollow of mid new cs vs) (none_left (i + 1)) more))
  addition_turn old mid new (c ∷ parts) zero v vs here more = addition_named of old mid new c parts v vs here more
  addition_turn old mid new (c ∷ parts) (suc i) v vs here more =
      addition_turn old mid new parts i v vs here
      (subst (λ (cs : List Component). AdditionsFollow of mid new cs vs) (further i c parts) more)

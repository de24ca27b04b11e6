-- One more part of a value that was put.
use Rattle.std.proofs.Common.{◌≡◌, ℕ, zero, suc, ◌+◌, ◌<◌, List, [], ◌∷◌, ◌++◌, length, drop, get_or, Option, Some, None, refl, sym, ap, subst, ◌∙◌, arith, append_assoc}
use Rattle.std.proofs.lemmas.List.{drop_more, drop_all}
use Rattle.bits_core.specs.Writing.{Written}
use Rattle.asn1_syntax.specs.declared.types.definition.Component.{Component}
use Rattle.asn1_defs.specs.Links.{AreBelow}
use Rattle.aper_defs.specs.Trees.{Tree}
use Rattle.aper_defs.specs.Values.{each_from}
use Rattle.aper_defs.specs.Fields.{Path, Field, asked, pad, ie_id, constrained}
use Rattle.aper_defs.specs.Fields as fields
use Rattle.aper_defs.specs.Bits.{put_all, open_fields}
use Rattle.aper_defs.specs.Layouts.{layout, raw_fields, raw_additions, component_fields, addition_fields}
use Rattle.aper_defs.specs.Membership.{HasComponents, HasAdditions, IsRaw}
use Rattle.aper_fields.specs.Following.{Follows}
use Rattle.aper_values.specs.types.Types.{parts_of}
use Rattle.aper_values.specs.declared.value.Value.{Value}
use Rattle.aper_values.specs.Views.{view, values_view, options_view}
use Rattle.aper_fields.specs.members.Membership.{IsValue, FitsInside, AreComponents, AreNamed}
use Rattle.aper_fields.specs.members.Followed.{ValueFollows, OpenFollows, RawFollows, ComponentsFollow, AdditionsFollow, MembersFollow}

pub both_follow : (old mid new : Written) (F G : Path → List Field) → Follows old mid F → Follows mid new G
    → Follows old new (λ p. F p ++ G p)
both_follow old mid new F G f g p rest = ap (put_all old.bits) (append_assoc (F p) (G p) rest) ∙ f p (G p ++ rest) ∙ g p rest

-- an item of a list, and what is left
pub item_at : {A : Type 0} (xs : List A) (i : ℕ) (x : A) → i < length xs → x ≡ get_or xs i x → drop i xs ≡ x ∷ drop (i + 1) xs
item_at xs i x h e = drop_more xs i x h ∙ ap (λ y. y ∷ drop (i + 1) xs) (sym e)

module _ (of : ℕ → Tree) where
  -- ---- components
  pub component_absent : (old new : Written) (c : Component) (parts : List Component) (vs : List (Option Value))
      → ComponentsFollow of old new parts vs → ComponentsFollow of old new (c ∷ parts) (None ∷ vs)
  unfolding component_fields
  component_absent old new c parts vs more p rest = more p rest

  pub component_present : (old mid new : Written) (c : Component) (parts : List Component) (v : Value) (vs : List (Option Value))
      → ValueFollows old mid (of c.definition.number) (view v) → ComponentsFollow of mid new parts vs
      → ComponentsFollow of old new (c ∷ parts) (Some v ∷ vs)
  unfolding component_fields
  component_present old mid new c parts v vs here more p rest =
      both_follow old mid new (λ q. layout (fields.component c.name ∷ q) (of c.definition.number) (view v))
      (λ q. component_fields q (parts_of of parts) (options_view vs)) (λ q. here (fields.component c.name ∷ q)) more p rest

  pub component_value : (c : Component) (parts : List Component) (v : Value) (vs : List (Option Value))
      → AreComponents (parts_of of (c ∷ parts)) (options_view (Some v ∷ vs)) → IsValue (of c.definition.number) (view v)
  unfolding HasComponents
  component_value c parts v vs h = record { path = fields.component c.name ∷ h.path; has = h.has.0 }

  pub components_left : (c : Component) (parts : List Component) (x : Option Value) (vs : List (Option Value))
      → AreComponents (parts_of of (c ∷ parts)) (options_view (x ∷ vs)) → AreComponents (parts_of of parts) (options_view vs)
  unfolding HasComponents
  components_left c parts None vs h = record { path = h.path; has = h.has.1 }
  components_left c parts (Some v) vs h = record { path = h.path; has = h.has.1 }

  pub component_there : (parts : List Component) (i : ℕ) (x : Option Value) (vs : List (Option Value))
      → AreComponents (parts_of of (drop i parts)) (options_view (x ∷ vs)) → i < length parts
  unfolding HasComponents
  component_there [] zero None vs h = absurd h.has
  component_there [] zero (Some v) vs h = absurd h.has
  component_there [] (suc i) None vs h = absurd h.has
  component_there [] (suc i) (Some v) vs h = absurd h.has
  component_there (c ∷ parts) zero x vs h = omega arith
  component_there (c ∷ parts) (suc i) x vs h = omega (arith, component_there parts i x vs h)

  pub components_none : (new : Written) (parts : List Component) → ComponentsFollow of new new parts []
  unfolding component_fields
  components_none new [] p rest = refl
  components_none new (c ∷ parts) p rest = refl

  -- the type of a component is of the module
  -- ---- additions
  pub addition_absent : (old new : Written) (parts : List Component) (i : ℕ) (vs : List (Option Value))
      → AdditionsFollow of old new (drop (i + 1) parts) vs → AdditionsFollow of old new (drop i parts) (None ∷ vs)
  unfolding addition_fields
  addition_absent old new [] i vs more p rest =
      let none : drop (i + 1) parts_none ≡ [] = drop_all (i + 1) parts_none (omega arith) in
      let none' : drop i parts_none ≡ [] = drop_all i parts_none (omega arith) in
      ap (λ (cs : List Component). put_all old.bits (addition_fields p (parts_of of cs) (options_view (None ∷ vs)) ++ rest)) none'
      ∙ sym (ap (λ (cs : List Component). put_all old.bits (addition_fields p (parts_of of cs) (options_view vs) ++ rest)) none)
      ∙ more p rest
    where
      parts_none : List Component
      parts_none = []
  addition_absent old new (c ∷ parts) zero vs more p rest = more p rest
  addition_absent old new (c ∷ parts) (suc i) vs more p rest =
      let further : drop (suc i + 1) (c ∷ parts) ≡ drop (i + 1) parts = (let e : suc i + 1 ≡ suc (i + 1) = omega arith in
      ap (λ n. drop n (c ∷ parts)) e) in
      addition_absent old new parts i vs (λ q fs. ap
      (λ (cs : List Component). put_all old.bits (addition_fields q (parts_of of cs) (options_view vs) ++ fs)) (sym further) ∙ more q fs) p rest

  pub addition_named : (old mid new : Written) (c : Component) (parts : List Component) (v : Value) (vs : List (Option Value))
      → OpenFollows old mid (of c.definition.number) (view v) → AdditionsFollow of mid new parts vs
      → AdditionsFollow of old new (c ∷ parts) (Some v ∷ vs)
  unfolding addition_fields
  addition_named old mid new c parts v vs here more p rest =
      both_follow old mid new
      (λ q. open_fields q (fields.component c.name ∷ q) (layout (fields.component c.name ∷ q) (of c.definition.number) (view v)))
      (λ q. addition_fields q (parts_of of parts) (options_view vs)) (λ q. here q (fields.component c.name ∷ q)) more p rest

  pub addition_raw : (old mid new : Written) (v : Value) (vs : List (Option Value))
      → RawFollows old mid (view v) → AdditionsFollow of mid new [] vs → AdditionsFollow of old new [] (Some v ∷ vs)
  unfolding addition_fields
  addition_raw old mid new v vs here more p rest =
      both_follow old mid new (λ q. raw_fields q q (view v)) (λ q. raw_additions q (options_view vs)) (λ q. here q q) more p rest

  pub additions_none : (new : Written) (parts : List Component) → AdditionsFollow of new new parts []
  unfolding addition_fields
  additions_none new [] p rest = refl
  additions_none new (c ∷ parts) p rest = refl

  pub addition_value : (c : Component) (parts : List Component) (v : Value) (vs : List (Option Value))
      → AreNamed (parts_of of (c ∷ parts)) (options_view (Some v ∷ vs)) → FitsInside (of c.definition.number) (view v)
  unfolding HasAdditions
  addition_value c parts v vs h = record { path = fields.component c.name ∷ h.path; has = h.has.0; fits = h.has.1 }

  pub addition_unknown : (v : Value) (vs : List (Option Value)) → AreNamed (parts_of of []) (options_view (Some v ∷ vs)) → IsRaw (view v)
  unfolding HasAdditions
  addition_unknown v vs h = h.has.0

  pub additions_left : (c : Component) (parts : List Component) (x : Option Value) (vs : List (Option Value))
      → AreNamed (parts_of of (c ∷ parts)) (options_view (x ∷ vs)) → AreNamed (parts_of of parts) (options_view vs)
  unfolding HasAdditions
  additions_left c parts None vs h = record { path = h.path; has = h.has }
  additions_left c parts (Some v) vs h = record { path = h.path; has = h.has.2 }

  pub unknown_left : (x : Option Value) (vs : List (Option Value))
      → AreNamed (parts_of of []) (options_view (x ∷ vs)) → AreNamed (parts_of of []) (options_view vs)
  unfolding HasAdditions
  unknown_left None vs h = record { path = h.path; has = h.has }
  unknown_left (Some v) vs h = record { path = h.path; has = h.has.1 }

  -- ---- members
  pub member_next : (t : Tree) (old mid new : Written) (v : Value) (vs : List Value) → ValueFollows old mid t (view v)
      → MembersFollow t mid new vs → MembersFollow t old new (v ∷ vs)
  member_next t old mid new v vs here more first p rest =
      both_follow old mid new (λ q. layout (fields.member first ∷ q) t (view v))
      (λ q. each_from (λ i w. layout (fields.member i ∷ q) t w) (suc first) (values_view vs))
      (λ q. here (fields.member first ∷ q)) (more (suc first)) p rest

-- the type of a component is of the module
pub below_at : (n : ℕ) (parts : List Component) (i : ℕ) (x : Component) → AreBelow n parts → i < length parts
    → x ≡ get_or parts i x → x.definition.number < n
below_at n [] i x h k e = absurd (omega arith)
below_at n (c ∷ parts) zero x h k e = subst (λ (y : Component). y.definition.number < n) (sym e) h.0
below_at n (c ∷ parts) (suc i) x h k e = below_at n parts i x h.1 (omega arith) e

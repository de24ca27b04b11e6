-- Alternatives by their place.
use Rattle.std.proofs.Common.{◌≡◌, ℕ, zero, suc, ◌-◌, ◌<◌, ◌≤◌, cond, Bool, true, false, List, [], ◌∷◌, ◌++◌, length, get_or, refl, sym, ap, subst, ◌∙◌, arith}
use Rattle.std.specs.Prelude.{nat_lt}
use Rattle.bits_core.specs.Writing.{Written}
use Rattle.asn1_syntax.specs.declared.types.definition.Component.{Component}
use Rattle.aper_defs.specs.Trees.{Tree, part_count, choice}
use Rattle.aper_defs.specs.Values.{Value as SeenValue, chosen}
use Rattle.aper_defs.specs.Fields.{Path, Field}
use Rattle.aper_defs.specs.Fields as fields
use Rattle.aper_defs.specs.Bits.{put_all, open_fields}
use Rattle.aper_defs.specs.Parts.{index_fields}
use Rattle.aper_defs.specs.Layouts.{layout, raw_fields, alternative_fields, added_fields}
use Rattle.aper_defs.specs.Membership.{Has, HasAlternative, HasAdded, IsRaw}
use Rattle.proof_aper.proofs.answers.NumberFacts.{is_below, is_not_below}
use Rattle.aper_fields.specs.Following.{Follows}
use Rattle.aper_values.specs.types.Types.{parts_of}
use Rattle.aper_fields.specs.members.Membership.{IsValue, FitsInside}
use Rattle.aper_fields.specs.members.Followed.{ValueFollows, OpenFollows, RawFollows}
use Rattle.aper_fields.proofs.members.Shapes.{where_true, where_false}
use Rattle.aper_fields.proofs.members.Turns.{both_follow}

module _ (of : ℕ → Tree) where
  pub parts_count : (parts : List Component) → part_count (parts_of of parts) ≡ length parts
  parts_count [] = refl
  parts_count (c ∷ parts) = ap suc (parts_count parts)

  root_fields : (p : Path) (parts : List Component) (i : ℕ) (c : Component) (v : SeenValue) → i < length parts → c ≡ get_or parts i c
      → alternative_fields p (parts_of of parts) i v ≡ layout (fields.component c.name ∷ p) (of c.definition.number) v
  unfolding alternative_fields
  root_fields p [] i c v h e = absurd (omega arith)
  root_fields p (x ∷ parts) zero c v h e =
      ap (λ (y : Component). layout (fields.component y.name ∷ p) (of y.definition.number) v) (sym e)
  root_fields p (x ∷ parts) (suc i) c v h e = root_fields p parts i c v (omega arith) e

  root_has : (p : Path) (parts : List Component) (i : ℕ) (c : Component) (v : SeenValue) → i < length parts → c ≡ get_or parts i c
      → HasAlternative p (parts_of of parts) i v → IsValue (of c.definition.number) v
  unfolding HasAlternative
  root_has p [] i c v h e k = absurd (omega arith)
  root_has p (x ∷ parts) zero c v h e k =
      subst (λ (y : Component). IsValue (of y.definition.number) v) (sym e) (record { path = fields.component x.name ∷ p; has = k })
  root_has p (x ∷ parts) (suc i) c v h e k = root_has p parts i c v (omega arith) e k

  named_fields : (p : Path) (parts : List Component) (i : ℕ) (c : Component) (v : SeenValue) → i < length parts → c ≡ get_or parts i c
      → added_fields p (parts_of of parts) i v ≡ open_fields p (fields.component c.name ∷ p) (layout (fields.component c.name ∷ p) (of c.definition.number) v)
  unfolding added_fields
  named_fields p [] i c v h e = absurd (omega arith)
  named_fields p (x ∷ parts) zero c v h e =
      ap (λ (y : Component). open_fields p (fields.component y.name ∷ p) (layout (fields.component y.name ∷ p) (of y.definition.number) v)) (sym e)
  named_fields p (x ∷ parts) (suc i) c v h e = named_fields p parts i c v (omega arith) e

  named_has : (p : Path) (parts : List Component) (i : ℕ) (c : Component) (v : SeenValue) → i < length parts → c ≡ get_or parts i c
      → HasAdded p (parts_of of parts) i v → FitsInside (of c.definition.number) v
  unfolding HasAdded
  named_has p [] i c v h e k = absurd (omega arith)
  named_has p (x ∷ parts) zero c v h e k =
      subst (λ (y : Component). FitsInside (of y.definition.number) v) (sym e) (record { path = fields.component x.name ∷ p; has = k.0; fits = k.1 })
  named_has p (x ∷ parts) (suc i) c v h e k = named_has p parts i c v (omega arith) e k

  raw_past : (p : Path) (parts : List Component) (i : ℕ) (v : SeenValue) → length parts ≤ i
      → added_fields p (parts_of of parts) i v ≡ raw_fields p p v
  unfolding added_fields
  raw_past p [] i v h = refl
  raw_past p (x ∷ parts) zero v h = absurd (omega arith)
  raw_past p (x ∷ parts) (suc i) v h = raw_past p parts i v (omega arith)

  has_past : (p : Path) (parts : List Component) (i : ℕ) (v : SeenValue) → length parts ≤ i → HasAdded p (parts_of of parts) i v → IsRaw v
  unfolding HasAdded
  has_past p [] i v h k = k
  has_past p (x ∷ parts) zero v h k = absurd (omega arith)
  has_past p (x ∷ parts) (suc i) v h k = has_past p parts i v (omega arith) k

  -- ---- of a choice
  module _ (e : Bool) (root additions : List Component) (i : ℕ) (v : SeenValue) where
    abbrev type : Tree
    type = choice e (parts_of of root) (parts_of of additions)

    pub chosen_root : (c : Component) → i < length root → c ≡ get_or root i c → IsValue type (chosen i v) → IsValue (of c.definition.number) v
    unfolding Has
    chosen_root c h is k =
        root_has k.path root i c v h is (where_true (nat_lt i (part_count (parts_of of root))) _ _
        (is_below i (part_count (parts_of of root)) (omega (arith, parts_count root))) k.has.1)

    past_has : (k : IsValue type (chosen i v)) → length root ≤ i → HasAdded k.path (parts_of of additions) (i - part_count (parts_of of root)) v
    unfolding Has
    past_has k h = where_false (nat_lt i (part_count (parts_of of root))) _ _
        (is_not_below i (part_count (parts_of of root)) (omega (arith, parts_count root))) k.has.1

    pub chosen_named : (c : Component) → length root ≤ i → i - length root < length additions → c ≡ get_or additions (i - length root) c
        → IsValue type (chosen i v) → FitsInside (of c.definition.number) v
    chosen_named c h less is k =
        named_has k.path additions (i - length root) c v less is
        (subst (λ n. HasAdded k.path (parts_of of additions) (i - n) v) (parts_count root) (past_has k h))

    pub chosen_past : length root ≤ i → length additions ≤ i - length root → IsValue type (chosen i v) → IsRaw v
    chosen_past h more k =
        has_past k.path additions (i - length root) v more
        (subst (λ n. HasAdded k.path (parts_of of additions) (i - n) v) (parts_count root) (past_has k h))

    body : Bool → ℕ → Path → List Field
    body b n p = cond b (alternative_fields p (parts_of of root) i v) (added_fields p (parts_of of additions) (i - n) v)

    -- the index, and then the body
    choice_follows : (old mid new : Written) (b : Bool) (G : Path → List Field) → nat_lt i (length root) ≡ b
        → ((p : Path) → body b (length root) p ≡ G p)
        → Follows old mid (λ p. index_fields p (length root) e i) → Follows mid new G → ValueFollows old new type (chosen i v)
    unfolding layout body
    choice_follows old mid new b G test is f g p rest =
        ap (λ n. put_all old.bits ((index_fields p n e i ++ body (nat_lt i n) n p) ++ rest)) (parts_count root)
        ∙ ap (λ c. put_all old.bits ((index_fields p (length root) e i ++ body c (length root) p) ++ rest)) test
        ∙ ap (λ fs. put_all old.bits ((index_fields p (length root) e i ++ fs) ++ rest)) (is p)
        ∙ both_follow old mid new (λ q. index_fields q (length root) e i) G f g p rest

    pub root_follows : (old mid new : Written) (c : Component) → i < length root → c ≡ get_or root i c
        → Follows old mid (λ p. index_fields p (length root) e i) → ValueFollows mid new (of c.definition.number) v
        → ValueFollows old new type (chosen i v)
    unfolding body
    root_follows old mid new c h is f g =
        choice_follows old mid new true (λ p. layout (fields.component c.name ∷ p) (of c.definition.number) v) (is_below i (length root) h)
        (λ p. root_fields p root i c v h is) f (λ p. g (fields.component c.name ∷ p))

    pub named_follows : (old mid new : Written) (c : Component) → length root ≤ i → i - length root < length additions
        → c ≡ get_or additions (i - length root) c
        → Follows old mid (λ p. index_fields p (length root) e i) → OpenFollows mid new (of c.definition.number) v
        → ValueFollows old new type (chosen i v)
    unfolding body
    named_follows old mid new c h less is f g =
        choice_follows old mid new false
        (λ p. open_fields p (fields.component c.name ∷ p) (layout (fields.component c.name ∷ p) (of c.definition.number) v))
        (is_not_below i (length root) h)
        (λ p. named_fields p additions (i - length root) c v less is) f (λ p. g p (fields.component c.name ∷ p))

    pub past_follows : (old mid new : Written) → length root ≤ i → length additions ≤ i - length root
        → Follows old mid (λ p. index_fields p (length root) e i) → RawFollows mid new v
        → ValueFollows old new type (chosen i v)
    unfolding body
    past_follows old mid new h more f g =
        choice_follows old mid new false (λ p. raw_fields p p v) (is_not_below i (length root) h)
        (λ p. raw_past p additions (i - length root) v more) f (λ p. g p p)

-- Values that were put, by the form of their type.
use Rattle.std.proofs.Common.{◌≡◌, ℕ, ◌-◌, ◌<◌, ◌≤◌, cond, Bool, List, [], ◌∷◌, ◌++◌, length, Option, refl, sym, ap, subst, ◌∙◌, arith}
use Rattle.std.specs.Prelude.{nat_lt}
use Rattle.bits_core.specs.Writing.{Written}
use Rattle.asn1_syntax.specs.declared.types.definition.Size.{Size}
use Rattle.asn1_syntax.specs.declared.types.definition.Component.{Component}
use Rattle.asn1_syntax.specs.declared.assignments.assignment.IeRow.{IeRow}
use Rattle.aper_defs.specs.Trees.{Tree, Procedures, choice, sequence_of, container, pdu, part_count, slots, mandatory_count}
use Rattle.aper_defs.specs.Values.{Value as SeenValue, chosen, list, elements, message, each_from}
use Rattle.aper_defs.specs.Fields.{Path, Field, asked, pad}
use Rattle.aper_defs.specs.Fields as fields
use Rattle.aper_defs.specs.Bits.{put_all}
use Rattle.aper_defs.specs.Parts.{index_fields, count_fields}
use Rattle.aper_defs.specs.Layouts.{layout, alternative_fields, added_fields, ie_fields, row_fields, body_fields, message_head}
use Rattle.aper_defs.specs.Membership.{Has, HasAdded}
use Rattle.proof_aper.proofs.answers.NumberFacts.{is_below, is_not_below}
use Rattle.aper_fields.specs.Following.{Follows}
use Rattle.aper_values.specs.types.Types.{parts_of, rows_of}
use Rattle.aper_values.specs.declared.value.Value.{Value}
use Rattle.aper_values.specs.declared.value.Element.{Element}
use Rattle.aper_values.specs.Views.{values_view, ies_view}
use Rattle.aper_fields.specs.members.Membership.{IsValue, IsInside}
use Rattle.aper_fields.specs.members.Followed.{ValueFollows, InsideFollows, MembersFollow, ElementsFollow, past_fields}
use Rattle.aper_fields.proofs.members.ChoiceLemmas.{parts_count}
use Rattle.aper_fields.proofs.members.Shapes.{where_false}
use Rattle.aper_fields.proofs.members.Turns.{both_follow}
use Rattle.aper_fields.specs.members.Rows.{part_type}
use Rattle.aper_fields.proofs.members.Members.{values_count, elements_count}
use Rattle.aper.proofs.encoding.Members.{added_inside, added_follows}

-- ---- a type as its form
pub follows_of : (old new : Written) (t u : Tree) (v : SeenValue) → t ≡ u → ValueFollows old new u v → ValueFollows old new t v
follows_of old new t u v e h = subst (λ x. ValueFollows old new x v) (sym e) h

pub follows_as : (old new : Written) (t u : Tree) (v w : SeenValue) → t ≡ u → v ≡ w → ValueFollows old new u w → ValueFollows old new t v
follows_as old new t u v w e f h = subst (λ x. ValueFollows old new t x) (sym f) (follows_of old new t u w e h)

-- ---- lists
pub list_follows : (size : Option Size) (t : Tree) (vs : List Value) (old mid new : Written)
    → Follows old mid (λ p. count_fields p size (length vs)) → MembersFollow t mid new vs
    → ValueFollows old new (sequence_of size t) (list (values_view vs))
unfolding layout
list_follows size t vs old mid new counted members p rest =
    let tail : List Field = each_from (λ i v. layout (fields.member i ∷ p) t v) 0 (values_view vs) in
    ap (λ (n : ℕ). put_all old.bits ((count_fields p size n ++ tail) ++ rest)) (values_count vs)
    ∙ both_follow old mid new (λ q. count_fields q size (length vs)) (λ q. each_from (λ i v. layout (fields.member i ∷ q) t v) 0 (values_view vs))
    counted (members 0) p rest

module _ (of : ℕ → Tree) where
  -- ---- containers
  pub elements_none : (rows : List IeRow) (new : Written) → ElementsFollow of rows new new []
  elements_none rows new known left p rest = refl

  pub container_follows : (rows : List IeRow) (es : List (Element Value)) (count : ℕ) (old padded counted new : Written) → count ≡ length es
      → Follows old padded (λ p. asked p pad 0 ∷ [])
      → ((least : ℕ) → Follows padded counted (λ p. asked p (fields.ie_count least) count ∷ []))
      → ElementsFollow of rows counted new es
      → ValueFollows old new (container (rows_of of rows)) (elements (ies_view es))
  unfolding layout
  container_follows rows es count old padded counted new e one two three p rest =
      let known = slots (rows_of of rows) in
      let least : ℕ = mandatory_count known in
      let tail : List Field = ie_fields p known (λ id v. row_fields p (rows_of of rows) id v) known (ies_view es) ++ rest in
      ap (λ (n : ℕ). put_all old.bits (asked p pad 0 ∷ asked p (fields.ie_count least) n ∷ tail)) (elements_count es ∙ sym e)
      ∙ one p (asked p (fields.ie_count least) count ∷ tail)
      ∙ two least p tail
      ∙ three known known p rest

  -- ---- choices
  module _ (e : Bool) (root additions : List Component) (i : ℕ) (v : SeenValue) where
    abbrev type : Tree
    type = choice e (parts_of of root) (parts_of of additions)

    pub chosen_inside : length root ≤ i → IsValue type (chosen i v) → IsInside of (part_type (i - length root) additions) v
    unfolding Has
    chosen_inside h k =
        added_inside of k.path additions (i - length root) v
        (subst (λ n. HasAdded k.path (parts_of of additions) (i - n) v) (parts_count of root)
        (where_false (nat_lt i (part_count (parts_of of root))) _ _
        (is_not_below i (part_count (parts_of of root)) (omega (arith, parts_count of root, h))) k.has.1))

    body : Bool → ℕ → Path → List Field
    body b n p = cond b (alternative_fields p (parts_of of root) i v) (added_fields p (parts_of of additions) (i - n) v)

    pub added_follow : (old mid new : Written) → length root ≤ i
        → Follows old mid (λ p. index_fields p (length root) e i) → InsideFollows of (part_type (i - length root) additions) mid new v
        → ValueFollows old new type (chosen i v)
    unfolding layout body
    added_follow old mid new h f g p rest =
        ap (λ n. put_all old.bits ((index_fields p n e i ++ body (nat_lt i n) n p) ++ rest)) (parts_count of root)
        ∙ ap (λ c. put_all old.bits ((index_fields p (length root) e i ++ body c (length root) p) ++ rest)) (is_not_below i (length root) h)
        ∙ both_follow old mid new (λ q. index_fields q (length root) e i) (λ q. added_fields q (parts_of of additions) (i - length root) v)
        f (added_follows of mid new additions (i - length root) v g) p rest

-- ---- messages
module _ (procedures : Procedures) (index code criticality : ℕ) (body : SeenValue) where
  fields_of : Bool → Path → List Field
  fields_of b p = cond b (message_head p index code criticality ++ body_fields p procedures index code body) (past_fields p index body)

  pub message_known_follows : (old mid new : Written) → index < 3 → Follows old mid (λ p. message_head p index code criticality)
      → Follows mid new (λ p. body_fields p procedures index code body)
      → ValueFollows old new (pdu procedures) (message index code criticality body)
  unfolding layout fields_of
  message_known_follows old mid new few head inside p rest =
      ap (λ b. put_all old.bits (fields_of b p ++ rest)) (is_below index 3 few)
      ∙ both_follow old mid new (λ q. message_head q index code criticality) (λ q. body_fields q procedures index code body) head inside p rest

  pub message_past_follows : (old new : Written) → 3 ≤ index → Follows old new (λ p. past_fields p index body)
      → ValueFollows old new (pdu procedures) (message index code criticality body)
  unfolding layout fields_of
  message_past_follows old new many past p rest =
      ap (λ b. put_all old.bits (fields_of b p ++ rest)) (is_not_below index 3 many) ∙ past p rest

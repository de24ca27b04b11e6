-- A turn of the loops over components and additions, and their ends.
use Rattle.std.proofs.Common.{◌≡◌, ℕ, zero, suc, ◌+◌, ◌<◌, ◌≤◌, min, List, [], ◌∷◌, length, drop, get_or, Option, None, refl, ap, subst, ◌∙◌, arith}
use Rattle.json.specs.Written.{Written}
use Rattle.serde_json.specs.Data.{Items, no_items, item, Members, no_members}
use Rattle.asn1_syntax.specs.declared.types.definition.Component.{Component}
use Rattle.aper_values.specs.declared.value.Value.{Value}
use Rattle.aper_values.specs.Views.{options_view}
use Rattle.aper_fields.specs.members.Rows.{part_type}
use Rattle.aper_fields.proofs.members.Turns.{item_at}
use Rattle.json_defs.specs.Named.{Named}
use Rattle.json_defs.specs.shown_defs.Printed.{added_shown}
use Rattle.values_json.specs.tokens.Written.{WritesWhole}
use Rattle.json_defs.specs.type_defs.Types.{parts_with}
use Rattle.values_json.specs.order.Listed.{listed}
use Rattle.values_json.specs.printing.Inside.{added_one}
use Rattle.values_json.proofs.printing.Written.{LeavesItems, LeavesMembers, item_left}
use Rattle.values_json.proofs.printing.Turns.{added_step, added_end, listed_end}

module _ (of : ℕ → Named) (ps : List Component) (vs : List (Option Value)) where
  abbrev added_from : ℕ → Items
  added_from i = added_shown (parts_with of (drop i ps)) (options_view (drop i vs))

  pub addition_left : (start : Written) (all : Items) (now next : Written) (i : ℕ) (o : Option Value) → i < length vs → o ≡ get_or vs i o
      → LeavesItems start all now (added_shown (parts_with of (drop i ps)) (options_view (drop i vs)))
      → WritesWhole (added_one of (part_type i ps) o) now next
      → LeavesItems start all next (added_shown (parts_with of (drop (i + 1) ps)) (options_view (drop (i + 1) vs)))
  addition_left start all now next i o lt is left put =
      let step : added_from i ≡ item (added_one of (part_type i ps) o) (added_from (i + 1)) =
      ap (λ (ws : List (Option Value)). added_shown (parts_with of (drop i ps)) (options_view ws)) (item_at vs i o lt is)
      ∙ added_step of ps i o (drop (i + 1) vs) in
      item_left start all now next (added_one of (part_type i ps) o) (added_from (i + 1)) (subst (λ (ds : Items). LeavesItems start all now ds) step left) put

  pub additions_left : (start : Written) (all : Items) (now : Written) (i : ℕ) → length vs ≤ i
      → LeavesItems start all now (added_shown (parts_with of (drop i ps)) (options_view (drop i vs))) → LeavesItems start all now no_items
  additions_left start all now i most left = subst (λ (ds : Items). LeavesItems start all now ds) (added_end of ps i vs most) left

  abbrev part_of : ℕ → Members
  part_of i = listed (parts_with of (drop i ps)) (options_view (drop i vs))

  split : (qs : List Component) (j : ℕ) → j < length qs → (q : Component) × (drop j qs ≡ q ∷ drop (suc j) qs)
  split [] j lt = absurd (omega arith)
  split (q ∷ qs) zero lt = (q, refl)
  split (q ∷ qs) (suc j) lt = split qs j (omega arith)

  next_to : (i : ℕ) → suc i ≡ i + 1
  next_to i = omega arith

  pub absent_left : (start : Written) (all : Members) (now : Written) (i : ℕ) → i < length ps → i < length vs → None ≡ get_or vs i None
      → LeavesMembers start all now (listed (parts_with of (drop i ps)) (options_view (drop i vs)))
      → LeavesMembers start all now (listed (parts_with of (drop (i + 1) ps)) (options_view (drop (i + 1) vs)))
  absent_left start all now i small lt is left =
      let q : Component = (split ps i small).0 in
      let parts : drop i ps ≡ q ∷ drop (i + 1) ps = (split ps i small).1 ∙ ap (λ (n : ℕ). q ∷ drop n ps) (next_to i) in
      let same : part_of i ≡ part_of (i + 1) =
      ap (λ (qs : List Component). listed (parts_with of qs) (options_view (drop i vs))) parts
      ∙ ap (λ (ws : List (Option Value)). listed (parts_with of (q ∷ drop (i + 1) ps)) (options_view ws)) (item_at vs i None lt is) in
      subst (λ (ms : Members). LeavesMembers start all now ms) same left

  pub components_left : (start : Written) (all : Members) (now : Written) (i : ℕ) → min (length ps) (length vs) ≤ i
      → LeavesMembers start all now (listed (parts_with of (drop i ps)) (options_view (drop i vs))) → LeavesMembers start all now no_members
  components_left start all now i most left = subst (λ (ms : Members). LeavesMembers start all now ms) (listed_end of ps vs i most) left

-- Information elements, one after the other, and their order.
use Rattle.std.proofs.Common.{◌≡◌, ℕ, suc, ◌==◌, ◌<◌, ◌≤◌, ◌++◌, List, [], ◌∷◌, length, map, Bool, true, false, ◌&&◌, not, Some, Result, Err, refl, sym, ap, subst, ◌∙◌}
use Rattle.std.specs.Prelude.{nat_lt}
use Rattle.serde_json.specs.Data.{Data, null, boolean, number, string, array, object, Items, no_items, item, Members, no_members}
use Rattle.serde_json.specs.Find.{as_object}
use Rattle.serde_json.specs.View.{items_view, members_view}
use Rattle.serde_json.specs.declared.value.Value as trees
use Rattle.asn1_syntax.specs.declared.types.definition.TypeId.{TypeId}
use Rattle.asn1_syntax.specs.declared.assignments.assignment.IeRow.{IeRow}
use Rattle.aper_defs.specs.Fields.{Path}
use Rattle.aper_defs.specs.Fields as ways
use Rattle.aper_defs.specs.Trees.{Tree, Slot, Rows, row, slots, slots_left}
use Rattle.aper_defs.specs.Values as seen
use Rattle.aper_fields.specs.members.Rows.{row_type}
use Rattle.aper_values.specs.types.Types as types
use Rattle.aper_values.specs.types.Types.{is_mandatory}
use Rattle.aper_values.specs.declared.value.Value.{Value}
use Rattle.aper_values.specs.declared.value.Element.{Element}
use Rattle.aper_values.specs.Views.{view, ies_of, element_view}
use Rattle.json_defs.specs.Named.{Named, tree_of, rows_of, container}
use Rattle.json_defs.specs.Members.{members_in, item_count, natural_in, member_of, id_key, criticality_key, criticality_in}
use Rattle.json_defs.specs.Shown.{element_keys}
use Rattle.json_defs.specs.Readings.{or_else, elements_in, row_in, value_of}
use Rattle.json_defs.specs.Demands.{Demand, first_fault, shape, range, each_demand, element_demands, id_in, is_next, are_in_order, row_demands, demands}
use Rattle.json_defs.specs.type_defs.Types.{rows_with}
use Rattle.proof_json.proofs.values.Words.{is_not_less}
use Rattle.json_fields.specs.declared.simple.refusal.Refusal.{Refusal}
use Rattle.json_fields.specs.declared.simple.refusal.Refusal.TheVariants.{Fault, Memory}
use Rattle.json_fields.specs.simple.Answers.{Tells}
use Rattle.json_fields.specs.parts.Order.{are_ids_in_order, ids_of}
use Rattle.json_read.specs.declared.wholes.heads.ElementHead.{ElementHead}
use Rattle.json_read.specs.wholes.Heads.{element_head_demands, IsElementHead}
use Rattle.json_read.specs.wholes.Reads.{ReadsAs, element_of}
use Rattle.json_read.proofs.wholes.Demanded.{NoneFails, both_none, told_first, told_later, reads_later}
use Rattle.json_read.proofs.wholes.Puts.{ies_then, ies_more, items_count}
use Rattle.json_read.specs.reading.Inside.{contents_demands, contents_read}
use Rattle.json_read.proofs.reading.Bodies.{row_asked, row_read}
use Rattle.json_read.proofs.reading.Lists.{Left}

module _ (of : ℕ → Named) (rows : List IeRow) where
  abbrev pub element_asked : Path → ℕ → Data → List Demand
  element_asked p i d = element_demands p (λ inside id ms. row_demands inside (rows_with of rows) id ms) d

  abbrev elements_left : Items → seen.Ies
  elements_left ds = elements_in (λ id ms. row_in (rows_with of rows) id ms) ds

  abbrev pub IsContainer : List (Element seen.Value) → ℕ → Items → Value → Type 0
  IsContainer made i ds v = view v ≡ seen.elements (ies_then made (elements_left ds))

  abbrev pub container_tail : Items → Path → List Demand
  container_tail ds p = range p (are_in_order (slots (rows_of (rows_with of rows))) (slots (rows_of (rows_with of rows))) ds && nat_lt (item_count ds) 65536) ∷ []

  -- ---- one element
  module _ (i : ℕ) (d : Data) where
    pub head_stops : (refusal : Refusal) → Tells (λ p. element_head_demands p d) refusal → Tells (λ p. element_asked p i d) refusal
    head_stops refusal told =
        told_first (λ p. element_head_demands p d)
        (λ p. row_demands (ways.element (id_in d) ∷ p) (rows_with of rows) (id_in d) (members_in (as_object d))) refusal told

    module _ (head : ElementHead) (is : IsElementHead d head) (none : NoneFails (λ p. element_head_demands p d)) where
      abbrev ms : Members
      ms = members_view head.members.now.entries

      abbrev pub contents_asked : Path → List Demand
      contents_asked p = contents_demands of (row_type head.id rows) p element_keys ms

      rest_is : (p : Path) → contents_asked (ways.element head.id ∷ p)
          ≡ row_demands (ways.element (id_in d) ∷ p) (rows_with of rows) (id_in d) (members_in (as_object d))
      rest_is p =
          sym (row_asked of ms rows head.id (ways.element head.id ∷ p))
          ∙ ap (λ (n : ℕ). row_demands (ways.element n ∷ p) (rows_with of rows) n ms) is.id
          ∙ ap (λ (e : Data). row_demands (ways.element (id_in d) ∷ p) (rows_with of rows) (id_in d) (members_in (as_object e))) (sym is.is)

      pub contents_stop : (refusal : Refusal) → Tells (λ p. contents_asked (ways.element head.id ∷ p)) refusal
          → Tells (λ p. element_asked p i d) refusal
      contents_stop refusal told =
          told_later (λ p. element_head_demands p d)
          (λ p. row_demands (ways.element (id_in d) ∷ p) (rows_with of rows) (id_in d) (members_in (as_object d))) refusal none
          (told_as refusal told)
        where
          told_as : (r : Refusal) → Tells (λ p. contents_asked (ways.element head.id ∷ p)) r
              → Tells (λ p. row_demands (ways.element (id_in d) ∷ p) (rows_with of rows) (id_in d) (members_in (as_object d))) r
          told_as (Fault fault path) h = λ p. ap first_fault (sym (rest_is p)) ∙ h p
          told_as Memory h = tt

      pub contents_pass : NoneFails (λ p. contents_asked (ways.element head.id ∷ p)) → NoneFails (λ p. element_asked p i d)
      contents_pass pass =
          both_none (λ p. element_head_demands p d)
          (λ p. row_demands (ways.element (id_in d) ∷ p) (rows_with of rows) (id_in d) (members_in (as_object d))) none
          (λ p. ap first_fault (sym (rest_is p)) ∙ pass p)

      element_more : (ds : Items) → elements_left (item d ds)
          ≡ seen.ie head.id head.criticality (contents_read of (row_type head.id rows) ms) (elements_left ds)
      element_more ds =
          ap (λ (e : Data). elements_left (item e ds)) is.is
          ∙ ap (λ (n : ℕ). seen.ie n (or_else 0 (criticality_in (member_of criticality_key ms))) (row_in (rows_with of rows) n ms) (elements_left ds))
          (sym (is.id ∙ ap id_in is.is))
          ∙ ap (λ (n : ℕ). seen.ie head.id n (row_in (rows_with of rows) head.id ms) (elements_left ds)) (ap (or_else 0) (sym is.criticality))
          ∙ ap (λ (v : seen.Value). seen.ie head.id head.criticality v (elements_left ds)) (row_read of ms rows head.id)

      pub container_more : (made more : List (Element seen.Value)) (j : ℕ) (ds : Items) (v : Value)
          → more ≡ made ++ element_of head (contents_read of (row_type head.id rows) ms) ∷ []
          → IsContainer more j ds v → IsContainer made i (item d ds) v
      container_more made more j ds v put h =
          h ∙ ap (λ (es : List (Element seen.Value)). seen.elements (ies_then es (elements_left ds))) put
          ∙ ap seen.elements (ies_more made (element_of head (contents_read of (row_type head.id rows) ms)) (elements_left ds))
          ∙ ap (λ (ies : seen.Ies). seen.elements (ies_then made ies)) (sym (element_more ds))

  -- ---- the order of all of them, by their ids
  abbrev pub ids_in : Items → List ℕ
  ids_in no_items = []
  ids_in (item d ds) = id_in d ∷ ids_in ds

  -- the ids of elements that were made
  abbrev pub seen_ids : List (Element seen.Value) → List ℕ
  seen_ids [] = []
  seen_ids (e ∷ es) = e.id ∷ seen_ids es

  pub ids_seen : (es : List (Element Value)) → ids_of es ≡ seen_ids (map element_view es)
  ids_seen [] = refl
  ids_seen (e ∷ es) = ap (λ (ids : List ℕ). e.id ∷ ids) (ids_seen es)

  one_id : (made : List (Element seen.Value)) (e : Element seen.Value) (rest : List ℕ) → seen_ids (made ++ e ∷ []) ++ rest ≡ seen_ids made ++ e.id ∷ rest
  one_id [] e rest = refl
  one_id (f ∷ made) e rest = ap (λ (ids : List ℕ). f.id ∷ ids) (one_id made e rest)

  pub ids_more : (made more : List (Element seen.Value)) (head : ElementHead) (v : seen.Value) (d : Data) (ds : Items) → IsElementHead d head
      → more ≡ made ++ element_of head v ∷ [] → seen_ids more ++ ids_in ds ≡ seen_ids made ++ ids_in (item d ds)
  ids_more made more head v d ds is put =
      ap (λ (es : List (Element seen.Value)). seen_ids es ++ ids_in ds) put
      ∙ one_id made (element_of head v) (ids_in ds)
      ∙ ap (λ (n : ℕ). seen_ids made ++ n ∷ ids_in ds) is.id

  order_is : (known left : List Slot) (ds : Items) → are_ids_in_order known left (ids_in ds) ≡ are_in_order known left ds
  order_is known left no_items = refl
  order_is known left (item d ds) = ap (λ (b : Bool). is_next known left (id_in d) && b) (order_is known (slots_left known (id_in d) left) ds)

  rows_same : (rs : List IeRow) → rows_of (rows_with of rs) ≡ types.rows_of (λ n. tree_of (of n)) rs
  unfolding rows_of
  rows_same [] = refl
  rows_same (r ∷ rs) = ap (row r.id (is_mandatory r.presence) (tree_of (of r.definition.number))) (rows_same rs)

  pub container_tail_is : (es : List (Element Value)) (vs : List trees.Value) (ordered : Bool) → ids_of es ≡ ids_in (items_view vs)
      → ((f : ℕ → Tree) → ordered ≡ are_ids_in_order (slots (types.rows_of f rows)) (slots (types.rows_of f rows)) (ids_of es))
      → (p : Path) → container_tail (items_view vs) p ≡ range p (ordered && nat_lt (length vs) 65536) ∷ []
  container_tail_is es vs ordered ids h p =
      let ss : List Slot = slots (rows_of (rows_with of rows)) in
      let same : ordered ≡ are_in_order ss ss (items_view vs) =
      h (λ n. tree_of (of n))
      ∙ ap (λ (rs : Rows). are_ids_in_order (slots rs) (slots rs) (ids_of es)) (sym (rows_same rows))
      ∙ ap (are_ids_in_order ss ss) ids
      ∙ order_is ss ss (items_view vs) in
      ap (λ (b : Bool). range p (b && nat_lt (item_count (items_view vs)) 65536) ∷ []) (sym same)
      ∙ ap (λ (n : ℕ). range p (ordered && nat_lt n 65536) ∷ []) (items_count vs)

  and_false : (b : Bool) → (b && false) ≡ false
  and_false true = refl
  and_false false = refl

  pub too_many : (vs : List trees.Value) → 65536 ≤ length vs
      → (are_in_order (slots (rows_of (rows_with of rows))) (slots (rows_of (rows_with of rows))) (items_view vs) && nat_lt (item_count (items_view vs)) 65536)
      ≡ false
  too_many vs most =
      let ss : List Slot = slots (rows_of (rows_with of rows)) in
      ap (λ (n : ℕ). are_in_order ss ss (items_view vs) && nat_lt n 65536) (items_count vs)
      ∙ ap (λ (b : Bool). are_in_order ss ss (items_view vs) && b) (is_not_less (length vs) 65536 most)
      ∙ and_false (are_in_order ss ss (items_view vs))

  pub container_whole : (vs : List trees.Value) (answer : Result Value Refusal)
      → Left element_asked (container_tail (items_view vs)) IsContainer [] 0 (items_view vs) answer
      → ReadsAs (λ p. demands p (container (rows_with of rows)) (array (items_view vs)))
      (value_of (container (rows_with of rows)) (array (items_view vs))) answer
  unfolding demands value_of
  container_whole vs answer h =
      reads_later (λ v. view v ≡ seen.elements (elements_left (items_view vs))) (λ p. shape p true ∷ [])
      (λ p. each_demand (element_asked p) 0 (items_view vs) ++ container_tail (items_view vs) p) answer (λ p. refl) h

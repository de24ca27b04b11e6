-- A list of information elements.
use Rattle.std.proofs.Common.{◌≡◌, ℕ, suc, ◌<◌, Bool, true, false, cond, ◌&&◌, ◌==◌, nat_lt, List, ◌∷◌, Option, Some, None, is_some, refl, sym, ap, subst, arith}
use Rattle.serde_json.specs.Data.{Data, array, object, Items, no_items, item, Members}
use Rattle.aper_defs.specs.Trees.{Slot, slots, slots_left, slots_before, has_slot, mandatory_count}
use Rattle.aper_defs.specs.Fields.{Path}
use Rattle.aper_defs.specs.Fields as ways
use Rattle.aper_defs.specs.Values.{Value, elements, Ies, no_ies, ie, ie_count}
use Rattle.aper_defs.specs.Membership.{Either, IsInOrder, AreElements, Has, HasRow}
use Rattle.json_defs.specs.Named.{NamedRows, container, no_rows, row, tree_of, rows_of}
use Rattle.json_defs.specs.Members.{integer_in, natural_in, item_count, member_of, value_key, id_key, criticality_key, criticality_in}
use Rattle.json_defs.specs.Shown.{EachElement, element_keys, Shows, ShowsRow}
use Rattle.json_defs.specs.Readings.{or_else, elements_in, value_of, row_in}
use Rattle.json_defs.specs.Demands.{Demand, known_member, each_demand, is_within, is_next, are_in_order, element_demands, demands, row_demands}
use Rattle.proof_json.proofs.values.Holding.{Holds, Lawful, AreRowsLawful, apart, both_true, first_true, second_true, front_holds, rest_holds, both_hold}
use Rattle.proof_json.proofs.values.Words.{below, is_less, same, is_same, within, is_within_of}
use Rattle.proof_json.proofs.choices.Bodies.{HasKnown, HasFitting, natural_told, natural_read, criticality_read, criticality_told, criticality_there, raw_member_forth, raw_member_back, known_forth, known_back}
use Rattle.proof_json.proofs.lawful.Lists.{row_one, forth_by, back_by}

row_forth : (p : Path) (rows : NamedRows) → AreRowsLawful rows → (id : ℕ) (ms : Members)
    → Holds (row_demands (ways.element id ∷ p) rows id ms)
    → ShowsRow rows id ms (row_in rows id ms) × HasRow p (rows_of rows) id (row_in rows id ms)
unfolding ShowsRow row_in row_demands HasRow rows_of
row_forth p no_rows l id ms h = raw_member_forth (ways.element id ∷ p) element_keys ms h
row_forth p (row other mandatory t others) l id ms h =
    let q = ways.element id ∷ p in
    forth_by (other == id) (known_member q element_keys ms t (demands q t (member_of value_key ms))) (row_demands q others id ms)
    (value_of t (member_of value_key ms)) (row_in others id ms)
    (λ v. HasKnown element_keys ms t v) (λ v. ShowsRow others id ms v)
    (λ v. HasFitting q t v) (λ v. HasRow p (rows_of others) id v)
    (known_forth q element_keys ms t l.0) (row_forth p others l.1 id ms) h

row_back : (p : Path) (rows : NamedRows) → AreRowsLawful rows → (id : ℕ) (ms : Members) (v : Value) → ShowsRow rows id ms v
    → HasRow p (rows_of rows) id v → Holds (row_demands (ways.element id ∷ p) rows id ms)
unfolding ShowsRow row_demands HasRow rows_of
row_back p no_rows l id ms v h g = raw_member_back (ways.element id ∷ p) element_keys ms v h g
row_back p (row other mandatory t others) l id ms v h g =
    let q = ways.element id ∷ p in
    back_by (other == id) (known_member q element_keys ms t (demands q t (member_of value_key ms))) (row_demands q others id ms)
    (HasKnown element_keys ms t v) (ShowsRow others id ms v) (HasFitting q t v) (HasRow p (rows_of others) id v)
    (known_back q element_keys ms t l.0 v) (row_back p others l.1 id ms v) h g

-- ---- their order
next_by : (b : Bool) (x : Bool) (n : ℕ) → cond b (x && n == 0) true ≡ true → Either b ((x ≡ true) × (n ≡ 0)) (Unit {0})
next_by true x n h = (first_true x (n == 0) h, same n 0 (second_true x (n == 0) h))
next_by false x n h = tt

by_next : (b : Bool) (x : Bool) (n : ℕ) → Either b ((x ≡ true) × (n ≡ 0)) (Unit {0}) → cond b (x && n == 0) true ≡ true
by_next true x n h = both_true x (n == 0) h.0 (is_same n 0 h.1)
by_next false x n h = refl

pub next_is : (known left : List Slot) (id : ℕ) → is_next known left id ≡ true → IsInOrder known left id
next_is known left id h = next_by (has_slot id known) (has_slot id left) (mandatory_count (slots_before id left)) h

pub is_next_of : (known left : List Slot) (id : ℕ) → IsInOrder known left id → is_next known left id ≡ true
is_next_of known left id h = by_next (has_slot id known) (has_slot id left) (mandatory_count (slots_before id left)) h

module _ (rows : NamedRows) (l : AreRowsLawful rows) where
  abbrev AreShown : Items → Ies → Type 0
  AreShown ds ies = EachElement (λ id ms v. ShowsRow rows id ms v) ds ies

  abbrev read : Items → Ies
  read ds = elements_in (λ id ms. row_in rows id ms) ds

  elements_one : (ds : Items) (ies : Ies) → AreShown ds ies → ies ≡ read ds
  elements_one no_items no_ies h = refl
  elements_one (item (object ms) ds) (ie id criticality v others) h =
      let same_id : id ≡ or_else 0 (natural_in (member_of id_key ms)) = ap (or_else 0) (sym (natural_read id_key ms id h.0)) in
      let same_criticality : criticality ≡ or_else 0 (criticality_in (member_of criticality_key ms)) =
      ap (or_else 0) (sym (criticality_read ms criticality h.1)) in
      let body : v ≡ row_in rows id ms = row_one rows l id ms v h.2 in
      let rest : others ≡ read ds = elements_one ds others h.3 in
      cc
  elements_one ds ies h = absurd h

  elements_count : (ds : Items) (ies : Ies) → AreShown ds ies → item_count ds ≡ ie_count ies
  elements_count no_items no_ies h = refl
  elements_count (item (object ms) ds) (ie id criticality v others) h = ap suc (elements_count ds others h.3)
  elements_count ds ies h = absurd h

  module _ (p : Path) where
    abbrev asked : ℕ → Data → List Demand
    asked i e = element_demands p (λ inside id ms. row_demands inside rows id ms) e

    abbrev known : List Slot
    known = slots (rows_of rows)

    abbrev Are : List Slot → Ies → Type 0
    Are left ies = AreElements known (λ id v. HasRow p (rows_of rows) id v) left ies

    elements_forth : (left : List Slot) (i : ℕ) (ds : Items) → Holds (each_demand asked i ds) → are_in_order known left ds ≡ true
        → AreShown ds (read ds) × Are left (read ds)
    elements_forth left i no_items h g = (tt, same (mandatory_count left) 0 g)
    elements_forth left i (item (object ms) ds) h g =
        let id = or_else 0 (natural_in (member_of id_key ms)) in
        let one = front_holds (asked i (object ms)) (each_demand asked (suc i) ds) h in
        let in_range = within 65535 (integer_in (member_of id_key ms)) one.1.0 in
        let criticality = criticality_told ms one.1.1.0 in
        let body = row_forth p rows l id ms one.1.1.1 in
        let next = next_is known left id (first_true (is_next known left id) (are_in_order known (slots_left known id left) ds) g) in
        let rest = elements_forth (slots_left known id left) (suc i) ds
        (rest_holds (asked i (object ms)) (each_demand asked (suc i) ds) h)
        (second_true (is_next known left id) (are_in_order known (slots_left known id left) ds) g) in
        let small : id < 65536 = omega (arith, in_range.1) in
        ((natural_told id_key ms id in_range.0, criticality.0, body.0, rest.0), (small, criticality.1, body.1, next, rest.1))
    elements_forth left i (item d ds) h g = absurd (apart (front_holds (asked i d) (each_demand asked (suc i) ds) h).0)

    elements_back : (left : List Slot) (i : ℕ) (ds : Items) (ies : Ies) → AreShown ds ies → Are left ies
        → Holds (each_demand asked i ds) × (are_in_order known left ds ≡ true)
    elements_back left i no_items no_ies h g = (tt, is_same (mandatory_count left) 0 g)
    elements_back left i (item (object ms) ds) (ie id criticality v others) h g =
        let read_id = or_else 0 (natural_in (member_of id_key ms)) in
        let e = natural_read id_key ms id h.0 in
        let same_id : id ≡ read_id = ap (or_else 0) (sym e) in
        let rest = elements_back (slots_left known id left) (suc i) ds others h.3 g.4 in
        let in_range = is_within_of 65535 id (integer_in (member_of id_key ms)) e (omega (arith, g.0)) in
        let body = row_back p rows l id ms v h.2 g.2 in
        let order : (is_next known left id && are_in_order known (slots_left known id left) ds) ≡ true =
        both_true (is_next known left id) (are_in_order known (slots_left known id left) ds) (is_next_of known left id g.3) rest.1 in (
          both_hold (asked i (object ms)) (each_demand asked (suc i) ds) (
            within_there 65535 (integer_in (member_of id_key ms)) in_range,
            (
              in_range,
              (
                criticality_there ms criticality h.1,
                subst (λ (n : ℕ). Holds (row_demands (ways.element n ∷ p) rows n ms)) same_id body,
              ),
            ),
          ) rest.0,
          subst (λ (n : ℕ). (is_next known left n && are_in_order known (slots_left known n left) ds) ≡ true) same_id order,
        )
      where
        within_there : (most : ℕ) (o : Option _) → is_within most o ≡ true → is_some o ≡ true
        within_there most None k = absurd (apart k)
        within_there most (Some z) k = refl
    elements_back left i ds ies h g = absurd h

  container_one : (d : Data) (v : Value) → Shows (container rows) d v → v ≡ value_of (container rows) d
  unfolding Shows value_of
  container_one (array ds) (elements ies) h = ap elements (elements_one ds ies h)
  container_one d v h = absurd h

  container_forth : (p : Path) (d : Data) → Holds (demands p (container rows) d)
      → Shows (container rows) d (value_of (container rows) d) × Has p (tree_of (container rows)) (value_of (container rows) d)
  unfolding Shows value_of demands Has tree_of
  container_forth p (array ds) h =
      let tail = (rest_holds (each_demand (asked p) 0 ds) _ h.1).0 in
      let order = first_true (are_in_order (known p) (known p) ds) (nat_lt (item_count ds) 65536) tail in
      let good = elements_forth p (known p) 0 ds (front_holds (each_demand (asked p) 0 ds) _ h.1) order in
      let count = elements_count ds (read ds) good.0 in
      let few : ie_count (read ds) < 65536 =
      subst (λ (n : ℕ). n < 65536) count (below (item_count ds) 65536
      (second_true (are_in_order (known p) (known p) ds) (nat_lt (item_count ds) 65536) tail)) in
      (good.0, (few, good.1))
  container_forth p d h = absurd (apart h.0)

  container_back : (p : Path) (d : Data) (v : Value) → Shows (container rows) d v → Has p (tree_of (container rows)) v
      → Holds (demands p (container rows) d)
  unfolding Shows demands Has tree_of
  container_back p (array ds) (elements ies) h g =
      let good = elements_back p (known p) 0 ds ies h g.1 in
      let few = is_less (item_count ds) 65536 (subst (λ (n : ℕ). n < 65536) (sym (elements_count ds ies h)) g.0) in (
        refl,
        both_hold (each_demand (asked p) 0 ds) _ good.0
            (both_true (are_in_order (known p) (known p) ds) (nat_lt (item_count ds) 65536) good.1 few, tt),
      )
  container_back p d v h g = absurd h

  pub container_lawful : Lawful (container rows)
  container_lawful = record { one = container_one; forth = container_forth; back = container_back }

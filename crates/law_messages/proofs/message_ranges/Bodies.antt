-- Elements that are values of their types make a message that is a value of its type, where it isn't too long.
use Rattle.std.proofs.Common.{◌≡◌, ℕ, suc, ◌+◌, ◌<◌, ◌≤◌, ◌==◌, cond, Bool, true, false, List, [], ◌∷◌, ◌++◌, length, Option, Some, None, option_map, refl, sym, ap, subst, ◌∙◌, arith}
use Rattle.std.specs.Prelude.{codes, not, ◌&&◌, if◌then◌else◌}
use Rattle.aper_defs.specs.Trees.{Tree, Parts, Rows, Slot, slots, slots_left, slots_before, slots_after, has_slot, mandatory_count, sequence, container, part, no_parts}
use Rattle.aper_defs.specs.Values.{Value, Options, Ies, ie_count, text, components, elements, no_options, present, no_ies, ie}
use Rattle.aper_defs.specs.Fields.{Path, Field, asked, flag, constrained, ie_id, pad}
use Rattle.aper_defs.specs.Fields as fields
use Rattle.aper_defs.specs.Bits.{open_fields}
use Rattle.aper_defs.specs.Layouts.{layout, component_fields, addition_fields, row_fields, ie_fields, mark_fields}
use Rattle.aper_defs.specs.Membership.{Has, HasComponents, HasAdditions, HasRow, Either, AreElements, AreAdditions, FitsOpen}
use Rattle.proof_aper.proofs.answers.NumberFacts.{same}
use Rattle.message_defs.specs.profile_defs.Forms.{Components, component, no_components, tree, parts, rows}
use Rattle.message_defs.specs.profile_defs.BaseTypes as types
use Rattle.message_defs.specs.profile_defs.Tables.{Use, element_rows}
use Rattle.message_defs.specs.Places as places
use Rattle.message_defs.specs.Places.{content_of, put_element, written_elements}
use Rattle.law_messages.specs.message_ranges.Ranges.{if_there, is_name}
use Rattle.law_messages.proofs.message_ranges.Bounds.{bound, bound-append, bound_open, fits}
use Rattle.law_messages.proofs.message_ranges.Goods.{Good, both_left, both_right, name_good}

-- ---- an element
abbrev pub Row : Path → Path → Tree → Value → ℕ → Type 0
Row p i t v b = (Has i t v × FitsOpen i (layout i t v)) × (bound (open_fields p i (layout i t v)) ≤ b + 31)

row_of : (p i : Path) (t : Tree) (v : Value) (b : ℕ) → Good i t v b → b ≤ 131056 → Row p i t v b
row_of p i t v b g h = (
  (g.has, fits i (layout i t v) (omega (arith, g.size))),
  omega (arith, g.size, bound_open p i (layout i t v)),
)

pub given : (p i : Path) (t : Tree) (x : Value) (b : ℕ) → Good i t x b → b ≤ 131056 → (v : Value) → (let y : Option Value = Some x in y) ≡ Some v
    → Row p i t v b
given p i t x b g h v e = let s : x ≡ v = cc in subst (λ w. Row p i t w b) s (row_of p i t x b g h)

pub maybe : {A : Type 0} → (p i : Path) (t : Tree) (from : A → Value) (test : A → Bool) (b : ℕ)
    → ((a : A) → test a ≡ true → Good i t (from a) b) → b ≤ 131056 → (x : Option A) → if_there test x ≡ true
    → (v : Value) → option_map from x ≡ Some v → Row p i t v b
maybe p i t from test b good h None r v e = cc
maybe p i t from test b good h (Some a) r v e = given p i t (from a) b (good a r) h v e

pub always : (x : Value) (b : Bool) → (let y : Option Value = Some x in y) ≡ None → b ≡ false
always x b e = cc

-- ---- the elements of a message
self : (n : ℕ) → (n == n) ≡ true
self n = grind arith

not_not : (b : Bool) → not b ≡ true → b ≡ false
not_not false h = refl
not_not true h = cc

apart : (b : Bool) → b ≡ true → b ≡ false → ⊥
apart true h k = cc
apart false h k = cc

unlike : (b : Bool) → (b ≡ true → ⊥) → b ≡ false
unlike false h = refl
unlike true h = absurd (h refl)

abbrev pub are_distinct : List Slot → Bool
are_distinct [] = true
are_distinct (slot ∷ left) = not (has_slot slot.id left) && are_distinct left

-- one more that may come, and doesn't
widened : (known : List Slot) (P : ℕ → Value → Type 0) (slot : Slot) (left : List Slot) (ies : Ies) → slot.mandatory ≡ false
    → has_slot slot.id left ≡ false → AreElements known P left ies → AreElements known P (slot ∷ left) ies
widened known P slot left no_ies m d e = ap (λ (b : Bool). cond b (suc (mandatory_count left)) (mandatory_count left)) m ∙ e
widened known P slot left (ie id criticality v others) m d e =
    by (has_slot id known) e.3 e.4 (λ g. widened known P slot left others m d g)
  where
    other : has_slot id left ≡ true → (slot.id == id) ≡ false
    other h = unlike (slot.id == id) (λ t. apart (has_slot slot.id left) (subst (λ n. has_slot n left ≡ true) (sym (same slot.id id t)) h) d)

    by : (k : Bool) → Either k ((has_slot id left ≡ true) × (mandatory_count (slots_before id left) ≡ 0)) (Unit {0})
        → AreElements known P (cond k (slots_after id left) left) others
        → (AreElements known P left others → AreElements known P (slot ∷ left) others)
        → (id < 65536) × (criticality ≤ 2) × P id v
        × Either k ((has_slot id (slot ∷ left) ≡ true) × (mandatory_count (slots_before id (slot ∷ left)) ≡ 0)) (Unit {0})
        × AreElements known P (cond k (slots_after id (slot ∷ left)) (slot ∷ left)) others
    by true order rest later =
        let o : (slot.id == id) ≡ false = other order.0 in (
          e.0,
          e.1,
          e.2,
          (
            ap (λ (b : Bool). cond b true (has_slot id left)) o ∙ order.0,
            ap (λ (b : Bool). mandatory_count (cond b [] (slot ∷ slots_before id left))) o
                ∙ ap (λ (b : Bool). cond b (suc (mandatory_count (slots_before id left))) (mandatory_count (slots_before id left))) m ∙ order.1,
          ),
          subst (λ b. AreElements known P (cond b left (slots_after id left)) others) (sym o) rest,
        )
    by false order rest later = (e.0, e.1, e.2, tt, later rest)

module _ (uses : List Use) (p : Path) (all : List places.Field) where
  abbrev pub its_rows : Rows
  its_rows = rows (element_rows uses)

  pub data AreGood : List Use → ℕ → Type 0 where
    none : AreGood [] 0
    one : {u : Use} {us : List Use} {n : ℕ} → (b : ℕ) → has_slot u.element.id (slots its_rows) ≡ true → u.element.id < 65536
        → (content_of u.element all ≡ None → u.mandatory ≡ false)
        → ((v : Value) → content_of u.element all ≡ Some v
        → HasRow p its_rows u.element.id v × (bound (row_fields p its_rows u.element.id v) ≤ b))
        → AreGood us n → AreGood (u ∷ us) (b + 25 + n)

  abbrev pub its_slots : List Use → List Slot
  its_slots us = slots (rows (element_rows us))

  abbrev slot_of : Use → Slot
  slot_of u = record { id = u.element.id; mandatory = u.mandatory }

  pub are_elements : (us : List Use) (n : ℕ) → AreGood us n → are_distinct (its_slots us) ≡ true
      → AreElements (slots its_rows) (λ id v. HasRow p its_rows id v) (its_slots us) (written_elements us all)
  unfolding rows
  are_elements [] _ none d = refl
  are_elements (u ∷ us) _ (one {n = n} b k small none_there row others) d =
      let first : has_slot u.element.id (its_slots us) ≡ false =
      not_not (has_slot u.element.id (its_slots us)) (both_left (not (has_slot u.element.id (its_slots us))) (are_distinct (its_slots us)) d) in
      let later = are_elements us n others (both_right (not (has_slot u.element.id (its_slots us))) (are_distinct (its_slots us)) d) in
      by (content_of u.element all) refl first later
    where
      by : (x : Option Value) → content_of u.element all ≡ x → has_slot u.element.id (its_slots us) ≡ false
          → AreElements (slots its_rows) (λ id v. HasRow p its_rows id v) (its_slots us) (written_elements us all)
          → AreElements (slots its_rows) (λ id v. HasRow p its_rows id v) (slot_of u ∷ its_slots us) (put_element u.element x (written_elements us all))
      by None is first later =
          widened (slots its_rows) (λ id v. HasRow p its_rows id v) (slot_of u) (its_slots us) (written_elements us all) (none_there is) first later
      by (Some v) is first later = (
        small,
        omega arith,
        (row v is).0,
        subst (λ k. Either k ((has_slot u.element.id (slot_of u ∷ its_slots us) ≡ true)
            × (mandatory_count (slots_before u.element.id (slot_of u ∷ its_slots us)) ≡ 0)) (Unit {0})) (sym k) (
              ap (λ (b : Bool). cond b true (has_slot u.element.id (its_slots us))) (self u.element.id),
              ap (λ (b : Bool). mandatory_count (cond b [] (slot_of u ∷ slots_before u.element.id (its_slots us)))) (self u.element.id),
            ),
        subst (λ b. AreElements (slots its_rows) (λ id v. HasRow p its_rows id v)
            (cond b (cond (u.element.id == u.element.id) (its_slots us) (slots_after u.element.id (its_slots us))) (slot_of u ∷ its_slots us))
            (written_elements us all)) (sym k)
            (subst (λ b. AreElements (slots its_rows) (λ id v. HasRow p its_rows id v)
            (cond b (its_slots us) (slots_after u.element.id (its_slots us))) (written_elements us all)) (sym (self u.element.id)) later),
      )

  pub are_short : (us : List Use) (n : ℕ) → AreGood us n → (left : List Slot)
      → bound (ie_fields p (slots its_rows) (λ id v. row_fields p its_rows id v) left (written_elements us all)) ≤ n
  are_short [] _ none left = omega arith
  are_short (u ∷ us) _ (one {n = n} b k small none_there row others) left =
      by (content_of u.element all) refl (λ l. are_short us n others l)
    where
      by : (x : Option Value) → content_of u.element all ≡ x
          → ((l : List Slot) → bound (ie_fields p (slots its_rows) (λ id v. row_fields p its_rows id v) l (written_elements us all)) ≤ n)
          → bound (ie_fields p (slots its_rows) (λ id v. row_fields p its_rows id v) left (put_element u.element x (written_elements us all)))
          ≤ b + 25 + n
      by None is later = omega (arith, later left)
      by (Some v) is later =
          let after = slots_left (slots its_rows) u.element.id left in
          omega (
            arith,
            (row v is).1,
            later after,
            bound-append (row_fields p its_rows u.element.id v)
                (ie_fields p (slots its_rows) (λ id v. row_fields p its_rows id v) after (written_elements us all)),
          )

  pub are_few : (us : List Use) → ie_count (written_elements us all) ≤ length us
  are_few [] = omega arith
  are_few (u ∷ us) = by (content_of u.element all) (are_few us)
    where
      by : (x : Option Value) → ie_count (written_elements us all) ≤ length us
          → ie_count (put_element u.element x (written_elements us all)) ≤ suc (length us)
      by None later = omega arith
      by (Some v) later = omega arith

-- ---- a message
abbrev pub its_tree : List Use → Parts → Tree
its_tree uses additions = sequence true (part (codes "protocolIEs") false (container (rows (element_rows uses))) no_parts) additions

abbrev pub its_body : List Use → List places.Field → Options → Value
its_body uses all more = components (present (elements (written_elements uses all)) no_options) more

-- with additions
pub message_made : (uses : List Use) (q : Path) (all : List places.Field) {n : ℕ}
    → AreGood uses (fields.component (codes "protocolIEs") ∷ q) all uses n → are_distinct (slots (rows (element_rows uses))) ≡ true
    → length uses ≤ 100 → (additions : Parts) (more : Options) (k : ℕ) → AreAdditions true more → HasAdditions q additions more
    → bound (mark_fields q more ++ addition_fields q additions more) ≤ k → n + k ≤ 131000
    → Has q (its_tree uses additions) (its_body uses all more) × FitsOpen q (layout q (its_tree uses additions) (its_body uses all more))
unfolding Has HasComponents layout component_fields
message_made uses q all {n = n} good d count additions more k are has_them short most =
    let i : Path = fields.component (codes "protocolIEs") ∷ q in
    let ies = ie_fields i (slots (rows (element_rows uses))) (λ id v. row_fields i (rows (element_rows uses)) id v)
    (slots (rows (element_rows uses))) (written_elements uses all) in
    let head : List Field = asked i pad 0 ∷ asked i (fields.ie_count (mandatory_count (slots (rows (element_rows uses)))))
    (ie_count (written_elements uses all)) ∷ [] in
    let tail = mark_fields q more ++ addition_fields q additions more in (
      (((omega (arith, are_few uses i all uses), are_elements uses i all uses n good d), tt), are, has_them),
      fits q (layout q (its_tree uses additions) (its_body uses all more)) (omega (
        arith,
        are_short uses i all uses n good (slots (rows (element_rows uses))),
        bound-append ((head ++ ies) ++ []) tail,
        bound-append (head ++ ies) [],
      )),
    )

pub message_good : (uses : List Use) (q : Path) (all : List places.Field) {n : ℕ}
    → AreGood uses (fields.component (codes "protocolIEs") ∷ q) all uses n → are_distinct (slots (rows (element_rows uses))) ≡ true
    → length uses ≤ 100 → n ≤ 131000
    → Has q (its_tree uses no_parts) (its_body uses all no_options) × FitsOpen q (layout q (its_tree uses no_parts) (its_body uses all no_options))
unfolding HasAdditions addition_fields
message_good uses q all {n = n} good d count most =
    message_made uses q all good d count no_parts no_options 0 tt tt (omega arith) (omega arith)

-- ---- the origin of a Handover Request
abbrev pub additions_if : Bool → Components
additions_if b = if b then component (codes "origin") false types.name no_components else no_components

pub none_has : (q : Path) (b : Bool) → HasAdditions q (parts (additions_if b)) no_options
unfolding parts HasAdditions
none_has q true = tt
none_has q false = tt

pub none_short : (q : Path) (b : Bool) → bound (mark_fields q no_options ++ addition_fields q (parts (additions_if b)) no_options) ≤ 0
unfolding parts addition_fields
none_short q true = omega arith
none_short q false = omega arith

pub origin_has : (q : Path) (origin : List ℕ) → is_name origin ≡ true → HasAdditions q (parts (additions_if true)) (present (text origin) no_options)
unfolding parts HasAdditions
origin_has q origin h =
    let i : Path = fields.component (codes "origin") ∷ q in
    let g = name_good i origin h in
    (g.has, fits i (layout i (tree types.name) (text origin)) (omega (arith, g.size)), tt)

pub origin_short : (q : Path) (origin : List ℕ) → is_name origin ≡ true
    → bound (mark_fields q (present (text origin) no_options) ++ addition_fields q (parts (additions_if true)) (present (text origin) no_options))
    ≤ 128070
unfolding parts addition_fields
origin_short q origin h =
    let i : Path = fields.component (codes "origin") ∷ q in
    let g = name_good i origin h in
    let there = open_fields q i (layout i (tree types.name) (text origin)) in
    omega (arith, g.size, bound_open q i (layout i (tree types.name) (text origin)), bound-append there [])

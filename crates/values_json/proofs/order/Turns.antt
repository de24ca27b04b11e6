-- A turn of each loop over components, and its end.
use Rattle.std.proofs.Common.{◌≡◌, ℕ, zero, suc, ◌+◌, ◌<◌, ◌≤◌, min, List, [], ◌∷◌, length, drop, get_or, Bool, true, false, cond, Option, Some, None, is_none, is_some, Bor, refl, sym, ap, subst, ◌∙◌, Ordering, Less, Equal, Greater, arith}
use Rattle.std.proofs.lemmas.List.{drop_all}
use Rattle.std.specs.Ordering.{nat_cmp, match_ordering, is_lt}
use Rattle.std.specs.Cmp.Lexicographic.{slice_cmp}
use Rattle.std.specs.BTreeMap.{insert_entry}
use Rattle.serde_json.specs.Data.{Data, Items, Members, no_members, put}
use Rattle.asn1_syntax.specs.declared.types.definition.Component.{Component}
use Rattle.aper_values.specs.declared.value.Value.{Value}
use Rattle.aper_values.specs.Views.{view, options_view}
use Rattle.aper_defs.specs.Values.{no_options, Options}
use Rattle.json_defs.specs.Named.{Named}
use Rattle.json_defs.specs.Members.{Text, dots}
use Rattle.json_defs.specs.shown_defs.Printed.{shown_as, components_shown}
use Rattle.values_json.specs.declared.order.Member.{Member}
use Rattle.json_defs.specs.type_defs.Types.{parts_with}
use Rattle.values_json.specs.order.Names.{names_there, object_names, AreAscending}
use Rattle.values_json.specs.order.Listed.{member_shown, by_name, AreComponents, IsWithin, AreWithin}
use Rattle.values_json.specs.order.After.{first_name, IsAfter}

-- ---- a map's members
abbrev pub key_cmp : Bor Text → Bor Text → Ordering
key_cmp a b = slice_cmp nat_cmp a.now b.now

module _ (at : ℕ → Data) (ds : Items) where
  by_order : (o : Ordering) (a b c : List (Bor Text × Member))
      → by_name at ds (match_ordering o a b c) ≡ match_ordering o (by_name at ds a) (by_name at ds b) (by_name at ds c)
  by_order Less a b c = refl
  by_order Equal a b c = refl
  by_order Greater a b c = refl

  pub by_name-insert_entry : (es : List (Bor Text × Member)) (k : Bor Text) (m : Member)
      → by_name at ds (insert_entry key_cmp es k m) ≡ put k.now (member_shown at ds m) (by_name at ds es)
  by_name-insert_entry [] k m = refl
  by_name-insert_entry (e ∷ es) k m = by_order (key_cmp k e.0) _ _ _ ∙ rw (by_name-insert_entry es k m)

module _ (n : ℕ) where
  either_within : (o : Ordering) (a b c : List (Bor Text × Member)) → AreWithin n a → AreWithin n b → AreWithin n c
      → AreWithin n (match_ordering o a b c)
  either_within Less a b c h g k = h
  either_within Equal a b c h g k = g
  either_within Greater a b c h g k = k

  pub within-insert_entry : (es : List (Bor Text × Member)) (k : Bor Text) (m : Member) → AreWithin n es → IsWithin n m
      → AreWithin n (insert_entry key_cmp es k m)
  within-insert_entry [] k m h g = (g, tt)
  within-insert_entry (e ∷ es) k m h g =
      either_within (key_cmp k e.0) _ _ _ (g, h) (g, h.1) (h.0, within-insert_entry es k m h.1 g)

-- ---- the item at a place
next_to : (i : ℕ) → suc i ≡ i + 1
next_to i = omega arith

some_at : {A : Type 0} (xs : List A) (i : ℕ) → i < length xs → (x : A) × (drop i xs ≡ x ∷ drop (suc i) xs)
some_at [] i lt = absurd (omega arith)
some_at (x ∷ xs) zero lt = (x, refl)
some_at (x ∷ xs) (suc i) lt = some_at xs i (omega arith)

here_at : {A : Type 0} (xs : List A) (i : ℕ) (x : A) → i < length xs → x ≡ get_or xs i x → drop i xs ≡ x ∷ drop (suc i) xs
here_at [] i x lt is = absurd (omega arith)
here_at (y ∷ xs) zero x lt is = ap (λ z. z ∷ xs) (sym is)
here_at (y ∷ xs) (suc i) x lt is = here_at xs i x (omega arith) is

some_item : {A : Type 0} (xs : List A) (i : ℕ) → i < length xs → (x : A) × (drop i xs ≡ x ∷ drop (i + 1) xs)
some_item xs i lt =
    let one = some_at xs i lt in
    (one.0, one.1 ∙ ap (λ (n : ℕ). one.0 ∷ drop n xs) (next_to i))

item_at : {A : Type 0} (xs : List A) (i : ℕ) (x : A) → i < length xs → x ≡ get_or xs i x → drop i xs ≡ x ∷ drop (i + 1) xs
item_at xs i x lt is = here_at xs i x lt is ∙ ap (λ (n : ℕ). x ∷ drop n xs) (next_to i)

by_less : (a b i : ℕ) {X : Type 0} → min a b ≤ i → (a ≤ i → X) → (b ≤ i → X) → X
by_less zero b i e f g = f (omega arith)
by_less (suc a) zero i e f g = g (omega arith)
by_less (suc a) (suc b) zero e f g = absurd (omega (arith, e))
by_less (suc a) (suc b) (suc i) e f g = by_less a b i (omega (arith, e)) (λ h. f (omega (arith, h))) (λ h. g (omega (arith, h)))

-- ---- names
-- these names ascend from the last one on
abbrev pub GoOn : Option Text → List Text → Type 0
GoOn None names = AreAscending names
GoOn (Some last) names = AreAscending (last ∷ names)

abbrev pub rest_of : List Component → List (Option Value) → ℕ → List Text
rest_of ps vs i = names_there (drop i ps) (drop i vs)

names_end : (ps : List Component) → names_there ps [] ≡ []
names_end [] = refl
names_end (p ∷ ps) = refl

rest_end : (ps : List Component) (vs : List (Option Value)) (i : ℕ) → min (length ps) (length vs) ≤ i → rest_of ps vs i ≡ []
rest_end ps vs i h =
    by_less (length ps) (length vs) i h
    (λ (most : length ps ≤ i). ap (λ (qs : List Component). names_there qs (drop i vs)) (drop_all i ps most))
    (λ (most : length vs ≤ i). ap (names_there (drop i ps)) (drop_all i vs most) ∙ names_end (drop i ps))

rest_absent : (ps : List Component) (vs : List (Option Value)) (i : ℕ) (o : Option Value) → i < length ps → i < length vs → o ≡ get_or vs i o
    → is_none o ≡ true → rest_of ps vs i ≡ rest_of ps vs (i + 1)
rest_absent ps vs i None small lt is h =
    ap (λ (qs : List Component). names_there qs (drop i vs)) (some_item ps i small).1
    ∙ ap (names_there ((some_item ps i small).0 ∷ drop (i + 1) ps)) (item_at vs i None lt is)
rest_absent ps vs i (Some v) small lt is h = cc

rest_present : (ps : List Component) (vs : List (Option Value)) (i : ℕ) (q : Component) (o : Option Value) → i < length ps → q ≡ get_or ps i q
    → i < length vs → o ≡ get_or vs i o → is_none o ≡ false → rest_of ps vs i ≡ q.name ∷ rest_of ps vs (i + 1)
rest_present ps vs i q None small part lt is h = cc
rest_present ps vs i q (Some v) small part lt is h =
    ap (λ (qs : List Component). names_there qs (drop i vs)) (item_at ps i q small part)
    ∙ ap (names_there (q ∷ drop (i + 1) ps)) (item_at vs i (Some v) lt is)

-- a name after the last goes on, and only such a one
goes_on : (last : Option Text) (name : Text) (names : List Text) (b : Bool) → IsAfter last name b → b ≡ true
    → (GoOn last (name ∷ names) → AreAscending (name ∷ names)) × (AreAscending (name ∷ names) → GoOn last (name ∷ names))
goes_on None name names b is h = (λ g. g, λ g. g)
goes_on (Some l) name names b is h = (λ g. g.1, λ g. (less (slice_cmp nat_cmp l name) (sym is ∙ h), g))
  where
    less : (o : Ordering) → is_lt o ≡ true → o ≡ Less
    less Less e = refl
    less Equal e = cc
    less Greater e = cc

stops : (last : Option Text) (name : Text) (names : List Text) (b : Bool) → IsAfter last name b → b ≡ false → GoOn last (name ∷ names) → ⊥
stops None name names b is h g = cc
stops (Some l) name names b is h g = let e : is_lt (slice_cmp nat_cmp l name) ≡ true = ap is_lt g.0 in cc

-- so many of the whole are before these, which ascend from the last of them on exactly where the whole does
abbrev pub Counts : Option Text → ℕ → ℕ → List Text → List Text → Type 0
Counts last count i names whole = (GoOn last names → AreAscending whole) × (AreAscending whole → GoOn last names)
    × (count + length names ≡ length whole) × (count ≤ i + 1)

pub count_begins : (has : Bool) (ps : List Component) (vs : List (Option Value)) (last : Option Text) (count : ℕ) → last ≡ first_name has
    → count ≡ cond has 1 0 → Counts last count 0 (names_there ps vs) (object_names has ps vs)
count_begins true ps vs last count e f =
    subst (λ (x : Option Text). Counts x count 0 (names_there ps vs) (dots ∷ names_there ps vs)) (sym e)
    (λ g. g, λ g. g, omega (arith, f), omega (arith, f))
count_begins false ps vs last count e f =
    subst (λ (x : Option Text). Counts x count 0 (names_there ps vs) (names_there ps vs)) (sym e)
    (λ g. g, λ g. g, omega (arith, f), omega (arith, f))

module _ (ps : List Component) (vs : List (Option Value)) (whole : List Text) (last : Option Text) (count i : ℕ) where
  pub count_absent : (o : Option Value) → i < length ps → i < length vs → o ≡ get_or vs i o → is_none o ≡ true
      → Counts last count i (rest_of ps vs i) whole → Counts last count (i + 1) (rest_of ps vs (i + 1)) whole
  count_absent o small lt is none h =
      let g : Counts last count i (rest_of ps vs (i + 1)) whole =
      subst (λ (ns : List Text). Counts last count i ns whole) (rest_absent ps vs i o small lt is none) h in
      (g.0, g.1, g.2, omega (arith, g.3))

  module _ (q : Component) (o : Option Value) (b : Bool) (small : i < length ps) (part : q ≡ get_or ps i q) (lt : i < length vs)
      (is : o ≡ get_or vs i o) (there : is_none o ≡ false) (n : Text) (named : n ≡ q.name) (after : IsAfter last n b)
      (h : Counts last count i (rest_of ps vs i) whole) where
    abbrev more : List Text
    more = rest_of ps vs (i + 1)

    one_more : Counts last count i (n ∷ more) whole
    one_more = subst (λ (ns : List Text). Counts last count i ns whole) (rest_present ps vs i q o small part lt is there
        ∙ ap (λ (m : Text). m ∷ more) (sym named)) h

    pub count_present : b ≡ true → Counts (Some n) (count + 1) (i + 1) more whole
    count_present holds =
        let step = goes_on last n more b after holds in
        let g = one_more in
        let e : count + suc (length more) ≡ length whole = g.2 in
        (λ a. g.0 (step.1 a), λ a. step.0 (g.1 a), omega (arith, e), omega (arith, g.3))

    pub count_stops : b ≡ false → AreAscending whole → ⊥
    count_stops fails a = stops last n more b after fails (one_more.1 a)

  go_on_end : (l : Option Text) → GoOn l []
  go_on_end None = tt
  go_on_end (Some l) = (tt, tt)

  pub count_ends : min (length ps) (length vs) ≤ i → Counts last count i (rest_of ps vs i) whole → AreAscending whole × (count ≡ length whole)
  count_ends most h =
      let g : Counts last count i [] whole = subst (λ (ns : List Text). Counts last count i ns whole) (rest_end ps vs i most) h in
      let e : count + 0 ≡ length whole = g.2 in
      (g.0 (go_on_end last), omega (arith, e))

-- ---- components
components_none : (of : ℕ → Named) (ps : List Component) → components_shown (parts_with of ps) no_options ≡ no_members
unfolding components_shown
components_none of [] = refl
components_none of (p ∷ ps) = refl

no_parts_left : (of : ℕ → Named) (vs : Options) → components_shown (parts_with of []) vs ≡ no_members
unfolding components_shown
no_parts_left of vs = refl

component_absent : (of : ℕ → Named) (p : Component) (ps : List Component) (vs : List (Option Value))
    → components_shown (parts_with of (p ∷ ps)) (options_view (None ∷ vs)) ≡ components_shown (parts_with of ps) (options_view vs)
unfolding components_shown
component_absent of p ps vs = refl

component_present : (of : ℕ → Named) (p : Component) (ps : List Component) (v : Value) (vs : List (Option Value))
    → components_shown (parts_with of (p ∷ ps)) (options_view (Some v ∷ vs))
    ≡ put p.name (shown_as (of p.definition.number) (view v)) (components_shown (parts_with of ps) (options_view vs))
unfolding components_shown
component_present of p ps v vs = refl

module _ (of : ℕ → Named) (ps : List Component) (vs : List (Option Value)) where
  abbrev pub part_of : ℕ → Members
  part_of i = components_shown (parts_with of (drop i ps)) (options_view (drop i vs))

  pub components_end : (i : ℕ) → min (length ps) (length vs) ≤ i → no_members ≡ part_of i
  components_end i h =
      by_less (length ps) (length vs) i h
      (λ (most : length ps ≤ i). sym (ap (λ (qs : List Component). components_shown (parts_with of qs) (options_view (drop i vs))) (drop_all i ps most)
      ∙ no_parts_left of (options_view (drop i vs))))
      (λ (most : length vs ≤ i). sym (ap (λ (ws : List (Option Value)). components_shown (parts_with of (drop i ps)) (options_view ws)) (drop_all i vs most)
      ∙ components_none of (drop i ps)))

  pub absent_turn : (j i : ℕ) → i ≡ j + 1 → j < length ps → j < length vs → None ≡ get_or vs j None → part_of i ≡ part_of j
  absent_turn j i e small lt is =
      let q : Component = (some_item ps j small).0 in
      ap part_of e
      ∙ sym (ap (λ (qs : List Component). components_shown (parts_with of qs) (options_view (drop j vs))) (some_item ps j small).1
      ∙ ap (λ (ws : List (Option Value)). components_shown (parts_with of (q ∷ drop (j + 1) ps)) (options_view ws)) (item_at vs j None lt is)
      ∙ component_absent of q (drop (j + 1) ps) (drop (j + 1) vs))

  pub present_turn : (j i : ℕ) (q : Component) (v : Value) → i ≡ j + 1 → j < length ps → q ≡ get_or ps j q → j < length vs
      → Some v ≡ get_or vs j (Some v) → put q.name (shown_as (of q.definition.number) (view v)) (part_of i) ≡ part_of j
  present_turn j i q v e small part lt is =
      ap (λ (n : ℕ). put q.name (shown_as (of q.definition.number) (view v)) (part_of n)) e
      ∙ sym (ap (λ (qs : List Component). components_shown (parts_with of qs) (options_view (drop j vs))) (item_at ps j q small part)
      ∙ ap (λ (ws : List (Option Value)). components_shown (parts_with of (q ∷ drop (j + 1) ps)) (options_view ws)) (item_at vs j (Some v) lt is)
      ∙ component_present of q (drop (j + 1) ps) v (drop (j + 1) vs))

pub absent_at : (ps : List Component) (vs : List (Option Value)) (of : ℕ → Named) (j i : ℕ) (o : Option Value) → i ≡ j + 1 → j < length ps
    → j < length vs → o ≡ get_or vs j o → is_some o ≡ false → part_of of ps vs i ≡ part_of of ps vs j
absent_at ps vs of j i None e small lt is h = absent_turn of ps vs j i e small lt is
absent_at ps vs of j i (Some v) e small lt is h = cc

pub present_at : (ps : List Component) (vs : List (Option Value)) (of : ℕ → Named) (at : ℕ → Data) (j i : ℕ) (q : Component) (o : Option Value)
    → AreComponents of ps vs at → i ≡ j + 1 → j < length ps → q ≡ get_or ps j q → j < length vs → o ≡ get_or vs j o → is_some o ≡ true
    → put q.name (at j) (part_of of ps vs i) ≡ part_of of ps vs j
present_at ps vs of at j i q None shown e small part lt is h = cc
present_at ps vs of at j i q (Some v) shown e small part lt is h =
    ap (λ (d : Data). put q.name d (part_of of ps vs i)) (shown j q v small part lt is) ∙ present_turn of ps vs j i q v e small part lt is

pub same_item : {A : Type 0} (xs : List A) (i : ℕ) (x y : A) → i < length xs → get_or xs i x ≡ get_or xs i y
same_item [] i x y lt = absurd (omega arith)
same_item (z ∷ xs) zero x y lt = refl
same_item (z ∷ xs) (suc i) x y lt = same_item xs i x y (omega arith)

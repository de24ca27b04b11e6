-- SEQUENCE: its components, and its additions.
use Rattle.std.proofs.Common.{◌≡◌, suc, ◌≤◌, Bool, true, false, ◌&&◌, ◌||◌, not, List, [], ◌∷◌, length, Option, Some, None, refl, sym, ap, subst, ◌∙◌, arith}
use Rattle.std.specs.Prelude.{nat_le}
use Rattle.serde_json.specs.Data.{Data, null, array, object, Items, no_items, item, Members}
use Rattle.serde_json.specs.Find.{get_member, as_array}
use Rattle.aper_defs.specs.Fields.{Path}
use Rattle.aper_defs.specs.Fields as ways
use Rattle.aper_defs.specs.Bits.{closed, octet_count}
use Rattle.aper_defs.specs.Layouts.{layout}
use Rattle.aper_defs.specs.Values.{Value, components, raw, Options, no_options, absent, present, presence, has_options}
use Rattle.aper_defs.specs.Membership.{AreRaw, AreAdditions, some_present, FitsOpen, Has, HasComponents, HasAdditions}
use Rattle.json_defs.specs.Named.{Named, NamedParts, sequence, no_parts, part, tree_of, parts_of}
use Rattle.json_defs.specs.Members.{items_in, item_count, is_null, dots}
use Rattle.json_defs.specs.Shown.{IsMember, RawShown, AreShown, ShowsRaw, Shows, ShowsComponents, ShowsAdditions}
use Rattle.json_defs.specs.Readings.{raw_in, raws_in, present_if, read_if, unless_null, additions_in, value_of, components_in, added_in}
use Rattle.json_defs.specs.Demands.{Demand, shape, any_told, raw_each, raw_demands, if_there, added_demands, fits_open, demands, component_demands, each_added, open_demands}
use Rattle.proof_json.proofs.values.Holding.{Holds, Lawful, AreLawful, apart, both_true, first_true, second_true, front_holds, rest_holds, both_hold}
use Rattle.proof_json.proofs.values.Words.{at_most, is_at_most, raw_one, raw_forth, raw_back}

-- what an open type holds fits
pub fits : (q : Path) (t : Named) (d : Data) → fits_open q t d ≡ true → FitsOpen q (layout q (tree_of t) (value_of t d))
fits q t d h = at_most (octet_count (closed q (layout q (tree_of t) (value_of t d)))) 16383 h

pub is_fitting : (q : Path) (t : Named) (d : Data) (v : Value) → v ≡ value_of t d → FitsOpen q (layout q (tree_of t) v)
    → fits_open q t d ≡ true
is_fitting q t d v e h =
    is_at_most (octet_count (closed q (layout q (tree_of t) (value_of t d)))) 16383
    (subst (λ (w : Value). FitsOpen q (layout q (tree_of t) w)) e h)

-- ---- components
components_one : (parts : NamedParts) → AreLawful parts → (ms : Members) (vs : Options) → ShowsComponents parts ms vs
    → vs ≡ components_in parts ms
unfolding ShowsComponents components_in
components_one no_parts l ms no_options h = refl
components_one (part name optional t others) l ms (absent vs) h =
    ap absent (components_one others l.1 ms vs h.1)
    ∙ ap (λ (o : Option Data). present_if (read_if (λ d. value_of t d) o) (components_in others ms)) (sym h.0)
components_one (part name optional t others) l ms (present v vs) h =
    ap (λ (xs : Options). present v xs) (components_one others l.1 ms vs h.1) ∙ told (get_member name ms) h.0
  where
    told : (o : Option Data) → IsMember o (λ d. Shows t d v)
        → present v (components_in others ms) ≡ present_if (read_if (λ d. value_of t d) o) (components_in others ms)
    told None g = absurd g
    told (Some d) g = ap (λ (w : Value). present w (components_in others ms)) (l.0.one d v g)
components_one parts l ms vs h = absurd h

components_forth : (p : Path) (parts : NamedParts) → AreLawful parts → (ms : Members) → Holds (component_demands p parts ms)
    → ShowsComponents parts ms (components_in parts ms) × HasComponents p (parts_of parts) (components_in parts ms)
unfolding ShowsComponents components_in component_demands HasComponents parts_of
components_forth p no_parts l ms h = (tt, tt)
components_forth p (part name optional t others) l ms h =
    let inside = ways.component name ∷ p in
    let one = if_there (λ d. demands inside t d) (get_member name ms) (shape inside optional ∷ []) in
    told (get_member name ms) refl (front_holds one (component_demands p others ms) h)
    (components_forth p others l.1 ms (rest_holds one (component_demands p others ms) h))
  where
    told : (o : Option Data) → get_member name ms ≡ o
        → Holds (if_there (λ d. demands (ways.component name ∷ p) t d) o (shape (ways.component name ∷ p) optional ∷ []))
        → ShowsComponents others ms (components_in others ms) × HasComponents p (parts_of others) (components_in others ms)
        → ShowsComponents (part name optional t others) ms (present_if (read_if (λ d. value_of t d) o) (components_in others ms))
        × HasComponents p (parts_of (part name optional t others))
        (present_if (read_if (λ d. value_of t d) o) (components_in others ms))
    told None e g rest = ((e, rest.0), (g.0, rest.1))
    told (Some d) e g rest =
        let good = l.0.forth (ways.component name ∷ p) d g in
        ((subst (λ (o : Option Data). IsMember o (λ x. Shows t x (value_of t d))) (sym e) good.0, rest.0), (good.1, rest.1))

components_back : (p : Path) (parts : NamedParts) → AreLawful parts → (ms : Members) (vs : Options) → ShowsComponents parts ms vs
    → HasComponents p (parts_of parts) vs → Holds (component_demands p parts ms)
unfolding ShowsComponents component_demands HasComponents parts_of
components_back p no_parts l ms no_options h g = tt
components_back p (part name optional t others) l ms (absent vs) h g =
    let inside = ways.component name ∷ p in
    both_hold (if_there (λ d. demands inside t d) (get_member name ms) (shape inside optional ∷ [])) (component_demands p others ms)
    (subst (λ (o : Option Data). Holds (if_there (λ d. demands inside t d) o (shape inside optional ∷ []))) (sym h.0) (g.0, tt))
    (components_back p others l.1 ms vs h.1 g.1)
components_back p (part name optional t others) l ms (present v vs) h g =
    let inside = ways.component name ∷ p in
    both_hold (if_there (λ d. demands inside t d) (get_member name ms) (shape inside optional ∷ [])) (component_demands p others ms)
    (told (get_member name ms) h.0) (components_back p others l.1 ms vs h.1 g.1)
  where
    told : (o : Option Data) → IsMember o (λ d. Shows t d v)
        → Holds (if_there (λ d. demands (ways.component name ∷ p) t d) o (shape (ways.component name ∷ p) optional ∷ []))
    told None s = absurd s
    told (Some d) s = l.0.back (ways.component name ∷ p) d v s g.0
components_back p parts l ms vs h g = absurd h

-- ---- additions
null_raw : (v : Value) → ShowsRaw null v → ⊥
null_raw (raw os) h = cc
null_raw v h = absurd h

raws_one : (ds : Items) (more : Options) → RawShown ds more → more ≡ raws_in ds
raws_one no_items no_options h = refl
raws_one (item null ds) (absent more) h = ap absent (raws_one ds more h)
raws_one (item null ds) (present v more) h = absurd (null_raw v h.0)
raws_one (item d ds) (present v more) h =
    ap (λ (w : Value). present w more) (raw_one d v h.0) ∙ ap (λ (xs : Options). present (raw_in d) xs) (raws_one ds more h.1)
raws_one ds more h = absurd h

raws_forth : (p : Path) (ds : Items) → Holds (raw_each p ds) → RawShown ds (raws_in ds) × AreRaw (raws_in ds)
raws_forth p no_items h = (tt, tt)
raws_forth p (item null ds) h = raws_forth p ds h
raws_forth p (item d ds) h =
    let one = raw_forth p d (front_holds (raw_demands p d) (raw_each p ds) h) in
    let rest = raws_forth p ds (rest_holds (raw_demands p d) (raw_each p ds) h) in
    ((one.0, rest.0), (one.1, rest.1))

raws_back : (p : Path) (ds : Items) (more : Options) → RawShown ds more → AreRaw more → Holds (raw_each p ds)
raws_back p no_items no_options h g = tt
raws_back p (item null ds) (absent more) h g = raws_back p ds more h g
raws_back p (item null ds) (present v more) h g = absurd (null_raw v h.0)
raws_back p (item d ds) (present v more) h g =
    both_hold (raw_demands p d) (raw_each p ds) (raw_back p d v h.0 g.0) (raws_back p ds more h.1 g.1)
raws_back p ds more h g = absurd h

added_one : (parts : NamedParts) → AreLawful parts → (ds : Items) (more : Options) → ShowsAdditions parts ds more
    → more ≡ added_in parts ds
unfolding ShowsAdditions added_in
added_one no_parts l ds more h = raws_one ds more h
added_one (part name optional t others) l no_items no_options h = refl
added_one (part name optional t others) l (item d ds) (absent more) h =
    ap absent (added_one others l.1 ds more h.1)
    ∙ ap (λ (e : Data). present_if (unless_null (λ x. value_of t x) e) (added_in others ds)) (sym h.0)
added_one (part name optional t others) l (item null ds) (present v more) h = cc
added_one (part name optional t others) l (item d ds) (present v more) h =
    ap (λ (w : Value). present w more) (l.0.one d v h.1)
    ∙ ap (λ (xs : Options). present (value_of t d) xs) (added_one others l.1 ds more h.2)
added_one parts l ds more h = absurd h

-- as many as items, and one is told where one is there
raws_count : (ds : Items) (more : Options) → RawShown ds more → (item_count ds ≡ length (presence more)) × (any_told ds ≡ some_present more)
raws_count no_items no_options h = (refl, refl)
raws_count (item null ds) (absent more) h = let rest = raws_count ds more h in (ap suc rest.0, rest.1)
raws_count (item null ds) (present v more) h = absurd (null_raw v h.0)
raws_count (item d ds) (present v more) h = (ap suc (raws_count ds more h.1).0, refl)
raws_count ds more h = absurd h

added_count : (parts : NamedParts) (ds : Items) (more : Options) → ShowsAdditions parts ds more
    → (item_count ds ≡ length (presence more)) × (any_told ds ≡ some_present more)
unfolding ShowsAdditions
added_count no_parts ds more h = raws_count ds more h
added_count (part name optional t others) no_items no_options h = (refl, refl)
added_count (part name optional t others) (item d ds) (absent more) h =
    let rest = added_count others ds more h.1 in
    (ap suc rest.0, ap (λ (e : Data). not (is_null e) || any_told ds) h.0 ∙ rest.1)
added_count (part name optional t others) (item d ds) (present v more) h =
    (ap suc (added_count others ds more h.2).0, ap (λ (b : Bool). not b || any_told ds) h.0)
added_count parts ds more h = absurd h

added_forth : (p : Path) (parts : NamedParts) → AreLawful parts → (ds : Items) → Holds (each_added p parts ds)
    → Holds (open_demands p parts ds)
    → ShowsAdditions parts ds (added_in parts ds) × HasAdditions p (parts_of parts) (added_in parts ds)
unfolding ShowsAdditions added_in each_added open_demands HasAdditions parts_of
added_forth p no_parts l ds h g = raws_forth p ds h
added_forth p (part name optional t others) l no_items h g = (tt, tt)
added_forth p (part name optional t others) l (item null ds) h g =
    let rest = added_forth p others l.1 ds h g in ((refl, rest.0), rest.1)
added_forth p (part name optional t others) l (item d ds) h g =
    let q = ways.component name ∷ p in
    let one = l.0.forth q d (front_holds (demands q t d) (each_added p others ds) h) in
    let rest = added_forth p others l.1 ds (rest_holds (demands q t d) (each_added p others ds) h) g.1 in
    ((refl, one.0, rest.0), (one.1, fits q t d g.0, rest.1))

added_back : (p : Path) (parts : NamedParts) → AreLawful parts → (ds : Items) (more : Options) → ShowsAdditions parts ds more
    → HasAdditions p (parts_of parts) more → Holds (each_added p parts ds) × Holds (open_demands p parts ds)
unfolding ShowsAdditions each_added open_demands HasAdditions parts_of
added_back p no_parts l ds more h g = (raws_back p ds more h g, tt)
added_back p (part name optional t others) l no_items no_options h g = (tt, tt)
added_back p (part name optional t others) l (item null ds) (absent more) h g = added_back p others l.1 ds more h.1 g
added_back p (part name optional t others) l (item d ds) (absent more) h g = cc
added_back p (part name optional t others) l (item null ds) (present v more) h g = cc
added_back p (part name optional t others) l (item d ds) (present v more) h g =
    let q = ways.component name ∷ p in
    let rest = added_back p others l.1 ds more h.2 g.2 in (
      both_hold (demands q t d) (each_added p others ds) (l.0.back q d v h.1 g.0) rest.0,
      (is_fitting q t d v (l.0.one d v h.1) g.1, rest.1),
    )
added_back p parts l ds more h g = absurd h

no_additions : (p : Path) (parts : NamedParts) → HasAdditions p (parts_of parts) no_options
unfolding HasAdditions parts_of
no_additions p no_parts = tt
no_additions p (part name optional t others) = tt

none_there : (more : Options) → has_options more ≡ false → more ≡ no_options
none_there no_options h = refl
none_there (absent more) h = cc
none_there (present v more) h = cc

-- ---- the whole
-- what additions are where the list of them is so long and one of them is told
are_additions : (more : Options) → 1 ≤ length (presence more) → length (presence more) ≤ 64 → some_present more ≡ true
    → (has_options more ≡ true) × AreAdditions true more
are_additions no_options low high told = absurd (omega (arith, low))
are_additions (absent more) low high told = (refl, (refl, high, told))
are_additions (present v more) low high told = (refl, (refl, high, told))

bounds_of_additions : (more : Options) → has_options more ≡ true → AreAdditions true more
    → (1 ≤ length (presence more)) × (length (presence more) ≤ 64) × (some_present more ≡ true)
bounds_of_additions no_options h g = cc
bounds_of_additions (absent more) h g = (omega arith, g.1, g.2)
bounds_of_additions (present v more) h g = (omega arith, g.1, g.2)

module _ (p : Path) (additions : NamedParts) (l : AreLawful additions) where
  abbrev asked_first : Option Data → List Demand
  asked_first more = if_there (λ e. added_demands p (λ ds. each_added p additions ds) e) more []

  abbrev asked_last : Option Data → List Demand
  asked_last more = if_there (λ e. open_demands p additions (items_in (as_array e))) more []

  more_one : (o : Option Data) (more : Options) → AreShown o (λ ds xs. ShowsAdditions additions ds xs) more
      → more ≡ additions_in (λ ds. added_in additions ds) o
  more_one None more h = none_there more h
  more_one (Some (array ds)) more h = added_one additions l ds more h.1
  more_one (Some d) more h = absurd h

  more_forth : (o : Option Data) → Holds (asked_first o) → Holds (asked_last o)
      → AreShown o (λ ds xs. ShowsAdditions additions ds xs) (additions_in (λ ds. added_in additions ds) o)
      × AreAdditions true (additions_in (λ ds. added_in additions ds) o)
      × HasAdditions p (parts_of additions) (additions_in (λ ds. added_in additions ds) o)
  more_forth None h g = (refl, tt, no_additions p additions)
  more_forth (Some (array ds)) h g =
      let told = rest_holds (each_added p additions ds) _ h.1 in
      let in_bounds = nat_le 1 (item_count ds) && nat_le (item_count ds) 64 in
      let bounds = first_true in_bounds (any_told ds) told.0 in
      let low = at_most 1 (item_count ds) (first_true (nat_le 1 (item_count ds)) (nat_le (item_count ds) 64) bounds) in
      let high = at_most (item_count ds) 64 (second_true (nat_le 1 (item_count ds)) (nat_le (item_count ds) 64) bounds) in
      let good = added_forth p additions l ds (front_holds (each_added p additions ds) _ h.1) g in
      let count = added_count additions ds (added_in additions ds) good.0 in
      let are = are_additions (added_in additions ds) (omega (arith, count.0, low)) (omega (arith, count.0, high))
      (sym count.1 ∙ second_true in_bounds (any_told ds) told.0) in
      ((are.0, good.0), are.1, good.1)
  more_forth (Some d) h g = absurd (apart h.0)

  more_back : (o : Option Data) (more : Options) → AreShown o (λ ds xs. ShowsAdditions additions ds xs) more → AreAdditions true more
      → HasAdditions p (parts_of additions) more → Holds (asked_first o) × Holds (asked_last o)
  more_back None more h a g = (tt, tt)
  more_back (Some (array ds)) more h a g =
      let count = added_count additions ds more h.1 in
      let bounds = bounds_of_additions more h.0 a in
      let good = added_back p additions l ds more h.1 g in
      let n = item_count ds in (
        (
          refl,
          both_hold (each_added p additions ds) _ good.0 (
            both_true (nat_le 1 n && nat_le n 64) (any_told ds)
                (both_true (nat_le 1 n) (nat_le n 64) (is_at_most 1 n (omega (arith, count.0, bounds.0)))
                (is_at_most n 64 (omega (arith, count.0, bounds.1)))) (count.1 ∙ bounds.2),
            tt,
          ),
        ),
        good.1,
      )
  more_back (Some d) more h a g = absurd h

module _ (root additions : NamedParts) (r : AreLawful root) (a : AreLawful additions) where
  sequence_one : (extensible : Bool) (d : Data) (v : Value) → Shows (sequence extensible root additions) d v
      → v ≡ value_of (sequence extensible root additions) d
  unfolding Shows value_of
  sequence_one true (object ms) (components vs more) h =
      ap (λ (xs : Options). components xs more) (components_one root r ms vs h.0)
      ∙ ap (λ (xs : Options). components (components_in root ms) xs) (more_one [] additions a (get_member dots ms) more h.1)
  sequence_one false (object ms) (components vs more) h =
      ap (λ (xs : Options). components xs more) (components_one root r ms vs h.0)
      ∙ ap (λ (xs : Options). components (components_in root ms) xs) (none_there more h.1)
  sequence_one extensible d v h = absurd h

  sequence_forth : (extensible : Bool) (p : Path) (d : Data) → Holds (demands p (sequence extensible root additions) d)
      → Shows (sequence extensible root additions) d (value_of (sequence extensible root additions) d)
      × Has p (tree_of (sequence extensible root additions)) (value_of (sequence extensible root additions) d)
  unfolding Shows value_of demands Has tree_of
  sequence_forth true p (object ms) h =
      let o = get_member dots ms in
      let first = components_forth p root r ms (front_holds (component_demands p root ms) _ h.1) in
      let after = rest_holds (component_demands p root ms) _ h.1 in
      let last = rest_holds (asked_first p additions a o) _ after in
      let more = more_forth p additions a o (front_holds (asked_first p additions a o) _ after) last.1 in
      ((first.0, more.0, last.0), (first.1, more.1, more.2))
  sequence_forth false p (object ms) h =
      let first = components_forth p root r ms (front_holds (component_demands p root ms) _ h.1) in
      let last = rest_holds (component_demands p root ms) _ h.1 in
      ((first.0, refl, last.0), (first.1, tt, no_additions p additions))
  sequence_forth extensible p d h = absurd (apart h.0)

  sequence_back : (extensible : Bool) (p : Path) (d : Data) (v : Value) → Shows (sequence extensible root additions) d v
      → Has p (tree_of (sequence extensible root additions)) v → Holds (demands p (sequence extensible root additions) d)
  unfolding Shows demands Has tree_of
  sequence_back true p (object ms) (components vs more) h g =
      let o = get_member dots ms in
      let tail = more_back p additions a o more h.1 g.1 g.2 in (
        refl,
        both_hold (component_demands p root ms) _ (components_back p root r ms vs h.0 g.0)
            (both_hold (asked_first p additions a o) _ tail.0 (h.2, tail.1)),
      )
  sequence_back false p (object ms) (components vs more) h g =
      (refl, both_hold (component_demands p root ms) _ (components_back p root r ms vs h.0 g.0) (h.2, tt))
  sequence_back extensible p d v h g = absurd h

  pub sequence_lawful : (extensible : Bool) → Lawful (sequence extensible root additions)
  sequence_lawful extensible = record {
    one = sequence_one extensible;
    forth = sequence_forth extensible;
    back = sequence_back extensible;
  }

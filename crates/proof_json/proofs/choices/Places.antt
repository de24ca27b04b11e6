-- Which alternative the one member of an object is: the part with its name, or none.
use Rattle.std.proofs.Common.{◌≡◌, ◌⊎◌, ℕ, suc, ◌+◌, ◌<◌, Bool, true, false, List, [], ◌∷◌, ◌++◌, length, Option, Some, None, refl, ap, ◌∙◌, inl, inr, arith}
use Rattle.serde_json.specs.Data.{Data, Members, no_members, member}
use Rattle.aper_defs.specs.Trees.{part_count}
use Rattle.aper_defs.specs.Fields.{Path}
use Rattle.aper_defs.specs.Fields as ways
use Rattle.aper_defs.specs.Layouts.{layout}
use Rattle.aper_defs.specs.Values.{Value}
use Rattle.aper_defs.specs.Membership.{FitsOpen, Has, HasAlternative, HasAdded}
use Rattle.json_defs.specs.Named.{Name, Named, NamedParts, no_parts, part, tree_of, parts_of}
use Rattle.json_defs.specs.Members.{Text, same_text, place_in}
use Rattle.json_defs.specs.Shown.{count_of, names_of, Shows, ShowsPart}
use Rattle.json_defs.specs.Readings.{first_of, numbered, read_if, value_of, alternative_in}
use Rattle.json_defs.specs.Demands.{Demand, range, fits_open, only_member, on_members, demands, alternative_demands, addition_demands}
use Rattle.proof_json.proofs.values.Holding.{Lawful, AreLawful, by_cases, taken, passed}
use Rattle.proof_json.proofs.values.Words.{found, missed, place_after}

abbrev pub one : Text → Data → Members
one key e = member key e no_members

pub names_count : (parts : NamedParts) → length (names_of parts) ≡ count_of parts
names_count no_parts = refl
names_count (part name optional t others) = ap suc (names_count others)

pub parts_count : (parts : NamedParts) → part_count (parts_of parts) ≡ count_of parts
unfolding parts_of
parts_count no_parts = refl
parts_count (part name optional t others) = ap suc (parts_count others)

-- the member is this part of them, the first of them with this number
pub record Placed (p : Path) (parts : NamedParts) (key : Text) (e : Data) (first : ℕ) : Type 0 where
  pub place : ℕ
  pub q : Path
  pub t : Named
  pub lawful : Lawful t
  pub inside : place < count_of parts
  pub named : place_in (names_of parts) key first ≡ Some (first + place)
  pub read : alternative_in parts first (one key e) ≡ Some (first + place, value_of t e)
  pub asked : alternative_demands p parts (one key e) ≡ Some (demands q t e ++ only_member p (one key e))
  pub asked_added : addition_demands p parts (one key e)
      ≡ Some (demands q t e ++ (only_member p (one key e) ++ range q (fits_open q t e) ∷ []))
  pub shows : (v : Value) → Shows t e v → ShowsPart parts e place v
  pub shown : (v : Value) → ShowsPart parts e place v → Shows t e v
  pub has : (v : Value) → Has q (tree_of t) v → HasAlternative p (parts_of parts) place v
  pub had : (v : Value) → HasAlternative p (parts_of parts) place v → Has q (tree_of t) v
  pub has_added : (v : Value) → Has q (tree_of t) v → FitsOpen q (layout q (tree_of t) v) → HasAdded p (parts_of parts) place v
  pub had_added : (v : Value) → HasAdded p (parts_of parts) place v → Has q (tree_of t) v × FitsOpen q (layout q (tree_of t) v)

-- it is none of them
pub record Missing (p : Path) (parts : NamedParts) (key : Text) (e : Data) (first : ℕ) : Type 0 where
  pub named : place_in (names_of parts) key first ≡ None
  pub read : alternative_in parts first (one key e) ≡ None
  pub asked : alternative_demands p parts (one key e) ≡ None
  pub asked_added : addition_demands p parts (one key e) ≡ None

module _ (p : Path) (name : Name) (optional : Bool) (t : Named) (others : NamedParts) (key : Text) (e : Data) (first : ℕ) where
  abbrev parts : NamedParts
  parts = part name optional t others

  abbrev q : Path
  q = ways.component name ∷ p

  abbrev read_so : Option Data → Option (ℕ × Value)
  read_so o = first_of (numbered first (read_if (λ d. value_of t d) o)) (alternative_in others (suc first) (one key e))

  abbrev asked_so : Option Data → Option (List Demand)
  asked_so o = first_of (on_members (λ d. demands q t d ++ only_member p (one key e)) o) (alternative_demands p others (one key e))

  abbrev added_so : Option Data → Option (List Demand)
  added_so o = first_of (on_members (λ d. demands q t d ++ (only_member p (one key e) ++ range q (fits_open q t d) ∷ [])) o)
      (addition_demands p others (one key e))

  here : Lawful t → same_text name key ≡ true → Placed p parts key e first
  unfolding alternative_in alternative_demands addition_demands ShowsPart HasAlternative HasAdded parts_of
  here l same =
      let there = found name key e same in
      let at : first ≡ first + 0 = omega arith in record {
        place = 0;
        q = q;
        t = t;
        lawful = l;
        inside = omega arith;
        named = taken (same_text name key) _ _ same ∙ ap Some at;
        read = ap read_so there ∙ ap (λ (i : ℕ). Some (i, value_of t e)) at;
        asked = ap asked_so there;
        asked_added = ap added_so there;
        shows = λ v h. h;
        shown = λ v h. h;
        has = λ v h. h;
        had = λ v h. h;
        has_added = λ v h g. (h, g);
        had_added = λ v h. h;
      }

  later : same_text name key ≡ false → Placed p others key e (suc first) → Placed p parts key e first
  unfolding alternative_in alternative_demands addition_demands ShowsPart HasAlternative HasAdded parts_of
  later other x =
      let not_here = missed name key e other in
      let at : suc first + x.place ≡ first + suc x.place = omega arith in record {
        place = suc x.place;
        q = x.q;
        t = x.t;
        lawful = x.lawful;
        inside = omega (arith, x.inside);
        named = passed (same_text name key) _ _ other ∙ x.named ∙ ap Some at;
        read = ap read_so not_here ∙ x.read ∙ ap (λ (i : ℕ). Some (i, value_of x.t e)) at;
        asked = ap asked_so not_here ∙ x.asked;
        asked_added = ap added_so not_here ∙ x.asked_added;
        shows = x.shows;
        shown = x.shown;
        has = x.has;
        had = x.had;
        has_added = x.has_added;
        had_added = x.had_added;
      }

  nowhere : same_text name key ≡ false → Missing p others key e (suc first) → Missing p parts key e first
  unfolding alternative_in alternative_demands addition_demands
  nowhere other x =
      let not_here = missed name key e other in record {
        named = passed (same_text name key) _ _ other ∙ x.named;
        read = ap read_so not_here ∙ x.read;
        asked = ap asked_so not_here ∙ x.asked;
        asked_added = ap added_so not_here ∙ x.asked_added;
      }

  either_later : same_text name key ≡ false → Placed p others key e (suc first) ⊎ Missing p others key e (suc first)
      → Placed p parts key e first ⊎ Missing p parts key e first
  either_later other (inl x) = inl (later other x)
  either_later other (inr x) = inr (nowhere other x)

pub find : (p : Path) (parts : NamedParts) → AreLawful parts → (key : Text) (e : Data) (first : ℕ)
    → Placed p parts key e first ⊎ Missing p parts key e first
unfolding alternative_in alternative_demands addition_demands
find p no_parts l key e first = inr (record { named = refl; read = refl; asked = refl; asked_added = refl })
find p (part name optional t others) l key e first =
    by_cases (same_text name key)
    (λ _. Placed p (part name optional t others) key e first ⊎ Missing p (part name optional t others) key e first)
    (λ same. inl (here p name optional t others key e first l.0 same))
    (λ other. either_later p name optional t others key e first other (find p others l.1 key e (suc first)))

-- its place among the names of both lists
pub whole_place : (root additions : NamedParts) (key : Text) → place_in (names_of root ++ names_of additions) key 0
    ≡ first_of (place_in (names_of root) key 0) (place_in (names_of additions) key (count_of root))
whole_place root additions key =
    place_after (names_of root) (names_of additions) key 0
    ∙ ap (λ (n : ℕ). first_of (place_in (names_of root) key 0) (place_in (names_of additions) key n))
    (let e : 0 + length (names_of root) ≡ count_of root = omega (arith, names_count root) in e)

-- SEQUENCE OF, and a list of information elements.
use Rattle.std.proofs.Common.{◌≡◌, ℕ, suc, Bool, true, false, cond, ◌==◌, List, ◌∷◌, Option, Some, refl, sym, ap, subst, ◌∙◌}
use Rattle.asn1_syntax.specs.declared.types.definition.Size.{Size}
use Rattle.serde_json.specs.Data.{Data, array, Items, no_items, item, Members}
use Rattle.aper_defs.specs.Fields.{Path}
use Rattle.aper_defs.specs.Fields as ways
use Rattle.aper_defs.specs.Values.{Value, list, Values, no_values, value, value_count}
use Rattle.aper_defs.specs.Membership.{Either, is_count_of, EachFrom, Has}
use Rattle.json_defs.specs.Named.{Named, NamedRows, sequence_of, no_rows, row, tree_of}
use Rattle.json_defs.specs.Members.{item_count, member_of, value_key}
use Rattle.json_defs.specs.Shown.{EachShown, element_keys, Shows, ShowsRow}
use Rattle.json_defs.specs.Readings.{values_in, value_of, row_in}
use Rattle.json_defs.specs.Demands.{Demand, each_demand, demands}
use Rattle.proof_json.proofs.values.Holding.{Holds, Lawful, AreRowsLawful, apart, front_holds, rest_holds, both_hold}
use Rattle.proof_json.proofs.choices.Bodies.{HasKnown, raw_member_one, known_one}

-- ---- SEQUENCE OF
module _ (t : Named) (l : Lawful t) where
  each_one : (ds : Items) (vs : Values) → EachShown (λ d v. Shows t d v) ds vs → vs ≡ values_in (λ d. value_of t d) ds
  each_one no_items no_values h = refl
  each_one (item d ds) (value v vs) h =
      ap (λ (w : Value). value w vs) (l.one d v h.0) ∙ ap (λ (ws : Values). value (value_of t d) ws) (each_one ds vs h.1)
  each_one ds vs h = absurd h

  each_count : (ds : Items) (vs : Values) → EachShown (λ d v. Shows t d v) ds vs → item_count ds ≡ value_count vs
  each_count no_items no_values h = refl
  each_count (item d ds) (value v vs) h = ap suc (each_count ds vs h.1)
  each_count ds vs h = absurd h

  module _ (p : Path) where
    abbrev asked_each : ℕ → Data → List Demand
    asked_each i e = demands (ways.member i ∷ p) t e

    each_forth : (i : ℕ) (ds : Items) → Holds (each_demand asked_each i ds)
        → EachShown (λ d v. Shows t d v) ds (values_in (λ d. value_of t d) ds)
        × EachFrom (λ j v. Has (ways.member j ∷ p) (tree_of t) v) i (values_in (λ d. value_of t d) ds)
    each_forth i no_items h = (tt, tt)
    each_forth i (item d ds) h =
        let one = l.forth (ways.member i ∷ p) d (front_holds (asked_each i d) (each_demand asked_each (suc i) ds) h) in
        let rest = each_forth (suc i) ds (rest_holds (asked_each i d) (each_demand asked_each (suc i) ds) h) in
        ((one.0, rest.0), (one.1, rest.1))

    each_back : (i : ℕ) (ds : Items) (vs : Values) → EachShown (λ d v. Shows t d v) ds vs
        → EachFrom (λ j v. Has (ways.member j ∷ p) (tree_of t) v) i vs → Holds (each_demand asked_each i ds)
    each_back i no_items no_values h g = tt
    each_back i (item d ds) (value v vs) h g =
        both_hold (asked_each i d) (each_demand asked_each (suc i) ds) (l.back (ways.member i ∷ p) d v h.0 g.0)
        (each_back (suc i) ds vs h.1 g.1)
    each_back i ds vs h g = absurd h

  module _ (size : Option Size) where
    list_one : (d : Data) (v : Value) → Shows (sequence_of size t) d v → v ≡ value_of (sequence_of size t) d
    unfolding Shows value_of
    list_one (array ds) (list vs) h = ap list (each_one ds vs h)
    list_one d v h = absurd h

    list_forth : (p : Path) (d : Data) → Holds (demands p (sequence_of size t) d)
        → Shows (sequence_of size t) d (value_of (sequence_of size t) d)
        × Has p (tree_of (sequence_of size t)) (value_of (sequence_of size t) d)
    unfolding Shows value_of demands Has tree_of
    list_forth p (array ds) h =
        let good = each_forth p 0 ds (front_holds (each_demand (asked_each p) 0 ds) _ h.1) in
        let tail = rest_holds (each_demand (asked_each p) 0 ds) _ h.1 in
        let count = each_count ds (values_in (λ d. value_of t d) ds) good.0 in
        (good.0, (subst (λ (n : ℕ). is_count_of (Some 16383) size n ≡ true) count tail.0, good.1))
    list_forth p d h = absurd (apart h.0)

    list_back : (p : Path) (d : Data) (v : Value) → Shows (sequence_of size t) d v → Has p (tree_of (sequence_of size t)) v
        → Holds (demands p (sequence_of size t) d)
    unfolding Shows demands Has tree_of
    list_back p (array ds) (list vs) h g = (
      refl,
      both_hold (each_demand (asked_each p) 0 ds) _ (each_back p 0 ds vs h g.1)
          (subst (λ (n : ℕ). is_count_of (Some 16383) size n ≡ true) (sym (each_count ds vs h)) g.0, tt),
    )
    list_back p d v h g = absurd h

    pub list_lawful : Lawful (sequence_of size t)
    list_lawful = record { one = list_one; forth = list_forth; back = list_back }

-- ---- the contents of an information element
-- the branch that a test takes, of values
pub one_by : (b : Bool) (A B : Type 0) (x y z : Value) → (A → x ≡ y) → (B → x ≡ z) → Either b A B → x ≡ cond b y z
one_by true A B x y z f g e = f e
one_by false A B x y z f g e = g e

pub row_one : (rows : NamedRows) → AreRowsLawful rows → (id : ℕ) (ms : Members) (v : Value) → ShowsRow rows id ms v → v ≡ row_in rows id ms
unfolding ShowsRow row_in
row_one no_rows l id ms v h = raw_member_one element_keys ms v h
row_one (row other mandatory t others) l id ms v h =
    one_by (other == id) (HasKnown element_keys ms t v) (ShowsRow others id ms v) v
    (value_of t (member_of value_key ms)) (row_in others id ms)
    (known_one element_keys ms t l.0 v) (row_one others l.1 id ms v) h

-- of demands and of facts on a value
pub forth_by : (b : Bool) (x y : List Demand) (v w : Value) (A B C D : Value → Type 0) → (Holds x → A v × C v) → (Holds y → B w × D w)
    → Holds (cond b x y) → Either b (A (cond b v w)) (B (cond b v w)) × Either b (C (cond b v w)) (D (cond b v w))
forth_by true x y v w A B C D f g h = f h
forth_by false x y v w A B C D f g h = g h

pub back_by : (b : Bool) (x y : List Demand) (A B C D : Type 0) → (A → C → Holds x) → (B → D → Holds y) → Either b A B → Either b C D
    → Holds (cond b x y)
back_by true x y A B C D f g h k = f h k
back_by false x y A B C D f g h k = g h k

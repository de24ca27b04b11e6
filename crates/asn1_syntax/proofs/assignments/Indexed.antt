-- An index has the number of each name.
use Rattle.std.proofs.Common.{◌≡◌, ℕ, ◌+◌, ◌-◌, ◌<◌, ◌≤◌, List, [], ◌∷◌, ◌++◌, length, take, get_or, Bool, true, false, cond, eqb, ◌||◌, refl, sym, ap, ◌∙◌, subst, arith}
use Rattle.std.specs.Prelude.{Option, Some, None, is_some}
use Rattle.std.specs.List.{list_any, position_from, count_by}
use Rattle.std.specs.Ordering.{is_eq, nat_cmp}
use Rattle.std.specs.Cmp.{eq_by_cmp_equiv, unsigned_tied}
use Rattle.std.specs.Cmp.Lexicographic.{slice_cmp, bytes_decides, nat_list_cmp_total, nat_list_eq_equiv}
use Rattle.std.specs.Str.{bytes_eq}
use Rattle.std.specs.Map.{lookup, IsKeyTest, AreApart, KeepsOthers}
use Rattle.std.specs.BTreeMap.{BTreeMap, UpdatesBy, get_by}
use Rattle.std.specs.BTreeSet.{BTreeSet, Updates, contains}
use Rattle.std.proofs.lemmas.List.Folds.{list_any-append}
use Rattle.std.proofs.lemmas.List.{take_all, take_more, length-take-le}
use Rattle.std.proofs.lemmas.List.Sums.{sum_by-append, sum_by-cons}
use Rattle.std.proofs.lemmas.Iterator.Adapters.{position_from-zero}
use Rattle.std.proofs.lemmas.Map.Text.{is_eq-slice_cmp}
use Rattle.std.specs.Global.{Vec}
use Rattle.std.proofs.lemmas.Bool.{cond-true, cond-false}
use Rattle.gnb_types.proofs.Choices.{by_test}
use Rattle.asn1_tokens.specs.Words.{is_text}
use Rattle.asn1_syntax.specs.declared.assignments.assignment.Assignment.{Assignment}
use Rattle.asn1_syntax.specs.declared.assignments.assignment.IeRow.{IeRow}
use Rattle.asn1_syntax.specs.assignments.inside.Rows.{has_id}
use Rattle.asn1_syntax.specs.declared.assignments.index.NameIndex.{NameIndex}
use Rattle.asn1_syntax.specs.assignments.Module.{is_type}
use Rattle.asn1_syntax.specs.assignments.inside.Module.{is_assigned}
use Rattle.asn1_syntax.specs.assignments.Index.{number_of, numbered, Indexes}
use Rattle.asn1_syntax.specs.assignments.inside.Index.{noted}

-- ---- the first place of a list that grows at its end

-- the first of two
or_later : Option ℕ → Option ℕ → Option ℕ
or_later (Some old) new = Some old
or_later None new = new

from_push : {X : Type 0} (p : X → Bool) (i : ℕ) (xs : List X) (y : X) → position_from p i (xs ++ y ∷ []) ≡ or_later (position_from p i xs) (cond (p y) (Some (i + length xs)) None)
unfolding or_later
from_push p i [] y =
    let none : i ≡ i + 0 = omega arith in
    ap (λ (n : ℕ). cond {A = Option ℕ} (p y) (Some n) None) none
from_push {X} p i (x ∷ xs) y = go (p x) (from_push p (i + 1) xs y)
  where
    further : (i + 1) + length xs ≡ i + length (x ∷ xs)
    further = omega arith

    go : (b : Bool) → position_from p (i + 1) (xs ++ y ∷ []) ≡ or_later (position_from p (i + 1) xs) (cond (p y) (Some ((i + 1) + length xs)) None)
        → cond b (Some i) (position_from p (i + 1) (xs ++ y ∷ [])) ≡ or_later (cond b (Some i) (position_from p (i + 1) xs)) (cond (p y) (Some (i + length (x ∷ xs))) None)
    go true later = refl
    go false later = later ∙ ap (λ (n : ℕ). or_later (position_from p (i + 1) xs) (cond (p y) (Some n) None)) further

from_some : {X : Type 0} (p : X → Bool) (i : ℕ) (xs : List X) → is_some (position_from p i xs) ≡ list_any p xs
from_some p i [] = refl
from_some {X} p i (x ∷ xs) = go (p x) (from_some p (i + 1) xs)
  where
    go : (b : Bool) → is_some (position_from p (i + 1) xs) ≡ list_any p xs → is_some (cond b (Some i) (position_from p (i + 1) xs)) ≡ (b || list_any p xs)
    go true later = refl
    go false later = later

number_from : (name : List ℕ) (assignments : List Assignment) → number_of name assignments ≡ position_from (λ (a : Assignment). is_text a.name name) 0 assignments
number_from name assignments = position_from-zero (λ (a : Assignment). is_text a.name name) assignments

number_push : (name : List ℕ) (assignments : List Assignment) (a : Assignment) → number_of name (assignments ++ a ∷ []) ≡ noted a.name (length assignments) name (number_of name assignments)
unfolding or_later
number_push name assignments a =
    number_from name (assignments ++ a ∷ [])
    ∙ from_push (λ (b : Assignment). is_text b.name name) 0 assignments a
    ∙ same (position_from (λ (b : Assignment). is_text b.name name) 0 assignments)
    ∙ ap (noted a.name (length assignments) name) (sym (number_from name assignments))
  where
    same : (o : Option ℕ) → or_later o (cond (is_text a.name name) (Some (0 + length assignments)) None) ≡ noted a.name (length assignments) name o
    same (Some old) = refl
    same None =
        let none : 0 + length assignments ≡ length assignments = omega arith in
        ap (λ (n : ℕ). cond {A = Option ℕ} (is_text a.name name) (Some n) None) none

-- ---- what an index says

pub assigned_by : (index : NameIndex) (assignments : List Assignment) (name : List ℕ) → Indexes index assignments → is_some (numbered index name) ≡ is_assigned name assignments
assigned_by index assignments name indexes =
    ap is_some (indexes name ∙ number_from name assignments) ∙ from_some (λ (a : Assignment). is_text a.name name) 0 assignments

pub indexes_more : (old new : NameIndex) (assignments : List Assignment) (a : Assignment) (number : ℕ) → number ≡ length assignments
    → ((name : List ℕ) → numbered new name ≡ noted a.name number name (numbered old name)) → Indexes old assignments → Indexes new (assignments ++ a ∷ [])
indexes_more old new assignments a number is step indexes name =
    step name
    ∙ ap (λ (n : ℕ). noted a.name n name (numbered old name)) is
    ∙ ap (noted a.name (length assignments) name) (indexes name)
    ∙ sym (number_push name assignments a)

-- no names
pub none_numbered : (index : NameIndex) → index.numbers.entries ≡ [] → (name : List ℕ) → numbered index name ≡ None
none_numbered index empty name = ap (λ es. lookup (λ (k : Vec ℕ). is_eq (slice_cmp nat_cmp name k.items)) es) empty

pub indexes_none : (index : NameIndex) (assignments : List Assignment) → ((name : List ℕ) → numbered index name ≡ None) → assignments ≡ [] → Indexes index assignments
indexes_none index assignments none empty name = none name ∙ ap (λ (l : List Assignment). number_of name l) (sym empty)

-- one assignment after another
pub indexed_more : (old new : NameIndex) (assignments : List Assignment) (i : ℕ) (d : Assignment) → i < length assignments
    → ((other : List ℕ) → numbered new other ≡ noted (get_or assignments i d).name i other (numbered old other)) → Indexes old (take i assignments) → Indexes new (take (i + 1) assignments)
indexed_more old new assignments i d lt step so_far =
    subst (Indexes new) (sym (take_more assignments i d lt))
    (indexes_more old new (take i assignments) (get_or assignments i d) i (sym (length-take-le i assignments (omega arith))) step so_far)

pub indexed_all : (index : NameIndex) (assignments : List Assignment) (i : ℕ) → length assignments ≤ i → Indexes index (take i assignments) → Indexes index assignments
indexed_all index assignments i past so_far = subst (Indexes index) (take_all i assignments past) so_far

count_by_push : {X : Type 0} (p : X → Bool) (xs : List X) (y : X) → count_by p (xs ++ y ∷ []) ≡ count_by p xs + cond (p y) 1 0
count_by_push p xs y = sum_by-append (λ x. cond (p x) 1 0) xs (y ∷ []) ∙ ap (λ n. count_by p xs + n) (sum_by-cons (λ x. cond (p x) 1 0) y [] ∙ last)
  where
    last : cond (p y) 1 0 + count_by p [] ≡ cond (p y) 1 0
    last = omega arith

-- how many types more there may be
pub left_more : (assignments : List Assignment) (a : Assignment) (left : ℕ) → left ≡ 1000 - count_by is_type assignments → (after : ℕ) → after ≡ left - cond (is_type a) 1 0 → after ≡ 1000 - count_by is_type (assignments ++ a ∷ [])
left_more assignments a left is after took =
    omega (arith, is, took, count_by_push is_type assignments a)

-- ---- a map with octets as keys

-- g is w at these octets, and f at others
by_octets : {W : Type 0} (f g : List ℕ → W) (bs : List ℕ) (w : W) → g bs ≡ w → ((cs : List ℕ) → bytes_eq bs cs ≡ false → g cs ≡ f cs) → (cs : List ℕ) → g cs ≡ cond (bytes_eq bs cs) w (f cs)
by_octets f g bs w here other cs =
    by_test (g cs ≡ cond (bytes_eq bs cs) w (f cs)) (bytes_eq bs cs)
    (λ y. subst (λ l. g l ≡ w) ((bytes_decides bs cs).0 y) here ∙ sym (cond-true (bytes_eq bs cs) w (f cs) y))
    (λ n. other cs n ∙ sym (cond-false (bytes_eq bs cs) w (f cs) n))

apart : (bs cs ks : List ℕ) → bytes_eq bs cs ≡ false → is_eq (slice_cmp nat_cmp bs ks) ≡ true → is_eq (slice_cmp nat_cmp cs ks) ≡ false
apart bs cs ks n y =
    is_eq-slice_cmp cs ks ∙ nat_list_eq_equiv.symm cs ks ∙ sym (nat_list_eq_equiv.congr bs ks cs (sym (is_eq-slice_cmp bs ks) ∙ y)) ∙ n

module _ {K X : Type 0} where
  other_entries : (eq : K → K → Bool) (test : K → Bool) (old new : List (K × X)) → KeepsOthers eq test old new → (other : K → Bool) → IsKeyTest eq other → AreApart test other → lookup other new ≡ lookup other old
  unfolding KeepsOthers
  other_entries eq test old new h = h

  -- what stands at any octets after a change at these
  octets_updated : (octets : K → List ℕ) (bs : List ℕ) (m n : BTreeMap K X) (w : Option X) → UpdatesBy (λ (x y : K). slice_cmp nat_cmp (octets x) (octets y)) (λ (k : K). slice_cmp nat_cmp bs (octets k)) m n w
      → (cs : List ℕ) → get_by (λ (k : K). slice_cmp nat_cmp cs (octets k)) n ≡ cond (bytes_eq bs cs) w (get_by (λ (k : K). slice_cmp nat_cmp cs (octets k)) m)
  octets_updated octets bs m n w h =
      by_octets (λ cs. get_by (λ (k : K). slice_cmp nat_cmp cs (octets k)) m) (λ cs. get_by (λ (k : K). slice_cmp nat_cmp cs (octets k)) n) bs w h.1
      (λ cs e. other_entries _ _ _ _ h.3 _ (λ x y. (eq_by_cmp_equiv nat_list_cmp_total).congr cs (octets x) (octets y)) (λ k. apart bs cs (octets k) e))

noted_added : (name other : List ℕ) (number : ℕ) (old : Option ℕ) → (bytes_eq name other ≡ true → old ≡ None) → cond (bytes_eq name other) (Some number) old ≡ noted name number other old
unfolding is_text
noted_added name other number None absent = refl
noted_added name other number (Some x) absent = go (bytes_eq name other) absent
  where
    go : (b : Bool) → (b ≡ true → Some x ≡ None) → cond b (Some number) (Some x) ≡ Some x
    go true absent = let wrong : Some x ≡ None = absent refl in cc
    go false absent = refl

noted_there : (name other : List ℕ) (number : ℕ) (old : Option ℕ) → (bytes_eq name other ≡ true → is_some old ≡ true) → old ≡ noted name number other old
unfolding is_text
noted_there name other number (Some x) there = refl
noted_there name other number None there = go (bytes_eq name other) there
  where
    go : (b : Bool) → (b ≡ true → false ≡ true) → None ≡ cond {A = Option ℕ} b (Some number) None
    go true there = let wrong : false ≡ true = there refl in cc
    go false there = refl

-- a name that stands already
pub stays_noted : (index : NameIndex) (name : List ℕ) (number : ℕ) → is_some (numbered index name) ≡ true → (other : List ℕ) → numbered index other ≡ noted name number other (numbered index other)
stays_noted index name number there other =
    noted_there name other number (numbered index other)
    (λ same. subst (λ (cs : List ℕ). is_some (numbered index cs) ≡ true) ((bytes_decides name other).0 same) there)

-- a new name
pub is_noted : (old new : NameIndex) (name : List ℕ) (number : ℕ) → is_some (numbered old name) ≡ false
    → UpdatesBy (λ (x y : Vec ℕ). slice_cmp nat_cmp x.items y.items) (λ (k : Vec ℕ). slice_cmp nat_cmp name k.items) old.numbers new.numbers (Some number)
    → (other : List ℕ) → numbered new other ≡ noted name number other (numbered old other)
is_noted old new name number absent updates other =
    octets_updated (λ (k : Vec ℕ). k.items) name old.numbers new.numbers (Some number) updates other
    ∙ noted_added name other number (numbered old other) (λ same. subst (λ (cs : List ℕ). numbered old cs ≡ None) ((bytes_decides name other).0 same) (none (numbered old name) absent))
  where
    none : (o : Option ℕ) → is_some o ≡ false → o ≡ None
    none None h = refl
    none (Some x) h = cc

-- the same, by the key that was put in
pub key_noted : (old new : NameIndex) (name : List ℕ) (key : Vec ℕ) (number : ℕ) → key.items ≡ name → is_some (numbered old name) ≡ false
    → UpdatesBy (λ (x y : Vec ℕ). slice_cmp nat_cmp x.items y.items) (λ (k : Vec ℕ). slice_cmp nat_cmp key.items k.items) old.numbers new.numbers (Some number)
    → (other : List ℕ) → numbered new other ≡ noted name number other (numbered old other)
key_noted old new name key number same absent updates =
    is_noted old new name number absent
    (subst (λ (l : List ℕ). UpdatesBy (λ (x y : Vec ℕ). slice_cmp nat_cmp x.items y.items) (λ (k : Vec ℕ). slice_cmp nat_cmp l k.items) old.numbers new.numbers (Some number)) same updates)

-- ---- the ids of rows

is_at_number : (k q : ℕ) → is_eq (nat_cmp k q) ≡ eqb k q
is_at_number k q = unsigned_tied k q

-- one more id
pub ids_more : (old new : BTreeSet ℕ) (rows : List IeRow) (row : IeRow) → Updates nat_cmp old new row.id true
    → ((id : ℕ) → contains nat_cmp old id ≡ has_id id rows) → (id : ℕ) → contains nat_cmp new id ≡ has_id id (rows ++ row ∷ [])
ids_more old new rows row updates indexes id =
    updates.0 id
    ∙ ap (λ (b : Bool). cond b true (contains nat_cmp old id)) (is_at_number row.id id)
    ∙ ap (λ (b : Bool). cond (eqb row.id id) true b) (indexes id)
    ∙ either (eqb row.id id) (has_id id rows)
    ∙ sym (list_any-append (λ (r : IeRow). eqb r.id id) rows (row ∷ []))
  where
    either : (a b : Bool) → cond a true b ≡ (b || (a || false))
    either true true = refl
    either true false = refl
    either false true = refl
    either false false = refl

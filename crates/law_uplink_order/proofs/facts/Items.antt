-- What stands on a tunnel: packets that are right, and End Markers after them.
use Rattle.std.proofs.Common.{inl, inr, ◌≡◌, ◌⊎◌, ℕ, ◌<◌, ◌≤◌, Bool, true, false, ◌==◌, nat_lt, cond, List, [], ◌∷◌, ◌++◌, map, Some, is_some, refl, eqb-true, arith}
use Rattle.std.specs.Prelude.{⊤}
use Rattle.std.specs.List.{AllByRecursion}
use Rattle.std.specs.declared.cmp.Ordering.TheVariants.{Less, Equal, Greater}
use Rattle.std.specs.Ordering.{nat_cmp, is_eq}
use Rattle.tables.specs.Tables.{find}
use Rattle.bearer_defs.specs.uplink_defs.Models.{Item, numbered, end_marker}
use Rattle.bearer_defs.specs.uplink_defs.Assumptions.{NoEnd}
use Rattle.bearer_defs.specs.uplink_defs.Places.{has, Stands}

-- End Markers alone
unfoldable pub NoData : List Item → Type 0
NoData [] = ⊤
NoData (numbered count packet ∷ items) = ⊥
NoData (end_marker ∷ items) = NoData items

-- no packet stands after an End Marker
unfoldable pub EndsLast : List Item → Type 0
EndsLast [] = ⊤
EndsLast (numbered count packet ∷ items) = EndsLast items
EndsLast (end_marker ∷ items) = NoData items

pub no_data-ends_last : (items : List Item) → NoData items → EndsLast items
unfolding NoData EndsLast
no_data-ends_last [] h = tt
no_data-ends_last (numbered count packet ∷ items) h = absurd h
no_data-ends_last (end_marker ∷ items) h = h

pub no_data-put : (items : List Item) → NoData items → NoData (items ++ end_marker ∷ [])
unfolding NoData
no_data-put [] h = tt
no_data-put (numbered count packet ∷ items) h = absurd h
no_data-put (end_marker ∷ items) h = no_data-put items h

pub no_data-stands : (i : ℕ) (items : List Item) → NoData items → Stands i items → ⊥
unfolding NoData Stands
no_data-stands i [] h k = k
no_data-stands i (numbered count packet ∷ items) h k = h
no_data-stands i (end_marker ∷ items) h k = no_data-stands i items h k

pub ends_last-put : (items : List Item) (more : List Item) → NoEnd items → EndsLast more → EndsLast (items ++ more)
unfolding NoEnd EndsLast
ends_last-put [] more h k = k
ends_last-put (numbered count packet ∷ items) more h k = ends_last-put items more h k
ends_last-put (end_marker ∷ items) more h k = absurd h

pub ends_last-end : (items : List Item) → EndsLast items → EndsLast (items ++ end_marker ∷ [])
unfolding EndsLast NoData
ends_last-end [] h = tt
ends_last-end (numbered count packet ∷ items) h = ends_last-end items h
ends_last-end (end_marker ∷ items) h = no_data-put items h

pub no_end-put : (items more : List Item) → NoEnd items → NoEnd more → NoEnd (items ++ more)
unfolding NoEnd
no_end-put [] more h k = k
no_end-put (numbered count packet ∷ items) more h k = no_end-put items more h k
no_end-put (end_marker ∷ items) more h k = absurd h

-- what is left of a tunnel, once its first item is taken
pub rest_ends_last : (count : ℕ) (packet : List ℕ) (items rest : List Item) → items ≡ numbered count packet ∷ rest → EndsLast items
    → EndsLast rest
unfolding EndsLast
rest_ends_last count packet items rest is h = rw is at h

pub rest_no_data : (items rest : List Item) → items ≡ end_marker ∷ rest → EndsLast items → NoData rest
unfolding EndsLast
rest_no_data items rest is h = rw is at h

pub rest_no_end : (count : ℕ) (packet : List ℕ) (items rest : List Item) → items ≡ numbered count packet ∷ rest → NoEnd items → NoEnd rest
unfolding NoEnd
rest_no_end count packet items rest is h = rw is at h

pub end_is_there : (items rest : List Item) → items ≡ end_marker ∷ rest → NoEnd items → ⊥
unfolding NoEnd
end_is_there items rest is h = rw is at h

pub data_is_there : (count : ℕ) (packet : List ℕ) (items rest : List Item) → items ≡ numbered count packet ∷ rest → NoData items → ⊥
unfolding NoData
data_is_there count packet items rest is h = rw is at h

-- ---- which COUNTs stand there

pub stands-left : (i : ℕ) (items more : List Item) → Stands i items → Stands i (items ++ more)
unfolding Stands
stands-left i [] more h = absurd h
stands-left i (numbered count packet ∷ items) more (inl e) = inl e
stands-left i (numbered count packet ∷ items) more (inr h) = inr (stands-left i items more h)
stands-left i (end_marker ∷ items) more h = stands-left i items more h

pub stands-right : (i : ℕ) (items more : List Item) → Stands i more → Stands i (items ++ more)
unfolding Stands
stands-right i [] more h = h
stands-right i (numbered count packet ∷ items) more h = inr (stands-right i items more h)
stands-right i (end_marker ∷ items) more h = stands-right i items more h

pub stands-first : (count : ℕ) (packet : List ℕ) (items : List Item) → Stands count (numbered count packet ∷ items)
unfolding Stands
stands-first count packet items = inl refl

pub stands-one : (i count : ℕ) (packet : List ℕ) (items rest : List Item) → items ≡ numbered count packet ∷ rest → Stands i items
    → (i ≡ count) ⊎ Stands i rest
unfolding Stands
stands-one i count packet items rest is h = rw is at h

pub stands-end : (i : ℕ) (items rest : List Item) → items ≡ end_marker ∷ rest → Stands i items → Stands i rest
unfolding Stands
stands-end i items rest is h = rw is at h

pub stands-none : (i : ℕ) (items : List Item) → items ≡ [] → Stands i items → ⊥
unfolding Stands
stands-none i items is h = rw is at h

-- ---- packets that are right: below a COUNT, and those that were offered

module _ (p : ℕ → List ℕ) (reached : ℕ) where
  abbrev pub IsRight : ℕ × List ℕ → Type 0
  IsRight e = (e.0 < reached) × (e.1 ≡ p e.0)

  abbrev pub IsRightItem : Item → Type 0
  IsRightItem (numbered count packet) = (count < reached) × (packet ≡ p count)
  IsRightItem end_marker = ⊤

  pub late_right : (es : List (ℕ × List ℕ)) → AllByRecursion IsRight es → AllByRecursion IsRightItem (map (λ e. numbered e.0 e.1) es)
  late_right [] h = tt
  late_right (e ∷ es) h = (h.0, late_right es h.1)

  pub first_right : (count : ℕ) (packet : List ℕ) (items rest : List Item) → items ≡ numbered count packet ∷ rest
      → AllByRecursion IsRightItem items → (count < reached) × (packet ≡ p count) × AllByRecursion IsRightItem rest
  first_right count packet items rest is h =
      let k : AllByRecursion IsRightItem (numbered count packet ∷ rest) = rw is at h in (k.0.0, k.0.1, k.1)

  pub rest_right : (items rest : List Item) → items ≡ end_marker ∷ rest → AllByRecursion IsRightItem items → AllByRecursion IsRightItem rest
  rest_right items rest is h = let k : AllByRecursion IsRightItem (end_marker ∷ rest) = rw is at h in k.1

pub right_later : (p : ℕ → List ℕ) (a b : ℕ) → a ≤ b → (es : List (ℕ × List ℕ)) → AllByRecursion (IsRight p a) es
    → AllByRecursion (IsRight p b) es
right_later p a b l [] h = tt
right_later p a b l (e ∷ es) h = (((let k = h.0.0 in omega arith), h.0.1), right_later p a b l es h.1)

pub items_later : (p : ℕ → List ℕ) (a b : ℕ) → a ≤ b → (items : List Item) → AllByRecursion (IsRightItem p a) items
    → AllByRecursion (IsRightItem p b) items
items_later p a b l [] h = tt
items_later p a b l (numbered count packet ∷ items) h = (((let k = h.0.0 in omega arith), h.0.1), items_later p a b l items h.1)
items_later p a b l (end_marker ∷ items) h = (tt, items_later p a b l items h.1)

-- ---- what is stored, forwarded

pub late_no_end : (es : List (ℕ × List ℕ)) → NoEnd (map (λ e. numbered e.0 e.1) es)
unfolding NoEnd
late_no_end [] = tt
late_no_end (e ∷ es) = late_no_end es

pub no_end-ends_last : (items : List Item) → NoEnd items → EndsLast items
unfolding NoEnd EndsLast
no_end-ends_last [] h = tt
no_end-ends_last (numbered count packet ∷ items) h = no_end-ends_last items h
no_end-ends_last (end_marker ∷ items) h = absurd h

pub at_is : (i k : ℕ) → is_eq (nat_cmp i k) ≡ true → i ≡ k
at_is i k h = by (nat_lt i k) (i == k) refl h
  where
    by : (a b : Bool) → (i == k) ≡ b → is_eq (cond a Less (cond b Equal Greater)) ≡ true → i ≡ k
    by true b e h = absurd cc
    by false true e h = eqb-true i k e
    by false false e h = absurd cc

pub late_stands : (i : ℕ) (es : List (ℕ × List ℕ)) → has es i ≡ true → Stands i (map (λ e. numbered e.0 e.1) es)
unfolding find Stands
late_stands i [] h = absurd cc
late_stands i (e ∷ es) h = by (late_stands i es) (is_eq (nat_cmp i e.0)) refl h
  where
    by : (has es i ≡ true → Stands i (map (λ f. numbered f.0 f.1) es)) → (t : Bool) → is_eq (nat_cmp i e.0) ≡ t
        → is_some (cond t (Some e.1) (find nat_cmp es i)) ≡ true → (i ≡ e.0) ⊎ Stands i (map (λ f. numbered f.0 f.1) es)
    by rest true t h = inl (at_is i e.0 t)
    by rest false t h = inr (rest h)

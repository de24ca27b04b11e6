-- A shelf as a table: its index and its slots change together.
use Rattle.std.proofs.Common.{inl, inr, ◌==◌, eqb-true, ◌≡◌, ◌≢◌, ℕ, Bool, true, false, cond, not, List, [], ◌∷◌, Option, Some, None, refl, sym, ap, ◌∙◌, subst, true≢false}
use Rattle.std.specs.Prelude.{IsSome, IfNone, is_some}
use Rattle.std.specs.declared.cmp.Ordering.{Ordering}
use Rattle.std.specs.declared.cmp.Ordering.TheVariants.{Less, Equal, Greater}
use Rattle.std.specs.Ordering.{match_ordering}
use Rattle.std.specs.List.{filter, AllByRecursion}
use Rattle.std.specs.Map.{lookup}
use Rattle.std.specs.BTreeMap.{is_at, insert_entry}
use Rattle.std.specs.Prelude.{IfSome, unwrap_or}
use Rattle.std.specs.Option.{option_copied_mut, ghost_name_of}
use Rattle.std.specs.Borrow.{MutBor}
use Rattle.std.specs.Ordering.{is_eq}
use Rattle.std.specs.Cmp.{IsTotalOrder}
use Rattle.std.specs.Map.{keys_of}
use Rattle.std.proofs.lemmas.Map.{lookup-none}
use Rattle.std.proofs.lemmas.Map.Entries.{none_below_head}
use Rattle.std.proofs.lemmas.Map.Keys.{sorted_tail}
use Rattle.std.proofs.lemmas.Bool.{eqb-false}
use borrow.Follows.Closed.{read_of}
use Rattle.tables.specs.Tables.{find, put, without, IsSorted}
use Rattle.tables.specs.Shelves.{seen, seen_one, HasOtherSlot, HaveOwnSlots, AreFull, IsShelf}

all_filter : {A : Type 0} (P : A → Type 0) (p : A → Bool) (xs : List A) → AllByRecursion P xs → AllByRecursion P (filter p xs)
all_filter P p [] all = tt
all_filter {A} P p (x ∷ xs) all = by (p x) (all_filter P p xs all.1)
  where
    by : (b : Bool) → AllByRecursion P (filter p xs) → AllByRecursion P (cond b (x ∷ filter p xs) (filter p xs))
    by true rest = (all.0, rest)
    by false rest = rest

module _ {K : Type 0} where
  own_filter : (p : K × ℕ → Bool) (es : List (K × ℕ)) → HaveOwnSlots es → HaveOwnSlots (filter p es)
  own_filter p [] own = tt
  own_filter p (e ∷ es) own = by (p e) (own_filter p es own.1)
    where
      by : (b : Bool) → HaveOwnSlots (filter p es) → HaveOwnSlots (cond b (e ∷ filter p es) (filter p es))
      by true rest = (all_filter (λ x. x.1 ≡ e.1 → ⊥) p es own.0, rest)
      by false rest = rest

module _ {K : Type 0} (R : K → K → Ordering) (k : K) where
  all_insert : (Q : ℕ → Type 0) (es : List (K × ℕ)) (s : ℕ) → AllByRecursion (λ e. Q e.1) es → Q s
      → AllByRecursion (λ e. Q e.1) (insert_entry R es k s)
  all_insert Q [] s all here = (here, tt)
  all_insert Q (e ∷ es) s all here = by (R k e.0) (all_insert Q es s all.1 here)
    where
      by : (r : Ordering) → AllByRecursion (λ e. Q e.1) (insert_entry R es k s)
          → AllByRecursion (λ e. Q e.1) (match_ordering r ((k, s) ∷ e ∷ es) ((e.0, s) ∷ es) (e ∷ insert_entry R es k s))
      by Less rest = (here, all)
      by Equal rest = (here, all.1)
      by Greater rest = (all.0, rest)

  own_insert : (es : List (K × ℕ)) (s : ℕ) → HasOtherSlot s es → HaveOwnSlots es → HaveOwnSlots (insert_entry R es k s)
  own_insert [] s other own = (tt, tt)
  own_insert (e ∷ es) s other own = by (R k e.0) (own_insert es s other.1 own.1)
    where
      by : (r : Ordering) → HaveOwnSlots (insert_entry R es k s)
          → HaveOwnSlots (match_ordering r ((k, s) ∷ e ∷ es) ((e.0, s) ∷ es) (e ∷ insert_entry R es k s))
      by Less rest = (other, own)
      by Equal rest = (other.1, own.1)
      by Greater rest = (all_insert (λ n. n ≡ e.1 → ⊥) es s own.0 (λ same. other.0 (sym same)), rest)

  -- the slot that is found is none of those of a list without it
  not_there : (t : ℕ) (es : List (K × ℕ)) (s : ℕ) → HasOtherSlot t es → lookup (is_at (R k)) es ≡ Some s → s ≡ t → ⊥
  not_there t [] s other found = absurd (true≢false (sym (ap is_some found)))
  not_there t (e ∷ es) s other found = by (is_at (R k) e.0) found (not_there t es s other.1)
    where
      by : (b : Bool) → cond b (Some e.1) (lookup (is_at (R k)) es) ≡ Some s
          → (lookup (is_at (R k)) es ≡ Some s → s ≡ t → ⊥) → s ≡ t → ⊥
      by true at_head again same = let here : e.1 ≡ s = cc in other.0 (here ∙ same)
      by false later again same = again later same

  others_apart : (es : List (K × ℕ)) (s : ℕ) → HaveOwnSlots es → lookup (is_at (R k)) es ≡ Some s
      → HasOtherSlot s (filter (λ e. not (is_at (R k) e.0)) es)
  others_apart [] s own found = tt
  others_apart (e ∷ es) s own found = by (is_at (R k) e.0) found (others_apart es s own.1)
    where
      by : (b : Bool) → cond b (Some e.1) (lookup (is_at (R k)) es) ≡ Some s
          → (lookup (is_at (R k)) es ≡ Some s → HasOtherSlot s (filter (λ f. not (is_at (R k) f.0)) es))
          → HasOtherSlot s (cond (not b) (e ∷ filter (λ f. not (is_at (R k) f.0)) es) (filter (λ f. not (is_at (R k) f.0)) es))
      by true at_head again =
          let here : e.1 ≡ s = cc in
          all_filter (λ x. x.1 ≡ s → ⊥) (λ f. not (is_at (R k) f.0)) es
          (subst (λ (n : ℕ). HasOtherSlot n es) here own.0)
      by false later again = ((λ same. not_there e.1 es s own.0 later (sym same)), again later)

  module _ {V : Type 0} where
    full_found : (f : ℕ → Option V) (es : List (K × ℕ)) (s : ℕ) → AreFull f es → lookup (is_at (R k)) es ≡ Some s → IsSome (f s)
    full_found f [] s full found = absurd (true≢false (sym (ap is_some found)))
    full_found f (e ∷ es) s full found = by (is_at (R k) e.0) found (full_found f es s full.1)
      where
        by : (b : Bool) → cond b (Some e.1) (lookup (is_at (R k)) es) ≡ Some s
            → (lookup (is_at (R k)) es ≡ Some s → IsSome (f s)) → IsSome (f s)
        by true at_head again = let here : e.1 ≡ s = cc in subst (λ (n : ℕ). IsSome (f n)) here full.0
        by false later again = again later

    pub stands_at : (f : ℕ → Option V) (es : List (K × ℕ)) (s : ℕ) → AreFull f es → find R es k ≡ Some s → IsSome (f s)
    unfolding find
    stands_at f es s full found = full_found f es s full found

    -- what stands in the slot that was found
    slot_value : (ℕ → Option V) → Option ℕ → Option V
    slot_value f None = None
    slot_value f (Some s) = f s

    find_one : (f : ℕ → Option V) (e : K × ℕ) (es : List (K × ℕ)) (x : Option V) (b : Bool) → f e.1 ≡ x → IsSome x → is_at (R k) e.0 ≡ b
        → lookup (is_at (R k)) (seen f es) ≡ slot_value f (lookup (is_at (R k)) es)
        → lookup (is_at (R k)) (seen_one e.0 x (seen f es)) ≡ slot_value f (cond b (Some e.1) (lookup (is_at (R k)) es))
    unfolding slot_value
    find_one f e es None b is full at_head again = absurd (true≢false (sym full))
    find_one f e es (Some v) true is full at_head again =
        ap (λ (c : Bool). cond c (Some v) (lookup (is_at (R k)) (seen f es))) at_head ∙ sym is
    find_one f e es (Some v) false is full at_head again =
        ap (λ (c : Bool). cond c (Some v) (lookup (is_at (R k)) (seen f es))) at_head ∙ again

    find_slot : (f : ℕ → Option V) (es : List (K × ℕ)) → AreFull f es
        → lookup (is_at (R k)) (seen f es) ≡ slot_value f (lookup (is_at (R k)) es)
    unfolding slot_value seen
    find_slot f [] full = refl
    find_slot f (e ∷ es) full = find_one f e es (f e.1) (is_at (R k) e.0) refl full.0 refl (find_slot f es full.1)

    pub seen_found : (f : ℕ → Option V) (es : List (K × ℕ)) (s : ℕ) → AreFull f es → find R es k ≡ Some s → f s ≡ find R (seen f es) k
    unfolding slot_value find
    seen_found f es s full found = sym (find_slot f es full ∙ ap (slot_value f) found)

    pub seen_none : (f : ℕ → Option V) (es : List (K × ℕ)) → AreFull f es → find R es k ≡ None
        → ◌≡◌ {A = Option V} None (find R (seen f es) k)
    unfolding slot_value find
    seen_none f es full found = sym (find_slot f es full ∙ ap (slot_value f) found)

    pub has_seen : (f : ℕ → Option V) (es : List (K × ℕ)) → AreFull f es → is_some (find R es k) ≡ is_some (find R (seen f es) k)
    unfolding slot_value find
    has_seen f es full = by (lookup (is_at (R k)) es) refl ∙ sym (ap is_some (find_slot f es full))
      where
        by : (x : Option ℕ) → lookup (is_at (R k)) es ≡ x → is_some x ≡ is_some (slot_value f x)
        by None is = refl
        by (Some s) is = some (f s) (full_found f es s full is)
          where
            some : (y : Option V) → IsSome y → true ≡ is_some y
            some None h = absurd (true≢false (sym h))
            some (Some v) h = refl

    seen-same : (f g : ℕ → Option V) (es : List (K × ℕ)) → AllByRecursion (λ e. g e.1 ≡ f e.1) es → seen g es ≡ seen f es
    unfolding seen
    seen-same f g [] all = refl
    seen-same f g (e ∷ es) all =
        ap (λ (x : Option V). seen_one e.0 x (seen g es)) all.0 ∙ ap (seen_one e.0 (f e.1)) (seen-same f g es all.1)

    without_one : (f : ℕ → Option V) (e : K × ℕ) (es : List (K × ℕ)) (x : Option V) (b : Bool) → f e.1 ≡ x → is_at (R k) e.0 ≡ b
        → seen f (filter (λ y. not (is_at (R k) y.0)) es) ≡ filter (λ y. not (is_at (R k) y.0)) (seen f es)
        → seen f (cond (not b) (e ∷ filter (λ y. not (is_at (R k) y.0)) es) (filter (λ y. not (is_at (R k) y.0)) es))
        ≡ filter (λ y. not (is_at (R k) y.0)) (seen_one e.0 x (seen f es))
    unfolding seen
    without_one f e es None true is at_head again = again
    without_one f e es None false is at_head again =
        ap (λ (y : Option V). seen_one e.0 y (seen f (filter (λ y. not (is_at (R k) y.0)) es))) is ∙ again
    without_one f e es (Some v) true is at_head again = again ∙ rw at_head refl
    without_one f e es (Some v) false is at_head again =
        ap (λ (y : Option V). seen_one e.0 y (seen f (filter (λ y. not (is_at (R k) y.0)) es))) is
        ∙ ap (λ (xs : List (K × V)). (e.0, v) ∷ xs) again ∙ rw at_head refl

    seen-without : (f : ℕ → Option V) (es : List (K × ℕ)) → seen f (without R es k) ≡ without R (seen f es) k
    unfolding seen without
    seen-without f [] = refl
    seen-without f (e ∷ es) = without_one f e es (f e.1) (is_at (R k) e.0) refl refl (seen-without f es)

    put_one : (g : ℕ → Option V) (e : K × ℕ) (es : List (K × ℕ)) (s : ℕ) (v : V) (x : Option V) (r : Ordering)
        → g s ≡ Some v → g e.1 ≡ x → IsSome x → R k e.0 ≡ r
        → seen g (insert_entry R es k s) ≡ insert_entry R (seen g es) k v
        → seen g (match_ordering r ((k, s) ∷ e ∷ es) ((e.0, s) ∷ es) (e ∷ insert_entry R es k s))
        ≡ insert_entry R (seen_one e.0 x (seen g es)) k v
    unfolding seen
    put_one g e es s v None r new is full at_head again = absurd (true≢false (sym full))
    put_one g e es s v (Some y) Less new is full at_head again =
        ap (λ (z : Option V). seen_one k z (seen_one e.0 (g e.1) (seen g es))) new
        ∙ ap (λ (z : Option V). (k, v) ∷ seen_one e.0 z (seen g es)) is ∙ rw at_head refl
    put_one g e es s v (Some y) Equal new is full at_head again =
        ap (λ (z : Option V). seen_one e.0 z (seen g es)) new ∙ rw at_head refl
    put_one g e es s v (Some y) Greater new is full at_head again =
        ap (λ (z : Option V). seen_one e.0 z (seen g (insert_entry R es k s))) is
        ∙ ap (λ (xs : List (K × V)). (e.0, y) ∷ xs) again ∙ rw at_head refl

    seen-put : (g : ℕ → Option V) (es : List (K × ℕ)) (s : ℕ) (v : V) → g s ≡ Some v → AreFull g es
        → seen g (put R es k s) ≡ put R (seen g es) k v
    unfolding seen put
    seen-put g [] s v new full = ap (λ (z : Option V). seen_one k z []) new
    seen-put g (e ∷ es) s v new full =
        put_one g e es s v (g e.1) (R k e.0) new refl full.0 refl (seen-put g es s v new full.1)

    agree : (f g : ℕ → Option V) (s : ℕ) → ((n : ℕ) → n ≢ s → g n ≡ f n) → (es : List (K × ℕ)) → HasOtherSlot s es
        → AllByRecursion (λ e. g e.1 ≡ f e.1) es
    agree f g s others [] apart = tt
    agree f g s others (e ∷ es) apart = (others e.1 apart.0, agree f g s others es apart.1)

    full_moved : (f g : ℕ → Option V) (es : List (K × ℕ)) → AllByRecursion (λ e. g e.1 ≡ f e.1) es → AreFull f es → AreFull g es
    full_moved f g [] same full = tt
    full_moved f g (e ∷ es) same full = (subst IsSome (sym same.0) full.0, full_moved f g es same.1 full.1)

    fresh : (f : ℕ → Option V) (es : List (K × ℕ)) (s : ℕ) → f s ≡ None → AreFull f es → HasOtherSlot s es
    fresh f [] s vacant full = tt
    fresh f (e ∷ es) s vacant full = ((λ same. true≢false (sym (subst IsSome (ap f same ∙ vacant) full.0))), fresh f es s vacant full.1)

    -- ---- a key with a new slot

    pub added : (f g : ℕ → Option V) (es new : List (K × ℕ)) (s : ℕ) (v : V) → IsShelf R f es → IsSorted R new → new ≡ put R es k s
        → f s ≡ None → g s ≡ Some v → ((n : ℕ) → n ≢ s → g n ≡ f n) → IsShelf R g new
    unfolding put
    added f g es new s v shelf sorted is vacant here others =
        let apart : HasOtherSlot s es = fresh f es s vacant shelf.full in
        let full : AreFull g es = full_moved f g es (agree f g s others es apart) shelf.full in
        record {
          sorted = sorted;
          full = subst (AreFull g) (sym is) (all_insert (λ n. IsSome (g n)) es s full (ap is_some here));
          apart = subst HaveOwnSlots (sym is) (own_insert es s apart shelf.apart);
        }

    pub added_seen : (f g : ℕ → Option V) (es new : List (K × ℕ)) (s : ℕ) (v : V) → IsShelf R f es → new ≡ put R es k s
        → f s ≡ None → g s ≡ Some v → ((n : ℕ) → n ≢ s → g n ≡ f n) → seen g new ≡ put R (seen f es) k v
    added_seen f g es new s v shelf is vacant here others =
        let same : AllByRecursion (λ e. g e.1 ≡ f e.1) es = agree f g s others es (fresh f es s vacant shelf.full) in
        ap (seen g) is
        ∙ seen-put g es s v here (full_moved f g es same shelf.full)
        ∙ ap (λ (m : List (K × V)). put R m k v) (seen-same f g es same)

    -- ---- a key whose slot is emptied

    pub taken : (f g : ℕ → Option V) (es new : List (K × ℕ)) (s : ℕ) → IsShelf R f es → IsSorted R new → new ≡ without R es k
        → find R es k ≡ Some s → ((n : ℕ) → n ≢ s → g n ≡ f n) → IsShelf R g new
    unfolding find without
    taken f g es new s shelf sorted is found others =
        let same : AllByRecursion (λ e. g e.1 ≡ f e.1) (without R es k) = agree f g s others (without R es k) (others_apart es s shelf.apart found) in
        record {
          sorted = sorted;
          full = subst (AreFull g) (sym is) (full_moved f g (without R es k) same (all_filter (λ e. IsSome (f e.1)) (λ e. not (is_at (R k) e.0)) es shelf.full));
          apart = subst HaveOwnSlots (sym is) (own_filter (λ e. not (is_at (R k) e.0)) es shelf.apart);
        }

    pub taken_seen : (f g : ℕ → Option V) (es new : List (K × ℕ)) (s : ℕ) → IsShelf R f es → new ≡ without R es k
        → find R es k ≡ Some s → ((n : ℕ) → n ≢ s → g n ≡ f n) → seen g new ≡ without R (seen f es) k
    unfolding find without
    taken_seen f g es new s shelf is found others =
        ap (seen g) is
        ∙ seen-same f g (without R es k) (agree f g s others (without R es k) (others_apart es s shelf.apart found))
        ∙ seen-without f es

    -- a value that stands in a slot of the index is there
    pub never_none : (f : ℕ → Option V) (es : List (K × ℕ)) (s : ℕ) (r : Option V) (Q : Type 0) → AreFull f es → find R es k ≡ Some s
        → r ≡ f s → IfNone r Q
    unfolding find
    never_none f es s None Q full found is = absurd (true≢false (sym (subst IsSome (sym is) (full_found f es s full found))))
    never_none f es s (Some v) Q full found is = tt

    pub unseen : (f : ℕ → Option V) (es new : List (K × ℕ)) → new ≡ without R es k → seen f new ≡ without R (seen f es) k
    unseen f es new is = ap (seen f) is ∙ seen-without f es

    -- ---- a key whose value is replaced

    kept_full : (f g : ℕ → Option V) (s : ℕ) → IsSome (g s) → ((n : ℕ) → n ≢ s → g n ≡ f n) → (es : List (K × ℕ)) → AreFull f es
        → AreFull g es
    kept_full f g s here others [] full = tt
    kept_full f g s here others (e ∷ es) full = (by (e.1 == s) refl, kept_full f g s here others es full.1)
      where
        by : (b : Bool) → (e.1 == s) ≡ b → IsSome (g e.1)
        by true same = subst (λ (n : ℕ). IsSome (g n)) (sym (eqb-true e.1 s same)) here
        by false other = subst IsSome (sym (others e.1 (eqb-false e.1 s other))) full.0

    pub rewritten : (f g : ℕ → Option V) (es : List (K × ℕ)) (s : ℕ) → IsShelf R f es → IsSome (g s) → ((n : ℕ) → n ≢ s → g n ≡ f n)
        → IsShelf R g es
    rewritten f g es s shelf here others = record { sorted = shelf.sorted; full = kept_full f g s here others es shelf.full; apart = shelf.apart }

    module _ (o : IsTotalOrder R) where
      replace_one : (f g : ℕ → Option V) (e : K × ℕ) (es : List (K × ℕ)) (s : ℕ) (w : V) (x : Option V) (r : Ordering)
          → f e.1 ≡ x → IsSome x → R k e.0 ≡ r → IsSorted R (e ∷ es) → HasOtherSlot e.1 es
          → lookup (is_at (R k)) (e ∷ es) ≡ Some s → g s ≡ Some w → ((n : ℕ) → n ≢ s → g n ≡ f n)
          → (lookup (is_at (R k)) es ≡ Some s → seen g es ≡ insert_entry R (seen f es) k w)
          → seen_one e.0 (g e.1) (seen g es) ≡ insert_entry R (seen_one e.0 x (seen f es)) k w
      replace_one f g e es s w None r is full at_head sorted apart found here others again = absurd (true≢false (sym full))
      replace_one f g e es s w (Some y) Less is full at_head sorted apart found here others again =
          absurd (true≢false (sym (ap is_some (sym (lookup-none (is_at (R k)) (e ∷ es) (none_below_head o k e es sorted at_head)) ∙ found))))
      replace_one f g e es s w (Some y) Equal is full at_head sorted apart found here others again =
          let slot : e.1 ≡ s =
          ap (λ (x : Option ℕ). unwrap_or x s)
          (ap (λ (r : Ordering). cond (is_eq r) (Some e.1) (lookup (is_at (R k)) es)) (sym at_head) ∙ found) in
          let rest : seen g es ≡ seen f es = seen-same f g es (agree f g s others es (subst (λ (n : ℕ). HasOtherSlot n es) slot apart)) in
          ap (λ (z : Option V). seen_one e.0 z (seen g es)) (ap g slot ∙ here)
          ∙ ap (λ (m : List (K × V)). (e.0, w) ∷ m) rest ∙ rw at_head refl
      replace_one f g e es s w (Some y) Greater is full at_head sorted apart found here others again =
          let later : lookup (is_at (R k)) es ≡ Some s =
          ap (λ (r : Ordering). cond (is_eq r) (Some e.1) (lookup (is_at (R k)) es)) (sym at_head) ∙ found in
          ap (λ (z : Option V). seen_one e.0 z (seen g es)) (others e.1 (λ same. not_there e.1 es s apart later (sym same)) ∙ is)
          ∙ ap (λ (m : List (K × V)). (e.0, y) ∷ m) (again later) ∙ rw at_head refl

      replace_all : (f g : ℕ → Option V) (es : List (K × ℕ)) (s : ℕ) (w : V) → IsSorted R es → AreFull f es → HaveOwnSlots es
          → lookup (is_at (R k)) es ≡ Some s → g s ≡ Some w → ((n : ℕ) → n ≢ s → g n ≡ f n)
          → seen g es ≡ insert_entry R (seen f es) k w
      unfolding seen
      replace_all f g [] s w sorted full apart found here others = absurd (true≢false (sym (ap is_some found)))
      replace_all f g (e ∷ es) s w sorted full apart found here others =
          replace_one f g e es s w (f e.1) (R k e.0) refl full.0 refl sorted apart.0 found here others
          (λ later. replace_all f g es s w (sorted_tail R e.0 (keys_of es) sorted) full.1 apart.1 later here others)

      pub replaced : (f g : ℕ → Option V) (es : List (K × ℕ)) (s : ℕ) (w : V) → IsShelf R f es → find R es k ≡ Some s → g s ≡ Some w
          → ((n : ℕ) → n ≢ s → g n ≡ f n) → seen g es ≡ put R (seen f es) k w
      unfolding find put
      replaced f g es s w shelf found here others = replace_all f g es s w shelf.sorted shelf.full shelf.apart found here others

      -- what a loan of the value in a slot leaves: G w is the slots after w was written
      pub shelf_lent : (f : ℕ → Option V) (G : V → ℕ → Option V) (es : List (K × ℕ)) (s : ℕ) (r : Option (MutBor V)) (m : List (K × V))
          → IsShelf R f es → find R es k ≡ Some s → ((w : V) → G w s ≡ Some w) → ((w : V) (n : ℕ) → n ≢ s → G w n ≡ f n) → seen f es ≡ m
          → read_of (ghost_name_of r) (λ w. seen (G w) es) (seen f es) ≡ read_of (ghost_name_of r) (put R m k) m
      shelf_lent f G es s None m shelf found here others is = ap inr is
      shelf_lent f G es s (Some x) m shelf found here others is =
          ap (λ (H : V → List (K × V)). inl (x.ghost_name, H))
          (λ i w. (replaced f (G w) es s w shelf found (here w) (others w) ∙ ap (λ (t : List (K × V)). put R t k w) is) i)

      -- to put back what is there changes nothing
      pub shelf_same : (f : ℕ → Option V) (es : List (K × ℕ)) (s : ℕ) (r : Option (MutBor V)) (m : List (K × V))
          → IsShelf R f es → find R es k ≡ Some s → option_copied_mut r ≡ f s → seen f es ≡ m → IfSome r (λ x. put R m k x.now ≡ m)
      shelf_same f es s None m shelf found value is = tt
      shelf_same f es s (Some x) m shelf found value is =
          ap (λ (t : List (K × V)). put R t k x.now) (sym is)
          ∙ sym (replaced f f es s x.now shelf found (sym value) (λ n other. refl)) ∙ is

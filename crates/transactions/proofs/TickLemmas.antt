-- To age each open request in turn is to age them all.
use Rattle.std.proofs.Common.{◌≡◌, ℕ, suc, ◌+◌, ◌<◌, ◌≤◌, get_or, drop, Bool, true, false, cond, not, List, [], ◌∷◌, length, Option, Some, None, refl, sym, ap, ◌∙◌, true≢false, arith}
use Rattle.std.specs.Prelude.{map, is_some}
use Rattle.std.specs.declared.cmp.Ordering.{Ordering}
use Rattle.std.specs.declared.cmp.Ordering.TheVariants.{Less, Equal, Greater}
use Rattle.std.specs.Ordering.{ordering_reverse, is_eq, match_ordering}
use Rattle.std.specs.Cmp.{IsTotalOrder, tied_itself}
use Rattle.std.specs.List.{filter, AllByRecursion}
use Rattle.std.specs.Map.{lookup, keys_of}
use Rattle.std.specs.BTreeMap.{is_at, insert_entry}
use Rattle.std.proofs.lemmas.Map.Keys.{sorted_head, sorted_tail}
use Rattle.std.proofs.Math.Seq.{drop-cons}
use Rattle.std.proofs.lemmas.List.{drop_all}
use Rattle.tables.specs.Tables.{find, put, without, IsSorted}
use Rattle.transaction_defs.specs.Callers.{Opened, is_last, one_less}
use Rattle.transactions.specs.inside.Ticks.{aged_in, aged_at, aged_all}

module _ {K : Type 0} {R : K → K → Ordering} (o : IsTotalOrder R) where
  module _ {X : Type 0} where
    without-absent : (es : List (K × X)) (k : K) → lookup (is_at (R k)) es ≡ None → filter (λ e. not (is_at (R k) e.0)) es ≡ es
    without-absent [] k none = refl
    without-absent (e ∷ es) k none = by (is_at (R k) e.0) none (without-absent es k)
      where
        by : (b : Bool) → cond b (Some e.1) (lookup (is_at (R k)) es) ≡ None
            → (lookup (is_at (R k)) es ≡ None → filter (λ e. not (is_at (R k) e.0)) es ≡ es)
            → cond (not b) (e ∷ filter (λ e. not (is_at (R k) e.0)) es) (filter (λ e. not (is_at (R k) e.0)) es) ≡ e ∷ es
        by true none again = absurd (true≢false (ap is_some none))
        by false none again = ap (λ (xs : List (K × X)). e ∷ xs) (again none)

    -- what was put at a new key is taken out again
    pub without-put : (m : List (K × X)) (k : K) (v : X) → find R m k ≡ None → without R (put R m k v) k ≡ m
    unfolding find put without
    without-put [] k v none = rw (tied_itself o k) refl
    without-put (e ∷ es) k v none = by (R k e.0) refl none (without-put es k v)
      where
        by : (r : Ordering) → R k e.0 ≡ r → cond (is_eq r) (Some e.1) (lookup (is_at (R k)) es) ≡ None
            → (lookup (is_at (R k)) es ≡ None → filter (λ e. not (is_at (R k) e.0)) (insert_entry R es k v) ≡ es)
            → filter (λ e. not (is_at (R k) e.0)) (match_ordering r ((k, v) ∷ e ∷ es) ((e.0, v) ∷ es) (e ∷ insert_entry R es k v)) ≡ e ∷ es
        by Less is none again =
            rw (tied_itself o k, is) (ap (λ (xs : List (K × X)). e ∷ xs) (without-absent es k none))
        by Equal is none again = absurd (true≢false (ap is_some none))
        by Greater is none again = rw is (ap (λ (xs : List (K × X)). e ∷ xs) (again none))

    none_at_head : (k : K) (es : List (K × X)) → AllByRecursion (λ y. R k y ≡ Less) (keys_of es)
        → filter (λ e. not (is_at (R k) e.0)) es ≡ es
    none_at_head k [] all = refl
    none_at_head k (e ∷ es) all = rw (all.0) (ap (λ (xs : List (K × X)). e ∷ xs) (none_at_head k es all.1))

  module _ {M : Type 0} where
    frame_in : (e : K × Opened M) (m : List (K × Opened M)) (c : K) (x : Option (Opened M)) → R c e.0 ≡ Greater
        → aged_in R (e ∷ m) c x ≡ e ∷ aged_in R m c x
    unfolding put without
    frame_in e m c None above = refl
    frame_in e m c (Some opened) above = by (is_last opened.deadline)
      where
        new : Opened M
        new = record opened { deadline = one_less opened.deadline }

        by : (b : Bool) → cond b (without R (e ∷ m) c) (put R (e ∷ m) c new) ≡ e ∷ cond b (without R m c) (put R m c new)
        by true = rw above refl
        by false = rw above refl

    -- an entry of a lower key stays
    frame : (e : K × Opened M) (m : List (K × Opened M)) (c : K) → R c e.0 ≡ Greater → aged_at R (e ∷ m) c ≡ e ∷ aged_at R m c
    unfolding aged_at find
    frame e m c above =
        ap (λ (r : Ordering). aged_in R (e ∷ m) c (cond (is_eq r) (Some e.1) (lookup (is_at (R c)) m))) above
        ∙ frame_in e m c (lookup (is_at (R c)) m) above

    frame_all : (e : K × Opened M) (cs : List K) (m : List (K × Opened M)) → AllByRecursion (λ c. R e.0 c ≡ Less) cs
        → aged_all R cs (e ∷ m) ≡ e ∷ aged_all R cs m
    unfolding aged_all
    frame_all e [] m all = refl
    frame_all e (c ∷ cs) m all =
        ap (aged_all R cs) (frame e m c (o.antisymm c e.0 ∙ ap ordering_reverse all.0))
        ∙ frame_all e cs (aged_at R m c) all.1

    -- ---- a turn of the loop, and its end

    pub aged_next : (cs : List K) (i : ℕ) (d : K) (m n : List (K × Opened M)) → i < length cs → n ≡ aged_at R m (get_or cs i d)
        → aged_all R (drop (i + 1) cs) n ≡ aged_all R (drop i cs) m
    unfolding aged_all
    aged_next cs i d m n within is =
        ap (aged_all R (drop (i + 1) cs)) is
        ∙ ap (λ (j : ℕ). aged_all R (get_or cs i d ∷ drop j cs) m) next
        ∙ sym (ap (λ (ds : List K). aged_all R ds m) (drop-cons cs i d within))
      where
        next : i + 1 ≡ suc i
        next = omega arith

    pub aged_end : (cs : List K) (i : ℕ) (m : List (K × Opened M)) → length cs ≤ i → aged_all R (drop i cs) m ≡ m
    unfolding aged_all
    aged_end cs i m past = ap (λ (ds : List K). aged_all R ds m) (drop_all i cs past)

    -- ---- all entries

    abbrev stays : K × Opened M → Bool
    stays e = not (is_last e.1.deadline)

    abbrev aged : K × Opened M → K × Opened M
    aged e = (e.0, record e.1 { deadline = one_less e.1.deadline })

    -- the entry of the least key
    at_head : (e : K × Opened M) (es : List (K × Opened M)) → AllByRecursion (λ y. R e.0 y ≡ Less) (keys_of es)
        → aged_at R (e ∷ es) e.0 ≡ cond (is_last e.1.deadline) es (aged e ∷ es)
    unfolding aged_at find put without
    at_head e es all =
        ap (λ (r : Ordering). aged_in R (e ∷ es) e.0 (cond (is_eq r) (Some e.1) (lookup (is_at (R e.0)) es))) (tied_itself o e.0)
        ∙ by (is_last e.1.deadline)
      where
        new : Opened M
        new = record e.1 { deadline = one_less e.1.deadline }

        by : (b : Bool) → cond b (without R (e ∷ es) e.0) (put R (e ∷ es) e.0 new) ≡ cond b es ((e.0, new) ∷ es)
        by true = rw (tied_itself o e.0) (none_at_head e.0 es all)
        by false = rw (tied_itself o e.0) refl

    pub all_aged : (m : List (K × Opened M)) → IsSorted R m → aged_all R (keys_of m) m ≡ map aged (filter stays m)
    unfolding aged_all
    all_aged [] sorted = refl
    all_aged (e ∷ es) sorted =
        ap (aged_all R (keys_of es)) (at_head e es below)
        ∙ by (is_last e.1.deadline) (all_aged es (sorted_tail R e.0 (keys_of es) sorted))
      where
        below : AllByRecursion (λ y. R e.0 y ≡ Less) (keys_of es)
        below = sorted_head R e.0 (keys_of es) sorted

        by : (b : Bool) → aged_all R (keys_of es) es ≡ map aged (filter stays es)
            → aged_all R (keys_of es) (cond b es (aged e ∷ es)) ≡ map aged (cond (not b) (e ∷ filter stays es) (filter stays es))
        by true rest = rest
        by false rest = frame_all (aged e) (keys_of es) es below ∙ ap (λ (xs : List (K × Opened M)). aged e ∷ xs) rest

    -- no more are open than before
    pub no_more : (m : List (K × Opened M)) → length (map aged (filter stays m)) ≤ length m
    no_more [] = omega arith
    no_more (e ∷ es) = by (is_last e.1.deadline) (no_more es)
      where
        by : (b : Bool) → length (map aged (filter stays es)) ≤ length es
            → length (map aged (cond (not b) (e ∷ filter stays es) (filter stays es))) ≤ length (e ∷ es)
        by true fewer = omega arith
        by false fewer = omega arith

-- What the calls of a `BTreeMap` say, in the words of tables.
use Rattle.std.proofs.Common.{◌≡◌, Bool, true, false, cond, not, ◌&&◌, List, [], ◌∷◌, Option, Some, None, refl, sym, ap, ◌∙◌, true≢false, inl, inr}
use Rattle.std.specs.Prelude.{IfSome, is_some}
use Rattle.std.specs.Option.{option_map, option_copied_mut, ghost_name_of}
use borrow.Follows.Closed.{read_of}
use Rattle.std.specs.Borrow.{Bor, MutBor}
use Rattle.std.specs.declared.cmp.Ordering.{Ordering}
use Rattle.std.specs.declared.cmp.Ordering.TheVariants.{Less, Equal, Greater}
use Rattle.std.specs.Ordering.{is_eq, is_lt}
use Rattle.std.specs.Cmp.{IsTotalOrder, eq_by_cmp_equiv}
use Rattle.std.specs.List.{filter}
use Rattle.std.specs.Map.{lookup, set_value, remove_entry, keys_of}
use Rattle.std.specs.Map.Iter.{TakesFirst, deref_pair}
use Rattle.std.specs.BTreeMap.{is_at, insert_entry}
use Rattle.std.proofs.lemmas.Map.{NonePasses, lookup-none}
use Rattle.std.proofs.lemmas.Map.Entries.{none_below_head, none_past_head}
use Rattle.std.proofs.lemmas.Map.Keys.{sorted_tail, IsDistinct-from_sorted}
use Rattle.tables.specs.Tables.{find, put, without, entry_after, first_entry, IsSorted}

none_is_some : {X : Type 0} {v : X} → None ≡ Some v → ⊥
none_is_some e = true≢false (sym (ap is_some e))

module _ {K X : Type 0} where
  -- a filter that leaves out what no entry is
  keeps_all : (test : K → Bool) (es : List (K × X)) → NonePasses test es → filter (λ e. not (test e.0)) es ≡ es
  keeps_all test [] none = refl
  keeps_all test (e ∷ es) none =
      ap (λ (b : Bool). cond (not b) (e ∷ filter (λ f. not (test f.0)) es) (filter (λ f. not (test f.0)) es)) none.0
      ∙ ap (λ (fs : List (K × X)). e ∷ fs) (keeps_all test es none.1)

  module _ {R : K → K → Ordering} (o : IsTotalOrder R) (k : K) where
    removed_one : (b : Bool) (e : K × X) (es : List (K × X)) → is_at (R k) e.0 ≡ b → IsSorted R (e ∷ es)
        → remove_entry (is_at (R k)) es ≡ filter (λ f. not (is_at (R k) f.0)) es
        → cond b es (e ∷ remove_entry (is_at (R k)) es) ≡ cond (not b) (e ∷ filter (λ f. not (is_at (R k) f.0)) es) (filter (λ f. not (is_at (R k) f.0)) es)
    removed_one true e es at_head sorted rest =
        sym (keeps_all (is_at (R k)) es
        (none_past_head (eq_by_cmp_equiv o) k e es (IsDistinct-from_sorted R (keys_of (e ∷ es)) sorted) at_head))
    removed_one false e es at_head sorted rest = ap (λ (fs : List (K × X)). e ∷ fs) rest

    -- to take the first entry of a key out is to take all out, where the keys are in order
    pub removed : (es : List (K × X)) → IsSorted R es → remove_entry (is_at (R k)) es ≡ without R es k
    unfolding without
    removed [] sorted = refl
    removed (e ∷ es) sorted = removed_one (is_at (R k) e.0) e es refl sorted (removed es (sorted_tail R e.0 (keys_of es) sorted))

    set_one : (r : Ordering) (e : K × X) (es : List (K × X)) (v w : X) → R k e.0 ≡ r → IsSorted R (e ∷ es)
        → lookup (is_at (R k)) (e ∷ es) ≡ Some v
        → (lookup (is_at (R k)) es ≡ Some v → set_value (is_at (R k)) es w ≡ insert_entry R es k w)
        → set_value (is_at (R k)) (e ∷ es) w ≡ insert_entry R (e ∷ es) k w
    set_one Less e es v w is sorted found again =
        absurd (none_is_some (sym (lookup-none (is_at (R k)) (e ∷ es) (none_below_head o k e es sorted is)) ∙ found))
    set_one Equal e es v w is sorted found again = rw is refl
    set_one Greater e es v w is sorted found again =
        let later : lookup (is_at (R k)) es ≡ Some v =
        sym (ap (λ (r : Ordering). cond (is_eq r) (Some e.1) (lookup (is_at (R k)) es)) is) ∙ found in
        rw is (ap (λ (fs : List (K × X)). e ∷ fs) (again later))

    -- where the key has a value, to set it is to put
    pub set_is_put : (es : List (K × X)) (v w : X) → IsSorted R es → lookup (is_at (R k)) es ≡ Some v
        → set_value (is_at (R k)) es w ≡ insert_entry R es k w
    set_is_put [] v w sorted found = absurd (none_is_some found)
    set_is_put (e ∷ es) v w sorted found =
        set_one (R k e.0) e es v w refl sorted found (set_is_put es v w (sorted_tail R e.0 (keys_of es) sorted))

    set_same_one : (b : Bool) (e : K × X) (es : List (K × X)) (v : X)
        → cond b (Some e.1) (lookup (is_at (R k)) es) ≡ Some v
        → (lookup (is_at (R k)) es ≡ Some v → set_value (is_at (R k)) es v ≡ es)
        → cond b ((e.0, v) ∷ es) (e ∷ set_value (is_at (R k)) es v) ≡ e ∷ es
    set_same_one true e es v found again = let same : v ≡ e.1 = cc in ap (λ (x : X). (e.0, x) ∷ es) same
    set_same_one false e es v found again = ap (λ (fs : List (K × X)). e ∷ fs) (again found)

    set_same : (es : List (K × X)) (v : X) → lookup (is_at (R k)) es ≡ Some v → set_value (is_at (R k)) es v ≡ es
    set_same [] v found = absurd (none_is_some found)
    set_same (e ∷ es) v found = set_same_one (is_at (R k) e.0) e es v found (set_same es v)

    -- to put back what is there changes nothing
    pub put-same : (es : List (K × X)) (v : X) → IsSorted R es → find R es k ≡ Some v → put R es k v ≡ es
    unfolding find put
    put-same es v sorted found = sym (set_is_put es v v sorted found) ∙ set_same es v found

    pub puts_same : (es : List (K × X)) (r : Option (MutBor X)) → IsSorted R es → option_copied_mut r ≡ lookup (is_at (R k)) es
        → IfSome r (λ x. put R es k x.now ≡ es)
    unfolding find put
    puts_same es None sorted value = tt
    puts_same es (Some x) sorted value = put-same es x.now sorted (sym value)

    -- what a loan of the value at the key leaves
    pub reads_put : (es : List (K × X)) (r : Option (MutBor X)) (F : X → List (K × X)) (v : List (K × X)) → IsSorted R es
        → option_copied_mut r ≡ lookup (is_at (R k)) es → ((w : X) → F w ≡ set_value (is_at (R k)) es w) → v ≡ es
        → read_of (ghost_name_of r) F v ≡ read_of (ghost_name_of r) (put R es k) es
    unfolding put
    reads_put es None F v sorted value each none = ap inr none
    reads_put es (Some x) F v sorted value each none =
        ap (λ (G : X → List (K × X)). inl (x.ghost_name, G)) (λ i w. (each w ∙ set_is_put es x.now w sorted (sym value)) i)

    after_one : (b : Bool) (e : K × X) (es : List (K × X)) → first_entry (filter (λ f. is_lt (R k f.0) && true) es) ≡ entry_after R es k
        → first_entry (cond (b && true) (e ∷ filter (λ f. is_lt (R k f.0) && true) es) (filter (λ f. is_lt (R k f.0) && true) es))
        ≡ cond b (Some e) (entry_after R es k)
    unfolding entry_after first_entry
    after_one true e es rest = refl
    after_one false e es rest = rest

    first_above : (es : List (K × X)) → first_entry (filter (λ f. is_lt (R k f.0) && true) es) ≡ entry_after R es k
    unfolding entry_after first_entry
    first_above [] = refl
    first_above (e ∷ es) = after_one (is_lt (R k e.0)) e es (first_above es)

  -- what `next` gives is the first entry of what was left
  pub next_is_first : (left rest : List (K × X)) (r : Option (Bor K × Bor X)) → TakesFirst deref_pair left r rest
      → option_map (λ e. (e.0.now, e.1.now)) r ≡ first_entry left
  unfolding first_entry
  next_is_first left rest None steps = ap first_entry (sym steps.0)
  next_is_first left rest (Some x) steps = ap first_entry (sym steps)

  pub next_is_after : {R : K → K → Ordering} (o : IsTotalOrder R) (k : K) (es left rest : List (K × X)) (r : Option (Bor K × Bor X))
      → left ≡ filter (λ f. is_lt (R k f.0) && true) es → TakesFirst deref_pair left r rest
      → option_map (λ e. (e.0.now, e.1.now)) r ≡ entry_after R es k
  next_is_after o k es left rest r is steps = next_is_first left rest r steps ∙ ap first_entry is ∙ first_above o k es

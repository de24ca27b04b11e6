-- A list of epochs, as the table of those terminals that are connected.
use Rattle.std.proofs.Common.{◌≡◌, ◌<◌, ◌≤◌, ℕ, zero, suc, ◌+◌, ◌-◌, ◌==◌, Bool, true, false, cond, not, List, [], ◌∷◌, length, get_or, replicate, Option, Some, None, refl, sym, ap, ◌∙◌, subst, arith}
use Rattle.std.proofs.Math.ListN.{set}
use Rattle.std.proofs.lemmas.Option.{slice_get-get_or}
use Rattle.std.specs.declared.cmp.Ordering.{Ordering}
use Rattle.std.specs.declared.cmp.Ordering.TheVariants.{Less, Equal, Greater}
use Rattle.std.specs.Ordering.{nat_cmp, match_ordering, is_eq}
use Rattle.std.specs.Cmp.{nat_cmp_is}
use Rattle.std.specs.List.{filter}
use Rattle.std.specs.Map.{lookup}
use Rattle.std.specs.BTreeMap.{is_at, insert_entry}
use Rattle.gnb_types.specs.declared.names.UeId.{UeId}
use Rattle.gnb_types.specs.Orders.{ue_cmp}
use Rattle.tables.specs.Tables.{find, put, without}
use Rattle.transport_defs.specs.Links.{connect}
use Rattle.links.specs.inside.Epochs.{ue_at, entry_before, entries}

is_less : (u n : ℕ) → u < n → ue_cmp (ue_at u) (ue_at n) ≡ Less
is_less u n h = sym (nat_cmp_is u n Less h)

is_equal : (u n : ℕ) → u ≡ n → ue_cmp (ue_at u) (ue_at n) ≡ Equal
is_equal u n h = sym (nat_cmp_is u n Equal h)

is_greater : (u n : ℕ) → n < u → ue_cmp (ue_at u) (ue_at n) ≡ Greater
is_greater u n h = sym (nat_cmp_is u n Greater h)

-- ---- the epoch of a terminal

none_below : (os : List (Option ℕ)) (n u : ℕ) → u < n → find ue_cmp (entries n os) (ue_at u) ≡ None
unfolding find entries
none_below [] n u h = refl
none_below (o ∷ os) n u h = by o (none_below os (n + 1) u (omega arith))
  where
    by : (o : Option ℕ) → lookup (is_at (ue_cmp (ue_at u))) (entries (n + 1) os) ≡ None
        → lookup (is_at (ue_cmp (ue_at u))) (entry_before n o (entries (n + 1) os)) ≡ None
    by None rest = rest
    by (Some e) rest =
        ap (λ (r : Ordering). cond (is_eq r) (Some e) (lookup (is_at (ue_cmp (ue_at u))) (entries (n + 1) os))) (is_less u n h) ∙ rest

found_at : (os : List (Option ℕ)) (n i u : ℕ) → u ≡ n + i → find ue_cmp (entries n os) (ue_at u) ≡ get_or os i None
unfolding find entries
found_at [] n i u is = refl
found_at (o ∷ os) n zero u is = by o
  where
    by : (o : Option ℕ) → lookup (is_at (ue_cmp (ue_at u))) (entry_before n o (entries (n + 1) os)) ≡ o
    by None = none_below os (n + 1) u (omega arith)
    by (Some e) =
        ap (λ (r : Ordering). cond (is_eq r) (Some e) (lookup (is_at (ue_cmp (ue_at u))) (entries (n + 1) os))) (is_equal u n (omega arith))
found_at (o ∷ os) n (suc i) u is = by o (found_at os (n + 1) i u (omega arith))
  where
    by : (o : Option ℕ) → lookup (is_at (ue_cmp (ue_at u))) (entries (n + 1) os) ≡ get_or os i None
        → lookup (is_at (ue_cmp (ue_at u))) (entry_before n o (entries (n + 1) os)) ≡ get_or os i None
    by None rest = rest
    by (Some e) rest =
        ap (λ (r : Ordering). cond (is_eq r) (Some e) (lookup (is_at (ue_cmp (ue_at u))) (entries (n + 1) os))) (is_greater u n (omega arith)) ∙ rest

-- ---- a terminal is connected

put_below : (os : List (Option ℕ)) (n u e : ℕ) → u < n → put ue_cmp (entries n os) (ue_at u) e ≡ (ue_at u, e) ∷ entries n os
unfolding put entries
put_below [] n u e h = refl
put_below (o ∷ os) n u e h = by o (put_below os (n + 1) u e (omega arith))
  where
    by : (o : Option ℕ) → insert_entry ue_cmp (entries (n + 1) os) (ue_at u) e ≡ (ue_at u, e) ∷ entries (n + 1) os
        → insert_entry ue_cmp (entry_before n o (entries (n + 1) os)) (ue_at u) e ≡ (ue_at u, e) ∷ entry_before n o (entries (n + 1) os)
    by None rest = rest
    by (Some d) rest =
        ap (λ (r : Ordering). match_ordering r ((ue_at u, e) ∷ (ue_at n, d) ∷ entries (n + 1) os) ((ue_at n, e) ∷ entries (n + 1) os)
        ((ue_at n, d) ∷ insert_entry ue_cmp (entries (n + 1) os) (ue_at u) e)) (is_less u n h)

put_at : (os : List (Option ℕ)) (n i u e : ℕ) → u ≡ n + i → i < length os → put ue_cmp (entries n os) (ue_at u) e ≡ entries n (set os i (Some e))
unfolding put entries
put_at [] n i u e is h = absurd (omega arith)
put_at (o ∷ os) n zero u e is h = by o
  where
    same : u ≡ n
    same = omega arith

    by : (o : Option ℕ) → insert_entry ue_cmp (entry_before n o (entries (n + 1) os)) (ue_at u) e ≡ (ue_at n, e) ∷ entries (n + 1) os
    by None = put_below os (n + 1) u e (omega arith) ∙ ap (λ (k : ℕ). (ue_at k, e) ∷ entries (n + 1) os) same
    by (Some d) =
        ap (λ (r : Ordering). match_ordering r ((ue_at u, e) ∷ (ue_at n, d) ∷ entries (n + 1) os) ((ue_at n, e) ∷ entries (n + 1) os)
        ((ue_at n, d) ∷ insert_entry ue_cmp (entries (n + 1) os) (ue_at u) e)) (is_equal u n same)
put_at (o ∷ os) n (suc i) u e is h = by o (put_at os (n + 1) i u e (omega arith) (omega arith))
  where
    by : (o : Option ℕ) → insert_entry ue_cmp (entries (n + 1) os) (ue_at u) e ≡ entries (n + 1) (set os i (Some e))
        → insert_entry ue_cmp (entry_before n o (entries (n + 1) os)) (ue_at u) e ≡ entry_before n o (entries (n + 1) (set os i (Some e)))
    by None rest = rest
    by (Some d) rest =
        ap (λ (r : Ordering). match_ordering r ((ue_at u, e) ∷ (ue_at n, d) ∷ entries (n + 1) os) ((ue_at n, e) ∷ entries (n + 1) os)
        ((ue_at n, d) ∷ insert_entry ue_cmp (entries (n + 1) os) (ue_at u) e)) (is_greater u n (omega arith))
        ∙ ap (λ (m : List (UeId × ℕ)). (ue_at n, d) ∷ m) rest

-- ---- a terminal is connected no more

abbrev others : ℕ → List (UeId × ℕ) → List (UeId × ℕ)
others u m = filter (λ e. not (is_at (ue_cmp (ue_at u)) e.0)) m

kept_entry : (u n d : ℕ) (m : List (UeId × ℕ)) (r : Ordering) → ue_cmp (ue_at u) (ue_at n) ≡ r
    → others u ((ue_at n, d) ∷ m) ≡ cond (not (is_eq r)) ((ue_at n, d) ∷ others u m) (others u m)
kept_entry u n d m r is = ap (λ (r : Ordering). cond (not (is_eq r)) ((ue_at n, d) ∷ others u m) (others u m)) is

without_below : (os : List (Option ℕ)) (n u : ℕ) → u < n → without ue_cmp (entries n os) (ue_at u) ≡ entries n os
unfolding without entries
without_below [] n u h = refl
without_below (o ∷ os) n u h = by o (without_below os (n + 1) u (omega arith))
  where
    by : (o : Option ℕ) → others u (entries (n + 1) os) ≡ entries (n + 1) os
        → others u (entry_before n o (entries (n + 1) os)) ≡ entry_before n o (entries (n + 1) os)
    by None rest = rest
    by (Some d) rest =
        kept_entry u n d (entries (n + 1) os) Less (is_less u n h) ∙ ap (λ (m : List (UeId × ℕ)). (ue_at n, d) ∷ m) rest

without_at : (os : List (Option ℕ)) (n i u : ℕ) → u ≡ n + i → i < length os → without ue_cmp (entries n os) (ue_at u) ≡ entries n (set os i None)
unfolding without entries
without_at [] n i u is h = absurd (omega arith)
without_at (o ∷ os) n zero u is h = by o (without_below os (n + 1) u (omega arith))
  where
    by : (o : Option ℕ) → others u (entries (n + 1) os) ≡ entries (n + 1) os → others u (entry_before n o (entries (n + 1) os)) ≡ entries (n + 1) os
    by None rest = rest
    by (Some d) rest = kept_entry u n d (entries (n + 1) os) Equal (is_equal u n (omega arith)) ∙ rest
without_at (o ∷ os) n (suc i) u is h = by o (without_at os (n + 1) i u (omega arith) (omega arith))
  where
    by : (o : Option ℕ) → others u (entries (n + 1) os) ≡ entries (n + 1) (set os i None)
        → others u (entry_before n o (entries (n + 1) os)) ≡ entry_before n o (entries (n + 1) (set os i None))
    by None rest = rest
    by (Some d) rest =
        kept_entry u n d (entries (n + 1) os) Greater (is_greater u n (omega arith)) ∙ ap (λ (m : List (UeId × ℕ)). (ue_at n, d) ∷ m) rest

-- ---- for the calls

pub connected_entries : (os : List (Option ℕ)) (ue : UeId) (epoch : Option ℕ) → ue.0 < length os
    → entries 0 (set os ue.0 epoch) ≡ connect (entries 0 os) ue epoch
connected_entries os ue None h = sym (without_at os 0 ue.0 ue.0 (omega arith) h)
connected_entries os ue (Some epoch) h = sym (put_at os 0 ue.0 ue.0 epoch (omega arith) h)

pub epoch_found : (os : List (Option ℕ)) (ue : UeId) → find ue_cmp (entries 0 os) ue ≡ get_or os ue.0 None
epoch_found os ue = found_at os 0 ue.0 ue.0 (omega arith)

pub epoch_read : (os : List (Option ℕ)) (ue : UeId) (o : Option ℕ) → ue.0 < length os → o ≡ get_or os ue.0 o → o ≡ find ue_cmp (entries 0 os) ue
epoch_read os ue o near is =
    let here = slice_get-get_or os ue.0 o near in
    let there = slice_get-get_or os ue.0 None near in
    let same : get_or os ue.0 o ≡ get_or os ue.0 None = cc in
    is ∙ same ∙ sym (epoch_found os ue)

pub none_connected : (k n : ℕ) → entries n (replicate k None) ≡ []
unfolding entries
none_connected zero n = refl
none_connected (suc k) n = none_connected k (n + 1)

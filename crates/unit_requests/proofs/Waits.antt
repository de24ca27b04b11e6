-- What waits: a list that is empty, one that an item came to, and one that its last item went from.
use Rattle.std.proofs.Common.{◌≡◌, ◌==◌, true, false, cond, not, List, [], ◌∷◌, ◌++◌, length, refl, sym, ap, ◌∙◌, true≢false, arith}
use Rattle.std.specs.declared.cmp.Ordering.{Ordering}
use Rattle.std.specs.declared.cmp.Ordering.TheVariants.{Less, Equal, Greater}
use Rattle.std.specs.Ordering.{match_ordering, is_eq}
use Rattle.std.specs.Cmp.{IsTotalOrder, tied_itself}
use Rattle.std.specs.List.{filter}
use Rattle.std.specs.BTreeMap.{is_at, insert_entry}
use Rattle.gnb_types.specs.declared.keys.Channel.{Channel}
use Rattle.gnb_types.specs.Orders.{channel_cmp}
use Rattle.tables.specs.Tables.{put, without}
use Rattle.unit_defs.specs.Transactions.{Waiting, is_empty, waiting_then}

pub empty_length : {X : Type 0} (xs : List X) → (length xs == 0) ≡ is_empty xs
empty_length [] = refl
empty_length (x ∷ xs) = grind arith

pub length_empty : {X : Type 0} (xs : List X) → (length xs == 0) ≡ true → xs ≡ []
length_empty [] e = refl
length_empty (x ∷ xs) e = let some : (length (x ∷ xs) == 0) ≡ false = grind arith in absurd (true≢false (sym e ∙ some))

-- a list that isn't empty stands in the table
pub waiting_then-append : {C : Type 0} (table : List (Channel × List (Waiting C))) (c : Channel) (ws : List (Waiting C)) (w : Waiting C)
    → waiting_then table c (ws ++ w ∷ []) ≡ put channel_cmp table c (ws ++ w ∷ [])
waiting_then-append table c [] w = refl
waiting_then-append table c (v ∷ ws) w = refl

pub waiting_then-put : {C : Type 0} (table : List (Channel × List (Waiting C))) (c : Channel) (ws : List (Waiting C))
    → (length ws == 0) ≡ false → waiting_then table c ws ≡ put channel_cmp table c ws
waiting_then-put table c [] e = cc
waiting_then-put table c (v ∷ ws) e = refl

-- what was put is taken out again
module _ {K X : Type 0} {R : K → K → Ordering} (o : IsTotalOrder R) where
  pub without-put : (m : List (K × X)) (k : K) (v : X) → without R (put R m k v) k ≡ without R m k
  unfolding put without
  without-put [] k v = rw (tied_itself o k) refl
  without-put (e ∷ es) k v = by (R k e.0) refl (without-put es k v)
    where
      by : (r : Ordering) → R k e.0 ≡ r
          → filter (λ e. not (is_at (R k) e.0)) (insert_entry R es k v) ≡ filter (λ e. not (is_at (R k) e.0)) es
          → filter (λ e. not (is_at (R k) e.0)) (match_ordering r ((k, v) ∷ e ∷ es) ((e.0, v) ∷ es) (e ∷ insert_entry R es k v))
          ≡ cond (not (is_eq r)) (e ∷ filter (λ e. not (is_at (R k) e.0)) es) (filter (λ e. not (is_at (R k) e.0)) es)
      by Less is again = rw (tied_itself o k, is) refl
      by Equal is again = rw is refl
      by Greater is again = rw is (ap (λ (xs : List (K × X)). e ∷ xs) again)

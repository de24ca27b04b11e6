-- The control messages that were put are those of the bag, and message n is the n-th.
use Rattle.std.proofs.Common.{◌≡◌, ◌≤◌, ℕ, suc, ◌+◌, ◌-◌, Bool, true, false, cond, List, [], ◌∷◌, ◌++◌, length, Some, slice_get, refl, sym, ap, ◌∙◌, arith}
use Rattle.std.specs.List.{enumerate_from}
use Rattle.std.specs.Ordering.{nat_cmp}
use Rattle.std.specs.Cmp.{Equal-is}
use Rattle.std.specs.Map.{lookup}
use Rattle.std.specs.BTreeMap.{is_at}
use Rattle.std.proofs.lemmas.Map.Lookups.{exact_unsigned}
use Rattle.std.proofs.lemmas.List.FromFn.{length-enumerate_from}
use Rattle.tables.specs.Tables.{find}
use Rattle.transport_defs.specs.declared.ControlMessage.{ControlMessage}
use Rattle.transport_defs.specs.Links.{Bag, put_control_message, control_message, landed}

abbrev pub InBag : {M : Type 0} → List (ControlMessage M) → Bag M → Type 0
InBag control_messages bag = bag.control_messages ≡ enumerate_from 1 control_messages

numbered_push : {X : Type 0} (n : ℕ) (xs : List X) (x : X) → enumerate_from n (xs ++ x ∷ []) ≡ enumerate_from n xs ++ (n + length xs, x) ∷ []
numbered_push n [] x = ap (λ (c : ℕ). (c, x) ∷ []) (omega arith)
numbered_push {X = X} n (y ∷ ys) x =
    ap (λ (zs : List (ℕ × X)). (n, y) ∷ zs)
    (numbered_push (n + 1) ys x ∙ ap (λ (c : ℕ). enumerate_from (n + 1) ys ++ (c, x) ∷ []) (omega arith))

numbered_one : {X : Type 0} (k : ℕ) (y : X) (ys : List X) (n : ℕ) (x : X) (t : Bool) → is_at (nat_cmp n) k ≡ t
    → cond t (Some y) (lookup (is_at (nat_cmp n)) (enumerate_from (k + 1) ys)) ≡ Some x
    → (lookup (is_at (nat_cmp n)) (enumerate_from (k + 1) ys) ≡ Some x → (k + 1 ≤ n) × (slice_get ys (n - (k + 1)) ≡ Some x))
    → (k ≤ n) × (slice_get (y ∷ ys) (n - k) ≡ Some x)
numbered_one k y ys n x true tie h rest =
    let same : n ≡ k = exact_unsigned n k ((Equal-is (nat_cmp n k)).0 tie) in
    let first : n - k ≡ 0 = omega arith in
    (omega arith, ap (slice_get (y ∷ ys)) first ∙ h)
numbered_one k y ys n x false apart h rest =
    let above : k + 1 ≤ n = (rest h).0 in
    let later : n - k ≡ suc (n - (k + 1)) = omega arith in
    (omega arith, ap (slice_get (y ∷ ys)) later ∙ (rest h).1)

numbered_at : {X : Type 0} (k : ℕ) (xs : List X) (n : ℕ) (x : X) → find nat_cmp (enumerate_from k xs) n ≡ Some x
    → (k ≤ n) × (slice_get xs (n - k) ≡ Some x)
unfolding find
numbered_at k [] n x e = absurd cc
numbered_at k (y ∷ ys) n x e = numbered_one k y ys n x (is_at (nat_cmp n) k) refl e (numbered_at (k + 1) ys n x)

module _ {M : Type 0} (control_messages : List (ControlMessage M)) (bag : Bag M) (k : InBag control_messages bag) where
  pub next_number : length bag.control_messages + 1 ≡ length control_messages + 1
  next_number = ap (λ (n : ℕ). n + 1) (ap length k ∙ length-enumerate_from 1 control_messages)

  pub put_in_bag : (l : ControlMessage M) → InBag (control_messages ++ l ∷ []) (put_control_message bag l)
  unfolding put_control_message
  put_in_bag l =
      ap (λ (ls : List (ℕ × ControlMessage M)). ls ++ (length bag.control_messages + 1, l) ∷ []) k
      ∙ ap (λ (n : ℕ). enumerate_from 1 control_messages ++ (n, l) ∷ []) (next_number ∙ (omega arith)) ∙ sym (numbered_push 1 control_messages l)

  pub landed_in_bag : (number : ℕ) → InBag control_messages (landed bag number)
  unfolding landed
  landed_in_bag number = k

  pub given_was_put : (number : ℕ) (l : ControlMessage M) → control_message bag number ≡ Some l
      → (0 ≡ number → ⊥) × (slice_get control_messages (number - 1) ≡ Some l)
  unfolding control_message
  given_was_put number l e =
      let found = numbered_at 1 control_messages number l (ap (λ (ls : List (ℕ × ControlMessage M)). find nat_cmp ls number) (sym k) ∙ e) in
      let above : 1 ≤ number = found.0 in
      (λ zero_is. omega arith, found.1)

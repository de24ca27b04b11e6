-- The bearers of a context, and a list that is compared with them one after another.
use Rattle.std.proofs.Common.{◌≡◌, ℕ, zero, suc, ◌+◌, ◌-◌, ◌<◌, ◌==◌, ◌&&◌, Bool, true, false, List, [], ◌∷◌, ◌++◌, length, drop, get_or, refl, sym, ap, ◌∙◌, arith}
use Rattle.std.proofs.lemmas.Bool.Decides.{nat_tests}
use Rattle.std.proofs.lemmas.List.{append-nil}
use Rattle.std.proofs.Math.Seq.{drop-cons}
use Rattle.gnb_types.specs.declared.names.BearerId.{BearerId}
use Rattle.unit_defs.specs.CuCpRecords.{bearer_list}
use Rattle.unit_defs.specs.Messages.{are_bearers}

abbrev pub bearer : ℕ → BearerId
bearer n = record { 0 = n }

-- so many bearers, from this one on
abbrev pub from : ℕ → ℕ → List BearerId
from i zero = []
from i (suc n) = bearer i ∷ from (i + 1) n

last_one : (i n : ℕ) (bs : List BearerId) → from i (suc n) ++ bs ≡ from i n ++ bearer (i + n) ∷ bs
last_one i zero bs = let here : i ≡ i + 0 = omega arith in ap (λ (k : ℕ). bearer k ∷ bs) here
last_one i (suc n) bs =
    let next : i + 1 + n ≡ i + suc n = omega arith in
    ap (λ (xs : List BearerId). bearer i ∷ xs) (last_one (i + 1) n bs ∙ ap (λ (k : ℕ). from (i + 1) n ++ bearer k ∷ bs) next)

all_from_one : (n : ℕ) (bs : List BearerId) → bearer_list n bs ≡ from 1 n ++ bs
all_from_one zero bs = refl
all_from_one (suc n) bs =
    let next : suc n ≡ 1 + n = omega arith in
    all_from_one n (bearer (suc n) ∷ bs) ∙ (ap (λ (k : ℕ). from 1 n ++ bearer k ∷ bs) next ∙ sym (last_one 1 n bs))

other_length : (i n : ℕ) (bs : List BearerId) → (length bs ≡ n → ⊥) → are_bearers (from i n) bs ≡ false
other_length i zero [] other = absurd (other refl)
other_length i zero (b ∷ bs) other = refl
other_length i (suc n) [] other = refl
other_length i (suc n) (b ∷ bs) other =
    let rest : are_bearers (from (i + 1) n) bs ≡ false = other_length (i + 1) n bs (λ e. other (ap suc e)) in
    by (i == b.0) (are_bearers (from (i + 1) n) bs) rest
  where
    by : (x y : Bool) → y ≡ false → x && y ≡ false
    by true y e = e
    by false y e = refl

-- what is left to compare, from this index on
abbrev pub rest_agrees : ℕ → ℕ → List BearerId → Bool
rest_agrees k n bs = are_bearers (from (k + 1) (n - k)) (drop k bs)

from_one : (n : ℕ) (bs : List BearerId) → are_bearers (bearer_list n []) bs ≡ are_bearers (from 1 n) bs
from_one n bs = ap (λ (as' : List BearerId). are_bearers as' bs) (all_from_one n [] ∙ append-nil (from 1 n))

pub begins : (n : ℕ) (bs : List BearerId) → are_bearers (bearer_list n []) bs ≡ rest_agrees 0 n bs
begins n bs =
    let all : n ≡ n - 0 = omega arith in
    from_one n bs ∙ ap (λ (m : ℕ). are_bearers (from 1 m) bs) all

pub not_so_many : (n : ℕ) (bs : List BearerId) → (length bs ≡ n → ⊥) → are_bearers (bearer_list n []) bs ≡ false
not_so_many n bs other = from_one n bs ∙ other_length 1 n bs other

module _ (k n : ℕ) (bs : List BearerId) (d : BearerId) (within : k < length bs) (many : length bs ≡ n) where
  split_off : rest_agrees k n bs ≡ ((k + 1 == (get_or bs k d).0) && rest_agrees (k + 1) n bs)
  split_off =
      let next : suc k ≡ k + 1 = omega arith in
      let left : n - k ≡ suc (n - (k + 1)) = omega arith in
      ap (λ (m : ℕ). are_bearers (from (k + 1) m) (drop k bs)) left
      ∙ ap (are_bearers (from (k + 1) (suc (n - (k + 1))))) (drop-cons bs k d within)
      ∙ ap (λ (j : ℕ). (k + 1 == (get_or bs k d).0) && are_bearers (from (k + 1 + 1) (n - (k + 1))) (drop j bs)) next

  pub agrees : (get_or bs k d).0 ≡ k + 1 → rest_agrees k n bs ≡ rest_agrees (k + 1) n bs
  agrees is =
      let yes : (k + 1 == (get_or bs k d).0) ≡ true = grind (arith, nat_tests) in
      split_off ∙ ap (λ (x : Bool). x && rest_agrees (k + 1) n bs) yes

  pub differs : ((get_or bs k d).0 ≡ k + 1 → ⊥) → rest_agrees k n bs ≡ false
  differs other =
      let no : (k + 1 == (get_or bs k d).0) ≡ false = grind (arith, nat_tests) in
      split_off ∙ ap (λ (x : Bool). x && rest_agrees (k + 1) n bs) no

pub ends : (n : ℕ) (bs : List BearerId) → length bs ≡ n → rest_agrees n n bs ≡ true
ends n bs many =
    let none : n - n ≡ 0 = omega arith in
    ap (λ (m : ℕ). are_bearers (from (n + 1) m) (drop n bs)) none ∙ gone bs n many
  where
    gone : (xs : List BearerId) (m : ℕ) → length xs ≡ m → are_bearers [] (drop m xs) ≡ true
    gone [] m e = let z : m ≡ 0 = omega arith in ap (λ (j : ℕ). are_bearers [] (drop j [])) z
    gone (x ∷ xs) zero e = absurd (omega arith)
    gone (x ∷ xs) (suc m) e = gone xs m (omega arith)

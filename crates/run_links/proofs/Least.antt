-- The least COUNT of two lists of them.
use Rattle.std.proofs.Common.{◌≡◌, ◌≤◌, ℕ, min, List, [], ◌∷◌, ◌++◌, refl, ◌∙◌, ap, arith}
use Rattle.transport_defs.specs.Links.{least, least_of}
use Rattle.run_links.specs.Spans.{lowered}

pub least-append : (n : ℕ) (xs ys : List ℕ) → least n (xs ++ ys) ≡ least (least n xs) ys
least-append n [] ys = refl
least-append n (x ∷ xs) ys = least-append (min n x) xs ys

least-min : (n x : ℕ) (xs : List ℕ) → min n (least x xs) ≡ least (min n x) xs
least-min n x [] = refl
least-min n x (y ∷ ys) =
    let regrouped : min n (min x y) ≡ min (min n x) y = omega arith in
    least-min n (min x y) ys ∙ ap (λ (m : ℕ). least m ys) regrouped

pub lowered_least : (n : ℕ) (xs : List ℕ) → lowered n (least_of xs) ≡ least n xs
lowered_least n [] = refl
lowered_least n (x ∷ xs) = least-min n x xs

pub least-le : (n : ℕ) (xs : List ℕ) → least n xs ≤ n
least-le n [] = omega arith
least-le n (x ∷ xs) = let ih : least (min n x) xs ≤ min n x = least-le (min n x) xs in omega arith

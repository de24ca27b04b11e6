-- The openings of a bearer, one after another.
use Rattle.std.proofs.Common.{◌≡◌, List, [], ◌++◌, sym, ap, ◌∙◌, append-nil, append_assoc}

pub four : {X : Type 0} (xs n u d f a b c z : List X) → a ≡ xs ++ n → b ++ [] ≡ a ++ u → c ≡ b ++ d → z ≡ c ++ f → z ≡ xs ++ (((n ++ u) ++ d) ++ f)
four {X} xs n u d f a b c z first ups down up =
    up
    ∙ ap (λ (ys : List X). ys ++ f)
    (down
    ∙ ap (λ (ys : List X). ys ++ d) (sym (append-nil b) ∙ ups ∙ ap (λ (ys : List X). ys ++ u) first ∙ append_assoc xs n u)
    ∙ append_assoc xs (n ++ u) d)
    ∙ append_assoc xs ((n ++ u) ++ d) f

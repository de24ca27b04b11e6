-- What is due, put one after another.
use Rattle.std.proofs.Common.{◌≡◌, ℕ, suc, ◌+◌, ◌<◌, List, ◌∷◌, ◌++◌, length, drop, get_or, sym, ap, ◌∙◌, append_assoc, arith}
use Rattle.std.specs.List.{flat_map}
use Rattle.std.proofs.Math.Seq.{drop-cons}
use Rattle.gnb_types.specs.declared.outputs.Output.{Output}
use Rattle.transactions.specs.declared.caller.Due.{Due}
use Rattle.unit_requests.specs.setup_requests.Dues.{put_again}

-- one more is put
pub one_is_put : (i : ℕ) (dues : List Due) (d : Due) (before after all : List Output) → i < length dues → after ≡ before ++ put_again (get_or dues i d)
    → before ++ flat_map put_again (drop i dues) ≡ all → after ++ flat_map put_again (drop (i + 1) dues) ≡ all
one_is_put i dues d before after all within is so_far =
    let next : suc i ≡ i + 1 = omega arith in
    let split : drop i dues ≡ get_or dues i d ∷ drop (i + 1) dues = drop-cons dues i d within ∙ ap (λ (j : ℕ). get_or dues i d ∷ drop j dues) next in
    ap (λ (os : List Output). os ++ flat_map put_again (drop (i + 1) dues)) is
    ∙ append_assoc before (put_again (get_or dues i d)) (flat_map put_again (drop (i + 1) dues))
    ∙ ap (λ (ds : List Due). before ++ flat_map put_again ds) (sym split)
    ∙ so_far

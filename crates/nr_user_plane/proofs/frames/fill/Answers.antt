use Rattle.std.proofs.Common.{◌≡◌, ℕ, ◌-◌, ◌%◌, ◌<◌, ◌++◌, List, [], ◌∷◌, take, replicate, length, zero, suc, refl, arith}
use Rattle.nr_user_plane.specs.Frames.{filled}
use Rattle.nr_user_plane.proofs.frames.fill.Goals as goal

zeros : (n : ℕ) → n < 4 → take {A = ℕ} n (0 ∷ 0 ∷ 0 ∷ []) ≡ replicate n 0
zeros zero h = refl
zeros (suc zero) h = refl
zeros (suc (suc zero)) h = refl
zeros (suc (suc (suc zero))) h = refl
zeros (suc (suc (suc (suc n)))) h = absurd (omega arith)

filled_is : (old new : List ℕ) (len : ℕ) → len ≡ length old → new ≡ old ++ take {A = ℕ} ((6 - len % 4) % 4) (0 ∷ 0 ∷ 0 ∷ [])
    → new ≡ filled old
unfolding filled
filled_is old new len len_is pushed = rw (pushed, len_is, zeros ((6 - length old % 4) % 4) (omega arith)) refl

pub returns : goal.returns
returns c = filled_is _ _ _ c.len.ensures c.in_ok-append.ensures.ok

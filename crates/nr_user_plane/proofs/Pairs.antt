-- Reading pairs of numbers one after another.
use Rattle.std.proofs.Common.{◌≡◌, ℕ, ◌+◌, ◌-◌, ◌*◌, ◌<◌, ◌≤◌, ◌⊎◌, inl, inr, Bool, false, true, ◌&&◌, nat_le, List, [], ◌∷◌, ◌++◌, length, drop, refl, sym, ◌∙◌, ap, suc, arith, append_assoc, length-append, drop-drop}
use Rattle.nr_user_plane.specs.Reasons.{pairs_at, number24_at, are_apart}

-- what is read in one turn
pub record Turn (count : ℕ) (ranges new : List (ℕ × ℕ)) (rest after : List ℕ) (start end : ℕ) : Type 0 where
  pub more : length ranges < count
  pub pushed : new ≡ ranges ++ (start, end) ∷ []
  pub start_is : start ≡ number24_at rest 0
  pub end_is : end ≡ number24_at rest 3
  pub after_is : after ≡ drop 6 rest

pub grown : (count : ℕ) (ranges new : List (ℕ × ℕ)) (rest after : List ℕ) (start end : ℕ) → Turn count ranges new rest after start end
    → length new ≡ length ranges + 1
grown count ranges new rest after start end t = ap length t.pushed ∙ length-append ranges ((start, end) ∷ [])

pub left_is : (count : ℕ) (ranges new : List (ℕ × ℕ)) (rest after : List ℕ) (start end : ℕ) → Turn count ranges new rest after start end
    → count - length ranges ≡ suc (count - length new)
left_is count ranges new rest after start end t =
    let one_more = grown count ranges new rest after start end t in
    let more : length ranges < count = t.more in omega arith

pub pairs_are : (count : ℕ) (ranges new : List (ℕ × ℕ)) (rest after : List ℕ) (start end : ℕ) → Turn count ranges new rest after start end
    → pairs_at (count - length ranges) rest ≡ (start, end) ∷ pairs_at (count - length new) after
pairs_are count ranges new rest after start end t = rw (left_is count ranges new rest after start end t, t.start_is, t.end_is, t.after_is) refl

pub pairs_more : (count : ℕ) (ranges new all : List (ℕ × ℕ)) (rest after : List ℕ) (start end : ℕ)
    → Turn count ranges new rest after start end
    → ranges ++ pairs_at (count - length ranges) rest ≡ all → new ++ pairs_at (count - length new) after ≡ all
pairs_more count ranges new all rest after start end t pairs =
    ap (λ (xs : List (ℕ × ℕ)). xs ++ pairs_at (count - length new) after) t.pushed
    ∙ append_assoc ranges ((start, end) ∷ []) (pairs_at (count - length new) after)
    ∙ ap (λ (xs : List (ℕ × ℕ)). ranges ++ xs) (sym (pairs_are count ranges new rest after start end t))
    ∙ pairs

-- the first of more ranges is well placed
passes : (least start end : ℕ) (more : Bool) → least ≤ start → start ≤ end → nat_le least start && (nat_le start end && more) ≡ more
passes least start end more low high = grind arith

fails : (least start end : ℕ) (more : Bool) → (start < least) ⊎ (end < start) → nat_le least start && (nat_le start end && more) ≡ false
fails least start end true (inl low) = grind arith
fails least start end false (inl low) = grind arith
fails least start end true (inr high) = grind arith
fails least start end false (inr high) = grind arith

pub apart_more : (count : ℕ) (ranges new : List (ℕ × ℕ)) (rest after : List ℕ) (start end least : ℕ) (whole : Bool)
    → Turn count ranges new rest after start end
    → whole ≡ are_apart least (pairs_at (count - length ranges) rest) → least ≤ start → start ≤ end
    → whole ≡ are_apart (end + 1) (pairs_at (count - length new) after)
apart_more count ranges new rest after start end least whole t is low high =
    is ∙ ap (are_apart least) (pairs_are count ranges new rest after start end t)
    ∙ passes least start end (are_apart (end + 1) (pairs_at (count - length new) after)) low high

-- the next range is badly placed
pub apart_stops : (count left : ℕ) (rest : List ℕ) (start end least : ℕ) (whole : Bool) → left ≡ suc count
    → start ≡ number24_at rest 0 → end ≡ number24_at rest 3 → whole ≡ are_apart least (pairs_at left rest) → (start < least) ⊎ (end < start)
    → whole ≡ false
apart_stops count left rest start end least whole one_more start_is end_is is bad =
    is ∙ ap (λ n. are_apart least (pairs_at n rest)) one_more
    ∙ fails least (number24_at rest 0) (number24_at rest 3) (are_apart (number24_at rest 3 + 1) (pairs_at count (drop 6 rest))) (rw (start_is, end_is) at bad)

pub rest_more : (count : ℕ) (ranges new : List (ℕ × ℕ)) (rest after ends : List ℕ) (start end : ℕ)
    → Turn count ranges new rest after start end
    → drop (6 * (count - length ranges)) rest ≡ ends → drop (6 * (count - length new)) after ≡ ends
rest_more count ranges new rest after ends start end t is =
    let left = left_is count ranges new rest after start end t in
    let sum : 6 * (count - length ranges) ≡ 6 + 6 * (count - length new) = omega arith in
    ap (drop (6 * (count - length new))) t.after_is ∙ drop-drop (6 * (count - length new)) 6 rest ∙ ap (λ n. drop n rest) (sym sum) ∙ is

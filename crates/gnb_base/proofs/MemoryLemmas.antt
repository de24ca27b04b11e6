-- What a source in memory gives.
use Rattle.std.proofs.Common.{◌≡◌, ℕ, ◌+◌, ◌-◌, ◌<◌, min, List, [], ◌++◌, length, take, drop, sym, ap, ◌∙◌, arith, take-append-drop}
use Rattle.std.proofs.lemmas.List.{length-append, length-take, length-drop, drop-drop, drop_all, take_at, take_rest}

pub gave : (bytes all copied rest : List ℕ) (given count piece room : ℕ) → bytes ≡ drop given all → copied ≡ take count (drop given all)
    → count ≡ min (length (drop given all)) (min piece room) → 0 < piece → length rest + count ≡ room
    → (bytes ≡ take count (copied ++ rest) ++ drop (given + count) all)
    × (count ≡ 0 → 0 < length (copied ++ rest) → drop (given + count) all ≡ [])
gave bytes all copied rest given count piece room left copies most some whole =
    let size : length copied ≡ count = omega (arith, ap length copies, length-take count (drop given all)) in
    let after : drop (given + count) all ≡ drop count (drop given all) = sym (drop-drop count given all) in (
      left ∙ sym (take-append-drop count (drop given all))
          ∙ ap (λ (xs : List ℕ). xs ++ drop count (drop given all)) (sym copies ∙ sym (take_at copied rest count size))
          ∙ ap (λ (xs : List ℕ). take count (copied ++ rest) ++ xs) (sym after),
      λ none asked. drop_all (given + count) all (omega (arith, length-drop given all, length-append copied rest)),
    )

-- the bytes may be read through another name, up to their end
pub gave_from : (bytes all read copied rest : List ℕ) (given count least piece room : ℕ) → bytes ≡ drop given all → read ≡ all
    → copied ≡ take count (take (length read - given) (drop given read))
    → count ≡ min (length (take (length read - given) (drop given read))) least → least ≡ min piece room → 0 < piece
    → length rest + count ≡ room
    → (bytes ≡ take count (copied ++ rest) ++ drop (given + count) all)
    × (count ≡ 0 → 0 < length (copied ++ rest) → drop (given + count) all ≡ [])
gave_from bytes all read copied rest given count least piece room left same copies most fewest some whole =
    let back : take (length read - given) (drop given read) ≡ drop given all = take_rest read given ∙ ap (drop given) same in
    gave bytes all copied rest given count piece room left (copies ∙ ap (take count) back)
    (most ∙ ap (λ (xs : List ℕ). min (length xs) least) back ∙ ap (min (length (drop given all))) fewest) some whole

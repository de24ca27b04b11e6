-- A text that is cut at a byte.
use Rattle.std.proofs.Common.{cond, Err, MatchOption, Option, Some, None, Ok, Bor, ◌≡◌, ℕ, ◌≤◌, ◌<◌, Bool, true, false, List, [], ◌∷◌, length, refl, ap, ◌∙◌, arith, nat_eq}
use Rattle.scenario_text.specs.script_words.Forms.{words}
use Rattle.scenario_text.specs.script_words.Places.{next_word, line_end}
use Rattle.scenario_text.specs.script_words.Answers.{words_left}
use Rattle.scenario_text.specs.declared.script_words.reason.TextReason.TheVariants.{Extra}
use Rattle.std.proofs.lemmas.List.{take_all}
use Rattle.std.proofs.lemmas.List.Splits.{slice_split-cons_no, slice_split_first}
use Rattle.std.specs.List.{slice_split, onto_first, position_or_len, before_first, after_first}

-- where the byte is missing, the text is the one part
pub slice_split-missing : (c : ℕ) (text : List ℕ) → length text ≤ position_or_len (λ x. nat_eq x c) text
    → slice_split (λ x. nat_eq x c) text ≡ text ∷ []
slice_split-missing c [] h = refl
slice_split-missing c (x ∷ xs) h = by_head (nat_eq x c) refl (slice_split-missing c xs)
  where
    by_head : (b : Bool) → nat_eq x c ≡ b → (length xs ≤ position_or_len (λ y. nat_eq y c) xs → slice_split (λ y. nat_eq y c) xs ≡ xs ∷ [])
        → slice_split (λ y. nat_eq y c) (x ∷ xs) ≡ (x ∷ xs) ∷ []
    by_head true e more = let k = rw e at h in absurd (omega arith)
    by_head false e more = let k = rw e at h in
        slice_split-cons_no (λ y. nat_eq y c) x xs e ∙ ap (onto_first x) (more (omega arith))

-- a line with a word before its first blank, if it has one
pub next_word-cut : (rest : Option (Bor (List ℕ))) (line : Bor (List ℕ)) (front : List ℕ) (after : Option (Bor (List ℕ)))
    → rest ≡ Some line
    → front ≡ before_first (λ c. nat_eq c 32) line.now
    → MatchOption after (length line.now ≤ position_or_len (λ c. nat_eq c 32) line.now) (λ r. (position_or_len (λ c. nat_eq c 32) line.now < length line.now) × (r.now ≡ after_first (λ c. nat_eq c 32) line.now))
    → next_word (words_left rest) ≡ Ok (front, words_left after)
next_word-cut rest line front None is_line is_front h =
    rw (is_line, is_front, slice_split-missing 32 line.now h, take_all (position_or_len (λ c. nat_eq c 32) line.now) line.now h) refl
next_word-cut rest line front (Some r) is_line is_front h =
    rw (is_line, is_front, h.1, slice_split_first (λ c. nat_eq c 32) line.now 0 h.0) refl

-- a line has a word
pub line_end-words : (line : List ℕ) → line_end (words line) ≡ Err Extra
line_end-words [] = refl
line_end-words (c ∷ cs) = by_head (nat_eq c 32) (words cs)
  where
    by_head : (b : Bool) (rest : List (List ℕ)) → line_end (cond b ([] ∷ rest) (onto_first c rest)) ≡ Err Extra
    by_head true rest = refl
    by_head false [] = refl
    by_head false (word ∷ rest) = refl

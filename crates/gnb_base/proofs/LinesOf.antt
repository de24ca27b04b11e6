-- The lines of bytes: one line at the front, the last one, and the relation that says the same.
use Rattle.std.proofs.Common.{◌≡◌, ◌≢◌, ◌⊎◌, inl, inr, ℕ, Bool, cond, List, [], ◌∷◌, ◌++◌, refl, sym, ap, ◌∙◌, subst, ne_eqb}
use Rattle.std.proofs.lemmas.Bool.{cases_eq}
use Rattle.gnb_base.specs.Lines.{line_feed, onto_line, lines_of, HasNoLf, AreLines}

-- a byte that is no LF stands before the first line
front_byte : (byte : ℕ) (bytes : List ℕ) → byte ≢ line_feed → lines_of (byte ∷ bytes) ≡ onto_line byte (lines_of bytes)
front_byte byte bytes h = ap (λ (b : Bool). cond b ([] ∷ lines_of bytes) (onto_line byte (lines_of bytes))) (ne_eqb byte line_feed h)

pub lines_of-line : (text rest : List ℕ) → HasNoLf text → lines_of (text ++ line_feed ∷ rest) ≡ text ∷ lines_of rest
lines_of-line [] rest h = refl
lines_of-line (byte ∷ text) rest h =
    front_byte byte (text ++ line_feed ∷ rest) h.0 ∙ ap (onto_line byte) (lines_of-line text rest h.1)

pub lines_of-last : (text : List ℕ) → HasNoLf text → text ≢ [] → lines_of text ≡ text ∷ []
lines_of-last [] h some = absurd (some refl)
lines_of-last (byte ∷ []) h some = front_byte byte [] h.0
lines_of-last (byte ∷ more ∷ text) h some =
    front_byte byte (more ∷ text) h.0 ∙ ap (onto_line byte) (lines_of-last (more ∷ text) h.1 (λ e. cc))

-- the lines of bytes are their lines
front_line : (byte : ℕ) (bytes : List ℕ) (lines : List (List ℕ)) → byte ≢ line_feed → AreLines bytes lines
    → AreLines (byte ∷ bytes) (onto_line byte lines)
front_line byte bytes [] h e =
    ((h, tt), inr (ap (λ (xs : List ℕ). byte ∷ xs) e, λ (none : byte ∷ [] ≡ []). cc, refl))
front_line byte bytes (line ∷ lines) h (without_lf, inl (rest, split, more)) =
    ((h, without_lf), inl (rest, ap (λ (xs : List ℕ). byte ∷ xs) split, more))
front_line byte bytes (line ∷ lines) h (without_lf, inr (whole, some, none)) =
    ((h, without_lf), inr (ap (λ (xs : List ℕ). byte ∷ xs) whole, λ (e : byte ∷ line ≡ []). cc, none))

pub are_lines : (bytes : List ℕ) → AreLines bytes (lines_of bytes)
are_lines [] = refl
are_lines (byte ∷ bytes) = by (are_lines bytes) (cases_eq byte line_feed)
  where
    by : AreLines bytes (lines_of bytes) → (byte ≡ line_feed) ⊎ (byte ≢ line_feed) → AreLines (byte ∷ bytes) (lines_of (byte ∷ bytes))
    by rest (inl e) = subst (λ (b : ℕ). AreLines (b ∷ bytes) (lines_of (b ∷ bytes))) (sym e) (tt, inl (bytes, refl, rest))
    by rest (inr h) = subst (AreLines (byte ∷ bytes)) (sym (front_byte byte bytes h)) (front_line byte bytes (lines_of bytes) h rest)

pub only_lines : (bytes : List ℕ) (lines : List (List ℕ)) → AreLines bytes lines → lines ≡ lines_of bytes
only_lines bytes [] e = sym (ap lines_of e)
only_lines bytes (line ∷ lines) (without_lf, inl (rest, split, more)) =
    ap (λ (ls : List (List ℕ)). line ∷ ls) (only_lines rest lines more) ∙ sym (lines_of-line line rest without_lf) ∙ ap lines_of (sym split)
only_lines bytes (line ∷ lines) (without_lf, inr (whole, some, none)) =
    ap (λ (ls : List (List ℕ)). line ∷ ls) none ∙ sym (lines_of-last line without_lf some) ∙ ap lines_of (sym whole)

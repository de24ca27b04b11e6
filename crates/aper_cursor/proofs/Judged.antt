-- The answer to a question, by its width and its judgement.
use Rattle.std.proofs.Common.{◌≡◌, ℕ, ◌+◌, ◌^◌, ◌<◌, ◌≤◌, ◌==◌, Bool, true, false, List, [], ◌∷◌, length, take as first, None, Some, Ok, Err, refl, sym, ap, subst, ◌∙◌, arith}
use Rattle.std.proofs.Math.Nat.{pow-le-pow_right}
use Rattle.std.proofs.lemmas.Bool.Decides.{nat_tests}
use Rattle.bits_core.specs.Bits.{number_of}
use Rattle.aper_defs.specs.declared.reason.Reason.{Reason}
use Rattle.aper_defs.specs.declared.reason.Reason.TheVariants as reasons
use Rattle.aper_defs.specs.Fields.{Ask, extent, opening, whole}
use Rattle.aper_defs.specs.Bits.{width_at}
use Rattle.aper_defs.specs.Reading.{Cursor, Opened, bits_at, told_width, passes, asked_width, judged, answer_of, answered, read, read_within, opens_after, answered_at, moved_by, unless}
use Rattle.proof_aper.proofs.answers.NumberFacts.{is_same}
use Rattle.proof_aper.proofs.values.Found.{answer_read}
use Rattle.proof_aper.proofs.values.FoundBits.{written}
use Rattle.aper_cursor.specs.declared.questions.Question.{Question}
use Rattle.aper_cursor.specs.declared.questions.Question.TheVariants as questions
use Rattle.aper_cursor.specs.Questions.{question_of, IsNumberOf}

pub read_right : (question : Ask) (c : Cursor) (width m : ℕ) → width ≡ asked_width question c → passes c width ≡ None
    → m ≡ number_of (first width (bits_at c)) → judged question c m ≡ None → read question c ≡ Ok (answer_of question c m)
unfolding read
read_right question c width m w room e right =
    let here : m ≡ number_of (first (asked_width question c) (bits_at c)) = subst (λ (k : ℕ). m ≡ number_of (first k (bits_at c))) w e in
    ap (read_within question c) (subst (λ (k : ℕ). passes c k ≡ None) w room)
    ∙ ap (λ (k : ℕ). answered question c k (judged question c k)) (sym here)
    ∙ ap (answered question c m) right

pub read_wrong : (question : Ask) (c : Cursor) (width m : ℕ) (reason : Reason) → width ≡ asked_width question c → passes c width ≡ None
    → m ≡ number_of (first width (bits_at c)) → judged question c m ≡ Some reason → read question c ≡ Err reason
unfolding read
read_wrong question c width m reason w room e wrong =
    let here : m ≡ number_of (first (asked_width question c) (bits_at c)) = subst (λ (k : ℕ). m ≡ number_of (first k (bits_at c))) w e in
    ap (read_within question c) (subst (λ (k : ℕ). passes c k ≡ None) w room)
    ∙ ap (λ (k : ℕ). answered question c k (judged question c k)) (sym here)
    ∙ ap (answered question c m) wrong

pub read_passes : (question : Ask) (c : Cursor) (width : ℕ) (reason : Reason) → width ≡ asked_width question c
    → passes c width ≡ Some reason → read question c ≡ Err reason
unfolding read
read_passes question c width reason w past = ap (read_within question c) (subst (λ (k : ℕ). passes c k ≡ Some reason) w past)

-- the place after an answer that opens and leaves nothing
pub moved_at : (question : Ask) (c : Cursor) (width n : ℕ) → width ≡ asked_width question c
    → ((place : ℕ) → opens_after question n place c.opens ≡ c.opens) → read question c ≡ Ok n
    → moved_by width c ≡ answered_at question n c
moved_at question c width n w stay e =
    let same : width ≡ width_at c.place question n = w ∙ (written question c n (answer_read question c n e)).0 in
    ap (λ (k : ℕ). moved_by k c) same
    ∙ ap (λ (os : List Opened). record { octets = c.octets; place = c.place + width_at c.place question n; opens = os })
    (sym (stay (c.place + width_at c.place question n)))

pub opens_stay : (q : Question) (n : ℕ) (opens : List Opened) (place : ℕ) → opens_after (question_of q) n place opens ≡ opens
opens_stay questions.Flag n opens place = refl
opens_stay (questions.Constrained role width most) n opens place = refl
opens_stay (questions.Digits count most) n opens place = refl
opens_stay (questions.Signed count range) n opens place = refl
opens_stay (questions.Small role) n opens place = refl
opens_stay (questions.Extent bounds) n opens place = refl
opens_stay (questions.AdditionBits count) n opens place = refl
opens_stay questions.Character n opens place = refl
opens_stay (questions.IeCount least) n opens place = refl
opens_stay (questions.IeId known left after) n opens place = refl
opens_stay questions.Pad n opens place = refl

pub moved : (q : Question) (c : Cursor) (width n : ℕ) → width ≡ asked_width (question_of q) c → read (question_of q) c ≡ Ok n
    → moved_by width c ≡ answered_at (question_of q) n c
moved q c width n w e = moved_at (question_of q) c width n w (opens_stay q n c.opens) e

pub told_most : (bits : List Bool) → told_width bits ≤ 16
told_most [] = omega arith
told_most (true ∷ []) = omega arith
told_most (true ∷ true ∷ bits) = omega arith
told_most (true ∷ false ∷ bits) = omega arith
told_most (false ∷ bits) = omega arith

-- a number of so many bits is one of its question
pub number_fits : (q : Question) (c : Cursor) (width n : ℕ) → width ≡ asked_width (question_of q) c → n < 2 ^ width → IsNumberOf q n
number_fits questions.Flag c width n w h = tt
number_fits (questions.Constrained role bits most) c width n w h = tt
number_fits (questions.Digits count most) c width n w h = tt
number_fits (questions.Signed count range) c width n w h = subst (λ (k : ℕ). n < 2 ^ k) w h
number_fits (questions.Small role) c width n w h = tt
number_fits (questions.Extent bounds) c width n w h =
    let k : width ≤ 16 = omega (arith, w, told_most (bits_at c)) in
    omega (arith, h, pow-le-pow_right {n = 2} (omega arith) k)
number_fits (questions.AdditionBits count) c width n w h = tt
number_fits questions.Character c width n w h = tt
number_fits (questions.IeCount least) c width n w h = tt
number_fits (questions.IeId known left after) c width n w h = tt
number_fits questions.Pad c width n w h = tt

-- how a length determinant begins
pub begins_long : (bits : List Bool) → 2 ≤ length bits → number_of (first 2 bits) ≡ 2 → told_width bits ≡ 16
begins_long [] h e = absurd (omega (arith, h))
begins_long (b ∷ []) h e = absurd (omega (arith, h))
begins_long (true ∷ true ∷ bits) h e = absurd (omega (arith, e))
begins_long (true ∷ false ∷ bits) h e = refl
begins_long (false ∷ true ∷ bits) h e = absurd (omega (arith, e))
begins_long (false ∷ false ∷ bits) h e = absurd (omega (arith, e))

pub begins_short : (bits : List Bool) → (number_of (first 2 bits) ≡ 2 → ⊥) → told_width bits ≡ 8
begins_short [] h = refl
begins_short (true ∷ []) h = refl
begins_short (false ∷ bits) h = refl
begins_short (true ∷ true ∷ bits) h = refl
begins_short (true ∷ false ∷ bits) h = absurd (h refl)

pub begins_cut : (bits : List Bool) → length bits < 2 → told_width bits ≡ 8
begins_cut [] h = refl
begins_cut (true ∷ []) h = refl
begins_cut (false ∷ bits) h = refl
begins_cut (true ∷ b ∷ bits) h = absurd (omega (arith, h))

-- an open type's length is that of a whole length determinant
pub opening_as : (c : Cursor) → read opening c ≡ read (extent (whole 1 16383 None)) c
unfolding read
opening_as c = refl

-- ---- a number that isn't 0 in a pad
pub pad_wrong : (m : ℕ) → (m ≡ 0 → ⊥) → unless (m == 0) reasons.Padding ≡ Some reasons.Padding
pad_wrong m h = ap (λ (b : Bool). unless b reasons.Padding) (not_zero m h)
  where
    not_zero : (n : ℕ) → (n ≡ 0 → ⊥) → (n == 0) ≡ false
    not_zero n k = grind (arith, nat_tests)

pub pad_right : (m : ℕ) → m ≡ 0 → unless (m == 0) reasons.Padding ≡ None
pad_right m h = ap (λ (b : Bool). unless b reasons.Padding) (is_same m 0 h)

pub place_same : (c : Cursor) (opens : List Opened)
    → (let d : Cursor = record { octets = c.octets; place = c.place; opens = opens } in d)
    ≡ record { octets = c.octets; place = c.place + 0; opens = opens }
place_same c opens =
    let same : c.place ≡ c.place + 0 = omega arith in ap (λ (k : ℕ). record { octets = c.octets; place = k; opens = opens }) same

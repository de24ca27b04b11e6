-- How great answers are.
use Rattle.std.proofs.Common.{◌≡◌, ℕ, ◌+◌, ◌*◌, ◌^◌, ◌<◌, ◌≤◌, Option, Ok, refl, sym, ap, subst, ◌∙◌, arith}
use Rattle.asn1_syntax.specs.declared.types.definition.Size.{Size}
use Rattle.aper_defs.specs.Fields.{Ask, extent, whole, part}
use Rattle.aper_defs.specs.Reading.{Cursor, asked_width, answer_of, read}
use Rattle.proof_aper.proofs.values.Found.{Answered, answer_read}
use Rattle.proof_aper.proofs.values.FoundNumbers.{flag_read, pad_read, constrained_read, small_read, digits_read}
use Rattle.proof_aper.proofs.values.FoundExtents.{whole_read, part_read, PartLength, last, more}
use Rattle.aper_cursor.specs.declared.lengths.Extent.{Extent}
use Rattle.aper_cursor.specs.declared.lengths.Extent.TheVariants as extents
use Rattle.aper_cursor.specs.declared.questions.Question.{Question}
use Rattle.aper_cursor.specs.declared.questions.Question.TheVariants as questions
use Rattle.aper_cursor.specs.Questions.{extent_of, question_of, role_of}
use Rattle.aper_cursor.specs.asking.Going.{IsLengthOf, IsAnswerTo}

part_length : (before previous : ℕ) (outside : Option Size) (n : ℕ) → PartLength before previous outside n → n ≤ 65536
part_length before previous outside n (last h g) = omega (arith, h)
part_length before previous outside n (more count e some few long) = omega (arith, e, few)

length_so : (bounds : Extent) (c : Cursor) (n : ℕ) → read (extent (extent_of bounds)) c ≡ Ok n → IsLengthOf bounds n
length_so (extents.Whole least most outside) c n e = let r = whole_read least most outside c n e in (r.low, r.high)
length_so (extents.Part before previous outside) c n e = part_length before previous outside n (part_read before previous outside c n e)

-- an answer that is the number itself
as_number : (question : Ask) (c : Cursor) (n : ℕ) → ((m : ℕ) → answer_of question c m ≡ m) → read question c ≡ Ok n
    → n < 2 ^ asked_width question c
as_number question c n same e =
    let a : Answered question c n = answer_read question c n e in
    subst (λ (k : ℕ). k < 2 ^ asked_width question c) (sym (same a.m) ∙ a.same) a.small

pub answer_so : (q : Question) (c : Cursor) (n : ℕ) → read (question_of q) c ≡ Ok n → IsAnswerTo q n
answer_so questions.Flag c n e = omega (arith, flag_read c n e)
answer_so (questions.Constrained role width most) c n e = constrained_read (role_of role) width most c n e
answer_so (questions.Digits count most) c n e = (digits_read count most c n e).most-is
answer_so (questions.Signed count range) c n e = as_number (question_of (questions.Signed count range)) c n (λ m. refl) e
answer_so (questions.Small role) c n e = small_read (role_of role) c n e
answer_so (questions.Extent bounds) c n e = length_so bounds c n e
answer_so (questions.AdditionBits count) c n e = as_number (question_of (questions.AdditionBits count)) c n (λ m. refl) e
answer_so questions.Character c n e = as_number (question_of questions.Character) c n (λ m. refl) e
answer_so (questions.IeCount least) c n e = as_number (question_of (questions.IeCount least)) c n (λ m. refl) e
answer_so (questions.IeId known left after) c n e = as_number (question_of (questions.IeId known left after)) c n (λ m. refl) e
answer_so questions.Pad c n e = pad_read c n e

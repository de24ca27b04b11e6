-- A text has one fault, or one module.
use Rattle.std.proofs.Common.{◌≡◌, ℕ, List, take, refl, sym, ap, ◌∙◌, subst, inl, inr}
use Rattle.std.specs.Prelude.{◌⊎◌, Option, Some, None, Result, Ok, Err}
use Rattle.asn1_syntax.specs.declared.types.fault.Fault.{Fault}
use Rattle.asn1_syntax.specs.declared.types.fault.ModuleReason.{ModuleReason}
use Rattle.asn1_syntax.specs.declared.assignments.assignment.Syntax.{Syntax}
use Rattle.asn1_syntax.specs.assignments.inside.Module.{syntax_of}
use Rattle.asn1_defs.specs.Positions.{line_after, column_after}
use Rattle.asn1_defs.specs.Judgement.{Judged}
use Rattle.asn1_defs.specs.Readings.{Reads, HasFault, in_text, in_module, WrongText}
use Rattle.asn1_defs.specs.Texts.{IsTextOf}
use Rattle.proof_asn1.proofs.reading.Once.{one_wrong, not_both}
use Rattle.proof_asn1.proofs.reading.Readings.{is_text_of, is_first_wrong, one_text}
use Rattle.proof_asn1_modules.proofs.asn1_proof_module.Judgements.{sound_clash, fault_same, judged}

has_one : (text : List ℕ) (f g : Fault) → HasFault text f → HasFault text g → f ≡ g
has_one text f g (in_text w) (in_text v) = one_wrong text f g w v
has_one text f g (in_text w) (in_module {m} t j) = absurd (not_both text m f t w)
has_one text f g (in_module {m} t j) (in_text v) = absurd (not_both text m g t v)
has_one text f g (in_module {m} t j) (in_module {m = n} u k) = fault_same n f g (subst (λ (x : Syntax). Judged x (Some f)) (one_text text m n t u) j) k

pub reading_once : (text : List ℕ) (m n : Syntax) (a b : ℕ) → Reads text a m → Reads text b n → (m ≡ n) × (a ≡ b)
reading_once text m n a b r s = let same = one_text text m n r.is s.is in (same, r.ends ∙ ap (λ (x : Syntax). x.end) same ∙ sym s.ends)

pub fault_once : (text : List ℕ) (l m c d : ℕ) (r s : ModuleReason) → WrongText text l c r → WrongText text m d s → (l ≡ m) × (c ≡ d) × (r ≡ s)
fault_once text l m c d r s a b =
    let same = has_one text a.fault b.fault a.first b.first in (
      a.line-is ∙ ap (λ (f : Fault). line_after (take f.place text)) same ∙ sym b.line-is,
      a.column-is ∙ ap (λ (f : Fault). column_after (take f.place text)) same ∙ sym b.column-is,
      a.reason-is ∙ ap (λ (f : Fault). f.reason) same ∙ sym b.reason-is,
    )

no_fault : (text : List ℕ) (m : Syntax) (f : Fault) → IsTextOf text m → Judged m None → HasFault text f → ⊥
no_fault text m f t is_sound (in_text w) = not_both text m f t w
no_fault text m f t is_sound (in_module {m = n} u j) = sound_clash m f is_sound (subst (λ (x : Syntax). Judged x (Some f)) (one_text text n m u t) j)

pub never_both : (text : List ℕ) (n l c : ℕ) (m : Syntax) (r : ModuleReason) → Reads text n m → WrongText text l c r → ⊥
never_both text n l c m r reads wrong = no_fault text m wrong.fault reads.is reads.sound wrong.first

abbrev Answered : List ℕ → Type 0
Answered text = ((n : ℕ) × (m : Syntax) × Reads text n m) ⊎ ((l : ℕ) × (c : ℕ) × (r : ModuleReason) × WrongText text l c r)

wrong : (text : List ℕ) (f : Fault) → HasFault text f → Answered text
wrong text f h = inr (line_after (take f.place text), column_after (take f.place text), f.reason, record { fault = f; first = h; line-is = refl; column-is = refl; reason-is = refl })

pub answered : (text : List ℕ) → Answered text
answered text = go (syntax_of text) refl
  where
    told : (s : Syntax) → syntax_of text ≡ Ok s → ((o : Option Fault) × Judged s o) → Answered text
    told s h (None, sound) = inl (s.end, s, record { is = is_text_of text s h; sound = sound; ends = refl })
    told s h (Some f, j) = wrong text f (in_module (is_text_of text s h) j)

    go : (r : Result Syntax Fault) → syntax_of text ≡ r → Answered text
    go (Err f) h = wrong text f (in_text (is_first_wrong text f h))
    go (Ok s) h = told s h (judged s)

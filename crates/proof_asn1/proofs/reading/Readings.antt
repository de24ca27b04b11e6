-- Reading functions and definitions agree.
use Rattle.std.proofs.Common.{◌≡◌, ℕ, List, ◌∷◌, ◌++◌, refl, ap, ◌∙◌, subst}
use Rattle.std.specs.Prelude.{Result, Ok, Err}
use Rattle.asn1_tokens.specs.Stream.{Placed}
use Rattle.asn1_syntax.specs.declared.types.fault.Fault.{Fault}
use Rattle.asn1_syntax.specs.declared.assignments.assignment.Syntax.{Syntax}
use Rattle.asn1_syntax.specs.assignments.inside.Module.{syntax_of}
use Rattle.proof_asn1.proofs.asn1_proof_syntax.Readings.{module_front, wrong_item}
use Rattle.proof_asn1.proofs.items.Judged.{allowed_to, judged}
use Rattle.asn1_defs.specs.ModuleMeanings.{MeansModule}
use Rattle.proof_asn1.proofs.values.ModuleTaken.{module_means}
use Rattle.proof_asn1.proofs.values.OneModule.{one_module}
use Rattle.asn1_defs.specs.Texts.{IsTextOf, IsFirstWrong}
use Rattle.proof_asn1.proofs.reading.Texts.{text_of, first_wrong}
use Rattle.proof_asn1.proofs.reading.Once.{one_items, one_wrong, not_both}

pub is_text_of : (text : List ℕ) (m : Syntax) → syntax_of text ≡ Ok m → IsTextOf text m
is_text_of text m e = text_of text m (module_front text m e) (allowed_to text m e) (module_means text m e)

pub is_first_wrong : (text : List ℕ) (f : Fault) → syntax_of text ≡ Err f → IsFirstWrong text f
is_first_wrong text f e = first_wrong text f (wrong_item text f e) (judged text f e)

-- a text is one module's
pub one_text : (text : List ℕ) (m n : Syntax) → IsTextOf text m → IsTextOf text n → m ≡ n
one_text text m n a b = one_module (a.front ++ a.last ∷ a.rest) m n a.means (subst (λ (l : List Placed). MeansModule l n) (one_items b.items a.items) b.means)

pub read_of : (text : List ℕ) (m : Syntax) → IsTextOf text m → syntax_of text ≡ Ok m
read_of text m t = go (syntax_of text) refl
  where
    go : (r : Result Syntax Fault) → syntax_of text ≡ r → syntax_of text ≡ Ok m
    go (Ok n) e = e ∙ ap (λ (s : Syntax). Ok s) (one_text text n m (is_text_of text n e) t)
    go (Err f) e = absurd (not_both text m f t (is_first_wrong text f e))

pub fault_of : (text : List ℕ) (f : Fault) → IsFirstWrong text f → syntax_of text ≡ Err f
fault_of text f w = go (syntax_of text) refl
  where
    go : (r : Result Syntax Fault) → syntax_of text ≡ r → syntax_of text ≡ Err f
    go (Ok m) e = absurd (not_both text m f (is_text_of text m e) w)
    go (Err g) e = e ∙ ap (λ (h : Fault). Err h) (one_wrong text g f (is_first_wrong text g e) w)

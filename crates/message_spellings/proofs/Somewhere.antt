-- Octets are a spelling exactly where they are the spelling of a message between two nodes.
use Rattle.std.proofs.Common.{◌≡◌, ℕ, ◌==◌, Bool, true, false, List, [], ◌∷◌, length, Result, Ok, Err, refl, sym, ◌∙◌, arith}
use Rattle.std.specs.Prelude.{◌↔◌, IfOk, IsTrue}
use Rattle.gnb_types.specs.declared.names.NodeId.{NodeId}
use Rattle.gnb_types.specs.declared.items.Memory.{Memory}
use Rattle.message_codec_defs.specs.Codecs.{octets_of_message}
use Rattle.transcript_check.specs.Steps.{IsSpelling}
use Rattle.message_spellings.specs.inside.Spelled.{IsSpelledBetween, IsSpelledSomewhere, OnF1, OnE1, OnXn, WithCore, OnRadio}
use Rattle.message_spellings.proofs.Read.{somewhere}
use Rattle.message_spellings.proofs.Unspelled.{nothing_is_a_spelling}

spelled : {from to : NodeId} {octets : List ℕ} → IsSpelledBetween from to octets → IsSpelling octets_of_message octets
spelled h = (h.message, h.spelled)

spelled_somewhere : {octets : List ℕ} → IsSpelledSomewhere octets → IsSpelling octets_of_message octets
spelled_somewhere (OnF1 h) = spelled h
spelled_somewhere (OnE1 h) = spelled h
spelled_somewhere (OnXn h) = spelled h
spelled_somewhere (WithCore h) = spelled h
spelled_somewhere (OnRadio h) = spelled h

differ : (let b : Bool = true in b) ≡ false → ⊥
differ h = cc

none : (octets : List ℕ) → (length octets == 0) ≡ true → octets ≡ []
none [] h = refl
none (octet ∷ octets) h = absurd (grind arith)

some : (octets : List ℕ) → (length octets == 0) ≡ false → octets ≡ [] → ⊥
some [] h e = differ h
some (octet ∷ octets) h e = cc

-- ---- at the exits of the code

module _ (octets : List ℕ) (empty : Bool) (is : empty ≡ (length octets == 0)) where
  pub no_octets : empty ≡ true → IsTrue true ↔ IsSpelling octets_of_message octets
  no_octets e = (λ (t : IsTrue true). nothing_is_a_spelling octets (none octets (sym is ∙ e)), λ h. refl)

  pub on_its_interface : (from to : NodeId) (found : Bool) → found ≡ true → IsTrue found ↔ IsSpelledBetween from to octets
      → IsTrue true ↔ IsSpelling octets_of_message octets
  on_its_interface from to found e h = (λ (t : IsTrue true). spelled (h.0 e), λ s. refl)

  pub on_any : (result : Result Bool Memory) → empty ≡ false → IfOk result (λ found. IsTrue found ↔ IsSpelledSomewhere octets)
      → IfOk result (λ found. IsTrue found ↔ IsSpelling octets_of_message octets)
  on_any (Ok found) e h = (λ t. spelled_somewhere (h.0 t), λ s. h.1 (somewhere octets (some octets (sym is ∙ e)) s.0 s.1))
  on_any (Err error) e h = tt

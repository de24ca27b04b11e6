-- Octets spell one value at most, so what is heard in it is the one answer to them.
use Rattle.std.proofs.Common.{◌≡◌, ℕ, List, [], Result, Ok, Err, refl, sym, ap, subst, ◌∙◌, inl, inr, append-nil}
use Rattle.aper_defs.specs.Trees.{Tree}
use Rattle.aper_defs.specs.Values.{Value}
use Rattle.aper_defs.specs.Bounds.{IsBounded}
use Rattle.aper_defs.specs.Spelling.{Spells}
use Rattle.law_aper.proofs.Spelled.{one_value}
use Rattle.message_defs.specs.FromValue.{Cause, unknown_procedure, unknown_element}
use Rattle.message_octets.specs.declared.error.MsgError.{MsgError}
use Rattle.message_octets.specs.declared.error.MsgError.TheVariants as errors
use Rattle.message_octets.specs.Answers.{AreFromValue, IsFromValueIn}
use Rattle.law_messages.specs.law_message_octets.Answered.{IsUnlessMemory, IsRefusal, SpellsNone, answer_of}

module _ (M : Type 0) (t : Tree) (from_value : Value → Result M Cause) where
  pub refused : (octets : List ℕ) (result : Result M MsgError) → SpellsNone t octets → IsFromValueIn t from_value octets result → IsRefusal result
  refused octets (Ok msg) none h = absurd (none h.0 h.1)
  refused octets (Err (errors.Refused bit reason path)) none h = tt
  refused octets (Err (errors.UnknownProcedure code criticality)) none h = absurd (none h.0 h.1)
  refused octets (Err (errors.UnknownIe id)) none h = absurd (none h.0 h.1)
  refused octets (Err errors.Memory) none h = tt

module _ (M : Type 0) (t : Tree) (from_value : Value → Result M Cause) (bounded : IsBounded t) where
  one : (v w : Value) (octets : List ℕ) → Spells t v octets → Spells t w octets → v ≡ w
  one v w octets s r = (one_value t v w octets [] bounded s (subst (Spells t w) (sym (append-nil octets)) r)).0

  -- what is heard in a value that they spell is heard in this one
  same : (v : Value) (octets : List ℕ) (this : Result M Cause) → Spells t v octets → AreFromValue t from_value octets this
      → answer_of this ≡ answer_of (from_value v)
  same v octets this s h = ap (λ (r : Result M Cause). answer_of r) (sym h.2 ∙ ap from_value (one h.0 v octets h.1 s))

  pub answered : (v : Value) (octets : List ℕ) (result : Result M MsgError) → Spells t v octets → IsFromValueIn t from_value octets result
      → IsUnlessMemory result (answer_of (from_value v))
  answered v octets (Ok msg) s h = inl (same v octets (Ok msg) s h)
  answered v octets (Err (errors.Refused bit reason path)) s h = absurd (h.0.no_value v s)
  answered v octets (Err (errors.UnknownProcedure code criticality)) s h = inl (same v octets (Err (unknown_procedure code criticality)) s h)
  answered v octets (Err (errors.UnknownIe id)) s h = inl (same v octets (Err (unknown_element id)) s h)
  answered v octets (Err errors.Memory) s h = inr refl

  -- where a message is heard
  pub said : (v : Value) (msg : M) (octets : List ℕ) (result : Result M MsgError) → from_value v ≡ Ok msg → Spells t v octets
      → IsFromValueIn t from_value octets result → IsUnlessMemory result (Ok msg)
  said v msg octets result e s h = subst (λ (r : Result M Cause). IsUnlessMemory result (answer_of r)) e (answered v octets result s h)

  ok_same : (a b : M) → (let r : Result M Cause = Ok a in r) ≡ Ok b → a ≡ b
  ok_same a b h = cc

  pub one_message : (v w : Value) (a b : M) (octets : List ℕ) → from_value v ≡ Ok a → from_value w ≡ Ok b → Spells t v octets → Spells t w octets
      → a ≡ b
  one_message v w a b octets e f s r = ok_same a b (sym e ∙ ap from_value (one v w octets s r) ∙ f)

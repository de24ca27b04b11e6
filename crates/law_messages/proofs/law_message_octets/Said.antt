-- What is answered is the message that the value says, unless an information element is to be rejected.
use Rattle.std.proofs.Common.{◌≡◌, ℕ, List, [], Result, Ok, refl, sym, ap, ◌∙◌}
use Rattle.std.specs.Prelude.{Option, Some, None}
use Rattle.aper_defs.specs.Trees.{Tree}
use Rattle.aper_defs.specs.Values.{Value}
use Rattle.aper_defs.specs.Membership.{Has}
use Rattle.aper_defs.specs.Bounds.{IsBounded}
use Rattle.message_defs.specs.Known.{Says, known}
use Rattle.message_defs.specs.FromValue.{Cause, unless_rejected}
use Rattle.message_octets.specs.Answers.{IsFromValueIn}
use Rattle.law_messages.specs.law_message_octets.Answered.{AreSaidIn, IsMessageWhereSaid}
use Rattle.law_messages.proofs.law_message_octets.Determined.{said}

none_rejected : (M : Type 0) (o : Option ℕ) (msg : M) → unless_rejected o msg ≡ Ok msg → o ≡ None
none_rejected M None msg h = refl
none_rejected M (Some id) msg h = cc

module _ (M : Type 0) (t : Tree) (from_value : Value → Result M Cause) (written : M → Value) (rejected : Value → Option ℕ) (bounded : IsBounded t)
    (from_value_says : (msg : M) (v : Value) → Has [] t v → from_value v ≡ Ok msg → known t v ≡ written msg)
    (said_hears : (msg : M) (v : Value) → Has [] t v → known t v ≡ written msg → from_value v ≡ unless_rejected (rejected v) msg) where
  pub where_said : (msg : M) (octets : List ℕ)
      → IsMessageWhereSaid M (λ result. IsFromValueIn t from_value octets result) msg
      (AreSaidIn t (λ m v. Says t (written m) v) rejected msg octets)
  where_said msg octets = record {
    said = λ h.
        let is = from_value_says msg h.0 h.1.has h.2 in (
          h.0,
          h.1,
          record { has = h.1.has; is = is },
          none_rejected M (rejected h.0) msg (sym (said_hears msg h.0 h.1.has is) ∙ h.2),
        );
    answered = λ s result h.
        said M t from_value bounded s.0 msg octets result
        (said_hears msg s.0 s.2.has s.2.is ∙ ap (λ (o : Option ℕ). let r : Result M Cause = unless_rejected o msg in r) s.3) s.1 h;
  }

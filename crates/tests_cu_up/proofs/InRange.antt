-- The codec of few messages reads them in their ranges.
use Rattle.std.proofs.Common.{◌≡◌, ◌==◌, ◌%◌, ℕ, Bool, true, false, cond, List, [], ◌∷◌, Ok, Err, None, subst, arith}
use Rattle.std.specs.Prelude.{Result}
use Rattle.gnb_types.specs.declared.reasons.DropReason.{DropReason}
use Rattle.message_types.specs.declared.e1.E1Message.TheVariants as e1s
use Rattle.unit_defs.specs.Ways.{Message, e1}
use Rattle.unit_defs.specs.codec_range_defs.Ranges.{IsE1InRange, IsInRange, ReadsInRange}
use Rattle.tests_cu_up.specs.FewMessages.{heard, few_messages}

abbrev IsAnswerInRange : Result (Message (List ℕ)) DropReason → Type 0
IsAnswerInRange (Ok message) = IsInRange message
IsAnswerInRange (Err reason) = Unit {0}

is_order_in_range : (ue instance number : ℕ) (is_release : Bool)
    → IsE1InRange (cond is_release (e1s.BearerContextReleaseCommand (record { 0 = ue }) instance (number == 1))
    (e1s.BearerContextModificationRequest (record { 0 = ue }) instance None number None None None None None))
is_order_in_range ue instance number true = tt
is_order_in_range ue instance number false = tt

are_in_range : (octets : List ℕ) → IsAnswerInRange (heard octets)
are_in_range [] = tt
are_in_range (a ∷ []) = tt
are_in_range (a ∷ b ∷ []) = tt
are_in_range (a ∷ b ∷ c ∷ []) = tt
are_in_range (kind ∷ ue ∷ instance ∷ number ∷ []) = is_order_in_range ue instance number (kind == 5)
are_in_range (a ∷ b ∷ c ∷ d ∷ e ∷ []) = tt
are_in_range (a ∷ ue ∷ instance ∷ count ∷ quota ∷ forward ∷ []) =
    record { some = omega arith; few = omega arith; least = omega arith; most = omega arith }
are_in_range (a ∷ b ∷ c ∷ d ∷ e ∷ f ∷ g ∷ []) = tt
are_in_range (a ∷ b ∷ c ∷ d ∷ e ∷ f ∷ g ∷ h ∷ []) = (omega arith, tt)
are_in_range (a ∷ b ∷ c ∷ d ∷ e ∷ f ∷ g ∷ h ∷ i ∷ octets) = tt

pub in_range : ReadsInRange few_messages
in_range from to octets message is = subst IsAnswerInRange is (are_in_range octets)

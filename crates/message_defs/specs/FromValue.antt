-- What is heard in a value of a PDU or of a token: a message, or why it is none.
use Rattle.std.specs.Prelude.{ℕ, ◌==◌, List, [], ◌∷◌, Bool, false, Option, Some, None, Result, Ok, Err, not, ◌&&◌, ◌||◌, if◌then◌else◌}
use Rattle.aper_defs.specs.Values.{Value, Ies, message, no_ies, ie}
use Rattle.message_defs.specs.profile_defs.Tables.{Use, Message, is_at}
use Rattle.message_defs.specs.Places.{elements_in}

-- The procedure isn't in the set, or has no such outcome; or the first information element that isn't known and has criticality reject.
-- Alternatives of a token and outcomes that aren't known have code 0 and criticality 0.
pub data Cause : Type 0 where
  unknown_procedure : (code criticality : ℕ) → Cause
  unknown_element : (id : ℕ) → Cause

abbrev pub is_used : ℕ → List Use → Bool
is_used id [] = false
is_used id (u ∷ us) = u.element.id == id || is_used id us

abbrev pub first_rejected : List Use → Ies → Option ℕ
first_rejected uses no_ies = None
first_rejected uses (ie id criticality v others) =
    if criticality == 0 && not (is_used id uses) then Some id else first_rejected uses others

abbrev pub unless_rejected : {M : Type 0} → Option ℕ → M → Result M Cause
unless_rejected None msg = Ok msg
unless_rejected (Some id) msg = Err (unknown_element id)

-- the message, unless one of its information elements is to be rejected
abbrev pub from_value_as : {M : Type 0} → Message → Ies → M → Result M Cause
from_value_as m ies msg = unless_rejected (first_rejected m.elements ies) msg

-- the information element for which a value of a PDU is to be rejected, if it stands at the place of one of these messages
abbrev pub rejected_in : List Message → Value → Option ℕ
rejected_in [] v = None
rejected_in (m ∷ ms) (message index code criticality body) = if is_at code index m
    then first_rejected m.elements (elements_in body)
    else rejected_in ms (message index code criticality body)
rejected_in ms v = None

-- What is read of octets that say no message.
use Rattle.std.proofs.Common.{◌≡◌, ℕ, List, Option, Some, None, sym, ap, ◌∙◌}
use Rattle.std.specs.Prelude.{Result, Err}
use Rattle.gnb_types.specs.declared.reasons.DropReason.{DropReason}
use Rattle.message_octets.specs.declared.error.MsgError.{MsgError}
use Rattle.message_octets.specs.declared.error.MsgError.TheVariants as errors
use Rattle.message_octets.specs.Reading.{IsReading}
use Rattle.message_types.specs.declared.rrc.Token.{Token}
use Rattle.unit_defs.specs.Ways.{Message}
use Rattle.message_codec_defs.specs.Codecs.{answered, token_of}
use Rattle.message_codec.specs.Reasons.{reason_of}

some_is : (a b : DropReason) → (let o : Option DropReason = Some a in o) ≡ Some b → a ≡ b
some_is a b h = cc

-- it is dropped for this reason
dropped_for : {M : Type 0} (error : MsgError) (reason : DropReason) (read : Result M DropReason) → reason_of error ≡ Some reason
    → IsReading (let r : Result M MsgError = Err error in r) read → read ≡ Err reason
dropped_for (errors.Refused bit why path) reason read is h = h ∙ ap Err (some_is _ _ is)
dropped_for (errors.UnknownProcedure code criticality) reason read is h = h ∙ ap Err (some_is _ _ is)
dropped_for (errors.UnknownIe id) reason read is h = h ∙ ap Err (some_is _ _ is)
dropped_for errors.Memory reason read is h = absurd (never is)
  where
    never : (let o : Option DropReason = None in o) ≡ Some reason → ⊥
    never e = cc

pub unread : {M : Type 0} (as_message : M → Message (List ℕ)) (error : MsgError) (reason : DropReason) (read : Result M DropReason)
    → reason_of error ≡ Some reason → IsReading (let r : Result M MsgError = Err error in r) read
    → (let r : Result (Message (List ℕ)) DropReason = Err reason in r) ≡ answered as_message read
unread as_message error reason read is h = sym (ap (answered as_message) (dropped_for error reason read is h))

pub no_token : (error : MsgError) (reason : DropReason) (read : Result Token DropReason) → reason_of error ≡ Some reason
    → IsReading (let r : Result Token MsgError = Err error in r) read → None ≡ token_of read
no_token error reason read is h = sym (ap token_of (dropped_for error reason read is h))

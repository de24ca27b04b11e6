-- A codec of few messages, for tests: tokens in epochs below 256 as aligned PER spells them (ITU-T X.691), commands of gNB A alone, one
-- message of F1AP, and octets that are dropped.
use Rattle.std.specs.Prelude.{◌==◌, ℕ, ◌+◌, ◌*◌, ◌/◌, ◌%◌, if◌then◌else◌, List, [], ◌∷◌, None, Result, Ok, Err}
use Rattle.gnb_types.specs.declared.names.Gnb.TheVariants.{A}
use Rattle.gnb_types.specs.declared.reasons.DropReason.{DropReason}
use Rattle.gnb_types.specs.declared.reasons.DropReason.TheVariants.{Undecodable, Criticality}
use Rattle.message_types.specs.declared.f1.F1.TheVariants.{F1SetupResponse}
use Rattle.message_types.specs.declared.rrc.Token.TheVariants.{Command, Complete, Reestablish, Accepted}
use Rattle.unit_defs.specs.Ways.{Message, f1, rrc}
use Rattle.unit_defs.specs.octet_defs.Codec.{Codec}

-- what a terminal says
abbrev pub spelled : Message (List ℕ) → List ℕ
spelled (rrc (Complete ue epoch)) = 32 ∷ 0 ∷ epoch % 256 ∷ []
spelled (rrc (Reestablish ue epoch)) = 64 ∷ 0 ∷ epoch % 256 ∷ []
spelled message = []

-- what it hears
abbrev pub heard_mark : ℕ → ℕ → Result (Message (List ℕ)) DropReason
heard_mark kind epoch =
    if kind == 96 then Ok (rrc (Accepted (record { 0 = 1 }) epoch)) else (if kind == 32 then Ok (rrc (Complete (record { 0 = 1 }) epoch)) else Err Undecodable)

abbrev pub heard : List ℕ → Result (Message (List ℕ)) DropReason
heard (octet ∷ []) = Err Criticality
heard (first ∷ second ∷ []) = Ok (f1 (F1SetupResponse 1))
heard (kind ∷ gap ∷ epoch ∷ []) = heard_mark kind epoch
heard (ue ∷ gap ∷ epoch ∷ place ∷ []) = Ok (rrc (Command (record { 0 = ue % 16 + 1 }) epoch A (place / 64 % 2 + 1)))
heard octets = Err Undecodable

abbrev pub tokens : Codec
tokens = record {
  encode = spelled;
  read = λ from to octets. heard octets;
  read_token = λ octets. None;
  read_item = λ link sn octets. None;
  read_pdu = λ sn octets. None;
}

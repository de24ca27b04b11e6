-- No message of E1AP that octets say is out of its ranges: so what is read stays as it is.
use Rattle.std.proofs.Common.{◌≡◌, ℕ, List, Bool, cond, refl, ap, ◌∙◌}
use Rattle.std.specs.Prelude.{Result, Ok, Err}
use Rattle.gnb_types.specs.declared.names.NodeId.{NodeId}
use Rattle.gnb_types.specs.declared.names.NodeId.TheVariants.{CuCp, CuUp, Du, Core, Ue}
use Rattle.gnb_types.specs.declared.reasons.DropReason.{DropReason}
use Rattle.gnb_types.specs.declared.reasons.DropReason.TheVariants.{Undecodable}
use Rattle.message_types.specs.declared.e1.E1Message.{E1Message}
use Rattle.aper_defs.specs.Values.{Value}
use Rattle.aper_defs.specs.Reading.{Fault, decoded}
use Rattle.message_defs.specs.profile_defs.Profile.{e1_type}
use Rattle.message_defs.specs.FromValue.{Cause}
use Rattle.message_defs.specs.E1.{e1_from_value}
use Rattle.message_octets.specs.Reading.{unless_dropped, read_value, read_as}
use Rattle.unit_defs.specs.Ways.{Message, f1, e1, xn, core, rrc}
use Rattle.message_codec_defs.specs.OctetCodecs.{SaysInOctets}
use Rattle.proof_message_codec.proofs.codec.FromValue.{said_in_range}
use Rattle.proof_message_codec.proofs.codec.Ranges.{passes}
use Rattle.message_codec_defs.specs.Codecs.{answered, read_between}
use Rattle.message_codec_defs.specs.Ranges.{within_ranges}

-- a message of E1AP is read where octets say it, and nowhere else
said_by : (octets : List ℕ) (r : Result Value Fault) (msg : E1Message) → decoded e1_type octets ≡ r
    → answered e1 (read_value e1_from_value r) ≡ Ok (e1 msg) → SaysInOctets octets msg
said_by octets (Ok v) msg is h = (v, is, by (e1_from_value v) refl h)
  where
    by : (c : Result E1Message Cause) → e1_from_value v ≡ c → answered e1 (unless_dropped c) ≡ Ok (e1 msg) → e1_from_value v ≡ Ok msg
    by (Ok m) e g = e ∙ ap Ok (same m msg g)
      where
        same : (a b : E1Message) → (let r : Result (Message (List ℕ)) DropReason = Ok (e1 a) in r) ≡ Ok (e1 b) → a ≡ b
        same a b k = cc
    by (Err cause) e g = absurd (never g)
      where
        never : {reason : DropReason} → (let r : Result (Message (List ℕ)) DropReason = Err reason in r) ≡ Ok (e1 msg) → ⊥
        never k = cc
said_by octets (Err fault) msg is h = absurd (never h)
  where
    never : {reason : DropReason} → (let r : Result (Message (List ℕ)) DropReason = Err reason in r) ≡ Ok (e1 msg) → ⊥
    never k = cc

-- another interface's messages are none of E1AP
other : {M : Type 0} (as_message : M → Message (List ℕ)) (r : Result M DropReason) (msg : E1Message)
    → ((m : M) → as_message m ≡ e1 msg → ⊥) → answered as_message r ≡ Ok (e1 msg) → ⊥
other as_message (Ok m) msg apart h = apart m (same _ h)
  where
    same : (a : Message (List ℕ)) → (let r : Result (Message (List ℕ)) DropReason = Ok a in r) ≡ Ok (e1 msg) → a ≡ e1 msg
    same a k = cc
other as_message (Err reason) msg apart h = cc

e1_said : (octets : List ℕ) (msg : E1Message) → answered e1 (read_as e1_type e1_from_value octets) ≡ Ok (e1 msg) → SaysInOctets octets msg
e1_said octets msg h = said_by octets (decoded e1_type octets) msg refl h

reads_e1 : (from to : NodeId) (octets : List ℕ) (msg : E1Message) → read_between from to octets ≡ Ok (e1 msg) → SaysInOctets octets msg
reads_e1 (CuCp g) (CuUp h n) octets msg is = e1_said octets msg is
reads_e1 (CuUp h n) (CuCp g) octets msg is = e1_said octets msg is
reads_e1 (CuCp g) (Du h n) octets msg is = absurd (other f1 _ msg (λ m e. cc) is)
reads_e1 (Du h n) (CuCp g) octets msg is = absurd (other f1 _ msg (λ m e. cc) is)
reads_e1 (CuCp g) (CuCp h) octets msg is = absurd (other xn _ msg (λ m e. cc) is)
reads_e1 (CuCp g) Core octets msg is = absurd (other core _ msg (λ m e. cc) is)
reads_e1 Core (CuCp g) octets msg is = absurd (other core _ msg (λ m e. cc) is)
reads_e1 (Ue u) (Du h n) octets msg is = absurd (other rrc _ msg (λ m e. cc) is)
reads_e1 (Du h n) (Ue u) octets msg is = absurd (other rrc _ msg (λ m e. cc) is)
reads_e1 (CuCp g) (Ue u) octets msg is = cc
reads_e1 (CuUp g n) (CuUp h k) octets msg is = cc
reads_e1 (CuUp g n) (Du h k) octets msg is = cc
reads_e1 (CuUp g n) Core octets msg is = cc
reads_e1 (CuUp g n) (Ue u) octets msg is = cc
reads_e1 (Du g n) (CuUp h k) octets msg is = cc
reads_e1 (Du g n) (Du h k) octets msg is = cc
reads_e1 (Du g n) Core octets msg is = cc
reads_e1 Core (CuUp h k) octets msg is = cc
reads_e1 Core (Du h k) octets msg is = cc
reads_e1 Core Core octets msg is = cc
reads_e1 Core (Ue u) octets msg is = cc
reads_e1 (Ue u) (CuCp g) octets msg is = cc
reads_e1 (Ue u) (CuUp h k) octets msg is = cc
reads_e1 (Ue u) Core octets msg is = cc
reads_e1 (Ue u) (Ue w) octets msg is = cc

-- ---- nothing is dropped for its ranges
pub stays : (from to : NodeId) (octets : List ℕ) → within_ranges (read_between from to octets) ≡ read_between from to octets
stays from to octets = by (read_between from to octets) refl
  where
    by : (r : Result (Message (List ℕ)) DropReason) → read_between from to octets ≡ r → within_ranges r ≡ r
    by (Ok (e1 msg)) is =
        ap (λ (b : Bool). cond b (Ok (e1 msg)) (Err Undecodable)) (passes msg (said_in_range octets msg (reads_e1 from to octets msg is)))
    by (Ok (f1 msg)) is = refl
    by (Ok (xn msg)) is = refl
    by (Ok (core msg)) is = refl
    by (Ok (rrc token)) is = refl
    by (Err reason) is = refl

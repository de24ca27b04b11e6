-- What a terminal reads in the octets of a packet from the radio, and does.
use Rattle.std.proofs.Common.{◌≡◌, ℕ, List, [], ◌∷◌, map, Some, refl, sym, ap, ◌∙◌}
use Rattle.std.specs.Prelude.{if◌then◌else◌, Ok}
use Rattle.gnb_types.specs.declared.names.UeId.{UeId}
use Rattle.gnb_types.specs.declared.names.BearerId.{BearerId}
use Rattle.gnb_types.specs.declared.names.Dir.TheVariants.{Dl}
use Rattle.gnb_types.specs.declared.reasons.DropReason.TheVariants.{Duplicate}
use Rattle.gnb_types.specs.declared.reasons.HeldReason.TheVariants.{Ahead}
use Rattle.gnb_types.specs.declared.inputs.Input.TheVariants as ins
use Rattle.gnb_types.specs.Orders.{bearer_cmp}
use Rattle.message_types.specs.declared.rrc.Token.{Token}
use Rattle.tables.specs.Tables.{find}
use Rattle.pdcp.specs.Pdus.{data_pdu, radio_data}
use Rattle.pdcp_defs.specs.Counts.{number_of, near_count}
use Rattle.pdcp_defs.specs.Receivers.{is_duplicate, is_ahead, stored, deliver as handed_up}
use Rattle.link_defs.specs.Decoding as on
use Rattle.link_defs.proofs.Pdus.{data_carried}
use Rattle.unit_defs.specs.Ways.{Message, packet_pdu, packet_content, radio_input, held, deliver, Way, gives, ◌then◌, nothing, puts, drops}
use Rattle.unit_defs.specs.Ue.{UeNode, UeBearer, with_bearer, of_bearer, handed, took_data, took, take, ue_acts}
use Rattle.unit_defs.specs.octet_defs.Codec.{Codec, octet_way}
use Rattle.unit_defs.specs.octet_defs.Writing.{pdu_octets}
use Rattle.unit_defs.specs.octet_defs.Reading.{pdu_read, content_by, count_received_in, bearer_at, read_at_ue}
use Rattle.unit_defs.specs.octet_defs.Units.{acts_on, ue_steps}
use Rattle.unit_defs.specs.codec_defs.Reading.{ReadsPdus}
use Rattle.run_defs.specs.States.{Lengths}
use Rattle.run_defs.specs.Runs.{plain_way, content_of}
use Rattle.law_octets_say_the_same.specs.octet_rows.Octets.{put_again, answer_again}
use Rattle.law_octets_say_the_same.proofs.octet_rows.Answers.{then_again, if_again}

-- the row of a packet, where its bearer is there
module _ {M C P : Type 0} (way : Way M C P) (u : UeNode) (bearer : BearerId) (b : UeBearer) (count : ℕ) (p : List ℕ) where
  packet_by : find bearer_cmp u.bearers bearer ≡ Some b
      → take way bearer (packet_content (Some count) p) u ≡ (took_data way u bearer (Some count) p b then (λ x. nothing (with_bearer way u bearer x)))
  unfolding take
  packet_by has = ap (of_bearer way u bearer (took way u bearer (packet_content (Some count) p))) has

module _ (codec : Codec) (spelled : Message Token → List ℕ) (sn : Lengths) (u : UeNode) (bearer : BearerId) (b : UeBearer) (count : ℕ) (p : List ℕ) where
  handed_as : (es : List (ℕ × List ℕ))
      → map (λ e. deliver u.plan.ue bearer Dl e.0 e.1) es ≡ map (put_again spelled sn) (map (λ e. deliver u.plan.ue bearer Dl e.0 e.1) es)
  handed_as [] = refl
  handed_as (e ∷ es) = ap (λ os. deliver u.plan.ue bearer Dl e.0 e.1 ∷ os) (handed_as es)

  data_as : took_data (octet_way codec) u bearer (Some count) p b ≡ answer_again spelled sn (λ x. x) (took_data plain_way u bearer (Some count) p b)
  data_as =
      if_again spelled sn (λ x. x) (is_duplicate b.receiver count) (drops Duplicate b)
      (if is_ahead u.plan.quota b.receiver count then puts (held Ahead) b else handed plain_way u bearer b (handed_up (stored b.receiver count p)))
      (drops Duplicate b)
      (if is_ahead u.plan.quota b.receiver count then puts (held Ahead) b else handed (octet_way codec) u bearer b (handed_up (stored b.receiver count p)))
      refl
      (if_again spelled sn (λ x. x) (is_ahead u.plan.quota b.receiver count) (puts (held Ahead) b)
      (handed plain_way u bearer b (handed_up (stored b.receiver count p))) (puts (held Ahead) b)
      (handed (octet_way codec) u bearer b (handed_up (stored b.receiver count p))) refl
      (ap (λ os. gives os (record b { receiver = (handed_up (stored b.receiver count p)).after })) (handed_as (handed_up (stored b.receiver count p)).packets)))

  pub reads_packet : ReadsPdus codec → (ue : UeId) → on.IsSized p → find bearer_cmp u.bearers bearer ≡ Some b → u.plan.sn ≡ sn ue
      → near_count u.plan.sn b.receiver.deliv (number_of u.plan.sn count) ≡ Some count
      → ue_steps codec u (ins.Radio ue bearer Dl (pdu_octets (sn ue) (packet_pdu count p)))
      ≡ answer_again spelled sn (λ x. x) (ue_acts plain_way u (radio_input ue bearer Dl (packet_pdu count p) (content_of (packet_pdu count p))))
  unfolding ue_steps read_at_ue ue_acts
  reads_packet reads ue sized has long near =
      ap (λ x. acts_on (ue_acts (octet_way codec) u) u x)
      (ap (pdu_read codec (λ content. radio_input ue bearer Dl octets (content_by (count_received_in u.plan.sn (bearer_at codec u bearer)) content))) is_read
      ∙ ap (λ o. Ok (radio_input ue bearer Dl octets (packet_content (count_received_in u.plan.sn o (number_of u.plan.sn count)) p))) has
      ∙ ap (λ o. Ok (radio_input ue bearer Dl octets (packet_content o p))) near)
      ∙ packet_by (octet_way codec) u bearer b count p has
      ∙ ap (λ a. a then (λ x. nothing (with_bearer (octet_way codec) u bearer x))) data_as
      ∙ then_again spelled sn (λ x. x) (λ x. x) (took_data plain_way u bearer (Some count) p b) (λ x. nothing (with_bearer plain_way u bearer x))
      (λ x. nothing (with_bearer (octet_way codec) u bearer x)) (λ x. refl)
      ∙ ap (answer_again spelled sn (λ x. x)) (sym (packet_by plain_way u bearer b count p has))
    where
      octets : List ℕ
      octets = pdu_octets (sn ue) (packet_pdu count p)

      is_read : codec.read_pdu u.plan.sn octets ≡ Some (data_pdu (number_of u.plan.sn count) p)
      is_read =
          ap (λ bits. codec.read_pdu u.plan.sn (radio_data bits count p)) (sym long)
          ∙ reads.found u.plan.sn (data_pdu (number_of u.plan.sn count) p) (radio_data u.plan.sn count p) (data_carried u.plan.sn count p sized)

-- What a DU reads in the octets of a frame, and of a PDU that was confirmed, and does.
use Rattle.std.proofs.Common.{◌≡◌, ℕ, ◌+◌, ◌%◌, ◌^◌, ◌<◌, Bool, true, false, List, [], ◌∷◌, Some, None, refl, sym, ap, ◌∙◌}
use Rattle.std.specs.Prelude.{if◌then◌else◌, ◌||◌}
use Rattle.std.specs.Ordering.{nat_cmp}
use Rattle.gnb_types.specs.declared.names.SnBits.{SnBits}
use Rattle.gnb_types.specs.declared.names.UeId.{UeId}
use Rattle.gnb_types.specs.declared.names.BearerId.{BearerId}
use Rattle.gnb_types.specs.declared.names.Dir.TheVariants.{Dl}
use Rattle.gnb_types.specs.declared.outputs.Tag.TheVariants.{Absent, Same}
use Rattle.gnb_types.specs.declared.reasons.DropReason.TheVariants.{Gap}
use Rattle.gnb_types.specs.declared.inputs.Input.TheVariants as ins
use Rattle.gnb_types.specs.Orders.{bearer_cmp}
use Rattle.message_types.specs.declared.rrc.Token.{Token}
use Rattle.tables.specs.Tables.{find}
use Rattle.pdcp.specs.Numbers.{space}
use Rattle.pdcp.specs.Pdus.{data_pdu, radio_data}
use Rattle.link_defs.specs.Layouts.{f1u_downlink_packet}
use Rattle.link_defs.specs.Decoding as on
use Rattle.link_defs.proofs.Pdus.{data_carried}
use Rattle.link_defs.proofs.Written.{f1u_downlink_packet_decodes}
use Rattle.unit_defs.specs.Ways.{Message, Pdu, packet_pdu, frame, status, packet, radio, Taken, frame_item, packet_input, confirm_input, Way, Answer, gives, ◌then◌, puts, drops}
use Rattle.unit_defs.specs.Du.{Du, DuBearer, DuContext, DuTunnel, context_of, missing, is_missing, gap_after, with_bearer, frame_received, taken_in, taken_of, taken_on, take, of_bearer, of_context, confirmed, confirm, du_acts}
use Rattle.unit_defs.specs.octet_defs.Codec.{Codec, number_in, octet_way}
use Rattle.unit_defs.specs.octet_defs.Writing.{pdu_octets, load_octets, written_load}
use Rattle.unit_defs.specs.octet_defs.Reading.{du_item_read, read_du_context, read_du_item, pdu_read, read_du_pdu, content_by, no_count, read_at_du}
use Rattle.unit_defs.specs.octet_defs.Units.{acts_on, du_steps}
use Rattle.unit_defs.specs.codec_defs.Reading.{ReadsItems, ReadsPdus}
use Rattle.run_defs.specs.States.{Lengths}
use Rattle.run_defs.specs.Runs.{plain_way, content_of}
use Rattle.law_octets_say_the_same.specs.octet_rows.Octets.{du_again, answer_again}

-- the row of a frame, where its bearer is there
module _ {M C P : Type 0} (way : Way M C P) (r : Du M C) (c : DuContext) (b : DuBearer) where
  frame_by : (teid : ℕ) (item : Taken P) (t : DuTunnel) → find nat_cmp r.tunnels teid ≡ Some t → context_of r t.ue ≡ Some c
      → find bearer_cmp c.bearers t.bearer ≡ Some b → du_acts way r (packet_input teid item) ≡ frame_received way t.ue t.bearer c b item r
  unfolding du_acts take
  frame_by teid item t is_open there has =
      ap (taken_on way item r) is_open ∙ ap (taken_of way t.ue t.bearer item r) there ∙ ap (taken_in way t.ue t.bearer c item r) has

  confirm_by : (ue : UeId) (bearer : BearerId) (pdu : P) → context_of r ue ≡ Some c → find bearer_cmp c.bearers bearer ≡ Some b
      → confirm way ue bearer pdu r ≡ confirmed way ue bearer r b (way.number c.sn pdu)
  unfolding confirm
  confirm_by ue bearer pdu there has = ap (of_context way r row bearer) there ∙ ap (of_bearer way r row c) has
    where
      row : DuContext → DuBearer → Answer M P (Du M C)
      row x y = confirmed way ue bearer r y (way.number x.sn pdu)

module _ (codec : Codec) (spelled : Message Token → List ℕ) (sn : Lengths) (r : Du (Message Token) Token) where
  abbrev here : Du (List ℕ) (List ℕ)
  here = du_again r

  -- ---- a frame that carries a PDU

  module _ (teid : ℕ) (t : DuTunnel) (c : DuContext) (b : DuBearer) (restart : Bool) (number : ℕ) (pdu : Pdu) where
    frame_as : frame_received (octet_way codec) t.ue t.bearer c b (frame_item false restart number (Some (pdu_octets (sn t.ue) pdu))) here
        ≡ answer_again spelled sn du_again (frame_received plain_way t.ue t.bearer c b (frame_item false restart number (Some pdu)) r)
    frame_as = by (is_missing plain_way b number || false) (gap_after plain_way b number restart (Some pdu))
      where
        after : Du (Message Token) Token
        after = with_bearer plain_way t.ue t.bearer c (record b { awaited = number + 1; gap = gap_after plain_way b number restart (Some pdu) }) r

        after_here : Du (List ℕ) (List ℕ)
        after_here = du_again after

        by : (lost gap : Bool)
            → (gives (if lost then packet b.up b.uplink t.ue t.bearer Dl Absent (status (missing plain_way b number) None) ∷ [] else []) after_here
            then (λ s. if gap then drops Gap s else puts (radio t.ue t.bearer Dl c.epoch Same (pdu_octets (sn t.ue) pdu)) s))
            ≡ answer_again spelled sn du_again
            (gives (if lost then packet b.up b.uplink t.ue t.bearer Dl Absent (status (missing plain_way b number) None) ∷ [] else []) after
            then (λ s. if gap then drops Gap s else puts (radio t.ue t.bearer Dl c.epoch Same pdu) s))
        by true true = refl
        by true false = refl
        by false true = refl
        by false false = refl

  pub reads_frame : ReadsItems codec → (teid : ℕ) (t : DuTunnel) (c : DuContext) (b : DuBearer) (restart : Bool) (number count : ℕ) (p : List ℕ)
      → teid < 2 ^ 32 → number < 2 ^ 24 → on.IsSized p → find nat_cmp r.tunnels teid ≡ Some t → context_of r t.ue ≡ Some c
      → find bearer_cmp c.bearers t.bearer ≡ Some b → c.sn ≡ sn t.ue
      → du_steps codec here (ins.Packet teid (load_octets teid (written_load (sn t.ue) (frame false restart number (Some (packet_pdu count p))))))
      ≡ answer_again spelled sn du_again (du_acts plain_way r (packet_input teid (frame_item false restart number (Some (packet_pdu count p)))))
  unfolding du_steps read_at_du f1u_downlink_packet
  reads_frame reads teid t c b restart number count p fits numbered sized is_open there has long =
      ap (λ x. acts_on (du_acts (octet_way codec) here) here x)
      (ap (read_du_item codec here teid octets) is_open ∙ ap (read_du_context codec teid octets) there ∙ ap (du_item_read codec teid) is_read)
      ∙ frame_by (octet_way codec) here c b teid (frame_item false restart number (Some (radio_data (sn t.ue) count p))) t is_open there has
      ∙ frame_as teid t c b restart number (packet_pdu count p)
      ∙ ap (answer_again spelled sn du_again)
      (sym (frame_by plain_way r c b teid (frame_item false restart number (Some (packet_pdu count p))) t is_open there has))
    where
      octets : List ℕ
      octets = f1u_downlink_packet restart (sn t.ue) teid number count p

      is_read : codec.read_item on.f1u_downlink c.sn octets
          ≡ Some (on.framed restart number (data_pdu (count % space (sn t.ue)) p) (radio_data (sn t.ue) count p))
      is_read =
          ap (λ (bits : SnBits). codec.read_item on.f1u_downlink bits octets) long
          ∙ reads.found on.f1u_downlink (sn t.ue) (on.framed restart number (data_pdu (count % space (sn t.ue)) p) (radio_data (sn t.ue) count p)) octets
          (f1u_downlink_packet_decodes restart (sn t.ue) teid number count p fits numbered sized)

  -- ---- a PDU that was confirmed on the radio

  pub reads_confirmed : ReadsPdus codec → (ue : UeId) (bearer : BearerId) (c : DuContext) (b : DuBearer) (count : ℕ) (p : List ℕ) → on.IsSized p
      → context_of r ue ≡ Some c → find bearer_cmp c.bearers bearer ≡ Some b → c.sn ≡ sn ue
      → du_steps codec here (ins.Confirm ue bearer Dl (pdu_octets (sn ue) (packet_pdu count p)))
      ≡ answer_again spelled sn du_again (du_acts plain_way r (confirm_input ue bearer Dl (packet_pdu count p) (content_of (packet_pdu count p))))
  unfolding du_steps read_at_du du_acts
  reads_confirmed reads ue bearer c b count p sized there has long =
      ap (λ x. acts_on (du_acts (octet_way codec) here) here x)
      (ap (read_du_pdu codec (λ content. confirm_input ue bearer Dl octets (content_by no_count content)) octets) there
      ∙ ap (pdu_read codec (λ content. confirm_input ue bearer Dl octets (content_by no_count content))) is_read)
      ∙ confirm_by (octet_way codec) here c b ue bearer octets there has
      ∙ ap (λ o. confirmed (octet_way codec) ue bearer here b (number_in o)) is_read
      ∙ ap (answer_again spelled sn du_again) (sym (confirm_by plain_way r c b ue bearer (packet_pdu count p) there has))
    where
      octets : List ℕ
      octets = radio_data (sn ue) count p

      is_read : codec.read_pdu c.sn octets ≡ Some (data_pdu (count % space (sn ue)) p)
      is_read =
          ap (λ (bits : SnBits). codec.read_pdu bits octets) long
          ∙ reads.found (sn ue) (data_pdu (count % space (sn ue)) p) octets (data_carried (sn ue) count p sized)

-- What a unit of a run answers, over octets.
use Rattle.std.proofs.Common.{◌≡◌, ℕ, ◌^◌, ◌<◌, Bool, false, List, [], ◌∷◌, map, Option, Some, refl, sym, ap, ◌∙◌, subst}
use Rattle.std.specs.Ordering.{nat_cmp}
use Rattle.gnb_types.specs.declared.names.Gnb.{Gnb}
use Rattle.gnb_types.specs.declared.names.NodeId.TheVariants.{CuUp as up_id, Du as du_id, Ue}
use Rattle.gnb_types.specs.declared.names.UeId.{UeId}
use Rattle.gnb_types.specs.declared.names.BearerId.{BearerId}
use Rattle.gnb_types.specs.declared.names.Dir.TheVariants.{Dl}
use Rattle.gnb_types.specs.declared.inputs.Input.TheVariants as ins
use Rattle.gnb_types.specs.Orders.{bearer_cmp}
use Rattle.message_types.specs.declared.rrc.Token.{Token}
use Rattle.tables.specs.Tables.{find}
use Rattle.pdcp_defs.specs.Counts.{number_of, near_count}
use Rattle.nr_user_plane.specs.declared.frames.Frame.TheVariants.{Status}
use Rattle.nr_user_plane.specs.Frames.{FitsFrame}
use Rattle.link_defs.specs.Layouts.{desired_buffer_size}
use Rattle.link_defs.specs.Decoding.{IsSized}
use Rattle.unit_defs.specs.Ways.{Message, Pdu, Load, fresh, frame, status, packet_pdu, packet_input, radio_input, confirm_input, Output, control, packet, radio, deliver, dropped, held, opened, closed, failed, no, Answer, gives, spent}
use Rattle.unit_defs.specs.CuUpRecords.{CuUpBearer, CuUpContext, n3, f1u_uplink, CuUpTunnel, CuUp}
use Rattle.unit_defs.specs.CuUp.{context_of as up_context_of, cu_up_acts}
use Rattle.unit_defs.specs.Du.{Du, DuBearer, DuContext, DuTunnel, context_of as du_context_of, du_acts}
use Rattle.unit_defs.specs.Ue.{UeNode, UeBearer, ue_acts}
use Rattle.unit_defs.specs.octet_defs.Codec.{Codec}
use Rattle.unit_defs.specs.octet_defs.Reading.{count_confirmed}
use Rattle.unit_defs.specs.octet_defs.Writing.{on_option, output_of, outputs_of}
use Rattle.unit_defs.specs.octet_defs.Units.{cu_up_steps, du_steps}
use Rattle.unit_defs.specs.codec_defs.Reading.{ReadsItems, ReadsPdus}
use Rattle.run_defs.specs.Units.{cu_up_of, with_cu_up, du_of, with_du, ue_of, with_ue}
use Rattle.run_defs.specs.Written.{Written, written_put, written_item, written_pdu, written_step}
use Rattle.run_defs.specs.States.{stepped, entity, item_for, carried_for, confirmed_for, sn_of}
use Rattle.run_defs.specs.Runs.{Reading, plain_way, content_of, taken_of, stepped_with, ue_stepped}
use Rattle.run_defs.specs.UnitRuns.{put_of, stepped_by, answered_with, ue_answers, tables}
use Rattle.law_octets_say_the_same.specs.octet_rows.Octets.{up_again, du_again, put_again as octets_of, answer_again}
use Rattle.law_octets_say_the_same.proofs.octet_rows.UpReads.{reads_packet as up_reads_packet, reads_status}
use Rattle.law_octets_say_the_same.proofs.octet_rows.Dus.{reads_frame, reads_confirmed}
use Rattle.law_octets_say_the_same.proofs.octet_rows.Ues.{reads_packet as ue_reads_packet}
use Rattle.law_octets_say_the_same.specs.octet_runs.Again.{PlainState, units_again, put_again, stepped_again}
use Rattle.law_octets_say_the_same.specs.octet_runs.Faithful.{ReadsAlike}
use Rattle.law_octets_say_the_same.proofs.octet_runs.Endings.{encode}
use Rattle.law_octets_say_the_same.proofs.octet_runs.Puts.{OnTunnel, OnRadio}
use Rattle.law_octets_say_the_same.proofs.octet_runs.Events.{up_of_again, du_of_again}
use Rattle.law_octets_say_the_same.proofs.octet_runs.Statics.{with_up_again, with_du_again}

abbrev PlainOut : Type 0
PlainOut = Output (Message Token) Pdu

module _ (codec : Codec) (reading : Reading) (s : PlainState) where
  -- ---- outputs, as they stand on links

  output_as : (o : PlainOut) → put_of (output_of (octets_of (encode codec) (sn_of s) o)) ≡ put_again (encode codec) (written_put (sn_of s) o)
  output_as (control to ue message) = refl
  output_as (packet to teid ue bearer dir tag load) = refl
  output_as (radio ue bearer dir epoch tag pdu) = refl
  output_as (deliver ue bearer dir count p) = refl
  output_as (dropped reason) = refl
  output_as (held reason) = refl
  output_as (opened teid) = refl
  output_as (closed teid) = refl
  output_as (failed ue cause) = refl
  output_as (no reason) = refl

  outputs_as : (os : List PlainOut)
      → map put_of (outputs_of (map (octets_of (encode codec) (sn_of s)) os)) ≡ map (put_again (encode codec)) (map (written_put (sn_of s)) os)
  outputs_as [] = refl
  outputs_as (o ∷ os) = λ i. output_as o i ∷ outputs_as os i

  -- ---- a CU-UP

  module _ (g : Gnb) (n : ℕ) where
    abbrev up : CuUp (Message Token) Token
    up = cu_up_of s.units g n

    up_answered : (a : Answer (Message Token) Pdu (CuUp (Message Token) Token))
        → stepped_by (answered_with codec (with_cu_up (units_again s.units) g n) (answer_again (encode codec) (sn_of s) up_again a))
        ≡ stepped_again (encode codec) (written_step (sn_of s) (stepped_with reading (with_cu_up s.units g n) a))
    up_answered (gives os after) = λ i. stepped (outputs_as os i) (with_up_again s.units g n after i)
    up_answered (spent counter) = refl

    up_alike : (teid : ℕ) (item : OnTunnel)
        → cu_up_steps codec (up_again up) (ins.Packet teid item.content.octets)
        ≡ answer_again (encode codec) (sn_of s) up_again (cu_up_acts plain_way up (packet_input teid (taken_of item.content.says)))
        → ReadsAlike codec reading s (up_id g n) (item_for teid item)
    unfolding tables
    up_alike teid item same =
        ap (λ r. stepped_by (answered_with codec (with_cu_up (units_again s.units) g n) (cu_up_steps codec r (ins.Packet teid item.content.octets)))) (up_of_again s.units g n)
        ∙ ap (λ a. stepped_by (answered_with codec (with_cu_up (units_again s.units) g n) a)) same
        ∙ up_answered (cu_up_acts plain_way up (packet_input teid (taken_of item.content.says)))

    -- a packet of N3
    pub up_reads : ReadsItems codec → (teid : ℕ) (t : CuUpTunnel) (c : CuUpContext) (b : CuUpBearer) (p : List ℕ) (item : OnTunnel) → teid < 2 ^ 32 → IsSized p
        → find nat_cmp up.tunnels teid ≡ Some t → t.kind ≡ n3 → up_context_of up t.ue ≡ Some c → find bearer_cmp c.bearers t.bearer ≡ Some b
        → c.sn ≡ sn_of s t.ue → item.content ≡ written_item (sn_of s t.ue) teid (fresh p) → ReadsAlike codec reading s (up_id g n) (item_for teid item)
    up_reads reads teid t c b p item fits sized is_open kind there has long says =
        up_alike teid item
        (subst (λ (w : Written (Load Pdu)). cu_up_steps codec (up_again up) (ins.Packet teid w.octets)
        ≡ answer_again (encode codec) (sn_of s) up_again (cu_up_acts plain_way up (packet_input teid (taken_of w.says)))) (sym says)
        (up_reads_packet codec reads (encode codec) (sn_of s) up teid fits t c b is_open there has long p sized kind))

    -- a delivery status that reports no loss
    pub up_reads_status : ReadsItems codec → (teid : ℕ) (t : CuUpTunnel) (c : CuUpContext) (b : CuUpBearer) (delivered : Option ℕ) (item : OnTunnel) → teid < 2 ^ 32
        → find nat_cmp up.tunnels teid ≡ Some t → t.kind ≡ f1u_uplink → up_context_of up t.ue ≡ Some c → find bearer_cmp c.bearers t.bearer ≡ Some b
        → c.sn ≡ sn_of s t.ue → count_confirmed c.sn b (on_option (number_of (sn_of s t.ue)) delivered) ≡ delivered
        → FitsFrame (Status desired_buffer_size [] (on_option (number_of (sn_of s t.ue)) delivered))
        → item.content ≡ written_item (sn_of s t.ue) teid (status [] delivered) → ReadsAlike codec reading s (up_id g n) (item_for teid item)
    up_reads_status reads teid t c b delivered item fits is_open kind there has long found framed says =
        up_alike teid item
        (subst (λ (w : Written (Load Pdu)). cu_up_steps codec (up_again up) (ins.Packet teid w.octets)
        ≡ answer_again (encode codec) (sn_of s) up_again (cu_up_acts plain_way up (packet_input teid (taken_of w.says)))) (sym says)
        (reads_status codec reads (encode codec) (sn_of s) up teid fits t c b is_open there has long [] delivered kind found framed))

  -- ---- a DU

  module _ (g : Gnb) (n : ℕ) where
    abbrev du : Du (Message Token) Token
    du = du_of s.units g n

    du_answered : (a : Answer (Message Token) Pdu (Du (Message Token) Token))
        → stepped_by (answered_with codec (with_du (units_again s.units) g n) (answer_again (encode codec) (sn_of s) du_again a))
        ≡ stepped_again (encode codec) (written_step (sn_of s) (stepped_with reading (with_du s.units g n) a))
    du_answered (gives os after) = λ i. stepped (outputs_as os i) (with_du_again s.units g n after i)
    du_answered (spent counter) = refl

    du_alike : (teid : ℕ) (item : OnTunnel)
        → du_steps codec (du_again du) (ins.Packet teid item.content.octets)
        ≡ answer_again (encode codec) (sn_of s) du_again (du_acts plain_way du (packet_input teid (taken_of item.content.says)))
        → ReadsAlike codec reading s (du_id g n) (item_for teid item)
    unfolding tables
    du_alike teid item same =
        ap (λ r. stepped_by (answered_with codec (with_du (units_again s.units) g n) (du_steps codec r (ins.Packet teid item.content.octets)))) (du_of_again s.units g n)
        ∙ ap (λ a. stepped_by (answered_with codec (with_du (units_again s.units) g n) a)) same
        ∙ du_answered (du_acts plain_way du (packet_input teid (taken_of item.content.says)))

    -- a frame with a packet
    pub du_reads : ReadsItems codec → (teid : ℕ) (t : DuTunnel) (c : DuContext) (b : DuBearer) (restart : Bool) (number count : ℕ) (p : List ℕ) (item : OnTunnel)
        → teid < 2 ^ 32 → number < 2 ^ 24 → IsSized p → find nat_cmp du.tunnels teid ≡ Some t → du_context_of du t.ue ≡ Some c
        → find bearer_cmp c.bearers t.bearer ≡ Some b → c.sn ≡ sn_of s t.ue
        → item.content ≡ written_item (sn_of s t.ue) teid (frame false restart number (Some (packet_pdu count p)))
        → ReadsAlike codec reading s (du_id g n) (item_for teid item)
    du_reads reads teid t c b restart number count p item fits numbered sized is_open there has long says =
        du_alike teid item
        (subst (λ (w : Written (Load Pdu)). du_steps codec (du_again du) (ins.Packet teid w.octets)
        ≡ answer_again (encode codec) (sn_of s) du_again (du_acts plain_way du (packet_input teid (taken_of w.says)))) (sym says)
        (reads_frame codec (encode codec) (sn_of s) du reads teid t c b restart number count p fits numbered sized is_open there has long))

    -- a packet that was confirmed on the radio
    pub du_reads_confirmed : ReadsPdus codec → (ue : UeId) (bearer : BearerId) (c : DuContext) (b : DuBearer) (count : ℕ) (p : List ℕ) (item : OnRadio) → IsSized p
        → du_context_of du ue ≡ Some c → find bearer_cmp c.bearers bearer ≡ Some b → c.sn ≡ sn_of s ue
        → item.key ≡ entity ue bearer Dl → item.content ≡ written_pdu (sn_of s ue) (packet_pdu count p)
        → ReadsAlike codec reading s (du_id g n) (confirmed_for item)
    unfolding tables
    du_reads_confirmed reads ue bearer c b count p item sized there has long key says =
        (λ i. stepped_by (answered_with codec (with_du (units_again s.units) g n)
        (du_steps codec (du_of_again s.units g n i) (ins.Confirm (key i).ue (key i).bearer (key i).dir (says i).octets))))
        ∙ ap (λ a. stepped_by (answered_with codec (with_du (units_again s.units) g n) a))
        (reads_confirmed codec (encode codec) (sn_of s) du reads ue bearer c b count p sized there has long)
        ∙ du_answered (du_acts plain_way du (confirm_input ue bearer Dl (packet_pdu count p) (content_of (packet_pdu count p))))
        ∙ sym (λ i. stepped_again (encode codec) (written_step (sn_of s) (stepped_with reading (with_du s.units g n)
        (du_acts plain_way du (confirm_input (key i).ue (key i).bearer (key i).dir (says i).says (content_of (says i).says))))))

  -- ---- a terminal

  module _ (ue : UeId) (u : UeNode) (is : ue_of s.units ue ≡ Some u) where
    ue_answered : (a : Answer (Message Token) Pdu UeNode)
        → stepped_by (answered_with codec (with_ue (units_again s.units) ue) (answer_again (encode codec) (sn_of s) (λ x. x) a))
        ≡ stepped_again (encode codec) (written_step (sn_of s) (stepped_with reading (with_ue s.units ue) a))
    ue_answered (gives os after) = λ i. stepped (outputs_as os i) (units_again (with_ue s.units ue after))
    ue_answered (spent counter) = refl

    -- a packet
    pub ue_reads : ReadsPdus codec → (bearer : BearerId) (b : UeBearer) (count : ℕ) (p : List ℕ) (item : OnRadio) → IsSized p
        → find bearer_cmp u.bearers bearer ≡ Some b → u.plan.sn ≡ sn_of s ue → near_count u.plan.sn b.receiver.deliv (number_of u.plan.sn count) ≡ Some count
        → item.key ≡ entity ue bearer Dl → item.content ≡ written_pdu (sn_of s ue) (packet_pdu count p)
        → ReadsAlike codec reading s (Ue ue.0) (carried_for item)
    unfolding tables
    ue_reads reads bearer b count p item sized has long near key says =
        (λ i. stepped_by (ue_answers codec (units_again s.units) ue.0 (ins.Radio (key i).ue (key i).bearer (key i).dir (says i).octets) (is i)))
        ∙ ap (λ a. stepped_by (answered_with codec (with_ue (units_again s.units) ue) a))
        (ue_reads_packet codec (encode codec) (sn_of s) u bearer b count p reads ue sized has long near)
        ∙ ue_answered (ue_acts plain_way u (radio_input ue bearer Dl (packet_pdu count p) (content_of (packet_pdu count p))))
        ∙ sym (λ i. stepped_again (encode codec) (written_step (sn_of s) (ue_stepped reading s.units ue.0
        (radio_input (key i).ue (key i).bearer (key i).dir (says i).says (content_of (says i).says)) (is i))))

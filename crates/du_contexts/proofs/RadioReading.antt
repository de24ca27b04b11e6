-- What a PDU of a radio says to a DU, by a lawful codec.
use Rattle.std.proofs.Common.{◌≡◌, ℕ, List, Option, Some, sym, ap, ◌∙◌}
use Rattle.gnb_types.specs.declared.names.UeId.{UeId}
use Rattle.gnb_types.specs.declared.names.BearerId.{BearerId}
use Rattle.gnb_types.specs.declared.names.Dir.TheVariants.{Dl, Ul}
use Rattle.gnb_types.specs.declared.inputs.Input.TheVariants as ins
use Rattle.gnb_types.specs.declared.reasons.DropReason.{DropReason}
use Rattle.gnb_types.specs.declared.reasons.DropReason.TheVariants.{NoContext, Undecodable}
use Rattle.gnb_types.specs.declared.reasons.DropReason.TheVariants as reasons
use Rattle.gnb_types.specs.Orders.{ue_cmp}
use Rattle.tables.specs.Tables.{find}
use Rattle.pdcp.specs.Pdus.{Content}
use Rattle.unit_defs.specs.Ways.{Input, radio_input, confirm_input, drops}
use Rattle.unit_defs.specs.Du.{DuContext, du_acts, pass_up, confirm}
use Rattle.unit_defs.specs.octet_defs.Codec.{Codec, octet_way, number_in}
use Rattle.unit_defs.specs.octet_defs.Reading.{read_at_du, read_du_pdu, pdu_read, content_by, no_count}
use Rattle.unit_defs.specs.octet_defs.Units.{acts_on, du_steps}
use Rattle.unit_defs.specs.codec_defs.Reading.{ReadsPdus}
use Rattle.du_contexts.specs.Tables.{OctetDu, DuTables, with_tables}
use Rattle.du_contexts.specs.RadioPdus.{IsPdu, IsNoPdu}

module _ (codec : Codec) (r : OctetDu) (t : DuTables) (ue : UeId) (bearer : BearerId) (octets : List ℕ) (lawful : ReadsPdus codec) where
  -- the PDU is read with the length of numbers of the terminal's context
  read_as : (input : Content → Input (List ℕ) (List ℕ)) (number : Option ℕ) (pdu : IsPdu t ue octets number)
      → acts_on (du_acts (octet_way codec) (with_tables r t)) (with_tables r t) (read_du_pdu codec input octets (find ue_cmp t.contexts ue))
      ≡ du_acts (octet_way codec) (with_tables r t) (input pdu.content)
  read_as input number pdu =
      ap (λ (o : Option DuContext). acts_on (du_acts (octet_way codec) (with_tables r t)) (with_tables r t) (read_du_pdu codec input octets o)) pdu.has_context
      ∙ ap (λ (o : Option Content). acts_on (du_acts (octet_way codec) (with_tables r t)) (with_tables r t) (pdu_read codec input o))
      (lawful.found pdu.context.sn pdu.content octets pdu.carries)

  not_read : (input : Content → Input (List ℕ) (List ℕ)) (reason : DropReason) → IsNoPdu t ue octets reason
      → acts_on (du_acts (octet_way codec) (with_tables r t)) (with_tables r t) (read_du_pdu codec input octets (find ue_cmp t.contexts ue))
      ≡ drops reason (with_tables r t)
  not_read input NoContext none =
      ap (λ (o : Option DuContext). acts_on (du_acts (octet_way codec) (with_tables r t)) (with_tables r t) (read_du_pdu codec input octets o)) none
  not_read input Undecodable nothing =
      ap (λ (o : Option DuContext). acts_on (du_acts (octet_way codec) (with_tables r t)) (with_tables r t) (read_du_pdu codec input octets o)) nothing.has_context
      ∙ ap (λ (o : Option Content). acts_on (du_acts (octet_way codec) (with_tables r t)) (with_tables r t) (pdu_read codec input o))
      (lawful.none nothing.context.sn octets nothing.none)
  not_read input reasons.Criticality bad = absurd bad
  not_read input reasons.NoTunnel bad = absurd bad
  not_read input reasons.Stale bad = absurd bad
  not_read input reasons.Busy bad = absurd bad
  not_read input reasons.Duplicate bad = absurd bad
  not_read input reasons.Gap bad = absurd bad
  not_read input reasons.Unexpected bad = absurd bad

  pub radio_read : (number : Option ℕ) → IsPdu t ue octets number
      → du_steps codec (with_tables r t) (ins.Radio ue bearer Ul octets) ≡ pass_up (octet_way codec) ue bearer octets (with_tables r t)
  unfolding du_steps read_at_du du_acts
  radio_read number pdu = read_as (λ content. radio_input ue bearer Ul octets (content_by no_count content)) number pdu

  pub radio_not_read : (reason : DropReason) → IsNoPdu t ue octets reason
      → du_steps codec (with_tables r t) (ins.Radio ue bearer Ul octets) ≡ drops reason (with_tables r t)
  unfolding du_steps read_at_du
  radio_not_read reason none = not_read (λ content. radio_input ue bearer Ul octets (content_by no_count content)) reason none

  pub confirm_read : (number : Option ℕ) → IsPdu t ue octets number
      → du_steps codec (with_tables r t) (ins.Confirm ue bearer Dl octets) ≡ confirm (octet_way codec) ue bearer octets (with_tables r t)
  unfolding du_steps read_at_du du_acts
  confirm_read number pdu = read_as (λ content. confirm_input ue bearer Dl octets (content_by no_count content)) number pdu

  pub confirm_not_read : (reason : DropReason) → IsNoPdu t ue octets reason
      → du_steps codec (with_tables r t) (ins.Confirm ue bearer Dl octets) ≡ drops reason (with_tables r t)
  unfolding du_steps read_at_du
  confirm_not_read reason none = not_read (λ content. confirm_input ue bearer Dl octets (content_by no_count content)) reason none

  -- the number that a delivery status reports
  pub number_read : (number : Option ℕ) → IsPdu t ue octets number
      → (c : DuContext) → find ue_cmp t.contexts ue ≡ Some c → (octet_way codec).number c.sn octets ≡ number
  number_read number pdu c has_context =
      let same : pdu.context ≡ c = cc in
      ap (λ (d : DuContext). number_in (codec.read_pdu d.sn octets)) (sym same)
      ∙ ap number_in (lawful.found pdu.context.sn pdu.content octets pdu.carries) ∙ pdu.number_is

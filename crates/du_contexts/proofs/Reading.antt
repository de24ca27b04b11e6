-- What octets say to a DU, by a lawful codec.
use Rattle.std.proofs.Common.{◌≡◌, ℕ, true, false, List, Option, Some, sym, ap, ◌∙◌}
use Rattle.std.specs.Prelude.{is_some}
use Rattle.gnb_types.specs.declared.names.UeId.{UeId}
use Rattle.gnb_types.specs.declared.names.BearerId.{BearerId}
use Rattle.gnb_types.specs.declared.names.SnBits.{SnBits}
use Rattle.gnb_types.specs.declared.inputs.Input.TheVariants as ins
use Rattle.gnb_types.specs.declared.reasons.DropReason.TheVariants.{Undecodable}
use Rattle.gnb_types.specs.Orders.{ue_cmp}
use Rattle.tables.specs.Tables.{find}
use Rattle.link_defs.specs.Decoding.{Item, f1u_downlink, DecodesOn}
use Rattle.unit_defs.specs.Ways.{drops}
use Rattle.unit_defs.specs.Du.{DuContext, DuTunnel, du_acts, take, taken_on, taken_of}
use Rattle.unit_defs.specs.octet_defs.Codec.{Codec, octet_way}
use Rattle.unit_defs.specs.octet_defs.Reading.{du_item, read_at_du, read_du_item, read_du_context, du_item_read, du_link, du_link_of, du_sn}
use Rattle.unit_defs.specs.octet_defs.Units.{acts_on, du_steps}
use Rattle.unit_defs.specs.codec_defs.Reading.{ReadsItems}
use Rattle.du_contexts.specs.declared.packets.RadioKey.{RadioKey}
use Rattle.du_contexts.specs.Tables.{OctetDu, DuTables, with_tables, IsTunnel, is_item}

module _ (codec : Codec) (r : OctetDu) (t : DuTables) (teid : ℕ) (key : RadioKey) (sn : SnBits) (octets : List ℕ)
    (tunnel : IsTunnel t teid key sn) where
  -- the item is read with the length of numbers of the tunnel's terminal
  is_read : du_steps codec (with_tables r t) (ins.Packet teid octets)
      ≡ acts_on (du_acts (octet_way codec) (with_tables r t)) (with_tables r t) (du_item_read codec teid (codec.read_item f1u_downlink sn octets))
  unfolding du_steps read_at_du
  is_read =
      ap (λ (o : Option DuTunnel). acts_on (du_acts (octet_way codec) (with_tables r t)) (with_tables r t) (read_du_item codec (with_tables r t) teid octets o)) tunnel.is_open
      ∙ ap (λ (u : UeId). acts_on (du_acts (octet_way codec) (with_tables r t)) (with_tables r t) (read_du_context codec teid octets (find ue_cmp t.contexts u))) (sym tunnel.ue)
      ∙ ap (λ (o : Option DuContext). acts_on (du_acts (octet_way codec) (with_tables r t)) (with_tables r t) (read_du_context codec teid octets o)) tunnel.has_context
      ∙ ap (λ (s : SnBits). acts_on (du_acts (octet_way codec) (with_tables r t)) (with_tables r t) (du_item_read codec teid (codec.read_item f1u_downlink s octets))) (sym tunnel.sn_is)

  pub item_taken : (item : Item) → ReadsItems codec → DecodesOn f1u_downlink sn item octets
      → du_steps codec (with_tables r t) (ins.Packet teid octets)
      ≡ taken_of (octet_way codec) key.ue key.bearer (du_item item) (with_tables r t) (find ue_cmp t.contexts key.ue)
  unfolding du_acts take
  item_taken item lawful decodes =
      is_read
      ∙ ap (λ (o : Option Item). acts_on (du_acts (octet_way codec) (with_tables r t)) (with_tables r t) (du_item_read codec teid o)) (lawful.found f1u_downlink sn item octets decodes)
      ∙ ap (λ (o : Option DuTunnel). taken_on (octet_way codec) (du_item item) (with_tables r t) o) tunnel.is_open
      ∙ ap (λ (u : UeId). taken_of (octet_way codec) u tunnel.tunnel.bearer (du_item item) (with_tables r t) (find ue_cmp t.contexts u)) (sym tunnel.ue)
      ∙ ap (λ (b : BearerId). taken_of (octet_way codec) key.ue b (du_item item) (with_tables r t) (find ue_cmp t.contexts key.ue)) (sym tunnel.bearer)

  pub nothing_read : ReadsItems codec → ((item : Item) → DecodesOn f1u_downlink sn item octets → ⊥)
      → du_steps codec (with_tables r t) (ins.Packet teid octets) ≡ drops Undecodable (with_tables r t)
  nothing_read lawful none =
      is_read
      ∙ ap (λ (o : Option Item). acts_on (du_acts (octet_way codec) (with_tables r t)) (with_tables r t) (du_item_read codec teid o)) (lawful.none f1u_downlink sn octets none)

  -- the link of the tunnel, and whether octets are an item of it
  link_is : du_link (with_tables r t) teid ≡ Some (f1u_downlink, sn)
  link_is =
      ap (λ (o : Option DuTunnel). du_link_of (with_tables r t) o) tunnel.is_open
      ∙ ap (λ (u : UeId). du_sn (find ue_cmp t.contexts u)) (sym tunnel.ue)
      ∙ ap du_sn tunnel.has_context
      ∙ ap (λ (s : SnBits). Some (f1u_downlink, s)) (sym tunnel.sn_is)

  pub decodes_there : (item : Item) → ReadsItems codec → DecodesOn f1u_downlink sn item octets
      → true ≡ is_item codec octets (du_link (with_tables r t) teid)
  decodes_there item lawful decodes =
      sym (ap (is_item codec octets) link_is ∙ ap is_some (lawful.found f1u_downlink sn item octets decodes))

  pub decodes_not : ReadsItems codec → ((item : Item) → DecodesOn f1u_downlink sn item octets → ⊥)
      → false ≡ is_item codec octets (du_link (with_tables r t) teid)
  decodes_not lawful none =
      sym (ap (is_item codec octets) link_is ∙ ap is_some (lawful.none f1u_downlink sn octets none))

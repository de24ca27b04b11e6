-- The octets of an item that may stand somewhere have a layout of the links that lead there.
use Rattle.std.proofs.Common.{ℕ, true, false, List, [], ◌∷◌, Option, Some, None, ◌⊎◌, inl, inr, refl, sym, subst}
use Rattle.std.specs.List.{AllByRecursion}
use Rattle.gnb_types.specs.declared.names.NodeId.{NodeId}
use Rattle.gnb_types.specs.declared.names.NodeId.TheVariants.{CuUp, Du}
use Rattle.gnb_types.specs.declared.names.Dir.{Dir}
use Rattle.gnb_types.specs.declared.names.Dir.TheVariants.{Dl, Ul}
use Rattle.gnb_types.specs.declared.names.SnBits.{SnBits}
use Rattle.gnb_types.specs.declared.keys.TunnelEnd.{TunnelEnd}
use Rattle.message_types.specs.declared.rrc.Token.{Token}
use Rattle.link_defs.specs.Layouts.{f1u_downlink_packet, f1u_downlink_report, f1u_downlink_poll}
use Rattle.unit_defs.specs.Ways.{Message, Pdu, packet_pdu, report_pdu, Load, fresh, numbered, frame, uplink, status, end_marker}
use Rattle.unit_defs.specs.octet_defs.Writing.{pdu_octets, load_octets, written_load}
use Rattle.transport_defs.specs.declared.Item.{Item}
use Rattle.run_defs.specs.Carried.{ForwardingDown, ForwardingUp, F1uDownlink, F1uUplink, IsDeliveryStatus, IsRadioData, IsRadioReport}
use Rattle.run_defs.specs.Written.{Written}
use Rattle.run_defs.specs.States.{State, radio_of}
use Rattle.proof_run_steps.specs.facts.Facts.{Hold}
use Rattle.proof_run_steps.specs.facts.UnitFacts.{said_item, HasOctets, HasPduOctets, written_facts}
use Rattle.law_tunnels_are_owned.specs.link_items.Items.{count_of_pdu, count_of_load, GoesDown, GoesUp, GoesToDu, MayStand, IsOnTunnel, IsOnRadio}
use Rattle.law_tunnels_are_owned.specs.link_items.Octets.{layout_to, IsLaidTo, IsLaidOnAir, ItemsAreLaid}
use Rattle.law_tunnels_are_owned.proofs.link_items.Names.{link_items}

-- to a DU
pub to_du_laid : (teid : ℕ) (sn : SnBits) (load : Load Pdu) → GoesToDu load
    → F1uDownlink sn teid (count_of_load load) (load_octets teid (written_load sn load))
unfolding f1u_downlink_packet f1u_downlink_report f1u_downlink_poll
to_du_laid teid sn (frame true false number None) p = inr (inr (number, refl))
to_du_laid teid sn (frame true true number None) p = absurd cc
to_du_laid teid sn (frame false restart number None) p = absurd cc
to_du_laid teid sn (frame false restart number (Some (packet_pdu count x))) p = inl (restart, number, x, refl)
to_du_laid teid sn (frame true restart number (Some (packet_pdu count x))) p = absurd cc
to_du_laid teid sn (frame false false number (Some (report_pdu fmc bits))) p = inr (inl (number, fmc, bits, refl))
to_du_laid teid sn (frame false true number (Some (report_pdu fmc bits))) p = absurd cc
to_du_laid teid sn (frame true restart number (Some (report_pdu fmc bits))) p = absurd cc
to_du_laid teid sn load p = absurd p

-- down to a CU-UP: a numbered packet has numbers of its own length
down_laid : (teid : ℕ) (sn : SnBits) (load : Load Pdu) → GoesDown load
    → (bits : SnBits) × (ForwardingDown bits teid (count_of_load load) (load_octets teid (written_load sn load))
    ⊎ IsDeliveryStatus bits teid (count_of_load load) (load_octets teid (written_load sn load)))
down_laid teid sn (fresh x) p = (sn, inl (inl (x, refl)))
down_laid teid sn (numbered bits count x) p = (bits, inl (inr (inl (x, refl))))
down_laid teid sn (status lost delivered) p = (sn, inr (lost, _, refl))
down_laid teid sn end_marker p = (sn, inl (inr (inr refl)))
down_laid teid sn (frame poll restart number pdu) p = absurd p
down_laid teid sn (uplink pdu) p = absurd p

-- up to a CU-UP
up_laid : (teid : ℕ) (sn : SnBits) (load : Load Pdu) → GoesUp load
    → (bits : SnBits) × (F1uUplink bits teid (count_of_load load) (load_octets teid (written_load sn load))
    ⊎ ForwardingUp bits teid (count_of_load load) (load_octets teid (written_load sn load)))
up_laid teid sn (uplink (packet_pdu count x)) p = (sn, inl (inl (x, refl)))
up_laid teid sn (uplink (report_pdu fmc bits)) p = (sn, inl (inr (inl (fmc, bits, refl))))
up_laid teid sn (numbered bits count x) p = (bits, inr (inl (x, refl)))
up_laid teid sn end_marker p = (sn, inl (inr (inr refl)))
up_laid teid sn (fresh x) p = absurd p
up_laid teid sn (frame poll restart number pdu) p = absurd p
up_laid teid sn (status lost delivered) p = absurd p

laid : (teid : ℕ) (sn : SnBits) (node : NodeId) (dir : Dir) (load : Load Pdu) → MayStand node dir load
    → (bits : SnBits) × layout_to node dir bits teid (count_of_load load) (load_octets teid (written_load sn load))
laid teid sn (CuUp gnb number) Dl load p = down_laid teid sn load p
laid teid sn (CuUp gnb number) Ul load p = up_laid teid sn load p
laid teid sn (Du gnb number) Dl load p = (sn, to_du_laid teid sn load p)
laid teid sn node dir load p = absurd p

item_laid : (end : TunnelEnd) (item : Item (Written (Load Pdu))) → IsOnTunnel end (said_item item) → HasOctets end.teid item → IsLaidTo end item
item_laid end item is octets =
    let shape = laid end.teid octets.0 end.node item.key.dir item.content.says is.1 in (
      shape.0,
      subst (λ (o : List ℕ). layout_to end.node item.key.dir shape.0 end.teid item.count o) (sym octets.1)
          (subst (λ (c : Option ℕ). layout_to end.node item.key.dir shape.0 end.teid c (load_octets end.teid (written_load octets.0 item.content.says))) (sym is.0) shape.1),
    )

-- on a radio
pub pdu_laid : (sn : SnBits) (pdu : Pdu) → IsRadioData sn (count_of_pdu pdu) (pdu_octets sn pdu) ⊎ IsRadioReport (pdu_octets sn pdu)
pdu_laid sn (packet_pdu count x) = inl (x, refl)
pdu_laid sn (report_pdu fmc bits) = inr (fmc, bits, refl)

air_laid : (item : Item (Written Pdu)) → IsOnRadio (said_item item) → HasPduOctets item → IsLaidOnAir item
air_laid item is octets = (
  octets.0,
  subst (λ (o : List ℕ). IsRadioData octets.0 item.count o ⊎ IsRadioReport o) (sym octets.1)
      (subst (λ (c : Option ℕ). IsRadioData octets.0 c (pdu_octets octets.0 item.content.says) ⊎ IsRadioReport (pdu_octets octets.0 item.content.says)) (sym is)
      (pdu_laid octets.0 item.content.says)),
)

-- ---- in a state

pub map_all : {X : Type 0} (Q T : X → Type 0) (xs : List X) → ((x : X) → Q x → T x) → AllByRecursion Q xs → AllByRecursion T xs
map_all Q T [] f all = tt
map_all Q T (x ∷ xs) f all = (f x all.0, map_all Q T xs f all.1)

pub all_laid : (t : State (Message Token) Token (Written (Load Pdu)) (Written Pdu)) → Hold (written_facts link_items) t → ItemsAreLaid t
all_laid t h = record {
  tunnels = λ end items found.
      map_all (λ (item : Item (Written (Load Pdu))). IsOnTunnel end (said_item item) × HasOctets end.teid item) (IsLaidTo end) items
      (λ item p. item_laid end item p.0 p.1) (h.tunnels end items found);
  radios = λ key.
      map_all (λ (item : Item (Written Pdu)). IsOnRadio (said_item item) × HasPduOctets item) IsLaidOnAir (radio_of t key).items
      (λ item p. air_laid item p.0 p.1) (h.radios key);
}

-- Which packet an item says, read with numbers as long as its terminal's are; and what is put has the octets of its link.
use Rattle.std.specs.Prelude.{◌≡◌}
use Rattle.gnb_types.specs.declared.names.NodeId.{NodeId}
use Rattle.scenario_text.specs.declared.line.Link.TheVariants.{Tunnel, Radio}
use Rattle.unit_defs.specs.Ways.{Pdu, Load}
use Rattle.unit_defs.specs.octet_defs.Writing.{pdu_octets, load_octets, written_load}
use Rattle.run_defs.specs.Carried.{IsLaidOut}
use Rattle.run_defs.specs.States.{Lengths}
use Rattle.law_tunnels_are_owned.specs.link_items.Items.{count_of_pdu, count_of_load, MayStand}
use Rattle.law_tunnels_are_owned.specs.run_lengths.Lengths.{IsNumberedBy}
use Rattle.law_units_act_locally.specs.local_packets.Says.{packet_of_pdu, packet_of_load, Saying}

module _ (lengths : Lengths) where
  abbrev pub SaysLong : Saying
  SaysLong (Tunnel end teid) item said =
      (load : Load Pdu) × (said ≡ packet_of_load load) × MayStand end item.dir load × (item.count ≡ count_of_load load) × IsNumberedBy (lengths item.ue) load
      × (item.bytes ≡ load_octets teid (written_load (lengths item.ue) load))
  SaysLong (Radio ue bearer dir epoch) item said =
      (pdu : Pdu) × (said ≡ packet_of_pdu pdu) × (item.count ≡ count_of_pdu pdu) × (item.bytes ≡ pdu_octets (lengths item.ue) pdu)

  abbrev pub PutsLong : NodeId → Saying
  PutsLong actor link item said = SaysLong link item said × IsLaidOut (lengths item.ue) actor link item

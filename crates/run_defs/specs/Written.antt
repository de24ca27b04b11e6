-- What stands on the links of `Run`: what an item or PDU says, and beside it its octets, which are made for printing alone, when it is put.
use Rattle.std.specs.Prelude.{ℕ, List, map}
use Rattle.gnb_types.specs.declared.names.SnBits.{SnBits}
use Rattle.message_types.specs.declared.rrc.Token.{Token}
use Rattle.unit_defs.specs.Ways.{Message, Pdu, Load, Put, control, packet, radio, deliver, dropped, held, opened, closed, failed, no}
use Rattle.unit_defs.specs.octet_defs.Writing.{pdu_octets, load_octets, written_load}
use Rattle.run_defs.specs.States.{Lengths, Stepped, stepped, step_spent, CoreStepped}

pub record Written (X : Type 0) : Type 0 where
  pub says : X
  pub octets : List ℕ

abbrev pub written_item : SnBits → ℕ → Load Pdu → Written (Load Pdu)
written_item sn teid load = record { says = load; octets = load_octets teid (written_load sn load) }

abbrev pub written_pdu : SnBits → Pdu → Written Pdu
written_pdu sn pdu = record { says = pdu; octets = pdu_octets sn pdu }

-- what a unit puts, with its octets
abbrev pub written_put : Lengths → Put (Message Token) (Load Pdu) Pdu → Put (Message Token) (Written (Load Pdu)) (Written Pdu)
written_put sn (control to ue message) = control to ue message
written_put sn (packet to teid ue bearer dir tag load) = packet to teid ue bearer dir tag (written_item (sn ue) teid load)
written_put sn (radio ue bearer dir epoch tag pdu) = radio ue bearer dir epoch tag (written_pdu (sn ue) pdu)
written_put sn (deliver ue bearer dir count p) = deliver ue bearer dir count p
written_put sn (dropped reason) = dropped reason
written_put sn (held reason) = held reason
written_put sn (opened teid) = opened teid
written_put sn (closed teid) = closed teid
written_put sn (failed ue cause) = failed ue cause
written_put sn (no reason) = no reason

-- what units and the core do, and the same as it stands on links
abbrev pub PlainStepped : Type 0
PlainStepped = Stepped (Message Token) Token (Load Pdu) Pdu

abbrev pub WrittenStepped : Type 0
WrittenStepped = Stepped (Message Token) Token (Written (Load Pdu)) (Written Pdu)

abbrev pub WrittenCoreStepped : Type 0
WrittenCoreStepped = CoreStepped (Message Token) Token (Written (Load Pdu)) (Written Pdu)

abbrev pub written_step : Lengths → PlainStepped → WrittenStepped
written_step sn (stepped outputs units) = stepped (map (written_put sn) outputs) units
written_step sn (step_spent counter) = step_spent counter

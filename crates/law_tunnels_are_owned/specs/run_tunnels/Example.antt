-- A state to which no run comes: a packet of one terminal stands on the N3 tunnel of another one.
use Rattle.std.specs.Prelude.{List, [], ◌∷◌, None}
use Rattle.gnb_types.specs.declared.names.Gnb.TheVariants.{A}
use Rattle.gnb_types.specs.declared.names.NodeId.TheVariants.{CuUp}
use Rattle.gnb_types.specs.declared.names.Dir.TheVariants.{Dl}
use Rattle.gnb_types.specs.declared.keys.TunnelEnd.{TunnelEnd}
use Rattle.message_types.specs.declared.rrc.Token.{Token}
use Rattle.unit_defs.specs.Ways.{Message, Pdu, Load, fresh}
use Rattle.unit_defs.specs.CuUpRecords.{n3, CuUpTunnel}
use Rattle.unit_defs.specs.CuUp.{new_cu_up}
use Rattle.transport_defs.specs.declared.Item.{Item}
use Rattle.run_defs.specs.Units.{new_units, with_cu_up}
use Rattle.run_defs.specs.Written.{Written}
use Rattle.run_defs.specs.States.{State, new_state}

abbrev pub its_end : TunnelEnd
its_end = record { node = CuUp A 1; teid = 1 }

abbrev pub its_owner : CuUpTunnel
its_owner = record { ue = record { 0 = 1 }; bearer = record { 0 = 1 }; kind = n3; context = 1 }

abbrev pub its_items : List (Item (Written (Load Pdu)))
its_items =
    record {
      key = record { ue = record { 0 = 2 }; bearer = record { 0 = 1 }; dir = Dl };
      count = None;
      content = record { says = fresh []; octets = [] };
    } ∷ []

abbrev pub of_another : State (Message Token) Token (Written (Load Pdu)) (Written Pdu)
of_another = record new_state {
  units = with_cu_up new_units A 1 (record (new_cu_up A 1) { tunnels = (1, its_owner) ∷ [] });
  tunnels = (its_end, its_items) ∷ [];
}

-- A script in which a packet is offered at a terminal, goes up and is delivered; and two steps that no unit may make.
use Rattle.std.specs.Prelude.{List, [], ◌∷◌, Some, false}
use Rattle.gnb_types.specs.declared.names.Gnb.TheVariants.{A}
use Rattle.gnb_types.specs.declared.names.NodeId.TheVariants.{CuUp}
use Rattle.gnb_types.specs.declared.names.Dir.TheVariants.{Ul}
use Rattle.gnb_types.specs.declared.names.SnBits.TheVariants.{Len12}
use Rattle.gnb_types.specs.declared.keys.EntityKey.{EntityKey}
use Rattle.message_types.specs.declared.rrc.Token.{Token}
use Rattle.scenario_text.specs.declared.event.Event.{Event}
use Rattle.scenario_text.specs.declared.event.Event.TheVariants as events
use Rattle.unit_defs.specs.Ways.{Message}
use Rattle.run_defs.specs.Lines.{got_item, delivers, tunnel_link, shown}
use Rattle.run_defs.specs.States.{step_of}
use Rattle.run_defs.specs.Local.{Act}

abbrev pub uplink : EntityKey
uplink = record { ue = record { 0 = 1 }; bearer = record { 0 = 1 }; dir = Ul }

abbrev pub packet_up : List Event
packet_up =
    events.Static (record { ue = record { 0 = 1 }; gnb = A; up = 1; du = 1; sn = Len12; bearers = 1; quota = 64 })
    ∷ events.Offer uplink.ue uplink.bearer Ul (69 ∷ [])
    ∷ events.Air uplink.ue uplink.bearer Ul
    ∷ events.Get (CuUp A 1) 2
    ∷ []

-- a CU-UP gets an item of a tunnel that isn't there, and delivers a packet
abbrev pub from_nowhere : Act (Message Token)
from_nowhere = record { event = events.Get (CuUp A 1) 2; refused = false; step = step_of (Some (CuUp A 1)) (delivers uplink 0 (69 ∷ []) ∷ []) }

-- a CU-UP gets a packet of one bearer, and delivers it on another
abbrev pub other_uplink : EntityKey
other_uplink = record { ue = record { 0 = 1 }; bearer = record { 0 = 2 }; dir = Ul }

abbrev pub from_another : Act (Message Token)
from_another = record {
  event = events.Get (CuUp A 1) 2;
  refused = false;
  step = step_of (Some (CuUp A 1))
      (got_item (tunnel_link (record { node = CuUp A 1; teid = 2 })) (shown other_uplink (Some 0) (1 ∷ 69 ∷ [])) ∷ delivers uplink 0 (69 ∷ []) ∷ []);
}

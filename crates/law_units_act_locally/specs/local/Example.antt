-- A step that no unit may make: the core puts an item without octets on N3.
use Rattle.std.specs.Prelude.{[], ◌∷◌, Some, None, false}
use Rattle.gnb_types.specs.declared.names.Gnb.TheVariants.{A}
use Rattle.gnb_types.specs.declared.names.NodeId.TheVariants.{CuUp, Core}
use Rattle.gnb_types.specs.declared.names.Dir.TheVariants.{Dl}
use Rattle.gnb_types.specs.declared.keys.EntityKey.{EntityKey}
use Rattle.message_types.specs.declared.rrc.Token.{Token}
use Rattle.scenario_text.specs.declared.event.Event.TheVariants as events
use Rattle.unit_defs.specs.Ways.{Message}
use Rattle.run_defs.specs.Lines.{put_item, tunnel_link, shown}
use Rattle.run_defs.specs.States.{step_of}
use Rattle.run_defs.specs.Local.{Act}

abbrev pub downlink : EntityKey
downlink = record { ue = record { 0 = 1 }; bearer = record { 0 = 1 }; dir = Dl }

abbrev pub without_octets : Act (Message Token)
without_octets = record {
  event = events.Offer downlink.ue downlink.bearer Dl (69 ∷ []);
  refused = false;
  step = step_of (Some Core) (put_item (tunnel_link (record { node = CuUp A 1; teid = 1 })) (shown downlink None []) ∷ []);
}

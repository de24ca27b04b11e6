-- Internal: the events of the script, each by its moment.
use Rattle.std.specs.Int.{w32, to_be_bytes}
use Rattle.gnb_types.specs.declared.names.Dir.TheVariants.{Dl}
use Rattle.scenario_text.specs.declared.event.Event.{Event}
use Rattle.scenario_text.specs.declared.event.Event.TheVariants as events
use Rattle.command_run.specs.declared.generate.script.Moment.{Moment}
use Rattle.command_run.specs.declared.generate.script.Moment.TheVariants.{Offer, GetAtCuUp, GetAtDu, GetFromDu, Air, Ack, Fail, Return, Pump}
use Rattle.command_run.specs.declared.generate.script.Place.{Place}
use Rattle.command_run.specs.generate.Script.{u1, b1, cu_up, du, downlink_teid}

abbrev pub event_at : Place → Moment → Event
event_at place Offer = events.Offer u1 b1 Dl (to_be_bytes w32 place.packet)
event_at place GetAtCuUp = events.Get cu_up 1
event_at place GetAtDu = events.Get du (downlink_teid place.returns)
event_at place GetFromDu = events.Get cu_up 2
event_at place (Air dir) = events.Air u1 b1 dir
event_at place (Ack dir) = events.Ack u1 b1 dir
event_at place Fail = events.Fail u1
event_at place Return = events.Return u1
event_at place Pump = events.Pump

-- The events of a script that move packets: no unit is ordered, ticks or is told anything.
use Rattle.scenario_text.specs.declared.event.Event.{Event}
use Rattle.scenario_text.specs.declared.event.Event.TheVariants as events

abbrev pub IsOfPackets : Event → Type 0
IsOfPackets (events.Static plan) = Unit {0}
IsOfPackets (events.Offer ue bearer dir packet) = Unit {0}
IsOfPackets (events.Get end teid) = Unit {0}
IsOfPackets (events.Air ue bearer dir) = Unit {0}
IsOfPackets (events.Ack ue bearer dir) = Unit {0}
IsOfPackets (events.LoseItem end teid) = Unit {0}
IsOfPackets (events.Ask ue bearer) = Unit {0}
IsOfPackets event = ⊥

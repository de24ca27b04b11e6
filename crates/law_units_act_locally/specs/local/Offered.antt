-- What is asked of a script: each packet that it offers has an octet. Every script that is read is such.
use Rattle.std.specs.Prelude.{◌<◌, List, length}
use Rattle.std.specs.List.{AllByRecursion}
use Rattle.scenario_text.specs.declared.event.Event.{Event}
use Rattle.scenario_text.specs.declared.event.Event.TheVariants as events

abbrev pub HasOctet : Event → Type 0
HasOctet (events.Offer ue bearer dir packet) = 0 < length packet
HasOctet event = Unit {0}

abbrev pub OffersHaveOctets : List Event → Type 0
OffersHaveOctets script = AllByRecursion HasOctet script

-- Units that deliver a packet on every input, whatever they got.
use Rattle.std.specs.Prelude.{List, [], ◌∷◌}
use Rattle.gnb_types.specs.declared.names.Dir.TheVariants.{Dl}
use Rattle.gnb_types.specs.declared.keys.EntityKey.{EntityKey}
use Rattle.gnb_types.specs.declared.outputs.Output.TheVariants as outs
use Rattle.scenario_text.specs.declared.event.Event.{Event}
use Rattle.scenario_text.specs.declared.event.Event.TheVariants as events
use Rattle.run_defs.specs.UnitRuns.{Meaning, unit_gives}

abbrev pub downlink : EntityKey
downlink = record { ue = record { 0 = 1 }; bearer = record { 0 = 1 }; dir = Dl }

abbrev pub from_nothing : Meaning
from_nothing = λ records node input. unit_gives (outs.Deliver downlink.ue downlink.bearer Dl 0 (9 ∷ []) ∷ []) records

abbrev pub starting : List Event
starting = events.Start ∷ []

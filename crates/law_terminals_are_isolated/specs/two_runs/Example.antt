-- Two scripts with the same events for the second of two terminals.
use Rattle.std.specs.Prelude.{ℕ, List, [], ◌∷◌}
use Rattle.gnb_types.specs.declared.names.Gnb.TheVariants.{A}
use Rattle.gnb_types.specs.declared.names.SnBits.TheVariants.{Len12}
use Rattle.gnb_types.specs.declared.names.UeId.{UeId}
use Rattle.gnb_types.specs.declared.plans.Plan.{Plan}
use Rattle.scenario_text.specs.declared.event.Event.{Event}
use Rattle.scenario_text.specs.declared.event.Event.TheVariants as events

abbrev pub second : UeId
second = record { 0 = 2 }

abbrev pub plan_of : ℕ → Plan
plan_of n = record { ue = record { 0 = n }; gnb = A; up = 1; du = 1; sn = Len12; bearers = 1; quota = 1 }

abbrev pub alone : List Event
alone = events.Static (plan_of 2) ∷ []

abbrev pub after_another : List Event
after_another = events.Static (plan_of 1) ∷ alone

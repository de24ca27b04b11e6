-- Scripts of terminals that are set up without messages and of packets down, and that a bearer delivers what was offered.
use Rattle.std.specs.Prelude.{ℕ, ◌≡◌, List, ◌++◌, length}
use Rattle.std.specs.List.{range_with_len}
use Rattle.gnb_types.specs.declared.names.Dir.TheVariants.{Dl}
use Rattle.gnb_types.specs.declared.keys.EntityKey.{EntityKey}
use Rattle.scenario_text.specs.declared.event.Event.{Event}
use Rattle.scenario_text.specs.declared.event.Event.TheVariants as events
use Rattle.run_defs.specs.Runs.{Happened}
use Rattle.run_defs.specs.Said.{Offered, Delivered, Counts}

-- No unit is told anything, nothing is offered up and nothing is lost.
abbrev pub IsDownlinkOnly : Event → Type 0
IsDownlinkOnly (events.Static plan) = Unit {0}
IsDownlinkOnly (events.Offer ue bearer Dl packet) = Unit {0}
IsDownlinkOnly (events.Get end teid) = Unit {0}
IsDownlinkOnly (events.Air ue bearer dir) = Unit {0}
IsDownlinkOnly (events.Ack ue bearer dir) = Unit {0}
IsDownlinkOnly (events.Ask ue bearer) = Unit {0}
IsDownlinkOnly event = ⊥

-- What is delivered is the beginning of what was offered, in its order and each packet once; its COUNTs are 0, 1, 2 and so on.
pub record DeliversInOrder {M : Type 0} (key : EntityKey) (happened : List (Happened M)) : Type 0 where
  pub rest : List (List ℕ)
  pub prefix : Delivered key happened ++ rest ≡ Offered key happened
  pub numbered : Counts key happened ≡ range_with_len 0 (length (Delivered key happened))

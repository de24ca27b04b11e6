-- Internal: the parts of a radio's turn, and what is left after one.
use Rattle.std.specs.Prelude.{if◌then◌else◌, List, [], ◌∷◌, Option, Some, None, Result, Ok, Err}
use Rattle.std.specs.Option.{option_map}
use Rattle.gnb_types.specs.declared.names.UeId.{UeId}
use Rattle.gnb_types.specs.declared.names.BearerId.{BearerId}
use Rattle.gnb_types.specs.declared.names.Dir.TheVariants.{Dl, Ul}
use Rattle.gnb_types.specs.declared.keys.EntityKey.{EntityKey}
use Rattle.scenario_text.specs.declared.line.OutLine.{OutLine}
use Rattle.run_defs.specs.States.{◌next◌, goes_on, entity}
use Rattle.run_defs.specs.Settling.{Turn, to_acks, to_airs, after_air, radio_turn}
use Rattle.run_links.specs.Networks.{OctetState, OctetWorld, OctetOutcome}
use Rattle.world_steps.specs.declared.cause.Cause.{Cause}
use Rattle.world_steps.specs.declared.asked.Moved.{Moved}
use Rattle.world_steps.specs.Gives.{EventGives}
use Rattle.world.specs.turns.Turns.{Continues, is_made}
use Rattle.world.specs.declared.radios.turn.Turn.{Turn as Left}

-- what is left of a turn, as the run says it
abbrev pub turn_of : Left → Turn
turn_of left = record { key = left.key; airs = left.airs; acks = left.acks; airing = left.airing; moved = left.moved }

abbrev pub left_of : Result (Option Left) Cause → Result (Option Turn) Cause
left_of (Ok left) = Ok (option_map turn_of left)
left_of (Err cause) = Err cause

-- one part of a radio's turn, of which this is left, if anything
abbrev pub TurnGives : List OutLine → OctetOutcome → (Turn → OctetState → OctetOutcome) → List OutLine → OctetState
    → Result (Option Turn) Cause → Type 0
TurnGives before whole again lines t (Ok (Some turn)) = Continues before whole lines (again turn t)
TurnGives before whole again lines t (Ok None) = EventGives before whole lines t (Ok tt)
TurnGives before whole again lines t (Err cause) = EventGives before whole lines t (Err cause)

-- an item was carried, or is held, or refused
abbrev pub aired : Turn → Moved → Turn
aired turn moved = if is_made moved then after_air turn else to_acks (after_air turn)

abbrev pub over : Turn → Option Turn
over turn = if turn.moved then Some (to_airs turn) else None

-- the turn of a radio, kept shut, since what it makes at most is a long list
unfoldable pub turned : OctetWorld → EntityKey → OctetState → OctetOutcome
turned world key s = radio_turn world key s

abbrev pub both_turns : OctetWorld → UeId → BearerId → OctetState → OctetOutcome
both_turns world ue bearer s = turned world (entity ue bearer Dl) s next turned world (entity ue bearer Ul)

abbrev pub bearer_turns : OctetWorld → List (UeId × BearerId) → OctetState → OctetOutcome
bearer_turns world [] s = goes_on s
bearer_turns world (e ∷ es) s = both_turns world e.0 e.1 s next bearer_turns world es

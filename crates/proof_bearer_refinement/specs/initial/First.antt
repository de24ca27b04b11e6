-- A run in which a terminal is set up without messages and a packet is offered to its bearer, beside the models of the bearer. Its first
-- context is numbered by any numbering.
use Rattle.std.specs.Prelude.{ℕ, List, [], ◌∷◌, None}
use Rattle.gnb_types.specs.declared.names.Gnb.TheVariants.{A}
use Rattle.gnb_types.specs.declared.names.NodeId.TheVariants.{CuUp}
use Rattle.gnb_types.specs.declared.names.Dir.TheVariants.{Dl}
use Rattle.gnb_types.specs.declared.keys.TunnelEnd.{TunnelEnd}
use Rattle.gnb_types.specs.Orders.{tunnel_cmp}
use Rattle.tables.specs.Tables.{put}
use Rattle.unit_defs.specs.CuUpRecords.{DownlinkTunnel}
use Rattle.scenario_text.specs.declared.event.Event.{Event}
use Rattle.scenario_text.specs.declared.event.Event.TheVariants as events
use Rattle.run_defs.specs.States.{new_state, entity}
use Rattle.run_defs.specs.Conditions.{statically}
use Rattle.run_defs.specs.Events.{offered}
use Rattle.run_defs.specs.Runs.{Reading, plain_world}
use Rattle.bearer_defs.specs.chain_defs.Models as down_models
use Rattle.bearer_defs.specs.chain_defs.Orders as down
use Rattle.bearer_defs.specs.uplink_defs.Models as up_models
use Rattle.proof_bearer_refinement.specs.run_bearers.Bearers.{Numbering}
use Rattle.proof_bearer_refinement.specs.refinement_facts.Refinements.{RunState, RunItem}
use Rattle.proof_bearer_refinement.specs.du_puts.Worked.{terminal, bearer, plan}
use Rattle.proof_bearer_refinement.specs.runs.Steps.{Point}

abbrev pub set_up_run : List Event
set_up_run = events.Static plan ∷ []

abbrev pub offered_run : List Event
offered_run = events.Static plan ∷ events.Offer terminal bearer Dl (7 ∷ []) ∷ []

abbrev pub set_up : RunState
set_up = statically plan new_state

abbrev pub n3_end : TunnelEnd
n3_end = record { node = CuUp A 1; teid = 1 }

abbrev pub item : Reading → RunItem
item reading = record { key = entity terminal bearer Dl; count = None; content = (plain_world reading).lay_n3 1 (7 ∷ []) }

abbrev pub with_packet : Reading → RunState
with_packet reading =
    record (offered (plain_world reading) (entity terminal bearer Dl) set_up) { tunnels = put tunnel_cmp set_up.tunnels n3_end (item reading ∷ []) }

-- its context
abbrev pub first : Numbering → ℕ
first n = n.number_of (record { gnb = A; number = 1; instance = 1 })

-- the models after the switch at the start, by which the context has its downlink; and then with the packet
abbrev pub start : Numbering → ℕ → DownlinkTunnel → Point
start n teid d = record {
  state = set_up;
  down = down.run (down_models.initial (first n) teid) (down.switches (first n) d 0 ∷ []);
  up = up_models.initial (first n) teid;
}

abbrev pub after : Reading → Numbering → ℕ → DownlinkTunnel → Point
after reading n teid d = record {
  state = with_packet reading;
  down = down.run (start n teid d).down (down.offers (7 ∷ []) ∷ []);
  up = (start n teid d).up;
}

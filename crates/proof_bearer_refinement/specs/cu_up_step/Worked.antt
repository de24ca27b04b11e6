-- A run with a handover while a packet stands on a tunnel in each direction: the source takes both once it is frozen, and they go on to the
-- target. Beside it the orders that the run is for the bearer.
use Rattle.std.specs.Prelude.{true, false, List, [], ◌∷◌, ◌++◌, Option, Some, None, unwrap_or}
use Rattle.gnb_types.specs.declared.names.Gnb.TheVariants.{A, B}
use Rattle.gnb_types.specs.declared.names.NodeId.TheVariants.{CuUp, Du}
use Rattle.gnb_types.specs.declared.names.Dir.TheVariants.{Dl, Ul}
use Rattle.gnb_types.specs.declared.names.SnBits.TheVariants.{Len12}
use Rattle.gnb_types.specs.declared.names.BearerId.{BearerId}
use Rattle.gnb_types.specs.declared.names.UeId.{UeId}
use Rattle.gnb_types.specs.declared.keys.TunnelEnd.{TunnelEnd}
use Rattle.gnb_types.specs.declared.plans.Plan.{Plan}
use Rattle.gnb_types.specs.declared.plans.SnStatus.{SnStatus}
use Rattle.unit_defs.specs.CuUpRecords.{SourceHop, DownlinkTunnel}
use Rattle.scenario_text.specs.declared.event.Event.{Event}
use Rattle.scenario_text.specs.declared.event.Event.TheVariants as events
use Rattle.run_defs.specs.Runs.{Reading, plain_world}
use Rattle.run_defs.specs.States.{new_state}
use Rattle.proof_run_steps.specs.steps.Reached.{reached}
use Rattle.proof_run_steps.specs.tunnel_steps.Standing.{standing}
use Rattle.bearer_defs.specs.chain_defs.Models as down_models
use Rattle.bearer_defs.specs.chain_defs.Orders as down
use Rattle.bearer_defs.specs.uplink_defs.Models as up_models
use Rattle.bearer_defs.specs.uplink_defs.Orders as up
use Rattle.proof_bearer_refinement.specs.refinement_facts.Refinements.{RunState, RunItem, downs_of, ups_of}

abbrev pub terminal : UeId
terminal = record { 0 = 1 }

abbrev pub bearer : BearerId
bearer = record { 0 = 1 }

abbrev pub plan : Plan
plan = record { ue = terminal; gnb = A; up = 1; du = 1; sn = Len12; bearers = 1; quota = 64 }

-- the source is frozen; it takes the packet of N3; it takes the one of its uplink
abbrev pub frozen_run : List Event
frozen_run =
    events.Static plan ∷ events.Offer terminal bearer Dl (7 ∷ []) ∷ events.Offer terminal bearer Ul (8 ∷ []) ∷ events.Air terminal bearer Ul
    ∷ events.Handover terminal B 1 1 ∷ events.Pump ∷ []

abbrev pub passed_down : List Event
passed_down = frozen_run ++ events.Get (CuUp A 1) 1 ∷ []

abbrev pub passed_up : List Event
passed_up = passed_down ++ events.Get (CuUp A 1) 2 ∷ []

-- ---- what stands on N3 and the uplink of the source, and on the two forwarding tunnels of the target

pub record Lists : Type 0 where
  pub path : List down_models.Item
  pub forwarded_down : List down_models.Item
  pub uplink : List up_models.Item
  pub forwarded_up : List up_models.Item

abbrev pub items_at : RunState → TunnelEnd → List RunItem
items_at s end = unwrap_or (standing s end) []

abbrev pub lists_in : Option RunState → Option Lists
lists_in None = None
lists_in (Some s) = Some (record {
  path = downs_of (items_at s (record { node = CuUp A 1; teid = 1 }));
  forwarded_down = downs_of (items_at s (record { node = CuUp B 1; teid = 3 }));
  uplink = ups_of (items_at s (record { node = CuUp A 1; teid = 2 }));
  forwarded_up = ups_of (items_at s (record { node = CuUp B 1; teid = 4 }));
})

abbrev pub lists_of_run : Reading → List Event → Option Lists
lists_of_run reading run = lists_in (reached (plain_world reading) run new_state)

-- ---- the bearer's orders: its context at the source is 1, and that at the target 2

abbrev pub downlink : DownlinkTunnel
downlink = record { du = Du A 1; teid = 1; next = 0 }

abbrev pub hop : SourceHop
hop = record { peer = CuUp B 1; down = 3; up = 4; up_ended = false }

abbrev pub status : SnStatus
status = record { bearer = bearer; dl_next = 0; ul_first = 0; ul_received = None }

abbrev pub frozen_down : List down.ModelStep
frozen_down =
    down.switches 1 downlink 0 ∷ down.offers (7 ∷ []) ∷ down.makes 2 true 1 ∷ down.freezes 1 2 hop ∷ down.knows 2 status ∷ []

abbrev pub frozen_up : List up.ModelStep
frozen_up =
    up.offers (8 ∷ []) ∷ up.numbers (8 ∷ []) [] ∷ up.carries 2 0 (8 ∷ []) [] ∷ up.makes 2 1 ∷ up.freezes 1 2 hop ∷ up.knows 2 status ∷ []

abbrev pub passed_down_orders : List down.ModelStep
passed_down_orders = frozen_down ++ down.passes_n3 1 (7 ∷ []) [] ∷ []

abbrev pub passed_up_orders : List up.ModelStep
passed_up_orders = frozen_up ++ up.takes 1 (up_models.uplink_tunnel 2) 0 (8 ∷ []) [] ∷ []

abbrev pub lists_of_models : List down.ModelStep → List up.ModelStep → Option Lists
lists_of_models downs ups =
    let d : down_models.Model = down.run (down_models.initial 1 1) downs in
    let u : up_models.Model = up.run (up_models.initial 1 1) ups in
    Some (record {
      path = (d.members 1).n3;
      forwarded_down = (d.members 2).forwarded;
      uplink = (u.members 1).uplink 2;
      forwarded_up = (u.members 2).forwarded;
    })

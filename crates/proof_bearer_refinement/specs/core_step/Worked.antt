-- A run in which a packet is offered and the terminal comes to the other gNB; and the orders that it is for the bearer's downlink, whose
-- context at the source is 1, and that at the target 2.
use Rattle.std.specs.Prelude.{true, false, List, [], ◌∷◌, Option, Some, None, unwrap_or}
use Rattle.gnb_types.specs.declared.names.Gnb.TheVariants.{A, B}
use Rattle.gnb_types.specs.declared.names.NodeId.TheVariants.{CuUp, Du}
use Rattle.gnb_types.specs.declared.names.Dir.TheVariants.{Dl}
use Rattle.gnb_types.specs.declared.plans.SnStatus.{SnStatus}
use Rattle.unit_defs.specs.CuUpRecords.{SourceHop, DownlinkTunnel}
use Rattle.scenario_text.specs.declared.event.Event.{Event}
use Rattle.scenario_text.specs.declared.event.Event.TheVariants as events
use Rattle.proof_run_steps.specs.tunnel_steps.Standing.{standing}
use Rattle.bearer_defs.specs.chain_defs.Models as down_models
use Rattle.bearer_defs.specs.chain_defs.Orders as down
use Rattle.proof_bearer_refinement.specs.refinement_facts.Refinements.{RunState, downs_of}
use Rattle.proof_bearer_refinement.specs.du_puts.Worked.{terminal, bearer, plan}

abbrev pub switched_run : List Event
switched_run =
    events.Static plan ∷ events.Offer terminal bearer Dl (7 ∷ []) ∷ events.Handover terminal B 1 1 ∷ events.Pump ∷ events.Tick ∷ events.Pump
    ∷ events.Arrive terminal ∷ events.Pump ∷ []

-- what stands on the N3 tunnel of the source then
abbrev pub path_in : Option RunState → Option (List down_models.Item)
path_in None = None
path_in (Some s) = Some (downs_of (unwrap_or (standing s (record { node = CuUp A 1; teid = 1 })) []))

abbrev pub hop : SourceHop
hop = record { peer = CuUp B 1; down = 3; up = 4; up_ended = false }

abbrev pub status : SnStatus
status = record { bearer = bearer; dl_next = 0; ul_first = 0; ul_received = None }

-- the downlink of a context's DU
abbrev pub downlink_at : DownlinkTunnel
downlink_at = record { du = Du A 1; teid = 1; next = 0 }

abbrev pub downlink_there : DownlinkTunnel
downlink_there = record { du = Du B 1; teid = 1; next = 0 }

abbrev pub switched_orders : List down.ModelStep
switched_orders =
    down.switches 1 downlink_at 0 ∷ down.offers (7 ∷ []) ∷ down.makes 2 true 1 ∷ down.freezes 1 2 hop ∷ down.knows 2 status ∷ down.arrives 2
    ∷ down.switches 2 downlink_there 1 ∷ down.switches_path 2 ∷ []

abbrev pub path_of : List down.ModelStep → List down_models.Item
path_of orders = ((down.run (down_models.initial 1 1) orders).members 1).n3

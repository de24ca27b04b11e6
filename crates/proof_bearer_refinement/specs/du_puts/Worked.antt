-- A run in which a packet is carried up and the terminal comes to another DU of its CU-UP; and the orders that it is for the bearer's
-- uplink, whose context is 1.
use Rattle.std.specs.Prelude.{List, [], ◌∷◌, Option, Some, None, unwrap_or}
use Rattle.gnb_types.specs.declared.names.Gnb.TheVariants.{A}
use Rattle.gnb_types.specs.declared.names.NodeId.TheVariants.{CuUp}
use Rattle.gnb_types.specs.declared.names.Dir.TheVariants.{Ul}
use Rattle.gnb_types.specs.declared.names.SnBits.TheVariants.{Len12}
use Rattle.gnb_types.specs.declared.names.BearerId.{BearerId}
use Rattle.gnb_types.specs.declared.names.UeId.{UeId}
use Rattle.gnb_types.specs.declared.plans.Plan.{Plan}
use Rattle.scenario_text.specs.declared.event.Event.{Event}
use Rattle.scenario_text.specs.declared.event.Event.TheVariants as events
use Rattle.proof_run_steps.specs.tunnel_steps.Standing.{standing}
use Rattle.bearer_defs.specs.uplink_defs.Models as up_models
use Rattle.bearer_defs.specs.uplink_defs.Orders as up
use Rattle.proof_bearer_refinement.specs.refinement_facts.Refinements.{RunState, ups_of}

abbrev pub terminal : UeId
terminal = record { 0 = 1 }

abbrev pub bearer : BearerId
bearer = record { 0 = 1 }

abbrev pub plan : Plan
plan = record { ue = terminal; gnb = A; up = 1; du = 1; sn = Len12; bearers = 1; quota = 64 }

abbrev pub moved_run : List Event
moved_run =
    events.Static plan ∷ events.Offer terminal bearer Ul (8 ∷ []) ∷ events.Air terminal bearer Ul ∷ events.Handover terminal A 1 2 ∷ events.Pump
    ∷ events.Tick ∷ events.Pump ∷ events.Arrive terminal ∷ events.Pump ∷ []

-- what stands on its first uplink tunnel then
abbrev pub uplink_in : Option RunState → Option (List up_models.Item)
uplink_in None = None
uplink_in (Some s) = Some (ups_of (unwrap_or (standing s (record { node = CuUp A 1; teid = 2 })) []))

abbrev pub moved_orders : List up.ModelStep
moved_orders =
    up.offers (8 ∷ []) ∷ up.numbers (8 ∷ []) [] ∷ up.carries 2 0 (8 ∷ []) [] ∷ up.adds 1 3 ∷ up.leaves ∷ up.arrives 1 ∷ up.connects ∷ up.switches 1
    ∷ up.marks 1 2 ∷ []

abbrev pub uplink_of : List up.ModelStep → List up_models.Item
uplink_of orders = ((up.run (up_models.initial 1 1) orders).members 1).uplink 2

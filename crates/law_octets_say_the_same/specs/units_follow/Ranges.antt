-- What a run reaches: records that stay in range, and inputs that a node is handed in range.
use Rattle.std.specs.Prelude.{ℕ, ◌≡◌, true, false, ◌&&◌, List, Some}
use Rattle.std.specs.List.{AllByRecursion}
use Rattle.gnb_types.specs.declared.names.NodeId.{NodeId}
use Rattle.gnb_types.specs.declared.names.NodeId.TheVariants.{CuUp, Core, Ue}
use Rattle.gnb_types.specs.declared.names.UeId.{UeId}
use Rattle.gnb_types.specs.declared.names.BearerId.{BearerId}
use Rattle.gnb_types.specs.declared.names.Dir.TheVariants.{Dl, Ul}
use Rattle.gnb_types.specs.declared.plans.Plan.{Plan}
use Rattle.gnb_types.specs.declared.plans.Tunnel.{Tunnel}
use Rattle.gnb_types.specs.declared.inputs.Input.{Input}
use Rattle.gnb_types.specs.declared.inputs.Input.TheVariants as ins
use Rattle.gnb_types.specs.declared.inputs.Order.{Order}
use Rattle.gnb_types.specs.declared.outputs.Output.{Output}
use Rattle.gnb_types.specs.declared.outputs.Output.TheVariants as outs
use Rattle.gnb_types.specs.Orders.{ue_cmp}
use Rattle.tables.specs.Tables.{find, put}
use Rattle.link_defs.specs.Layouts.{forwarded_fresh}
use Rattle.unit_defs.specs.Ways.{Put, Load, gives}
use Rattle.unit_defs.specs.Messages.{teid_of}
use Rattle.unit_defs.specs.Core.{CorePath, CoreRecord, new_core}
use Rattle.unit_defs.specs.Static.{cu_up_has_room, cu_up_has_teids, du_has_teids}
use Rattle.unit_defs.specs.Ue.{new_ue}
use Rattle.unit_defs.specs.octet_defs.Codec.{Codec}
use Rattle.unit_defs.specs.octet_defs.Writing.{outputs_of}
use Rattle.unit_defs.specs.octet_defs.Units.{core_steps}
use Rattle.scenario_text.specs.declared.event.Event.{Event}
use Rattle.scenario_text.specs.declared.event.Event.TheVariants as events
use Rattle.run_defs.specs.Units.{new_units, cu_up_of, du_of, with_ue}
use Rattle.run_defs.specs.Conditions.{is_held_by_units, units_placed, all_set_up}
use Rattle.run_defs.specs.UnitRuns.{Meaning, Records, unit_gives, tables}

-- any ranges: of the records of units and of the core, of what a node is given, of the packets that are offered at the core, and of plans
pub record Range : Type 1 where
  pub records : Records → Type 0
  pub core : CoreRecord (List ℕ) (List ℕ) → Type 0
  pub input : NodeId → Input → Type 0
  pub packet : List ℕ → Type 0
  pub plan : Plan → Type 0

abbrev pub within : (Records → Type 0) → (CoreRecord (List ℕ) (List ℕ) → Type 0) → (NodeId → Input → Type 0) → (List ℕ → Type 0) → (Plan → Type 0) → Range
within records core input packet plan = record { records = records; core = core; input = input; packet = packet; plan = plan }

-- what an event of a script hands over by itself
abbrev pub IsScripted : (NodeId → Input → Type 0) → (List ℕ → Type 0) → (Plan → Type 0) → Event → Type 0
IsScripted input packet planned (events.Static plan) = planned plan
IsScripted input packet planned (events.Attach plan) = planned plan
IsScripted input packet planned (events.Offer ue bearer Dl p) = packet p
IsScripted input packet planned (events.Offer ue bearer Ul p) = input (Ue ue.0) (ins.Offer ue bearer p)
IsScripted input packet planned (events.InjectMessage from to octets) = input to (ins.Control from octets)
IsScripted input packet planned (events.InjectItem end teid octets) = input end (ins.Packet teid octets)
IsScripted input packet planned event = Unit {0}

module _ (range : Range) where
  abbrev pub IsInRange : Event → Type 0
  IsInRange event = IsScripted range.input range.packet range.plan event

  -- what a node puts, others are given: its receiver, and on a radio whoever is at it
  abbrev pub Hands : NodeId → Output → Type 0
  Hands node (outs.Control to ue octets) = range.input to (ins.Control node octets)
  Hands node (outs.Packet to teid ue bearer dir tag octets) = range.input to (ins.Packet teid octets)
  Hands node (outs.Radio ue bearer dir epoch tag octets) =
      (at : NodeId) → range.input at (ins.Radio ue bearer dir octets) × range.input at (ins.Confirm ue bearer dir octets)
  Hands node output = Unit {0}

-- Units of a meaning, and the core beside them, stay in range: at first, where a terminal comes or is set up without messages, and
-- after each answer to an input in range. Orders and ticks are in range.
pub record StaysInRange (codec : Codec) (answer : Meaning) (range : Range) : Type 0 where
  pub orders : (node : NodeId) (order : Order) → range.input node (ins.Order order)
  pub ticks : (node : NodeId) → range.input node ins.Tick
  pub begins : range.records new_units
  pub comes : (r : Records) (plan : Plan) → range.plan plan → range.records r → range.records (with_ue r plan.ue (new_ue plan))
  pub places : (r : Records) (plan : Plan) → range.plan plan → is_held_by_units plan r ≡ false → cu_up_has_room (cu_up_of r plan.gnb plan.up) plan ≡ true
      → cu_up_has_teids (cu_up_of r plan.gnb plan.up) plan && du_has_teids (du_of r plan.gnb plan.du) plan ≡ true
      → range.records r → range.records (all_set_up (units_placed plan r))
  pub answers : (r after : Records) (node : NodeId) (input : Input) (outputs : List Output) → range.records r → range.input node input
      → answer r node input ≡ unit_gives outputs after → range.records after × AllByRecursion (Hands range node) outputs
  pub core_begins : range.core new_core
  pub core_places : (r : CoreRecord (List ℕ) (List ℕ)) (plan : Plan) → range.plan plan → (n3 : List Tunnel) → range.core r
      → range.core (record r { paths = put ue_cmp r.paths plan.ue (record { up = CuUp plan.gnb plan.up; n3 = n3 }) })
  pub core_answers : (r after : CoreRecord (List ℕ) (List ℕ)) (from : NodeId) (octets : List ℕ) (puts : List (Put (List ℕ) (Load (List ℕ)) (List ℕ)))
      → range.core r → range.input Core (ins.Control from octets) → core_steps codec r from octets ≡ gives puts after
      → range.core after × AllByRecursion (Hands range Core) (outputs_of puts)
  pub lays : (r : CoreRecord (List ℕ) (List ℕ)) (ue : UeId) (bearer : BearerId) (p : List ℕ) (path : CorePath) → range.core r → range.packet p
      → find ue_cmp r.paths ue ≡ Some path
      → range.input path.up (ins.Packet (teid_of path.n3 bearer) (forwarded_fresh (teid_of path.n3 bearer) p))

-- the units answer there as the tables do after decoding
abbrev pub FollowsThere : Codec → Meaning → Range → Type 0
FollowsThere codec answer range = (r : Records) (node : NodeId) (input : Input) → range.records r → range.input node input
    → answer r node input ≡ tables codec r node input

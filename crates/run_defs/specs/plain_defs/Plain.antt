-- What is asked of the units of a run: which of their records are in range, and that plain ones answer there as the tables do after
-- decoding. A script has its words in the ranges of its grammar.
use Rattle.std.specs.Prelude.{◌≡◌, true, false, ◌&&◌, List, Some}
use Rattle.gnb_types.specs.declared.names.NodeId.{NodeId}
use Rattle.gnb_types.specs.declared.names.UeId.{UeId}
use Rattle.gnb_types.specs.declared.plans.Plan.{Plan}
use Rattle.gnb_types.specs.declared.inputs.Input.{Input}
use Rattle.gnb_types.specs.declared.inputs.Input.TheVariants as ins
use Rattle.gnb_types.specs.declared.outputs.Output.{Output}
use Rattle.scenario_text.specs.script_words.Ranges.{IsPacket}
use Rattle.scenario_text.specs.script_words.Places.{InPlaces}
use Rattle.scenario_text.specs.Grammar.{plan_places}
use Rattle.scenario_text.specs.Texts.{plan_values}
use Rattle.unit_defs.specs.Static.{cu_up_has_room, cu_up_has_teids, du_has_teids}
use Rattle.unit_defs.specs.Ue.{UeNode, new_ue}
use Rattle.unit_defs.specs.octet_defs.Codec.{Codec}
use Rattle.run_defs.specs.Units.{new_units, cu_up_of, du_of, ue_of, with_ue}
use Rattle.run_defs.specs.Conditions.{is_held_by_units, units_placed, all_set_up}
use Rattle.run_defs.specs.UnitRuns.{Meaning, Records, unit_gives, tables}

-- 1 to 8 bearers, each with a quota of 4 to 4,096 packets, and names in their ranges
abbrev pub IsPlanned : Plan → Type 0
IsPlanned plan = InPlaces plan_places (plan_values plan)

-- a packet that is offered isn't empty; whatever else a unit is given may be anything
abbrev pub IsGiven : Input → Type 0
IsGiven (ins.Offer ue bearer packet) = IsPacket packet
IsGiven input = Unit {0}

-- These records are in range at first, where a terminal comes or is set up without messages, and after each answer to what is given.
pub record KeepRange (answer : Meaning) (in_range : Records → Type 0) : Type 0 where
  pub begins : in_range new_units
  pub comes : (r : Records) (plan : Plan) → IsPlanned plan → in_range r → in_range (with_ue r plan.ue (new_ue plan))
  pub places : (r : Records) (plan : Plan) → IsPlanned plan → is_held_by_units plan r ≡ false
      → cu_up_has_room (cu_up_of r plan.gnb plan.up) plan ≡ true
      → cu_up_has_teids (cu_up_of r plan.gnb plan.up) plan && du_has_teids (du_of r plan.gnb plan.du) plan ≡ true
      → in_range r → in_range (all_set_up (units_placed plan r))
  pub answers : (r after : Records) (node : NodeId) (input : Input) (outputs : List Output) → in_range r → IsGiven input
      → answer r node input ≡ unit_gives outputs after → in_range after

-- plain units: there they answer as the tables do after decoding
abbrev pub IsPlain : Codec → Meaning → (Records → Type 0) → Type 0
IsPlain codec answer in_range =
    (r : Records) (node : NodeId) (input : Input) → in_range r → IsGiven input → answer r node input ≡ tables codec r node input

-- a range of the tables' own: each terminal that is there has a plan in the ranges of the grammar
abbrev pub ArePlanned : Records → Type 0
ArePlanned r = (ue : UeId) (u : UeNode) → ue_of r ue ≡ Some u → IsPlanned u.plan

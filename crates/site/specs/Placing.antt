-- Internal: a terminal that is set up without messages, at the units beside its CU-UP.
use Rattle.std.specs.Prelude.{◌≡◌, ℕ, true, false, Result, Ok, Err}
use Rattle.gnb_types.specs.declared.names.Gnb.{Gnb}
use Rattle.gnb_types.specs.declared.names.Gnb.TheVariants.{A, B}
use Rattle.gnb_types.specs.declared.plans.Plan.{Plan}
use Rattle.unit_defs.specs.Static.{cu_cp_placed, du_placed}
use Rattle.unit_defs.specs.Ue.{new_ue, placed}
use Rattle.unit_defs.specs.Ways.{teids_spent}
use Rattle.run_defs.specs.Units.{cu_cp_of, with_cu_cp, du_of, with_du, with_ue}
use Rattle.run_defs.specs.Conditions.{all_set_up}
use Rattle.run_defs.specs.UnitRuns.{Records}
use Rattle.unit_messages.specs.declared.steps.StepError.{StepError}
use Rattle.unit_messages.specs.declared.steps.StepError.TheVariants as errors
use Rattle.du_contexts.specs.Placing.{may_place}
use Rattle.site.specs.declared.unit_set.UnitSet.{UnitSet}
use Rattle.site.specs.site_tables.Nodes.{node_at}
use Rattle.site.specs.Sites.{records_of, AreWorking}

abbrev pub control_placed : Plan → Gnb → UnitSet → UnitSet
control_placed plan A s = record s { cu_cp_a = record s.cu_cp_a { kept = cu_cp_placed s.cu_cp_a.kept plan } }
control_placed plan B s = record s { cu_cp_b = record s.cu_cp_b { kept = cu_cp_placed s.cu_cp_b.kept plan } }

abbrev pub placed_beside : Plan → ℕ → Records → Records
placed_beside plan uplink r =
    with_cu_cp (with_du (with_ue r plan.ue (placed (new_ue plan))) plan.gnb plan.du (du_placed (du_of r plan.gnb plan.du) plan uplink)) plan.gnb
    (cu_cp_placed (cu_cp_of r plan.gnb) plan)

abbrev pub PlacesOthers : Plan → ℕ → UnitSet → UnitSet → Result (Unit {0}) StepError → Type 0
PlacesOthers plan uplink old new (Ok done) =
    (may_place (node_at old.nodes plan.gnb plan.du).du plan uplink ≡ true)
    × (records_of new ≡ all_set_up (placed_beside plan uplink (records_of old))) × AreWorking new
PlacesOthers plan uplink old new (Err (errors.Spent counter)) =
    (may_place (node_at old.nodes plan.gnb plan.du).du plan uplink ≡ false) × (counter ≡ teids_spent)
PlacesOthers plan uplink old new (Err errors.Memory) = Unit {0}

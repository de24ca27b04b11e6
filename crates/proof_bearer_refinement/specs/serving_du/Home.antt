-- What is assumed of control of the DU at which a connected terminal is.
use Rattle.std.specs.Prelude.{◌≡◌, ℕ, Some}
use Rattle.gnb_types.specs.declared.names.Gnb.{Gnb}
use Rattle.gnb_types.specs.declared.names.UeId.{UeId}
use Rattle.gnb_types.specs.declared.names.BearerId.{BearerId}
use Rattle.unit_defs.specs.CuUpRecords.{f1u_uplink}
use Rattle.run_defs.specs.Units.{du_of}
use Rattle.proof_node_orders.specs.du_inputs.Changes.{DuModel, model_of}
use Rattle.bearer_defs.specs.uplink_defs.Assumptions.{NoEnd}
use Rattle.proof_bearer_refinement.specs.run_bearers.Bearers.{Numbering}
use Rattle.proof_bearer_refinement.specs.refinement_facts.Refinements.{owned_on}
use Rattle.proof_bearer_refinement.specs.runs.Steps.{Point}

-- it has the bearer, and puts on an open uplink tunnel of the context that the terminal is at, on which no End Marker stands
pub record ServingDuLeads (n : Numbering) (ue : UeId) (bearer : BearerId) (p : Point) (gnb : Gnb) (number : ℕ) : Type 0 where
  pub part : DuModel
  pub there : model_of (du_of p.state.units gnb number) ue bearer ≡ Some part
  pub leads : owned_on n ue bearer p.state.units part.bearer.up part.bearer.uplink ≡ Some (record { context = p.up.station; kind = f1u_uplink })
  pub no_end : NoEnd ((p.up.members p.up.station).uplink part.bearer.uplink)

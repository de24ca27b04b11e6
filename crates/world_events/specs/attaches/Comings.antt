-- Internal: a terminal comes: why it can't, and what the run keeps of it.
use Rattle.std.specs.Prelude.{ℕ, ◌*◌, not, if◌then◌else◌, Option, Some, None}
use Rattle.gnb_types.specs.declared.names.NodeId.{NodeId}
use Rattle.gnb_types.specs.declared.names.NodeId.TheVariants.{CuUp, Du}
use Rattle.gnb_types.specs.declared.plans.Plan.{Plan}
use Rattle.gnb_types.specs.declared.reasons.RefuseReason.{RefuseReason}
use Rattle.gnb_types.specs.declared.reasons.RefuseReason.TheVariants.{Attached, NotStarted}
use Rattle.gnb_types.specs.Orders.{ue_cmp}
use Rattle.tables.specs.Tables.{put}
use Rattle.unit_defs.specs.Core.{CorePath}
use Rattle.unit_defs.specs.Ue.{new_ue}
use Rattle.run_defs.specs.Units.{with_ue}
use Rattle.run_defs.specs.States.{goes_on, was_attached}
use Rattle.run_defs.specs.Conditions.{has_started, n3_from, seated, tunnels_from}
use Rattle.run_links.specs.Networks.{OctetWorld, OctetCore, OctetState, OctetWithin}

-- why an attach isn't begun
abbrev pub attach_refusal : Plan → OctetState → Option RefuseReason
attach_refusal plan s = if was_attached s plan.ue then Some Attached else (if not (has_started plan s) then Some NotStarted else None)

-- the run with a terminal that comes
abbrev pub with_seat : Plan → OctetState → OctetState
with_seat plan s = record (seated plan s) { units = with_ue s.units plan.ue (new_ue plan) }

-- ---- a terminal that was set up without messages: its path, from this TEID of the CU-UP on; its tunnels, its connection and its plan

abbrev pub path_from : Plan → ℕ → CorePath
path_from plan up = record { up = CuUp plan.gnb plan.up; n3 = n3_from 1 up plan.bearers }

abbrev pub with_path : Plan → ℕ → OctetCore → OctetCore
with_path plan up core = record core { paths = put ue_cmp core.paths plan.ue (path_from plan up) }

abbrev pub opens_from : NodeId → ℕ → ℕ → OctetWorld → OctetState → OctetWithin
opens_from node teid count world s = goes_on (record s { tunnels = tunnels_from node teid count s.tunnels })

abbrev pub kept : Plan → ℕ → ℕ → OctetState → OctetState
kept plan up du s = record (seated plan s) {
  tunnels = tunnels_from (Du plan.gnb plan.du) du plan.bearers (tunnels_from (CuUp plan.gnb plan.up) up (2 * plan.bearers) s.tunnels);
  connected = put ue_cmp s.connected plan.ue 1;
}

abbrev pub keeps : Plan → ℕ → ℕ → OctetWorld → OctetState → OctetWithin
keeps plan up du world s = goes_on (kept plan up du s)

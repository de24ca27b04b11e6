-- What a DU puts on the radio down of one bearer, by what its input changes there, and the frames that stand on its tunnel then.
use Rattle.std.specs.Prelude.{ℕ, if◌then◌else◌, List, [], Option, Some, None}
use Rattle.bearer_defs.specs.chain_defs.Models.{Model}
use Rattle.unit_defs.specs.Ways.{Pdu}
use Rattle.unit_defs.specs.Du.{DuBearer}
use Rattle.transport_defs.specs.Links.{is_epoch}
use Rattle.run_defs.specs.Written.{Written}
use Rattle.law_downlink_order.specs.path.Paths.{Frame, carried_by, gap_after}
use Rattle.proof_node_orders.specs.du_inputs.Changes.{Change, takes, DuModel}
use Rattle.proof_run_steps.specs.radio_steps.Radios.{OnAir}
use Rattle.law_downlink_order.specs.waiting_frames.Frames.{IsLine}
use Rattle.proof_bearer_refinement.specs.downlink_radio.Down.{IsDown}

-- what the frame carries, where the radio is connected in the epoch of the DU's context
abbrev pub carried_at : Option ℕ → Frame → DuModel → List (ℕ × List ℕ)
carried_at at f part = if is_epoch at part.epoch then carried_by (gap_after part.bearer f f.pdu) f.pdu else []

abbrev pub packets_by : Option ℕ → Change → Option DuModel → List (ℕ × List ℕ)
packets_by at change None = []
packets_by at (takes f) (Some part) = carried_at at f part
packets_by at change (Some part) = []

-- what waits on the radio is so, and the frames after it on the tunnel of this DU are so
pub record AreDown (a : OnAir (Written Pdu)) (d : Model) (b : DuBearer) (frames : List Frame) (next needed : ℕ) : Type 0 where
  pub radio : IsDown a d
  pub line : IsLine d b frames radio.waits next needed

-- The NR-U numbers of the frames that a CU-UP puts for a bearer (TS 38.425, 5.4.1): one after another on its downlink tunnel.
use Rattle.std.specs.Prelude.{ℕ, ◌≡◌, zero, suc, ◌+◌, List, [], ◌∷◌, length, Option, Some, None}
use Rattle.std.specs.List.{flat_map}
use Rattle.gnb_types.specs.declared.names.NodeId.{NodeId}
use Rattle.unit_defs.specs.Ways.{Load, frame, Output, packet, Answer, gives, spent}
use Rattle.unit_defs.specs.CuUpRecords.{DownlinkTunnel, CuUpBearer}

-- where a frame goes, and its number
pub record Frame : Type 0 where
  pub to : NodeId
  pub teid : ℕ
  pub number : ℕ

abbrev pub frame_of : {P : Type 0} → NodeId → ℕ → Load P → List Frame
frame_of to teid (frame poll restart number pdu) = record { to = to; teid = teid; number = number } ∷ []
frame_of to teid load = []

abbrev pub frames_in : {M P : Type 0} → Output M P → List Frame
frames_in (packet to teid ue bearer dir tag load) = frame_of to teid load
frames_in output = []

abbrev pub frames_by : {M P : Type 0} → List (Output M P) → List Frame
frames_by outputs = flat_map frames_in outputs

-- so many frames of one tunnel, from this number on
abbrev pub frames_from : NodeId → ℕ → ℕ → ℕ → List Frame
frames_from du teid number zero = []
frames_from du teid number (suc more) = record { to = du; teid = teid; number = number } ∷ frames_from du teid (number + 1) more

-- frames go on where the downlink stands, and it stands after them then; without a downlink there are none
abbrev pub GoOn : Option DownlinkTunnel → List Frame → Option DownlinkTunnel → Type 0
GoOn None frames after = (frames ≡ []) × (after ≡ None)
GoOn (Some d) frames after =
    (frames ≡ frames_from d.du d.teid d.next (length frames)) × (after ≡ Some (record d { next = d.next + length frames }))

abbrev pub NumbersFrom : {M P : Type 0} → Option DownlinkTunnel → Answer M P CuUpBearer → Type 0
NumbersFrom downlink (gives outputs b) = GoOn downlink (frames_by outputs) b.downlink
NumbersFrom downlink (spent counter) = Unit {0}

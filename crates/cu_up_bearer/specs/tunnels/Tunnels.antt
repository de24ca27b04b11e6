-- What the code keeps of a bearer's tunnels, as the procedure tables have it.
use Rattle.std.specs.Prelude.{◌≡◌, ℕ, ◌+◌, ◌<◌, ◌≤◌, List, [], ◌∷◌, ◌++◌, Option, Some, None, Result, Ok, Err}
use Rattle.gnb_types.specs.declared.names.Dir.{Dir}
use Rattle.gnb_types.specs.declared.names.Dir.TheVariants.{Dl, Ul}
use Rattle.gnb_types.specs.declared.outputs.Output.{Output}
use Rattle.gnb_types.specs.declared.outputs.Output.TheVariants as outs
use Rattle.gnb_types.specs.declared.outputs.Tag.{Tag}
use Rattle.unit_defs.specs.Ways.{frames_spent}
use Rattle.unit_defs.specs.CuUpRecords.{DownlinkTunnel as DownlinkRecord, SourceHop, CuUpBearer, CuUpFlags, CuUpScope}
use Rattle.unit_defs.specs.CuUpBearers.{last_frame}
use Rattle.unit_messages.specs.declared.steps.StepError.{StepError}
use Rattle.unit_messages.specs.declared.steps.StepError.TheVariants as errors
use Rattle.cu_up_bearer.specs.declared.tunnels.at.Scope.{Scope}
use Rattle.cu_up_bearer.specs.declared.tunnels.at.Flags.{Flags}
use Rattle.cu_up_bearer.specs.declared.tunnels.frames.DownlinkTunnel.{DownlinkTunnel}
use Rattle.cu_up_bearer.specs.declared.tunnels.frames.Frames.{Frames}
use Rattle.cu_up_bearer.specs.declared.tunnels.hop.Hop.{Hop}

-- ---- whose order it is

abbrev pub flags_as : Flags → CuUpFlags
flags_as f = record { target = f.target; may_serve = f.may_serve; arrived = f.arrived; frozen = f.frozen; released = f.released }

abbrev pub at_as : Scope → CuUpScope
at_as a = record { ue = a.ue; bearer = a.bearer; sn = a.sn; quota = a.quota; flags = flags_as a.flags }

-- ---- the downlink tunnel

abbrev pub downlink_as : Option DownlinkTunnel → Option DownlinkRecord
downlink_as None = None
downlink_as (Some d) = Some (record { du = d.du; teid = d.teid; next = d.next })

-- a bearer with these frames, whatever else it keeps
abbrev pub with_frames : CuUpBearer → Frames → CuUpBearer
with_frames b f = record b { downlink = downlink_as f.downlink; restart = f.restart }

-- the number of the next frame, where one is left
abbrev pub IsNumber : DownlinkTunnel → Result ℕ StepError → Type 0
IsNumber d (Ok number) = (number ≡ d.next) × (number ≤ last_frame)
IsNumber d (Err (errors.Spent counter)) = (last_frame < d.next) × (counter ≡ frames_spent)
IsNumber d (Err errors.Memory) = ⊥

-- a frame of these octets on the tunnel
abbrev pub frame_output : DownlinkTunnel → Scope → Tag → List ℕ → Output
frame_output d a tag bytes = outs.Packet d.du d.teid a.ue a.bearer Dl tag bytes

-- it stands last, and the next frame has the next number
abbrev pub IsPut : DownlinkTunnel → Output → List Output → List Output → Result DownlinkTunnel StepError → Type 0
IsPut d o old new (Ok after) = (new ≡ old ++ o ∷ []) × (after ≡ record d { next = d.next + 1 })
IsPut d o old new (Err (errors.Spent counter)) = ⊥
IsPut d o old new (Err errors.Memory) = Unit {0}

-- ---- the hop to the target

abbrev pub hop_as : Option Hop → Option SourceHop
hop_as None = None
hop_as (Some h) = Some (record { peer = h.peer; down = h.down; up = h.up; up_ended = h.up_ended })

abbrev pub hop_teid : Hop → Dir → ℕ
hop_teid hop Dl = hop.down
hop_teid hop Ul = hop.up

-- On which tunnels the rows of a bearer of a CU-UP put what they put.
use Rattle.std.specs.Prelude.{◌≡◌, ℕ, List, Option, Some, None}
use Rattle.std.specs.List.{AllByRecursion}
use Rattle.gnb_types.specs.declared.names.NodeId.{NodeId}
use Rattle.gnb_types.specs.declared.names.UeId.{UeId}
use Rattle.gnb_types.specs.declared.names.BearerId.{BearerId}
use Rattle.gnb_types.specs.declared.names.Dir.{Dir}
use Rattle.gnb_types.specs.declared.names.Dir.TheVariants.{Dl, Ul}
use Rattle.unit_defs.specs.Ways.{Load, frame, uplink, status, Output, packet, Answer, gives, spent}
use Rattle.unit_defs.specs.CuUpRecords.{SourceHop}
use Rattle.proof_cu_up_orders.specs.context_orders.Orders.{CuUpModel, ContextStep, switches, freezes, resumes}

-- where a hop leads: to which CU-UP, and on which of its tunnels
pub record HopEnds : Type 0 where
  pub peer : NodeId
  pub down : ℕ
  pub up : ℕ

abbrev pub ends_of : Option SourceHop → Option HopEnds
ends_of None = None
ends_of (Some hop) = Some (record { peer = hop.peer; down = hop.down; up = hop.up })

abbrev pub IsHopEnd : Option HopEnds → Dir → NodeId → ℕ → Type 0
IsHopEnd None dir to teid = ⊥
IsHopEnd (Some h) Dl to teid = (to ≡ h.peer) × (teid ≡ h.down)
IsHopEnd (Some h) Ul to teid = (to ≡ h.peer) × (teid ≡ h.up)

-- frames go to a DU; all else goes to where the hop leads, and is what a hop carries
abbrev pub IsPutAt : {P : Type 0} → Option HopEnds → Dir → NodeId → ℕ → Load P → Type 0
IsPutAt h Dl to teid (frame poll restart number pdu) = Unit {0}
IsPutAt h dir to teid (uplink pdu) = ⊥
IsPutAt h dir to teid (status lost delivered) = ⊥
IsPutAt h dir to teid load = IsHopEnd h dir to teid

-- what is put is this bearer's own
abbrev pub IsOwnPut : {M P : Type 0} → UeId → BearerId → Option HopEnds → Output M P → Type 0
IsOwnPut ue bearer h (packet to teid u b dir tag load) = (u ≡ ue) × (b ≡ bearer) × IsPutAt h dir to teid load
IsOwnPut ue bearer h output = Unit {0}

abbrev pub AreOwnPuts : {M P : Type 0} → UeId → BearerId → Option HopEnds → List (Output M P) → Type 0
AreOwnPuts ue bearer h outputs = AllByRecursion (IsOwnPut ue bearer h) outputs

-- the hop of a bearer after an order: a freeze gives it one, and a switch and a resume end it
abbrev pub hop_after : {P : Type 0} → CuUpModel → ContextStep P → Option HopEnds
hop_after p (freezes peer down up) = Some (record { peer = peer; down = down; up = up })
hop_after p (switches du teid) = None
hop_after p resumes = None
hop_after p order = ends_of p.bearer.hop

abbrev pub PutsOwn : {M P : Type 0} → CuUpModel → ContextStep P → Answer M P (Option CuUpModel) → Type 0
PutsOwn p order (gives outputs None) = AreOwnPuts p.at.ue p.at.bearer (hop_after p order) outputs
PutsOwn p order (gives outputs (Some q)) =
    AreOwnPuts p.at.ue p.at.bearer (hop_after p order) outputs × (ends_of q.bearer.hop ≡ hop_after p order)
PutsOwn p order (spent counter) = Unit {0}

-- The NR-U numbers of the frames that a CU-UP puts on one downlink tunnel (TS 38.425, 5.4.1), whichever bearer they are of.
use Rattle.std.specs.Prelude.{ℕ, ◌≡◌, ◌==◌, ◌+◌, Bool, true, ◌&&◌, if◌then◌else◌, List, [], ◌∷◌, Option, Some, None}
use Rattle.std.specs.List.{flat_map, AllByRecursion}
use Rattle.std.specs.Ordering.{eq_by_cmp}
use Rattle.gnb_types.specs.declared.names.Gnb.{Gnb}
use Rattle.gnb_types.specs.declared.names.NodeId.{NodeId}
use Rattle.gnb_types.specs.declared.names.NodeId.TheVariants.{Du}
use Rattle.gnb_types.specs.declared.names.UeId.{UeId}
use Rattle.gnb_types.specs.declared.names.BearerId.{BearerId}
use Rattle.gnb_types.specs.declared.keys.TunnelEnd.{TunnelEnd}
use Rattle.gnb_types.specs.declared.plans.Tunnel.{Tunnel}
use Rattle.gnb_types.specs.Orders.{node_cmp, ue_cmp, bearer_cmp}
use Rattle.tables.specs.Tables.{find, IsSorted}
use Rattle.transaction_defs.specs.Callees.{new, verdict}
use Rattle.message_types.specs.declared.e1.E1Message.TheVariants as e1s
use Rattle.unit_defs.specs.Ways.{e1, Input, control_input, Answer, gives, spent}
use Rattle.unit_defs.specs.Messages.{mode_switch, channel}
use Rattle.unit_defs.specs.CuUpRecords.{DownlinkTunnel, CuUpBearer, CuUpContext, CuUp}
use Rattle.proof_unit_steps.specs.frames.Numbered.{Frame, frames_by}

-- a tunnel, the bearer of a CU-UP to which it was given, if it was, and the gNB of this CU-UP
pub record OwnedTunnel : Type 0 where
  pub gnb : Gnb
  pub end : TunnelEnd
  pub owner : Option (UeId × BearerId)

abbrev pub is_tunnel : TunnelEnd → NodeId → ℕ → Bool
is_tunnel end node teid = eq_by_cmp node_cmp node end.node && teid == end.teid

-- the numbers of the frames on it
abbrev pub number_on : TunnelEnd → Frame → List ℕ
number_on end f = if is_tunnel end f.to f.teid then f.number ∷ [] else []

abbrev pub numbers_on : TunnelEnd → List Frame → List ℕ
numbers_on end frames = flat_map (number_on end) frames

-- they go on, one after another, where so many were put before; and so many were put then
abbrev pub CountTo : ℕ → List ℕ → ℕ → Type 0
CountTo before [] after = after ≡ before
CountTo before (n ∷ ns) after = (n ≡ before) × CountTo (before + 1) ns after

-- ---- what a CU-UP keeps: only the owner's downlink leads there, and its next number is how many were put

abbrev pub Leads : TunnelEnd → Option DownlinkTunnel → Type 0
Leads end None = ⊥
Leads end (Some d) = is_tunnel end d.du d.teid ≡ true

abbrev pub NextIs : ℕ → Option DownlinkTunnel → Type 0
NextIs count None = Unit {0}
NextIs count (Some d) = d.next ≡ count

abbrev pub BearerCounts : OwnedTunnel → ℕ → UeId → BearerId → Option DownlinkTunnel → Type 0
BearerCounts t count ue bearer d = Leads t.end d → (t.owner ≡ Some (ue, bearer)) × NextIs count d

abbrev pub CuUpCounts : {M C : Type 0} → OwnedTunnel → ℕ → CuUp M C → Type 0
CuUpCounts t count r =
    (r.gnb ≡ t.gnb)
    × ((ue : UeId) (c : CuUpContext) (bearer : BearerId) (b : CuUpBearer) → find ue_cmp r.contexts ue ≡ Some c
    → find bearer_cmp c.bearers bearer ≡ Some b → BearerCounts t count ue bearer b.downlink)

-- the bearers of each context are in ascending order
abbrev pub BearersInOrder : {M C : Type 0} → CuUp M C → Type 0
BearersInOrder r = (ue : UeId) (c : CuUpContext) → find ue_cmp r.contexts ue ≡ Some c → IsSorted bearer_cmp c.bearers

-- ---- a new request that switches a bearer to the tunnel switches the owner, and is the first one: nothing was put there

abbrev pub IsGiven : OwnedTunnel → ℕ → Gnb → UeId → ℕ → Tunnel → Type 0
IsGiven t count gnb ue du x = is_tunnel t.end (Du gnb du) x.teid ≡ true → (t.owner ≡ Some (ue, x.bearer)) × (count ≡ 0)

abbrev pub SwitchesFirst : {M C P : Type 0} → OwnedTunnel → ℕ → CuUp M C → Input C P → Type 0
SwitchesFirst t count r (control_input from (e1 (e1s.BearerContextModificationRequest ue instance (Some downlinks) mode peer down up ss (Some du)))) =
    mode ≡ mode_switch → verdict r.transactions.callee (channel ue.0 from) instance ≡ new
    → AllByRecursion (IsGiven t count r.gnb ue du) downlinks
SwitchesFirst t count r input = Unit {0}

-- ---- an answer: its frames on the tunnel go on from there, and what is kept then counts them; without an owner there are none

abbrev pub NumbersTunnel : {M C P : Type 0} → OwnedTunnel → ℕ → Answer M P (CuUp M C) → Type 0
NumbersTunnel t count (gives outputs after) =
    (more : ℕ) × CountTo count (numbers_on t.end (frames_by outputs)) more × CuUpCounts t more after × (t.owner ≡ None → more ≡ count)
NumbersTunnel t count (spent counter) = Unit {0}

-- Whose the open TEIDs of a node are: exactly those that its contexts name, each for one context, bearer and kind (TS 29.281, 3.1).
use Rattle.std.specs.Prelude.{ℕ, ◌≡◌, ◌≤◌, ◌==◌, ◌+◌, Bool, true, false, ◌&&◌, List, Option, Some, None}
use Rattle.std.specs.Ordering.{nat_cmp}
use Rattle.gnb_types.specs.declared.names.Gnb.{Gnb}
use Rattle.gnb_types.specs.declared.names.UeId.{UeId}
use Rattle.gnb_types.specs.Orders.{ue_cmp, bearer_cmp}
use Rattle.tables.specs.Tables.{find, IsSorted}
use Rattle.unit_defs.specs.CuUpRecords.{CuUpBearer, CuUpContext, TunnelKind, n3, f1u_uplink, forwarding_down, forwarding_up, CuUpTunnel, CuUp}
use Rattle.unit_defs.specs.CuUpBearers.{teid_in, is_one_of}
use Rattle.unit_defs.specs.Du.{DuBearer, DuContext, DuTunnel, Du}
use Rattle.run_defs.specs.Units.{Units, cu_up_of, du_of}
use Rattle.proof_run_steps.specs.teids.Given.{below}

-- ---- what a context names

-- the TEIDs of a bearer's tunnels of a kind
abbrev pub ends_of : TunnelKind → CuUpBearer → List ℕ
ends_of n3 b = teid_in b.n3
ends_of f1u_uplink b = b.uplinks
ends_of forwarding_down b = teid_in b.forward_down
ends_of forwarding_up b = teid_in b.forward_up

-- there is one, and this holds of it
abbrev pub has_such : {X : Type 0} → (X → Bool) → Option X → Bool
has_such test None = false
has_such test (Some x) = test x

abbrev pub has_end : TunnelKind → ℕ → Option CuUpBearer → Bool
has_end kind teid bearer = has_such (λ b. is_one_of (ends_of kind b) teid) bearer

abbrev pub up_context_names : CuUpTunnel → ℕ → Option CuUpContext → Bool
up_context_names owner teid context =
    has_such (λ c. c.instance == owner.context && has_end owner.kind teid (find bearer_cmp c.bearers owner.bearer)) context

-- at a CU-UP: the owner's terminal has this context, and its bearer has a tunnel of this kind with this TEID
abbrev pub cu_up_names : List (UeId × CuUpContext) → CuUpTunnel → ℕ → Bool
cu_up_names contexts owner teid = up_context_names owner teid (find ue_cmp contexts owner.ue)

abbrev pub is_downlink : ℕ → Option DuBearer → Bool
is_downlink teid bearer = has_such (λ b. b.downlink == teid) bearer

abbrev pub du_context_names : DuTunnel → ℕ → Option DuContext → Bool
du_context_names owner teid context = has_such (λ c. is_downlink teid (find bearer_cmp c.bearers owner.bearer)) context

-- at a DU: the owner's terminal has a context, and this is its bearer's downlink
abbrev pub du_names : List (UeId × DuContext) → DuTunnel → ℕ → Bool
du_names contexts owner teid = du_context_names owner teid (find ue_cmp contexts owner.ue)

-- ---- what is open is what is named

-- each open TEID is named as its owner's, and what is named is open, as that owner's: so no TEID is named as two owners'
pub record AreNamed {X : Type 0} (tunnels : List (ℕ × X)) (names : X → ℕ → Bool) : Type 0 where
  pub named : (teid : ℕ) (owner : X) → find nat_cmp tunnels teid ≡ Some owner → names owner teid ≡ true
  pub stands : (teid : ℕ) (owner : X) → names owner teid ≡ true → find nat_cmp tunnels teid ≡ Some owner

-- each open TEID was given
abbrev pub WereGiven : {X : Type 0} → ℕ → List (ℕ × X) → Type 0
WereGiven {X = X} next tunnels = (teid : ℕ) (owner : X) → find nat_cmp tunnels teid ≡ Some owner → teid + 1 ≤ below next

-- the bearers of each context are in ascending order
abbrev pub UpInOrder : List (UeId × CuUpContext) → Type 0
UpInOrder contexts = (ue : UeId) (c : CuUpContext) → find ue_cmp contexts ue ≡ Some c → IsSorted bearer_cmp c.bearers

abbrev pub DuInOrder : List (UeId × DuContext) → Type 0
DuInOrder contexts = (ue : UeId) (c : DuContext) → find ue_cmp contexts ue ≡ Some c → IsSorted bearer_cmp c.bearers

abbrev pub CuUpOwns : {M C : Type 0} → CuUp M C → Type 0
CuUpOwns r = AreNamed r.tunnels (cu_up_names r.contexts) × UpInOrder r.contexts × WereGiven r.next_teid r.tunnels

abbrev pub DuOwns : {M C : Type 0} → Du M C → Type 0
DuOwns r = AreNamed r.tunnels (du_names r.contexts) × DuInOrder r.contexts × WereGiven r.next_teid r.tunnels

-- ---- of all units

abbrev pub AreOwned : {M C : Type 0} → Units M C → Type 0
AreOwned units =
    ((gnb : Gnb) (number : ℕ) → CuUpOwns (cu_up_of units gnb number)) × ((gnb : Gnb) (number : ℕ) → DuOwns (du_of units gnb number))

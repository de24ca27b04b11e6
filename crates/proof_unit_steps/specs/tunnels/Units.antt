-- What a DU and a CU-UP name: the tunnels of others that their bearers put packets on, and their own; and how long their terminals'
-- numbers are.
use Rattle.std.specs.Prelude.{ℕ, ◌≡◌, List, Option, Some}
use Rattle.std.specs.List.{AllByRecursion}
use Rattle.gnb_types.specs.declared.names.Gnb.{Gnb}
use Rattle.gnb_types.specs.declared.names.NodeId.{NodeId}
use Rattle.gnb_types.specs.declared.names.NodeId.TheVariants.{CuUp as up_id, Du as du_id}
use Rattle.gnb_types.specs.declared.names.UeId.{UeId}
use Rattle.gnb_types.specs.declared.names.BearerId.{BearerId}
use Rattle.gnb_types.specs.Orders.{ue_cmp}
use Rattle.tables.specs.Tables.{find}
use Rattle.unit_defs.specs.Ways.{Way, Answer, gives, spent}
use Rattle.unit_defs.specs.CuUpRecords.{TunnelKind, n3, f1u_uplink, forwarding_down, forwarding_up, DownlinkTunnel, SourceHop, CuUpBearer, CuUpContext, CuUp}
use Rattle.unit_defs.specs.CuUpBearers.{teid_in}
use Rattle.unit_defs.specs.Du.{DuBearer, DuContext, Du}
use Rattle.unit_defs.specs.Ue.{UeNode}
use Rattle.proof_unit_steps.specs.tunnel_names.Names.{Owners, IfAny, Property, OutputsName, KeptNames}

-- of a table whose keys matter
abbrev pub Each : {K X : Type 0} → (K → X → Type 0) → List (K × X) → Type 0
Each Q es = AllByRecursion (λ e. Q e.0 e.1) es

module _ (owners : Owners) where
  abbrev pub CuUpTeid : NodeId → TunnelKind → UeId → BearerId → ℕ → Type 0
  CuUpTeid (up_id gnb number) kind ue bearer teid = owners.up gnb number kind ue bearer teid
  CuUpTeid node kind ue bearer teid = ⊥

  abbrev pub DuTeid : NodeId → UeId → BearerId → ℕ → Type 0
  DuTeid (du_id gnb number) ue bearer teid = owners.du gnb number ue bearer teid
  DuTeid node ue bearer teid = ⊥

  -- ---- a bearer of a DU puts on an uplink of a CU-UP; its own tunnel is its downlink

  abbrev pub UplinkNames : UeId → BearerId → DuBearer → Type 0
  UplinkNames ue bearer b = CuUpTeid b.up f1u_uplink ue bearer b.uplink

  abbrev pub DownlinkHolds : Gnb → ℕ → UeId → BearerId → DuBearer → Type 0
  DownlinkHolds gnb number ue bearer b = owners.du gnb number ue bearer b.downlink

  abbrev pub DuHolds : {M C : Type 0} → Gnb → ℕ → Du M C → Type 0
  DuHolds gnb number r = (ue : UeId) (c : DuContext) → find ue_cmp r.contexts ue ≡ Some c → Each (DownlinkHolds gnb number ue) c.bearers

  -- ---- a bearer of a CU-UP puts on a downlink of a DU, and on the two tunnels of its hop; its own tunnels are of four kinds

  abbrev pub DownlinkNames : UeId → BearerId → Option DownlinkTunnel → Type 0
  DownlinkNames ue bearer downlink = IfAny (λ d. DuTeid d.du ue bearer d.teid) downlink

  abbrev pub HopNames : UeId → BearerId → Option SourceHop → Type 0
  HopNames ue bearer hop = IfAny (λ h. CuUpTeid h.peer forwarding_down ue bearer h.down × CuUpTeid h.peer forwarding_up ue bearer h.up) hop

  abbrev pub BearerNames : UeId → BearerId → CuUpBearer → Type 0
  BearerNames ue bearer b = DownlinkNames ue bearer b.downlink × HopNames ue bearer b.hop

  pub record BearerHolds (gnb : Gnb) (number : ℕ) (ue : UeId) (bearer : BearerId) (b : CuUpBearer) : Type 0 where
    pub paths : AllByRecursion (owners.up gnb number n3 ue bearer) (teid_in b.n3)
    pub uplinks : AllByRecursion (owners.up gnb number f1u_uplink ue bearer) b.uplinks
    pub down : AllByRecursion (owners.up gnb number forwarding_down ue bearer) (teid_in b.forward_down)
    pub up : AllByRecursion (owners.up gnb number forwarding_up ue bearer) (teid_in b.forward_up)

  abbrev pub CuUpHolds : {M C : Type 0} → Gnb → ℕ → CuUp M C → Type 0
  CuUpHolds gnb number r = (ue : UeId) (c : CuUpContext) → find ue_cmp r.contexts ue ≡ Some c → Each (BearerHolds gnb number ue) c.bearers

  -- 0 is no TEID: it may be named for any
  pub record NoneIsFree : Type 0 where
    pub up : (gnb : Gnb) (number : ℕ) (kind : TunnelKind) (ue : UeId) (bearer : BearerId) → owners.up gnb number kind ue bearer 0
    pub du : (gnb : Gnb) (number : ℕ) (ue : UeId) (bearer : BearerId) → owners.du gnb number ue bearer 0

module _ {M C P : Type 0} {way : Way M C P} (is : Property way) where
  pub record CuUpNames (gnb : Gnb) (number : ℕ) (r : CuUp M C) : Type 0 where
    pub own : r.gnb ≡ gnb
    pub contexts : Each (λ ue c. Each (BearerNames is.owners ue) c.bearers) r.contexts
    pub lengths : Each (λ ue c. is.owners.length ue c.sn) r.contexts
    pub kept : KeptNames is (up_id gnb number) r.transactions

  pub record DuNames (gnb : Gnb) (number : ℕ) (r : Du M C) : Type 0 where
    pub own : r.gnb ≡ gnb
    pub uplinks : Each (λ ue c. Each (UplinkNames is.owners ue) c.bearers) r.contexts
    pub lengths : Each (λ ue c. is.owners.length ue c.sn) r.contexts
    pub kept : KeptNames is (du_id gnb number) r.transactions

  -- a terminal's plan says how long its numbers are
  abbrev pub IsLong : UeNode → Type 0
  IsLong u = is.owners.length u.plan.ue u.plan.sn

  -- ---- an answer, where what is there afterwards holds its own tunnels

  abbrev pub AnswerIf : {R : Type 0} → (R → Type 0) → (R → Type 0) → NodeId → Answer M P R → Type 0
  AnswerIf Holds Q node (gives outputs after) = Holds after → Q after × OutputsName is node outputs
  AnswerIf Holds Q node (spent counter) = Unit {0}

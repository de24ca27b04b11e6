-- What a CU-UP keeps (TS 38.401, 6.1.2; TS 38.323, 5.2): per terminal a context, and in it per bearer the entities of PDCP, the
-- ends of its tunnels, and what a handover leaves in between.
use Rattle.std.specs.Prelude.{ℕ, ◌*◌, Bool, List, length, map, sum, Option}
use Rattle.gnb_types.specs.declared.names.NodeId.{NodeId}
use Rattle.gnb_types.specs.declared.names.Gnb.{Gnb}
use Rattle.gnb_types.specs.declared.names.UeId.{UeId}
use Rattle.gnb_types.specs.declared.names.BearerId.{BearerId}
use Rattle.gnb_types.specs.declared.names.SnBits.{SnBits}
use Rattle.pdcp_defs.specs.Senders.{Sender}
use Rattle.pdcp_defs.specs.Receivers.{Receiver}
use Rattle.unit_defs.specs.Transactions.{Transactions}

-- where a bearer's downlink goes: the DU, its TEID, and the NR-U number of the next frame (TS 38.425, 5.2)
pub record DownlinkTunnel : Type 0 where
  pub du : NodeId
  pub teid : ℕ
  pub next : ℕ

-- where a frozen bearer's packets go: the CU-UP that is the target, its two forwarding TEIDs, and whether the end of the
-- uplink was put there
pub record SourceHop : Type 0 where
  pub peer : NodeId
  pub down : ℕ
  pub up : ℕ
  pub up_ended : Bool

-- one bearer of a context. Of the tunnels that end here N3 and the uplinks are there while they are open; the two of
-- forwarding stay open as long as the context.
pub record CuUpBearer : Type 0 where
  pub n3 : Option ℕ
  pub uplinks : List ℕ
  pub forward_down : Option ℕ
  pub forward_up : Option ℕ
  -- downlink: the entity, and the packets that wait for a COUNT
  pub sender : Sender (List ℕ)
  pub waiting : List (List ℕ)
  pub downlink : Option DownlinkTunnel
  -- the next frame reports to the DU that nothing before it comes any more
  pub restart : Bool
  -- uplink
  pub receiver : Receiver (List ℕ)
  -- of the hop from the source: the next COUNT that the source would have given, and which of its two tunnels have ended
  pub dl_next : ℕ
  pub down_ended : Bool
  pub up_ended : Bool
  -- while frozen: the hop to the target, whether a loss was told, and the COUNTs that came
  pub hop : Option SourceHop
  pub loss_while_frozen : Bool
  pub taken_while_frozen : List ℕ

-- What the bearers of a context share. A target has its packets from a source: it may serve once the SN status is there, and
-- serves once the terminal arrived. Any other context may serve from the start. A released context keeps no packet, and passes on
-- what still comes.
pub record CuUpFlags : Type 0 where
  pub target : Bool
  pub may_serve : Bool
  pub arrived : Bool
  pub frozen : Bool
  pub released : Bool

-- its instance, the first TEID that was given for it, distinguishes it from a later one of the same terminal
pub record CuUpContext : Type 0 where
  pub instance : ℕ
  pub sn : SnBits
  pub quota : ℕ
  pub flags : CuUpFlags
  pub bearers : List (BearerId × CuUpBearer)

-- the kinds of tunnels that end at a CU-UP
pub data TunnelKind : Type 0 where
  n3 : TunnelKind
  f1u_uplink : TunnelKind
  forwarding_down : TunnelKind
  forwarding_up : TunnelKind

-- whose an open TEID is
pub record CuUpTunnel : Type 0 where
  pub ue : UeId
  pub bearer : BearerId
  pub kind : TunnelKind
  pub context : ℕ

pub record CuUp (M C : Type 0) : Type 0 where
  pub gnb : Gnb
  pub number : ℕ
  pub is_set_up : Bool
  -- the TEID that it gives next, 0 where all were given
  pub next_teid : ℕ
  pub tunnels : List (ℕ × CuUpTunnel)
  pub contexts : List (UeId × CuUpContext)
  pub transactions : Transactions M C

-- how many blocks the contexts have: their quotas, in both directions of each bearer
abbrev pub blocks_of : UeId × CuUpContext → ℕ
blocks_of e = 2 * length e.1.bearers * e.1.quota

unfoldable pub reserved : List (UeId × CuUpContext) → ℕ
reserved contexts = sum (map blocks_of contexts)

-- how many there are in all
abbrev pub pool_blocks : ℕ
pool_blocks = 8192

-- whose order a bearer's part carries out: what it shares with the others, and its names
pub record CuUpScope : Type 0 where
  pub ue : UeId
  pub bearer : BearerId
  pub sn : SnBits
  pub quota : ℕ
  pub flags : CuUpFlags

abbrev pub cu_up_scope : UeId → CuUpContext → BearerId → CuUpScope
cu_up_scope ue c bearer = record { ue = ue; bearer = bearer; sn = c.sn; quota = c.quota; flags = c.flags }

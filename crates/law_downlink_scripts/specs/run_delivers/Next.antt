-- An item with the packet that its receiver delivers next, in a state of a run; and whose records of terminals are.
use Rattle.std.specs.Prelude.{ℕ, ◌≡◌, false, List, Some, None}
use Rattle.std.specs.Ordering.{nat_cmp}
use Rattle.gnb_types.specs.declared.names.UeId.{UeId}
use Rattle.gnb_types.specs.declared.names.BearerId.{BearerId}
use Rattle.gnb_types.specs.Orders.{ue_cmp, bearer_cmp}
use Rattle.tables.specs.Tables.{find}
use Rattle.pdcp_defs.specs.Receivers.{is_ahead}
use Rattle.message_types.specs.declared.rrc.Token.{Token}
use Rattle.unit_defs.specs.Ways.{Message, Pdu, Load}
use Rattle.unit_defs.specs.CuUpRecords.{CuUpBearer, CuUpContext, CuUpTunnel, CuUp, cu_up_scope}
use Rattle.unit_defs.specs.CuUpItems.{held_reason}
use Rattle.unit_defs.specs.Ue.{UeBearer, UeNode}
use Rattle.run_defs.specs.Units.{Units, ue_of}
use Rattle.run_defs.specs.Runs.{taken_of}
use Rattle.law_downlink_scripts.specs.delivers.Awaited.{Brings}

-- At this CU-UP an item on this tunnel has the packet of the COUNT that a bearer delivers next, of a context that is neither frozen
-- nor released, and isn't held.
pub record IsNextAt (r : CuUp (Message Token) Token) (teid : ℕ) (load : Load Pdu) (count : ℕ) (packet : List ℕ) : Type 0 where
  pub tunnel : CuUpTunnel
  pub is_open : find nat_cmp r.tunnels teid ≡ Some tunnel
  pub context : CuUpContext
  pub is_there : find ue_cmp r.contexts tunnel.ue ≡ Some context
  pub bearer : CuUpBearer
  pub has : find bearer_cmp context.bearers tunnel.bearer ≡ Some bearer
  pub brings : Brings tunnel.kind load count packet
  pub frozen : context.flags.frozen ≡ false
  pub released : context.flags.released ≡ false
  pub isnt_held : held_reason (cu_up_scope tunnel.ue context tunnel.bearer) bearer tunnel.kind (taken_of load) ≡ None
  pub next : count ≡ bearer.receiver.deliv

-- at this terminal a bearer delivers this COUNT next, and has room for it
pub record IsNextBy (u : UeNode) (bearer : BearerId) (count : ℕ) : Type 0 where
  pub there : UeBearer
  pub has : find bearer_cmp u.bearers bearer ≡ Some there
  pub next : count ≡ there.receiver.deliv
  pub room : is_ahead u.plan.quota there.receiver count ≡ false

-- the record of a terminal is of its plan
abbrev pub AreTheirOwn : {M C : Type 0} → Units M C → Type 0
AreTheirOwn units = (ue : UeId) (u : UeNode) → ue_of units ue ≡ Some u → u.plan.ue ≡ ue

-- An item with the packet that its receiver awaits, and that it is delivered in the step that takes it (TS 38.323, 5.2.2).
use Rattle.std.specs.Prelude.{ℕ, ◌≡◌, ◌≤◌, ◌+◌, false, List, Some, None, Contains}
use Rattle.std.specs.Ordering.{nat_cmp}
use Rattle.std.specs.List.{AllByRecursion}
use Rattle.gnb_types.specs.declared.names.BearerId.{BearerId}
use Rattle.gnb_types.specs.declared.names.SnBits.{SnBits}
use Rattle.gnb_types.specs.declared.keys.EntityKey.{EntityKey}
use Rattle.gnb_types.specs.Orders.{ue_cmp, bearer_cmp}
use Rattle.tables.specs.Tables.{find}
use Rattle.pdcp_defs.specs.Receivers.{Receiver, is_ahead}
use Rattle.message_types.specs.declared.rrc.Token.{Token}
use Rattle.unit_defs.specs.Ways.{Message, Pdu, packet_pdu, Load, numbered, uplink}
use Rattle.unit_defs.specs.CuUpRecords.{CuUpBearer, CuUpContext, CuUpTunnel, TunnelKind, n3, f1u_uplink, forwarding_down, forwarding_up, CuUp, cu_up_scope}
use Rattle.unit_defs.specs.CuUpItems.{held_reason}
use Rattle.unit_defs.specs.Ue.{UeBearer, UeNode}
use Rattle.run_defs.specs.Lines.{delivers}
use Rattle.run_defs.specs.Said.{lines_in}
use Rattle.run_defs.specs.States.{goes, stops, Outcome}
use Rattle.run_defs.specs.Steps.{Done, is_done, is_held, is_refused}
use Rattle.run_defs.specs.Runs.{taken_of}

-- ---- a receiver awaits a COUNT: it is the next that it delivers, and all that it stores is above it

abbrev pub Awaits : Receiver (List ℕ) → ℕ → Type 0
Awaits r count = (count ≡ r.deliv) × AllByRecursion (λ (e : ℕ × List ℕ). r.deliv + 1 ≤ e.0) r.stored

-- an item of a tunnel of this kind brings the packet of a COUNT up
abbrev pub Brings : TunnelKind → Load Pdu → ℕ → List ℕ → Type 0
Brings f1u_uplink load count packet = load ≡ uplink (packet_pdu count packet)
Brings forwarding_up load count packet = (sn : SnBits) × (load ≡ numbered sn count packet)
Brings n3 load count packet = ⊥
Brings forwarding_down load count packet = ⊥

-- At this CU-UP an item on this tunnel has the packet that a bearer awaits, of a context that is neither frozen nor released, and
-- isn't held.
pub record IsAwaitedAt (r : CuUp (Message Token) Token) (teid : ℕ) (load : Load Pdu) (count : ℕ) (packet : List ℕ) : Type 0 where
  pub tunnel : CuUpTunnel
  pub is_open : find nat_cmp r.tunnels teid ≡ Some tunnel
  pub context : CuUpContext
  pub is_there : find ue_cmp r.contexts tunnel.ue ≡ Some context
  pub bearer : CuUpBearer
  pub has : find bearer_cmp context.bearers tunnel.bearer ≡ Some bearer
  pub brings : Brings tunnel.kind load count packet
  pub frozen : context.flags.frozen ≡ false
  pub released : context.flags.released ≡ false
  pub isnt_held : held_reason (cu_up_scope tunnel.ue context tunnel.bearer) bearer tunnel.kind (taken_of load) ≡ None
  pub awaits : Awaits bearer.receiver count

-- at this terminal a bearer awaits a COUNT, and has room for it
pub record IsAwaitedBy (u : UeNode) (bearer : BearerId) (count : ℕ) : Type 0 where
  pub there : UeBearer
  pub has : find bearer_cmp u.bearers bearer ≡ Some there
  pub awaits : Awaits there.receiver count
  pub room : is_ahead u.plan.quota there.receiver count ≡ false

-- ---- the packet is delivered in the step; the run may stop after it

abbrev pub DeliversIn : {M C L P : Type 0} → EntityKey → ℕ → List ℕ → Outcome M C L P → Type 0
DeliversIn key count packet (goes steps after) = Contains (lines_in steps) (delivers key count packet)
DeliversIn key count packet (stops steps why) = Contains (lines_in steps) (delivers key count packet)

abbrev pub IsDeliveredBy : {M C L P : Type 0} → EntityKey → ℕ → List ℕ → Done M C L P → Type 0
IsDeliveredBy key count packet (is_done outcome) = DeliversIn key count packet outcome
IsDeliveredBy key count packet (is_held reason) = ⊥
IsDeliveredBy key count packet (is_refused reason) = ⊥

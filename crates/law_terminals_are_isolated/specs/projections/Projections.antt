-- What a unit keeps of one terminal: its projection. The tables of requests and replies are seen as functions of the peer; a terminal of
-- number 0 stands for the unit itself.
use Rattle.std.specs.Prelude.{ℕ, List, [], Option}
use Rattle.gnb_types.specs.declared.names.NodeId.{NodeId}
use Rattle.gnb_types.specs.declared.names.NodeId.TheVariants.{Ue}
use Rattle.gnb_types.specs.declared.names.UeId.{UeId}
use Rattle.gnb_types.specs.declared.inputs.Order.{Order}
use Rattle.gnb_types.specs.declared.inputs.Order.TheVariants as orders
use Rattle.gnb_types.specs.Orders.{ue_cmp, channel_cmp}
use Rattle.tables.specs.Tables.{find, at}
use Rattle.transaction_defs.specs.Callers.{Opened}
use Rattle.transaction_defs.specs.Callees.{Kept}
use Rattle.unit_defs.specs.Ways.{Message}
use Rattle.unit_defs.specs.Transactions.{Kind, request, reply, transfer, kind_of, Waiting, Transactions}
use Rattle.unit_defs.specs.Messages.{channel}
use Rattle.unit_defs.specs.Core.{CorePath, CoreRecord}

-- by the peer: the last instance that was given, the open request, what waits, and what is kept of the peer's newest request
pub record Requests (M C : Type 0) : Type 0 where
  pub last : NodeId → ℕ
  pub opened : NodeId → Option (Opened M)
  pub waiting : NodeId → List (Waiting C)
  pub kept : NodeId → Option (Kept M)

abbrev pub requests_of : {M C : Type 0} → ℕ → Transactions M C → Requests M C
requests_of ue t = record {
  last = λ peer. at channel_cmp 0 t.caller.last (channel ue peer);
  opened = λ peer. find channel_cmp t.caller.opened (channel ue peer);
  waiting = λ peer. at channel_cmp [] t.waiting (channel ue peer);
  kept = λ peer. find channel_cmp t.callee (channel ue peer);
}

-- whose a control message is: that of its request or reply, or that to which it is passed on; what a terminal says is its own
abbrev pub ue_in : Kind → UeId
ue_in (request ue instance) = record { 0 = ue }
ue_in (reply ue instance) = record { 0 = ue }
ue_in (transfer ue) = record { 0 = ue }

abbrev pub message_ue : {C : Type 0} → NodeId → Message C → UeId
message_ue (Ue ue) message = record { 0 = ue }
message_ue from message = ue_in (kind_of message)

-- whose an order is: that of its terminal; the start of a node is the node's
abbrev pub order_ue : Order → UeId
order_ue orders.Start = record { 0 = 0 }
order_ue (orders.Attach plan) = plan.ue
order_ue (orders.Handover plan) = plan.ue
order_ue (orders.Cancel ue) = ue
order_ue (orders.Release ue) = ue
order_ue (orders.Arrive ue) = ue
order_ue (orders.Return ue) = ue
order_ue (orders.Fail ue) = ue
order_ue (orders.Poll ue bearer) = ue

-- ---- the core

pub record CoreProjection (M C : Type 0) : Type 0 where
  pub path : Option CorePath
  pub requests : Requests M C

abbrev pub core_projection : {M C : Type 0} → UeId → CoreRecord M C → CoreProjection M C
core_projection ue r = record { path = find ue_cmp r.paths ue; requests = requests_of ue.0 r.transactions }

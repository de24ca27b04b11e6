-- What a CU-UP keeps of one terminal, what its terminals share, and whose an input is.
use Rattle.std.specs.Prelude.{ℕ, ◌≡◌, ◌==◌, ◌+◌, ◌*◌, Bool, nat_le, if◌then◌else◌, Option, Some, None}
use Rattle.std.specs.Ordering.{nat_cmp}
use Rattle.gnb_types.specs.declared.names.Gnb.{Gnb}
use Rattle.gnb_types.specs.declared.names.UeId.{UeId}
use Rattle.gnb_types.specs.Orders.{ue_cmp}
use Rattle.tables.specs.Tables.{find}
use Rattle.unit_defs.specs.Ways.{Input, control_input, packet_input, order_input}
use Rattle.unit_defs.specs.CuUpRecords.{CuUpContext, CuUpTunnel, CuUp, reserved, pool_blocks}
use Rattle.law_terminals_are_isolated.specs.projections.Projections.{Requests, requests_of, message_ue, order_ue}

-- its context, which open TEIDs are its, and its requests and replies
pub record CuUpProjection (M C : Type 0) : Type 0 where
  pub context : Option CuUpContext
  pub tunnels : ℕ → Option CuUpTunnel
  pub requests : Requests M C

abbrev pub own_tunnel : UeId → Option CuUpTunnel → Option CuUpTunnel
own_tunnel ue None = None
own_tunnel ue (Some t) = if t.ue.0 == ue.0 then Some t else None

abbrev pub cu_up_projection : {M C : Type 0} → UeId → CuUp M C → CuUpProjection M C
cu_up_projection ue r = record {
  context = find ue_cmp r.contexts ue;
  tunnels = λ teid. own_tunnel ue (find nat_cmp r.tunnels teid);
  requests = requests_of ue.0 r.transactions;
}

-- the same without its TEIDs: whose an open TEID is follows from the contexts, at a CU-UP whose open TEIDs are those that its contexts
-- name
pub record CuUpWithoutTeids (M C : Type 0) : Type 0 where
  pub context : Option CuUpContext
  pub requests : Requests M C

abbrev pub cu_up_without_teids : {M C : Type 0} → UeId → CuUp M C → CuUpWithoutTeids M C
cu_up_without_teids ue r = record { context = find ue_cmp r.contexts ue; requests = requests_of ue.0 r.transactions }

-- what couples terminals: the node's name, whether it is set up, and the TEID that it gives next; and, for a setup, whether so many
-- blocks of the pool are left
pub record UpShared : Type 0 where
  pub gnb : Gnb
  pub number : ℕ
  pub is_set_up : Bool
  pub next_teid : ℕ

abbrev pub cu_up_shared : {M C : Type 0} → CuUp M C → UpShared
cu_up_shared r = record { gnb = r.gnb; number = r.number; is_set_up = r.is_set_up; next_teid = r.next_teid }

abbrev pub has_blocks : {M C : Type 0} → ℕ → ℕ → CuUp M C → Bool
has_blocks count quota r = nat_le (reserved r.contexts + 2 * count * quota) pool_blocks

abbrev pub SameRoom : {M C : Type 0} → CuUp M C → CuUp M C → Type 0
SameRoom r q = (count quota : ℕ) → has_blocks count quota r ≡ has_blocks count quota q

-- the arguments of a terminal's step
abbrev pub cu_up_view : {M C : Type 0} → UeId → CuUp M C → CuUpProjection M C × UpShared
cu_up_view ue r = (cu_up_projection ue r, cu_up_shared r)

-- the terminal that an input is for: none where it is for each of them, for a TEID that isn't open, or of no use to a CU-UP
abbrev pub tunnel_ue : Option CuUpTunnel → Option UeId
tunnel_ue None = None
tunnel_ue (Some t) = Some t.ue

abbrev pub cu_up_ue : {M C P : Type 0} → CuUp M C → Input C P → Option UeId
cu_up_ue r (control_input from message) = Some (message_ue from message)
cu_up_ue r (packet_input teid item) = tunnel_ue (find nat_cmp r.tunnels teid)
cu_up_ue r (order_input order) = Some (order_ue order)
cu_up_ue r input = None

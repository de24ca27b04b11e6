-- What a DU keeps of one terminal, what its terminals share, and whose an input is.
use Rattle.std.specs.Prelude.{ℕ, ◌≡◌, ◌≤◌, ◌==◌, Bool, false, if◌then◌else◌, Option, Some, None}
use Rattle.std.specs.List.{AllByRecursion}
use Rattle.std.specs.Ordering.{nat_cmp}
use Rattle.gnb_types.specs.declared.names.Gnb.{Gnb}
use Rattle.gnb_types.specs.declared.names.UeId.{UeId}
use Rattle.gnb_types.specs.Orders.{ue_cmp}
use Rattle.tables.specs.Tables.{find}
use Rattle.unit_defs.specs.Ways.{Input, control_input, packet_input, radio_input, confirm_input, offer_input, tick_input, order_input}
use Rattle.unit_defs.specs.Du.{DuContext, DuTunnel, Du, downlinks_of}
use Rattle.law_terminals_are_isolated.specs.projections.Projections.{Requests, requests_of, message_ue, order_ue}

-- its context, which open TEIDs are its, and its requests and replies
pub record DuProjection (M C : Type 0) : Type 0 where
  pub context : Option DuContext
  pub tunnels : ℕ → Option DuTunnel
  pub requests : Requests M C

abbrev pub own_tunnel : UeId → Option DuTunnel → Option DuTunnel
own_tunnel ue None = None
own_tunnel ue (Some t) = if t.ue.0 == ue.0 then Some t else None

abbrev pub du_projection : {M C : Type 0} → UeId → Du M C → DuProjection M C
du_projection ue r = record {
  context = find ue_cmp r.contexts ue;
  tunnels = λ teid. own_tunnel ue (find nat_cmp r.tunnels teid);
  requests = requests_of ue.0 r.transactions;
}

-- what couples terminals: the node's name, whether it is set up, and the TEID that it gives next
pub record DuShared : Type 0 where
  pub gnb : Gnb
  pub number : ℕ
  pub is_set_up : Bool
  pub next_teid : ℕ

abbrev pub du_shared : {M C : Type 0} → Du M C → DuShared
du_shared r = record { gnb = r.gnb; number = r.number; is_set_up = r.is_set_up; next_teid = r.next_teid }

-- the arguments of a terminal's step
abbrev pub du_view : {M C : Type 0} → UeId → Du M C → DuProjection M C × DuShared
du_view ue r = (du_projection ue r, du_shared r)

-- the terminal that an input is for: none where it is for each of them, or for a TEID that isn't open
abbrev pub tunnel_ue : Option DuTunnel → Option UeId
tunnel_ue None = None
tunnel_ue (Some t) = Some t.ue

abbrev pub du_ue : {M C P : Type 0} → Du M C → Input C P → Option UeId
du_ue r (control_input from message) = Some (message_ue from message)
du_ue r (packet_input teid item) = tunnel_ue (find nat_cmp r.tunnels teid)
du_ue r (radio_input ue bearer dir pdu content) = Some ue
du_ue r (confirm_input ue bearer dir pdu content) = Some ue
du_ue r (offer_input ue bearer packet) = Some ue
du_ue r tick_input = None
du_ue r (order_input order) = Some (order_ue order)

-- the TEIDs of a terminal's context are no other terminal's, and those that come next aren't open
abbrev pub IsApart : {M C : Type 0} → Du M C → Type 0
IsApart r =
    ((ue : UeId) (c : DuContext) → find ue_cmp r.contexts ue ≡ Some c
    → AllByRecursion (λ teid. (owner : DuTunnel) → find nat_cmp r.tunnels teid ≡ Some owner → owner.ue ≡ ue) (downlinks_of c))
    × ((r.next_teid == 0) ≡ false → (teid : ℕ) → r.next_teid ≤ teid → find nat_cmp r.tunnels teid ≡ None)

-- Which list of a bearer's models stands on which tunnel of a run: by whose an open TEID of a CU-UP is.
use Rattle.std.specs.Prelude.{◌≡◌, ℕ, if◌then◌else◌, List, [], ◌∷◌, ◌++◌, Option, Some, None}
use Rattle.std.specs.Ordering.{nat_cmp}
use Rattle.gnb_types.specs.declared.names.Gnb.{Gnb}
use Rattle.gnb_types.specs.declared.names.NodeId.{NodeId}
use Rattle.gnb_types.specs.declared.names.NodeId.TheVariants.{CuUp as up_id}
use Rattle.gnb_types.specs.declared.names.UeId.{UeId}
use Rattle.gnb_types.specs.declared.names.BearerId.{BearerId}
use Rattle.gnb_types.specs.declared.keys.TunnelEnd.{TunnelEnd}
use Rattle.tables.specs.Tables.{find}
use Rattle.message_types.specs.declared.rrc.Token.{Token}
use Rattle.unit_defs.specs.Ways.{Message, Pdu, packet_pdu, Load, numbered as numbered_load, uplink, end_marker as end_load}
use Rattle.unit_defs.specs.CuUpRecords.{TunnelKind, n3, f1u_uplink, forwarding_down, forwarding_up, CuUpTunnel}
use Rattle.transport_defs.specs.declared.Item.{Item}
use Rattle.run_defs.specs.Units.{cu_up_of}
use Rattle.run_defs.specs.Written.{Written}
use Rattle.run_defs.specs.States.{State}
use Rattle.bearer_defs.specs.chain_defs.Models as down_models
use Rattle.bearer_defs.specs.uplink_defs.Models as up_models
use Rattle.bearer_defs.specs.uplink_defs.Models.{numbered, end_marker}
use Rattle.proof_cu_up_orders.specs.chain_rows.Shown.{item_of}
use Rattle.proof_cu_up_orders.specs.context_orders.Shown.{is_bearer}
use Rattle.proof_run_steps.specs.tunnel_steps.Standing.{standing}
use Rattle.proof_bearer_refinement.specs.run_bearers.Things.{PlainUnits}
use Rattle.proof_bearer_refinement.specs.run_bearers.Bearers.{Numbering}

abbrev pub RunState : Type 0
RunState = State (Message Token) Token (Written (Load Pdu)) (Written Pdu)

abbrev pub RunItem : Type 0
RunItem = Item (Written (Load Pdu))

-- ---- whose a tunnel is, of this bearer's contexts

pub record Owned : Type 0 where
  pub context : ℕ
  pub kind : TunnelKind

abbrev pub owned_by : Numbering → UeId → BearerId → Gnb → ℕ → Option CuUpTunnel → Option Owned
owned_by n ue bearer gnb number None = None
owned_by n ue bearer gnb number (Some t) =
    if is_bearer ue bearer t.ue t.bearer
    then Some (record { context = n.number_of (record { gnb = gnb; number = number; instance = t.context }); kind = t.kind }) else None

abbrev pub owned_on : Numbering → UeId → BearerId → PlainUnits → NodeId → ℕ → Option Owned
owned_on n ue bearer u (up_id gnb number) teid = owned_by n ue bearer gnb number (find nat_cmp (cu_up_of u gnb number).tunnels teid)
owned_on n ue bearer u node teid = None

abbrev pub owned_at : Numbering → UeId → BearerId → PlainUnits → TunnelEnd → Option Owned
owned_at n ue bearer u end = owned_on n ue bearer u end.node end.teid

-- ---- what the two models say of items that stand there: frames, reports and delivery statuses say nothing

unfoldable pub downs_of : List RunItem → List down_models.Item
downs_of [] = []
downs_of (item ∷ items) = item_of item.content.says ++ downs_of items

abbrev pub up_item : Load Pdu → List up_models.Item
up_item (uplink (packet_pdu count packet)) = numbered count packet ∷ []
up_item (numbered_load sn count packet) = numbered count packet ∷ []
up_item end_load = end_marker ∷ []
up_item load = []

unfoldable pub ups_of : List RunItem → List up_models.Item
ups_of [] = []
ups_of (item ∷ items) = up_item item.content.says ++ ups_of items

-- what stands on a tunnel of this kind is the list of that kind
abbrev pub IsMirror : TunnelKind → down_models.Member → up_models.Member → ℕ → List RunItem → Type 0
IsMirror n3 m k teid items = downs_of items ≡ m.n3
IsMirror forwarding_down m k teid items = downs_of items ≡ m.forwarded
IsMirror f1u_uplink m k teid items = ups_of items ≡ k.uplink teid
IsMirror forwarding_up m k teid items = ups_of items ≡ k.forwarded

-- ---- the run's tunnels are the lists of the models

abbrev pub MirrorsAt : Numbering → UeId → BearerId → RunState → down_models.Model → up_models.Model → TunnelEnd → Type 0
MirrorsAt n ue bearer s d u end =
    (o : Owned) (items : List RunItem) → owned_at n ue bearer s.units end ≡ Some o → standing s end ≡ Some items
    → IsMirror o.kind (d.members o.context) (u.members o.context) end.teid items

abbrev pub Mirrors : Numbering → UeId → BearerId → RunState → down_models.Model → up_models.Model → Type 0
Mirrors n ue bearer s d u = (end : TunnelEnd) → MirrorsAt n ue bearer s d u end

-- What a DU has of one bearer, and what each of its inputs changes of that.
use Rattle.std.specs.Prelude.{◌≡◌, ℕ, ◌+◌, Bool, not, if◌then◌else◌, List, [], ◌∷◌, Option, Some, None, ⊤}
use Rattle.std.specs.Ordering.{nat_cmp, eq_by_cmp}
use Rattle.gnb_types.specs.declared.names.NodeId.{NodeId}
use Rattle.gnb_types.specs.declared.names.NodeId.TheVariants.{CuCp}
use Rattle.gnb_types.specs.declared.names.UeId.{UeId}
use Rattle.gnb_types.specs.declared.names.BearerId.{BearerId}
use Rattle.gnb_types.specs.declared.names.SnBits.{SnBits}
use Rattle.gnb_types.specs.declared.plans.Peer.{Peer}
use Rattle.gnb_types.specs.declared.plans.Tunnel.{Tunnel}
use Rattle.gnb_types.specs.Orders.{ue_cmp, bearer_cmp}
use Rattle.tables.specs.Tables.{find}
use Rattle.message_types.specs.declared.f1.F1.TheVariants as f1s
use Rattle.transaction_defs.specs.Callees.{Verdict, new, again, stale, verdict}
use Rattle.unit_defs.specs.Ways.{Message, f1, Pdu, Taken, frame_item, Input, control_input, packet_input, Way, Answer, gives, spent}
use Rattle.unit_defs.specs.Messages.{channel, is_same_gnb, bearers_of, are_first_bearers}
use Rattle.unit_defs.specs.Transactions.{Kind, request, kind_of}
use Rattle.unit_defs.specs.Du.{Du, DuBearer, DuContext, DuTunnel, context_of, context_with}
use Rattle.law_downlink_order.specs.path.Paths.{Frame, taken_by}
use Rattle.proof_node_orders.specs.du_rows.Shown.{renewed}

-- one bearer at a DU: of its context the epoch and the length of numbers, and what the DU keeps of the bearer
pub record DuModel : Type 0 where
  pub epoch : ℕ
  pub sn : SnBits
  pub bearer : DuBearer

abbrev pub model_with : DuContext → Option DuBearer → Option DuModel
model_with c None = None
model_with c (Some b) = Some (record { epoch = c.epoch; sn = c.sn; bearer = b })

abbrev pub model_in : BearerId → Option DuContext → Option DuModel
model_in bearer None = None
model_in bearer (Some c) = model_with c (find bearer_cmp c.bearers bearer)

abbrev pub model_of : {M C : Type 0} → Du M C → UeId → BearerId → Option DuModel
model_of r ue bearer = model_in bearer (context_of r ue)

-- It stays; a frame is taken; a radio of another epoch begins, with a downlink tunnel of its own; a context is set up, in place of what
-- was there; the context ends.
pub data Change : Type 0 where
  stays : Change
  takes : (frame : Frame) → Change
  renews : (epoch teid : ℕ) → Change
  sets_up : (part : Option DuModel) → Change
  ends : Change

abbrev pub changed_in : Change → DuModel → DuModel
changed_in (takes frame) d = record d { bearer = taken_by d.bearer frame }
changed_in (renews epoch teid) d = record d { epoch = epoch; bearer = renewed d.bearer teid }
changed_in change d = d

unfoldable pub changed : Change → Option DuModel → Option DuModel
changed (sets_up part) d = part
changed ends d = None
changed change None = None
changed change (Some d) = Some (changed_in change d)

-- ---- a frame

abbrev pub of_frame : Taken Pdu → Change
of_frame (frame_item poll restart number pdu) = takes (record { poll = poll; restart = restart; number = number; pdu = pdu })
of_frame item = stays

abbrev pub of_tunnel : UeId → BearerId → Taken Pdu → Option DuTunnel → Change
of_tunnel ue bearer item None = stays
of_tunnel ue bearer item (Some t) =
    if eq_by_cmp ue_cmp ue t.ue then (if eq_by_cmp bearer_cmp bearer t.bearer then of_frame item else stays) else stays

-- ---- a request of the CU-CP, where it is new

-- the TEID that a bearer gets, where one is given to each in turn
abbrev pub teid_anew : BearerId → ℕ → List (BearerId × DuBearer) → ℕ
teid_anew bearer next [] = next
teid_anew bearer next (e ∷ es) = if eq_by_cmp bearer_cmp bearer e.0 then next else teid_anew bearer (next + 1) es

abbrev pub of_modification : {M C : Type 0} → BearerId → ℕ → Du M C → Option DuContext → Change
of_modification bearer epoch r None = stays
of_modification bearer epoch r (Some c) = renews epoch (teid_anew bearer r.next_teid c.bearers)

abbrev pub if_own : Bool → Change → Change
if_own is_own change = if is_own then change else stays

module _ {M C P : Type 0} (way : Way M C P) where
  abbrev pub of_setup : BearerId → ℕ → List Tunnel → SnBits → Peer → Du M C → Change
  of_setup bearer epoch uplinks sn peer r =
      if not (are_first_bearers (bearers_of uplinks)) then stays
      else sets_up (model_in bearer (Some (context_with way r epoch uplinks sn peer)))

  abbrev pub of_request : UeId → BearerId → Message C → Du M C → Change
  of_request ue bearer (f1 (f1s.UeContextSetupRequest other instance epoch uplinks sn peer)) r =
      if_own (eq_by_cmp ue_cmp ue other) (of_setup bearer epoch uplinks sn peer r)
  of_request ue bearer (f1 (f1s.UeContextModificationRequest other instance epoch)) r =
      if_own (eq_by_cmp ue_cmp ue other) (of_modification bearer epoch r (context_of r other))
  of_request ue bearer (f1 (f1s.UeContextReleaseCommand other instance)) r = if_own (eq_by_cmp ue_cmp ue other) ends
  of_request ue bearer message r = stays

  abbrev pub if_new : Verdict → Change → Change
  if_new new change = change
  if_new again change = stays
  if_new stale change = stays

  abbrev pub of_kind : UeId → BearerId → NodeId → Message C → Du M C → Kind → Change
  of_kind ue bearer from message r (request other instance) =
      if_new (verdict r.transactions.callee (channel other from) instance) (of_request ue bearer message r)
  of_kind ue bearer from message r kind = stays

  abbrev pub of_control_message : UeId → BearerId → NodeId → Message C → Du M C → Change
  of_control_message ue bearer (CuCp gnb) message r =
      if is_same_gnb gnb r.gnb then of_kind ue bearer (CuCp gnb) message r (kind_of message) else stays
  of_control_message ue bearer from message r = stays

  -- ---- the table

  unfoldable pub change_by : UeId → BearerId → Du M C → Input C Pdu → Change
  change_by ue bearer r (control_input from message) = of_control_message ue bearer from message r
  change_by ue bearer r (packet_input teid item) = of_tunnel ue bearer item (find nat_cmp r.tunnels teid)
  change_by ue bearer r input = stays

-- afterwards the DU has this of the bearer
unfoldable pub Has : {M C P : Type 0} → UeId → BearerId → Option DuModel → Answer M P (Du M C) → Type 0
Has ue bearer part (gives outputs v) = model_of v ue bearer ≡ part
Has ue bearer part (spent counter) = ⊤

-- A context that is set up, or gets a new radio, has downlink tunnels from the next TEID on, while TEIDs are left.
use Rattle.std.proofs.Common.{◌≡◌, ℕ, ◌+◌, ◌-◌, ◌≤◌, ◌==◌, Bool, true, false, not, cond, ◌&&◌, if◌then◌else◌, List, [], ◌∷◌, ◌++◌, length, map, Option, Some, None, refl, sym, ap, subst, ◌∙◌, arith}
use Rattle.std.specs.Prelude.{nat_le}
use Rattle.std.specs.Ordering.{eq_by_cmp}
use Rattle.gnb_types.specs.declared.names.NodeId.{NodeId}
use Rattle.gnb_types.specs.declared.names.NodeId.TheVariants.{CuCp, CuUp, Du as du_id, Core, Ue}
use Rattle.gnb_types.specs.declared.names.UeId.{UeId}
use Rattle.gnb_types.specs.declared.names.BearerId.{BearerId}
use Rattle.gnb_types.specs.declared.names.SnBits.{SnBits}
use Rattle.gnb_types.specs.declared.keys.Channel.{Channel}
use Rattle.gnb_types.specs.declared.plans.Peer.{Peer}
use Rattle.gnb_types.specs.declared.plans.Tunnel.{Tunnel}
use Rattle.gnb_types.specs.declared.reasons.DropReason.TheVariants.{NoContext, Stale, Unexpected}
use Rattle.gnb_types.specs.Orders.{ue_cmp, bearer_cmp}
use Rattle.tables.specs.Tables.{find}
use Rattle.message_types.specs.declared.f1.F1.{F1}
use Rattle.message_types.specs.declared.f1.F1.TheVariants as f1s
use Rattle.message_types.specs.declared.rrc.Token.{Token}
use Rattle.transaction_defs.specs.Callers.{is_awaited}
use Rattle.transaction_defs.specs.Callees.{Verdict, new, again, stale, verdict, taken, kept_reply}
use Rattle.unit_defs.specs.Ways.{Message, f1, e1, xn, core, rrc, Pdu, Taken, frame_item, Input, control_input, packet_input, radio_input, confirm_input, offer_input, tick_input, order_input, Output, opened, closed, Way, Answer, gives, spent, ◌then◌, drops, teids_spent}
use Rattle.unit_defs.specs.Messages.{channel, is_same_gnb, bearers_of, are_first_bearers}
use Rattle.unit_defs.specs.Transactions.{Kind, request, reply, transfer, kind_of, Transactions, replied, request_by, answered_again, on_request, on_reply}
use Rattle.unit_defs.specs.Teids.{last_teid, teids_are_left}
use Rattle.unit_defs.specs.Du.{Du, DuBearer, DuContext, DuTunnel, bearers_made, context_of, with_transactions, downlink_list, replies, openings, old_downlinks, replaced, replaces, context_with, setup, context_anew, modify_on, modify, set_up, asked, of_cu_cp, control_received, du_acts}
use Rattle.proof_run_steps.specs.teids.Given.{below}
use Rattle.proof_node_orders.specs.du_inputs.Changes.{DuModel, model_with, model_in, of_frame, of_tunnel, teid_anew, Change, stays, renews, sets_up, ends, takes, if_own, of_setup, of_modification, of_request, if_new, of_kind, of_control_message, change_by}
use Rattle.law_tunnels_are_owned.specs.new_downlinks.New.{IsNew}

-- ---- TEIDs from the next one on

below_is : (next count : ℕ) → teids_are_left next count ≡ true → below next ≡ next
below_is next count left = by (next == 0) (nat_le (next + count - 1) last_teid) left
  where
    by : (t s : Bool) → (not t && s) ≡ true → (if t then last_teid + 1 else next) ≡ next
    by true s e = absurd cc
    by false s e = refl

anew_low : (bearer : BearerId) (next : ℕ) (es : List (BearerId × DuBearer)) → next ≤ teid_anew bearer next es
anew_low bearer next [] = omega arith
anew_low bearer next (e ∷ es) = by (eq_by_cmp bearer_cmp bearer e.0) (anew_low bearer (next + 1) es)
  where
    by : (t : Bool) → next + 1 ≤ teid_anew bearer (next + 1) es → next ≤ (if t then next else teid_anew bearer (next + 1) es)
    by true h = omega arith
    by false h = omega (arith, h)

made_low : (bearer : BearerId) (up : NodeId) (next : ℕ) (ts : List Tunnel) (b : DuBearer) → find bearer_cmp (bearers_made up next ts) bearer ≡ Some b
    → next ≤ b.downlink
unfolding find
made_low bearer up next [] b is = absurd cc
made_low bearer up next (t ∷ ts) b is = by (eq_by_cmp bearer_cmp bearer t.bearer) is (made_low bearer up (next + 1) ts b)
  where
    one : DuBearer
    one = record { up = up; uplink = t.teid; downlink = next; awaited = 0; gap = false }

    by : (e : Bool) → cond e (Some one) (find bearer_cmp (bearers_made up (next + 1) ts) bearer) ≡ Some b
        → (find bearer_cmp (bearers_made up (next + 1) ts) bearer ≡ Some b → next + 1 ≤ b.downlink) → next ≤ b.downlink
    by true same more = let it : one ≡ b = cc in let at : next ≡ b.downlink = ap (λ (d : DuBearer). d.downlink) it in omega (arith, at)
    by false same more = let h = more same in omega (arith, h)

part_low : (bearer : BearerId) (c : DuContext) (low : ℕ) → ((b : DuBearer) → find bearer_cmp c.bearers bearer ≡ Some b → low ≤ b.downlink)
    → IsNew low (sets_up (model_in bearer (Some c)))
part_low bearer c low all = by (find bearer_cmp c.bearers bearer) all
  where
    by : (o : Option DuBearer) → ((b : DuBearer) → o ≡ Some b → low ≤ b.downlink) → IsNew low (sets_up (model_with c o))
    by None h = tt
    by (Some b) h = h b refl

-- ---- what an input brings

module _ (way : Way (Message Token) Token Pdu) (ue : UeId) (bearer : BearerId) where
  abbrev pub Record : Type 0
  Record = Du (Message Token) Token

  abbrev pub Row : Type 0
  Row = Answer (Message Token) Pdu Record

  pub record Brings (change : Change) (next : ℕ) (a : Row) : Type 0 where
    pub brings : (outputs : List (Output (Message Token) Pdu)) (v : Record) → a ≡ gives outputs v → IsNew (below next) change

  any : (next : ℕ) (change : Change) (a : Row) → IsNew (below next) change → Brings change next a
  any next change a h = record { brings = λ outputs v is. h }

  quiet : (next : ℕ) (a : Row) → Brings stays next a
  quiet next a = any next stays a tt

  own_new : (low : ℕ) (t : Bool) (change : Change) → IsNew low change → IsNew low (if_own t change)
  own_new low true change h = h
  own_new low false change h = tt

  own_any : (next : ℕ) (t : Bool) (change : Change) (a : Row) → IsNew (below next) change → Brings (if_own t change) next a
  own_any next t change a h = any next (if_own t change) a (own_new (below next) t change h)

  -- a context is replaced, and a reply is put
  replaced_new : (t : Bool) (other : UeId) (old : Option DuContext) (c : DuContext) (ch : Channel) (m : F1 Token) (r : Record) (change : Change)
      → (below r.next_teid ≡ r.next_teid → IsNew (below r.next_teid) change)
      → Brings (if_own t change) r.next_teid (replaces way other old c r then replies way ch m)
  unfolding replaces replied
  replaced_new t other old c ch m r change fresh = by (teids_are_left r.next_teid (length c.bearers)) refl
    where
      by : (left : Bool) → teids_are_left r.next_teid (length c.bearers) ≡ left → Brings (if_own t change) r.next_teid
          ((if left then gives (map (λ teid. closed teid) (old_downlinks way old) ++ openings way c) (replaced way other old c r) else spent teids_spent)
          then replies way ch m)
      by true e = own_any r.next_teid t change _ (fresh (below_is r.next_teid (length c.bearers) e))
      by false e = record { brings = λ outputs v is. absurd cc }

  setup_new : (ch : Channel) (other : UeId) (instance epoch : ℕ) (uplinks : List Tunnel) (sn : SnBits) (peer : Peer) (r : Record)
      → Brings (if_own (eq_by_cmp ue_cmp ue other) (of_setup way bearer epoch uplinks sn peer r)) r.next_teid
      (setup way ch other instance epoch uplinks sn peer r)
  unfolding setup
  setup_new ch other instance epoch uplinks sn peer r = by (are_first_bearers (bearers_of uplinks))
    where
      now : DuContext
      now = context_with way r epoch uplinks sn peer

      by : (t : Bool) → Brings (if_own (eq_by_cmp ue_cmp ue other) (if not t then stays else sets_up (model_in bearer (Some now)))) r.next_teid
          (if not t then drops Unexpected r else
          (replaces way other (context_of r other) now r then replies way ch (f1s.UeContextSetupResponse other instance (downlink_list now))))
      by true = replaced_new (eq_by_cmp ue_cmp ue other) other (context_of r other) now ch (f1s.UeContextSetupResponse other instance (downlink_list now)) r
          (sets_up (model_in bearer (Some now)))
          (λ is. subst (λ (low : ℕ). IsNew low (sets_up (model_in bearer (Some now)))) (sym is)
          (part_low bearer now r.next_teid (λ b there. made_low bearer (CuUp peer.gnb peer.up) r.next_teid uplinks b there)))
      by false = own_any r.next_teid (eq_by_cmp ue_cmp ue other) stays (drops Unexpected r) tt

  modify_new : (ch : Channel) (other : UeId) (instance epoch : ℕ) (r : Record)
      → Brings (if_own (eq_by_cmp ue_cmp ue other) (of_modification bearer epoch r (context_of r other))) r.next_teid (modify way ch other instance epoch r)
  unfolding modify
  modify_new ch other instance epoch r = by (context_of r other)
    where
      by : (o : Option DuContext) → Brings (if_own (eq_by_cmp ue_cmp ue other) (of_modification bearer epoch r o)) r.next_teid
          (modify_on way ch other instance epoch r o)
      by None = own_any r.next_teid (eq_by_cmp ue_cmp ue other) stays (drops NoContext r) tt
      by (Some c) =
          let now : DuContext = context_anew way r epoch c in
          replaced_new (eq_by_cmp ue_cmp ue other) other (Some c) now ch (f1s.UeContextModificationResponse other instance (downlink_list now)) r
          (renews epoch (teid_anew bearer r.next_teid c.bearers))
          (λ is. subst (λ (low : ℕ). low ≤ teid_anew bearer r.next_teid c.bearers) (sym is) (anew_low bearer r.next_teid c.bearers))

  asked_new : (ch : Channel) (message : Message Token) (r : Record) (t : Transactions (Message Token) Token)
      → Brings (of_request way ue bearer message r) r.next_teid (asked way ch message (with_transactions r t))
  asked_new ch (f1 (f1s.UeContextSetupRequest other instance epoch uplinks sn peer)) r t =
      setup_new ch other instance epoch uplinks sn peer (with_transactions r t)
  asked_new ch (f1 (f1s.UeContextModificationRequest other instance epoch)) r t = modify_new ch other instance epoch (with_transactions r t)
  asked_new ch (f1 (f1s.UeContextReleaseCommand other instance)) r t = own_any r.next_teid (eq_by_cmp ue_cmp ue other) ends _ tt
  asked_new ch (f1 (f1s.F1SetupRequest instance name)) r t = quiet r.next_teid _
  asked_new ch (f1 (f1s.F1SetupResponse instance)) r t = quiet r.next_teid _
  asked_new ch (f1 (f1s.UeContextSetupResponse other instance downlinks)) r t = quiet r.next_teid _
  asked_new ch (f1 (f1s.UeContextModificationResponse other instance downlinks)) r t = quiet r.next_teid _
  asked_new ch (f1 (f1s.UeContextReleaseComplete other instance)) r t = quiet r.next_teid _
  asked_new ch (f1 (f1s.DlRrcMessageTransfer other container)) r t = quiet r.next_teid _
  asked_new ch (f1 (f1s.UlRrcMessageTransfer other container)) r t = quiet r.next_teid _
  asked_new ch (e1 message) r t = quiet r.next_teid _
  asked_new ch (xn message) r t = quiet r.next_teid _
  asked_new ch (core message) r t = quiet r.next_teid _
  asked_new ch (rrc token) r t = quiet r.next_teid _

  -- ---- a control message

  of_cp_new : (from : NodeId) (message : Message Token) (r : Record) (kind : Kind)
      → Brings (of_kind way ue bearer from message r kind) r.next_teid (of_cu_cp way from message r kind)
  unfolding on_request
  of_cp_new from message r (request other instance) = by (verdict r.transactions.callee (channel other from) instance)
    where
      by : (v : Verdict) → Brings (if_new way v (of_request way ue bearer message r)) r.next_teid
          (request_by way r r.transactions (channel other from) instance (λ t. asked way (channel other from) message (with_transactions r t)) v)
      by new = asked_new (channel other from) message r (record r.transactions { callee = taken r.transactions.callee (channel other from) instance })
      by again = quiet r.next_teid (answered_again way r (channel other from) (kept_reply r.transactions.callee (channel other from)))
      by stale = quiet r.next_teid (drops Stale r)
  of_cp_new from message r (reply other instance) = quiet r.next_teid _
  of_cp_new from message r (transfer other) = quiet r.next_teid _

  control_message_new : (from : NodeId) (message : Message Token) (r : Record)
      → Brings (of_control_message way ue bearer from message r) r.next_teid (control_received way from message r)
  unfolding control_received
  control_message_new (CuCp gnb) message r = by (is_same_gnb gnb r.gnb)
    where
      by : (t : Bool) → Brings (if t then of_kind way ue bearer (CuCp gnb) message r (kind_of message) else stays) r.next_teid
          (if t then of_cu_cp way (CuCp gnb) message r (kind_of message) else drops Unexpected r)
      by true = of_cp_new (CuCp gnb) message r (kind_of message)
      by false = quiet r.next_teid (drops Unexpected r)
  control_message_new (Ue from) message r = quiet r.next_teid _
  control_message_new (CuUp gnb number) message r = quiet r.next_teid _
  control_message_new (du_id gnb number) message r = quiet r.next_teid _
  control_message_new Core message r = quiet r.next_teid _

  -- ---- a frame

  frame_new : (low : ℕ) (item : Taken Pdu) → IsNew low (of_frame item)
  frame_new low (frame_item poll restart number pdu) = tt
  frame_new low _ = tt

  tunnel_new : (low : ℕ) (item : Taken Pdu) (o : Option DuTunnel) → IsNew low (of_tunnel ue bearer item o)
  tunnel_new low item None = tt
  tunnel_new low item (Some t) = by (eq_by_cmp ue_cmp ue t.ue) (eq_by_cmp bearer_cmp bearer t.bearer)
    where
      by : (a b : Bool) → IsNew low (if a then (if b then of_frame item else stays) else stays)
      by true true = frame_new low item
      by true false = tt
      by false b = tt

  -- ---- the table

  pub input_new : (r : Record) (input : Input Token Pdu) → Brings (change_by way ue bearer r input) r.next_teid (du_acts way r input)
  unfolding change_by du_acts
  input_new r (control_input from message) = control_message_new from message r
  input_new r (packet_input teid item) = any r.next_teid _ _ (tunnel_new (below r.next_teid) item _)
  input_new r _ = quiet r.next_teid _

  pub is_new : (r left : Record) (input : Input Token Pdu) (outputs : List (Output (Message Token) Pdu)) → du_acts way r input ≡ gives outputs left
      → IsNew (below r.next_teid) (change_by way ue bearer r input)
  is_new r left input outputs answers = (input_new r input).brings outputs left answers

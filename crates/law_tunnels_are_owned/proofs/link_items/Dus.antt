-- A DU puts what may stand, with the COUNT that it says, and keeps the names of its bearers.
use Rattle.std.proofs.Common.{◌≡◌, ◌==◌, ℕ, ◌+◌, Bool, true, false, not, ◌||◌, List, [], ◌∷◌, ◌++◌, length, map, Option, Some, None, refl, sym, subst}
use Rattle.std.specs.Prelude.{if◌then◌else◌}
use Rattle.std.specs.Ordering.{nat_cmp}
use Rattle.gnb_types.specs.declared.names.NodeId.{NodeId}
use Rattle.gnb_types.specs.declared.names.NodeId.TheVariants.{CuCp, CuUp as up_id, Ue}
use Rattle.gnb_types.specs.declared.names.UeId.{UeId}
use Rattle.gnb_types.specs.declared.names.BearerId.{BearerId}
use Rattle.gnb_types.specs.declared.names.SnBits.{SnBits}
use Rattle.gnb_types.specs.declared.names.Dir.TheVariants.{Dl, Ul}
use Rattle.gnb_types.specs.declared.keys.Channel.{Channel}
use Rattle.gnb_types.specs.declared.plans.Plan.{Plan}
use Rattle.gnb_types.specs.declared.plans.Peer.{Peer}
use Rattle.gnb_types.specs.declared.plans.Tunnel.{Tunnel}
use Rattle.gnb_types.specs.declared.inputs.Order.TheVariants as orders
use Rattle.gnb_types.specs.declared.outputs.Tag.TheVariants.{Absent, Same}
use Rattle.gnb_types.specs.declared.reasons.DropReason.TheVariants.{Unexpected}
use Rattle.gnb_types.specs.Names.{node_text}
use Rattle.gnb_types.specs.Orders.{bearer_cmp, ue_cmp}
use Rattle.tables.specs.Tables.{find, put}
use Rattle.transaction_defs.specs.Callers.{close, due, Due, repeats, expires}
use Rattle.message_types.specs.declared.f1.F1.{F1}
use Rattle.message_types.specs.declared.f1.F1.TheVariants as f1s
use Rattle.message_types.specs.declared.rrc.Token.{Token}
use Rattle.unit_defs.specs.Ways.{Message, f1, rrc, Pdu, packet_pdu, report_pdu, Load, fresh, numbered, frame, uplink, status, end_marker, Taken, frame_item, Output, packet, opened, closed, Input, control_input, packet_input, radio_input, confirm_input, offer_input, tick_input, order_input, Answer, gives, spent, ◌then◌, nothing, puts, drops, teids_spent}
use Rattle.unit_defs.specs.Messages.{channel, is_same_gnb, bearers_of, are_first_bearers}
use Rattle.unit_defs.specs.Teids.{teids_are_left}
use Rattle.unit_defs.specs.Transactions.{Kind, request, reply, transfer, kind_of, no_instance, ask, advance, replied}
use Rattle.unit_defs.specs.Static.{uplinks_from, du_context, du_placed}
use Rattle.unit_defs.specs.CuUp.{bearers_from}
use Rattle.unit_defs.specs.Du.{DuBearer, DuContext, DuTunnel, Du, du_node, context_of, with_transactions, downlinks_of, downlink_list, bearers_made, bearers_anew, replies, closings, openings, old_downlinks, replaced, replaces, context_with, setup, context_anew, modify_on, modify, end_markers, released_on, release, relayed_down, relay_down, relayed_up, relay_up, token_ue, start, set_up, asked, transferred, of_cu_cp, of_terminal, control_received, missing, is_missing, told, gap_after, carried, with_bearer, frame_received, taken_in, taken_of, taken_on, take, of_bearer, of_context, pass_up, confirmed, confirm, due_output, tick, du_acts}
use Rattle.run_defs.specs.States.{entity}
use Rattle.run_defs.specs.Runs.{plain_way, taken_of as taken_load}
use Rattle.proof_run_steps.specs.facts.Facts.{PutsFit}
use Rattle.proof_run_steps.specs.facts.UnitFacts.{as_facts, InputFits, AnswerFits}
use Rattle.proof_run_steps.proofs.facts.Fits.{puts_both, fits_if, fits_then, any_then, ask_fits, advance_fits, replied_fits, fits_request, fits_reply, due_fits}
use Rattle.law_tunnels_are_owned.specs.link_items.Items.{count_of_pdu, count_of_payload, count_of_load}
use Rattle.law_tunnels_are_owned.proofs.link_items.Names.{IsDu, IsCuUp, tells_up, passes_up, du_on_air, DuBearersName, DuNames, link_items}
use Rattle.proof_unit_steps.proofs.receivers.CuUps.{found_in, all_put}
use Rattle.law_tunnels_are_owned.proofs.link_items.CuUps.{found_put, found_left}

abbrev Record : Type 0
Record = Du (Message Token) Token

abbrev Bearers : Type 0
Bearers = List (BearerId × DuBearer)

abbrev IsNamed : DuContext → Type 0
IsNamed c = DuBearersName c.bearers

abbrev HasUp : DuBearer → Type 0
HasUp b = IsCuUp b.up

made_name : (up : NodeId) (next : ℕ) (ts : List Tunnel) → IsCuUp up → DuBearersName (bearers_made up next ts)
made_name up next [] is = tt
made_name up next (t ∷ ts) is = (is, made_name up (next + 1) ts is)

anew_name : (next : ℕ) (es : Bearers) → DuBearersName es → DuBearersName (bearers_anew next es)
anew_name next [] all = tt
anew_name next (e ∷ es) all = (all.0, anew_name (next + 1) es all.1)

-- the COUNT beside a frame is that of its payload
abbrev FrameAgrees : Option ℕ → Taken Pdu → Type 0
FrameAgrees taken (frame_item poll restart number pdu) = taken ≡ count_of_payload pdu
FrameAgrees taken item = Unit {0}

frame_agrees_load : (taken : Option ℕ) (load : Load Pdu) → taken ≡ count_of_load load → FrameAgrees taken (taken_load load)
frame_agrees_load taken (fresh x) is = tt
frame_agrees_load taken (numbered sn count x) is = tt
frame_agrees_load taken (frame poll restart number pdu) is = is
frame_agrees_load taken (uplink pdu) is = tt
frame_agrees_load taken (status lost delivered) is = tt
frame_agrees_load taken end_marker is = tt

module _ (node : NodeId) (at_du : IsDu node) (taken : Option ℕ) where
  abbrev Fits : Answer (Message Token) Pdu Record → Type 0
  Fits a = AnswerFits link_items DuNames node taken a

  abbrev Put : List (Output (Message Token) Pdu) → Type 0
  Put os = PutsFit (as_facts link_items) node taken os

  either : (t : Bool) (x y : Answer (Message Token) Pdu Record) → Fits x → Fits y → Fits (if t then x else y)
  either t x y p q = fits_if link_items node taken DuNames t x y p q

  after : (a : Answer (Message Token) Pdu Record) (f : Record → Answer (Message Token) Pdu Record) → Fits a → ((r : Record) → DuNames r → Fits (f r)) → Fits (a then f)
  after a f p q = fits_then link_items node taken DuNames DuNames a f p q

  replies_fit : (ch : Channel) (m : F1 Token) (r : Record) → DuNames r → Fits (replies plain_way ch m r)
  replies_fit ch m r p =
      any_then link_items node taken DuNames (replied plain_way r.transactions ch (f1 m)) (λ t. nothing (with_transactions r t))
      (replied_fits link_items node taken (λ l. tt) r.transactions ch (f1 m)) (λ t. (p, tt))

  -- ---- contexts

  closed_fit : (teids : List ℕ) → Put (map (λ teid. closed teid) teids)
  closed_fit [] = tt
  closed_fit (teid ∷ teids) = (tt, closed_fit teids)

  opened_fit : (teids : List ℕ) → Put (map (λ teid. opened teid) teids)
  opened_fit [] = tt
  opened_fit (teid ∷ teids) = (tt, opened_fit teids)

  replaces_fits : (ue : UeId) (old : Option DuContext) (c : DuContext) (r : Record) → DuNames r → DuBearersName c.bearers → Fits (replaces plain_way ue old c r)
  unfolding replaces
  replaces_fits ue old c r p all =
      either (teids_are_left r.next_teid (length c.bearers))
      (gives (map (λ teid. closed teid) (old_downlinks plain_way old) ++ openings plain_way c) (replaced plain_way ue old c r)) (spent teids_spent) (
        found_put IsNamed r.contexts ue c p all,
        puts_both link_items node taken (map (λ teid. closed teid) (old_downlinks plain_way old)) (openings plain_way c) (closed_fit (old_downlinks plain_way old))
            (opened_fit (downlinks_of c)),
      ) tt

  replaced_fits : (ch : Channel) (ue : UeId) (old : Option DuContext) (c : DuContext) (m : F1 Token) (r : Record) → DuNames r → DuBearersName c.bearers
      → Fits (replaces plain_way ue old c r then replies plain_way ch m)
  replaced_fits ch ue old c m r p all = after (replaces plain_way ue old c r) (replies plain_way ch m) (replaces_fits ue old c r p all) (replies_fit ch m)

  setup_fits : (ch : Channel) (ue : UeId) (instance epoch : ℕ) (uplinks : List Tunnel) (sn : SnBits) (peer : Peer) (r : Record) → DuNames r
      → Fits (setup plain_way ch ue instance epoch uplinks sn peer r)
  unfolding setup
  setup_fits ch ue instance epoch uplinks sn peer r p =
      either (not (are_first_bearers (bearers_of uplinks))) (drops Unexpected r) _ (p, (tt, tt))
      (replaced_fits ch ue (context_of r ue) (context_with plain_way r epoch uplinks sn peer)
      (f1s.UeContextSetupResponse ue instance (downlink_list (context_with plain_way r epoch uplinks sn peer))) r p
      (made_name (up_id peer.gnb peer.up) r.next_teid uplinks tt))

  modify_fits : (ch : Channel) (ue : UeId) (instance epoch : ℕ) (r : Record) (c : Option DuContext) → DuNames r → find ue_cmp r.contexts ue ≡ c
      → Fits (modify_on plain_way ch ue instance epoch r c)
  modify_fits ch ue instance epoch r None p is = (p, (tt, tt))
  modify_fits ch ue instance epoch r (Some c) p is =
      replaced_fits ch ue (Some c) (context_anew plain_way r epoch c)
      (f1s.UeContextModificationResponse ue instance (downlink_list (context_anew plain_way r epoch c))) r p (anew_name r.next_teid c.bearers (p ue c is))

  ends_fit : (ue : UeId) (es : Bearers) → DuBearersName es → Put (map (λ e. packet e.1.up e.1.uplink ue e.0 Ul Absent end_marker) es)
  ends_fit ue [] all = tt
  ends_fit ue (e ∷ es) all = ((refl, passes_up node e.1.up end_marker at_du all.0 tt), ends_fit ue es all.1)

  released_fits : (ue : UeId) (r : Record) (c : Option DuContext) → DuNames r → find ue_cmp r.contexts ue ≡ c → Fits (released_on plain_way ue r c)
  released_fits ue r None p is = (p, tt)
  released_fits ue r (Some c) p is = (
    found_left IsNamed r.contexts ue p,
    puts_both link_items node taken (end_markers plain_way ue c) (closings plain_way c) (ends_fit ue c.bearers (p ue c is)) (closed_fit (downlinks_of c)),
  )

  release_fits : (ch : Channel) (ue : UeId) (instance : ℕ) (r : Record) → DuNames r → Fits (release plain_way ch ue instance r)
  unfolding release
  release_fits ch ue instance r p =
      after (replies plain_way ch (f1s.UeContextReleaseComplete ue instance) r) (λ s. released_on plain_way ue s (context_of s ue))
      (replies_fit ch (f1s.UeContextReleaseComplete ue instance) r p) (λ s q. released_fits ue s (context_of s ue) q refl)

  -- ---- control messages

  asked_fits : (ch : Channel) (m : Message Token) (r : Record) → DuNames r → Fits (asked plain_way ch m r)
  unfolding modify
  asked_fits ch (f1 (f1s.UeContextSetupRequest ue instance epoch uplinks sn peer)) r p = setup_fits ch ue instance epoch uplinks sn peer r p
  asked_fits ch (f1 (f1s.UeContextModificationRequest ue instance epoch)) r p = modify_fits ch ue instance epoch r (context_of r ue) p refl
  asked_fits ch (f1 (f1s.UeContextReleaseCommand ue instance)) r p = release_fits ch ue instance r p
  asked_fits ch m r p = (p, (tt, tt))

  relayed_down_fits : (ue : UeId) (container : Token) (r : Record) (c : Option DuContext) → DuNames r → Fits (relayed_down plain_way ue container r c)
  relayed_down_fits ue container r None p = (p, (tt, tt))
  relayed_down_fits ue container r (Some c) p = (p, (tt, tt))

  transferred_fits : (m : Message Token) (r : Record) → DuNames r → Fits (transferred plain_way m r)
  unfolding relay_down
  transferred_fits (f1 (f1s.DlRrcMessageTransfer ue container)) r p = relayed_down_fits ue container r (context_of r ue) p
  transferred_fits m r p = (p, (tt, tt))

  relayed_up_fits : (ue : UeId) (token : Token) (r : Record) (c : Option DuContext) → DuNames r → Fits (relayed_up plain_way ue token r c)
  relayed_up_fits ue token r None p = (p, (tt, tt))
  relayed_up_fits ue token r (Some c) p = (p, (tt, tt))

  terminal_fits : (ue : ℕ) (m : Message Token) (r : Record) → DuNames r → Fits (of_terminal plain_way ue m r)
  unfolding relay_up
  terminal_fits ue (rrc token) r p =
      either ((token_ue plain_way token).0 == ue) _ (drops Unexpected r)
      (relayed_up_fits (token_ue plain_way token) token r (context_of r (token_ue plain_way token)) p) (p, (tt, tt))
  terminal_fits ue m r p = (p, (tt, tt))

  is_set_up_fits : (ch : Channel) (r : Record) → DuNames r → Fits (set_up plain_way ch r)
  unfolding set_up
  is_set_up_fits ch r p =
      any_then link_items node taken DuNames (advance plain_way (record r.transactions { caller = close r.transactions.caller ch }) ch)
      (λ a. nothing (record r { is_set_up = true; transactions = a.transactions }))
      (advance_fits link_items node taken (λ l. tt) (record r.transactions { caller = close r.transactions.caller ch }) ch) (λ a. (p, tt))

  of_cp_fits : (from : NodeId) (m : Message Token) (r : Record) (k : Kind) → DuNames r → Fits (of_cu_cp plain_way from m r k)
  of_cp_fits from m r (request ue i) p =
      fits_request link_items node taken (λ l. tt) DuNames r r.transactions (channel ue from) i (λ t. asked plain_way (channel ue from) m (with_transactions r t)) p
      (λ t. asked_fits (channel ue from) m (with_transactions r t) p)
  of_cp_fits from m r (reply ue i) p =
      fits_reply link_items node taken (λ l. tt) DuNames r r.transactions (channel ue from) i (set_up plain_way (channel ue from) r) p (is_set_up_fits (channel ue from) r p)
  of_cp_fits from m r (transfer ue) p = transferred_fits m r p

  control_fits : (from : NodeId) (m : Message Token) (r : Record) → DuNames r → Fits (control_received plain_way from m r)
  unfolding control_received
  control_fits (CuCp gnb) m r p =
      either (is_same_gnb gnb r.gnb) (of_cu_cp plain_way (CuCp gnb) m r (kind_of m)) (drops Unexpected r) (of_cp_fits (CuCp gnb) m r (kind_of m) p) (p, (tt, tt))
  control_fits (Ue ue) m r p = terminal_fits ue m r p
  control_fits from m r p = (p, (tt, tt))

  -- ---- packets

  told_fits : (ue : UeId) (bearer : BearerId) (b : DuBearer) (poll : Bool) (number : ℕ) → HasUp b → Put (told plain_way ue bearer b poll number)
  told_fits ue bearer b poll number is = by (is_missing plain_way b number || poll)
    where
      by : (t : Bool) → Put (if t then packet b.up b.uplink ue bearer Dl Absent (status (missing plain_way b number) None) ∷ [] else [])
      by true = ((refl, tells_up node b.up (status (missing plain_way b number) None) at_du is tt), tt)
      by false = tt

  carried_fits : (ue : UeId) (bearer : BearerId) (c : DuContext) (gap : Bool) (pdu : Option Pdu) (r : Record) → taken ≡ count_of_payload pdu → DuNames r
      → Fits (carried plain_way ue bearer c gap pdu r)
  carried_fits ue bearer c gap None r same p = (p, tt)
  carried_fits ue bearer c true (Some pdu) r same p = (p, (tt, tt))
  carried_fits ue bearer c false (Some pdu) r same p =
      (p, (du_on_air node (entity ue bearer Dl) (record { key = entity ue bearer Dl; count = taken; content = pdu }) at_du same refl, tt))

  frame_fits : (ue : UeId) (bearer : BearerId) (c : DuContext) (b : DuBearer) (item : Taken Pdu) (r : Record) → FrameAgrees taken item → DuNames r → IsNamed c → HasUp b
      → Fits (frame_received plain_way ue bearer c b item r)
  frame_fits ue bearer c b (frame_item poll restart number pdu) r same p all is =
      let on : DuBearer = record b { awaited = number + 1; gap = gap_after plain_way b number restart pdu } in
      after (gives (told plain_way ue bearer b poll number) (with_bearer plain_way ue bearer c on r)) (carried plain_way ue bearer c (gap_after plain_way b number restart pdu) pdu) (
        found_put IsNamed r.contexts ue (record c { bearers = put bearer_cmp c.bearers bearer on }) p (all_put HasUp c.bearers bearer on all is),
        told_fits ue bearer b poll number is,
      )
      (λ s q. carried_fits ue bearer c (gap_after plain_way b number restart pdu) pdu s same q)
  frame_fits ue bearer c b item r same p all is = (p, (tt, tt))

  take_fits : (teid : ℕ) (item : Taken Pdu) (r : Record) → FrameAgrees taken item → DuNames r → Fits (take plain_way teid item r)
  unfolding take
  take_fits teid item r same p = by (find nat_cmp r.tunnels teid)
    where
      in_bearer : (ue : UeId) (bearer : BearerId) (c : DuContext) → IsNamed c → (b : Option DuBearer) → find bearer_cmp c.bearers bearer ≡ b
          → Fits (taken_in plain_way ue bearer c item r b)
      in_bearer ue bearer c all None is = (p, (tt, tt))
      in_bearer ue bearer c all (Some b) is = frame_fits ue bearer c b item r same p all (found_in HasUp c.bearers bearer b all is)

      in_context : (ue : UeId) (bearer : BearerId) (c : Option DuContext) → find ue_cmp r.contexts ue ≡ c → Fits (taken_of plain_way ue bearer item r c)
      in_context ue bearer None is = (p, (tt, tt))
      in_context ue bearer (Some c) is = in_bearer ue bearer c (p ue c is) (find bearer_cmp c.bearers bearer) refl

      by : (t : Option DuTunnel) → Fits (taken_on plain_way item r t)
      by None = (p, (tt, tt))
      by (Some t) = in_context t.ue t.bearer (context_of r t.ue) refl

  context_fits : (r : Record) (row : DuContext → DuBearer → Answer (Message Token) Pdu Record) (ue : UeId) (bearer : BearerId) → DuNames r
      → ((d : DuContext) (b : DuBearer) → HasUp b → Fits (row d b)) → Fits (of_context plain_way r row bearer (context_of r ue))
  context_fits r row ue bearer p each = by (context_of r ue) refl
    where
      in_bearer : (c : DuContext) → IsNamed c → (b : Option DuBearer) → find bearer_cmp c.bearers bearer ≡ b → Fits (of_bearer plain_way r row c b)
      in_bearer c all None is = (p, (tt, tt))
      in_bearer c all (Some b) is = each c b (found_in HasUp c.bearers bearer b all is)

      by : (c : Option DuContext) → find ue_cmp r.contexts ue ≡ c → Fits (of_context plain_way r row bearer c)
      by None is = (p, (tt, tt))
      by (Some c) is = in_bearer c (p ue c is) (find bearer_cmp c.bearers bearer) refl

  confirmed_fits : (ue : UeId) (bearer : BearerId) (r : Record) (b : DuBearer) (sn : SnBits) (pdu : Pdu) → taken ≡ count_of_pdu pdu → HasUp b → DuNames r
      → Fits (confirmed plain_way ue bearer r b (plain_way.number sn pdu))
  confirmed_fits ue bearer r b sn (packet_pdu count x) same is p = (p, ((same, tells_up node b.up (status [] (Some count)) at_du is tt), tt))
  confirmed_fits ue bearer r b sn (report_pdu fmc bits) same is p = (p, tt)

  -- ---- F1 Setup, a tick, and the table

  start_fits : (r : Record) → DuNames r → Fits (start plain_way r)
  unfolding start
  start_fits r p =
      either r.is_set_up (nothing r) _ (p, tt)
      (any_then link_items node taken DuNames (ask plain_way r.transactions (channel 0 (CuCp r.gnb))
      (record { message = f1 (f1s.F1SetupRequest no_instance (node_text (du_node r))); deadline = None; awaited = false }))
      (λ a. nothing (with_transactions r a.transactions)) (ask_fits link_items node taken (λ l. tt) r.transactions (channel 0 (CuCp r.gnb)) _) (λ a. (p, tt)))

  due_one : (d : Due (Message Token)) → Put (due_output plain_way d)
  due_one (repeats ch m) = (tt, tt)
  due_one (expires ch) = tt

  tick_fits : (r : Record) → DuNames r → Fits (tick plain_way r)
  unfolding tick
  tick_fits r p = (p, due_fits link_items node taken (λ l. tt) (due_output plain_way) due_one (due r.transactions.caller))

  pub du_fits : (r : Record) (input : Input Token Pdu) → DuNames r → InputFits link_items node taken input → Fits (du_acts plain_way r input)
  unfolding du_acts pass_up confirm
  du_fits r (control_input from m) p fit = control_fits from m r p
  du_fits r (packet_input teid item) p fit =
      take_fits teid item r (subst (FrameAgrees taken) (sym fit.1) (frame_agrees_load taken fit.0 fit.2.1.0)) p
  du_fits r (radio_input ue bearer Ul pdu content) p fit =
      context_fits r (λ c b. puts (packet b.up b.uplink ue bearer Ul Same (uplink pdu)) r) ue bearer p
      (λ d b is. (p, ((fit.1.1, passes_up node b.up (uplink pdu) at_du is tt), tt)))
  du_fits r (radio_input ue bearer Dl pdu content) p fit = (p, (tt, tt))
  du_fits r (confirm_input ue bearer Dl pdu content) p fit =
      context_fits r (λ c b. confirmed plain_way ue bearer r b (plain_way.number c.sn pdu)) ue bearer p
      (λ d b is. confirmed_fits ue bearer r b d.sn pdu fit.1.1 is p)
  du_fits r (confirm_input ue bearer Ul pdu content) p fit = (p, (tt, tt))
  du_fits r (offer_input ue bearer x) p fit = (p, (tt, tt))
  du_fits r tick_input p fit = tick_fits r p
  du_fits r (order_input orders.Start) p fit = start_fits r p
  du_fits r (order_input order) p fit = (p, (tt, tt))

-- ---- a terminal that is set up without messages

pub placed_names : (r : Record) (plan : Plan) (first : ℕ) → DuNames r → DuNames (du_placed r plan first)
unfolding du_placed
placed_names r plan first p =
    found_put IsNamed r.contexts plan.ue (du_context r plan first) p
    (made_name (up_id r.gnb plan.up) r.next_teid (uplinks_from first (bearers_from 1 plan.bearers)) tt)

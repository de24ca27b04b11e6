-- The user plane of the central unit: which input goes to which row, and the rows (TS 37.483, 8.3; TS 38.401, 8.9).
--
--   order Start                                  start            E1 Setup Request
--   order Poll                                   poll             a polling frame
--   E1 Setup Response                            set_up
--   Bearer Context Setup Request                 setup            a context; or failure, busy or quota
--   Bearer Context Modification Request          uplinks          further uplink tunnels
--     by its mode                                switch           the downlink goes to this DU from now on
--                                                freeze           all goes to the target; or failure, busy
--                                                status           the target goes on where the source stands
--                                                resume           the source goes on
--   Bearer Context Release Command               release          final: all is closed; else it passes on what still comes
--   an item of a tunnel                          take             (CuUpItems)
--   a tick                                       tick             open requests again
use Rattle.std.specs.Prelude.{◌==◌, ℕ, zero, suc, ◌+◌, ◌*◌, Bool, true, false, not, ◌&&◌, ◌||◌, nat_le, if◌then◌else◌, List, [], ◌∷◌, ◌++◌, length, map, Option, Some, None}
use Rattle.std.specs.List.{flat_map, list_all}
use Rattle.std.specs.Ordering.{nat_cmp}
use Rattle.gnb_types.specs.declared.names.Gnb.{Gnb}
use Rattle.gnb_types.specs.declared.names.NodeId.{NodeId}
use Rattle.gnb_types.specs.declared.names.NodeId.TheVariants.{CuCp, CuUp as cu_up_node, Du}
use Rattle.gnb_types.specs.declared.names.UeId.{UeId}
use Rattle.gnb_types.specs.declared.names.BearerId.{BearerId}
use Rattle.gnb_types.specs.declared.names.SnBits.{SnBits}
use Rattle.gnb_types.specs.declared.keys.Channel.{Channel}
use Rattle.gnb_types.specs.declared.plans.Peer.{Peer}
use Rattle.gnb_types.specs.declared.plans.Tunnel.{Tunnel}
use Rattle.gnb_types.specs.declared.plans.SnStatus.{SnStatus}
use Rattle.gnb_types.specs.declared.reasons.DropReason.TheVariants.{NoContext, NoTunnel, Unexpected}
use Rattle.gnb_types.specs.declared.reasons.HeldReason.{HeldReason}
use Rattle.gnb_types.specs.declared.reasons.RefuseReason.TheVariants.{Empty, NoRadio}
use Rattle.gnb_types.specs.declared.outputs.Tag.TheVariants.{Absent}
use Rattle.gnb_types.specs.Names.{node_text}
use Rattle.gnb_types.specs.Orders.{ue_cmp, bearer_cmp}
use Rattle.tables.specs.Tables.{find, put, without}
use Rattle.message_types.specs.declared.e1.E1Message.{E1Message}
use Rattle.message_types.specs.declared.e1.E1Message.TheVariants as e1s
use Rattle.transaction_defs.specs.Callers.{close, due, after_tick, Due, repeats, expires}
use Rattle.gnb_types.specs.declared.inputs.Order.{Order}
use Rattle.gnb_types.specs.declared.inputs.Order.TheVariants as orders
use Rattle.unit_defs.specs.Ways.{Message, e1, Taken, Input, control_input, packet_input, tick_input, order_input, Output, control, opened, closed, held, no, Way, Answer, gives, spent, ◌then◌, nothing, puts, drops, teids_spent}
use Rattle.unit_defs.specs.Transactions.{Kind, request, reply, transfer, kind_of, no_instance, Transactions, no_transactions, ask, advance, replied, on_request, on_reply}
use Rattle.unit_defs.specs.Teids.{teids_are_left, teid_after, without_each}
use Rattle.unit_defs.specs.Messages.{cause_quota, cause_busy, mode_uplinks, mode_switch, mode_freeze, mode_status, mode_resume, channel, is_same_gnb, bearers_of, statuses_of, are_bearers, teid_of, tunnel_of}
use Rattle.unit_defs.specs.CuUpRecords.{CuUpBearer, CuUpFlags, CuUpContext, TunnelKind, n3, f1u_uplink, forwarding_down, forwarding_up, CuUpTunnel, CuUp, reserved, pool_blocks, cu_up_scope}
use Rattle.unit_defs.specs.CuUpBearers.{made, teids_of_bearer, with_uplink, switched, frozen_to, status_of, with_status, resumed, released, is_over, open_teids, has_downlink, framed}
use Rattle.unit_defs.specs.CuUpItems.{held_reason, took}

-- ---- the record

abbrev pub new_cu_up : {M C : Type 0} → Gnb → ℕ → CuUp M C
new_cu_up gnb number = record {
  gnb = gnb;
  number = number;
  is_set_up = false;
  next_teid = 1;
  tunnels = [];
  contexts = [];
  transactions = no_transactions;
}

abbrev pub up_node : {M C : Type 0} → CuUp M C → NodeId
up_node r = cu_up_node r.gnb r.number

abbrev pub context_of : {M C : Type 0} → CuUp M C → UeId → Option CuUpContext
context_of r ue = find ue_cmp r.contexts ue

abbrev pub with_context : {M C : Type 0} → UeId → CuUp M C → CuUpContext → CuUp M C
with_context ue r c = record r { contexts = put ue_cmp r.contexts ue c }

abbrev pub with_transactions : {M C : Type 0} → CuUp M C → Transactions M C → CuUp M C
with_transactions r t = record r { transactions = t }

-- ---- a context's bearers and their TEIDs

-- bearers 1 to this number, and this many TEIDs for each, from the next one on
abbrev pub bearers_from : ℕ → ℕ → List BearerId
bearers_from i zero = []
bearers_from i (suc count) = record { 0 = i } ∷ bearers_from (i + 1) count

abbrev pub bearers_made : Bool → ℕ → List BearerId → List (BearerId × CuUpBearer)
bearers_made target next [] = []
bearers_made target next (b ∷ bs) = (b, made target next) ∷ bearers_made target (next + teids_of_bearer target) bs

-- whose they are
abbrev pub entries : UeId → BearerId → ℕ → TunnelKind → Option ℕ → List (ℕ × CuUpTunnel)
entries ue bearer context kind None = []
entries ue bearer context kind (Some teid) = (teid, record { ue = ue; bearer = bearer; kind = kind; context = context }) ∷ []

abbrev pub entries_of : UeId → ℕ → BearerId × CuUpBearer → List (ℕ × CuUpTunnel)
entries_of ue context e =
    entries ue e.0 context n3 e.1.n3
    ++ flat_map (λ teid. entries ue e.0 context f1u_uplink (Some teid)) e.1.uplinks
    ++ entries ue e.0 context forwarding_down e.1.forward_down
    ++ entries ue e.0 context forwarding_up e.1.forward_up

abbrev pub with_entries : List (ℕ × CuUpTunnel) → List (ℕ × CuUpTunnel) → List (ℕ × CuUpTunnel)
with_entries table [] = table
with_entries table (e ∷ es) = with_entries (put nat_cmp table e.0 e.1) es

-- the TEIDs of a step's outputs that are closed are given back
abbrev pub closed_in : {M P : Type 0} → Output M P → List ℕ
closed_in (closed teid) = teid ∷ []
closed_in output = []

-- a context that is no target may serve from the start, and its terminal is there
abbrev pub new_flags_of : Bool → CuUpFlags
new_flags_of target = record { target = target; may_serve = not target; arrived = not target; frozen = false; released = false }

module _ {M C P : Type 0} (way : Way M C P) where
  -- ---- a context with its bearers, and the bearers of a context one after another

  pub data UpStep : Type 0 where
    steps : (outputs : List (Output M P)) (bearers : List (BearerId × CuUpBearer)) → UpStep
    stops : (counter : ℕ) → UpStep

  abbrev pub step_with : BearerId → Answer M P CuUpBearer → UpStep → UpStep
  step_with bearer (gives outputs b) (steps more bearers) = steps (outputs ++ more) ((bearer, b) ∷ bearers)
  step_with bearer (gives outputs b) (stops counter) = stops counter
  step_with bearer (spent counter) more = stops counter

  -- this is done to each bearer, in ascending order
  abbrev pub each_bearer : (BearerId → CuUpBearer → Answer M P CuUpBearer) → List (BearerId × CuUpBearer) → UpStep
  each_bearer order [] = steps [] []
  each_bearer order (e ∷ es) = step_with e.0 (order e.0 e.1) (each_bearer order es)

  abbrev pub answer_with : CuUp M C → UeId → CuUpContext → UpStep → Answer M P (CuUp M C)
  answer_with r ue c (steps outputs bearers) = gives outputs (with_context ue r (record c { bearers = bearers }))
  answer_with r ue c (stops counter) = spent counter

  -- ---- a context ends: where it is released and nothing comes any more, or at once

  abbrev pub closings : CuUpContext → List (Output M P)
  closings c = flat_map (λ e. map (λ teid. closed teid) (open_teids e.1)) c.bearers

  unfoldable pub ended : CuUp M C → UeId → CuUpContext → Answer M P (CuUp M C)
  ended r ue c = gives (closings c) (record r {
    contexts = without ue_cmp r.contexts ue;
    tunnels = without_each r.tunnels (flat_map (λ e. open_teids e.1) c.bearers);
  })

  abbrev pub ended_if_over : UeId → CuUp M C → Option CuUpContext → Answer M P (CuUp M C)
  ended_if_over ue r None = nothing r
  ended_if_over ue r (Some c) =
      if c.flags.released && list_all (λ e. is_over c.flags e.1) c.bearers then ended r ue c else nothing r

  unfoldable pub end_where_over : UeId → CuUp M C → Answer M P (CuUp M C)
  end_where_over ue r = ended_if_over ue r (context_of r ue)

  -- ---- replies

  abbrev pub replies : Channel → E1Message → CuUp M C → Answer M P (CuUp M C)
  replies ch message r = replied way r.transactions ch (e1 message) then (λ t. nothing (with_transactions r t))

  -- ---- Bearer Context Setup: busy, no quota, or a context

  abbrev pub n3_list : List (BearerId × CuUpBearer) → List Tunnel
  n3_list bearers = flat_map (λ e. tunnel_of e.0 e.1.n3) bearers

  abbrev pub first_uplink : List ℕ → Option ℕ
  first_uplink [] = None
  first_uplink (teid ∷ teids) = Some teid

  abbrev pub uplink_list : List (BearerId × CuUpBearer) → List Tunnel
  uplink_list bearers = flat_map (λ e. tunnel_of e.0 (first_uplink e.1.uplinks)) bearers

  abbrev pub forward_list : Bool → List Tunnel → Option (List Tunnel)
  forward_list forward tunnels = if forward then Some tunnels else None

  abbrev pub setup_response : UeId → ℕ → Bool → List (BearerId × CuUpBearer) → E1Message
  setup_response ue instance forward bearers = e1s.BearerContextSetupResponse ue instance
      (uplink_list bearers)
      (n3_list bearers)
      (forward_list forward (flat_map (λ e. tunnel_of e.0 e.1.forward_down) bearers))
      (forward_list forward (flat_map (λ e. tunnel_of e.0 e.1.forward_up) bearers))

  abbrev pub new_context : CuUp M C → SnBits → ℕ → Bool → ℕ → CuUpContext
  new_context r sn quota target count = record {
    instance = r.next_teid;
    sn = sn;
    quota = quota;
    flags = new_flags_of target;
    bearers = bearers_made target r.next_teid (bearers_from 1 count);
  }

  abbrev pub opened_of : BearerId × CuUpBearer → List (Output M P)
  opened_of e = map (λ t. opened t.0) (entries_of (record { 0 = 0 }) 0 e)

  abbrev pub with_new : UeId → CuUp M C → ℕ → CuUpContext → Answer M P (CuUp M C)
  with_new ue r teids c = gives (flat_map opened_of c.bearers) (record r {
    next_teid = teid_after r.next_teid teids;
    tunnels = with_entries r.tunnels (flat_map (entries_of ue c.instance) c.bearers);
    contexts = put ue_cmp r.contexts ue c;
  })

  -- a context is made, if there are TEIDs
  unfoldable pub makes : UeId → SnBits → ℕ → Bool → ℕ → CuUp M C → Answer M P (CuUp M C)
  makes ue sn quota target count r =
      let teids = count * teids_of_bearer target in
      if teids_are_left r.next_teid teids then with_new ue r teids (new_context r sn quota target count) else spent teids_spent

  unfoldable pub fits : ℕ → ℕ → CuUp M C → Bool
  fits count quota r = nat_le (reserved r.contexts + 2 * count * quota) pool_blocks

  abbrev pub set_up_for : Channel → UeId → ℕ → Bool → CuUp M C → Option CuUpContext → Answer M P (CuUp M C)
  set_up_for ch ue instance forward r None = nothing r
  set_up_for ch ue instance forward r (Some c) = replies ch (setup_response ue instance forward c.bearers) r

  abbrev pub setup_on : Channel → UeId → ℕ → ℕ → SnBits → ℕ → Bool → CuUp M C → Option CuUpContext → Answer M P (CuUp M C)
  setup_on ch ue instance count sn quota forward r (Some c) = replies ch (e1s.BearerContextSetupFailure ue instance cause_busy) r
  setup_on ch ue instance count sn quota forward r None =
      if not (fits count quota r) then replies ch (e1s.BearerContextSetupFailure ue instance cause_quota) r else
      (makes ue sn quota forward count r then (λ s. set_up_for ch ue instance forward s (context_of s ue)))

  unfoldable pub setup : Channel → UeId → ℕ → ℕ → SnBits → ℕ → Bool → CuUp M C → Answer M P (CuUp M C)
  setup ch ue instance count sn quota forward r = setup_on ch ue instance count sn quota forward r (context_of r ue)

  -- ---- Bearer Context Modification

  abbrev pub modified : UeId → ℕ → Option (List Tunnel) → Option (List SnStatus) → E1Message
  modified ue instance uplinks statuses = e1s.BearerContextModificationResponse ue instance uplinks statuses

  -- `uplinks`: one more uplink tunnel for each bearer
  abbrev pub uplinks_from : ℕ → List (BearerId × CuUpBearer) → UpStep
  uplinks_from next [] = steps [] []
  uplinks_from next (e ∷ es) = step_with e.0 (with_uplink way next e.1) (uplinks_from (next + 1) es)

  abbrev pub teids_from : ℕ → List (BearerId × CuUpBearer) → List Tunnel
  teids_from next [] = []
  teids_from next (e ∷ es) = record { bearer = e.0; teid = next } ∷ teids_from (next + 1) es

  abbrev pub uplink_entries : UeId → ℕ → List Tunnel → List (ℕ × CuUpTunnel)
  uplink_entries ue context tunnels = flat_map (λ t. entries ue t.bearer context f1u_uplink (Some t.teid)) tunnels

  abbrev pub uplinks_given : UeId → CuUp M C → CuUpContext → List Tunnel → CuUp M C
  uplinks_given ue r c tunnels = record r {
    next_teid = teid_after r.next_teid (length tunnels);
    tunnels = with_entries r.tunnels (uplink_entries ue c.instance tunnels);
  }

  unfoldable pub add_uplinks : Channel → UeId → ℕ → CuUpContext → CuUp M C → Answer M P (CuUp M C)
  add_uplinks ch ue instance c r =
      let tunnels = teids_from r.next_teid c.bearers in
      if not (teids_are_left r.next_teid (length c.bearers)) then spent teids_spent else
      (answer_with (uplinks_given ue r c tunnels) ue c (uplinks_from r.next_teid c.bearers)
      then replies ch (modified ue instance (Some tunnels) None))

  -- `switch`: the frozen state ends, the terminal is there, and the downlink goes to this DU
  abbrev pub as_switched : CuUpContext → CuUpContext
  as_switched c = record c { flags = record c.flags { frozen = false; arrived = true } }

  unfoldable pub switch : Channel → UeId → ℕ → ℕ → List Tunnel → CuUpContext → CuUp M C → Answer M P (CuUp M C)
  switch ch ue instance du downlinks c r =
      let on = as_switched c in
      answer_with r ue on (each_bearer (λ bearer. switched way (cu_up_scope ue on bearer) (Du r.gnb du) (teid_of downlinks bearer)) c.bearers)
      then replies ch (modified ue instance None None)

  -- `freeze`: a target that has no status yet is busy; else all that is held goes to the peer, and the response says where it is to
  -- go on
  abbrev pub as_frozen : CuUpContext → CuUpContext
  as_frozen c = record c { flags = record c.flags { frozen = true } }

  abbrev pub peer_node : Peer → NodeId
  peer_node peer = cu_up_node peer.gnb peer.up

  abbrev pub statuses : CuUpContext → List SnStatus
  statuses c = map (λ e. status_of e.0 e.1) c.bearers

  unfoldable pub freeze : Channel → UeId → ℕ → Peer → List Tunnel → List Tunnel → CuUpContext → CuUp M C → Answer M P (CuUp M C)
  freeze ch ue instance peer down up c r =
      if not c.flags.may_serve then replies ch (e1s.BearerContextModificationFailure ue instance cause_busy) r else
      (let on = as_frozen c in
      answer_with r ue on (each_bearer (λ bearer. frozen_to way (cu_up_scope ue on bearer) (peer_node peer) (teid_of down bearer) (teid_of up bearer)) c.bearers)
      then replies ch (modified ue instance None (Some (statuses c))))

  -- `status`: the entities of the target begin where those of the source stood
  abbrev pub as_known : CuUpContext → CuUpContext
  as_known c = record c { flags = record c.flags { may_serve = true } }

  abbrev pub status_each : UeId → CuUpContext → List SnStatus → List (BearerId × CuUpBearer) → UpStep
  status_each ue c [] bearers = steps [] bearers
  status_each ue c (s ∷ ss) [] = steps [] []
  status_each ue c (s ∷ ss) (e ∷ es) = step_with e.0 (with_status way (cu_up_scope ue c e.0) s e.1) (status_each ue c ss es)

  unfoldable pub take_status : Channel → UeId → ℕ → List SnStatus → CuUpContext → CuUp M C → Answer M P (CuUp M C)
  take_status ch ue instance ss c r =
      let on = as_known c in
      answer_with r ue on (status_each ue on ss c.bearers) then replies ch (modified ue instance None None)

  -- `resume`: the source goes on
  abbrev pub as_resumed : CuUpContext → CuUpContext
  as_resumed c = record c { flags = record c.flags { frozen = false } }

  unfoldable pub resume : Channel → UeId → ℕ → CuUpContext → CuUp M C → Answer M P (CuUp M C)
  resume ch ue instance c r =
      let on = as_resumed c in
      answer_with r ue on (each_bearer (λ bearer. resumed way (cu_up_scope ue on bearer)) c.bearers) then replies ch (modified ue instance None None)

  -- which of them a request is; one that lacks what its mode uses, whose lists don't name the context's bearers, or that the state
  -- of the context rules out, is unexpected
  abbrev pub names : CuUpContext → List BearerId
  names c = map (λ e. e.0) c.bearers

  abbrev pub uplinks_if : Channel → UeId → ℕ → CuUpContext → CuUp M C → Answer M P (CuUp M C)
  uplinks_if ch ue instance c r = if c.flags.released then drops Unexpected r else add_uplinks ch ue instance c r

  abbrev pub switch_if : Channel → UeId → ℕ → Option ℕ → Option (List Tunnel) → CuUpContext → CuUp M C → Answer M P (CuUp M C)
  switch_if ch ue instance (Some du) (Some downlinks) c r =
      if c.flags.released || not (are_bearers (names c) (bearers_of downlinks)) then drops Unexpected r
      else switch ch ue instance du downlinks c r
  switch_if ch ue instance du downlinks c r = drops Unexpected r

  abbrev pub freeze_if : Channel → UeId → ℕ → Option Peer → Option (List Tunnel) → Option (List Tunnel) → CuUpContext → CuUp M C → Answer M P (CuUp M C)
  freeze_if ch ue instance (Some peer) (Some down) (Some up) c r =
      if c.flags.frozen || c.flags.released || not c.flags.arrived || not (are_bearers (names c) (bearers_of down)) || not (are_bearers (names c) (bearers_of up))
      then drops Unexpected r
      else freeze ch ue instance peer down up c r
  freeze_if ch ue instance peer down up c r = drops Unexpected r

  abbrev pub status_if : Channel → UeId → ℕ → Option (List SnStatus) → CuUpContext → CuUp M C → Answer M P (CuUp M C)
  status_if ch ue instance (Some ss) c r =
      if c.flags.may_serve || not (are_bearers (names c) (statuses_of ss)) then drops Unexpected r else take_status ch ue instance ss c r
  status_if ch ue instance None c r = drops Unexpected r

  abbrev pub resume_if : Channel → UeId → ℕ → CuUpContext → CuUp M C → Answer M P (CuUp M C)
  resume_if ch ue instance c r = if c.flags.frozen && not c.flags.released then resume ch ue instance c r else drops Unexpected r

  abbrev pub modify_on : Channel → E1Message → CuUp M C → Option CuUpContext → Answer M P (CuUp M C)
  modify_on ch (e1s.BearerContextModificationRequest ue instance downlinks mode peer down up ss du) r (Some c) =
      if mode == mode_uplinks then uplinks_if ch ue instance c r else
      (if mode == mode_switch then switch_if ch ue instance du downlinks c r else
      (if mode == mode_freeze then freeze_if ch ue instance peer down up c r else
      (if mode == mode_status then status_if ch ue instance ss c r else
      (if mode == mode_resume then resume_if ch ue instance c r else drops Unexpected r))))
  modify_on ch message r None = drops NoContext r
  modify_on ch message r (Some c) = drops Unexpected r

  -- ---- Bearer Context Release

  abbrev pub as_released : CuUpContext → CuUpContext
  as_released c = record c { flags = record c.flags { released = true }; bearers = map (λ e. (e.0, released e.1)) c.bearers }

  abbrev pub released_on : UeId → Bool → CuUp M C → Option CuUpContext → Answer M P (CuUp M C)
  released_on ue is_final r None = nothing r
  released_on ue is_final r (Some c) = if is_final then ended r ue c else end_where_over ue (with_context ue r (as_released c))

  unfoldable pub release : Channel → UeId → ℕ → Bool → CuUp M C → Answer M P (CuUp M C)
  release ch ue instance is_final r =
      replies ch (e1s.BearerContextReleaseComplete ue instance) r then (λ s. released_on ue is_final s (context_of s ue))

  -- ---- requests of the CU-CP, each of which is taken

  abbrev pub asked : Channel → Message C → CuUp M C → Answer M P (CuUp M C)
  asked ch (e1 (e1s.BearerContextSetupRequest ue instance count sn quota forward)) r = setup ch ue instance count sn quota forward r
  asked ch (e1 (e1s.BearerContextModificationRequest ue instance downlinks mode peer down up ss du)) r =
      modify_on ch (e1s.BearerContextModificationRequest ue instance downlinks mode peer down up ss du) r (context_of r ue)
  asked ch (e1 (e1s.BearerContextReleaseCommand ue instance is_final)) r = release ch ue instance is_final r
  asked ch message r = drops Unexpected r

  -- ---- E1 Setup

  unfoldable pub start : CuUp M C → Answer M P (CuUp M C)
  start r =
      if r.is_set_up then nothing r else
      (ask way r.transactions (channel 0 (CuCp r.gnb))
      (record { message = e1 (e1s.E1SetupRequest no_instance (node_text (up_node r))); deadline = None; awaited = false })
      then (λ a. nothing (with_transactions r a.transactions)))

  -- any awaited answer of the CU-CP is that of E1 Setup
  unfoldable pub set_up : Channel → CuUp M C → Answer M P (CuUp M C)
  set_up ch r =
      let t : Transactions M C = record r.transactions { caller = close r.transactions.caller ch } in
      advance way t ch then (λ a. nothing (record r { is_set_up = true; transactions = a.transactions }))

  -- ---- a control message: from its CU-CP alone

  abbrev pub control_by : Channel → Message C → CuUp M C → Kind → Answer M P (CuUp M C)
  control_by ch message r (request ue instance) =
      on_request way r r.transactions ch instance (λ t. asked ch message (with_transactions r t))
  control_by ch message r (reply ue instance) = on_reply way r r.transactions ch instance (set_up ch r)
  control_by ch message r (transfer ue) = drops Unexpected r

  abbrev pub ue_in : Kind → ℕ
  ue_in (request ue instance) = ue
  ue_in (reply ue instance) = ue
  ue_in (transfer ue) = ue

  abbrev pub is_own_cu_cp : Gnb → NodeId → Bool
  is_own_cu_cp gnb (CuCp other) = is_same_gnb gnb other
  is_own_cu_cp gnb node = false

  unfoldable pub control_received : NodeId → Message C → CuUp M C → Answer M P (CuUp M C)
  control_received from message r =
      if is_own_cu_cp r.gnb from then control_by (channel (ue_in (kind_of message)) from) message r (kind_of message)
      else drops Unexpected r

  -- ---- an item of a tunnel

  abbrev pub with_bearer : CuUp M C → UeId → CuUpContext → BearerId → Answer M P CuUpBearer → Answer M P (CuUp M C)
  with_bearer r ue c bearer (gives outputs b) = gives outputs (record (with_context ue r (record c { bearers = put bearer_cmp c.bearers bearer b })) {
    tunnels = without_each r.tunnels (flat_map closed_in outputs);
  })
  with_bearer r ue c bearer (spent counter) = spent counter

  abbrev pub taken_by : CuUp M C → CuUpTunnel → ℕ → Taken P → CuUpContext → CuUpBearer → Option HeldReason → Answer M P (CuUp M C)
  taken_by r t teid item c b (Some reason) = puts (held reason) r
  taken_by r t teid item c b None =
      with_bearer r t.ue c t.bearer (took way (cu_up_scope t.ue c t.bearer) t.kind teid item b) then end_where_over t.ue

  abbrev pub taken_in : CuUp M C → CuUpTunnel → ℕ → Taken P → CuUpContext → Option CuUpBearer → Answer M P (CuUp M C)
  taken_in r t teid item c None = drops NoContext r
  taken_in r t teid item c (Some b) = taken_by r t teid item c b (held_reason (cu_up_scope t.ue c t.bearer) b t.kind item)

  abbrev pub taken_of : CuUp M C → CuUpTunnel → ℕ → Taken P → Option CuUpContext → Answer M P (CuUp M C)
  taken_of r t teid item None = drops NoContext r
  taken_of r t teid item (Some c) = taken_in r t teid item c (find bearer_cmp c.bearers t.bearer)

  abbrev pub taken_on : CuUp M C → ℕ → Taken P → Option CuUpTunnel → Answer M P (CuUp M C)
  taken_on r teid item None = drops NoTunnel r
  taken_on r teid item (Some t) = taken_of r t teid item (context_of r t.ue)

  unfoldable pub take : ℕ → Taken P → CuUp M C → Answer M P (CuUp M C)
  take teid item r = taken_on r teid item (find nat_cmp r.tunnels teid)

  -- ---- a poll: refused where nothing is unconfirmed, and where no downlink is served

  abbrev pub poll_bearer : CuUp M C → UeId → CuUpContext → BearerId → Option CuUpBearer → Answer M P (CuUp M C)
  poll_bearer r ue c bearer None = puts (no Empty) r
  poll_bearer r ue c bearer (Some b) =
      if length b.sender.unconfirmed == 0 then puts (no Empty) r else
      (if c.flags.frozen || not (has_downlink b.downlink) then puts (no NoRadio) r else
      with_bearer r ue c bearer (framed way (cu_up_scope ue c bearer) true false None Absent b))

  abbrev pub poll_on : CuUp M C → UeId → BearerId → Option CuUpContext → Answer M P (CuUp M C)
  poll_on r ue bearer None = puts (no Empty) r
  poll_on r ue bearer (Some c) = poll_bearer r ue c bearer (find bearer_cmp c.bearers bearer)

  unfoldable pub poll : UeId → BearerId → CuUp M C → Answer M P (CuUp M C)
  poll ue bearer r = poll_on r ue bearer (context_of r ue)

  -- ---- a tick: open requests are put again

  abbrev pub due_output : Due M → List (Output M P)
  due_output (repeats ch message) = control ch.peer ch.ue message ∷ []
  due_output (expires ch) = []

  unfoldable pub tick : CuUp M C → Answer M P (CuUp M C)
  tick r = gives (flat_map due_output (due r.transactions.caller))
      (with_transactions r (record r.transactions { caller = after_tick r.transactions.caller }))

  -- ---- the table

  abbrev pub ordered : Order → CuUp M C → Answer M P (CuUp M C)
  ordered orders.Start r = start r
  ordered (orders.Poll ue bearer) r = poll ue bearer r
  ordered order r = drops Unexpected r

  unfoldable pub cu_up_acts : CuUp M C → Input C P → Answer M P (CuUp M C)
  cu_up_acts r (control_input from message) = control_received from message r
  cu_up_acts r (packet_input teid item) = take teid item r
  cu_up_acts r tick_input = tick r
  cu_up_acts r (order_input order) = ordered order r
  cu_up_acts r input = drops Unexpected r

-- A CU-UP: where it holds an item or refuses a poll, its record stays; each other step is made.
use Rattle.std.proofs.Common.{◌≡◌, ◌==◌, ℕ, ◌+◌, ◌*◌, Bool, true, false, not, ◌&&◌, ◌||◌, List, [], ◌∷◌, length, map, Option, Some, None, refl}
use Rattle.std.specs.Prelude.{if◌then◌else◌}
use Rattle.std.specs.Ordering.{nat_cmp}
use Rattle.std.specs.List.{AllByRecursion, list_all, flat_map}
use Rattle.gnb_types.specs.declared.names.Gnb.{Gnb}
use Rattle.gnb_types.specs.declared.names.NodeId.{NodeId}
use Rattle.gnb_types.specs.declared.names.NodeId.TheVariants.{CuCp, Du as du_id}
use Rattle.gnb_types.specs.declared.names.UeId.{UeId}
use Rattle.gnb_types.specs.declared.names.BearerId.{BearerId}
use Rattle.gnb_types.specs.declared.names.SnBits.{SnBits}
use Rattle.gnb_types.specs.declared.names.Dir.TheVariants.{Dl, Ul}
use Rattle.gnb_types.specs.declared.keys.Channel.{Channel}
use Rattle.gnb_types.specs.declared.plans.Peer.{Peer}
use Rattle.gnb_types.specs.declared.plans.Tunnel.{Tunnel}
use Rattle.gnb_types.specs.declared.plans.SnStatus.{SnStatus}
use Rattle.gnb_types.specs.declared.inputs.Order.TheVariants as orders
use Rattle.gnb_types.specs.declared.outputs.Tag.TheVariants.{Absent}
use Rattle.gnb_types.specs.declared.reasons.HeldReason.{HeldReason}
use Rattle.gnb_types.specs.declared.reasons.DropReason.TheVariants.{Unexpected}
use Rattle.gnb_types.specs.declared.reasons.RefuseReason.TheVariants.{Empty, NoRadio}
use Rattle.gnb_types.specs.Names.{node_text}
use Rattle.gnb_types.specs.Orders.{ue_cmp, bearer_cmp}
use Rattle.tables.specs.Tables.{find, put, without}
use Rattle.transaction_defs.specs.Callers.{close, due, Due, repeats, expires}
use Rattle.message_types.specs.declared.e1.E1Message.{E1Message}
use Rattle.message_types.specs.declared.e1.E1Message.TheVariants as e1s
use Rattle.unit_defs.specs.Ways.{Message, e1, Taken, no, closed, opened, Input, control_input, packet_input, tick_input, order_input, Way, Answer, gives, spent, ◌then◌, nothing, puts, drops, teids_spent}
use Rattle.unit_defs.specs.Messages.{cause_busy, cause_quota, mode_uplinks, mode_switch, mode_freeze, mode_status, mode_resume, channel, are_bearers, bearers_of, statuses_of, teid_of}
use Rattle.unit_defs.specs.Teids.{teids_are_left}
use Rattle.unit_defs.specs.Transactions.{Kind, request, reply, transfer, kind_of, no_instance, ask, advance, replied}
use Rattle.unit_defs.specs.CuUpRecords.{CuUpBearer, CuUpContext, CuUp, CuUpTunnel, cu_up_scope}
use Rattle.unit_defs.specs.CuUpBearers.{made, teids_of_bearer, with_uplink, switched, frozen_to, with_status, resumed, released, is_over, open_teids, has_downlink, framed}
use Rattle.unit_defs.specs.CuUpItems.{held_reason, took}
use Rattle.unit_defs.specs.CuUp.{bearers_from, bearers_made, entries_of, with_context, context_of, with_transactions, up_node, UpStep, steps, stops, step_with, each_bearer, answer_with, ended, ended_if_over, end_where_over, replies, new_context, opened_of, with_new, makes, fits, set_up_for, setup_response, setup_on, setup, modified, uplinks_from, teids_from, uplinks_given, add_uplinks, as_switched, switch, as_frozen, peer_node, statuses, freeze, as_known, status_each, take_status, as_resumed, resume, names, switch_if, freeze_if, status_if, resume_if, modify_on, as_released, released_on, release, asked, start, set_up, control_by, ue_in, is_own_cu_cp, control_received, with_bearer, taken_by, taken_in, taken_of, taken_on, take, poll_bearer, poll_on, poll, due_output, tick, cu_up_acts}
use Rattle.proof_site.specs.lone_units.Lone.{IsMade, Makes, StaysWhereLone}
use Rattle.proof_site.proofs.lone_units.Steps.{all_append, all_map, all_flat, either, after, made_stays, stays_either, ask_made, advance_made, replied_made, on_request_made, on_reply_made}
use Rattle.proof_site.proofs.lone_units.UpBearers.{framed_makes, switched_makes, frozen_makes, status_makes, resumed_makes, item_makes}

abbrev Bearers : Type 0
Bearers = List (BearerId × CuUpBearer)

module _ {M C P : Type 0} (way : Way M C P) where
  abbrev Fits : Answer M P (CuUp M C) → Type 0
  Fits a = Makes a

  replies_made : (ch : Channel) (m : E1Message) (r : CuUp M C) → Fits (replies way ch m r)
  replies_made ch m r =
      after (replied way r.transactions ch (e1 m)) (λ t. nothing (with_transactions r t)) (replied_made way r.transactions ch (e1 m)) (λ t. tt)

  -- ---- the bearers of a context, one after another

  abbrev StepMakes : UpStep way → Type 0
  StepMakes (steps os bearers) = AllByRecursion IsMade os
  StepMakes (stops k) = Unit {0}

  step_makes : (bearer : BearerId) (a : Answer M P CuUpBearer) (s : UpStep way) → Makes a → StepMakes s → StepMakes (step_with way bearer a s)
  step_makes bearer (gives os c) (steps more bs) p q = all_append IsMade os more p q
  step_makes bearer (gives os c) (stops k) p q = tt
  step_makes bearer (spent k) s p q = tt

  each_makes : (order : BearerId → CuUpBearer → Answer M P CuUpBearer) → ((bearer : BearerId) (b : CuUpBearer) → Makes (order bearer b)) → (es : Bearers)
      → StepMakes (each_bearer way order es)
  each_makes order each [] = tt
  each_makes order each (e ∷ es) = step_makes e.0 (order e.0 e.1) (each_bearer way order es) (each e.0 e.1) (each_makes order each es)

  statuses_make : (ue : UeId) (c : CuUpContext) (ss : List SnStatus) (es : Bearers) → StepMakes (status_each way ue c ss es)
  statuses_make ue c [] es = tt
  statuses_make ue c (s ∷ ss) [] = tt
  statuses_make ue c (s ∷ ss) (e ∷ es) =
      step_makes e.0 (with_status way (cu_up_scope ue c e.0) s e.1) (status_each way ue c ss es) (status_makes way (cu_up_scope ue c e.0) s e.1) (statuses_make ue c ss es)

  steps_make : (r : CuUp M C) (ch : Channel) (ue : UeId) (d : CuUpContext) (s : UpStep way) (m : E1Message) → StepMakes s
      → Fits (answer_with way r ue d s then replies way ch m)
  steps_make r ch ue d s m h = after (answer_with way r ue d s) (replies way ch m) (by s h) (replies_made ch m)
    where
      by : (s : UpStep way) → StepMakes s → Fits (answer_with way r ue d s)
      by (steps os bearers) q = q
      by (stops k) q = tt

  -- ---- a context ends

  ended_makes : (r : CuUp M C) (ue : UeId) (c : CuUpContext) → Fits (ended way r ue c)
  unfolding ended
  ended_makes r ue c =
      all_flat IsMade (λ e. map (λ teid. closed teid) (open_teids e.1)) (λ e. all_map IsMade (λ teid. closed teid) (λ teid. tt) (open_teids e.1)) c.bearers

  over_makes : (ue : UeId) (r : CuUp M C) → Fits (end_where_over way ue r)
  unfolding end_where_over
  over_makes ue r = by (context_of r ue)
    where
      by : (c : Option CuUpContext) → Fits (ended_if_over way ue r c)
      by None = tt
      by (Some c) = either (c.flags.released && list_all (λ e. is_over c.flags e.1) c.bearers) (ended way r ue c) (nothing r) (ended_makes r ue c) tt

  released_makes : (ue : UeId) (is_final : Bool) (r : CuUp M C) (c : Option CuUpContext) → Fits (released_on way ue is_final r c)
  released_makes ue is_final r None = tt
  released_makes ue true r (Some c) = ended_makes r ue c
  released_makes ue false r (Some c) = over_makes ue (with_context ue r (as_released way c))

  release_makes : (ch : Channel) (ue : UeId) (instance : ℕ) (is_final : Bool) (r : CuUp M C) → Fits (release way ch ue instance is_final r)
  unfolding release
  release_makes ch ue instance is_final r =
      after (replies way ch (e1s.BearerContextReleaseComplete ue instance) r) (λ s. released_on way ue is_final s (context_of s ue))
      (replies_made ch (e1s.BearerContextReleaseComplete ue instance) r) (λ s. released_makes ue is_final s (context_of s ue))

  -- ---- Bearer Context Setup

  context_makes : (ue : UeId) (sn : SnBits) (quota : ℕ) (target : Bool) (count : ℕ) (r : CuUp M C) → Fits (makes way ue sn quota target count r)
  unfolding makes
  context_makes ue sn quota target count r =
      either (teids_are_left r.next_teid (count * teids_of_bearer target))
      (with_new way ue r (count * teids_of_bearer target) (new_context way r sn quota target count)) (spent teids_spent)
      (all_flat IsMade (opened_of way) (λ e. all_map IsMade (λ t. opened t.0) (λ t. tt) (entries_of (record { 0 = 0 }) 0 e))
      (new_context way r sn quota target count).bearers) tt

  set_up_makes : (ch : Channel) (ue : UeId) (instance : ℕ) (forward : Bool) (r : CuUp M C) (c : Option CuUpContext) → Fits (set_up_for way ch ue instance forward r c)
  set_up_makes ch ue instance forward r None = tt
  set_up_makes ch ue instance forward r (Some c) = replies_made ch (setup_response way ue instance forward c.bearers) r

  setup_makes : (ch : Channel) (ue : UeId) (instance count : ℕ) (sn : SnBits) (quota : ℕ) (forward : Bool) (r : CuUp M C) (c : Option CuUpContext)
      → Fits (setup_on way ch ue instance count sn quota forward r c)
  setup_makes ch ue instance count sn quota forward r (Some c) = replies_made ch (e1s.BearerContextSetupFailure ue instance cause_busy) r
  setup_makes ch ue instance count sn quota forward r None =
      either (not (fits way count quota r)) (replies way ch (e1s.BearerContextSetupFailure ue instance cause_quota) r) _
      (replies_made ch (e1s.BearerContextSetupFailure ue instance cause_quota) r)
      (after (makes way ue sn quota forward count r) (λ s. set_up_for way ch ue instance forward s (context_of s ue)) (context_makes ue sn quota forward count r)
      (λ s. set_up_makes ch ue instance forward s (context_of s ue)))

  -- ---- Bearer Context Modification

  uplinks_make : (next : ℕ) (es : Bearers) → StepMakes (uplinks_from way next es)
  unfolding with_uplink
  uplinks_make next [] = tt
  uplinks_make next (e ∷ es) = step_makes e.0 (with_uplink way next e.1) (uplinks_from way (next + 1) es) (tt, tt) (uplinks_make (next + 1) es)

  module _ (ch : Channel) (ue : UeId) (instance : ℕ) (r : CuUp M C) where
    add_makes : (c : CuUpContext) → Fits (add_uplinks way ch ue instance c r)
    unfolding add_uplinks
    add_makes c =
        let tunnels : List Tunnel = teids_from way r.next_teid c.bearers in
        either (not (teids_are_left r.next_teid (length c.bearers))) (spent teids_spent) _ tt
        (steps_make (uplinks_given way ue r c tunnels) ch ue c (uplinks_from way r.next_teid c.bearers) (modified way ue instance (Some tunnels) None)
        (uplinks_make r.next_teid c.bearers))

    switch_makes : (du : Option ℕ) (list : Option (List Tunnel)) (c : CuUpContext) → Fits (switch_if way ch ue instance du list c r)
    unfolding switch
    switch_makes (Some d) (Some list) c =
        let on : CuUpContext = as_switched way c in
        either (c.flags.released || not (are_bearers (names way c) (bearers_of list))) (drops Unexpected r) _ (tt, tt)
        (steps_make r ch ue on (each_bearer way (λ b. switched way (cu_up_scope ue on b) (du_id r.gnb d) (teid_of list b)) c.bearers) (modified way ue instance None None)
        (each_makes (λ b. switched way (cu_up_scope ue on b) (du_id r.gnb d) (teid_of list b)) (λ b x. switched_makes way (cu_up_scope ue on b) (du_id r.gnb d) (teid_of list b) x) c.bearers))
    switch_makes (Some d) None c = (tt, tt)
    switch_makes None list c = (tt, tt)

    freeze_makes : (peer : Option Peer) (a b : Option (List Tunnel)) (c : CuUpContext) → Fits (freeze_if way ch ue instance peer a b c r)
    unfolding freeze
    freeze_makes (Some peer) (Some a) (Some b) c =
        let on : CuUpContext = as_frozen way c in
        either (c.flags.frozen || c.flags.released || not c.flags.arrived || not (are_bearers (names way c) (bearers_of a)) || not (are_bearers (names way c) (bearers_of b)))
        (drops Unexpected r) _ (tt, tt)
        (either (not c.flags.may_serve) (replies way ch (e1s.BearerContextModificationFailure ue instance cause_busy) r) _
        (replies_made ch (e1s.BearerContextModificationFailure ue instance cause_busy) r)
        (steps_make r ch ue on (each_bearer way (λ x. frozen_to way (cu_up_scope ue on x) (peer_node way peer) (teid_of a x) (teid_of b x)) c.bearers)
        (modified way ue instance None (Some (statuses way c)))
        (each_makes (λ x. frozen_to way (cu_up_scope ue on x) (peer_node way peer) (teid_of a x) (teid_of b x))
        (λ x y. frozen_makes way (cu_up_scope ue on x) (peer_node way peer) (teid_of a x) (teid_of b x) y) c.bearers)))
    freeze_makes (Some peer) (Some a) None c = (tt, tt)
    freeze_makes (Some peer) None b c = (tt, tt)
    freeze_makes None a b c = (tt, tt)

    known_makes : (list : Option (List SnStatus)) (c : CuUpContext) → Fits (status_if way ch ue instance list c r)
    unfolding take_status
    known_makes (Some list) c =
        either (c.flags.may_serve || not (are_bearers (names way c) (statuses_of list))) (drops Unexpected r) _ (tt, tt)
        (steps_make r ch ue (as_known way c) (status_each way ue (as_known way c) list c.bearers) (modified way ue instance None None)
        (statuses_make ue (as_known way c) list c.bearers))
    known_makes None c = (tt, tt)

    resume_makes : (c : CuUpContext) → Fits (resume_if way ch ue instance c r)
    unfolding resume
    resume_makes c =
        let on : CuUpContext = as_resumed way c in
        either (c.flags.frozen && not c.flags.released) _ (drops Unexpected r)
        (steps_make r ch ue on (each_bearer way (λ b. resumed way (cu_up_scope ue on b)) c.bearers) (modified way ue instance None None)
        (each_makes (λ b. resumed way (cu_up_scope ue on b)) (λ b x. resumed_makes way (cu_up_scope ue on b) x) c.bearers)) (tt, tt)

    modify_makes : (downlinks : Option (List Tunnel)) (mode : ℕ) (peer : Option Peer) (down up : Option (List Tunnel)) (ss : Option (List SnStatus)) (du : Option ℕ)
        (c : Option CuUpContext) → Fits (modify_on way ch (e1s.BearerContextModificationRequest ue instance downlinks mode peer down up ss du) r c)
    modify_makes downlinks mode peer down up ss du None = (tt, tt)
    modify_makes downlinks mode peer down up ss du (Some c) =
        either (mode == mode_uplinks) _ _ (either c.flags.released (drops Unexpected r) (add_uplinks way ch ue instance c r) (tt, tt) (add_makes c))
        (either (mode == mode_switch) _ _ (switch_makes du downlinks c)
        (either (mode == mode_freeze) _ _ (freeze_makes peer down up c)
        (either (mode == mode_status) _ _ (known_makes ss c)
        (either (mode == mode_resume) _ (drops Unexpected r) (resume_makes c) (tt, tt)))))

  -- ---- requests and replies

  asked_makes : (ch : Channel) (m : Message C) (r : CuUp M C) → Fits (asked way ch m r)
  unfolding setup
  asked_makes ch (e1 (e1s.BearerContextSetupRequest ue instance count sn quota forward)) r = setup_makes ch ue instance count sn quota forward r (context_of r ue)
  asked_makes ch (e1 (e1s.BearerContextModificationRequest ue instance downlinks mode peer down up ss du)) r =
      modify_makes ch ue instance r downlinks mode peer down up ss du (context_of r ue)
  asked_makes ch (e1 (e1s.BearerContextReleaseCommand ue instance is_final)) r = release_makes ch ue instance is_final r
  asked_makes ch m r = (tt, tt)

  is_set_up_makes : (ch : Channel) (r : CuUp M C) → Fits (set_up way ch r)
  unfolding set_up
  is_set_up_makes ch r =
      after (advance way (record r.transactions { caller = close r.transactions.caller ch }) ch)
      (λ a. nothing (record r { is_set_up = true; transactions = a.transactions }))
      (advance_made way (record r.transactions { caller = close r.transactions.caller ch }) ch) (λ a. tt)

  control_by_makes : (ch : Channel) (m : Message C) (r : CuUp M C) (k : Kind) → Fits (control_by way ch m r k)
  control_by_makes ch m r (request ue i) =
      on_request_made way r r.transactions ch i (λ t. asked way ch m (with_transactions r t)) (λ t. asked_makes ch m (with_transactions r t))
  control_by_makes ch m r (reply ue i) = on_reply_made way r r.transactions ch i (set_up way ch r) (is_set_up_makes ch r)
  control_by_makes ch m r (transfer ue) = (tt, tt)

  control_makes : (from : NodeId) (m : Message C) (r : CuUp M C) → Fits (control_received way from m r)
  unfolding control_received
  control_makes from m r =
      either (is_own_cu_cp way r.gnb from) (control_by way (channel (ue_in way (kind_of m)) from) m r (kind_of m)) (drops Unexpected r)
      (control_by_makes (channel (ue_in way (kind_of m)) from) m r (kind_of m)) (tt, tt)

  -- ---- items, polls, ticks

  bearer_makes : (r : CuUp M C) (ue : UeId) (c : CuUpContext) (bearer : BearerId) (a : Answer M P CuUpBearer) → Makes a → Fits (with_bearer way r ue c bearer a)
  bearer_makes r ue c bearer (gives os b) h = h
  bearer_makes r ue c bearer (spent k) h = tt

  taken_makes : (r : CuUp M C) (t : CuUpTunnel) (teid : ℕ) (item : Taken P) (c : CuUpContext) (b : CuUpBearer) → Fits (taken_by way r t teid item c b None)
  taken_makes r t teid item c b =
      after (with_bearer way r t.ue c t.bearer (took way (cu_up_scope t.ue c t.bearer) t.kind teid item b)) (end_where_over way t.ue)
      (bearer_makes r t.ue c t.bearer (took way (cu_up_scope t.ue c t.bearer) t.kind teid item b) (item_makes way (cu_up_scope t.ue c t.bearer) t.kind teid item b)) (over_makes t.ue)

  module _ (r : CuUp M C) where
    abbrev Stays : Answer M P (CuUp M C) → Type 0
    Stays a = StaysWhereLone r a

    taken_stays : (t : CuUpTunnel) (teid : ℕ) (item : Taken P) (c : CuUpContext) (b : CuUpBearer) (reason : Option HeldReason) → Stays (taken_by way r t teid item c b reason)
    taken_stays t teid item c b (Some reason) = refl
    taken_stays t teid item c b None = made_stays r (taken_by way r t teid item c b None) (taken_makes r t teid item c b)

    take_stays : (teid : ℕ) (item : Taken P) → Stays (take way teid item r)
    unfolding take
    take_stays teid item = by (find nat_cmp r.tunnels teid)
      where
        in_bearer : (t : CuUpTunnel) (c : CuUpContext) (b : Option CuUpBearer) → Stays (taken_in way r t teid item c b)
        in_bearer t c None = tt
        in_bearer t c (Some b) = taken_stays t teid item c b (held_reason (cu_up_scope t.ue c t.bearer) b t.kind item)

        in_context : (t : CuUpTunnel) (c : Option CuUpContext) → Stays (taken_of way r t teid item c)
        in_context t None = tt
        in_context t (Some c) = in_bearer t c (find bearer_cmp c.bearers t.bearer)

        by : (t : Option CuUpTunnel) → Stays (taken_on way r teid item t)
        by None = tt
        by (Some t) = in_context t (context_of r t.ue)

    poll_stays : (ue : UeId) (bearer : BearerId) → Stays (poll way ue bearer r)
    unfolding poll
    poll_stays ue bearer = by (context_of r ue)
      where
        in_bearer : (c : CuUpContext) (b : Option CuUpBearer) → Stays (poll_bearer way r ue c bearer b)
        in_bearer c None = refl
        in_bearer c (Some b) =
            stays_either r (length b.sender.unconfirmed == 0) (puts (no Empty) r) _ refl
            (stays_either r (c.flags.frozen || not (has_downlink b.downlink)) (puts (no NoRadio) r) _ refl
            (made_stays r (with_bearer way r ue c bearer (framed way (cu_up_scope ue c bearer) true false None Absent b))
            (bearer_makes r ue c bearer (framed way (cu_up_scope ue c bearer) true false None Absent b) (framed_makes way (cu_up_scope ue c bearer) true false None Absent b))))

        by : (c : Option CuUpContext) → Stays (poll_on way r ue bearer c)
        by None = refl
        by (Some c) = in_bearer c (find bearer_cmp c.bearers bearer)

  start_makes : (r : CuUp M C) → Fits (start way r)
  unfolding start
  start_makes r =
      either r.is_set_up (nothing r) _ tt
      (after (ask way r.transactions (channel 0 (CuCp r.gnb))
      (record { message = e1 (e1s.E1SetupRequest no_instance (node_text (up_node r))); deadline = None; awaited = false }))
      (λ a. nothing (with_transactions r a.transactions)) (ask_made way r.transactions (channel 0 (CuCp r.gnb)) _) (λ a. tt))

  due_makes : (d : Due M) → AllByRecursion IsMade (due_output way d)
  due_makes (repeats ch m) = (tt, tt)
  due_makes (expires ch) = tt

  tick_makes : (r : CuUp M C) → Fits (tick way r)
  unfolding tick
  tick_makes r = all_flat IsMade (due_output way) due_makes (due r.transactions.caller)

  pub cu_up_stays : (r : CuUp M C) (input : Input C P) → StaysWhereLone r (cu_up_acts way r input)
  unfolding cu_up_acts
  cu_up_stays r (control_input from m) = made_stays r (control_received way from m r) (control_makes from m r)
  cu_up_stays r (packet_input teid item) = take_stays r teid item
  cu_up_stays r tick_input = made_stays r (tick way r) (tick_makes r)
  cu_up_stays r (order_input orders.Start) = made_stays r (start way r) (start_makes r)
  cu_up_stays r (order_input (orders.Poll ue bearer)) = poll_stays r ue bearer
  cu_up_stays r input = tt

  -- what is neither an item nor a poll
  abbrev pub IsOther : Input C P → Type 0
  IsOther (packet_input teid item) = ⊥
  IsOther (order_input (orders.Poll ue bearer)) = ⊥
  IsOther input = Unit {0}

  pub cu_up_makes : (r : CuUp M C) (input : Input C P) → IsOther input → Makes (cu_up_acts way r input)
  unfolding cu_up_acts
  cu_up_makes r (control_input from m) is = control_makes from m r
  cu_up_makes r (packet_input teid item) is = absurd is
  cu_up_makes r tick_input is = tick_makes r
  cu_up_makes r (order_input orders.Start) is = start_makes r
  cu_up_makes r (order_input (orders.Poll ue bearer)) is = absurd is
  cu_up_makes r input is = (tt, tt)

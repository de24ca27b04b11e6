-- A CU-UP: what it puts, delivers and keeps has the property where what it kept and what the input brings have it.
use Rattle.std.proofs.Common.{◌≡◌, ◌==◌, ℕ, ◌+◌, ◌*◌, Bool, true, false, not, ◌&&◌, ◌||◌, List, [], ◌∷◌, length, map, Option, Some, None, refl}
use Rattle.std.specs.Prelude.{if◌then◌else◌}
use Rattle.std.specs.Ordering.{nat_cmp}
use Rattle.std.specs.BTreeMap.{is_at}
use Rattle.std.specs.List.{AllByRecursion, list_all, flat_map}
use Rattle.gnb_types.specs.declared.names.Gnb.{Gnb}
use Rattle.gnb_types.specs.declared.names.NodeId.{NodeId}
use Rattle.gnb_types.specs.declared.names.NodeId.TheVariants.{CuCp, Du as du_id}
use Rattle.gnb_types.specs.declared.names.UeId.{UeId}
use Rattle.gnb_types.specs.declared.names.BearerId.{BearerId}
use Rattle.gnb_types.specs.declared.names.SnBits.{SnBits}
use Rattle.gnb_types.specs.declared.names.Dir.TheVariants.{Dl, Ul}
use Rattle.gnb_types.specs.declared.keys.Channel.{Channel}
use Rattle.gnb_types.specs.declared.plans.Peer.{Peer}
use Rattle.gnb_types.specs.declared.plans.Plan.{Plan}
use Rattle.gnb_types.specs.declared.plans.Tunnel.{Tunnel}
use Rattle.gnb_types.specs.declared.plans.SnStatus.{SnStatus}
use Rattle.gnb_types.specs.declared.inputs.Order.TheVariants as orders
use Rattle.gnb_types.specs.declared.outputs.Tag.TheVariants.{Absent}
use Rattle.gnb_types.specs.declared.reasons.HeldReason.{HeldReason}
use Rattle.gnb_types.specs.declared.reasons.DropReason.TheVariants.{Unexpected}
use Rattle.gnb_types.specs.declared.reasons.RefuseReason.TheVariants.{Empty, NoRadio}
use Rattle.gnb_types.specs.Names.{node_text}
use Rattle.gnb_types.specs.Orders.{ue_cmp, bearer_cmp}
use Rattle.gnb_types.proofs.OrderLemmas.{ue_exact, bearer_exact}
use Rattle.tables.specs.Tables.{find, put, without}
use Rattle.transaction_defs.specs.Callers.{close, due, Due, repeats, expires}
use Rattle.message_types.specs.declared.e1.E1Message.{E1Message}
use Rattle.message_types.specs.declared.e1.E1Message.TheVariants as e1s
use Rattle.unit_defs.specs.Ways.{Message, e1, Taken, no, closed, opened, Input, control_input, packet_input, tick_input, order_input, Way, Answer, gives, spent, ◌then◌, nothing, puts, drops, teids_spent}
use Rattle.unit_defs.specs.Messages.{cause_busy, cause_quota, mode_uplinks, mode_switch, mode_freeze, mode_status, mode_resume, channel, are_bearers, bearers_of, statuses_of, teid_of}
use Rattle.unit_defs.specs.Teids.{teids_are_left}
use Rattle.unit_defs.specs.Transactions.{Kind, request, reply, transfer, kind_of, no_instance, ask, advance, replied}
use Rattle.unit_defs.specs.CuUpRecords.{CuUpBearer, CuUpContext, CuUp, CuUpTunnel, cu_up_scope}
use Rattle.unit_defs.specs.CuUpBearers.{made, teids_of_bearer, with_uplink, switched, frozen_to, with_status, resumed, released, is_over, open_teids, has_downlink, framed}
use Rattle.unit_defs.specs.CuUpItems.{held_reason, took}
use Rattle.unit_defs.specs.Static.{with_downlinks, cu_up_context, cu_up_placed}
use Rattle.unit_defs.specs.CuUp.{bearers_from, bearers_made, entries_of, with_context, context_of, with_transactions, up_node, UpStep, steps, stops, step_with, each_bearer, answer_with, ended, ended_if_over, end_where_over, replies, new_context, opened_of, with_new, makes, fits, set_up_for, setup_response, setup_on, setup, modified, uplinks_from, teids_from, uplinks_given, add_uplinks, as_switched, switch, as_frozen, peer_node, statuses, freeze, as_known, status_each, take_status, as_resumed, resume, names, switch_if, freeze_if, status_if, resume_if, modify_on, as_released, released_on, release, asked, start, set_up, control_by, ue_in, is_own_cu_cp, control_received, with_bearer, taken_by, taken_in, taken_of, taken_on, take, poll_bearer, poll_on, poll, due_output, tick, cu_up_acts}
use Rattle.intervals.proofs.Intervals.{all_append, all_filter}
use Rattle.proof_unit_steps.specs.packets.Packets.{of, dir_of, Property, TakenHas, UpInputHas, OutputHas, BearerHas, BearersHave, CuUpHas, AnswerHas}
use Rattle.proof_unit_steps.proofs.packets.Answers.{all_map, all_flat, either as either_way, after as after_one, after_any, ask_has, advance_has, replied_has, on_request_has, on_reply_has}
use Rattle.proof_unit_steps.proofs.packets.Keyed.{keyed_found, keyed_put}
use Rattle.proof_unit_steps.proofs.packets.UpBearers.{framed_has, switched_has, frozen_has, status_has, resumed_has, item_has}

abbrev Bearers : Type 0
Bearers = List (BearerId × CuUpBearer)

module _ {M C P : Type 0} {way : Way M C P} (has : Property way) where
  abbrev HasBearer : UeId → BearerId → CuUpBearer → Type 0
  HasBearer ue bearer b = BearerHas has (of ue bearer Dl) (of ue bearer Ul) b.sender b.waiting b.receiver

  abbrev HasContext : UeId → CuUpContext → Type 0
  HasContext ue c = BearersHave has ue c.bearers

  abbrev FitsBearer : UeId → BearerId → Answer M P CuUpBearer → Type 0
  FitsBearer ue bearer a = AnswerHas has (HasBearer ue bearer) a

  abbrev Fits : Answer M P (CuUp M C) → Type 0
  Fits a = AnswerHas has (CuUpHas has) a

  either : (t : Bool) (x y : Answer M P (CuUp M C)) → Fits x → Fits y → Fits (if t then x else y)
  either t x y p q = either_way has (CuUpHas has) t x y p q

  after : (a : Answer M P (CuUp M C)) (f : CuUp M C → Answer M P (CuUp M C)) → Fits a → ((r : CuUp M C) → CuUpHas has r → Fits (f r)) → Fits (a then f)
  after a f p q = after_one has (CuUpHas has) (CuUpHas has) a f p q

  contexts_put : (r : CuUp M C) (ue : UeId) (c : CuUpContext) → CuUpHas has r → HasContext ue c → CuUpHas has (with_context ue r c)
  contexts_put r ue c p all = keyed_put ue_cmp ue_exact HasContext r.contexts ue c p all

  context_has : (r : CuUp M C) (ue : UeId) (c : CuUpContext) → CuUpHas has r → find ue_cmp r.contexts ue ≡ Some c → HasContext ue c
  context_has r ue c p is = keyed_found ue_cmp ue_exact HasContext r.contexts ue c p is

  -- a new bearer keeps no packet
  made_have : (ue : UeId) (target : Bool) (next : ℕ) (bs : List BearerId) → BearersHave has ue (bearers_made target next bs)
  unfolding made
  made_have ue target next [] = tt
  made_have ue target next (b ∷ bs) = (record { unconfirmed = tt; waiting = tt; stored = tt }, made_have ue target (next + teids_of_bearer target) bs)

  replies_have : (ch : Channel) (m : E1Message) (r : CuUp M C) → CuUpHas has r → Fits (replies way ch m r)
  replies_have ch m r p =
      after_any has (CuUpHas has) (replied way r.transactions ch (e1 m)) (λ t. nothing (with_transactions r t)) (replied_has has r.transactions ch (e1 m)) (λ t. (p, tt))

  -- ---- the bearers of a context, one after another

  abbrev StepHas : UeId → UpStep way → Type 0
  StepHas ue (steps os bearers) = BearersHave has ue bearers × AllByRecursion (OutputHas has) os
  StepHas ue (stops k) = Unit {0}

  step_has : (ue : UeId) (bearer : BearerId) (a : Answer M P CuUpBearer) (s : UpStep way) → FitsBearer ue bearer a → StepHas ue s
      → StepHas ue (step_with way bearer a s)
  step_has ue bearer (gives os c) (steps more bs) p q = ((p.0, q.0), all_append (OutputHas has) os more p.1 q.1)
  step_has ue bearer (gives os c) (stops k) p q = tt
  step_has ue bearer (spent k) s p q = tt

  each_has : (ue : UeId) (order : BearerId → CuUpBearer → Answer M P CuUpBearer)
      → ((bearer : BearerId) (b : CuUpBearer) → HasBearer ue bearer b → FitsBearer ue bearer (order bearer b))
      → (es : Bearers) → BearersHave has ue es → StepHas ue (each_bearer way order es)
  each_has ue order each [] all = (tt, tt)
  each_has ue order each (e ∷ es) all = step_has ue e.0 (order e.0 e.1) (each_bearer way order es) (each e.0 e.1 all.0) (each_has ue order each es all.1)

  statuses_have : (ue : UeId) (c : CuUpContext) (ss : List SnStatus) (es : Bearers) → BearersHave has ue es → StepHas ue (status_each way ue c ss es)
  statuses_have ue c [] es all = (all, tt)
  statuses_have ue c (s ∷ ss) [] all = (tt, tt)
  statuses_have ue c (s ∷ ss) (e ∷ es) all =
      step_has ue e.0 (with_status way (cu_up_scope ue c e.0) s e.1) (status_each way ue c ss es) (status_has has (cu_up_scope ue c e.0) s e.1 all.0) (statuses_have ue c ss es all.1)

  steps_have : (r : CuUp M C) (ch : Channel) (ue : UeId) (d : CuUpContext) (s : UpStep way) (m : E1Message) → CuUpHas has r → StepHas ue s
      → Fits (answer_with way r ue d s then replies way ch m)
  steps_have r ch ue d s m p h = after (answer_with way r ue d s) (replies way ch m) (by s h) (replies_have ch m)
    where
      by : (s : UpStep way) → StepHas ue s → Fits (answer_with way r ue d s)
      by (steps os bearers) q = (contexts_put r ue (record d { bearers = bearers }) p q.0, q.1)
      by (stops k) q = tt

  -- ---- a context ends

  ended_has : (r : CuUp M C) (ue : UeId) (c : CuUpContext) → CuUpHas has r → Fits (ended way r ue c)
  unfolding ended without
  ended_has r ue c p = (
    all_filter (λ (e : UeId × CuUpContext). HasContext e.0 e.1) (λ e. not (is_at (ue_cmp ue) e.0)) r.contexts p,
    all_flat (OutputHas has) (λ e. map (λ teid. closed teid) (open_teids e.1)) (λ e. all_map (OutputHas has) (λ teid. closed teid) (λ teid. tt) (open_teids e.1)) c.bearers,
  )

  over_has : (ue : UeId) (r : CuUp M C) → CuUpHas has r → Fits (end_where_over way ue r)
  unfolding end_where_over
  over_has ue r p = by (context_of r ue)
    where
      by : (c : Option CuUpContext) → Fits (ended_if_over way ue r c)
      by None = (p, tt)
      by (Some c) = either (c.flags.released && list_all (λ e. is_over c.flags e.1) c.bearers) (ended way r ue c) (nothing r) (ended_has r ue c p) (p, tt)

  released_have : (ue : UeId) (es : Bearers) → BearersHave has ue (map (λ e. (e.0, released e.1)) es)
  released_have ue [] = tt
  released_have ue (e ∷ es) = (record { unconfirmed = tt; waiting = tt; stored = tt }, released_have ue es)

  released_fits : (ue : UeId) (is_final : Bool) (r : CuUp M C) (c : Option CuUpContext) → CuUpHas has r → Fits (released_on way ue is_final r c)
  released_fits ue is_final r None p = (p, tt)
  released_fits ue true r (Some c) p = ended_has r ue c p
  released_fits ue false r (Some c) p =
      over_has ue (with_context ue r (as_released way c)) (contexts_put r ue (as_released way c) p (released_have ue c.bearers))

  release_has : (ch : Channel) (ue : UeId) (instance : ℕ) (is_final : Bool) (r : CuUp M C) → CuUpHas has r → Fits (release way ch ue instance is_final r)
  unfolding release
  release_has ch ue instance is_final r p =
      after (replies way ch (e1s.BearerContextReleaseComplete ue instance) r) (λ s. released_on way ue is_final s (context_of s ue))
      (replies_have ch (e1s.BearerContextReleaseComplete ue instance) r p) (λ s q. released_fits ue is_final s (context_of s ue) q)

  -- ---- Bearer Context Setup

  opened_have : (es : Bearers) → AllByRecursion (OutputHas has) (flat_map (opened_of way) es)
  opened_have es =
      all_flat (OutputHas has) (opened_of way) (λ e. all_map (OutputHas has) (λ t. opened t.0) (λ t. tt) (entries_of (record { 0 = 0 }) 0 e)) es

  makes_has : (ue : UeId) (sn : SnBits) (quota : ℕ) (target : Bool) (count : ℕ) (r : CuUp M C) → CuUpHas has r → Fits (makes way ue sn quota target count r)
  unfolding makes
  makes_has ue sn quota target count r p =
      either (teids_are_left r.next_teid (count * teids_of_bearer target))
      (with_new way ue r (count * teids_of_bearer target) (new_context way r sn quota target count)) (spent teids_spent) (
        contexts_put r ue (new_context way r sn quota target count) p (made_have ue target r.next_teid (bearers_from 1 count)),
        opened_have (new_context way r sn quota target count).bearers,
      ) tt

  set_up_has : (ch : Channel) (ue : UeId) (instance : ℕ) (forward : Bool) (r : CuUp M C) (c : Option CuUpContext) → CuUpHas has r
      → Fits (set_up_for way ch ue instance forward r c)
  set_up_has ch ue instance forward r None p = (p, tt)
  set_up_has ch ue instance forward r (Some c) p = replies_have ch (setup_response way ue instance forward c.bearers) r p

  setup_has : (ch : Channel) (ue : UeId) (instance count : ℕ) (sn : SnBits) (quota : ℕ) (forward : Bool) (r : CuUp M C) → CuUpHas has r → (c : Option CuUpContext)
      → Fits (setup_on way ch ue instance count sn quota forward r c)
  setup_has ch ue instance count sn quota forward r p (Some c) = replies_have ch (e1s.BearerContextSetupFailure ue instance cause_busy) r p
  setup_has ch ue instance count sn quota forward r p None =
      either (not (fits way count quota r)) (replies way ch (e1s.BearerContextSetupFailure ue instance cause_quota) r) _
      (replies_have ch (e1s.BearerContextSetupFailure ue instance cause_quota) r p)
      (after (makes way ue sn quota forward count r) (λ s. set_up_for way ch ue instance forward s (context_of s ue)) (makes_has ue sn quota forward count r p)
      (λ s q. set_up_has ch ue instance forward s (context_of s ue) q))

  -- ---- Bearer Context Modification

  uplinks_have : (ue : UeId) (next : ℕ) (es : Bearers) → BearersHave has ue es → StepHas ue (uplinks_from way next es)
  unfolding with_uplink
  uplinks_have ue next [] all = (tt, tt)
  uplinks_have ue next (e ∷ es) all =
      step_has ue e.0 (with_uplink way next e.1) (uplinks_from way (next + 1) es) (all.0, (tt, tt)) (uplinks_have ue (next + 1) es all.1)

  module _ (ch : Channel) (ue : UeId) (instance : ℕ) (r : CuUp M C) (p : CuUpHas has r) where
    add_has : (c : CuUpContext) → HasContext ue c → Fits (add_uplinks way ch ue instance c r)
    unfolding add_uplinks
    add_has c all =
        let tunnels : List Tunnel = teids_from way r.next_teid c.bearers in
        either (not (teids_are_left r.next_teid (length c.bearers))) (spent teids_spent) _ tt
        (steps_have (uplinks_given way ue r c tunnels) ch ue c (uplinks_from way r.next_teid c.bearers) (modified way ue instance (Some tunnels) None) p
        (uplinks_have ue r.next_teid c.bearers all))

    switch_has : (du : Option ℕ) (list : Option (List Tunnel)) (c : CuUpContext) → HasContext ue c → Fits (switch_if way ch ue instance du list c r)
    unfolding switch
    switch_has (Some d) (Some list) c all =
        either (c.flags.released || not (are_bearers (names way c) (bearers_of list))) (drops Unexpected r) _ (p, (tt, tt))
        (steps_have r ch ue (as_switched way c) (each_bearer way (λ b. switched way (cu_up_scope ue (as_switched way c) b) (du_id r.gnb d) (teid_of list b)) c.bearers)
        (modified way ue instance None None) p
        (each_has ue (λ b. switched way (cu_up_scope ue (as_switched way c) b) (du_id r.gnb d) (teid_of list b))
        (λ b x h. switched_has has (cu_up_scope ue (as_switched way c) b) (du_id r.gnb d) (teid_of list b) x h) c.bearers all))
    switch_has (Some d) None c all = (p, (tt, tt))
    switch_has None list c all = (p, (tt, tt))

    freeze_has : (peer : Option Peer) (a b : Option (List Tunnel)) (c : CuUpContext) → HasContext ue c → Fits (freeze_if way ch ue instance peer a b c r)
    unfolding freeze
    freeze_has (Some peer) (Some a) (Some b) c all =
        either (c.flags.frozen || c.flags.released || not c.flags.arrived || not (are_bearers (names way c) (bearers_of a)) || not (are_bearers (names way c) (bearers_of b)))
        (drops Unexpected r) _ (p, (tt, tt))
        (either (not c.flags.may_serve) (replies way ch (e1s.BearerContextModificationFailure ue instance cause_busy) r) _
        (replies_have ch (e1s.BearerContextModificationFailure ue instance cause_busy) r p)
        (steps_have r ch ue (as_frozen way c)
        (each_bearer way (λ x. frozen_to way (cu_up_scope ue (as_frozen way c) x) (peer_node way peer) (teid_of a x) (teid_of b x)) c.bearers)
        (modified way ue instance None (Some (statuses way c))) p
        (each_has ue (λ x. frozen_to way (cu_up_scope ue (as_frozen way c) x) (peer_node way peer) (teid_of a x) (teid_of b x))
        (λ x y h. frozen_has has (cu_up_scope ue (as_frozen way c) x) (peer_node way peer) (teid_of a x) (teid_of b x) y h) c.bearers all)))
    freeze_has (Some peer) (Some a) None c all = (p, (tt, tt))
    freeze_has (Some peer) None b c all = (p, (tt, tt))
    freeze_has None a b c all = (p, (tt, tt))

    known_has : (list : Option (List SnStatus)) (c : CuUpContext) → HasContext ue c → Fits (status_if way ch ue instance list c r)
    unfolding take_status
    known_has (Some list) c all =
        either (c.flags.may_serve || not (are_bearers (names way c) (statuses_of list))) (drops Unexpected r) _ (p, (tt, tt))
        (steps_have r ch ue (as_known way c) (status_each way ue (as_known way c) list c.bearers) (modified way ue instance None None) p
        (statuses_have ue (as_known way c) list c.bearers all))
    known_has None c all = (p, (tt, tt))

    resume_has : (c : CuUpContext) → HasContext ue c → Fits (resume_if way ch ue instance c r)
    unfolding resume
    resume_has c all =
        either (c.flags.frozen && not c.flags.released) _ (drops Unexpected r)
        (steps_have r ch ue (as_resumed way c) (each_bearer way (λ b. resumed way (cu_up_scope ue (as_resumed way c) b)) c.bearers) (modified way ue instance None None) p
        (each_has ue (λ b. resumed way (cu_up_scope ue (as_resumed way c) b)) (λ b x h. resumed_has has (cu_up_scope ue (as_resumed way c) b) x h) c.bearers all)) (p, (tt, tt))

    modify_has : (downlinks : Option (List Tunnel)) (mode : ℕ) (peer : Option Peer) (down up : Option (List Tunnel)) (ss : Option (List SnStatus)) (du : Option ℕ)
        (c : Option CuUpContext) → find ue_cmp r.contexts ue ≡ c
        → Fits (modify_on way ch (e1s.BearerContextModificationRequest ue instance downlinks mode peer down up ss du) r c)
    modify_has downlinks mode peer down up ss du None is = (p, (tt, tt))
    modify_has downlinks mode peer down up ss du (Some c) is =
        let all : HasContext ue c = context_has r ue c p is in
        either (mode == mode_uplinks) _ _ (either c.flags.released (drops Unexpected r) (add_uplinks way ch ue instance c r) (p, (tt, tt)) (add_has c all))
        (either (mode == mode_switch) _ _ (switch_has du downlinks c all)
        (either (mode == mode_freeze) _ _ (freeze_has peer down up c all)
        (either (mode == mode_status) _ _ (known_has ss c all)
        (either (mode == mode_resume) _ (drops Unexpected r) (resume_has c all) (p, (tt, tt))))))

  -- ---- requests and replies

  asked_has : (ch : Channel) (m : Message C) (r : CuUp M C) → CuUpHas has r → Fits (asked way ch m r)
  unfolding setup
  asked_has ch (e1 (e1s.BearerContextSetupRequest ue instance count sn quota forward)) r p = setup_has ch ue instance count sn quota forward r p (context_of r ue)
  asked_has ch (e1 (e1s.BearerContextModificationRequest ue instance downlinks mode peer down up ss du)) r p =
      modify_has ch ue instance r p downlinks mode peer down up ss du (context_of r ue) refl
  asked_has ch (e1 (e1s.BearerContextReleaseCommand ue instance is_final)) r p = release_has ch ue instance is_final r p
  asked_has ch m r p = (p, (tt, tt))

  is_set_up_has : (ch : Channel) (r : CuUp M C) → CuUpHas has r → Fits (set_up way ch r)
  unfolding set_up
  is_set_up_has ch r p =
      after_any has (CuUpHas has) (advance way (record r.transactions { caller = close r.transactions.caller ch }) ch)
      (λ a. nothing (record r { is_set_up = true; transactions = a.transactions }))
      (advance_has has (record r.transactions { caller = close r.transactions.caller ch }) ch) (λ a. (p, tt))

  control_by_has : (ch : Channel) (m : Message C) (r : CuUp M C) (k : Kind) → CuUpHas has r → Fits (control_by way ch m r k)
  control_by_has ch m r (request ue i) p =
      on_request_has has (CuUpHas has) r r.transactions ch i (λ t. asked way ch m (with_transactions r t)) p (λ t. asked_has ch m (with_transactions r t) p)
  control_by_has ch m r (reply ue i) p = on_reply_has has (CuUpHas has) r r.transactions ch i (set_up way ch r) p (is_set_up_has ch r p)
  control_by_has ch m r (transfer ue) p = (p, (tt, tt))

  control_has : (from : NodeId) (m : Message C) (r : CuUp M C) → CuUpHas has r → Fits (control_received way from m r)
  unfolding control_received
  control_has from m r p =
      either (is_own_cu_cp way r.gnb from) (control_by way (channel (ue_in way (kind_of m)) from) m r (kind_of m)) (drops Unexpected r)
      (control_by_has (channel (ue_in way (kind_of m)) from) m r (kind_of m) p) (p, (tt, tt))

  -- ---- items, polls, ticks

  bearer_has : (r : CuUp M C) (ue : UeId) (c : CuUpContext) (bearer : BearerId) (a : Answer M P CuUpBearer) → CuUpHas has r → HasContext ue c → FitsBearer ue bearer a
      → Fits (with_bearer way r ue c bearer a)
  bearer_has r ue c bearer (gives os b) p all h =
      (contexts_put r ue (record c { bearers = put bearer_cmp c.bearers bearer b }) p (keyed_put bearer_cmp bearer_exact (HasBearer ue) c.bearers bearer b all h.0), h.1)
  bearer_has r ue c bearer (spent k) p all h = tt

  module _ (r : CuUp M C) (p : CuUpHas has r) where
    taken_has : (t : CuUpTunnel) (teid : ℕ) (item : Taken P) (c : CuUpContext) (b : CuUpBearer) → TakenHas has (of t.ue t.bearer (dir_of t.kind)) item → HasContext t.ue c → HasBearer t.ue t.bearer b
        → (reason : Option HeldReason) → Fits (taken_by way r t teid item c b reason)
    taken_has t teid item c b brings all h (Some reason) = (p, (tt, tt))
    taken_has t teid item c b brings all h None =
        after (with_bearer way r t.ue c t.bearer (took way (cu_up_scope t.ue c t.bearer) t.kind teid item b)) (end_where_over way t.ue)
        (bearer_has r t.ue c t.bearer (took way (cu_up_scope t.ue c t.bearer) t.kind teid item b) p all (item_has has (cu_up_scope t.ue c t.bearer) t.kind teid item b brings h))
        (over_has t.ue)

    take_has : (teid : ℕ) (item : Taken P)
        → ((owner : CuUpTunnel) → find nat_cmp r.tunnels teid ≡ Some owner → TakenHas has (of owner.ue owner.bearer (dir_of owner.kind)) item)
        → Fits (take way teid item r)
    unfolding take
    take_has teid item brings = by (find nat_cmp r.tunnels teid) refl
      where
        Brings : CuUpTunnel → Type 0
        Brings t = TakenHas has (of t.ue t.bearer (dir_of t.kind)) item

        in_bearer : (t : CuUpTunnel) (c : CuUpContext) → Brings t → HasContext t.ue c → (b : Option CuUpBearer) → find bearer_cmp c.bearers t.bearer ≡ b
            → Fits (taken_in way r t teid item c b)
        in_bearer t c is all None there = (p, (tt, tt))
        in_bearer t c is all (Some b) there =
            taken_has t teid item c b is all (keyed_found bearer_cmp bearer_exact (HasBearer t.ue) c.bearers t.bearer b all there)
            (held_reason (cu_up_scope t.ue c t.bearer) b t.kind item)

        in_context : (t : CuUpTunnel) → Brings t → (c : Option CuUpContext) → find ue_cmp r.contexts t.ue ≡ c → Fits (taken_of way r t teid item c)
        in_context t is None there = (p, (tt, tt))
        in_context t is (Some c) there = in_bearer t c is (context_has r t.ue c p there) (find bearer_cmp c.bearers t.bearer) refl

        by : (t : Option CuUpTunnel) → find nat_cmp r.tunnels teid ≡ t → Fits (taken_on way r teid item t)
        by None there = (p, (tt, tt))
        by (Some t) there = in_context t (brings t there) (context_of r t.ue) refl

    poll_has : (ue : UeId) (bearer : BearerId) → Fits (poll way ue bearer r)
    unfolding poll
    poll_has ue bearer = by (context_of r ue) refl
      where
        in_bearer : (c : CuUpContext) → HasContext ue c → (b : Option CuUpBearer) → find bearer_cmp c.bearers bearer ≡ b → Fits (poll_bearer way r ue c bearer b)
        in_bearer c all None is = (p, (tt, tt))
        in_bearer c all (Some b) is =
            either (length b.sender.unconfirmed == 0) (puts (no Empty) r) _ (p, (tt, tt))
            (either (c.flags.frozen || not (has_downlink b.downlink)) (puts (no NoRadio) r) _ (p, (tt, tt))
            (bearer_has r ue c bearer (framed way (cu_up_scope ue c bearer) true false None Absent b) p all
            (framed_has has (cu_up_scope ue c bearer) true false None Absent b tt (keyed_found bearer_cmp bearer_exact (HasBearer ue) c.bearers bearer b all is))))

        by : (c : Option CuUpContext) → find ue_cmp r.contexts ue ≡ c → Fits (poll_on way r ue bearer c)
        by None is = (p, (tt, tt))
        by (Some c) is = in_bearer c (context_has r ue c p is) (find bearer_cmp c.bearers bearer) refl

  start_has : (r : CuUp M C) → CuUpHas has r → Fits (start way r)
  unfolding start
  start_has r p =
      either r.is_set_up (nothing r) _ (p, tt)
      (after_any has (CuUpHas has) (ask way r.transactions (channel 0 (CuCp r.gnb))
      (record { message = e1 (e1s.E1SetupRequest no_instance (node_text (up_node r))); deadline = None; awaited = false }))
      (λ a. nothing (with_transactions r a.transactions)) (ask_has has r.transactions (channel 0 (CuCp r.gnb)) _) (λ a. (p, tt)))

  due_has : (d : Due M) → AllByRecursion (OutputHas has) (due_output way d)
  due_has (repeats ch m) = (tt, tt)
  due_has (expires ch) = tt

  tick_has : (r : CuUp M C) → CuUpHas has r → Fits (tick way r)
  unfolding tick
  tick_has r p = (p, all_flat (OutputHas has) (due_output way) due_has (due r.transactions.caller))

  pub cu_up_has : (r : CuUp M C) (input : Input C P) → CuUpHas has r → UpInputHas has r input → Fits (cu_up_acts way r input)
  unfolding cu_up_acts
  cu_up_has r (control_input from m) p brings = control_has from m r p
  cu_up_has r (packet_input teid item) p brings = take_has r p teid item brings
  cu_up_has r tick_input p brings = tick_has r p
  cu_up_has r (order_input orders.Start) p brings = start_has r p
  cu_up_has r (order_input (orders.Poll ue bearer)) p brings = poll_has r p ue bearer
  cu_up_has r input p brings = (p, (tt, tt))

  -- ---- a terminal that is set up without messages: no packet is kept yet

  downlinks_have : (ue : UeId) (gnb : Gnb) (du next : ℕ) (es : Bearers) → BearersHave has ue es → BearersHave has ue (with_downlinks gnb du next es)
  downlinks_have ue gnb du next [] all = tt
  downlinks_have ue gnb du next (e ∷ es) all = (all.0, downlinks_have ue gnb du (next + 1) es all.1)

  pub placed_has : (r : CuUp M C) (plan : Plan) (downlink : ℕ) → CuUpHas has r → CuUpHas has (cu_up_placed r plan downlink)
  unfolding cu_up_placed
  placed_has r plan downlink p =
      keyed_put ue_cmp ue_exact HasContext r.contexts plan.ue (cu_up_context r plan downlink) p
      (downlinks_have plan.ue r.gnb plan.du downlink (bearers_made false r.next_teid (bearers_from 1 plan.bearers))
      (made_have plan.ue false r.next_teid (bearers_from 1 plan.bearers)))

-- A CU-UP puts what may stand, with the COUNT that it says, and keeps the names of its bearers.
use Rattle.std.proofs.Common.{◌≡◌, ◌==◌, ℕ, ◌+◌, ◌*◌, Bool, true, false, cond, not, ◌&&◌, ◌||◌, List, [], ◌∷◌, length, map, Option, Some, None, refl, sym, ◌∙◌, subst}
use Rattle.std.specs.Prelude.{if◌then◌else◌}
use Rattle.std.specs.Ordering.{nat_cmp, eq_by_cmp}
use Rattle.std.specs.List.{list_all, flat_map}
use Rattle.gnb_types.specs.declared.names.Gnb.{Gnb}
use Rattle.gnb_types.specs.declared.names.NodeId.{NodeId}
use Rattle.gnb_types.specs.declared.names.NodeId.TheVariants.{CuCp, Du as du_id}
use Rattle.gnb_types.specs.declared.names.UeId.{UeId}
use Rattle.gnb_types.specs.declared.names.BearerId.{BearerId}
use Rattle.gnb_types.specs.declared.names.SnBits.{SnBits}
use Rattle.gnb_types.specs.declared.keys.Channel.{Channel}
use Rattle.gnb_types.specs.declared.plans.Plan.{Plan}
use Rattle.gnb_types.specs.declared.plans.Peer.{Peer}
use Rattle.gnb_types.specs.declared.plans.Tunnel.{Tunnel}
use Rattle.gnb_types.specs.declared.plans.SnStatus.{SnStatus}
use Rattle.gnb_types.specs.declared.inputs.Order.TheVariants as orders
use Rattle.gnb_types.specs.declared.outputs.Tag.TheVariants.{Absent}
use Rattle.gnb_types.specs.declared.reasons.HeldReason.{HeldReason}
use Rattle.gnb_types.specs.declared.reasons.DropReason.TheVariants.{Unexpected}
use Rattle.gnb_types.specs.declared.reasons.RefuseReason.TheVariants.{Empty, NoRadio}
use Rattle.gnb_types.specs.Names.{node_text}
use Rattle.gnb_types.specs.Orders.{ue_cmp, bearer_cmp}
use Rattle.gnb_types.proofs.OrderLemmas.{ue_total}
use Rattle.tables.specs.Tables.{find, put, without}
use Rattle.tables.proofs.TableLaws.{find-put, find-without}
use Rattle.transaction_defs.specs.Callers.{close, due, Due, repeats, expires}
use Rattle.message_types.specs.declared.rrc.Token.{Token}
use Rattle.message_types.specs.declared.e1.E1Message.{E1Message}
use Rattle.message_types.specs.declared.e1.E1Message.TheVariants as e1s
use Rattle.unit_defs.specs.Ways.{Message, e1, Pdu, Taken, no, opened, closed, Input, control_input, packet_input, radio_input, confirm_input, offer_input, tick_input, order_input, Answer, gives, spent, ◌then◌, nothing, puts, drops, teids_spent}
use Rattle.unit_defs.specs.Messages.{cause_busy, cause_quota, mode_uplinks, mode_switch, mode_freeze, mode_status, mode_resume, channel, are_bearers, bearers_of, statuses_of, teid_of}
use Rattle.unit_defs.specs.Teids.{teids_are_left}
use Rattle.unit_defs.specs.Transactions.{Kind, request, reply, transfer, kind_of, no_instance, ask, advance, replied}
use Rattle.unit_defs.specs.CuUpRecords.{CuUpBearer, CuUpContext, CuUp, CuUpTunnel, cu_up_scope}
use Rattle.unit_defs.specs.CuUpBearers.{made, teids_of_bearer, with_uplink, switched, frozen_to, with_status, resumed, released, is_over, open_teids, has_downlink, framed}
use Rattle.unit_defs.specs.CuUpItems.{held_reason, took}
use Rattle.unit_defs.specs.Static.{with_downlinks, cu_up_context, cu_up_placed}
use Rattle.unit_defs.specs.CuUp.{bearers_from, bearers_made, entries_of, with_context, context_of, with_transactions, up_node, UpStep, steps, stops, step_with, each_bearer, answer_with, ended, ended_if_over, end_where_over, replies, new_context, opened_of, with_new, makes, fits, set_up_for, setup_response, setup_on, setup, modified, uplinks_from, teids_from, uplinks_given, add_uplinks, as_switched, switch, as_frozen, peer_node, statuses, freeze, as_known, status_each, take_status, as_resumed, resume, names, switch_if, freeze_if, status_if, resume_if, modify_on, as_released, released_on, release, asked, start, set_up, control_by, ue_in, is_own_cu_cp, control_received, with_bearer, taken_by, taken_in, taken_of, taken_on, take, poll_bearer, poll_on, poll, due_output, tick, cu_up_acts}
use Rattle.run_defs.specs.Runs.{plain_way}
use Rattle.proof_unit_steps.proofs.receivers.CuUps.{found_in, all_put}
use Rattle.proof_run_steps.specs.facts.Facts.{PutsFit}
use Rattle.proof_run_steps.specs.facts.UnitFacts.{as_facts, InputFits, AnswerFits}
use Rattle.proof_run_steps.proofs.facts.Fits.{puts_both, fits_if, fits_then, any_then, ask_fits, advance_fits, replied_fits, fits_request, fits_reply, due_fits}
use Rattle.law_tunnels_are_owned.proofs.link_items.Names.{IsCuUp, BearerNames, BearersName, CuUpNames, link_items, Agrees, agrees}
use Rattle.law_tunnels_are_owned.proofs.link_items.UpBearers.{framed_fits, switched_fits, frozen_fits, status_fits, resumed_fits, item_fits}

abbrev Record : Type 0
Record = CuUp (Message Token) Token

abbrev Bearers : Type 0
Bearers = List (BearerId × CuUpBearer)

-- ---- tables

module _ {X : Type 0} (Q : X → Type 0) where
  abbrev pub EachFound : List (UeId × X) → Type 0
  EachFound es = (ue : UeId) (x : X) → find ue_cmp es ue ≡ Some x → Q x

  pub found_put : (es : List (UeId × X)) (ue : UeId) (x : X) → EachFound es → Q x → EachFound (put ue_cmp es ue x)
  found_put es ue x all p u y e = by (eq_by_cmp ue_cmp u ue) (sym (find-put ue_total es ue x u) ∙ e)
    where
      by : (t : Bool) → cond t (Some x) (find ue_cmp es u) ≡ Some y → Q y
      by true h = let same : x ≡ y = cc in subst Q same p
      by false h = all u y h

  pub found_left : (es : List (UeId × X)) (ue : UeId) → EachFound es → EachFound (without ue_cmp es ue)
  found_left es ue all u y e = by (eq_by_cmp ue_cmp u ue) (sym (find-without ue_total es ue u) ∙ e)
    where
      by : (t : Bool) → cond t None (find ue_cmp es u) ≡ Some y → Q y
      by true h = absurd cc
      by false h = all u y h

abbrev IsNamed : CuUpContext → Type 0
IsNamed c = BearersName c.bearers

-- a new bearer names no node
made_name : (target : Bool) (next : ℕ) (bs : List BearerId) → BearersName (bearers_made target next bs)
unfolding made
made_name target next [] = tt
made_name target next (b ∷ bs) = ((tt, tt), made_name target (next + teids_of_bearer target) bs)

module _ (node : NodeId) (at_up : IsCuUp node) (taken : Option ℕ) where
  abbrev Fits : Answer (Message Token) Pdu Record → Type 0
  Fits a = AnswerFits link_items CuUpNames node taken a

  abbrev FitsBearer : Answer (Message Token) Pdu CuUpBearer → Type 0
  FitsBearer a = AnswerFits link_items BearerNames node taken a

  either : (t : Bool) (x y : Answer (Message Token) Pdu Record) → Fits x → Fits y → Fits (if t then x else y)
  either t x y p q = fits_if link_items node taken CuUpNames t x y p q

  after : (a : Answer (Message Token) Pdu Record) (f : Record → Answer (Message Token) Pdu Record) → Fits a → ((r : Record) → CuUpNames r → Fits (f r)) → Fits (a then f)
  after a f p q = fits_then link_items node taken CuUpNames CuUpNames a f p q

  -- nothing is put, or one output that is no item
  abbrev same : (r : Record) → CuUpNames r → CuUpNames r × PutsFit (as_facts link_items) node taken []
  same r p = (p, tt)

  replies_fit : (ch : Channel) (m : E1Message) (r : Record) → CuUpNames r → Fits (replies plain_way ch m r)
  replies_fit ch m r p =
      any_then link_items node taken CuUpNames (replied plain_way r.transactions ch (e1 m)) (λ t. nothing (with_transactions r t))
      (replied_fits link_items node taken (λ l. tt) r.transactions ch (e1 m)) (λ t. (p, tt))

  -- ---- the bearers of a context, one after another

  abbrev StepFits : UpStep plain_way → Type 0
  StepFits (steps os bearers) = BearersName bearers × PutsFit (as_facts link_items) node taken os
  StepFits (stops k) = Unit {0}

  step_fits : (bearer : BearerId) (a : Answer (Message Token) Pdu CuUpBearer) (s : UpStep plain_way) → FitsBearer a → StepFits s → StepFits (step_with plain_way bearer a s)
  step_fits bearer (gives os c) (steps more bs) p q = ((p.0, q.0), puts_both link_items node taken os more p.1 q.1)
  step_fits bearer (gives os c) (stops k) p q = tt
  step_fits bearer (spent k) s p q = tt

  each_fits : (order : BearerId → CuUpBearer → Answer (Message Token) Pdu CuUpBearer) → ((bearer : BearerId) (b : CuUpBearer) → BearerNames b → FitsBearer (order bearer b))
      → (es : Bearers) → BearersName es → StepFits (each_bearer plain_way order es)
  each_fits order each [] all = (tt, tt)
  each_fits order each (e ∷ es) all =
      step_fits e.0 (order e.0 e.1) (each_bearer plain_way order es) (each e.0 e.1 all.0) (each_fits order each es all.1)

  statuses_fit : (ue : UeId) (c : CuUpContext) (ss : List SnStatus) (es : Bearers) → BearersName es → StepFits (status_each plain_way ue c ss es)
  statuses_fit ue c [] es all = (all, tt)
  statuses_fit ue c (s ∷ ss) [] all = (tt, tt)
  statuses_fit ue c (s ∷ ss) (e ∷ es) all =
      step_fits e.0 (with_status plain_way (cu_up_scope ue c e.0) s e.1) (status_each plain_way ue c ss es) (status_fits node at_up taken (cu_up_scope ue c e.0) s e.1 all.0)
      (statuses_fit ue c ss es all.1)

  steps_fit : (r : Record) (ch : Channel) (ue : UeId) (d : CuUpContext) (s : UpStep plain_way) (m : E1Message) → CuUpNames r → StepFits s
      → Fits (answer_with plain_way r ue d s then replies plain_way ch m)
  steps_fit r ch ue d s m p fit = after (answer_with plain_way r ue d s) (replies plain_way ch m) (by s fit) (replies_fit ch m)
    where
      by : (s : UpStep plain_way) → StepFits s → Fits (answer_with plain_way r ue d s)
      by (steps os bearers) h = (found_put IsNamed r.contexts ue (record d { bearers = bearers }) p h.0, h.1)
      by (stops k) h = tt

  -- ---- a context ends

  closed_fit : (teids : List ℕ) → PutsFit (as_facts link_items) node taken (map (λ teid. closed teid) teids)
  closed_fit [] = tt
  closed_fit (teid ∷ teids) = (tt, closed_fit teids)

  closings_fit : (es : Bearers) → PutsFit (as_facts link_items) node taken (flat_map (λ e. map (λ teid. closed teid) (open_teids e.1)) es)
  closings_fit [] = tt
  closings_fit (e ∷ es) =
      puts_both link_items node taken (map (λ teid. closed teid) (open_teids e.1)) (flat_map (λ e. map (λ teid. closed teid) (open_teids e.1)) es)
      (closed_fit (open_teids e.1)) (closings_fit es)

  ended_fits : (r : Record) (ue : UeId) (c : CuUpContext) → CuUpNames r → Fits (ended plain_way r ue c)
  unfolding ended
  ended_fits r ue c p = (found_left IsNamed r.contexts ue p, closings_fit c.bearers)

  over_fits : (ue : UeId) (r : Record) → CuUpNames r → Fits (end_where_over plain_way ue r)
  unfolding end_where_over
  over_fits ue r p = by (context_of r ue)
    where
      by : (c : Option CuUpContext) → Fits (ended_if_over plain_way ue r c)
      by None = (p, tt)
      by (Some c) = either (c.flags.released && list_all (λ e. is_over c.flags e.1) c.bearers) (ended plain_way r ue c) (nothing r) (ended_fits r ue c p) (p, tt)

  released_name : (es : Bearers) → BearersName es → BearersName (map (λ e. (e.0, released e.1)) es)
  released_name [] all = tt
  released_name (e ∷ es) all = (all.0, released_name es all.1)

  released_fits : (ue : UeId) (is_final : Bool) (r : Record) → CuUpNames r → (c : Option CuUpContext) → find ue_cmp r.contexts ue ≡ c → Fits (released_on plain_way ue is_final r c)
  released_fits ue is_final r p None is = (p, tt)
  released_fits ue true r p (Some c) is = ended_fits r ue c p
  released_fits ue false r p (Some c) is =
      over_fits ue (with_context ue r (as_released plain_way c)) (found_put IsNamed r.contexts ue (as_released plain_way c) p (released_name c.bearers (p ue c is)))

  release_fits : (ch : Channel) (ue : UeId) (instance : ℕ) (is_final : Bool) (r : Record) → CuUpNames r → Fits (release plain_way ch ue instance is_final r)
  unfolding release
  release_fits ch ue instance is_final r p =
      after (replies plain_way ch (e1s.BearerContextReleaseComplete ue instance) r) (λ s. released_on plain_way ue is_final s (context_of s ue))
      (replies_fit ch (e1s.BearerContextReleaseComplete ue instance) r p) (λ s q. released_fits ue is_final s q (context_of s ue) refl)

  -- ---- Bearer Context Setup

  opens_fit : (ts : List (ℕ × CuUpTunnel)) → PutsFit (as_facts link_items) node taken (map (λ t. opened t.0) ts)
  opens_fit [] = tt
  opens_fit (t ∷ ts) = (tt, opens_fit ts)

  opened_fit : (es : Bearers) → PutsFit (as_facts link_items) node taken (flat_map (opened_of plain_way) es)
  opened_fit [] = tt
  opened_fit (e ∷ es) =
      puts_both link_items node taken (opened_of plain_way e) (flat_map (opened_of plain_way) es) (opens_fit (entries_of (record { 0 = 0 }) 0 e)) (opened_fit es)

  makes_fits : (ue : UeId) (sn : SnBits) (quota : ℕ) (target : Bool) (count : ℕ) (r : Record) → CuUpNames r → Fits (makes plain_way ue sn quota target count r)
  unfolding makes
  makes_fits ue sn quota target count r p =
      either (teids_are_left r.next_teid (count * teids_of_bearer target))
      (with_new plain_way ue r (count * teids_of_bearer target) (new_context plain_way r sn quota target count)) (spent teids_spent) (
        found_put IsNamed r.contexts ue (new_context plain_way r sn quota target count) p (made_name target r.next_teid (bearers_from 1 count)),
        opened_fit (new_context plain_way r sn quota target count).bearers,
      ) tt

  set_up_fits : (ch : Channel) (ue : UeId) (instance : ℕ) (forward : Bool) (r : Record) (c : Option CuUpContext) → CuUpNames r
      → Fits (set_up_for plain_way ch ue instance forward r c)
  set_up_fits ch ue instance forward r None p = (p, tt)
  set_up_fits ch ue instance forward r (Some c) p = replies_fit ch (setup_response plain_way ue instance forward c.bearers) r p

  setup_fits : (ch : Channel) (ue : UeId) (instance count : ℕ) (sn : SnBits) (quota : ℕ) (forward : Bool) (r : Record) → CuUpNames r → (c : Option CuUpContext)
      → Fits (setup_on plain_way ch ue instance count sn quota forward r c)
  setup_fits ch ue instance count sn quota forward r p (Some c) = replies_fit ch (e1s.BearerContextSetupFailure ue instance cause_busy) r p
  setup_fits ch ue instance count sn quota forward r p None =
      either (not (fits plain_way count quota r)) (replies plain_way ch (e1s.BearerContextSetupFailure ue instance cause_quota) r) _
      (replies_fit ch (e1s.BearerContextSetupFailure ue instance cause_quota) r p)
      (after (makes plain_way ue sn quota forward count r) (λ s. set_up_for plain_way ch ue instance forward s (context_of s ue))
      (makes_fits ue sn quota forward count r p) (λ s q. set_up_fits ch ue instance forward s (context_of s ue) q))

  -- ---- Bearer Context Modification

  uplinks_fit : (next : ℕ) (es : Bearers) → BearersName es → StepFits (uplinks_from plain_way next es)
  unfolding with_uplink
  uplinks_fit next [] all = (tt, tt)
  uplinks_fit next (e ∷ es) all =
      step_fits e.0 (with_uplink plain_way next e.1) (uplinks_from plain_way (next + 1) es) (all.0, (tt, tt)) (uplinks_fit (next + 1) es all.1)

  module _ (ch : Channel) (ue : UeId) (instance : ℕ) (r : Record) (p : CuUpNames r) where
    add_fits : (c : CuUpContext) → BearersName c.bearers → Fits (add_uplinks plain_way ch ue instance c r)
    unfolding add_uplinks
    add_fits c all =
        let tunnels : List Tunnel = teids_from plain_way r.next_teid c.bearers in
        either (not (teids_are_left r.next_teid (length c.bearers))) (spent teids_spent) _ tt
        (steps_fit (uplinks_given plain_way ue r c tunnels) ch ue c (uplinks_from plain_way r.next_teid c.bearers) (modified plain_way ue instance (Some tunnels) None) p
        (uplinks_fit r.next_teid c.bearers all))

    switch_fits : (du : Option ℕ) (list : Option (List Tunnel)) (c : CuUpContext) → BearersName c.bearers → Fits (switch_if plain_way ch ue instance du list c r)
    unfolding switch
    switch_fits (Some d) (Some list) c all =
        either (c.flags.released || not (are_bearers (names plain_way c) (bearers_of list))) (drops Unexpected r) _ (p, (tt, tt))
        (steps_fit r ch ue (as_switched plain_way c)
        (each_bearer plain_way (λ b. switched plain_way (cu_up_scope ue (as_switched plain_way c) b) (du_id r.gnb d) (teid_of list b)) c.bearers)
        (modified plain_way ue instance None None) p
        (each_fits (λ b. switched plain_way (cu_up_scope ue (as_switched plain_way c) b) (du_id r.gnb d) (teid_of list b))
        (λ b x h. switched_fits node at_up taken (cu_up_scope ue (as_switched plain_way c) b) (du_id r.gnb d) (teid_of list b) x tt) c.bearers all))
    switch_fits (Some d) None c all = (p, (tt, tt))
    switch_fits None list c all = (p, (tt, tt))

    freeze_fits : (peer : Option Peer) (a b : Option (List Tunnel)) (c : CuUpContext) → BearersName c.bearers → Fits (freeze_if plain_way ch ue instance peer a b c r)
    unfolding freeze
    freeze_fits (Some peer) (Some a) (Some b) c all =
        either (c.flags.frozen || c.flags.released || not c.flags.arrived || not (are_bearers (names plain_way c) (bearers_of a)) || not (are_bearers (names plain_way c) (bearers_of b)))
        (drops Unexpected r) _ (p, (tt, tt))
        (either (not c.flags.may_serve) (replies plain_way ch (e1s.BearerContextModificationFailure ue instance cause_busy) r) _
        (replies_fit ch (e1s.BearerContextModificationFailure ue instance cause_busy) r p)
        (steps_fit r ch ue (as_frozen plain_way c)
        (each_bearer plain_way (λ x. frozen_to plain_way (cu_up_scope ue (as_frozen plain_way c) x) (peer_node plain_way peer) (teid_of a x) (teid_of b x)) c.bearers)
        (modified plain_way ue instance None (Some (statuses plain_way c))) p
        (each_fits (λ x. frozen_to plain_way (cu_up_scope ue (as_frozen plain_way c) x) (peer_node plain_way peer) (teid_of a x) (teid_of b x))
        (λ x y h. frozen_fits node at_up taken (cu_up_scope ue (as_frozen plain_way c) x) (peer_node plain_way peer) (teid_of a x) (teid_of b x) y tt h) c.bearers all)))
    freeze_fits (Some peer) (Some a) None c all = (p, (tt, tt))
    freeze_fits (Some peer) None b c all = (p, (tt, tt))
    freeze_fits None a b c all = (p, (tt, tt))

    known_fits : (list : Option (List SnStatus)) (c : CuUpContext) → BearersName c.bearers → Fits (status_if plain_way ch ue instance list c r)
    unfolding take_status
    known_fits (Some list) c all =
        either (c.flags.may_serve || not (are_bearers (names plain_way c) (statuses_of list))) (drops Unexpected r) _ (p, (tt, tt))
        (steps_fit r ch ue (as_known plain_way c) (status_each plain_way ue (as_known plain_way c) list c.bearers) (modified plain_way ue instance None None) p
        (statuses_fit ue (as_known plain_way c) list c.bearers all))
    known_fits None c all = (p, (tt, tt))

    resume_fits : (c : CuUpContext) → BearersName c.bearers → Fits (resume_if plain_way ch ue instance c r)
    unfolding resume
    resume_fits c all =
        either (c.flags.frozen && not c.flags.released) _ (drops Unexpected r)
        (steps_fit r ch ue (as_resumed plain_way c) (each_bearer plain_way (λ b. resumed plain_way (cu_up_scope ue (as_resumed plain_way c) b)) c.bearers)
        (modified plain_way ue instance None None) p
        (each_fits (λ b. resumed plain_way (cu_up_scope ue (as_resumed plain_way c) b)) (λ b x h. resumed_fits node at_up taken (cu_up_scope ue (as_resumed plain_way c) b) x h) c.bearers all))
        (p, (tt, tt))

    modify_fits : (downlinks : Option (List Tunnel)) (mode : ℕ) (peer : Option Peer) (down up : Option (List Tunnel)) (ss : Option (List SnStatus)) (du : Option ℕ)
        (c : Option CuUpContext) → find ue_cmp r.contexts ue ≡ c
        → Fits (modify_on plain_way ch (e1s.BearerContextModificationRequest ue instance downlinks mode peer down up ss du) r c)
    modify_fits downlinks mode peer down up ss du None is = (p, (tt, tt))
    modify_fits downlinks mode peer down up ss du (Some c) is =
        let all : BearersName c.bearers = p ue c is in
        either (mode == mode_uplinks) _ _ (either c.flags.released (drops Unexpected r) (add_uplinks plain_way ch ue instance c r) (p, (tt, tt)) (add_fits c all))
        (either (mode == mode_switch) _ _ (switch_fits du downlinks c all)
        (either (mode == mode_freeze) _ _ (freeze_fits peer down up c all)
        (either (mode == mode_status) _ _ (known_fits ss c all)
        (either (mode == mode_resume) _ (drops Unexpected r) (resume_fits c all) (p, (tt, tt))))))

  -- ---- requests and replies

  asked_fits : (ch : Channel) (m : Message Token) (r : Record) → CuUpNames r → Fits (asked plain_way ch m r)
  unfolding setup
  asked_fits ch (e1 (e1s.BearerContextSetupRequest ue instance count sn quota forward)) r p =
      setup_fits ch ue instance count sn quota forward r p (context_of r ue)
  asked_fits ch (e1 (e1s.BearerContextModificationRequest ue instance downlinks mode peer down up ss du)) r p =
      modify_fits ch ue instance r p downlinks mode peer down up ss du (context_of r ue) refl
  asked_fits ch (e1 (e1s.BearerContextReleaseCommand ue instance is_final)) r p = release_fits ch ue instance is_final r p
  asked_fits ch m r p = (p, (tt, tt))

  is_set_up_fits : (ch : Channel) (r : Record) → CuUpNames r → Fits (set_up plain_way ch r)
  unfolding set_up
  is_set_up_fits ch r p =
      any_then link_items node taken CuUpNames (advance plain_way (record r.transactions { caller = close r.transactions.caller ch }) ch)
      (λ a. nothing (record r { is_set_up = true; transactions = a.transactions }))
      (advance_fits link_items node taken (λ l. tt) (record r.transactions { caller = close r.transactions.caller ch }) ch) (λ a. (p, tt))

  control_by_fits : (ch : Channel) (m : Message Token) (r : Record) (k : Kind) → CuUpNames r → Fits (control_by plain_way ch m r k)
  control_by_fits ch m r (request ue i) p =
      fits_request link_items node taken (λ l. tt) CuUpNames r r.transactions ch i (λ t. asked plain_way ch m (with_transactions r t)) p
      (λ t. asked_fits ch m (with_transactions r t) p)
  control_by_fits ch m r (reply ue i) p =
      fits_reply link_items node taken (λ l. tt) CuUpNames r r.transactions ch i (set_up plain_way ch r) p (is_set_up_fits ch r p)
  control_by_fits ch m r (transfer ue) p = (p, (tt, tt))

  control_fits : (from : NodeId) (m : Message Token) (r : Record) → CuUpNames r → Fits (control_received plain_way from m r)
  unfolding control_received
  control_fits from m r p =
      either (is_own_cu_cp plain_way r.gnb from) (control_by plain_way (channel (ue_in plain_way (kind_of m)) from) m r (kind_of m)) (drops Unexpected r)
      (control_by_fits (channel (ue_in plain_way (kind_of m)) from) m r (kind_of m) p) (p, (tt, tt))

  -- ---- items, polls, ticks

  bearer_fits : (r : Record) (ue : UeId) (c : CuUpContext) (bearer : BearerId) (a : Answer (Message Token) Pdu CuUpBearer) → CuUpNames r → BearersName c.bearers → FitsBearer a
      → Fits (with_bearer plain_way r ue c bearer a)
  bearer_fits r ue c bearer (gives os b) p all h =
      (found_put IsNamed r.contexts ue (record c { bearers = put bearer_cmp c.bearers bearer b }) p (all_put BearerNames c.bearers bearer b all h.0), h.1)
  bearer_fits r ue c bearer (spent k) p all h = tt

  module _ (r : Record) (p : CuUpNames r) where
    taken_fits : (t : CuUpTunnel) (teid : ℕ) (item : Taken Pdu) (c : CuUpContext) (b : CuUpBearer) → Agrees taken item → BearersName c.bearers → BearerNames b
        → (reason : Option HeldReason) → Fits (taken_by plain_way r t teid item c b reason)
    taken_fits t teid item c b same all is (Some reason) = (p, (tt, tt))
    taken_fits t teid item c b same all is None =
        after (with_bearer plain_way r t.ue c t.bearer (took plain_way (cu_up_scope t.ue c t.bearer) t.kind teid item b)) (end_where_over plain_way t.ue)
        (bearer_fits r t.ue c t.bearer (took plain_way (cu_up_scope t.ue c t.bearer) t.kind teid item b) p all
        (item_fits node at_up taken (cu_up_scope t.ue c t.bearer) t.kind teid item b same is)) (over_fits t.ue)

    take_fits : (teid : ℕ) (item : Taken Pdu) → Agrees taken item → Fits (take plain_way teid item r)
    unfolding take
    take_fits teid item same = by (find nat_cmp r.tunnels teid)
      where
        in_bearer : (t : CuUpTunnel) (c : CuUpContext) → BearersName c.bearers → (b : Option CuUpBearer) → find bearer_cmp c.bearers t.bearer ≡ b
            → Fits (taken_in plain_way r t teid item c b)
        in_bearer t c all None is = (p, (tt, tt))
        in_bearer t c all (Some b) is =
            taken_fits t teid item c b same all (found_in BearerNames c.bearers t.bearer b all is) (held_reason (cu_up_scope t.ue c t.bearer) b t.kind item)

        in_context : (t : CuUpTunnel) (c : Option CuUpContext) → find ue_cmp r.contexts t.ue ≡ c → Fits (taken_of plain_way r t teid item c)
        in_context t None is = (p, (tt, tt))
        in_context t (Some c) is = in_bearer t c (p t.ue c is) (find bearer_cmp c.bearers t.bearer) refl

        by : (t : Option CuUpTunnel) → Fits (taken_on plain_way r teid item t)
        by None = (p, (tt, tt))
        by (Some t) = in_context t (context_of r t.ue) refl

    poll_fits : (ue : UeId) (bearer : BearerId) → Fits (poll plain_way ue bearer r)
    unfolding poll
    poll_fits ue bearer = by (context_of r ue) refl
      where
        in_bearer : (c : CuUpContext) → BearersName c.bearers → (b : Option CuUpBearer) → find bearer_cmp c.bearers bearer ≡ b → Fits (poll_bearer plain_way r ue c bearer b)
        in_bearer c all None is = (p, (tt, tt))
        in_bearer c all (Some b) is =
            either (length b.sender.unconfirmed == 0) (puts (no Empty) r) _ (p, (tt, tt))
            (either (c.flags.frozen || not (has_downlink b.downlink)) (puts (no NoRadio) r) _ (p, (tt, tt))
            (bearer_fits r ue c bearer (framed plain_way (cu_up_scope ue c bearer) true false None Absent b) p all
            (framed_fits node at_up taken (cu_up_scope ue c bearer) true false None Absent b (refl, refl) refl (found_in BearerNames c.bearers bearer b all is))))

        by : (c : Option CuUpContext) → find ue_cmp r.contexts ue ≡ c → Fits (poll_on plain_way r ue bearer c)
        by None is = (p, (tt, tt))
        by (Some c) is = in_bearer c (p ue c is) (find bearer_cmp c.bearers bearer) refl

  start_fits : (r : Record) → CuUpNames r → Fits (start plain_way r)
  unfolding start
  start_fits r p =
      either r.is_set_up (nothing r) _ (p, tt)
      (any_then link_items node taken CuUpNames (ask plain_way r.transactions (channel 0 (CuCp r.gnb))
      (record { message = e1 (e1s.E1SetupRequest no_instance (node_text (up_node r))); deadline = None; awaited = false }))
      (λ a. nothing (with_transactions r a.transactions)) (ask_fits link_items node taken (λ l. tt) r.transactions (channel 0 (CuCp r.gnb)) _) (λ a. (p, tt)))

  due_one : (d : Due (Message Token)) → PutsFit (as_facts link_items) node taken (due_output plain_way d)
  due_one (repeats ch m) = (tt, tt)
  due_one (expires ch) = tt

  tick_fits : (r : Record) → CuUpNames r → Fits (tick plain_way r)
  unfolding tick
  tick_fits r p = (p, due_fits link_items node taken (λ l. tt) (due_output plain_way) due_one (due r.transactions.caller))

  pub cu_up_fits : (r : Record) (input : Input Token Pdu) → CuUpNames r → InputFits link_items node taken input → Fits (cu_up_acts plain_way r input)
  unfolding cu_up_acts
  cu_up_fits r (control_input from m) p fit = control_fits from m r p
  cu_up_fits r (packet_input teid item) p fit = take_fits r p teid item (agrees taken item fit.0 fit.1 fit.2.1.0)
  cu_up_fits r (radio_input ue bearer dir pdu content) p fit = (p, (tt, tt))
  cu_up_fits r (confirm_input ue bearer dir pdu content) p fit = (p, (tt, tt))
  cu_up_fits r (offer_input ue bearer x) p fit = (p, (tt, tt))
  cu_up_fits r tick_input p fit = tick_fits r p
  cu_up_fits r (order_input orders.Start) p fit = start_fits r p
  cu_up_fits r (order_input (orders.Poll ue bearer)) p fit = poll_fits r p ue bearer
  cu_up_fits r (order_input order) p fit = (p, (tt, tt))

-- ---- a terminal that is set up without messages

down_name : (gnb : Gnb) (du next : ℕ) (es : Bearers) → BearersName es → BearersName (with_downlinks gnb du next es)
down_name gnb du next [] all = tt
down_name gnb du next (e ∷ es) all = ((tt, all.0.1), down_name gnb du (next + 1) es all.1)

pub placed_names : (r : Record) (plan : Plan) (downlink : ℕ) → CuUpNames r → CuUpNames (cu_up_placed r plan downlink)
unfolding cu_up_placed
placed_names r plan downlink p =
    found_put IsNamed r.contexts plan.ue (cu_up_context r plan downlink) p
    (down_name r.gnb plan.du downlink (bearers_made false r.next_teid (bearers_from 1 plan.bearers)) (made_name false r.next_teid (bearers_from 1 plan.bearers)))

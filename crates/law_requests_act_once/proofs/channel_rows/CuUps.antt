-- A CU-UP: contexts are set up, modified and released on requests, each answered once at most; other inputs leave them.
use Rattle.std.proofs.Common.{inl, inr, ◌≡◌, ℕ, ◌+◌, ◌*◌, Bool, true, false, not, ◌&&◌, ◌||◌, List, [], ◌∷◌, ◌++◌, length, Option, Some, None, refl, sym, ◌∙◌, subst}
use Rattle.std.specs.Prelude.{map, if◌then◌else◌, ◌==◌}
use Rattle.std.specs.List.{flat_map, list_all}
use Rattle.std.specs.Ordering.{nat_cmp}
use Rattle.gnb_types.specs.declared.names.NodeId.{NodeId}
use Rattle.gnb_types.specs.declared.names.NodeId.TheVariants.{CuCp, Du as du_id}
use Rattle.gnb_types.specs.declared.names.UeId.{UeId}
use Rattle.gnb_types.specs.declared.names.BearerId.{BearerId}
use Rattle.gnb_types.specs.declared.names.SnBits.{SnBits}
use Rattle.gnb_types.specs.declared.keys.Channel.{Channel}
use Rattle.gnb_types.specs.declared.plans.Peer.{Peer}
use Rattle.gnb_types.specs.declared.plans.Tunnel.{Tunnel}
use Rattle.gnb_types.specs.declared.plans.SnStatus.{SnStatus}
use Rattle.gnb_types.specs.declared.inputs.Order.TheVariants as orders
use Rattle.gnb_types.specs.declared.outputs.Tag.TheVariants.{Absent}
use Rattle.gnb_types.specs.declared.reasons.HeldReason.{HeldReason}
use Rattle.gnb_types.specs.declared.reasons.DropReason.TheVariants.{Unexpected}
use Rattle.gnb_types.specs.declared.reasons.RefuseReason.TheVariants.{Empty, NoRadio}
use Rattle.gnb_types.specs.Names.{node_text}
use Rattle.gnb_types.specs.Orders.{bearer_cmp, channel_cmp}
use Rattle.tables.specs.Tables.{find, IsSorted}
use Rattle.transaction_defs.specs.Callers.{due, after_tick}
use Rattle.transaction_defs.specs.Callees.{taken}
use Rattle.message_types.specs.declared.e1.E1Message.{E1Message}
use Rattle.message_types.specs.declared.e1.E1Message.TheVariants as e1s
use Rattle.unit_defs.specs.Ways.{Message, e1, Taken, opened, closed, no, Input, control_input, packet_input, tick_input, order_input, Answer, gives, spent, ◌then◌, nothing, puts, drops, teids_spent}
use Rattle.unit_defs.specs.Messages.{cause_busy, cause_quota, mode_uplinks, mode_switch, mode_freeze, mode_status, mode_resume, channel, are_bearers, bearers_of, statuses_of, teid_of}
use Rattle.unit_defs.specs.Teids.{teids_are_left}
use Rattle.unit_defs.specs.Transactions.{Kind, request, reply, transfer, kind_of, with_instance, no_instance, Waiting, Transactions, waits_at, ask, on_request}
use Rattle.unit_defs.specs.CuUpRecords.{CuUpBearer, CuUpContext, CuUp, CuUpTunnel, cu_up_scope}
use Rattle.unit_defs.specs.CuUpBearers.{teids_of_bearer, with_uplink, switched, frozen_to, with_status, resumed, is_over, open_teids, has_downlink, framed}
use Rattle.unit_defs.specs.CuUpItems.{held_reason, took}
use Rattle.unit_defs.specs.CuUp.{with_context, context_of, with_transactions, up_node, UpStep, steps, stops, step_with, each_bearer, answer_with, ended, ended_if_over, end_where_over, replies, opened_of, entries_of, new_context, with_new, makes, fits, set_up_for, setup_response, setup_on, setup, modified, uplinks_from, teids_from, uplinks_given, add_uplinks, as_switched, switch, as_frozen, peer_node, statuses, freeze, as_known, status_each, take_status, as_resumed, resume, names, uplinks_if, switch_if, freeze_if, status_if, resume_if, modify_on, as_released, released_on, release, asked, start, set_up, control_by, ue_in, is_own_cu_cp, control_received, with_bearer, taken_by, taken_in, taken_of, taken_on, take, poll_bearer, poll_on, poll, due_output, tick, cu_up_acts}
use Rattle.law_requests_act_once.specs.channel.Replies.{Talk, answers}
use Rattle.law_requests_act_once.specs.channel.Moves.{asks, ages, Net, sent_by}
use Rattle.law_requests_act_once.proofs.channel.Nets.{Good}
use Rattle.law_requests_act_once.specs.channel_rows.IsPlayed.{ReadsWell, AreUndated, NoneDue, IsPlayed, IsPlayedWhole, WasSent, IsPutTo, NoneExpired}
use Rattle.law_requests_act_once.proofs.channel_rows.Tickless.{whole}
use Rattle.law_requests_act_once.proofs.channel_rows.Undated.{After, ticked_undated, ask_undated, asked_then, reply_undated, request_undated}
use Rattle.law_requests_act_once.proofs.channel_rows.Requests.{sent_both, Leaves, Replies, leaves_then, leaves_replies, replies_then, replies_here, request_made, leaves_made, drops_made}
use Rattle.law_requests_act_once.proofs.channel_rows.Askers.{one_made, reply_made}
use Rattle.law_requests_act_once.proofs.channel_rows.Ticks.{moves_due, tick_none, tick_plays}
use Rattle.law_requests_act_once.proofs.channel_rows.Bearers.{Quiet, poll_quiet, uplink_quiet, switched_quiet, frozen_quiet, status_quiet, resumed_quiet, took_quiet}

module _ {M C P : Type 0} (talk : Talk M C P) (n : NodeId) where
  abbrev pub kept : CuUp M C → Transactions M C
  kept r = r.transactions

  -- ---- the bearers of a context, one after another

  abbrev QuietStep : UpStep talk.way → Type 0
  QuietStep (steps os bearers) = sent_by n os ≡ []
  QuietStep (stops k) = Unit {0}

  step_quiet : (bearer : BearerId) (a : Answer M P CuUpBearer) (s : UpStep talk.way) → Quiet talk.way n a → QuietStep s → QuietStep (step_with talk.way bearer a s)
  step_quiet bearer (gives os b) (steps more bs) p q = sent_both n os more ∙ (λ i. p i ++ q i)
  step_quiet bearer (gives os b) (stops k) p q = tt
  step_quiet bearer (spent k) s p q = tt

  each_quiet : (order : BearerId → CuUpBearer → Answer M P CuUpBearer) → ((bearer : BearerId) (b : CuUpBearer) → Quiet talk.way n (order bearer b))
      → (es : List (BearerId × CuUpBearer)) → QuietStep (each_bearer talk.way order es)
  each_quiet order each [] = refl
  each_quiet order each (e ∷ es) = step_quiet e.0 (order e.0 e.1) (each_bearer talk.way order es) (each e.0 e.1) (each_quiet order each es)

  uplinks_quiet : (next : ℕ) (es : List (BearerId × CuUpBearer)) → QuietStep (uplinks_from talk.way next es)
  uplinks_quiet next [] = refl
  uplinks_quiet next (e ∷ es) =
      step_quiet e.0 (with_uplink talk.way next e.1) (uplinks_from talk.way (next + 1) es) (uplink_quiet talk.way n next e.1) (uplinks_quiet (next + 1) es)

  statuses_quiet : (ue : UeId) (c : CuUpContext) (ss : List SnStatus) (es : List (BearerId × CuUpBearer)) → QuietStep (status_each talk.way ue c ss es)
  statuses_quiet ue c [] es = refl
  statuses_quiet ue c (s ∷ ss) [] = refl
  statuses_quiet ue c (s ∷ ss) (e ∷ es) =
      step_quiet e.0 (with_status talk.way (cu_up_scope ue c e.0) s e.1) (status_each talk.way ue c ss es) (status_quiet talk.way n (cu_up_scope ue c e.0) s e.1)
      (statuses_quiet ue c ss es)

  answer_leaves : (t : Transactions M C) (r : CuUp M C) (ue : UeId) (c : CuUpContext) (s : UpStep talk.way) → r.transactions ≡ t → QuietStep s
      → Leaves talk n kept t (answer_with talk.way r ue c s)
  answer_leaves t r ue c (steps os bearers) at quiet = (quiet, at)
  answer_leaves t r ue c (stops k) at quiet = tt

  -- ---- replies

  module _ (t : Transactions M C) (ch : Channel) (m : Message C) (i : ℕ) where
    last_replies : (answer : E1Message) (r : CuUp M C) → r.transactions ≡ t → kind_of {C = C} (e1 answer) ≡ reply ch.ue i → answers m (e1 answer) ≡ true
        → Replies talk n kept t ch m i (replies talk.way ch answer r)
    last_replies answer r at kind fits =
        subst (λ (u : Transactions M C). Replies talk n kept u ch m i (replies talk.way ch answer r)) at
        (replies_here talk n kept r.transactions ch m i (e1 answer) (λ u. nothing (with_transactions r u)) kind fits (λ u. (refl, refl)))

    step_replies : (r : CuUp M C) (ue : UeId) (c : CuUpContext) (s : UpStep talk.way) (answer : E1Message) → r.transactions ≡ t → QuietStep s
        → kind_of {C = C} (e1 answer) ≡ reply ch.ue i → answers m (e1 answer) ≡ true
        → Replies talk n kept t ch m i (answer_with talk.way r ue c s then replies talk.way ch answer)
    step_replies r ue c s answer at quiet kind fits =
        leaves_replies talk n kept kept t ch m i (answer_with talk.way r ue c s) (replies talk.way ch answer) (answer_leaves t r ue c s at quiet)
        (λ q e. last_replies answer q e kind fits)

    replies_if : (b : Bool) (x y : Answer M P (CuUp M C)) → Replies talk n kept t ch m i x → Replies talk n kept t ch m i y
        → Replies talk n kept t ch m i (if b then x else y)
    replies_if true x y p q = p
    replies_if false x y p q = q

    drops_replies : (r : CuUp M C) → r.transactions ≡ t → Replies talk n kept t ch m i (drops Unexpected r)
    drops_replies r at = inl (refl, at)

  -- ---- a context ends

  no_closed : (teids : List ℕ) → sent_by {M = M} {P = P} n (map (λ teid. closed teid) teids) ≡ []
  no_closed [] = refl
  no_closed (t ∷ ts) = no_closed ts

  no_closings : (es : List (BearerId × CuUpBearer)) → sent_by {M = M} {P = P} n (flat_map (λ e. map (λ teid. closed teid) (open_teids e.1)) es) ≡ []
  no_closings [] = refl
  no_closings (e ∷ es) =
      sent_both n (map (λ teid. closed teid) (open_teids e.1)) (flat_map (λ e. map (λ teid. closed teid) (open_teids e.1)) es)
      ∙ (λ i. no_closed (open_teids e.1) i ++ no_closings es i)

  ended_leaves : (r : CuUp M C) (ue : UeId) (c : CuUpContext) → Leaves talk n kept r.transactions (ended talk.way r ue c)
  unfolding ended
  ended_leaves r ue c = (no_closings c.bearers, refl)

  over_leaves : (ue : UeId) (r : CuUp M C) → Leaves talk n kept r.transactions (end_where_over talk.way ue r)
  unfolding end_where_over
  over_leaves ue r = by (context_of r ue)
    where
      go : (c : CuUpContext) (b : Bool) → Leaves talk n kept r.transactions (if b then ended talk.way r ue c else nothing r)
      go c true = ended_leaves r ue c
      go c false = (refl, refl)

      by : (c : Option CuUpContext) → Leaves talk n kept r.transactions (ended_if_over talk.way ue r c)
      by None = (refl, refl)
      by (Some c) = go c (c.flags.released && list_all (λ e. is_over c.flags e.1) c.bearers)

  released_leaves : (ue : UeId) (is_final : Bool) (r : CuUp M C) (c : Option CuUpContext)
      → Leaves talk n kept r.transactions (released_on talk.way ue is_final r c)
  released_leaves ue is_final r None = (refl, refl)
  released_leaves ue true r (Some c) = ended_leaves r ue c
  released_leaves ue false r (Some c) = over_leaves ue (with_context ue r (as_released talk.way c))

  -- ---- Bearer Context Setup

  no_entries : (e : BearerId × CuUpBearer) → sent_by {M = M} {P = P} n (opened_of talk.way e) ≡ []
  no_entries e = each (entries_of (record { 0 = 0 }) 0 e)
    where
      each : (ts : List (ℕ × CuUpTunnel)) → sent_by {M = M} {P = P} n (map (λ t. opened t.0) ts) ≡ []
      each [] = refl
      each (t ∷ ts) = each ts

  no_openings : (es : List (BearerId × CuUpBearer)) → sent_by {M = M} {P = P} n (flat_map (opened_of talk.way) es) ≡ []
  no_openings [] = refl
  no_openings (e ∷ es) = sent_both n (opened_of talk.way e) (flat_map (opened_of talk.way) es) ∙ (λ i. no_entries e i ++ no_openings es i)

  makes_leaves : (t : Transactions M C) (ue : UeId) (sn : SnBits) (quota : ℕ) (target : Bool) (count : ℕ) (r : CuUp M C) → r.transactions ≡ t
      → Leaves talk n kept t (makes talk.way ue sn quota target count r)
  unfolding makes
  makes_leaves t ue sn quota target count r at = by (teids_are_left r.next_teid (count * teids_of_bearer target))
    where
      by : (b : Bool) → Leaves talk n kept t
          (if b then with_new talk.way ue r (count * teids_of_bearer target) (new_context talk.way r sn quota target count) else spent teids_spent)
      by true = (no_openings (new_context talk.way r sn quota target count).bearers, at)
      by false = tt

  module _ (r : CuUp M C) (from : NodeId) (owner : UeId) (instance ue i : ℕ) (own : owner.0 ≡ ue) (same : instance ≡ i) where
    abbrev here : Channel
    here = channel ue from

    reply_kind : reply owner.0 instance ≡ reply ue i
    reply_kind = λ j. reply (own j) (same j)

    setup_replies : (t : Transactions M C) (count : ℕ) (sn : SnBits) (quota : ℕ) (forward : Bool) (q : CuUp M C) → q.transactions ≡ t → (c : Option CuUpContext)
        → Replies talk n kept t here (e1 (e1s.BearerContextSetupRequest owner instance count sn quota forward)) i
        (setup_on talk.way here owner instance count sn quota forward q c)
    unfolding kind_of
    setup_replies t count sn quota forward q at (Some c) =
        last_replies t here (e1 (e1s.BearerContextSetupRequest owner instance count sn quota forward)) i
        (e1s.BearerContextSetupFailure owner instance cause_busy) q at reply_kind refl
    setup_replies t count sn quota forward q at None =
        replies_if t here (e1 (e1s.BearerContextSetupRequest owner instance count sn quota forward)) i (not (fits talk.way count quota q)) _ _
        (last_replies t here (e1 (e1s.BearerContextSetupRequest owner instance count sn quota forward)) i
        (e1s.BearerContextSetupFailure owner instance cause_quota) q at reply_kind refl)
        (leaves_replies talk n kept kept t here (e1 (e1s.BearerContextSetupRequest owner instance count sn quota forward)) i
        (makes talk.way owner sn quota forward count q) (λ s. set_up_for talk.way here owner instance forward s (context_of s owner))
        (makes_leaves t owner sn quota forward count q at) (λ s e. set_up_replies s e (context_of s owner)))
      where
        set_up_replies : (s : CuUp M C) → s.transactions ≡ t → (c : Option CuUpContext)
            → Replies talk n kept t here (e1 (e1s.BearerContextSetupRequest owner instance count sn quota forward)) i
            (set_up_for talk.way here owner instance forward s c)
        set_up_replies s e None = inl (refl, e)
        set_up_replies s e (Some c) =
            last_replies t here (e1 (e1s.BearerContextSetupRequest owner instance count sn quota forward)) i
            (setup_response talk.way owner instance forward c.bearers) s e reply_kind refl

    -- ---- Bearer Context Modification

    module _ (t : Transactions M C) (downlinks : Option (List Tunnel)) (mode : ℕ) (peer : Option Peer) (down up : Option (List Tunnel))
        (ss : Option (List SnStatus)) (du : Option ℕ) (q : CuUp M C) (at : q.transactions ≡ t) where
      abbrev asks_for : Message C
      asks_for = e1 (e1s.BearerContextModificationRequest owner instance downlinks mode peer down up ss du)

      abbrev KeepsInvariant : Answer M P (CuUp M C) → Type 0
      KeepsInvariant a = Replies talk n kept t here asks_for i a

      done_replies : (s : CuUp M C) → s.transactions ≡ t → (c : CuUpContext) (step : UpStep talk.way) → QuietStep step
          → (uplinks : Option (List Tunnel)) (statuses : Option (List SnStatus))
          → KeepsInvariant (answer_with talk.way s owner c step then replies talk.way here (modified talk.way owner instance uplinks statuses))
      unfolding kind_of
      done_replies s e c step quiet uplinks statuses =
          step_replies t here asks_for i s owner c step (modified talk.way owner instance uplinks statuses) e quiet reply_kind refl

      refused_replies : KeepsInvariant (replies talk.way here (e1s.BearerContextModificationFailure owner instance cause_busy) q)
      unfolding kind_of
      refused_replies = last_replies t here asks_for i (e1s.BearerContextModificationFailure owner instance cause_busy) q at reply_kind refl

      drop : KeepsInvariant (drops Unexpected q)
      drop = drops_replies t here asks_for i q at

      choose : (b : Bool) (x y : Answer M P (CuUp M C)) → KeepsInvariant x → KeepsInvariant y → KeepsInvariant (if b then x else y)
      choose = replies_if t here asks_for i

      uplinks_fine : (c : CuUpContext) → KeepsInvariant (uplinks_if talk.way here owner instance c q)
      unfolding add_uplinks
      uplinks_fine c =
          choose c.flags.released (drops Unexpected q) _ drop
          (choose (not (teids_are_left q.next_teid (length c.bearers))) (spent teids_spent) _ tt
          (done_replies (uplinks_given talk.way owner q c (teids_from talk.way q.next_teid c.bearers)) at c (uplinks_from talk.way q.next_teid c.bearers)
          (uplinks_quiet q.next_teid c.bearers) (Some (teids_from talk.way q.next_teid c.bearers)) None))

      switch_fine : (d : Option ℕ) (list : Option (List Tunnel)) (c : CuUpContext) → KeepsInvariant (switch_if talk.way here owner instance d list c q)
      unfolding switch
      switch_fine (Some d) (Some list) c =
          choose (c.flags.released || not (are_bearers (names talk.way c) (bearers_of list))) (drops Unexpected q) _ drop
          (done_replies q at (as_switched talk.way c)
          (each_bearer talk.way (λ b. switched talk.way (cu_up_scope owner (as_switched talk.way c) b) (du_id q.gnb d) (teid_of list b)) c.bearers)
          (each_quiet (λ b. switched talk.way (cu_up_scope owner (as_switched talk.way c) b) (du_id q.gnb d) (teid_of list b))
          (λ b x. switched_quiet talk.way n (cu_up_scope owner (as_switched talk.way c) b) (du_id q.gnb d) (teid_of list b) x) c.bearers) None None)
      switch_fine (Some d) None c = drop
      switch_fine None list c = drop

      freeze_fine : (p : Option Peer) (a b : Option (List Tunnel)) (c : CuUpContext) → KeepsInvariant (freeze_if talk.way here owner instance p a b c q)
      unfolding freeze
      freeze_fine (Some p) (Some a) (Some b) c =
          choose (c.flags.frozen || c.flags.released || not c.flags.arrived || not (are_bearers (names talk.way c) (bearers_of a)) || not (are_bearers (names talk.way c) (bearers_of b)))
          (drops Unexpected q) _ drop
          (choose (not c.flags.may_serve) _ _ refused_replies
          (done_replies q at (as_frozen talk.way c)
          (each_bearer talk.way (λ x. frozen_to talk.way (cu_up_scope owner (as_frozen talk.way c) x) (peer_node talk.way p) (teid_of a x) (teid_of b x)) c.bearers)
          (each_quiet (λ x. frozen_to talk.way (cu_up_scope owner (as_frozen talk.way c) x) (peer_node talk.way p) (teid_of a x) (teid_of b x))
          (λ x y. frozen_quiet talk.way n (cu_up_scope owner (as_frozen talk.way c) x) (peer_node talk.way p) (teid_of a x) (teid_of b x) y) c.bearers)
          None (Some (statuses talk.way c))))
      freeze_fine (Some p) (Some a) None c = drop
      freeze_fine (Some p) None b c = drop
      freeze_fine None a b c = drop

      status_fine : (list : Option (List SnStatus)) (c : CuUpContext) → KeepsInvariant (status_if talk.way here owner instance list c q)
      unfolding take_status
      status_fine (Some list) c =
          choose (c.flags.may_serve || not (are_bearers (names talk.way c) (statuses_of list))) (drops Unexpected q) _ drop
          (done_replies q at (as_known talk.way c) (status_each talk.way owner (as_known talk.way c) list c.bearers)
          (statuses_quiet owner (as_known talk.way c) list c.bearers) None None)
      status_fine None c = drop

      resume_fine : (c : CuUpContext) → KeepsInvariant (resume_if talk.way here owner instance c q)
      unfolding resume
      resume_fine c =
          choose (c.flags.frozen && not c.flags.released) _ (drops Unexpected q)
          (done_replies q at (as_resumed talk.way c)
          (each_bearer talk.way (λ b. resumed talk.way (cu_up_scope owner (as_resumed talk.way c) b)) c.bearers)
          (each_quiet (λ b. resumed talk.way (cu_up_scope owner (as_resumed talk.way c) b))
          (λ b x. resumed_quiet talk.way n (cu_up_scope owner (as_resumed talk.way c) b) x) c.bearers) None None)
          drop

      modify_fine : (c : Option CuUpContext) → KeepsInvariant (modify_on talk.way here (e1s.BearerContextModificationRequest owner instance downlinks mode peer down up ss du) q c)
      modify_fine None = inl (refl, at)
      modify_fine (Some c) =
          choose (mode == mode_uplinks) _ _ (uplinks_fine c)
          (choose (mode == mode_switch) _ _ (switch_fine du downlinks c)
          (choose (mode == mode_freeze) _ _ (freeze_fine peer down up c)
          (choose (mode == mode_status) _ _ (status_fine ss c)
          (choose (mode == mode_resume) _ _ (resume_fine c) drop))))

    -- ---- Bearer Context Release

    release_replies : (t : Transactions M C) (is_final : Bool) (q : CuUp M C) → q.transactions ≡ t
        → Replies talk n kept t here (e1 (e1s.BearerContextReleaseCommand owner instance is_final)) i (release talk.way here owner instance is_final q)
    unfolding kind_of release
    release_replies t is_final q at =
        replies_then talk n kept kept t here (e1 (e1s.BearerContextReleaseCommand owner instance is_final)) i
        (replies talk.way here (e1s.BearerContextReleaseComplete owner instance) q)
        (λ s. released_on talk.way owner is_final s (context_of s owner))
        (last_replies t here (e1 (e1s.BearerContextReleaseCommand owner instance is_final)) i (e1s.BearerContextReleaseComplete owner instance) q at reply_kind refl)
        (λ s. released_leaves owner is_final s (context_of s owner))

  pub asked_replies : (r : CuUp M C) (t : Transactions M C) (from : NodeId) (m : Message C) (ue i : ℕ) → kind_of m ≡ request ue i
      → Replies talk n kept t (channel ue from) m i (asked talk.way (channel ue from) m (with_transactions r t))
  unfolding kind_of setup
  asked_replies r t from (e1 (e1s.BearerContextSetupRequest owner instance count sn quota forward)) ue i is =
      let a : owner.0 ≡ ue = cc in
      let b : instance ≡ i = cc in
      setup_replies r from owner instance ue i a b t count sn quota forward (with_transactions r t) refl (context_of r owner)
  asked_replies r t from (e1 (e1s.BearerContextModificationRequest owner instance downlinks mode peer down up ss du)) ue i is =
      let a : owner.0 ≡ ue = cc in
      let b : instance ≡ i = cc in
      modify_fine r from owner instance ue i a b t downlinks mode peer down up ss du (with_transactions r t) refl (context_of r owner)
  asked_replies r t from (e1 (e1s.BearerContextReleaseCommand owner instance is_final)) ue i is =
      let a : owner.0 ≡ ue = cc in
      let b : instance ≡ i = cc in
      release_replies r from owner instance ue i a b t is_final (with_transactions r t) refl
  asked_replies r t from m ue i is = inl (refl, refl)

  -- ---- a control message

  no_move : (net : Net M C) (r : CuUp M C) (a : Answer M P (CuUp M C)) → net.nodes n ≡ r.transactions → Leaves talk n kept r.transactions a → IsPlayed talk net n kept a
  no_move net r a at leaves = leaves_made talk n net kept a (subst (λ (t : Transactions M C). Leaves talk n kept t a) (sym at) leaves)

  control_by_made : (reads : ReadsWell talk) (net : Net M C) → Good talk net → (r : CuUp M C) → net.nodes n ≡ r.transactions
      → (from : NodeId) (m : Message C) → WasSent talk net from n m → (k : Kind) → kind_of m ≡ k
      → IsPlayed talk net n kept (control_by talk.way (channel (ue_in talk.way k) from) m r k)
  unfolding set_up
  control_by_made reads net good r at from m sent (request ue i) is =
      subst (λ (t : Transactions M C). IsPlayed talk net n kept
      (on_request talk.way r t (channel ue from) i (λ u. asked talk.way (channel ue from) m (with_transactions r u)))) at
      (request_made talk n reads net (channel ue from) m i (sent.0, sent.1, reads.kinds m ∙ is) kept r
      (λ u. asked talk.way (channel ue from) m (with_transactions r u)) at
      (asked_replies r (record (net.nodes n) { callee = taken (net.nodes n).callee (channel ue from) i }) from m ue i is))
  control_by_made reads net good r at from m sent (reply ue i) is =
      reply_made talk n net good kept r.transactions at (channel ue from) i (talk.way.encode m) (sent.0, sent.1, reads.kinds m ∙ is) r refl
      (λ a. record r { is_set_up = true; transactions = a.transactions }) (λ a. refl)
  control_by_made reads net good r at from m sent (transfer ue) is = drops_made talk n net kept r Unexpected at

  control_made : (reads : ReadsWell talk) (net : Net M C) → Good talk net → (r : CuUp M C) → net.nodes n ≡ r.transactions
      → (from : NodeId) (m : Message C) → WasSent talk net from n m → IsPlayed talk net n kept (control_received talk.way from m r)
  unfolding control_received
  control_made reads net good r at from m sent = by (is_own_cu_cp talk.way r.gnb from)
    where
      by : (b : Bool) → IsPlayed talk net n kept
          (if b then control_by talk.way (channel (ue_in talk.way (kind_of m)) from) m r (kind_of m) else drops Unexpected r)
      by true = control_by_made reads net good r at from m sent (kind_of m) refl
      by false = drops_made talk n net kept r Unexpected at

  -- ---- packets and polls

  bearer_leaves : (r : CuUp M C) (ue : UeId) (c : CuUpContext) (bearer : BearerId) (a : Answer M P CuUpBearer) → Quiet talk.way n a
      → Leaves talk n kept r.transactions (with_bearer talk.way r ue c bearer a)
  bearer_leaves r ue c bearer (gives os b) quiet = (quiet, refl)
  bearer_leaves r ue c bearer (spent k) quiet = tt

  taken_leaves : (r : CuUp M C) (t : CuUpTunnel) (teid : ℕ) (item : Taken P) (c : CuUpContext) (b : CuUpBearer) (reason : Option HeldReason)
      → Leaves talk n kept r.transactions (taken_by talk.way r t teid item c b reason)
  taken_leaves r t teid item c b (Some reason) = (refl, refl)
  taken_leaves r t teid item c b None =
      leaves_then talk n kept kept r.transactions (with_bearer talk.way r t.ue c t.bearer (took talk.way (cu_up_scope t.ue c t.bearer) t.kind teid item b))
      (end_where_over talk.way t.ue)
      (bearer_leaves r t.ue c t.bearer (took talk.way (cu_up_scope t.ue c t.bearer) t.kind teid item b) (took_quiet talk.way n (cu_up_scope t.ue c t.bearer) t.kind teid item b))
      (λ s e. subst (λ (u : Transactions M C). Leaves talk n kept u (end_where_over talk.way t.ue s)) e (over_leaves t.ue s))

  pub take_leaves : (teid : ℕ) (item : Taken P) (r : CuUp M C) → Leaves talk n kept r.transactions (take talk.way teid item r)
  unfolding take
  take_leaves teid item r = by (find nat_cmp r.tunnels teid)
    where
      in_bearer : (t : CuUpTunnel) (c : CuUpContext) (b : Option CuUpBearer) → Leaves talk n kept r.transactions (taken_in talk.way r t teid item c b)
      in_bearer t c None = (refl, refl)
      in_bearer t c (Some b) = taken_leaves r t teid item c b (held_reason (cu_up_scope t.ue c t.bearer) b t.kind item)

      in_context : (t : CuUpTunnel) (c : Option CuUpContext) → Leaves talk n kept r.transactions (taken_of talk.way r t teid item c)
      in_context t None = (refl, refl)
      in_context t (Some c) = in_bearer t c (find bearer_cmp c.bearers t.bearer)

      by : (t : Option CuUpTunnel) → Leaves talk n kept r.transactions (taken_on talk.way r teid item t)
      by None = (refl, refl)
      by (Some t) = in_context t (context_of r t.ue)

  leaves_if : (t : Transactions M C) (b : Bool) (x y : Answer M P (CuUp M C)) → Leaves talk n kept t x → Leaves talk n kept t y
      → Leaves talk n kept t (if b then x else y)
  leaves_if t true x y p q = p
  leaves_if t false x y p q = q

  pub poll_leaves : (ue : UeId) (bearer : BearerId) (r : CuUp M C) → Leaves talk n kept r.transactions (poll talk.way ue bearer r)
  unfolding poll
  poll_leaves ue bearer r = by (context_of r ue)
    where
      in_bearer : (c : CuUpContext) (b : Option CuUpBearer) → Leaves talk n kept r.transactions (poll_bearer talk.way r ue c bearer b)
      in_bearer c None = (refl, refl)
      in_bearer c (Some b) =
          leaves_if r.transactions (length b.sender.unconfirmed == 0) (puts (no Empty) r) _ (refl, refl)
          (leaves_if r.transactions (c.flags.frozen || not (has_downlink b.downlink)) (puts (no NoRadio) r) _ (refl, refl)
          (bearer_leaves r ue c bearer (framed talk.way (cu_up_scope ue c bearer) true false None Absent b) (poll_quiet talk.way n (cu_up_scope ue c bearer) b)))

      by : (c : Option CuUpContext) → Leaves talk n kept r.transactions (poll_on talk.way r ue bearer c)
      by None = (refl, refl)
      by (Some c) = in_bearer c (find bearer_cmp c.bearers bearer)

  -- ---- E1 Setup, a tick, and the table

  is_setup_request : (i : ℕ) (name : List ℕ) → kind_of {C = C} (with_instance i (e1 (e1s.E1SetupRequest no_instance name))) ≡ request 0 i
  unfolding kind_of with_instance
  is_setup_request i name = refl

  start_made : (reads : ReadsWell talk) (net : Net M C) (r : CuUp M C) → net.nodes n ≡ r.transactions → NoneExpired talk net n
      → IsPlayed talk net n kept (start talk.way r)
  unfolding start
  start_made reads net r at none = by r.is_set_up
    where
      by : (b : Bool) → IsPlayed talk net n kept (if b then nothing r else
          (ask talk.way r.transactions (channel 0 (CuCp r.gnb))
          (record { message = e1 (e1s.E1SetupRequest no_instance (node_text (up_node r))); deadline = None; awaited = false })
          then (λ a. nothing (with_transactions r a.transactions))))
      by true = no_move net r (nothing r) at (refl, refl)
      by false =
          subst (λ (t : Transactions M C). IsPlayed talk net n kept (ask talk.way t (channel 0 (CuCp r.gnb))
          (record { message = e1 (e1s.E1SetupRequest no_instance (node_text (up_node r))); deadline = None; awaited = false })
          then (λ a. nothing (with_transactions r a.transactions)))) at
          (one_made talk n kept net (asks (channel 0 (CuCp r.gnb))
          (record { message = e1 (e1s.E1SetupRequest no_instance (node_text (up_node r))); deadline = None; awaited = false }))
          (ask talk.way (net.nodes n) (channel 0 (CuCp r.gnb))
          (record { message = e1 (e1s.E1SetupRequest no_instance (node_text (up_node r))); deadline = None; awaited = false })) (
            (λ i. reads.kinds (with_instance i (e1 (e1s.E1SetupRequest no_instance (node_text (up_node r))))) ∙ is_setup_request i (node_text (up_node r))),
            none (channel 0 (CuCp r.gnb)),
          ) tt refl (λ a. with_transactions r a.transactions) (λ a. refl))

  tick_made : (net : Net M C) → Good talk net → NoneExpired talk net n → (r : CuUp M C) → net.nodes n ≡ r.transactions → NoneDue r.transactions
      → IsPlayedWhole talk net n kept (tick talk.way r)
  unfolding tick
  tick_made net good none r at late =
      subst (λ (t : Transactions M C). IsPlayedWhole talk net n kept (gives (flat_map (due_output talk.way) (due t.caller))
      (with_transactions r (record t { caller = after_tick t.caller })))) at (
        ages ∷ moves_due (due (net.nodes n).caller),
        tick_plays talk n (due_output talk.way) (λ c x. refl) (λ c. refl) net good,
        tick_none talk n net none (subst (λ (t : Transactions M C). NoneDue t) (sym at) late) (due (net.nodes n).caller),
      )

  -- of all inputs but a tick
  abbrev IsPlayedBut : Net M C → Input C P → Answer M P (CuUp M C) → Type 0
  IsPlayedBut net tick_input a = Unit {0}
  IsPlayedBut net input a = IsPlayed talk net n kept a

  but_made : ReadsWell talk → (net : Net M C) → Good talk net → NoneExpired talk net n → (r : CuUp M C) → net.nodes n ≡ r.transactions
      → (input : Input C P) → IsPutTo talk net n input → IsPlayedBut net input (cu_up_acts talk.way r input)
  unfolding cu_up_acts
  but_made reads net good none r at (control_input from m) put = control_made reads net good r at from m put
  but_made reads net good none r at (packet_input teid item) put = no_move net r (take talk.way teid item r) at (take_leaves teid item r)
  but_made reads net good none r at tick_input put = tt
  but_made reads net good none r at (order_input orders.Start) put = start_made reads net r at none
  but_made reads net good none r at (order_input (orders.Poll ue bearer)) put = no_move net r (poll talk.way ue bearer r) at (poll_leaves ue bearer r)
  but_made reads net good none r at input put = drops_made talk n net kept r Unexpected at

  pub cu_up_made : ReadsWell talk → (net : Net M C) → Good talk net → NoneExpired talk net n → (r : CuUp M C) → net.nodes n ≡ r.transactions
      → NoneDue r.transactions → (input : Input C P) → IsPutTo talk net n input → IsPlayedWhole talk net n kept (cu_up_acts talk.way r input)
  unfolding cu_up_acts
  cu_up_made reads net good none r at late tick_input put = tick_made net good none r at late
  cu_up_made reads net good none r at late input put =
      whole talk n net kept (cu_up_acts talk.way r input) none (but_made reads net good none r at input put)

  -- ---- what it asks has no deadline

  abbrev Undated : Answer M P (CuUp M C) → Type 0
  Undated a = After talk.way kept a

  leaves_undated : (t : Transactions M C) (a : Answer M P (CuUp M C)) → AreUndated t → Leaves talk n kept t a → Undated a
  leaves_undated t (gives os r) all leaves = subst AreUndated (sym leaves.1) all
  leaves_undated t (spent k) all leaves = tt

  replies_undated : (t : Transactions M C) (c : Channel) (m : Message C) (i : ℕ) (a : Answer M P (CuUp M C)) → AreUndated t → Replies talk n kept t c m i a → Undated a
  unfolding waits_at
  replies_undated t c m i (gives os r) all (inl none) = subst AreUndated (sym none.1) all
  replies_undated t c m i (gives os r) all (inr one) = subst AreUndated (sym one.kept) all
  replies_undated t c m i (spent k) all replies = tt

  control_by_undated : (r : CuUp M C) (from : NodeId) (m : Message C) → AreUndated r.transactions → (k : Kind) → kind_of m ≡ k
      → Undated (control_by talk.way (channel (ue_in talk.way k) from) m r k)
  unfolding set_up waits_at
  control_by_undated r from m all (request ue i) is =
      let t : Transactions M C = record r.transactions { callee = taken r.transactions.callee (channel ue from) i } in
      request_undated talk.way kept r r.transactions (channel ue from) i (λ u. asked talk.way (channel ue from) m (with_transactions r u)) all
      (replies_undated t (channel ue from) m i (asked talk.way (channel ue from) m (with_transactions r t)) all (asked_replies r t from m ue i is))
  control_by_undated r from m all (reply ue i) is =
      reply_undated talk.way kept r r.transactions (channel ue from) i (λ a. record r { is_set_up = true; transactions = a.transactions }) (λ a. refl) all all
  control_by_undated r from m all (transfer ue) is = all

  control_undated : (r : CuUp M C) (from : NodeId) (m : Message C) → AreUndated r.transactions → Undated (control_received talk.way from m r)
  unfolding control_received
  control_undated r from m all = by (is_own_cu_cp talk.way r.gnb from)
    where
      by : (b : Bool) → Undated (if b then control_by talk.way (channel (ue_in talk.way (kind_of m)) from) m r (kind_of m) else drops Unexpected r)
      by true = control_by_undated r from m all (kind_of m) refl
      by false = all

  start_undated : (r : CuUp M C) → AreUndated r.transactions → Undated (start talk.way r)
  unfolding start
  start_undated r all = by r.is_set_up
    where
      first : Waiting C
      first = record { message = e1 (e1s.E1SetupRequest no_instance (node_text (up_node r))); deadline = None; awaited = false }

      by : (b : Bool) → Undated (if b then nothing r else
          (ask talk.way r.transactions (channel 0 (CuCp r.gnb))
          (record { message = e1 (e1s.E1SetupRequest no_instance (node_text (up_node r))); deadline = None; awaited = false })
          then (λ a. nothing (with_transactions r a.transactions))))
      by true = all
      by false =
          asked_then talk.way kept (ask talk.way r.transactions (channel 0 (CuCp r.gnb)) first) (λ a. with_transactions r a.transactions) (λ a. refl)
          (ask_undated talk.way r.transactions (channel 0 (CuCp r.gnb)) first refl all)

  pub cu_up_undated : (r : CuUp M C) → IsSorted channel_cmp r.transactions.caller.opened → AreUndated r.transactions → (input : Input C P)
      → Undated (cu_up_acts talk.way r input)
  unfolding cu_up_acts tick
  cu_up_undated r sorted all (control_input from m) = control_undated r from m all
  cu_up_undated r sorted all (packet_input teid item) = leaves_undated r.transactions (take talk.way teid item r) all (take_leaves teid item r)
  cu_up_undated r sorted all tick_input = ticked_undated r.transactions sorted all
  cu_up_undated r sorted all (order_input orders.Start) = start_undated r all
  cu_up_undated r sorted all (order_input (orders.Poll ue bearer)) =
      leaves_undated r.transactions (poll talk.way ue bearer r) all (poll_leaves ue bearer r)
  cu_up_undated r sorted all input = all

-- A CU-UP whose open TEIDs are those that its contexts name is such a one after any input.
use Rattle.std.proofs.Common.{◌≡◌, ◌≤◌, ◌==◌, ℕ, ◌+◌, ◌*◌, Bool, true, false, cond, not, ◌&&◌, ◌||◌, List, [], ◌∷◌, length, map, filter, Option, Some, None, inl, inr, refl, sym, ap, ◌∙◌, subst, eqb-true, eq-eqb}
use Rattle.std.specs.Prelude.{if◌then◌else◌}
use Rattle.std.specs.List.{list_all}
use Rattle.std.specs.Ordering.{nat_cmp}
use Rattle.gnb_types.specs.declared.names.NodeId.{NodeId}
use Rattle.gnb_types.specs.declared.names.NodeId.TheVariants.{CuCp, Du as du_id}
use Rattle.gnb_types.specs.declared.names.UeId.{UeId}
use Rattle.gnb_types.specs.declared.names.BearerId.{BearerId}
use Rattle.gnb_types.specs.declared.names.SnBits.{SnBits}
use Rattle.gnb_types.specs.declared.keys.Channel.{Channel}
use Rattle.gnb_types.specs.declared.plans.Peer.{Peer}
use Rattle.gnb_types.specs.declared.plans.Tunnel.{Tunnel}
use Rattle.gnb_types.specs.declared.plans.SnStatus.{SnStatus}
use Rattle.gnb_types.specs.declared.inputs.Order.TheVariants as orders
use Rattle.gnb_types.specs.declared.outputs.Tag.TheVariants.{Absent}
use Rattle.gnb_types.specs.declared.reasons.HeldReason.{HeldReason}
use Rattle.gnb_types.specs.declared.reasons.DropReason.TheVariants.{Unexpected}
use Rattle.gnb_types.specs.declared.reasons.RefuseReason.TheVariants.{Empty, NoRadio}
use Rattle.gnb_types.specs.Names.{node_text}
use Rattle.gnb_types.specs.Orders.{bearer_cmp, ue_cmp}
use Rattle.unit_defs.specs.CuUpRecords.{TunnelKind, n3, f1u_uplink, forwarding_down, forwarding_up, CuUpBearer, CuUpContext, CuUp, CuUpTunnel, cu_up_scope}
use Rattle.unit_defs.specs.CuUpBearers.{teid_in, is_one_of, released, teids_of_bearer, with_uplink, switched, frozen_to, with_status, resumed, is_over, has_downlink, framed}
use Rattle.unit_defs.specs.Teids.{without_each, teids_are_left}
use Rattle.tables.specs.Tables.{find, put}
use Rattle.transaction_defs.specs.Callers.{close}
use Rattle.message_types.specs.declared.e1.E1Message.{E1Message}
use Rattle.message_types.specs.declared.e1.E1Message.TheVariants as e1s
use Rattle.unit_defs.specs.Ways.{Message, e1, Taken, no, Input, control_input, packet_input, tick_input, order_input, Output, Way, Answer, gives, spent, ◌then◌, nothing, puts, drops, teids_spent}
use Rattle.unit_defs.specs.Messages.{cause_busy, cause_quota, mode_uplinks, mode_switch, mode_freeze, mode_status, mode_resume, channel, are_bearers, bearers_of, statuses_of, teid_of}
use Rattle.unit_defs.specs.Transactions.{Kind, request, reply, transfer, kind_of, no_instance, ask, advance, replied}
use Rattle.unit_defs.specs.CuUpItems.{held_reason, took}
use Rattle.unit_defs.specs.CuUp.{bearers_from, with_context, context_of, with_transactions, up_node, UpStep, steps, stops, step_with, each_bearer, answer_with, ended, ended_if_over, end_where_over, replies, new_context, with_new, makes, fits, set_up_for, setup_response, setup_on, setup, modified, uplinks_from, teids_from, uplinks_given, add_uplinks, as_switched, switch, as_frozen, peer_node, statuses, freeze, as_known, status_each, take_status, as_resumed, resume, names, switch_if, freeze_if, status_if, resume_if, modify_on, as_released, released_on, release, asked, start, set_up, control_by, ue_in, is_own_cu_cp, control_received, with_bearer, taken_by, taken_in, taken_of, taken_on, take, poll_bearer, poll_on, poll, tick, cu_up_acts}
use Rattle.proof_run_steps.proofs.teids.Grows.{below_left}
use Rattle.proof_run_steps.proofs.teids.Bearers.{Ends, Stays, Took, ends, closed_by, without_n3, without_uplink, poll_stays, switched_stays, frozen_stays, status_stays, resumed_stays, item_took}
use Rattle.proof_run_steps.proofs.teids.CuUps.{Gives, cu_up_gives}
use Rattle.law_tunnels_are_owned.specs.owner_facts.Owned.{ends_of, has_end, WereGiven, CuUpOwns}
use Rattle.proof_unit_steps.specs.answers.After.{HoldsAfter}
use Rattle.law_tunnels_are_owned.proofs.owner_facts.Owners.{given_then, second_of}
use Rattle.proof_unit_steps.proofs.answers.Answers.{holds_if, holds_then, any_then, holds_request, holds_reply}
use Rattle.law_tunnels_are_owned.proofs.owner_facts.UpEnds.{Bearers, SameEnds, same_has_end, same_order, or_left, made_from, made_in_order}
use Rattle.law_tunnels_are_owned.proofs.owner_facts.UpGiven.{new_named, HaveMore, more_named}
use Rattle.law_tunnels_are_owned.proofs.owner_facts.UpContexts.{Named, own_names, context_stays, all_close, bearer_stays, bearer_closes}

module _ {M C P : Type 0} (way : Way M C P) where
  -- what is open is what is named, so far as the step goes
  abbrev Names : CuUp M C → Type 0
  Names r = Named r.tunnels r.contexts

  abbrev Keeps : Answer M P (CuUp M C) → Type 0
  Keeps a = HoldsAfter Names a

  keeps_if : (t : Bool) (x y : Answer M P (CuUp M C)) → Keeps x → Keeps y → Keeps (if t then x else y)
  keeps_if t x y p q = holds_if Names t x y p q

  replies_keep : (ch : Channel) (m : E1Message) (r : CuUp M C) → Names r → Keeps (replies way ch m r)
  replies_keep ch m r p = any_then Names (replied way r.transactions ch (e1 m)) (λ t. nothing (with_transactions r t)) (λ t. p)

  -- ---- the bearers of a context, one after another

  abbrev StepKeeps : Bearers → UpStep way → Type 0
  StepKeeps es (steps os bearers) = SameEnds es bearers
  StepKeeps es (stops k) = Unit {0}

  step_keeps : (bearer : BearerId) (b : CuUpBearer) (es : Bearers) (a : Answer M P CuUpBearer) (s : UpStep way) → Stays way (ends b) a → StepKeeps es s
      → StepKeeps ((bearer, b) ∷ es) (step_with way bearer a s)
  step_keeps bearer b es (gives os c) (steps more bs) p q = (refl, p.2, q)
  step_keeps bearer b es (gives os c) (stops k) p q = tt
  step_keeps bearer b es (spent k) s p q = tt

  each_keeps : (order : BearerId → CuUpBearer → Answer M P CuUpBearer) → ((bearer : BearerId) (b : CuUpBearer) → Stays way (ends b) (order bearer b))
      → (es : Bearers) → StepKeeps es (each_bearer way order es)
  each_keeps order each [] = tt
  each_keeps order each (e ∷ es) = step_keeps e.0 e.1 es (order e.0 e.1) (each_bearer way order es) (each e.0 e.1) (each_keeps order each es)

  all_same : (es : Bearers) → SameEnds es es
  all_same [] = tt
  all_same (e ∷ es) = (refl, refl, all_same es)

  statuses_keep : (ue : UeId) (c : CuUpContext) (ss : List SnStatus) (es : Bearers) → StepKeeps es (status_each way ue c ss es)
  statuses_keep ue c [] es = all_same es
  statuses_keep ue c (s ∷ ss) [] = tt
  statuses_keep ue c (s ∷ ss) (e ∷ es) =
      step_keeps e.0 e.1 es (with_status way (cu_up_scope ue c e.0) s e.1) (status_each way ue c ss es) (status_stays way (cu_up_scope ue c e.0) s e.1) (statuses_keep ue c ss es)

  steps_keep : (r : CuUp M C) (ch : Channel) (ue : UeId) (c d : CuUpContext) (s : UpStep way) (m : E1Message) → Names r → find ue_cmp r.contexts ue ≡ Some c
      → d.instance ≡ c.instance → StepKeeps c.bearers s → Keeps (answer_with way r ue d s then replies way ch m)
  steps_keep r ch ue c d s m p is same keeps = holds_then Names Names (answer_with way r ue d s) (replies way ch m) (by s keeps) (replies_keep ch m)
    where
      by : (s : UpStep way) → StepKeeps c.bearers s → Keeps (answer_with way r ue d s)
      by (steps os bearers) h =
          context_stays r.tunnels r.contexts p ue c is (record d { bearers = bearers }) same (same_order c.bearers bearers h (p.1 ue c is))
          (same_has_end c.bearers bearers h)
      by (stops k) h = tt

  -- ---- a context ends

  ended_keeps : (r : CuUp M C) (ue : UeId) (c : CuUpContext) → Names r → find ue_cmp r.contexts ue ≡ Some c → Keeps (ended way r ue c)
  unfolding ended
  ended_keeps r ue c p is = all_close r.tunnels r.contexts p ue c is

  over_keeps : (ue : UeId) (r : CuUp M C) → Names r → Keeps (end_where_over way ue r)
  unfolding end_where_over
  over_keeps ue r p = by (context_of r ue) refl
    where
      by : (c : Option CuUpContext) → find ue_cmp r.contexts ue ≡ c → Keeps (ended_if_over way ue r c)
      by None is = p
      by (Some c) is =
          keeps_if (c.flags.released && list_all (λ e. is_over c.flags e.1) c.bearers) (ended way r ue c) (nothing r) (ended_keeps r ue c p is) p

  released_same : (es : Bearers) → SameEnds es (map (λ e. (e.0, released e.1)) es)
  released_same [] = tt
  released_same (e ∷ es) = (refl, refl, released_same es)

  released_keeps : (ue : UeId) (is_final : Bool) (r : CuUp M C) → Names r → (c : Option CuUpContext) → find ue_cmp r.contexts ue ≡ c
      → Keeps (released_on way ue is_final r c)
  released_keeps ue is_final r p None is = p
  released_keeps ue true r p (Some c) is = ended_keeps r ue c p is
  released_keeps ue false r p (Some c) is =
      let bs : Bearers = map (λ e. (e.0, released e.1)) c.bearers in
      over_keeps ue (with_context ue r (as_released way c))
      (context_stays r.tunnels r.contexts p ue c is (as_released way c) refl (same_order c.bearers bs (released_same c.bearers) (p.1 ue c is))
      (same_has_end c.bearers bs (released_same c.bearers)))

  release_keeps : (ch : Channel) (ue : UeId) (instance : ℕ) (is_final : Bool) (r : CuUp M C) → Names r → Keeps (release way ch ue instance is_final r)
  unfolding release
  release_keeps ch ue instance is_final r p =
      holds_then Names Names (replies way ch (e1s.BearerContextReleaseComplete ue instance) r) (λ s. released_on way ue is_final s (context_of s ue))
      (replies_keep ch (e1s.BearerContextReleaseComplete ue instance) r p) (λ s q. released_keeps ue is_final s q (context_of s ue) refl)

  -- ---- Bearer Context Setup

  makes_keeps : (ue : UeId) (sn : SnBits) (quota : ℕ) (target : Bool) (count : ℕ) (r : CuUp M C) → Names r → WereGiven r.next_teid r.tunnels
      → find ue_cmp r.contexts ue ≡ None → Keeps (makes way ue sn quota target count r)
  unfolding makes
  makes_keeps ue sn quota target count r p given none = by (teids_are_left r.next_teid (count * teids_of_bearer target)) refl
    where
      by : (t : Bool) → teids_are_left r.next_teid (count * teids_of_bearer target) ≡ t
          → Keeps (if t then with_new way ue r (count * teids_of_bearer target) (new_context way r sn quota target count) else spent teids_spent)
      by true left =
          new_named r.tunnels r.contexts p ue r.next_teid
          (subst (λ (n : ℕ). (q : ℕ) (o : CuUpTunnel) → find nat_cmp r.tunnels q ≡ Some o → q + 1 ≤ n) (below_left r.next_teid (count * teids_of_bearer target) left) given)
          (new_context way r sn quota target count) none (made_in_order target 1 count r.next_teid) (made_from ue r.next_teid target (bearers_from 1 count) r.next_teid)
      by false left = tt

  set_up_keeps : (ch : Channel) (ue : UeId) (instance : ℕ) (forward : Bool) (r : CuUp M C) (c : Option CuUpContext) → Names r
      → Keeps (set_up_for way ch ue instance forward r c)
  set_up_keeps ch ue instance forward r None p = p
  set_up_keeps ch ue instance forward r (Some c) p = replies_keep ch (setup_response way ue instance forward c.bearers) r p

  setup_keeps : (ch : Channel) (ue : UeId) (instance count : ℕ) (sn : SnBits) (quota : ℕ) (forward : Bool) (r : CuUp M C) → Names r
      → WereGiven r.next_teid r.tunnels → (c : Option CuUpContext) → find ue_cmp r.contexts ue ≡ c → Keeps (setup_on way ch ue instance count sn quota forward r c)
  setup_keeps ch ue instance count sn quota forward r p given (Some c) is = replies_keep ch (e1s.BearerContextSetupFailure ue instance cause_busy) r p
  setup_keeps ch ue instance count sn quota forward r p given None is =
      keeps_if (not (fits way count quota r)) _ _ (replies_keep ch (e1s.BearerContextSetupFailure ue instance cause_quota) r p)
      (holds_then Names Names (makes way ue sn quota forward count r) (λ s. set_up_for way ch ue instance forward s (context_of s ue))
      (makes_keeps ue sn quota forward count r p given is) (λ s q. set_up_keeps ch ue instance forward s (context_of s ue) q))

  -- ---- Bearer Context Modification

  abbrev StepAdds : ℕ → Bearers → UpStep way → Type 0
  StepAdds next es (steps os bearers) = HaveMore next es bearers
  StepAdds next es (stops k) = Unit {0}

  uplinks_add : (next : ℕ) (es : Bearers) → StepAdds next es (uplinks_from way next es)
  unfolding with_uplink
  uplinks_add next [] = tt
  uplinks_add next (e ∷ es) = by (uplinks_from way (next + 1) es) (uplinks_add (next + 1) es)
    where
      by : (s : UpStep way) → StepAdds (next + 1) es s → StepAdds next (e ∷ es) (step_with way e.0 (with_uplink way next e.1) s)
      by (steps os bs) p = (refl, refl, p)
      by (stops k) p = tt

  module _ (ch : Channel) (ue : UeId) (instance : ℕ) (r : CuUp M C) (p : Names r) where
    uplinks_keep : (c : CuUpContext) → find ue_cmp r.contexts ue ≡ Some c → WereGiven r.next_teid r.tunnels → Keeps (add_uplinks way ch ue instance c r)
    unfolding add_uplinks
    uplinks_keep c is given = by (teids_are_left r.next_teid (length c.bearers)) refl
      where
        added : (s : UpStep way) → teids_are_left r.next_teid (length c.bearers) ≡ true → StepAdds r.next_teid c.bearers s
            → Keeps (answer_with way (uplinks_given way ue r c (teids_from way r.next_teid c.bearers)) ue c s)
        added (steps os bearers) left h =
            more_named way r.tunnels r.contexts p ue r.next_teid
            (subst (λ (n : ℕ). (q : ℕ) (o : CuUpTunnel) → find nat_cmp r.tunnels q ≡ Some o → q + 1 ≤ n) (below_left r.next_teid (length c.bearers) left) given)
            c bearers is h
        added (stops k) left h = tt

        by : (t : Bool) → teids_are_left r.next_teid (length c.bearers) ≡ t
            → Keeps (if not t then spent teids_spent
            else (answer_with way (uplinks_given way ue r c (teids_from way r.next_teid c.bearers)) ue c (uplinks_from way r.next_teid c.bearers)
            then replies way ch (modified way ue instance (Some (teids_from way r.next_teid c.bearers)) None)))
        by true left =
            holds_then Names Names
            (answer_with way (uplinks_given way ue r c (teids_from way r.next_teid c.bearers)) ue c (uplinks_from way r.next_teid c.bearers))
            (replies way ch (modified way ue instance (Some (teids_from way r.next_teid c.bearers)) None))
            (added (uplinks_from way r.next_teid c.bearers) left (uplinks_add r.next_teid c.bearers))
            (replies_keep ch (modified way ue instance (Some (teids_from way r.next_teid c.bearers)) None))
        by false left = tt

    switch_keeps : (d : Option ℕ) (list : Option (List Tunnel)) (c : CuUpContext) → find ue_cmp r.contexts ue ≡ Some c → Keeps (switch_if way ch ue instance d list c r)
    unfolding switch
    switch_keeps (Some d) (Some list) c is =
        keeps_if (c.flags.released || not (are_bearers (names way c) (bearers_of list))) (drops Unexpected r) _ p
        (steps_keep r ch ue c (as_switched way c)
        (each_bearer way (λ b. switched way (cu_up_scope ue (as_switched way c) b) (du_id r.gnb d) (teid_of list b)) c.bearers) (modified way ue instance None None) p is refl
        (each_keeps (λ b. switched way (cu_up_scope ue (as_switched way c) b) (du_id r.gnb d) (teid_of list b))
        (λ b x. switched_stays way (cu_up_scope ue (as_switched way c) b) (du_id r.gnb d) (teid_of list b) x) c.bearers))
    switch_keeps (Some d) None c is = p
    switch_keeps None list c is = p

    freeze_keeps : (peer : Option Peer) (a b : Option (List Tunnel)) (c : CuUpContext) → find ue_cmp r.contexts ue ≡ Some c
        → Keeps (freeze_if way ch ue instance peer a b c r)
    unfolding freeze
    freeze_keeps (Some peer) (Some a) (Some b) c is =
        keeps_if (c.flags.frozen || c.flags.released || not c.flags.arrived || not (are_bearers (names way c) (bearers_of a)) || not (are_bearers (names way c) (bearers_of b)))
        (drops Unexpected r) _ p
        (keeps_if (not c.flags.may_serve) _ _ (replies_keep ch (e1s.BearerContextModificationFailure ue instance cause_busy) r p)
        (steps_keep r ch ue c (as_frozen way c)
        (each_bearer way (λ x. frozen_to way (cu_up_scope ue (as_frozen way c) x) (peer_node way peer) (teid_of a x) (teid_of b x)) c.bearers)
        (modified way ue instance None (Some (statuses way c))) p is refl
        (each_keeps (λ x. frozen_to way (cu_up_scope ue (as_frozen way c) x) (peer_node way peer) (teid_of a x) (teid_of b x))
        (λ x y. frozen_stays way (cu_up_scope ue (as_frozen way c) x) (peer_node way peer) (teid_of a x) (teid_of b x) y) c.bearers)))
    freeze_keeps (Some peer) (Some a) None c is = p
    freeze_keeps (Some peer) None b c is = p
    freeze_keeps None a b c is = p

    status_keeps : (list : Option (List SnStatus)) (c : CuUpContext) → find ue_cmp r.contexts ue ≡ Some c → Keeps (status_if way ch ue instance list c r)
    unfolding take_status
    status_keeps (Some list) c is =
        keeps_if (c.flags.may_serve || not (are_bearers (names way c) (statuses_of list))) (drops Unexpected r) _ p
        (steps_keep r ch ue c (as_known way c) (status_each way ue (as_known way c) list c.bearers) (modified way ue instance None None) p is refl
        (statuses_keep ue (as_known way c) list c.bearers))
    status_keeps None c is = p

    resume_keeps : (c : CuUpContext) → find ue_cmp r.contexts ue ≡ Some c → Keeps (resume_if way ch ue instance c r)
    unfolding resume
    resume_keeps c is =
        keeps_if (c.flags.frozen && not c.flags.released) _ (drops Unexpected r)
        (steps_keep r ch ue c (as_resumed way c)
        (each_bearer way (λ b. resumed way (cu_up_scope ue (as_resumed way c) b)) c.bearers) (modified way ue instance None None) p is refl
        (each_keeps (λ b. resumed way (cu_up_scope ue (as_resumed way c) b)) (λ b x. resumed_stays way (cu_up_scope ue (as_resumed way c) b) x) c.bearers))
        p

    modify_keeps : (downlinks : Option (List Tunnel)) (mode : ℕ) (peer : Option Peer) (down up : Option (List Tunnel)) (ss : Option (List SnStatus)) (du : Option ℕ)
        → WereGiven r.next_teid r.tunnels → (c : Option CuUpContext) → find ue_cmp r.contexts ue ≡ c
        → Keeps (modify_on way ch (e1s.BearerContextModificationRequest ue instance downlinks mode peer down up ss du) r c)
    modify_keeps downlinks mode peer down up ss du given None is = p
    modify_keeps downlinks mode peer down up ss du given (Some c) is =
        keeps_if (mode == mode_uplinks) _ _ (keeps_if c.flags.released (drops Unexpected r) _ p (uplinks_keep c is given))
        (keeps_if (mode == mode_switch) _ _ (switch_keeps du downlinks c is)
        (keeps_if (mode == mode_freeze) _ _ (freeze_keeps peer down up c is)
        (keeps_if (mode == mode_status) _ _ (status_keeps ss c is)
        (keeps_if (mode == mode_resume) _ _ (resume_keeps c is) p))))

  -- ---- requests and replies

  asked_keeps : (ch : Channel) (m : Message C) (r : CuUp M C) → Names r → WereGiven r.next_teid r.tunnels → Keeps (asked way ch m r)
  unfolding setup
  asked_keeps ch (e1 (e1s.BearerContextSetupRequest ue instance count sn quota forward)) r p given =
      setup_keeps ch ue instance count sn quota forward r p given (context_of r ue) refl
  asked_keeps ch (e1 (e1s.BearerContextModificationRequest ue instance downlinks mode peer down up ss du)) r p given =
      modify_keeps ch ue instance r p downlinks mode peer down up ss du given (context_of r ue) refl
  asked_keeps ch (e1 (e1s.BearerContextReleaseCommand ue instance is_final)) r p given = release_keeps ch ue instance is_final r p
  asked_keeps ch m r p given = p

  is_set_up_keeps : (ch : Channel) (r : CuUp M C) → Names r → Keeps (set_up way ch r)
  unfolding set_up
  is_set_up_keeps ch r p =
      any_then Names (advance way (record r.transactions { caller = close r.transactions.caller ch }) ch)
      (λ a. nothing (record r { is_set_up = true; transactions = a.transactions })) (λ a. p)

  control_by_keeps : (ch : Channel) (m : Message C) (r : CuUp M C) (k : Kind) → Names r → WereGiven r.next_teid r.tunnels → Keeps (control_by way ch m r k)
  control_by_keeps ch m r (request ue i) p given =
      holds_request way Names r r.transactions ch i (λ t. asked way ch m (with_transactions r t)) p (λ t. asked_keeps ch m (with_transactions r t) p given)
  control_by_keeps ch m r (reply ue i) p given = holds_reply way Names r r.transactions ch i (set_up way ch r) p (is_set_up_keeps ch r p)
  control_by_keeps ch m r (transfer ue) p given = p

  control_keeps : (from : NodeId) (m : Message C) (r : CuUp M C) → Names r → WereGiven r.next_teid r.tunnels → Keeps (control_received way from m r)
  unfolding control_received
  control_keeps from m r p given =
      keeps_if (is_own_cu_cp way r.gnb from) _ (drops Unexpected r) (control_by_keeps (channel (ue_in way (kind_of m)) from) m r (kind_of m) p given) p

  -- ---- items, polls, ticks

  still_open : (r : CuUp M C) (ue : UeId) (c : CuUpContext) (os : List (Output M P)) (bearer : BearerId) (b : CuUpBearer) (ts : List ℕ) → closed_by os ≡ ts
      → Named (without_each r.tunnels ts) (put ue_cmp r.contexts ue (record c { bearers = put bearer_cmp c.bearers bearer b }))
      → Keeps (with_bearer way r ue c bearer (gives os b))
  still_open r ue c os bearer b ts closes h =
      subst (λ (cs : List ℕ). Named (without_each r.tunnels cs) (put ue_cmp r.contexts ue (record c { bearers = put bearer_cmp c.bearers bearer b }))) (sym closes) h

  bearer_rests : (r : CuUp M C) (ue : UeId) (c : CuUpContext) (bearer : BearerId) (b : CuUpBearer) (a : Answer M P CuUpBearer) → Names r
      → find ue_cmp r.contexts ue ≡ Some c → find bearer_cmp c.bearers bearer ≡ Some b → Stays way (ends b) a → Keeps (with_bearer way r ue c bearer a)
  bearer_rests r ue c bearer b (gives os d) p is there stay =
      still_open r ue c os bearer d [] stay.1 (bearer_stays r.tunnels r.contexts p ue c is bearer b there d stay.2)
  bearer_rests r ue c bearer b (spent k) p is there stay = tt

  -- at most N3, or this uplink, is closed
  module _ (r : CuUp M C) (p : Names r) (t : CuUpTunnel) (teid : ℕ) (owned : find nat_cmp r.tunnels teid ≡ Some t) (c : CuUpContext)
      (is : find ue_cmp r.contexts t.ue ≡ Some c) (b : CuUpBearer) (there : find bearer_cmp c.bearers t.bearer ≡ Some b) where
    -- the tunnel is the bearer's
    its_end : is_one_of (ends_of t.kind b) teid ≡ true
    its_end =
        ap (has_end t.kind teid) (sym there)
        ∙ second_of (c.instance == t.context) _ (sym (own_names r.tunnels r.contexts p t.ue c is t teid refl) ∙ p.0.named teid t owned)

    closed_n3 : (d : CuUpBearer) (n : ℕ) → b.n3 ≡ Some n → ends d ≡ without_n3 (ends b)
        → Named (without_each r.tunnels (n ∷ [])) (put ue_cmp r.contexts t.ue (record c { bearers = put bearer_cmp c.bearers t.bearer d }))
    closed_n3 d n has left =
        bearer_closes r.tunnels r.contexts p t.ue c is t.bearer b there d n3 n
        (ap (λ (o : Option ℕ). is_one_of (teid_in o) n) has ∙ or_left (n == n) false (eq-eqb n n refl)) rest gone
      where
        rest : (kind : TunnelKind) → (kind ≡ n3 → ⊥) → ends_of kind d ≡ ends_of kind b
        rest n3 apart = absurd (apart refl)
        rest f1u_uplink apart = ap (λ (e : Ends). e.uplinks) left
        rest forwarding_down apart = ap (λ (e : Ends). teid_in e.forward_down) left
        rest forwarding_up apart = ap (λ (e : Ends). teid_in e.forward_up) left

        none : (x : Bool) → false ≡ x && not x
        none true = refl
        none false = refl

        gone : (q : ℕ) → is_one_of (teid_in d.n3) q ≡ is_one_of (teid_in b.n3) q && not (is_one_of (n ∷ []) q)
        gone q =
            ap (λ (e : Ends). is_one_of (teid_in e.n3) q) left ∙ none (is_one_of (n ∷ []) q)
            ∙ ap (λ (o : Option ℕ). is_one_of (teid_in o) q && not (is_one_of (n ∷ []) q)) (sym has)

    without_one : (us : List ℕ) (q : ℕ) → is_one_of (filter (λ u. not (u == teid)) us) q ≡ is_one_of us q && not (is_one_of (teid ∷ []) q)
    without_one [] q = refl
    without_one (u ∷ us) q = by (u == teid) refl (u == q) (teid == q) refl refl (without_one us q)
      where
        by : (a : Bool) → (u == teid) ≡ a → (x y : Bool) → (u == q) ≡ x → (teid == q) ≡ y
            → is_one_of (filter (λ v. not (v == teid)) us) q ≡ is_one_of us q && not (y || false)
            → is_one_of (cond (not a) (u ∷ filter (λ v. not (v == teid)) us) (filter (λ v. not (v == teid)) us)) q ≡ (x || is_one_of us q) && not (y || false)
        by true at true true ux ty rest = rest ∙ none (is_one_of us q)
          where
            none : (a : Bool) → a && false ≡ false
            none true = refl
            none false = refl
        by true at true false ux ty rest =
            let same : teid ≡ q = sym (eqb-true u teid at) ∙ eqb-true u q ux in let tie : (teid == q) ≡ true = eq-eqb teid q same in absurd cc
        by true at false y ux ty rest = rest
        by false at true true ux ty rest =
            let same : u ≡ teid = eqb-true u q ux ∙ sym (eqb-true teid q ty) in let tie : (u == teid) ≡ true = eq-eqb u teid same in absurd cc
        by false at true false ux ty rest = or_left (u == q) _ ux
        by false at false y ux ty rest = ap (λ (x : Bool). x || is_one_of (filter (λ v. not (v == teid)) us) q) ux ∙ rest

    closed_uplink : (d : CuUpBearer) → t.kind ≡ f1u_uplink → ends d ≡ without_uplink teid (ends b)
        → Named (without_each r.tunnels (teid ∷ [])) (put ue_cmp r.contexts t.ue (record c { bearers = put bearer_cmp c.bearers t.bearer d }))
    closed_uplink d kind left =
        bearer_closes r.tunnels r.contexts p t.ue c is t.bearer b there d f1u_uplink teid
        (ap (λ (k : TunnelKind). is_one_of (ends_of k b) teid) (sym kind) ∙ its_end) rest gone
      where
        rest : (k : TunnelKind) → (k ≡ f1u_uplink → ⊥) → ends_of k d ≡ ends_of k b
        rest n3 apart = ap (λ (e : Ends). teid_in e.n3) left
        rest f1u_uplink apart = absurd (apart refl)
        rest forwarding_down apart = ap (λ (e : Ends). teid_in e.forward_down) left
        rest forwarding_up apart = ap (λ (e : Ends). teid_in e.forward_up) left

        gone : (q : ℕ) → is_one_of d.uplinks q ≡ is_one_of b.uplinks q && not (is_one_of (teid ∷ []) q)
        gone q = ap (λ (e : Ends). is_one_of e.uplinks q) left ∙ without_one b.uplinks q

    took_keeps : (a : Answer M P CuUpBearer) → Took way t.kind teid b a → Keeps (with_bearer way r t.ue c t.bearer a)
    took_keeps (gives os d) (none, inl same) =
        still_open r t.ue c os t.bearer d [] same.0 (bearer_stays r.tunnels r.contexts p t.ue c is t.bearer b there d same.1)
    took_keeps (gives os d) (none, inr (inl n)) = still_open r t.ue c os t.bearer d (n.0 ∷ []) n.2 (closed_n3 d n.0 n.1 n.3)
    took_keeps (gives os d) (none, inr (inr u)) = still_open r t.ue c os t.bearer d (teid ∷ []) u.1 (closed_uplink d u.0 u.2)
    took_keeps (spent k) h = tt

    taken_keeps : (item : Taken P) (reason : Option HeldReason) → Keeps (taken_by way r t teid item c b reason)
    taken_keeps item (Some reason) = p
    taken_keeps item None =
        holds_then Names Names (with_bearer way r t.ue c t.bearer (took way (cu_up_scope t.ue c t.bearer) t.kind teid item b)) (end_where_over way t.ue)
        (took_keeps (took way (cu_up_scope t.ue c t.bearer) t.kind teid item b) (item_took way (cu_up_scope t.ue c t.bearer) t.kind teid item b)) (over_keeps t.ue)

  take_keeps : (teid : ℕ) (item : Taken P) (r : CuUp M C) → Names r → Keeps (take way teid item r)
  unfolding take
  take_keeps teid item r p = by (find nat_cmp r.tunnels teid) refl
    where
      in_bearer : (t : CuUpTunnel) (c : CuUpContext) → find nat_cmp r.tunnels teid ≡ Some t → find ue_cmp r.contexts t.ue ≡ Some c → (b : Option CuUpBearer)
          → find bearer_cmp c.bearers t.bearer ≡ b → Keeps (taken_in way r t teid item c b)
      in_bearer t c owned is None there = p
      in_bearer t c owned is (Some b) there = taken_keeps r p t teid owned c is b there item (held_reason (cu_up_scope t.ue c t.bearer) b t.kind item)

      in_context : (t : CuUpTunnel) → find nat_cmp r.tunnels teid ≡ Some t → (c : Option CuUpContext) → find ue_cmp r.contexts t.ue ≡ c
          → Keeps (taken_of way r t teid item c)
      in_context t owned None is = p
      in_context t owned (Some c) is = in_bearer t c owned is (find bearer_cmp c.bearers t.bearer) refl

      by : (t : Option CuUpTunnel) → find nat_cmp r.tunnels teid ≡ t → Keeps (taken_on way r teid item t)
      by None owned = p
      by (Some t) owned = in_context t owned (context_of r t.ue) refl

  poll_keeps : (ue : UeId) (bearer : BearerId) (r : CuUp M C) → Names r → Keeps (poll way ue bearer r)
  unfolding poll
  poll_keeps ue bearer r p = by (context_of r ue) refl
    where
      in_bearer : (c : CuUpContext) → find ue_cmp r.contexts ue ≡ Some c → (b : Option CuUpBearer) → find bearer_cmp c.bearers bearer ≡ b
          → Keeps (poll_bearer way r ue c bearer b)
      in_bearer c is None there = p
      in_bearer c is (Some b) there =
          keeps_if (length b.sender.unconfirmed == 0) (puts (no Empty) r) _ p
          (keeps_if (c.flags.frozen || not (has_downlink b.downlink)) (puts (no NoRadio) r) _ p
          (bearer_rests r ue c bearer b (framed way (cu_up_scope ue c bearer) true false None Absent b) p is there (poll_stays way (cu_up_scope ue c bearer) b)))

      by : (c : Option CuUpContext) → find ue_cmp r.contexts ue ≡ c → Keeps (poll_on way r ue bearer c)
      by None is = p
      by (Some c) is = in_bearer c is (find bearer_cmp c.bearers bearer) refl

  start_keeps : (r : CuUp M C) → Names r → Keeps (start way r)
  unfolding start
  start_keeps r p =
      keeps_if r.is_set_up (nothing r) _ p
      (any_then Names (ask way r.transactions (channel 0 (CuCp r.gnb))
      (record { message = e1 (e1s.E1SetupRequest no_instance (node_text (up_node r))); deadline = None; awaited = false }))
      (λ a. nothing (with_transactions r a.transactions)) (λ a. p))

  tick_keeps : (r : CuUp M C) → Names r → Keeps (tick way r)
  unfolding tick
  tick_keeps r p = p

  acts_keep : (r : CuUp M C) (input : Input C P) → Names r → WereGiven r.next_teid r.tunnels → Keeps (cu_up_acts way r input)
  unfolding cu_up_acts
  acts_keep r (control_input from m) p given = control_keeps from m r p given
  acts_keep r (packet_input teid item) p given = take_keeps teid item r p
  acts_keep r tick_input p given = tick_keeps r p
  acts_keep r (order_input orders.Start) p given = start_keeps r p
  acts_keep r (order_input (orders.Poll ue bearer)) p given = poll_keeps ue bearer r p
  acts_keep r input p given = p

  pub cu_up_owns : (r : CuUp M C) (input : Input C P) → CuUpOwns r → HoldsAfter CuUpOwns (cu_up_acts way r input)
  cu_up_owns r input p = by (cu_up_acts way r input) (acts_keep r input (p.0, p.1) p.2) (cu_up_gives way r input)
    where
      by : (a : Answer M P (CuUp M C)) → Keeps a → Gives way r a → HoldsAfter CuUpOwns a
      by (gives os after) h g = (h.0, h.1, given_then r.next_teid r.tunnels after.next_teid after.tunnels p.2 g.1)
      by (spent k) h g = tt

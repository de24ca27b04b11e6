-- The table of a CU-UP, as one bearer sees it.
use Rattle.std.proofs.Common.{◌≡◌, ◌==◌, ℕ, ◌*◌, Bool, true, false, not, ◌&&◌, ◌||◌, List, [], ◌∷◌, ◌++◌, length, Option, Some, None, refl, sym, ap, subst, ◌∙◌}
use Rattle.std.specs.Prelude.{if◌then◌else◌}
use Rattle.std.specs.Ordering.{nat_cmp, eq_by_cmp}
use Rattle.std.specs.Cmp.{Equal-is}
use Rattle.std.specs.List.{flat_map}
use Rattle.gnb_types.specs.declared.names.NodeId.TheVariants.{CuCp, Du as du_id}
use Rattle.gnb_types.specs.declared.names.UeId.{UeId}
use Rattle.gnb_types.specs.declared.names.BearerId.{BearerId}
use Rattle.gnb_types.specs.declared.names.SnBits.{SnBits}
use Rattle.gnb_types.specs.declared.keys.Channel.{Channel}
use Rattle.gnb_types.specs.declared.plans.Peer.{Peer}
use Rattle.gnb_types.specs.declared.plans.Tunnel.{Tunnel}
use Rattle.gnb_types.specs.declared.plans.SnStatus.{SnStatus}
use Rattle.gnb_types.specs.declared.inputs.Order.TheVariants as inputs
use Rattle.gnb_types.specs.declared.outputs.Tag.TheVariants.{Absent}
use Rattle.gnb_types.specs.declared.reasons.HeldReason.{HeldReason}
use Rattle.gnb_types.specs.declared.reasons.DropReason.TheVariants.{NoContext, Stale, Unexpected}
use Rattle.gnb_types.specs.declared.reasons.RefuseReason.TheVariants.{Empty, NoRadio}
use Rattle.gnb_types.specs.Names.{node_text}
use Rattle.gnb_types.specs.Orders.{ue_cmp, bearer_cmp}
use Rattle.gnb_types.proofs.OrderLemmas.{ue_total, ue_exact, bearer_exact}
use Rattle.tables.specs.Tables.{find, put}
use Rattle.tables.proofs.TableLaws.{find-put-same}
use Rattle.transaction_defs.specs.Callers.{is_awaited, close, due}
use Rattle.transaction_defs.specs.Callees.{Verdict, new, again, stale, verdict, taken, keep, kept_reply}
use Rattle.message_types.specs.declared.e1.E1Message.{E1Message}
use Rattle.message_types.specs.declared.e1.E1Message.TheVariants as e1s
use Rattle.unit_defs.specs.Ways.{Message, e1, Taken, control, no, Input, control_input, packet_input, tick_input, order_input, Way, Answer, gives, spent, ◌then◌, nothing, puts, drops, teids_spent}
use Rattle.unit_defs.specs.Messages.{cause_busy, cause_quota, mode_uplinks, mode_switch, mode_freeze, mode_status, mode_resume, channel, are_bearers, bearers_of, statuses_of, teid_of}
use Rattle.unit_defs.specs.Teids.{teids_are_left, without_each}
use Rattle.unit_defs.specs.Transactions.{Kind, request, reply, transfer, kind_of, no_instance, Transactions, ask, advance, replied, answered_again, request_by, on_reply, on_request}
use Rattle.unit_defs.specs.CuUpRecords.{CuUpBearer, CuUpContext, CuUp, CuUpTunnel, cu_up_scope}
use Rattle.unit_defs.specs.CuUpBearers.{teids_of_bearer, has_downlink, with_uplink, switched, frozen_to, with_status, resumed, framed}
use Rattle.unit_defs.specs.CuUpItems.{held_reason, took}
use Rattle.unit_defs.specs.CuUp.{with_context, context_of, with_transactions, up_node, bearers_from, each_bearer, answer_with, end_where_over, replies, new_context, with_new, makes, fits, set_up_for, setup_response, setup_on, setup, modified, uplinks_from, teids_from, uplinks_given, add_uplinks, as_switched, switch, as_frozen, peer_node, statuses, freeze, as_known, status_each, take_status, as_resumed, resume, names, switch_if, freeze_if, status_if, resume_if, modify_on, as_released, released_on, release, asked, start, set_up, control_by, ue_in, is_own_cu_cp, control_received, with_bearer, taken_by, taken_in, taken_of, taken_on, take, poll_bearer, poll_on, poll, tick, closed_in, cu_up_acts}
use Rattle.proof_unit_steps.specs.answers.After.{HoldsAfter}
use Rattle.proof_unit_steps.specs.tunnel_frames.OneTunnel.{BearersInOrder}
use Rattle.proof_unit_steps.proofs.tunnel_frames.Contexts.{Apart, sorted_apart}
use Rattle.proof_cu_up_orders.specs.context_orders.Orders.{CuUpModel, model_with, ContextStep, adds, switches, freezes, knows, resumes, releases, takes, polls, kept_in, carried_out, carried}
use Rattle.proof_cu_up_orders.specs.context_orders.Inputs as orders
use Rattle.proof_cu_up_orders.specs.context_orders.Inputs.{only_if, closes_if, closes_after, new_teid, makes_with, setup_orders, switches_if, freezes_if, status_in, knows_if, modify_orders, release_orders, asked_orders, new_orders, control_orders, orders_of}
use Rattle.proof_cu_up_orders.specs.context_orders.Shown.{is_bearer, Follows, Untouched}
use Rattle.proof_cu_up_orders.proofs.context_orders.Others.{Off, off_ask, off_advance, off_due, off_framed, off_switched, off_frozen, off_resumed, off_took}
use Rattle.proof_cu_up_orders.proofs.context_orders.Bearers.{and_false, each_step, status_step, uplink_step, off_bearers, off_uplinks, off_statuses}
use Rattle.proof_cu_up_orders.proofs.context_rows.Contexts.{at_bearer, Does, Keeps, keeps_if, both_if, unless, unless_two, unless_and, does_at, does_first, then_keeps, off_first, off_then_does, one_order, replies_keep, answer_here, answer_off, closed_here, over_here, over_off, ended_off, release_here, released_sorted, put_off, new_here, new_off, bearer_here, bearer_beside, bearer_off}

module _ {M C P : Type 0} (way : Way M C P) (ue : UeId) (bearer : BearerId) where
  abbrev Record : Type 0
  Record = CuUp M C

  abbrev Orders : Type 0
  Orders = List (ContextStep P)

  -- a row of a terminal's context: what is asked of the bearer, where it is this terminal's
  by_terminal : (r : Record) (u : UeId) (os : UeId → Orders) (a : UeId → Answer M P Record)
      → Does way ue bearer (carried way ue bearer (os ue) (at_bearer way ue bearer r)) (a ue)
      → (eq_by_cmp ue_cmp ue u ≡ false → Keeps way ue bearer r (a u))
      → Does way ue bearer (carried way ue bearer (only_if way (eq_by_cmp ue_cmp ue u) (os u)) (at_bearer way ue bearer r)) (a u)
  by_terminal r u os a here off = by (eq_by_cmp ue_cmp ue u) refl
    where
      by : (t : Bool) → eq_by_cmp ue_cmp ue u ≡ t → Does way ue bearer (carried way ue bearer (only_if way t (os u)) (at_bearer way ue bearer r)) (a u)
      by true tie = subst (λ (v : UeId). Does way ue bearer (carried way ue bearer (os v) (at_bearer way ue bearer r)) (a v))
          (ue_exact ue u ((Equal-is (ue_cmp ue u)).0 tie)) here
      by false tie = off tie

  module _ (r : Record) (order : BearersInOrder r) where
    abbrev now : Option CuUpModel
    now = at_bearer way ue bearer r

    abbrev Is : Orders → Answer M P Record → Type 0
    Is os a = Does way ue bearer (carried way ue bearer os now) a

    abbrev Same : Answer M P Record → Type 0
    Same a = Keeps way ue bearer r a

    unexpected : Same (drops Unexpected r)
    unexpected = ((refl, refl), order)

    no_context : Same (drops NoContext r)
    no_context = ((refl, refl), order)

    -- ---- setup

    set_up_keeps : (ch : Channel) (u : UeId) (instance : ℕ) (forward : Bool) (s : Record) → BearersInOrder s → (c : Option CuUpContext)
        → Keeps way ue bearer s (set_up_for way ch u instance forward s c)
    set_up_keeps ch u instance forward s ordered None = ((refl, refl), ordered)
    set_up_keeps ch u instance forward s ordered (Some c) = replies_keep way ue bearer ch (setup_response way u instance forward c.bearers) s ordered

    makes_here : (sn : SnBits) (quota : ℕ) (target : Bool) (count : ℕ) → context_of r ue ≡ None
        → Is (makes_with way r.next_teid sn quota target (new_teid way target r.next_teid (bearers_from 1 count) bearer)) (makes way ue sn quota target count r)
    unfolding makes
    makes_here sn quota target count is = by (teids_are_left r.next_teid (count * teids_of_bearer target))
      where
        by : (t : Bool) → Is (makes_with way r.next_teid sn quota target (new_teid way target r.next_teid (bearers_from 1 count) bearer))
            (if t then with_new way ue r (count * teids_of_bearer target) (new_context way r sn quota target count) else spent teids_spent)
        by true = new_here way ue bearer r (count * teids_of_bearer target) sn quota target count is order
        by false = tt

    makes_off : (u : UeId) → eq_by_cmp ue_cmp ue u ≡ false → (sn : SnBits) (quota : ℕ) (target : Bool) (count : ℕ) → Same (makes way u sn quota target count r)
    unfolding makes
    makes_off u other sn quota target count = keeps_if way ue bearer r (teids_are_left r.next_teid (count * teids_of_bearer target)) _ (spent teids_spent)
        (new_off way ue bearer u other r (count * teids_of_bearer target) sn quota target count order) tt

    setup_here : (ch : Channel) (instance count : ℕ) (sn : SnBits) (quota : ℕ) (forward : Bool) (o : Option CuUpContext) → context_of r ue ≡ o
        → Is (setup_orders way r bearer count sn quota forward o) (setup_on way ch ue instance count sn quota forward r o)
    setup_here ch instance count sn quota forward (Some c) is = replies_keep way ue bearer ch (e1s.BearerContextSetupFailure ue instance cause_busy) r order
    setup_here ch instance count sn quota forward None is = by (fits way count quota r)
      where
        makes_then : Answer M P Record
        makes_then = makes way ue sn quota forward count r then (λ s. set_up_for way ch ue instance forward s (context_of s ue))

        by : (t : Bool) → Is (only_if way t (makes_with way r.next_teid sn quota forward (new_teid way forward r.next_teid (bearers_from 1 count) bearer)))
            (if not t then replies way ch (e1s.BearerContextSetupFailure ue instance cause_quota) r else makes_then)
        by true = then_keeps way ue bearer _ (makes way ue sn quota forward count r) (λ s. set_up_for way ch ue instance forward s (context_of s ue))
            (makes_here sn quota forward count is) (λ s ordered. set_up_keeps ch ue instance forward s ordered (context_of s ue))
        by false = replies_keep way ue bearer ch (e1s.BearerContextSetupFailure ue instance cause_quota) r order

    setup_off : (u : UeId) → eq_by_cmp ue_cmp ue u ≡ false → (ch : Channel) (instance count : ℕ) (sn : SnBits) (quota : ℕ) (forward : Bool) (o : Option CuUpContext)
        → Same (setup_on way ch u instance count sn quota forward r o)
    setup_off u other ch instance count sn quota forward (Some c) = replies_keep way ue bearer ch (e1s.BearerContextSetupFailure u instance cause_busy) r order
    setup_off u other ch instance count sn quota forward None =
        keeps_if way ue bearer r (not (fits way count quota r)) (replies way ch (e1s.BearerContextSetupFailure u instance cause_quota) r) _
        (replies_keep way ue bearer ch (e1s.BearerContextSetupFailure u instance cause_quota) r order)
        (then_keeps way ue bearer (nothing now) (makes way u sn quota forward count r) (λ s. set_up_for way ch u instance forward s (context_of s u))
        (makes_off u other sn quota forward count) (λ s ordered. set_up_keeps ch u instance forward s ordered (context_of s u)))

    -- ---- modifications of this terminal's context

    module _ (ch : Channel) (instance : ℕ) (c : CuUpContext) (is : context_of r ue ≡ Some c) where
      apart : Apart c.bearers
      apart = sorted_apart c.bearers (order ue c is)

      reply_last : (os : Orders) (a : Answer M P Record) (m : E1Message) → Is os a → Is os (a then replies way ch m)
      reply_last os a m h = then_keeps way ue bearer (carried way ue bearer os now) a (replies way ch m) h (λ s ordered. replies_keep way ue bearer ch m s ordered)

      is_other : (b : BearerId) → eq_by_cmp bearer_cmp bearer b ≡ false → is_bearer ue bearer ue b ≡ false
      is_other b off = and_false (eq_by_cmp ue_cmp ue ue) (eq_by_cmp bearer_cmp bearer b) off

      adds_here : Is (adds (teid_of (teids_from way r.next_teid c.bearers) bearer) ∷ []) (add_uplinks way ch ue instance c r)
      unfolding add_uplinks
      adds_here = by (teids_are_left r.next_teid (length c.bearers))
        where
          tunnels : List Tunnel
          tunnels = teids_from way r.next_teid c.bearers

          by : (t : Bool) → Is (adds (teid_of tunnels bearer) ∷ []) (if not t then spent teids_spent else
              (answer_with way (uplinks_given way ue r c tunnels) ue c (uplinks_from way r.next_teid c.bearers)
              then replies way ch (modified way ue instance (Some tunnels) None)))
          by false = tt
          by true = reply_last (adds (teid_of tunnels bearer) ∷ [])
              (answer_with way (uplinks_given way ue r c tunnels) ue c (uplinks_from way r.next_teid c.bearers)) (modified way ue instance (Some tunnels) None)
              (answer_here way ue bearer (uplinks_given way ue r c tunnels) c c (uplinks_from way r.next_teid c.bearers)
              (λ x. with_uplink way (teid_of tunnels bearer) x) (adds (teid_of tunnels bearer)) is order
              (uplink_step way ue bearer r.next_teid c.bearers apart) refl (λ x. refl))

      switch_here : (du : Option ℕ) (list : Option (List Tunnel)) → Is (switches_if way r.gnb bearer du list c) (switch_if way ch ue instance du list c r)
      unfolding switch
      switch_here (Some d) (Some list) =
          unless way ue bearer now (c.flags.released || not (are_bearers (names way c) (bearers_of list))) _ _ (drops Unexpected r) unexpected
          (reply_last (switches (du_id r.gnb d) (teid_of list bearer) ∷ []) (answer_with way r ue (as_switched way c) (each_bearer way row c.bearers))
          (modified way ue instance None None)
          (answer_here way ue bearer r c (as_switched way c) (each_bearer way row c.bearers) (row bearer) (switches (du_id r.gnb d) (teid_of list bearer)) is order
          (each_step way ue bearer row (λ b x off. off_switched way ue bearer (cu_up_scope ue (as_switched way c) b) (is_other b off) (du_id r.gnb d) (teid_of list b) x)
          c.bearers apart) refl (λ x. refl)))
        where
          row : BearerId → CuUpBearer → Answer M P CuUpBearer
          row b = switched way (cu_up_scope ue (as_switched way c) b) (du_id r.gnb d) (teid_of list b)
      switch_here (Some d) None = unexpected
      switch_here None list = unexpected

      freeze_here : (peer : Option Peer) (a b : Option (List Tunnel)) → Is (freezes_if way bearer peer a b c) (freeze_if way ch ue instance peer a b c r)
      unfolding freeze
      freeze_here (Some peer) (Some a) (Some b) =
          unless_and way ue bearer now
          (c.flags.frozen || c.flags.released || not c.flags.arrived || not (are_bearers (names way c) (bearers_of a)) || not (are_bearers (names way c) (bearers_of b)))
          c.flags.may_serve _ _ (drops Unexpected r) (replies way ch (e1s.BearerContextModificationFailure ue instance cause_busy) r) unexpected
          (replies_keep way ue bearer ch (e1s.BearerContextModificationFailure ue instance cause_busy) r order)
          (reply_last (freezes (peer_node way peer) (teid_of a bearer) (teid_of b bearer) ∷ [])
          (answer_with way r ue (as_frozen way c) (each_bearer way row c.bearers)) (modified way ue instance None (Some (statuses way c)))
          (answer_here way ue bearer r c (as_frozen way c) (each_bearer way row c.bearers) (row bearer)
          (freezes (peer_node way peer) (teid_of a bearer) (teid_of b bearer)) is order
          (each_step way ue bearer row
          (λ x y off. off_frozen way ue bearer (cu_up_scope ue (as_frozen way c) x) (is_other x off) (peer_node way peer) (teid_of a x) (teid_of b x) y)
          c.bearers apart) refl (λ x. refl)))
        where
          row : BearerId → CuUpBearer → Answer M P CuUpBearer
          row x = frozen_to way (cu_up_scope ue (as_frozen way c) x) (peer_node way peer) (teid_of a x) (teid_of b x)
      freeze_here (Some peer) (Some a) None = unexpected
      freeze_here (Some peer) None b = unexpected
      freeze_here None a b = unexpected

      status_here : (list : Option (List SnStatus)) → Is (knows_if way bearer list c) (status_if way ch ue instance list c r)
      unfolding take_status
      status_here (Some ss) = by c.flags.may_serve (are_bearers (names way c) (statuses_of ss)) refl
        where
          on : CuUpContext
          on = as_known way c

          by : (t u : Bool) → are_bearers (names way c) (statuses_of ss) ≡ u → Is (only_if way (not (t || not u)) (knows (status_in way ss bearer) ∷ []))
              (if t || not u then drops Unexpected r
              else (answer_with way r ue on (status_each way ue on ss c.bearers) then replies way ch (modified way ue instance None None)))
          by true u named = unexpected
          by false false named = unexpected
          by false true named = reply_last (knows (status_in way ss bearer) ∷ []) (answer_with way r ue on (status_each way ue on ss c.bearers))
              (modified way ue instance None None)
              (answer_here way ue bearer r c on (status_each way ue on ss c.bearers)
              (λ x. with_status way (cu_up_scope ue on bearer) (status_in way ss bearer) x) (knows (status_in way ss bearer)) is order
              (status_step way ue bearer on ss c.bearers apart named) refl (λ x. refl))
      status_here None = unexpected

      resume_here : Is (only_if way (c.flags.frozen && not c.flags.released) (resumes ∷ [])) (resume_if way ch ue instance c r)
      unfolding resume
      resume_here =
          both_if way ue bearer now (c.flags.frozen && not c.flags.released) (resumes ∷ []) [] _ (drops Unexpected r)
          (reply_last (resumes ∷ []) (answer_with way r ue (as_resumed way c) (each_bearer way row c.bearers)) (modified way ue instance None None)
          (answer_here way ue bearer r c (as_resumed way c) (each_bearer way row c.bearers) (row bearer) resumes is order
          (each_step way ue bearer row (λ b x off. off_resumed way ue bearer (cu_up_scope ue (as_resumed way c) b) (is_other b off) x) c.bearers apart) refl (λ x. refl)))
          unexpected
        where
          row : BearerId → CuUpBearer → Answer M P CuUpBearer
          row b = resumed way (cu_up_scope ue (as_resumed way c) b)

    modify_here : (ch : Channel) (instance : ℕ) (downlinks : Option (List Tunnel)) (mode : ℕ) (peer : Option Peer) (down up : Option (List Tunnel))
        (ss : Option (List SnStatus)) (du : Option ℕ) (o : Option CuUpContext) → context_of r ue ≡ o
        → Is (modify_orders way r bearer (e1s.BearerContextModificationRequest ue instance downlinks mode peer down up ss du) o)
        (modify_on way ch (e1s.BearerContextModificationRequest ue instance downlinks mode peer down up ss du) r o)
    modify_here ch instance downlinks mode peer down up ss du None is = no_context
    modify_here ch instance downlinks mode peer down up ss du (Some c) is =
        both_if way ue bearer now (mode == mode_uplinks) _ _ _ _
        (unless way ue bearer now c.flags.released _ _ (drops Unexpected r) unexpected (adds_here ch instance c is))
        (both_if way ue bearer now (mode == mode_switch) _ _ _ _ (switch_here ch instance c is du downlinks)
        (both_if way ue bearer now (mode == mode_freeze) _ _ _ _ (freeze_here ch instance c is peer down up)
        (both_if way ue bearer now (mode == mode_status) _ _ _ _ (status_here ch instance c is ss)
        (both_if way ue bearer now (mode == mode_resume) _ _ _ _ (resume_here ch instance c is) unexpected))))

    -- ---- and of another's

    module _ (u : UeId) (other : eq_by_cmp ue_cmp ue u ≡ false) (ch : Channel) (instance : ℕ) (c : CuUpContext) (is : context_of r u ≡ Some c) where
      reply_after : (a : Answer M P Record) (m : E1Message) → Same a → Same (a then replies way ch m)
      reply_after a m h = then_keeps way ue bearer (nothing now) a (replies way ch m) h (λ s ordered. replies_keep way ue bearer ch m s ordered)

      is_away : (b : BearerId) → is_bearer ue bearer u b ≡ false
      is_away b = ap (λ (t : Bool). t && eq_by_cmp bearer_cmp bearer b) other

      adds_off : Same (add_uplinks way ch u instance c r)
      unfolding add_uplinks
      adds_off = keeps_if way ue bearer r (not (teids_are_left r.next_teid (length c.bearers))) (spent teids_spent) _ tt
          (reply_after _ _ (answer_off way ue bearer u other (uplinks_given way u r c (teids_from way r.next_teid c.bearers)) c c
          (uplinks_from way r.next_teid c.bearers) is order (off_uplinks way ue bearer r.next_teid c.bearers)))

      switch_off : (du : Option ℕ) (list : Option (List Tunnel)) → Same (switch_if way ch u instance du list c r)
      unfolding switch
      switch_off (Some d) (Some list) = keeps_if way ue bearer r (c.flags.released || not (are_bearers (names way c) (bearers_of list))) (drops Unexpected r) _ unexpected
          (reply_after _ _ (answer_off way ue bearer u other r c (as_switched way c) (each_bearer way row c.bearers) is order
          (off_bearers way ue bearer row (λ b x. off_switched way ue bearer (cu_up_scope u (as_switched way c) b) (is_away b) (du_id r.gnb d) (teid_of list b) x) c.bearers)))
        where
          row : BearerId → CuUpBearer → Answer M P CuUpBearer
          row b = switched way (cu_up_scope u (as_switched way c) b) (du_id r.gnb d) (teid_of list b)
      switch_off (Some d) None = unexpected
      switch_off None list = unexpected

      freeze_off : (peer : Option Peer) (a b : Option (List Tunnel)) → Same (freeze_if way ch u instance peer a b c r)
      unfolding freeze
      freeze_off (Some peer) (Some a) (Some b) =
          keeps_if way ue bearer r
          (c.flags.frozen || c.flags.released || not c.flags.arrived || not (are_bearers (names way c) (bearers_of a)) || not (are_bearers (names way c) (bearers_of b)))
          (drops Unexpected r) _ unexpected
          (keeps_if way ue bearer r (not c.flags.may_serve) (replies way ch (e1s.BearerContextModificationFailure u instance cause_busy) r) _
          (replies_keep way ue bearer ch (e1s.BearerContextModificationFailure u instance cause_busy) r order)
          (reply_after _ _ (answer_off way ue bearer u other r c (as_frozen way c) (each_bearer way row c.bearers) is order
          (off_bearers way ue bearer row
          (λ x y. off_frozen way ue bearer (cu_up_scope u (as_frozen way c) x) (is_away x) (peer_node way peer) (teid_of a x) (teid_of b x) y) c.bearers))))
        where
          row : BearerId → CuUpBearer → Answer M P CuUpBearer
          row x = frozen_to way (cu_up_scope u (as_frozen way c) x) (peer_node way peer) (teid_of a x) (teid_of b x)
      freeze_off (Some peer) (Some a) None = unexpected
      freeze_off (Some peer) None b = unexpected
      freeze_off None a b = unexpected

      status_off : (list : Option (List SnStatus)) → Same (status_if way ch u instance list c r)
      unfolding take_status
      status_off (Some ss) = keeps_if way ue bearer r (c.flags.may_serve || not (are_bearers (names way c) (statuses_of ss))) (drops Unexpected r) _ unexpected
          (reply_after _ _ (answer_off way ue bearer u other r c (as_known way c) (status_each way u (as_known way c) ss c.bearers) is order
          (off_statuses way ue bearer u other (as_known way c) ss c.bearers)))
      status_off None = unexpected

      resume_off : Same (resume_if way ch u instance c r)
      unfolding resume
      resume_off = keeps_if way ue bearer r (c.flags.frozen && not c.flags.released) _ (drops Unexpected r)
          (reply_after _ _ (answer_off way ue bearer u other r c (as_resumed way c) (each_bearer way row c.bearers) is order
          (off_bearers way ue bearer row (λ b x. off_resumed way ue bearer (cu_up_scope u (as_resumed way c) b) (is_away b) x) c.bearers))) unexpected
        where
          row : BearerId → CuUpBearer → Answer M P CuUpBearer
          row b = resumed way (cu_up_scope u (as_resumed way c) b)

    modify_off : (u : UeId) → eq_by_cmp ue_cmp ue u ≡ false → (ch : Channel) (instance : ℕ) (downlinks : Option (List Tunnel)) (mode : ℕ) (peer : Option Peer)
        (down up : Option (List Tunnel)) (ss : Option (List SnStatus)) (du : Option ℕ) (o : Option CuUpContext) → context_of r u ≡ o
        → Same (modify_on way ch (e1s.BearerContextModificationRequest u instance downlinks mode peer down up ss du) r o)
    modify_off u other ch instance downlinks mode peer down up ss du None is = no_context
    modify_off u other ch instance downlinks mode peer down up ss du (Some c) is =
        keeps_if way ue bearer r (mode == mode_uplinks) _ _
        (keeps_if way ue bearer r c.flags.released (drops Unexpected r) _ unexpected (adds_off u other ch instance c is))
        (keeps_if way ue bearer r (mode == mode_switch) _ _ (switch_off u other ch instance c is du downlinks)
        (keeps_if way ue bearer r (mode == mode_freeze) _ _ (freeze_off u other ch instance c is peer down up)
        (keeps_if way ue bearer r (mode == mode_status) _ _ (status_off u other ch instance c is ss)
        (keeps_if way ue bearer r (mode == mode_resume) _ _ (resume_off u other ch instance c is) unexpected))))

    -- ---- release

    released_here : (is_final : Bool) (o : Option CuUpContext) → context_of r ue ≡ o → Is (release_orders way is_final o) (released_on way ue is_final r o)
    released_here is_final None is = ((refl, refl), order)
    released_here true (Some c) is = closed_here way ue bearer r c order
    released_here false (Some c) is =
        does_first way ue bearer (carried_out way ue bearer releases now) (carried way ue bearer (closes_if way (as_released way c)))
        (with_context ue r (as_released way c)) _ (release_here way ue bearer r c is order)
        (over_here way ue bearer (with_context ue r (as_released way c)) (as_released way c)
        (find-put-same ue_total r.contexts ue (as_released way c)) (released_sorted way ue bearer r ue c is order))

    released_off : (u : UeId) → eq_by_cmp ue_cmp ue u ≡ false → (is_final : Bool) (o : Option CuUpContext) → context_of r u ≡ o
        → Same (released_on way u is_final r o)
    released_off u other is_final None is = ((refl, refl), order)
    released_off u other true (Some c) is = ended_off way ue bearer u other r c order
    released_off u other false (Some c) is =
        does_first way ue bearer (nothing now) nothing (with_context u r (as_released way c)) _
        ((refl, put_off way ue bearer u other r (as_released way c)), released_sorted way ue bearer r u c is order)
        (over_off way ue bearer u other (with_context u r (as_released way c)) (released_sorted way ue bearer r u c is order))

  -- ---- requests and replies

  release_does : (ch : Channel) (u : UeId) (instance : ℕ) (is_final : Bool) (r : Record) → BearersInOrder r
      → Does way ue bearer (carried way ue bearer (only_if way (eq_by_cmp ue_cmp ue u) (release_orders way is_final (context_of r u))) (at_bearer way ue bearer r))
      (release way ch u instance is_final r)
  unfolding release replied
  release_does ch u instance is_final r order =
      off_first way ue bearer (carried way ue bearer (only_if way (eq_by_cmp ue_cmp ue u) (release_orders way is_final (context_of r u))) (at_bearer way ue bearer r))
      (control ch.peer ch.ue (way.encode (e1 (e1s.BearerContextReleaseComplete u instance))) ∷ []) (released_on way u is_final later (context_of later u)) refl
      (by_terminal later u (λ v. release_orders way is_final (context_of later v)) (λ v. released_on way v is_final later (context_of later v))
      (released_here later order is_final (context_of later ue) refl) (λ other. released_off later order u other is_final (context_of later u) refl))
    where
      later : Record
      later = with_transactions r (record r.transactions {
        callee = keep r.transactions.callee ch (way.encode (e1 (e1s.BearerContextReleaseComplete u instance)));
      })

  asked_does : (ch : Channel) (m : Message C) (r : Record) → BearersInOrder r
      → Does way ue bearer (carried way ue bearer (asked_orders way r ue bearer m) (at_bearer way ue bearer r)) (asked way ch m r)
  unfolding setup
  asked_does ch (e1 (e1s.BearerContextSetupRequest u instance count sn quota forward)) r order =
      by_terminal r u (λ v. setup_orders way r bearer count sn quota forward (context_of r v)) (λ v. setup way ch v instance count sn quota forward r)
      (setup_here r order ch instance count sn quota forward (context_of r ue) refl)
      (λ other. setup_off r order u other ch instance count sn quota forward (context_of r u))
  asked_does ch (e1 (e1s.BearerContextModificationRequest u instance downlinks mode peer down up ss du)) r order =
      by_terminal r u (λ v. modify_orders way r bearer (e1s.BearerContextModificationRequest v instance downlinks mode peer down up ss du) (context_of r v))
      (λ v. modify_on way ch (e1s.BearerContextModificationRequest v instance downlinks mode peer down up ss du) r (context_of r v))
      (modify_here r order ch instance downlinks mode peer down up ss du (context_of r ue) refl)
      (λ other. modify_off r order u other ch instance downlinks mode peer down up ss du (context_of r u) refl)
  asked_does ch (e1 (e1s.BearerContextReleaseCommand u instance is_final)) r order = release_does ch u instance is_final r order
  asked_does ch m r order = ((refl, refl), order)

  -- what is asked doesn't depend on requests and replies
  new_does : (ch : Channel) (m : Message C) (r : Record) (t : Transactions M C) → BearersInOrder r
      → Does way ue bearer (carried way ue bearer (asked_orders way r ue bearer m) (at_bearer way ue bearer r)) (asked way ch m (with_transactions r t))
  unfolding fits
  new_does ch m r t order = asked_does ch m (with_transactions r t) order

  control_does : (ch : Channel) (m : Message C) (r : Record) (k : Kind) → BearersInOrder r
      → Does way ue bearer (carried way ue bearer (control_orders way r ue bearer ch m k) (at_bearer way ue bearer r)) (control_by way ch m r k)
  unfolding on_request on_reply set_up
  control_does ch m r (request u i) order = by (verdict r.transactions.callee ch i)
    where
      kept_again : (kept : Option M) → Keeps way ue bearer r (answered_again way r ch kept)
      kept_again None = ((refl, refl), order)
      kept_again (Some m) = ((refl, refl), order)

      by : (v : Verdict) → Does way ue bearer (carried way ue bearer (new_orders way (asked_orders way r ue bearer m) v) (at_bearer way ue bearer r))
          (request_by way r r.transactions ch i (λ t. asked way ch m (with_transactions r t)) v)
      by new = new_does ch m r (record r.transactions { callee = taken r.transactions.callee ch i }) order
      by again = kept_again (kept_reply r.transactions.callee ch)
      by stale = ((refl, refl), order)
  control_does ch m r (reply u i) order =
      let t : Transactions M C = record r.transactions { caller = close r.transactions.caller ch } in
      keeps_if way ue bearer r (is_awaited r.transactions.caller ch i) _ (drops Stale r)
      (off_then_does way ue bearer (nothing (at_bearer way ue bearer r)) (advance way t ch) (λ a. nothing (record r { is_set_up = true; transactions = a.transactions }))
      (off_advance way ue bearer t ch) (λ a. ((refl, refl), order))) ((refl, refl), order)
  control_does ch m r (transfer u) order = ((refl, refl), order)

  -- ---- items, polls, ticks

  module _ (r : Record) (order : BearersInOrder r) where
    abbrev Put : UeId → CuUpContext → BearerId → CuUpBearer → Record
    Put u c b y = with_context u r (record c { bearers = put bearer_cmp c.bearers b y })

    -- of this terminal's context: the bearer takes it, or another one
    item_here : (c : CuUpContext) (x : CuUpBearer) (t : CuUpTunnel) (teid : ℕ) (item : Taken P) → context_of r ue ≡ Some c → find bearer_cmp c.bearers bearer ≡ Some x
        → (a : Answer M P CuUpBearer) → took way (cu_up_scope ue c bearer) t.kind teid item x ≡ a
        → Does way ue bearer (carried way ue bearer (takes t.kind teid item ∷ closes_after way c bearer a) (at_bearer way ue bearer r))
        (with_bearer way r ue c bearer a then end_where_over way ue)
    item_here c x t teid item is there (spent k) same = tt
    item_here c x t teid item is there (gives os y) same =
        let first = bearer_here way ue bearer r c x (takes t.kind teid item) (gives os y) is there order (ap (kept_in (model_with ue c bearer x)) same) in
        let now : CuUpContext = record c { bearers = put bearer_cmp c.bearers bearer y } in
        does_at way ue bearer (carried_out way ue bearer (takes t.kind teid item) (at_bearer way ue bearer r)) (carried way ue bearer (closes_if way now)) os after
        (end_where_over way ue after) first (over_here way ue bearer after now (find-put-same ue_total r.contexts ue now) first.1)
      where
        after : Record
        after = record (with_context ue r (record c { bearers = put bearer_cmp c.bearers bearer y })) { tunnels = without_each r.tunnels (flat_map (closed_in {M = M} {P = P}) os) }

    item_beside : (c : CuUpContext) (b : BearerId) → eq_by_cmp bearer_cmp bearer b ≡ false → context_of r ue ≡ Some c → (a : Answer M P CuUpBearer)
        → Off way ue bearer a
        → Does way ue bearer (carried way ue bearer (closes_after way c b a) (at_bearer way ue bearer r)) (with_bearer way r ue c b a then end_where_over way ue)
    item_beside c b other is (spent k) off = tt
    item_beside c b other is (gives os y) off =
        let first = bearer_beside way ue bearer r c b (gives os y) other is order off in
        let now : CuUpContext = record c { bearers = put bearer_cmp c.bearers b y } in
        off_first way ue bearer (carried way ue bearer (closes_if way now) (at_bearer way ue bearer r)) os (end_where_over way ue after) off
        (subst (λ (p : Option CuUpModel). Does way ue bearer (carried way ue bearer (closes_if way now) p) (end_where_over way ue after)) first.0.1
        (over_here way ue bearer after now (find-put-same ue_total r.contexts ue now) first.1))
      where
        after : Record
        after = record (with_context ue r (record c { bearers = put bearer_cmp c.bearers b y })) { tunnels = without_each r.tunnels (flat_map (closed_in {M = M} {P = P}) os) }

    abbrev of : UeId → CuUpTunnel → CuUpTunnel
    of u t = record t { ue = u }

    taken_here : (t : CuUpTunnel) (teid : ℕ) (item : Taken P) (c : CuUpContext) (x : CuUpBearer) → context_of r ue ≡ Some c → find bearer_cmp c.bearers t.bearer ≡ Some x
        → (reason : Option HeldReason)
        → Does way ue bearer (carried way ue bearer (orders.taken_by way bearer (of ue t) teid item c x reason) (at_bearer way ue bearer r))
        (taken_by way r (of ue t) teid item c x reason)
    taken_here t teid item c x is there (Some reason) = ((refl, refl), order)
    taken_here t teid item c x is there None = by (eq_by_cmp bearer_cmp bearer t.bearer) refl
      where
        by : (b : Bool) → eq_by_cmp bearer_cmp bearer t.bearer ≡ b
            → Does way ue bearer (carried way ue bearer (only_if way b (takes t.kind teid item ∷ [])
            ++ closes_after way c t.bearer (took way (cu_up_scope ue c t.bearer) t.kind teid item x)) (at_bearer way ue bearer r))
            (with_bearer way r ue c t.bearer (took way (cu_up_scope ue c t.bearer) t.kind teid item x) then end_where_over way ue)
        by true tie =
            let same : bearer ≡ t.bearer = bearer_exact bearer t.bearer ((Equal-is (bearer_cmp bearer t.bearer)).0 tie) in
            subst (λ (b : BearerId). Does way ue bearer (carried way ue bearer (takes t.kind teid item
            ∷ closes_after way c b (took way (cu_up_scope ue c b) t.kind teid item x)) (at_bearer way ue bearer r))
            (with_bearer way r ue c b (took way (cu_up_scope ue c b) t.kind teid item x) then end_where_over way ue)) same
            (item_here c x t teid item is (subst (λ (b : BearerId). find bearer_cmp c.bearers b ≡ Some x) (sym same) there)
            (took way (cu_up_scope ue c bearer) t.kind teid item x) refl)
        by false tie =
            item_beside c t.bearer tie is (took way (cu_up_scope ue c t.bearer) t.kind teid item x)
            (off_took way ue bearer (cu_up_scope ue c t.bearer) (and_false (eq_by_cmp ue_cmp ue ue) (eq_by_cmp bearer_cmp bearer t.bearer) tie) t.kind teid item x)

    taken_in_here : (t : CuUpTunnel) (teid : ℕ) (item : Taken P) (c : CuUpContext) → context_of r ue ≡ Some c → (o : Option CuUpBearer) → find bearer_cmp c.bearers t.bearer ≡ o
        → Does way ue bearer (carried way ue bearer (orders.taken_in way bearer (of ue t) teid item c o) (at_bearer way ue bearer r)) (taken_in way r (of ue t) teid item c o)
    taken_in_here t teid item c is None there = ((refl, refl), order)
    taken_in_here t teid item c is (Some x) there = taken_here t teid item c x is there (held_reason (cu_up_scope ue c t.bearer) x t.kind item)

    taken_of_here : (t : CuUpTunnel) (teid : ℕ) (item : Taken P) (o : Option CuUpContext) → context_of r ue ≡ o
        → Does way ue bearer (carried way ue bearer (orders.taken_of way bearer (of ue t) teid item o) (at_bearer way ue bearer r)) (taken_of way r (of ue t) teid item o)
    taken_of_here t teid item None is = ((refl, refl), order)
    taken_of_here t teid item (Some c) is = taken_in_here t teid item c is (find bearer_cmp c.bearers t.bearer) refl

    module _ (t : CuUpTunnel) (other : eq_by_cmp ue_cmp ue t.ue ≡ false) (teid : ℕ) (item : Taken P) where
      taken_off : (c : CuUpContext) (x : CuUpBearer) → context_of r t.ue ≡ Some c → (reason : Option HeldReason) → Keeps way ue bearer r (taken_by way r t teid item c x reason)
      taken_off c x is (Some reason) = ((refl, refl), order)
      taken_off c x is None =
          then_keeps way ue bearer (nothing (at_bearer way ue bearer r)) (with_bearer way r t.ue c t.bearer a) (end_where_over way t.ue)
          (bearer_off way ue bearer t.ue other r c t.bearer a is order
          (off_took way ue bearer (cu_up_scope t.ue c t.bearer) (ap (λ (b : Bool). b && eq_by_cmp bearer_cmp bearer t.bearer) other) t.kind teid item x))
          (λ s ordered. over_off way ue bearer t.ue other s ordered)
        where
          a : Answer M P CuUpBearer
          a = took way (cu_up_scope t.ue c t.bearer) t.kind teid item x

      taken_in_off : (c : CuUpContext) → context_of r t.ue ≡ Some c → (o : Option CuUpBearer) → Keeps way ue bearer r (taken_in way r t teid item c o)
      taken_in_off c is None = ((refl, refl), order)
      taken_in_off c is (Some x) = taken_off c x is (held_reason (cu_up_scope t.ue c t.bearer) x t.kind item)

      taken_of_off : (o : Option CuUpContext) → context_of r t.ue ≡ o → Keeps way ue bearer r (taken_of way r t teid item o)
      taken_of_off None is = ((refl, refl), order)
      taken_of_off (Some c) is = taken_in_off c is (find bearer_cmp c.bearers t.bearer)

    take_does : (teid : ℕ) (item : Taken P)
        → Does way ue bearer (carried way ue bearer (orders.taken_on way r ue bearer teid item (find nat_cmp r.tunnels teid)) (at_bearer way ue bearer r)) (take way teid item r)
    unfolding take
    take_does teid item = by (find nat_cmp r.tunnels teid)
      where
        by : (o : Option CuUpTunnel)
            → Does way ue bearer (carried way ue bearer (orders.taken_on way r ue bearer teid item o) (at_bearer way ue bearer r)) (taken_on way r teid item o)
        by None = ((refl, refl), order)
        by (Some t) =
            by_terminal r t.ue (λ v. orders.taken_of way bearer (of v t) teid item (context_of r v)) (λ v. taken_of way r (of v t) teid item (context_of r v))
            (taken_of_here t teid item (context_of r ue) refl) (λ other. taken_of_off t other teid item (context_of r t.ue) refl)

    -- ---- a poll

    poll_here : (c : CuUpContext) → context_of r ue ≡ Some c → (o : Option CuUpBearer) → find bearer_cmp c.bearers bearer ≡ o
        → Does way ue bearer (carried way ue bearer (orders.polls_if way c o) (at_bearer way ue bearer r)) (poll_bearer way r ue c bearer o)
    poll_here c is None there = ((refl, refl), order)
    poll_here c is (Some x) there =
        unless_two way ue bearer (at_bearer way ue bearer r) (length x.sender.unconfirmed == 0) (c.flags.frozen || not (has_downlink x.downlink)) (polls ∷ [])
        (with_bearer way r ue c bearer (framed way (cu_up_scope ue c bearer) true false None Absent x)) (puts (no Empty) r) (puts (no NoRadio) r)
        ((refl, refl), order) ((refl, refl), order)
        (one_order way ue bearer polls (at_bearer way ue bearer r) (with_bearer way r ue c bearer (framed way (cu_up_scope ue c bearer) true false None Absent x))
        (bearer_here way ue bearer r c x polls (framed way (cu_up_scope ue c bearer) true false None Absent x) is there order refl))

    -- of another bearer
    poll_off : (u : UeId) (b : BearerId) → is_bearer ue bearer u b ≡ false → (o : Option CuUpContext) → context_of r u ≡ o → Keeps way ue bearer r (poll_on way r u b o)
    poll_off u b other None is = ((refl, refl), order)
    poll_off u b other (Some c) is = in_context (find bearer_cmp c.bearers b)
      where
        framed_off : (x : CuUpBearer) → Off way ue bearer (framed way (cu_up_scope u c b) true false None Absent x)
        framed_off x = off_framed way ue bearer (cu_up_scope u c b) other true false None Absent x

        put_frame : (x : CuUpBearer) (t : Bool) → eq_by_cmp ue_cmp ue u ≡ t
            → Keeps way ue bearer r (with_bearer way r u c b (framed way (cu_up_scope u c b) true false None Absent x))
        put_frame x true tie =
            let same : ue ≡ u = ue_exact ue u ((Equal-is (ue_cmp ue u)).0 tie) in
            let off : eq_by_cmp bearer_cmp bearer b ≡ false = sym (ap (λ (t : Bool). t && eq_by_cmp bearer_cmp bearer b) tie) ∙ other in
            subst (λ (v : UeId). Off way ue bearer (framed way (cu_up_scope v c b) true false None Absent x) → context_of r v ≡ Some c
            → Keeps way ue bearer r (with_bearer way r v c b (framed way (cu_up_scope v c b) true false None Absent x))) same
            (λ none at. bearer_beside way ue bearer r c b (framed way (cu_up_scope ue c b) true false None Absent x) off at order none) (framed_off x) is
        put_frame x false tie = bearer_off way ue bearer u tie r c b (framed way (cu_up_scope u c b) true false None Absent x) is order (framed_off x)

        in_context : (o : Option CuUpBearer) → Keeps way ue bearer r (poll_bearer way r u c b o)
        in_context None = ((refl, refl), order)
        in_context (Some x) =
            keeps_if way ue bearer r (length x.sender.unconfirmed == 0) (puts (no Empty) r) _ ((refl, refl), order)
            (keeps_if way ue bearer r (c.flags.frozen || not (has_downlink x.downlink)) (puts (no NoRadio) r) _ ((refl, refl), order)
            (put_frame x (eq_by_cmp ue_cmp ue u) refl))

    poll_does : (u : UeId) (b : BearerId)
        → Does way ue bearer (carried way ue bearer (only_if way (is_bearer ue bearer u b) (orders.polls_on way bearer (context_of r u))) (at_bearer way ue bearer r))
        (poll way u b r)
    unfolding poll
    poll_does u b = by (eq_by_cmp ue_cmp ue u) refl (eq_by_cmp bearer_cmp bearer b) refl
      where
        on : (o : Option CuUpContext) → context_of r ue ≡ o
            → Does way ue bearer (carried way ue bearer (orders.polls_on way bearer o) (at_bearer way ue bearer r)) (poll_on way r ue bearer o)
        on None is = ((refl, refl), order)
        on (Some c) is = poll_here c is (find bearer_cmp c.bearers bearer) refl

        by : (s : Bool) → eq_by_cmp ue_cmp ue u ≡ s → (t : Bool) → eq_by_cmp bearer_cmp bearer b ≡ t
            → Does way ue bearer (carried way ue bearer (only_if way (s && t) (orders.polls_on way bearer (context_of r u))) (at_bearer way ue bearer r))
            (poll_on way r u b (context_of r u))
        by true tie true same =
            subst (λ (v : UeId). Does way ue bearer (carried way ue bearer (orders.polls_on way bearer (context_of r v)) (at_bearer way ue bearer r))
            (poll_on way r v b (context_of r v))) (ue_exact ue u ((Equal-is (ue_cmp ue u)).0 tie))
            (subst (λ (a : BearerId). Does way ue bearer (carried way ue bearer (orders.polls_on way bearer (context_of r ue)) (at_bearer way ue bearer r))
            (poll_on way r ue a (context_of r ue))) (bearer_exact bearer b ((Equal-is (bearer_cmp bearer b)).0 same)) (on (context_of r ue) refl))
        by true tie false off = poll_off u b (and_false (eq_by_cmp ue_cmp ue u) (eq_by_cmp bearer_cmp bearer b) off) (context_of r u) refl
        by false off t same = poll_off u b (ap (λ (x : Bool). x && eq_by_cmp bearer_cmp bearer b) off) (context_of r u) refl

    start_keeps : Keeps way ue bearer r (start way r)
    unfolding start
    start_keeps =
        keeps_if way ue bearer r r.is_set_up (nothing r) _ ((refl, refl), order)
        (off_then_does way ue bearer (nothing (at_bearer way ue bearer r)) (ask way r.transactions (channel 0 (CuCp r.gnb))
        (record { message = e1 (e1s.E1SetupRequest no_instance (node_text (up_node r))); deadline = None; awaited = false }))
        (λ a. nothing (with_transactions r a.transactions)) (off_ask way ue bearer r.transactions (channel 0 (CuCp r.gnb)) _) (λ a. ((refl, refl), order)))

    tick_keeps : Keeps way ue bearer r (tick way r)
    unfolding tick
    tick_keeps = ((off_due way ue bearer (due r.transactions.caller), refl), order)

  pub all_does : (r : Record) (input : Input C P) → BearersInOrder r
      → Does way ue bearer (carried way ue bearer (orders_of way r ue bearer input) (at_bearer way ue bearer r)) (cu_up_acts way r input)
  unfolding cu_up_acts control_received
  all_does r (control_input from m) order =
      both_if way ue bearer (at_bearer way ue bearer r) (is_own_cu_cp way r.gnb from)
      (control_orders way r ue bearer (channel (ue_in way (kind_of m)) from) m (kind_of m)) []
      (control_by way (channel (ue_in way (kind_of m)) from) m r (kind_of m)) (drops Unexpected r)
      (control_does (channel (ue_in way (kind_of m)) from) m r (kind_of m) order) ((refl, refl), order)
  all_does r (packet_input teid item) order = take_does r order teid item
  all_does r tick_input order = tick_keeps r order
  all_does r (order_input inputs.Start) order = start_keeps r order
  all_does r (order_input (inputs.Poll u b)) order = poll_does r order u b
  all_does r input order = ((refl, refl), order)

  pub follows : (a : Answer M P Record) (k : Answer M P (Option CuUpModel)) → Does way ue bearer k a → Follows ue bearer k a
  follows (gives os s) k h = h.0
  follows (spent c) k h = tt

  pub stays_in_order : (a : Answer M P Record) (k : Answer M P (Option CuUpModel)) → Does way ue bearer k a → HoldsAfter BearersInOrder a
  stays_in_order (gives os s) k h = h.1
  stays_in_order (spent c) k h = tt

  pub untouched : (r : Record) (a : Answer M P Record) (os : Orders) → os ≡ []
      → Does way ue bearer (carried way ue bearer os (at_bearer way ue bearer r)) a → Untouched ue bearer (at_bearer way ue bearer r) a
  untouched r (spent c) os none h = tt
  untouched r (gives more s) os none h =
      (subst (λ (xs : Orders). Does way ue bearer (carried way ue bearer xs (at_bearer way ue bearer r)) (gives more s)) none h).0

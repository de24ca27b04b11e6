-- What a CU-UP does for a terminal depends on the terminal's projection, on what is shared, and on whether there is room.
use Rattle.std.proofs.Common.{◌≡◌, ℕ, ◌*◌, ◌==◌, Bool, true, false, not, ◌&&◌, ◌||◌, cond, List, [], ◌∷◌, length, Option, Some, None, refl, sym, ap, ◌∙◌, subst}
use Rattle.std.specs.Prelude.{if◌then◌else◌}
use Rattle.std.specs.List.{flat_map, list_all}
use Rattle.std.specs.Ordering.{nat_cmp, eq_by_cmp}
use Rattle.std.specs.Cmp.{nat_cmp_total}
use Rattle.std.proofs.lemmas.Bool.{eq-eqb}
use Rattle.gnb_types.specs.declared.names.Gnb.{Gnb}
use Rattle.gnb_types.specs.declared.names.NodeId.{NodeId}
use Rattle.gnb_types.specs.declared.names.NodeId.TheVariants.{CuCp, CuUp as up_id, Du, Core, Ue}
use Rattle.gnb_types.specs.declared.names.UeId.{UeId}
use Rattle.gnb_types.specs.declared.names.BearerId.{BearerId}
use Rattle.gnb_types.specs.declared.names.SnBits.{SnBits}
use Rattle.gnb_types.specs.declared.plans.Peer.{Peer}
use Rattle.gnb_types.specs.declared.plans.Tunnel.{Tunnel}
use Rattle.gnb_types.specs.declared.plans.SnStatus.{SnStatus}
use Rattle.gnb_types.specs.declared.inputs.Order.{Order}
use Rattle.gnb_types.specs.declared.inputs.Order.TheVariants as orders
use Rattle.gnb_types.specs.declared.outputs.Tag.TheVariants.{Absent}
use Rattle.gnb_types.specs.declared.reasons.DropReason.TheVariants.{NoContext, NoTunnel, Unexpected}
use Rattle.gnb_types.specs.declared.reasons.HeldReason.{HeldReason}
use Rattle.gnb_types.specs.declared.reasons.RefuseReason.TheVariants.{Empty, NoRadio}
use Rattle.gnb_types.specs.Names.{node_text}
use Rattle.gnb_types.specs.Orders.{bearer_cmp}
use Rattle.gnb_types.proofs.OrderLemmas.{ue_total}
use Rattle.tables.specs.Tables.{find, put, without}
use Rattle.tables.proofs.TableLaws.{find-put, find-without}
use Rattle.transaction_defs.specs.Callers.{close}
use Rattle.message_types.specs.declared.e1.E1Message.{E1Message}
use Rattle.message_types.specs.declared.e1.E1Message.TheVariants as e1s
use Rattle.unit_defs.specs.Ways.{Message, e1, Taken, dropped, held, no, Input, control_input, packet_input, order_input, Output, Way, Answer, gives, spent, ◌then◌, nothing, drops}
use Rattle.unit_defs.specs.Messages.{cause_quota, cause_busy, mode_uplinks, mode_switch, mode_freeze, mode_status, mode_resume, channel, bearers_of, statuses_of, are_bearers, teid_of}
use Rattle.unit_defs.specs.Teids.{teids_are_left, teid_after, without_each}
use Rattle.unit_defs.specs.Transactions.{Kind, request, reply, transfer, kind_of, no_instance, Transactions, Waiting, ask}
use Rattle.unit_defs.specs.CuUpRecords.{CuUpBearer, CuUpContext, CuUpTunnel, CuUp, cu_up_scope}
use Rattle.unit_defs.specs.CuUpBearers.{teids_of_bearer, switched, is_over, open_teids, has_downlink, framed}
use Rattle.unit_defs.specs.CuUpItems.{held_reason, took}
use Rattle.unit_defs.specs.CuUp.{context_of, with_context, with_transactions, bearers_from, bearers_made, entries_of, with_entries, closed_in, new_flags_of, UpStep, steps, stops, each_bearer, answer_with, closings, ended, ended_if_over, end_where_over, replies, setup_response, opened_of, with_new, makes, fits, set_up_for, setup_on, setup, modified, uplinks_from, teids_from, uplink_entries, uplinks_given, add_uplinks, as_switched, switch, as_frozen, statuses, freeze, as_known, take_status, as_resumed, resume, names, switch_if, freeze_if, status_if, resume_if, modify_on, as_released, released_on, release, asked, start, set_up, control_by, ue_in as kind_ue, is_own_cu_cp, control_received, with_bearer, taken_by, taken_in, taken_of, taken_on, take, poll_bearer, poll_on, poll, ordered, cu_up_acts}
use Rattle.law_terminals_are_isolated.specs.projections.Projections.{Requests, requests_of, ue_in, message_ue, order_ue}
use Rattle.law_terminals_are_isolated.specs.projections.Steps.{seen}
use Rattle.law_terminals_are_isolated.proofs.projections.Answers.{same_then, same_if}
use Rattle.law_terminals_are_isolated.proofs.projections.Tables.{same_put, same_without}
use Rattle.law_terminals_are_isolated.proofs.projections.EqualStates.{asked_view, EqualStates, equal_closed, ask_equal, advance_equal, replied_equal, on_request_equal, on_reply_equal}
use Rattle.law_terminals_are_isolated.specs.cu_up_projection.CuUps.{CuUpProjection, own_tunnel, UpShared, cu_up_view, SameRoom, tunnel_ue, cu_up_ue}

-- ---- tunnels of a terminal, in two tables

module _ (ue : UeId) where
  abbrev AreEqual : List (ℕ × CuUpTunnel) → List (ℕ × CuUpTunnel) → Type 0
  AreEqual m n = (teid : ℕ) → own_tunnel ue (find nat_cmp m teid) ≡ own_tunnel ue (find nat_cmp n teid)

  at_key : (b : Bool) (v x y : Option CuUpTunnel) → own_tunnel ue x ≡ own_tunnel ue y → own_tunnel ue (cond b v x) ≡ own_tunnel ue (cond b v y)
  at_key true v x y e = refl
  at_key false v x y e = e

  put_equal : (m n : List (ℕ × CuUpTunnel)) (k : ℕ) (t : CuUpTunnel) → AreEqual m n → AreEqual (put nat_cmp m k t) (put nat_cmp n k t)
  put_equal m n k t e teid =
      ap (own_tunnel ue) (find-put nat_cmp_total m k t teid)
      ∙ at_key (eq_by_cmp nat_cmp teid k) (Some t) (find nat_cmp m teid) (find nat_cmp n teid) (e teid)
      ∙ sym (ap (own_tunnel ue) (find-put nat_cmp_total n k t teid))

  without_equal : (m n : List (ℕ × CuUpTunnel)) (k : ℕ) → AreEqual m n → AreEqual (without nat_cmp m k) (without nat_cmp n k)
  without_equal m n k e teid =
      ap (own_tunnel ue) (find-without nat_cmp_total m k teid)
      ∙ at_key (eq_by_cmp nat_cmp teid k) None (find nat_cmp m teid) (find nat_cmp n teid) (e teid)
      ∙ sym (ap (own_tunnel ue) (find-without nat_cmp_total n k teid))

  each_equal : (ts : List ℕ) (m n : List (ℕ × CuUpTunnel)) → AreEqual m n → AreEqual (without_each m ts) (without_each n ts)
  each_equal [] m n e = e
  each_equal (t ∷ ts) m n e = each_equal ts (without nat_cmp m t) (without nat_cmp n t) (without_equal m n t e)

  entries_equal : (es m n : List (ℕ × CuUpTunnel)) → AreEqual m n → AreEqual (with_entries m es) (with_entries n es)
  entries_equal [] m n e = e
  entries_equal (x ∷ xs) m n e = entries_equal xs (put nat_cmp m x.0 x.1) (put nat_cmp n x.0 x.1) (put_equal m n x.0 x.1 e)

module _ {M C P : Type 0} (way : Way M C P) where
  abbrev pub View : Type 0
  View = CuUpProjection M C × UpShared

  abbrev pub Same : UeId → Answer M P (CuUp M C) → Answer M P (CuUp M C) → Type 0
  Same ue a b = seen (cu_up_view ue) a ≡ seen (cu_up_view ue) b

  abbrev pub Common : UeId → CuUp M C → CuUp M C → Type 0
  Common ue r q = cu_up_view ue r ≡ cu_up_view ue q

  puts_same : (ue : UeId) (outputs : List (Output M P)) (r q : CuUp M C) → Common ue r q → Same ue (gives outputs r) (gives outputs q)
  puts_same ue outputs r q e = ap (λ (v : View). gives outputs v) e

  context_same : (ue : UeId) (r q : CuUp M C) → Common ue r q → context_of r ue ≡ context_of q ue
  context_same ue r q e = ap (λ (v : View). v.0.context) e

  requests_same : (ue : UeId) (r q : CuUp M C) → Common ue r q → EqualStates way ue.0 r.transactions q.transactions
  requests_same ue r q e = ap (λ (v : View). v.0.requests) e

  with_same : (ue : UeId) (r q : CuUp M C) (t u : Transactions M C) → Common ue r q → EqualStates way ue.0 t u
      → Common ue (with_transactions r t) (with_transactions q u)
  with_same ue r q t u e a = λ i. (record { context = (e i).0.context; tunnels = (e i).0.tunnels; requests = a i }, (e i).1)

  put_same : (ue : UeId) (c : CuUpContext) (r q : CuUp M C) → Common ue r q → Common ue (with_context ue r c) (with_context ue q c)
  put_same ue c r q e = λ i. (
    record (e i).0 { context = same_put ue_total r.contexts q.contexts ue ue c (context_same ue r q e) i },
    (e i).1,
  )

  replies_same : (ue : UeId) (from : NodeId) (m : E1Message) (r q : CuUp M C) → Common ue r q
      → Same ue (replies way (channel ue.0 from) m r) (replies way (channel ue.0 from) m q)
  replies_same ue from m r q e =
      same_then (requests_of ue.0) (cu_up_view ue) _ _ _ _
      (replied_equal way r.transactions q.transactions (channel ue.0 from) (e1 m) (requests_same ue r q e))
      (λ t u a. puts_same ue [] (with_transactions r t) (with_transactions q u) (with_same ue r q t u e a))

  answer_same : (ue : UeId) (c : CuUpContext) (x : UpStep way) (r q : CuUp M C) → Common ue r q
      → Same ue (answer_with way r ue c x) (answer_with way q ue c x)
  answer_same ue c (steps outputs bearers) r q e =
      puts_same ue outputs (with_context ue r (record c { bearers = bearers })) (with_context ue q (record c { bearers = bearers }))
      (put_same ue (record c { bearers = bearers }) r q e)
  answer_same ue c (stops counter) r q e = refl

  -- the bearers of a context change, and this is replied
  answered_same : (ue : UeId) (from : NodeId) (m : E1Message) (c : CuUpContext) (x : UpStep way) (r q : CuUp M C) → Common ue r q → Same ue
      (answer_with way r ue c x then replies way (channel ue.0 from) m) (answer_with way q ue c x then replies way (channel ue.0 from) m)
  answered_same ue from m c x r q e =
      same_then (cu_up_view ue) (cu_up_view ue) (answer_with way r ue c x) (answer_with way q ue c x) _ _ (answer_same ue c x r q e)
      (λ a b f. replies_same ue from m a b f)

  -- ---- a context ends

  ended_same : (ue : UeId) (c : CuUpContext) (r q : CuUp M C) → Common ue r q → Same ue (ended way r ue c) (ended way q ue c)
  unfolding ended
  ended_same ue c r q e = λ i. gives (closings way c) (
    record {
      context = same_without ue_total r.contexts q.contexts ue ue (context_same ue r q e) i;
      tunnels = λ teid. each_equal ue (flat_map (λ e. open_teids e.1) c.bearers) r.tunnels q.tunnels (λ t. ap (λ (v : View). v.0.tunnels t) e) teid i;
      requests = (e i).0.requests;
    },
    (e i).1,
  )

  over_same : (ue : UeId) (r q : CuUp M C) → Common ue r q → Same ue (end_where_over way ue r) (end_where_over way ue q)
  unfolding end_where_over
  over_same ue r q e =
      by (context_of r ue) ∙ ap (λ (o : Option CuUpContext). seen (cu_up_view ue) (ended_if_over way ue q o)) (context_same ue r q e)
    where
      by : (o : Option CuUpContext) → Same ue (ended_if_over way ue r o) (ended_if_over way ue q o)
      by None = puts_same ue [] r q e
      by (Some c) =
          let is : Bool = c.flags.released && list_all (λ e. is_over c.flags e.1) c.bearers in
          same_if (cu_up_view ue) is is _ _ _ _ refl (ended_same ue c r q e) (puts_same ue [] r q e)

  -- ---- Bearer Context Setup

  new_same : (ue : UeId) (teids : ℕ) (c : CuUpContext) (r q : CuUp M C) → Common ue r q → Same ue (with_new way ue r teids c) (with_new way ue q teids c)
  new_same ue teids c r q e = λ i. gives (flat_map (opened_of way) c.bearers) (
    record {
      context = same_put ue_total r.contexts q.contexts ue ue c (context_same ue r q e) i;
      tunnels = λ teid. entries_equal ue (flat_map (entries_of ue c.instance) c.bearers) r.tunnels q.tunnels (λ t. ap (λ (v : View). v.0.tunnels t) e) teid i;
      requests = (e i).0.requests;
    },
    record (e i).1 { next_teid = teid_after (e i).1.next_teid teids },
  )

  makes_same : (ue : UeId) (sn : SnBits) (quota : ℕ) (target : Bool) (count : ℕ) (r q : CuUp M C) → Common ue r q
      → Same ue (makes way ue sn quota target count r) (makes way ue sn quota target count q)
  unfolding makes
  makes_same ue sn quota target count r q e =
      same_if (cu_up_view ue) (teids_are_left r.next_teid teids) (teids_are_left q.next_teid teids) _ _ _ _
      (ap (λ (v : View). teids_are_left v.1.next_teid teids) e)
      (new_same ue teids (made r.next_teid) r q e ∙ ap (λ (v : View). seen (cu_up_view ue) (with_new way ue q teids (made v.1.next_teid))) e)
      refl
    where
      teids : ℕ
      teids = count * teids_of_bearer target

      made : ℕ → CuUpContext
      made next = record {
        instance = next;
        sn = sn;
        quota = quota;
        flags = new_flags_of target;
        bearers = bearers_made target next (bearers_from 1 count);
      }

  made_same : (from : NodeId) (ue : UeId) (instance : ℕ) (forward : Bool) (r q : CuUp M C) → Common ue r q
      → Same ue (set_up_for way (channel ue.0 from) ue instance forward r (context_of r ue)) (set_up_for way (channel ue.0 from) ue instance forward q (context_of q ue))
  made_same from ue instance forward r q e =
      by (context_of r ue)
      ∙ ap (λ (o : Option CuUpContext). seen (cu_up_view ue) (set_up_for way (channel ue.0 from) ue instance forward q o)) (context_same ue r q e)
    where
      by : (o : Option CuUpContext) → Same ue
          (set_up_for way (channel ue.0 from) ue instance forward r o) (set_up_for way (channel ue.0 from) ue instance forward q o)
      by None = puts_same ue [] r q e
      by (Some c) = replies_same ue from (setup_response way ue instance forward c.bearers) r q e

  setup_same : (from : NodeId) (ue : UeId) (instance count : ℕ) (sn : SnBits) (quota : ℕ) (forward : Bool) (r q : CuUp M C) → Common ue r q → SameRoom r q
      → Same ue (setup way (channel ue.0 from) ue instance count sn quota forward r) (setup way (channel ue.0 from) ue instance count sn quota forward q)
  unfolding setup fits
  setup_same from ue instance count sn quota forward r q e room =
      by (context_of r ue)
      ∙ ap (λ (o : Option CuUpContext). seen (cu_up_view ue) (setup_on way (channel ue.0 from) ue instance count sn quota forward q o)) (context_same ue r q e)
    where
      by : (o : Option CuUpContext) → Same ue
          (setup_on way (channel ue.0 from) ue instance count sn quota forward r o) (setup_on way (channel ue.0 from) ue instance count sn quota forward q o)
      by (Some c) = replies_same ue from (e1s.BearerContextSetupFailure ue instance cause_busy) r q e
      by None =
          same_if (cu_up_view ue) (not (fits way count quota r)) (not (fits way count quota q)) _ _ _ _ (ap not (room count quota))
          (replies_same ue from (e1s.BearerContextSetupFailure ue instance cause_quota) r q e)
          (same_then (cu_up_view ue) (cu_up_view ue) (makes way ue sn quota forward count r) (makes way ue sn quota forward count q) _ _
          (makes_same ue sn quota forward count r q e) (λ a b f. made_same from ue instance forward a b f))

  -- ---- Bearer Context Modification

  given_same : (ue : UeId) (c : CuUpContext) (ts : List Tunnel) (r q : CuUp M C) → Common ue r q
      → Common ue (uplinks_given way ue r c ts) (uplinks_given way ue q c ts)
  given_same ue c ts r q e = λ i. (
    record (e i).0 {
      tunnels = λ teid. entries_equal ue (uplink_entries way ue c.instance ts) r.tunnels q.tunnels (λ t. ap (λ (v : View). v.0.tunnels t) e) teid i;
    },
    record (e i).1 { next_teid = teid_after (e i).1.next_teid (length ts) },
  )

  uplinks_same : (from : NodeId) (ue : UeId) (instance : ℕ) (c : CuUpContext) (r q : CuUp M C) → Common ue r q
      → Same ue (add_uplinks way (channel ue.0 from) ue instance c r) (add_uplinks way (channel ue.0 from) ue instance c q)
  unfolding add_uplinks
  uplinks_same from ue instance c r q e =
      same_if (cu_up_view ue) (not (teids_are_left r.next_teid (length c.bearers))) (not (teids_are_left q.next_teid (length c.bearers))) _ _ _ _
      (ap (λ (v : View). not (teids_are_left v.1.next_teid (length c.bearers))) e) refl
      (answered_same ue from (answer r.next_teid) c (uplinks_from way r.next_teid c.bearers)
      (uplinks_given way ue r c (teids_from way r.next_teid c.bearers)) (uplinks_given way ue q c (teids_from way r.next_teid c.bearers))
      (given_same ue c (teids_from way r.next_teid c.bearers) r q e)
      ∙ ap (λ (v : View). seen (cu_up_view ue)
      (answer_with way (uplinks_given way ue q c (teids_from way v.1.next_teid c.bearers)) ue c (uplinks_from way v.1.next_teid c.bearers)
      then replies way (channel ue.0 from) (answer v.1.next_teid))) e)
    where
      answer : ℕ → E1Message
      answer next = modified way ue instance (Some (teids_from way next c.bearers)) None

  switch_same : (from : NodeId) (ue : UeId) (instance du : ℕ) (downlinks : List Tunnel) (c : CuUpContext) (r q : CuUp M C) → Common ue r q
      → Same ue (switch way (channel ue.0 from) ue instance du downlinks c r) (switch way (channel ue.0 from) ue instance du downlinks c q)
  unfolding switch
  switch_same from ue instance du downlinks c r q e =
      answered_same ue from (modified way ue instance None None) (as_switched way c) (step r.gnb) r q e
      ∙ ap (λ (v : View). seen (cu_up_view ue)
      (answer_with way q ue (as_switched way c) (step v.1.gnb) then replies way (channel ue.0 from) (modified way ue instance None None))) e
    where
      step : Gnb → UpStep way
      step g = each_bearer way (λ bearer. switched way (cu_up_scope ue (as_switched way c) bearer) (Du g du) (teid_of downlinks bearer)) c.bearers

  freeze_same : (from : NodeId) (ue : UeId) (instance : ℕ) (peer : Peer) (down up : List Tunnel) (c : CuUpContext) (r q : CuUp M C) → Common ue r q
      → Same ue (freeze way (channel ue.0 from) ue instance peer down up c r) (freeze way (channel ue.0 from) ue instance peer down up c q)
  unfolding freeze
  freeze_same from ue instance peer down up c r q e =
      same_if (cu_up_view ue) (not c.flags.may_serve) (not c.flags.may_serve) _ _ _ _ refl
      (replies_same ue from (e1s.BearerContextModificationFailure ue instance cause_busy) r q e)
      (answered_same ue from (modified way ue instance None (Some (statuses way c))) (as_frozen way c) _ r q e)

  -- one of two rows, by what doesn't depend on the unit
  either_same : (ue : UeId) (t : Bool) (a b x y : Answer M P (CuUp M C)) → Same ue a x → Same ue b y
      → Same ue (if t then a else b) (if t then x else y)
  either_same ue t a b x y p q = same_if (cu_up_view ue) t t a b x y refl p q

  drops_same : (ue : UeId) (r q : CuUp M C) → Common ue r q → Same ue (drops Unexpected r) (drops Unexpected q)
  drops_same ue r q e = puts_same ue (dropped Unexpected ∷ []) r q e

  switch_if_same : (from : NodeId) (ue : UeId) (instance : ℕ) (du : Option ℕ) (downlinks : Option (List Tunnel)) (c : CuUpContext) (r q : CuUp M C) → Common ue r q
      → Same ue (switch_if way (channel ue.0 from) ue instance du downlinks c r) (switch_if way (channel ue.0 from) ue instance du downlinks c q)
  switch_if_same from ue instance (Some du) (Some downlinks) c r q e =
      either_same ue (c.flags.released || not (are_bearers (names way c) (bearers_of downlinks))) _ _ _ _ (drops_same ue r q e)
      (switch_same from ue instance du downlinks c r q e)
  switch_if_same from ue instance du downlinks c r q e = drops_same ue r q e

  freeze_if_same : (from : NodeId) (ue : UeId) (instance : ℕ) (peer : Option Peer) (down up : Option (List Tunnel)) (c : CuUpContext) (r q : CuUp M C)
      → Common ue r q → Same ue (freeze_if way (channel ue.0 from) ue instance peer down up c r) (freeze_if way (channel ue.0 from) ue instance peer down up c q)
  freeze_if_same from ue instance (Some peer) (Some down) (Some up) c r q e =
      either_same ue (c.flags.frozen || c.flags.released || not c.flags.arrived || not (are_bearers (names way c) (bearers_of down))
      || not (are_bearers (names way c) (bearers_of up))) _ _ _ _ (drops_same ue r q e) (freeze_same from ue instance peer down up c r q e)
  freeze_if_same from ue instance peer down up c r q e = drops_same ue r q e

  status_if_same : (from : NodeId) (ue : UeId) (instance : ℕ) (ss : Option (List SnStatus)) (c : CuUpContext) (r q : CuUp M C) → Common ue r q
      → Same ue (status_if way (channel ue.0 from) ue instance ss c r) (status_if way (channel ue.0 from) ue instance ss c q)
  unfolding take_status
  status_if_same from ue instance (Some ss) c r q e =
      either_same ue (c.flags.may_serve || not (are_bearers (names way c) (statuses_of ss))) _ _ _ _ (drops_same ue r q e)
      (answered_same ue from (modified way ue instance None None) (as_known way c) _ r q e)
  status_if_same from ue instance None c r q e = drops_same ue r q e

  resume_if_same : (from : NodeId) (ue : UeId) (instance : ℕ) (c : CuUpContext) (r q : CuUp M C) → Common ue r q
      → Same ue (resume_if way (channel ue.0 from) ue instance c r) (resume_if way (channel ue.0 from) ue instance c q)
  unfolding resume
  resume_if_same from ue instance c r q e =
      either_same ue (c.flags.frozen && not c.flags.released) _ _ _ _ (answered_same ue from (modified way ue instance None None) (as_resumed way c) _ r q e)
      (drops_same ue r q e)

  modify_same : (from : NodeId) (ue : UeId) (instance : ℕ) (downlinks : Option (List Tunnel)) (mode : ℕ) (peer : Option Peer) (down up : Option (List Tunnel))
      (ss : Option (List SnStatus)) (du : Option ℕ) (r q : CuUp M C) → Common ue r q → (o : Option CuUpContext) → Same ue
      (modify_on way (channel ue.0 from) (e1s.BearerContextModificationRequest ue instance downlinks mode peer down up ss du) r o)
      (modify_on way (channel ue.0 from) (e1s.BearerContextModificationRequest ue instance downlinks mode peer down up ss du) q o)
  modify_same from ue instance downlinks mode peer down up ss du r q e None = puts_same ue (dropped NoContext ∷ []) r q e
  modify_same from ue instance downlinks mode peer down up ss du r q e (Some c) =
      either_same ue (mode == mode_uplinks) _ _ _ _
      (either_same ue c.flags.released _ _ _ _ (drops_same ue r q e) (uplinks_same from ue instance c r q e))
      (either_same ue (mode == mode_switch) _ _ _ _ (switch_if_same from ue instance du downlinks c r q e)
      (either_same ue (mode == mode_freeze) _ _ _ _ (freeze_if_same from ue instance peer down up c r q e)
      (either_same ue (mode == mode_status) _ _ _ _ (status_if_same from ue instance ss c r q e)
      (either_same ue (mode == mode_resume) _ _ _ _ (resume_if_same from ue instance c r q e) (drops_same ue r q e)))))

  -- ---- Bearer Context Release

  released_same : (ue : UeId) (is_final : Bool) (r q : CuUp M C) → Common ue r q → (o : Option CuUpContext)
      → Same ue (released_on way ue is_final r o) (released_on way ue is_final q o)
  released_same ue is_final r q e None = puts_same ue [] r q e
  released_same ue is_final r q e (Some c) =
      either_same ue is_final _ _ _ _ (ended_same ue c r q e)
      (over_same ue (with_context ue r (as_released way c)) (with_context ue q (as_released way c)) (put_same ue (as_released way c) r q e))

  release_same : (from : NodeId) (ue : UeId) (instance : ℕ) (is_final : Bool) (r q : CuUp M C) → Common ue r q
      → Same ue (release way (channel ue.0 from) ue instance is_final r) (release way (channel ue.0 from) ue instance is_final q)
  unfolding release
  release_same from ue instance is_final r q e =
      same_then (cu_up_view ue) (cu_up_view ue) _ _ _ _ (replies_same ue from (e1s.BearerContextReleaseComplete ue instance) r q e)
      (λ a b f. released_same ue is_final a b f (context_of a ue)
      ∙ ap (λ (o : Option CuUpContext). seen (cu_up_view ue) (released_on way ue is_final b o)) (context_same ue a b f))

  -- ---- E1 Setup

  abbrev at : ℕ → UeId
  at n = record { 0 = n }

  asks_same : (g : Gnb) (w : Waiting C) (r q : CuUp M C) → Common (at 0) r q → Same (at 0)
      (ask way r.transactions (channel 0 (CuCp g)) w then (λ a. nothing (with_transactions r a.transactions)))
      (ask way q.transactions (channel 0 (CuCp g)) w then (λ a. nothing (with_transactions q a.transactions)))
  asks_same g w r q e =
      same_then (asked_view 0) (cu_up_view (at 0)) _ _ _ _ (ask_equal way r.transactions q.transactions (channel 0 (CuCp g)) w (requests_same (at 0) r q e))
      (λ a b same. puts_same (at 0) [] (with_transactions r a.transactions) (with_transactions q b.transactions)
      (with_same (at 0) r q a.transactions b.transactions e (ap (λ (x : Requests M C × Option ℕ). x.0) same)))

  start_same : (r q : CuUp M C) → Common (at 0) r q → Same (at 0) (start way r) (start way q)
  unfolding start
  start_same r q e =
      same_if (cu_up_view (at 0)) r.is_set_up q.is_set_up _ _ _ _ (ap (λ (v : View). v.1.is_set_up) e) (puts_same (at 0) [] r q e)
      (asks_same r.gnb (asks r.gnb r.number) r q e
      ∙ ap (λ (v : View). seen (cu_up_view (at 0)) (ask way q.transactions (channel 0 (CuCp v.1.gnb)) (asks v.1.gnb v.1.number)
      then (λ a. nothing (with_transactions q a.transactions)))) e)
    where
      asks : Gnb → ℕ → Waiting C
      asks g n = record { message = e1 (e1s.E1SetupRequest no_instance (node_text (up_id g n))); deadline = None; awaited = false }

  set_up_same : (ue : UeId) (from : NodeId) (r q : CuUp M C) → Common ue r q → Same ue (set_up way (channel ue.0 from) r) (set_up way (channel ue.0 from) q)
  unfolding set_up
  set_up_same ue from r q e =
      same_then (asked_view ue.0) (cu_up_view ue) _ _ _ _
      (advance_equal way (shut r.transactions) (shut q.transactions) (channel ue.0 from)
      (equal_closed way r.transactions q.transactions (channel ue.0 from) (requests_same ue r q e)))
      (λ a b same i. gives [] (
        record { context = (e i).0.context; tunnels = (e i).0.tunnels; requests = (same i).0 },
        record (e i).1 { is_set_up = true },
      ))
    where
      shut : Transactions M C → Transactions M C
      shut t = record t { caller = close t.caller (channel ue.0 from) }

  -- ---- control

  request_same : (from : NodeId) (m : Message C) (n instance : ℕ) → kind_of m ≡ request n instance → (r q : CuUp M C) → Common (at n) r q → SameRoom r q
      → Same (at n) (asked way (channel n from) m r) (asked way (channel n from) m q)
  unfolding kind_of
  request_same from (e1 (e1s.BearerContextSetupRequest ue i count sn quota forward)) n instance k r q e room =
      subst (λ (x : ℕ). Common (at x) r q → Same (at x)
      (setup way (channel x from) ue i count sn quota forward r) (setup way (channel x from) ue i count sn quota forward q))
      (ap (λ (x : Kind). (ue_in x).0) k) (λ f. setup_same from ue i count sn quota forward r q f room) e
  request_same from (e1 (e1s.BearerContextModificationRequest ue i downlinks mode peer down up ss du)) n instance k r q e room =
      subst (λ (x : ℕ). Common (at x) r q → Same (at x)
      (asked way (channel x from) (e1 (e1s.BearerContextModificationRequest ue i downlinks mode peer down up ss du)) r)
      (asked way (channel x from) (e1 (e1s.BearerContextModificationRequest ue i downlinks mode peer down up ss du)) q))
      (ap (λ (x : Kind). (ue_in x).0) k)
      (λ f. modify_same from ue i downlinks mode peer down up ss du r q f (context_of r ue)
      ∙ ap (λ (o : Option CuUpContext). seen (cu_up_view ue)
      (modify_on way (channel ue.0 from) (e1s.BearerContextModificationRequest ue i downlinks mode peer down up ss du) q o)) (context_same ue r q f)) e
  request_same from (e1 (e1s.BearerContextReleaseCommand ue i is_final)) n instance k r q e room =
      subst (λ (x : ℕ). Common (at x) r q → Same (at x) (release way (channel x from) ue i is_final r) (release way (channel x from) ue i is_final q))
      (ap (λ (x : Kind). (ue_in x).0) k) (release_same from ue i is_final r q) e
  request_same from m n instance k r q e room = drops_same (at n) r q e

  by_same : (from : NodeId) (m : Message C) (k : Kind) → kind_of m ≡ k → (r q : CuUp M C) → Common (ue_in k) r q → SameRoom r q
      → Same (ue_in k) (control_by way (channel (ue_in k).0 from) m r k) (control_by way (channel (ue_in k).0 from) m q k)
  by_same from m (request n instance) k r q e room =
      on_request_equal way (cu_up_view (at n)) r q r.transactions q.transactions (channel n from) instance e (requests_same (at n) r q e) _ _
      (λ t u a. request_same from m n instance k (with_transactions r t) (with_transactions q u) (with_same (at n) r q t u e a) room)
  by_same from m (reply n instance) k r q e room =
      on_reply_equal way (cu_up_view (at n)) r q r.transactions q.transactions (channel n from) instance e (requests_same (at n) r q e) _ _
      (set_up_same (at n) from r q e)
  by_same from m (transfer n) k r q e room = drops_same (at n) r q e

  kind_same : (k : Kind) → kind_ue way k ≡ (ue_in k).0
  kind_same (request n instance) = refl
  kind_same (reply n instance) = refl
  kind_same (transfer n) = refl

  own_same : (from : NodeId) (m : Message C) (r q : CuUp M C) → Common (ue_in (kind_of m)) r q → SameRoom r q → Same (ue_in (kind_of m))
      (if is_own_cu_cp way r.gnb from then control_by way (channel (kind_ue way (kind_of m)) from) m r (kind_of m) else drops Unexpected r)
      (if is_own_cu_cp way q.gnb from then control_by way (channel (kind_ue way (kind_of m)) from) m q (kind_of m) else drops Unexpected q)
  own_same from m r q e room =
      same_if (cu_up_view (ue_in (kind_of m))) (is_own_cu_cp way r.gnb from) (is_own_cu_cp way q.gnb from) _ _ _ _ (ap (λ (v : View). is_own_cu_cp way v.1.gnb from) e)
      (subst (λ (n : ℕ). Same (ue_in (kind_of m)) (control_by way (channel n from) m r (kind_of m)) (control_by way (channel n from) m q (kind_of m)))
      (sym (kind_same (kind_of m))) (by_same from m (kind_of m) refl r q e room))
      (drops_same (ue_in (kind_of m)) r q e)

  control_same : (from : NodeId) (m : Message C) (r q : CuUp M C) → Common (message_ue from m) r q → SameRoom r q
      → Same (message_ue from m) (control_received way from m r) (control_received way from m q)
  unfolding control_received
  control_same (CuCp gnb) m r q e room = own_same (CuCp gnb) m r q e room
  control_same (up_id gnb number) m r q e room = drops_same _ r q e
  control_same (Du gnb number) m r q e room = drops_same _ r q e
  control_same Core m r q e room = drops_same _ r q e
  control_same (Ue ue) m r q e room = drops_same (at ue) r q e

  -- ---- items of tunnels, and polls

  bearer_same : (ue : UeId) (c : CuUpContext) (bearer : BearerId) (a : Answer M P CuUpBearer) (r q : CuUp M C) → Common ue r q
      → Same ue (with_bearer way r ue c bearer a) (with_bearer way q ue c bearer a)
  bearer_same ue c bearer (gives outputs b) r q e = λ i. gives outputs (
    record {
      context = same_put ue_total r.contexts q.contexts ue ue (record c { bearers = put bearer_cmp c.bearers bearer b }) (context_same ue r q e) i;
      tunnels = λ teid. each_equal ue (flat_map closed_in outputs) r.tunnels q.tunnels (λ t. ap (λ (v : View). v.0.tunnels t) e) teid i;
      requests = (e i).0.requests;
    },
    (e i).1,
  )
  bearer_same ue c bearer (spent counter) r q e = refl

  taken_same : (t : CuUpTunnel) (teid : ℕ) (item : Taken P) (r q : CuUp M C) → Common t.ue r q
      → Same t.ue (taken_of way r t teid item (context_of r t.ue)) (taken_of way q t teid item (context_of q t.ue))
  taken_same t teid item r q e =
      by (context_of r t.ue) ∙ ap (λ (o : Option CuUpContext). seen (cu_up_view t.ue) (taken_of way q t teid item o)) (context_same t.ue r q e)
    where
      not_held : (c : CuUpContext) (b : CuUpBearer) (o : Option HeldReason) → Same t.ue (taken_by way r t teid item c b o) (taken_by way q t teid item c b o)
      not_held c b (Some reason) = puts_same t.ue (held reason ∷ []) r q e
      not_held c b None =
          same_then (cu_up_view t.ue) (cu_up_view t.ue) _ _ _ _
          (bearer_same t.ue c t.bearer (took way (cu_up_scope t.ue c t.bearer) t.kind teid item b) r q e) (λ a b f. over_same t.ue a b f)

      in_bearer : (c : CuUpContext) (o : Option CuUpBearer) → Same t.ue (taken_in way r t teid item c o) (taken_in way q t teid item c o)
      in_bearer c None = puts_same t.ue (dropped NoContext ∷ []) r q e
      in_bearer c (Some b) = not_held c b (held_reason (cu_up_scope t.ue c t.bearer) b t.kind item)

      by : (o : Option CuUpContext) → Same t.ue (taken_of way r t teid item o) (taken_of way q t teid item o)
      by None = puts_same t.ue (dropped NoContext ∷ []) r q e
      by (Some c) = in_bearer c (find bearer_cmp c.bearers t.bearer)

  own_there : (ue : UeId) (o : Option CuUpTunnel) (t : CuUpTunnel) → Some t ≡ own_tunnel ue o → o ≡ Some t
  own_there ue None t e = absurd cc
  own_there ue (Some x) t e = by (x.ue.0 == ue.0) e
    where
      by : (b : Bool) → Some t ≡ (if b then Some x else None) → Some x ≡ Some t
      by true e = sym e
      by false e = absurd cc

  own_itself : (t : CuUpTunnel) → own_tunnel t.ue (Some t) ≡ Some t
  own_itself t = ap (λ (b : Bool). if b then Some t else None) (eq-eqb t.ue.0 t.ue.0 refl)

  take_same : (teid : ℕ) (item : Taken P) (t : CuUpTunnel) (r q : CuUp M C) → Common t.ue r q → find nat_cmp r.tunnels teid ≡ Some t
      → Same t.ue (take way teid item r) (take way teid item q)
  unfolding take
  take_same teid item t r q e there =
      ap (λ (o : Option CuUpTunnel). seen (cu_up_view t.ue) (taken_on way r teid item o)) there
      ∙ taken_same t teid item r q e
      ∙ sym (ap (λ (o : Option CuUpTunnel). seen (cu_up_view t.ue) (taken_on way q teid item o))
      (own_there t.ue (find nat_cmp q.tunnels teid) t
      (sym (own_itself t) ∙ sym (ap (own_tunnel t.ue) there) ∙ ap (λ (v : View). v.0.tunnels teid) e)))

  poll_same : (ue : UeId) (bearer : BearerId) (r q : CuUp M C) → Common ue r q → Same ue (poll way ue bearer r) (poll way ue bearer q)
  unfolding poll
  poll_same ue bearer r q e =
      by (context_of r ue) ∙ ap (λ (o : Option CuUpContext). seen (cu_up_view ue) (poll_on way q ue bearer o)) (context_same ue r q e)
    where
      in_bearer : (c : CuUpContext) (o : Option CuUpBearer) → Same ue (poll_bearer way r ue c bearer o) (poll_bearer way q ue c bearer o)
      in_bearer c None = puts_same ue (no Empty ∷ []) r q e
      in_bearer c (Some b) =
          either_same ue (length b.sender.unconfirmed == 0) _ _ _ _ (puts_same ue (no Empty ∷ []) r q e)
          (either_same ue (c.flags.frozen || not (has_downlink b.downlink)) _ _ _ _ (puts_same ue (no NoRadio ∷ []) r q e)
          (bearer_same ue c bearer (framed way (cu_up_scope ue c bearer) true false None Absent b) r q e))

      by : (o : Option CuUpContext) → Same ue (poll_on way r ue bearer o) (poll_on way q ue bearer o)
      by None = puts_same ue (no Empty ∷ []) r q e
      by (Some c) = in_bearer c (find bearer_cmp c.bearers bearer)

  -- ---- the table

  abbrev Depends : Input C P → CuUp M C → CuUp M C → UeId → Type 0
  Depends input r q ue = Common ue r q → Same ue (cu_up_acts way r input) (cu_up_acts way q input)

  some_ue : (a b : UeId) → Some a ≡ Some b → a ≡ b
  some_ue a b e = cc

  given : (input : Input C P) (r q : CuUp M C) (own ue : UeId) → Some own ≡ Some ue → Depends input r q own → Depends input r q ue
  given input r q own ue is depends = subst (Depends input r q) (some_ue own ue is) depends

  order_same : (order : Order) (r q : CuUp M C) → Common (order_ue order) r q → Same (order_ue order) (ordered way order r) (ordered way order q)
  order_same orders.Start r q e = start_same r q e
  order_same (orders.Poll ue bearer) r q e = poll_same ue bearer r q e
  order_same order r q e = drops_same _ r q e

  packet_same : (teid : ℕ) (item : Taken P) (r q : CuUp M C) (ue : UeId) (o : Option CuUpTunnel) → find nat_cmp r.tunnels teid ≡ o → tunnel_ue o ≡ Some ue
      → Depends (packet_input teid item) r q ue
  unfolding cu_up_acts
  packet_same teid item r q ue None there is = absurd cc
  packet_same teid item r q ue (Some t) there is =
      subst (λ (v : UeId). Common v r q → Same v (take way teid item r) (take way teid item q)) (some_ue t.ue ue is) (λ e. take_same teid item t r q e there)

  pub up_same : (ue : UeId) (input : Input C P) (r q : CuUp M C) → Common ue r q → SameRoom r q → cu_up_ue r input ≡ Some ue
      → Same ue (cu_up_acts way r input) (cu_up_acts way q input)
  unfolding cu_up_acts
  up_same ue (control_input from m) r q e room is = given (control_input from m) r q (message_ue from m) ue is (λ f. control_same from m r q f room) e
  up_same ue (packet_input teid item) r q e room is = packet_same teid item r q ue (find nat_cmp r.tunnels teid) refl is e
  up_same ue (order_input order) r q e room is = given (order_input order) r q (order_ue order) ue is (λ f. order_same order r q f) e
  up_same ue input r q e room is = absurd cc

  pub unknown_drops : (teid : ℕ) (item : Taken P) (r : CuUp M C) → find nat_cmp r.tunnels teid ≡ None
      → cu_up_acts way r (packet_input teid item) ≡ drops NoTunnel r
  unfolding cu_up_acts take
  unknown_drops teid item r none = ap (taken_on way r teid item) none

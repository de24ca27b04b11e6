-- What a CU-UP does for a terminal: all that it puts out is the terminal's, and what it keeps of the others stays.
use Rattle.std.proofs.Common.{◌≡◌, ℕ, ◌+◌, ◌*◌, ◌==◌, Bool, true, false, not, ◌&&◌, ◌||◌, List, [], ◌∷◌, length, map, Option, Some, None, refl, ap, ◌∙◌, subst}
use Rattle.std.specs.Prelude.{if◌then◌else◌}
use Rattle.std.specs.List.{flat_map, list_all, AllByRecursion}
use Rattle.std.specs.Ordering.{nat_cmp}
use Rattle.tables.proofs.TableLaws.{find-put-other, find-without-other}
use Rattle.law_terminals_are_isolated.specs.projections.Steps.{IsFor, PutsFor, StaysFor}
use Rattle.law_terminals_are_isolated.proofs.projections.Answers.{all_append, puts_then, puts_if}
use Rattle.law_terminals_are_isolated.proofs.projections.Tables.{apart_numbers, apart_ues}
use Rattle.law_terminals_are_isolated.proofs.projections.Apart.{Leaves, then_leaves, closed_leaves, ask_asks, advance_asks, replied_puts, on_request_puts, on_reply_puts}
use Rattle.law_terminals_are_isolated.specs.cu_up_projection.CuUps.{CuUpWithoutTeids, cu_up_without_teids, tunnel_ue, cu_up_ue}
use Rattle.law_terminals_are_isolated.proofs.cu_up_projection.Bearers.{frame_puts, uplink_puts, switched_puts, frozen_puts, status_puts, resumed_puts, took_puts}
use Rattle.gnb_types.specs.declared.names.NodeId.{NodeId}
use Rattle.gnb_types.specs.declared.names.NodeId.TheVariants.{CuCp, CuUp as up_id, Du, Core, Ue}
use Rattle.gnb_types.specs.declared.names.UeId.{UeId}
use Rattle.gnb_types.specs.declared.names.BearerId.{BearerId}
use Rattle.gnb_types.specs.declared.names.SnBits.{SnBits}
use Rattle.gnb_types.specs.declared.plans.Peer.{Peer}
use Rattle.gnb_types.specs.declared.plans.Tunnel.{Tunnel}
use Rattle.gnb_types.specs.declared.plans.SnStatus.{SnStatus}
use Rattle.gnb_types.specs.declared.inputs.Order.{Order}
use Rattle.gnb_types.specs.declared.inputs.Order.TheVariants as orders
use Rattle.gnb_types.specs.declared.outputs.Tag.TheVariants.{Absent}
use Rattle.gnb_types.specs.declared.reasons.DropReason.TheVariants.{Unexpected}
use Rattle.gnb_types.specs.declared.reasons.HeldReason.{HeldReason}
use Rattle.gnb_types.specs.Orders.{bearer_cmp}
use Rattle.gnb_types.proofs.OrderLemmas.{ue_total}
use Rattle.tables.specs.Tables.{find, put}
use Rattle.transaction_defs.specs.Callers.{close}
use Rattle.message_types.specs.declared.e1.E1Message.{E1Message}
use Rattle.message_types.specs.declared.e1.E1Message.TheVariants as e1s
use Rattle.unit_defs.specs.Ways.{Message, e1, closed, opened, Load, Taken, Input, control_input, packet_input, order_input, Way, Answer, gives, spent, ◌then◌, nothing, puts, drops, teids_spent}
use Rattle.unit_defs.specs.Messages.{cause_quota, cause_busy, mode_uplinks, mode_switch, mode_freeze, mode_status, mode_resume, channel, is_same_gnb, bearers_of, statuses_of, are_bearers, teid_of}
use Rattle.unit_defs.specs.Teids.{teids_are_left}
use Rattle.unit_defs.specs.Transactions.{Kind, request, reply, transfer, kind_of, Transactions, advance, replied}
use Rattle.unit_defs.specs.CuUpRecords.{CuUpBearer, CuUpContext, CuUpTunnel, CuUp, cu_up_scope}
use Rattle.unit_defs.specs.CuUpBearers.{teids_of_bearer, with_uplink, switched, frozen_to, with_status, resumed, is_over, open_teids, has_downlink, framed}
use Rattle.unit_defs.specs.CuUpItems.{held_reason, took}
use Rattle.unit_defs.specs.CuUp.{context_of, with_context, with_transactions, bearers_from, bearers_made, entries_of, UpStep, steps, stops, step_with, each_bearer, answer_with, ended, ended_if_over, end_where_over, replies, setup_response, opened_of, makes, fits, set_up_for, setup_on, setup, modified, uplinks_from, teids_from, uplinks_given, add_uplinks, as_switched, switch, as_frozen, peer_node, statuses, freeze, as_known, status_each, take_status, as_resumed, resume, names, switch_if, freeze_if, status_if, resume_if, modify_on, as_released, released_on, release, asked, start, set_up, control_by, ue_in as kind_ue, control_received, with_bearer, taken_by, taken_in, taken_of, taken_on, take, poll_bearer, poll_on, poll, ordered, cu_up_acts}
use Rattle.law_terminals_are_isolated.specs.projections.Projections.{ue_in, message_ue, order_ue}

module _ {M C P : Type 0} (way : Way M C P) where
  abbrev pub Stays : UeId → CuUp M C → CuUp M C → Type 0
  Stays ue r q = StaysFor cu_up_without_teids ue r q

  abbrev pub Steps : UeId → CuUp M C → Answer M P (CuUp M C) → Type 0
  Steps ue r a = PutsFor ue.0 (Stays ue r) a

  itself : (ue : UeId) (r : CuUp M C) → Stays ue r r
  itself ue r other apart = refl

  with_stays : (ue : UeId) (r q : CuUp M C) (t : Transactions M C) → Stays ue r q → Leaves way ue.0 q.transactions t → Stays ue r (with_transactions q t)
  with_stays ue r q t stays leaves other apart = λ i. record {
    context = (stays other apart i).context;
    requests = (leaves other.0 (apart_numbers other ue apart) ∙ ap (λ (s : CuUpWithoutTeids M C). s.requests) (stays other apart)) i;
  }

  put_stays : (ue : UeId) (c : CuUpContext) (r q : CuUp M C) → Stays ue r q → Stays ue r (with_context ue q c)
  put_stays ue c r q stays other apart = λ i. record {
    context = (find-put-other ue_total q.contexts ue c other (apart_ues other ue apart) ∙ ap (λ (s : CuUpWithoutTeids M C). s.context) (stays other apart)) i;
    requests = (stays other apart i).requests;
  }

  replies_steps : (ue : UeId) (from : NodeId) (m : E1Message) (r q : CuUp M C) → Stays ue r q → Steps ue r (replies way (channel ue.0 from) m q)
  replies_steps ue from m r q stays =
      puts_then ue.0 (Leaves way ue.0 q.transactions) (Stays ue r) (replied way q.transactions (channel ue.0 from) (e1 m)) (λ t. nothing (with_transactions q t))
      (replied_puts way q.transactions (channel ue.0 from) (e1 m)) (λ t leaves. (tt, with_stays ue r q t stays leaves))

  -- ---- the bearers of a context one after another

  abbrev StepFor : ℕ → UpStep way → Type 0
  StepFor ue (steps outputs bearers) = AllByRecursion (IsFor ue) outputs
  StepFor ue (stops counter) = Unit {0}

  step_for : (ue : ℕ) (bearer : BearerId) (a : Answer M P CuUpBearer) (x : UpStep way) → PutsFor ue (λ (b : CuUpBearer). Unit {0}) a → StepFor ue x
      → StepFor ue (step_with way bearer a x)
  step_for ue bearer (gives outputs b) (steps more bearers) p q = all_append (IsFor ue) outputs more p.0 q
  step_for ue bearer (gives outputs b) (stops counter) p q = tt
  step_for ue bearer (spent counter) x p q = tt

  each_for : (ue : ℕ) (order : BearerId → CuUpBearer → Answer M P CuUpBearer) → ((bearer : BearerId) (b : CuUpBearer) → PutsFor ue (λ (b : CuUpBearer). Unit {0}) (order bearer b))
      → (es : List (BearerId × CuUpBearer)) → StepFor ue (each_bearer way order es)
  each_for ue order puts [] = tt
  each_for ue order puts (e ∷ es) = step_for ue e.0 (order e.0 e.1) (each_bearer way order es) (puts e.0 e.1) (each_for ue order puts es)

  uplinks_for : (ue : UeId) (c : CuUpContext) (next : ℕ) (es : List (BearerId × CuUpBearer)) → StepFor ue.0 (uplinks_from way next es)
  uplinks_for ue c next [] = tt
  uplinks_for ue c next (e ∷ es) =
      step_for ue.0 e.0 (with_uplink way next e.1) (uplinks_from way (next + 1) es) (uplink_puts way (cu_up_scope ue c e.0) next e.1) (uplinks_for ue c (next + 1) es)

  statuses_for : (ue : UeId) (c : CuUpContext) (ss : List SnStatus) (es : List (BearerId × CuUpBearer)) → StepFor ue.0 (status_each way ue c ss es)
  statuses_for ue c [] es = tt
  statuses_for ue c (s ∷ ss) [] = tt
  statuses_for ue c (s ∷ ss) (e ∷ es) =
      step_for ue.0 e.0 (with_status way (cu_up_scope ue c e.0) s e.1) (status_each way ue c ss es) (status_puts way (cu_up_scope ue c e.0) s e.1) (statuses_for ue c ss es)

  answer_steps : (ue : UeId) (c : CuUpContext) (x : UpStep way) (r q : CuUp M C) → Stays ue r q → StepFor ue.0 x → Steps ue r (answer_with way q ue c x)
  answer_steps ue c (steps outputs bearers) r q stays own = (own, put_stays ue (record c { bearers = bearers }) r q stays)
  answer_steps ue c (stops counter) r q stays own = tt

  answered_steps : (ue : UeId) (from : NodeId) (m : E1Message) (c : CuUpContext) (x : UpStep way) (r q : CuUp M C) → Stays ue r q → StepFor ue.0 x
      → Steps ue r (answer_with way q ue c x then replies way (channel ue.0 from) m)
  answered_steps ue from m c x r q stays own =
      puts_then ue.0 (Stays ue r) (Stays ue r) (answer_with way q ue c x) (replies way (channel ue.0 from) m) (answer_steps ue c x r q stays own)
      (λ s there. replies_steps ue from m r s there)

  -- ---- a context ends

  closed_for : (ue : ℕ) (ts : List ℕ) → AllByRecursion (IsFor {M = M} {L = Load P} {P = P} ue) (map (λ teid. closed teid) ts)
  closed_for ue [] = tt
  closed_for ue (t ∷ ts) = (tt, closed_for ue ts)

  closings_for : (ue : ℕ) (es : List (BearerId × CuUpBearer))
      → AllByRecursion (IsFor {M = M} {L = Load P} {P = P} ue) (flat_map (λ e. map (λ teid. closed teid) (open_teids e.1)) es)
  closings_for ue [] = tt
  closings_for ue (e ∷ es) =
      all_append (IsFor ue) (map (λ teid. closed teid) (open_teids e.1)) (flat_map (λ e. map (λ teid. closed teid) (open_teids e.1)) es)
      (closed_for ue (open_teids e.1)) (closings_for ue es)

  ended_steps : (ue : UeId) (c : CuUpContext) (r q : CuUp M C) → Stays ue r q → Steps ue r (ended way q ue c)
  unfolding ended
  ended_steps ue c r q stays = (
    closings_for ue.0 c.bearers,
    λ other apart i. record {
      context = (find-without-other ue_total q.contexts ue other (apart_ues other ue apart) ∙ ap (λ (s : CuUpWithoutTeids M C). s.context) (stays other apart)) i;
      requests = (stays other apart i).requests;
    },
  )

  over_steps : (ue : UeId) (r q : CuUp M C) → Stays ue r q → Steps ue r (end_where_over way ue q)
  unfolding end_where_over
  over_steps ue r q stays = by (context_of q ue)
    where
      by : (o : Option CuUpContext) → Steps ue r (ended_if_over way ue q o)
      by None = (tt, stays)
      by (Some c) =
          puts_if ue.0 (Stays ue r) (c.flags.released && list_all (λ e. is_over c.flags e.1) c.bearers) _ _ (ended_steps ue c r q stays) (tt, stays)

  -- ---- Bearer Context Setup

  opens_for : (ue : ℕ) (ts : List (ℕ × CuUpTunnel)) → AllByRecursion (IsFor {M = M} {L = Load P} {P = P} ue) (map (λ t. opened t.0) ts)
  opens_for ue [] = tt
  opens_for ue (t ∷ ts) = (tt, opens_for ue ts)

  openings_for : (ue : ℕ) (es : List (BearerId × CuUpBearer)) → AllByRecursion (IsFor ue) (flat_map (opened_of way) es)
  openings_for ue [] = tt
  openings_for ue (e ∷ es) = all_append (IsFor ue) (opened_of way e) (flat_map (opened_of way) es) (opens_for ue (entries_of (record { 0 = 0 }) 0 e)) (openings_for ue es)

  makes_steps : (ue : UeId) (sn : SnBits) (quota : ℕ) (target : Bool) (count : ℕ) (r q : CuUp M C) → Stays ue r q
      → Steps ue r (makes way ue sn quota target count q)
  unfolding makes
  makes_steps ue sn quota target count r q stays =
      puts_if ue.0 (Stays ue r) (teids_are_left q.next_teid (count * teids_of_bearer target)) _ (spent teids_spent)
      (openings_for ue.0 (bearers_made target q.next_teid (bearers_from 1 count)), put_stays ue _ r q stays) tt

  setup_steps : (from : NodeId) (ue : UeId) (instance count : ℕ) (sn : SnBits) (quota : ℕ) (forward : Bool) (r q : CuUp M C) → Stays ue r q
      → Steps ue r (setup way (channel ue.0 from) ue instance count sn quota forward q)
  unfolding setup
  setup_steps from ue instance count sn quota forward r q stays = by (context_of q ue)
    where
      made : (s : CuUp M C) → Stays ue r s → (o : Option CuUpContext) → Steps ue r (set_up_for way (channel ue.0 from) ue instance forward s o)
      made s there None = (tt, there)
      made s there (Some c) = replies_steps ue from (setup_response way ue instance forward c.bearers) r s there

      by : (o : Option CuUpContext) → Steps ue r (setup_on way (channel ue.0 from) ue instance count sn quota forward q o)
      by (Some c) = replies_steps ue from (e1s.BearerContextSetupFailure ue instance cause_busy) r q stays
      by None =
          puts_if ue.0 (Stays ue r) (not (fits way count quota q)) _ _ (replies_steps ue from (e1s.BearerContextSetupFailure ue instance cause_quota) r q stays)
          (puts_then ue.0 (Stays ue r) (Stays ue r) (makes way ue sn quota forward count q) _ (makes_steps ue sn quota forward count r q stays)
          (λ s there. made s there (context_of s ue)))

  -- ---- Bearer Context Modification

  uplinks_steps : (from : NodeId) (ue : UeId) (instance : ℕ) (c : CuUpContext) (r q : CuUp M C) → Stays ue r q
      → Steps ue r (add_uplinks way (channel ue.0 from) ue instance c q)
  unfolding add_uplinks
  uplinks_steps from ue instance c r q stays =
      puts_if ue.0 (Stays ue r) (not (teids_are_left q.next_teid (length c.bearers))) (spent teids_spent) _ tt
      (answered_steps ue from (modified way ue instance (Some ts) None) c (uplinks_from way q.next_teid c.bearers) r (uplinks_given way ue q c ts) stays
      (uplinks_for ue c q.next_teid c.bearers))
    where
      ts : List Tunnel
      ts = teids_from way q.next_teid c.bearers

  either : (ue : UeId) (r : CuUp M C) (t : Bool) (a b : Answer M P (CuUp M C)) → Steps ue r a → Steps ue r b → Steps ue r (if t then a else b)
  either ue r t a b p q = puts_if ue.0 (Stays ue r) t a b p q

  drops_steps : (ue : UeId) (r q : CuUp M C) → Stays ue r q → Steps ue r (drops Unexpected q)
  drops_steps ue r q stays = ((tt, tt), stays)

  switch_steps : (from : NodeId) (ue : UeId) (instance : ℕ) (du : Option ℕ) (downlinks : Option (List Tunnel)) (c : CuUpContext) (r q : CuUp M C) → Stays ue r q
      → Steps ue r (switch_if way (channel ue.0 from) ue instance du downlinks c q)
  unfolding switch
  switch_steps from ue instance (Some du) (Some downlinks) c r q stays =
      either ue r (c.flags.released || not (are_bearers (names way c) (bearers_of downlinks))) _ _ (drops_steps ue r q stays)
      (answered_steps ue from (modified way ue instance None None) (as_switched way c) _ r q stays
      (each_for ue.0 (λ bearer. switched way (cu_up_scope ue (as_switched way c) bearer) (Du q.gnb du) (teid_of downlinks bearer))
      (λ bearer b. switched_puts way (cu_up_scope ue (as_switched way c) bearer) (Du q.gnb du) (teid_of downlinks bearer) b) c.bearers))
  switch_steps from ue instance du downlinks c r q stays = drops_steps ue r q stays

  freeze_steps : (from : NodeId) (ue : UeId) (instance : ℕ) (peer : Option Peer) (down up : Option (List Tunnel)) (c : CuUpContext) (r q : CuUp M C) → Stays ue r q
      → Steps ue r (freeze_if way (channel ue.0 from) ue instance peer down up c q)
  unfolding freeze
  freeze_steps from ue instance (Some peer) (Some down) (Some up) c r q stays =
      either ue r (c.flags.frozen || c.flags.released || not c.flags.arrived || not (are_bearers (names way c) (bearers_of down))
      || not (are_bearers (names way c) (bearers_of up))) _ _ (drops_steps ue r q stays)
      (either ue r (not c.flags.may_serve) _ _ (replies_steps ue from (e1s.BearerContextModificationFailure ue instance cause_busy) r q stays)
      (answered_steps ue from (modified way ue instance None (Some (statuses way c))) (as_frozen way c) _ r q stays
      (each_for ue.0 (λ bearer. frozen_to way (cu_up_scope ue (as_frozen way c) bearer) (peer_node way peer) (teid_of down bearer) (teid_of up bearer))
      (λ bearer b. frozen_puts way (cu_up_scope ue (as_frozen way c) bearer) (peer_node way peer) (teid_of down bearer) (teid_of up bearer) b) c.bearers)))
  freeze_steps from ue instance peer down up c r q stays = drops_steps ue r q stays

  status_steps : (from : NodeId) (ue : UeId) (instance : ℕ) (o : Option (List SnStatus)) (c : CuUpContext) (r q : CuUp M C) → Stays ue r q
      → Steps ue r (status_if way (channel ue.0 from) ue instance o c q)
  unfolding take_status
  status_steps from ue instance (Some ss) c r q stays =
      either ue r (c.flags.may_serve || not (are_bearers (names way c) (statuses_of ss))) _ _ (drops_steps ue r q stays)
      (answered_steps ue from (modified way ue instance None None) (as_known way c) _ r q stays (statuses_for ue (as_known way c) ss c.bearers))
  status_steps from ue instance None c r q stays = drops_steps ue r q stays

  resume_steps : (from : NodeId) (ue : UeId) (instance : ℕ) (c : CuUpContext) (r q : CuUp M C) → Stays ue r q
      → Steps ue r (resume_if way (channel ue.0 from) ue instance c q)
  unfolding resume
  resume_steps from ue instance c r q stays =
      either ue r (c.flags.frozen && not c.flags.released) _ _
      (answered_steps ue from (modified way ue instance None None) (as_resumed way c) _ r q stays
      (each_for ue.0 (λ bearer. resumed way (cu_up_scope ue (as_resumed way c) bearer)) (λ bearer b. resumed_puts way (cu_up_scope ue (as_resumed way c) bearer) b) c.bearers))
      (drops_steps ue r q stays)

  modify_steps : (from : NodeId) (ue : UeId) (instance : ℕ) (downlinks : Option (List Tunnel)) (mode : ℕ) (peer : Option Peer) (down up : Option (List Tunnel))
      (ss : Option (List SnStatus)) (du : Option ℕ) (r q : CuUp M C) → Stays ue r q → (o : Option CuUpContext)
      → Steps ue r (modify_on way (channel ue.0 from) (e1s.BearerContextModificationRequest ue instance downlinks mode peer down up ss du) q o)
  modify_steps from ue instance downlinks mode peer down up ss du r q stays None = ((tt, tt), stays)
  modify_steps from ue instance downlinks mode peer down up ss du r q stays (Some c) =
      either ue r (mode == mode_uplinks) _ _
      (either ue r c.flags.released _ _ (drops_steps ue r q stays) (uplinks_steps from ue instance c r q stays))
      (either ue r (mode == mode_switch) _ _ (switch_steps from ue instance du downlinks c r q stays)
      (either ue r (mode == mode_freeze) _ _ (freeze_steps from ue instance peer down up c r q stays)
      (either ue r (mode == mode_status) _ _ (status_steps from ue instance ss c r q stays)
      (either ue r (mode == mode_resume) _ _ (resume_steps from ue instance c r q stays) (drops_steps ue r q stays)))))

  -- ---- Bearer Context Release

  released_steps : (ue : UeId) (is_final : Bool) (r q : CuUp M C) → Stays ue r q → (o : Option CuUpContext) → Steps ue r (released_on way ue is_final q o)
  released_steps ue is_final r q stays None = (tt, stays)
  released_steps ue is_final r q stays (Some c) =
      either ue r is_final _ _ (ended_steps ue c r q stays) (over_steps ue r (with_context ue q (as_released way c)) (put_stays ue (as_released way c) r q stays))

  release_steps : (from : NodeId) (ue : UeId) (instance : ℕ) (is_final : Bool) (r q : CuUp M C) → Stays ue r q
      → Steps ue r (release way (channel ue.0 from) ue instance is_final q)
  unfolding release
  release_steps from ue instance is_final r q stays =
      puts_then ue.0 (Stays ue r) (Stays ue r) (replies way (channel ue.0 from) (e1s.BearerContextReleaseComplete ue instance) q)
      (λ s. released_on way ue is_final s (context_of s ue)) (replies_steps ue from (e1s.BearerContextReleaseComplete ue instance) r q stays)
      (λ s there. released_steps ue is_final r s there (context_of s ue))

  -- ---- E1 Setup

  abbrev at : ℕ → UeId
  at n = record { 0 = n }

  start_steps : (r q : CuUp M C) → Stays (at 0) r q → Steps (at 0) r (start way q)
  unfolding start
  start_steps r q stays =
      puts_if 0 (Stays (at 0) r) q.is_set_up _ _ (tt, stays)
      (puts_then 0 _ (Stays (at 0) r) _ (λ a. nothing (with_transactions q a.transactions)) (ask_asks way q.transactions (channel 0 (CuCp q.gnb)) _)
      (λ a leaves. (tt, with_stays (at 0) r q a.transactions stays leaves)))

  set_up_steps : (ue : UeId) (from : NodeId) (r q : CuUp M C) → Stays ue r q → Steps ue r (set_up way (channel ue.0 from) q)
  unfolding set_up
  set_up_steps ue from r q stays =
      puts_then ue.0 _ (Stays ue r) (advance way shut (channel ue.0 from)) (λ a. nothing (record q { is_set_up = true; transactions = a.transactions }))
      (advance_asks way shut (channel ue.0 from))
      (λ a leaves. (
        tt,
        with_stays ue r (record q { is_set_up = true }) a.transactions stays
            (then_leaves way ue.0 q.transactions shut a.transactions (closed_leaves way q.transactions (channel ue.0 from)) leaves),
      ))
    where
      shut : Transactions M C
      shut = record q.transactions { caller = close q.transactions.caller (channel ue.0 from) }

  -- ---- control

  request_steps : (from : NodeId) (m : Message C) (n instance : ℕ) → kind_of m ≡ request n instance → (r q : CuUp M C) → Stays (at n) r q
      → Steps (at n) r (asked way (channel n from) m q)
  unfolding kind_of
  request_steps from (e1 (e1s.BearerContextSetupRequest ue i count sn quota forward)) n instance k r q stays =
      subst (λ (x : ℕ). Stays (at x) r q → Steps (at x) r (setup way (channel x from) ue i count sn quota forward q))
      (ap (λ (x : Kind). (ue_in x).0) k) (setup_steps from ue i count sn quota forward r q) stays
  request_steps from (e1 (e1s.BearerContextModificationRequest ue i downlinks mode peer down up ss du)) n instance k r q stays =
      subst (λ (x : ℕ). Stays (at x) r q → Steps (at x) r
      (asked way (channel x from) (e1 (e1s.BearerContextModificationRequest ue i downlinks mode peer down up ss du)) q))
      (ap (λ (x : Kind). (ue_in x).0) k) (λ there. modify_steps from ue i downlinks mode peer down up ss du r q there (context_of q ue)) stays
  request_steps from (e1 (e1s.BearerContextReleaseCommand ue i is_final)) n instance k r q stays =
      subst (λ (x : ℕ). Stays (at x) r q → Steps (at x) r (release way (channel x from) ue i is_final q))
      (ap (λ (x : Kind). (ue_in x).0) k) (release_steps from ue i is_final r q) stays
  request_steps from m n instance k r q stays = drops_steps (at n) r q stays

  by_steps : (from : NodeId) (m : Message C) (k : Kind) → kind_of m ≡ k → (r : CuUp M C)
      → Steps (ue_in k) r (control_by way (channel (kind_ue way k) from) m r k)
  by_steps from m (request n instance) k r =
      on_request_puts way (Stays (at n) r) r r.transactions (channel n from) instance (itself (at n) r) _
      (λ t leaves. request_steps from m n instance k r (with_transactions r t) (with_stays (at n) r r t (itself (at n) r) leaves))
  by_steps from m (reply n instance) k r =
      on_reply_puts way (Stays (at n) r) r r.transactions (channel n from) instance (itself (at n) r) _ (set_up_steps (at n) from r r (itself (at n) r))
  by_steps from m (transfer n) k r = drops_steps (at n) r r (itself (at n) r)

  control_steps : (from : NodeId) (m : Message C) (r : CuUp M C) → Steps (message_ue from m) r (control_received way from m r)
  unfolding control_received
  control_steps (CuCp gnb) m r =
      either (ue_in (kind_of m)) r (is_same_gnb r.gnb gnb) _ _ (by_steps (CuCp gnb) m (kind_of m) refl r)
      (drops_steps (ue_in (kind_of m)) r r (itself (ue_in (kind_of m)) r))
  control_steps (up_id gnb number) m r = drops_steps _ r r (itself _ r)
  control_steps (Du gnb number) m r = drops_steps _ r r (itself _ r)
  control_steps Core m r = drops_steps _ r r (itself _ r)
  control_steps (Ue ue) m r = drops_steps _ r r (itself _ r)

  -- ---- items of tunnels, and polls

  bearer_steps : (ue : UeId) (c : CuUpContext) (bearer : BearerId) (a : Answer M P CuUpBearer) (r : CuUp M C) → PutsFor ue.0 (λ (b : CuUpBearer). Unit {0}) a
      → Steps ue r (with_bearer way r ue c bearer a)
  bearer_steps ue c bearer (gives outputs b) r p = (p.0, put_stays ue (record c { bearers = put bearer_cmp c.bearers bearer b }) r r (itself ue r))
  bearer_steps ue c bearer (spent counter) r p = tt

  taken_steps : (t : CuUpTunnel) (teid : ℕ) (item : Taken P) (r : CuUp M C) (o : Option CuUpContext) → Steps t.ue r (taken_of way r t teid item o)
  taken_steps t teid item r None = ((tt, tt), itself t.ue r)
  taken_steps t teid item r (Some c) = in_bearer (find bearer_cmp c.bearers t.bearer)
    where
      not_held : (b : CuUpBearer) (o : Option HeldReason) → Steps t.ue r (taken_by way r t teid item c b o)
      not_held b (Some reason) = ((tt, tt), itself t.ue r)
      not_held b None =
          puts_then t.ue.0 (Stays t.ue r) (Stays t.ue r) _ (end_where_over way t.ue)
          (bearer_steps t.ue c t.bearer (took way (cu_up_scope t.ue c t.bearer) t.kind teid item b) r (took_puts way (cu_up_scope t.ue c t.bearer) t.kind teid item b))
          (λ s there. over_steps t.ue r s there)

      in_bearer : (o : Option CuUpBearer) → Steps t.ue r (taken_in way r t teid item c o)
      in_bearer None = ((tt, tt), itself t.ue r)
      in_bearer (Some b) = not_held b (held_reason (cu_up_scope t.ue c t.bearer) b t.kind item)

  some_ue : (a b : UeId) → Some a ≡ Some b → a ≡ b
  some_ue a b e = cc

  take_steps : (teid : ℕ) (item : Taken P) (ue : UeId) (r : CuUp M C) (o : Option CuUpTunnel) → tunnel_ue o ≡ Some ue → Steps ue r (taken_on way r teid item o)
  take_steps teid item ue r None is = absurd cc
  take_steps teid item ue r (Some t) is =
      subst (λ (v : UeId). Steps v r (taken_of way r t teid item (context_of r t.ue))) (some_ue t.ue ue is) (taken_steps t teid item r (context_of r t.ue))

  poll_steps : (ue : UeId) (bearer : BearerId) (r : CuUp M C) → Steps ue r (poll way ue bearer r)
  unfolding poll
  poll_steps ue bearer r = by (context_of r ue)
    where
      in_bearer : (c : CuUpContext) (o : Option CuUpBearer) → Steps ue r (poll_bearer way r ue c bearer o)
      in_bearer c None = ((tt, tt), itself ue r)
      in_bearer c (Some b) =
          either ue r (length b.sender.unconfirmed == 0) _ _ ((tt, tt), itself ue r)
          (either ue r (c.flags.frozen || not (has_downlink b.downlink)) _ _ ((tt, tt), itself ue r)
          (bearer_steps ue c bearer (framed way (cu_up_scope ue c bearer) true false None Absent b) r (frame_puts way (cu_up_scope ue c bearer) true false None Absent b)))

      by : (o : Option CuUpContext) → Steps ue r (poll_on way r ue bearer o)
      by None = ((tt, tt), itself ue r)
      by (Some c) = in_bearer c (find bearer_cmp c.bearers bearer)

  -- ---- the table

  abbrev Acts : Input C P → CuUp M C → UeId → Type 0
  Acts input r ue = Steps ue r (cu_up_acts way r input)

  given : (input : Input C P) (r : CuUp M C) (own ue : UeId) → Some own ≡ Some ue → Acts input r own → Acts input r ue
  given input r own ue is acts = subst (Acts input r) (some_ue own ue is) acts

  order_steps : (order : Order) (r : CuUp M C) → Steps (order_ue order) r (ordered way order r)
  order_steps orders.Start r = start_steps r r (itself (at 0) r)
  order_steps (orders.Poll ue bearer) r = poll_steps ue bearer r
  order_steps order r = drops_steps _ r r (itself _ r)

  pub up_steps : (ue : UeId) (input : Input C P) (r : CuUp M C) → cu_up_ue r input ≡ Some ue → Steps ue r (cu_up_acts way r input)
  unfolding cu_up_acts take
  up_steps ue (control_input from m) r is = given (control_input from m) r (message_ue from m) ue is (control_steps from m r)
  up_steps ue (packet_input teid item) r is = take_steps teid item ue r (find nat_cmp r.tunnels teid) is
  up_steps ue (order_input order) r is = given (order_input order) r (order_ue order) ue is (order_steps order r)
  up_steps ue input r is = absurd cc

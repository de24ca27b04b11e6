-- What a CU-UP opens and closes is what is open then.
use Rattle.std.proofs.Common.{◌≡◌, ◌==◌, ℕ, ◌+◌, ◌*◌, Bool, true, false, not, ◌&&◌, ◌||◌, List, [], ◌∷◌, ◌++◌, length, map, Option, Some, None, refl, sym, ap, ◌∙◌}
use Rattle.std.specs.Prelude.{if◌then◌else◌}
use Rattle.std.specs.List.{flat_map, list_all}
use Rattle.std.specs.Ordering.{nat_cmp}
use Rattle.gnb_types.specs.declared.names.NodeId.{NodeId}
use Rattle.gnb_types.specs.declared.names.NodeId.TheVariants.{CuCp, Du as du_id}
use Rattle.gnb_types.specs.declared.names.UeId.{UeId}
use Rattle.gnb_types.specs.declared.names.BearerId.{BearerId}
use Rattle.gnb_types.specs.declared.names.SnBits.{SnBits}
use Rattle.gnb_types.specs.declared.keys.Channel.{Channel}
use Rattle.gnb_types.specs.declared.plans.Peer.{Peer}
use Rattle.gnb_types.specs.declared.plans.Tunnel.{Tunnel}
use Rattle.gnb_types.specs.declared.plans.SnStatus.{SnStatus}
use Rattle.gnb_types.specs.declared.inputs.Order.TheVariants as orders
use Rattle.gnb_types.specs.declared.outputs.Tag.TheVariants.{Absent}
use Rattle.gnb_types.specs.declared.reasons.HeldReason.{HeldReason}
use Rattle.gnb_types.specs.declared.reasons.DropReason.{DropReason}
use Rattle.gnb_types.specs.declared.reasons.DropReason.TheVariants.{NoContext, NoTunnel, Unexpected}
use Rattle.gnb_types.specs.declared.reasons.RefuseReason.TheVariants.{Empty, NoRadio}
use Rattle.gnb_types.specs.Names.{node_text}
use Rattle.gnb_types.specs.Orders.{bearer_cmp}
use Rattle.tables.specs.Tables.{find, put}
use Rattle.transaction_defs.specs.Callers.{close, due}
use Rattle.message_types.specs.declared.e1.E1Message.{E1Message}
use Rattle.message_types.specs.declared.e1.E1Message.TheVariants as e1s
use Rattle.unit_defs.specs.Ways.{Message, e1, Taken, closed, no, Input, control_input, packet_input, tick_input, order_input, Way, Answer, gives, spent, ◌then◌, nothing, puts, drops, teids_spent, Load, opened}
use Rattle.unit_defs.specs.Messages.{cause_busy, cause_quota, mode_uplinks, mode_switch, mode_freeze, mode_status, mode_resume, channel, are_bearers, bearers_of, statuses_of, teid_of}
use Rattle.unit_defs.specs.Teids.{teids_are_left}
use Rattle.unit_defs.specs.Transactions.{Kind, request, reply, transfer, kind_of, no_instance, ask, advance, replied}
use Rattle.unit_defs.specs.CuUpRecords.{CuUpBearer, CuUpContext, CuUp, CuUpTunnel, cu_up_scope, n3, f1u_uplink, forwarding_down, forwarding_up, TunnelKind}
use Rattle.unit_defs.specs.CuUpBearers.{teids_of_bearer, with_uplink, switched, frozen_to, with_status, resumed, is_over, open_teids, has_downlink, framed}
use Rattle.unit_defs.specs.CuUpItems.{held_reason, took}
use Rattle.unit_defs.specs.CuUp.{entries_of, with_entries, with_context, context_of, with_transactions, up_node, UpStep, steps, stops, step_with, each_bearer, answer_with, ended, ended_if_over, end_where_over, replies, opened_of, new_context, with_new, makes, fits, set_up_for, setup_response, setup_on, setup, modified, uplinks_from, teids_from, uplink_entries, uplinks_given, add_uplinks, as_switched, switch, as_frozen, peer_node, statuses, freeze, as_known, status_each, take_status, as_resumed, resume, names, uplinks_if, switch_if, freeze_if, status_if, resume_if, modify_on, as_released, released_on, release, asked, start, set_up, control_by, ue_in, is_own_cu_cp, control_received, with_bearer, taken_by, taken_in, taken_of, taken_on, take, poll_bearer, poll_on, poll, due_output, tick, cu_up_acts, closed_in, entries}
use Rattle.std.proofs.lemmas.List.{map-append}
use Rattle.proof_run_steps.specs.teids.Given.{opened_by}
use Rattle.proof_run_steps.proofs.teids.Bearers.{Stays, Took, ends, poll_stays, switched_stays, frozen_stays, status_stays, resumed_stays, item_took}
use Rattle.proof_run_steps.proofs.teids.CuUps.{Entry}
use Rattle.law_tunnels_are_owned.specs.open_tunnels.Open.{open_after, is_open_in}
use Rattle.law_tunnels_are_owned.proofs.open_tunnels.Opened.{open_append, with_these, without_these, with_append, closes_these, all_closed, open_put, open_without_each}
use Rattle.law_tunnels_are_owned.proofs.open_tunnels.Shows.{OpensNone, none_ask, none_advance, none_replied, none_due, Shows, shows_if, none_then, shows_then, shows_request, shows_reply}

-- ---- entries that are put

abbrev pub keys_of : List Entry → List ℕ
keys_of es = map (λ e. e.0) es

pub open_entries : (es table : List Entry) (q : ℕ) → is_open_in (with_entries table es) q ≡ with_these q (keys_of es) (is_open_in table q)
open_entries [] table q = refl
open_entries (e ∷ es) table q = open_entries es (put nat_cmp table e.0 e.1) q ∙ ap (with_these q (keys_of es)) (open_put table e.0 e.1 q)

without_append : (q : ℕ) (xs ys : List ℕ) (x : Bool) → without_these q (xs ++ ys) x ≡ without_these q ys (without_these q xs x)
without_append q [] ys x = refl
without_append q (t ∷ ts) ys x = without_append q ts ys (not (t == q) && x)

abbrev NoneOpened : {M P R : Type 0} → Answer M P R → Type 0
NoneOpened (gives os r) = opened_by os ≡ []
NoneOpened (spent k) = Unit {0}

module _ {M C P : Type 0} (way : Way M C P) where
  -- ---- what is opened of a new context

  keys_of_option : (ue : UeId) (bearer : BearerId) (context : ℕ) (kind : TunnelKind) (o : Option ℕ)
      → keys_of (entries ue bearer context kind o) ≡ keys_of (entries (record { 0 = 0 }) bearer 0 kind o)
  keys_of_option ue bearer context kind None = refl
  keys_of_option ue bearer context kind (Some teid) = refl

  keys_of_uplinks : (ue : UeId) (bearer : BearerId) (context : ℕ) (ts : List ℕ)
      → keys_of (flat_map (λ teid. entries ue bearer context f1u_uplink (Some teid)) ts)
      ≡ keys_of (flat_map (λ teid. entries (record { 0 = 0 }) bearer 0 f1u_uplink (Some teid)) ts)
  keys_of_uplinks ue bearer context [] = refl
  keys_of_uplinks ue bearer context (t ∷ ts) = ap (λ (ks : List ℕ). t ∷ ks) (keys_of_uplinks ue bearer context ts)

  -- the TEIDs of a bearer, whosever they are
  same_keys : (ue : UeId) (context : ℕ) (e : BearerId × CuUpBearer) → keys_of (entries_of ue context e) ≡ keys_of (entries_of (record { 0 = 0 }) 0 e)
  same_keys ue context e =
      four (entries ue e.0 context n3 e.1.n3) (flat_map (λ teid. entries ue e.0 context f1u_uplink (Some teid)) e.1.uplinks)
      (entries ue e.0 context forwarding_down e.1.forward_down) (entries ue e.0 context forwarding_up e.1.forward_up)
      ∙ (λ i. keys_of_option ue e.0 context n3 e.1.n3 i ++ keys_of_uplinks ue e.0 context e.1.uplinks i
      ++ keys_of_option ue e.0 context forwarding_down e.1.forward_down i ++ keys_of_option ue e.0 context forwarding_up e.1.forward_up i)
      ∙ sym (four (entries (record { 0 = 0 }) e.0 0 n3 e.1.n3) (flat_map (λ teid. entries (record { 0 = 0 }) e.0 0 f1u_uplink (Some teid)) e.1.uplinks)
      (entries (record { 0 = 0 }) e.0 0 forwarding_down e.1.forward_down) (entries (record { 0 = 0 }) e.0 0 forwarding_up e.1.forward_up))
    where
      four : (a b c d : List Entry) → keys_of (a ++ b ++ c ++ d) ≡ keys_of a ++ keys_of b ++ keys_of c ++ keys_of d
      four a b c d =
          map-append (λ (x : Entry). x.0) (a ++ b ++ c) d
          ∙ ap (λ (ks : List ℕ). ks ++ keys_of d) (map-append (λ (x : Entry). x.0) (a ++ b) c
          ∙ ap (λ (ks : List ℕ). ks ++ keys_of c) (map-append (λ (x : Entry). x.0) a b))

  entries_opened : (es : List Entry) (q : ℕ) (x : Bool)
      → open_after {M = M} {L = Load P} {P = P} q (map (λ t. opened t.0) es) x ≡ with_these q (keys_of es) x
  entries_opened [] q x = refl
  entries_opened (e ∷ es) q x = entries_opened es q (e.0 == q || x)

  openings_show : (ue : UeId) (context : ℕ) (bs : List (BearerId × CuUpBearer)) (q : ℕ) (x : Bool)
      → open_after q (flat_map (opened_of way) bs) x ≡ with_these q (keys_of (flat_map (entries_of ue context) bs)) x
  openings_show ue context [] q x = refl
  openings_show ue context (b ∷ bs) q x =
      open_append q (opened_of way b) (flat_map (opened_of way) bs) x
      ∙ openings_show ue context bs q (open_after q (opened_of way b) x)
      ∙ ap (with_these q (keys_of (flat_map (entries_of ue context) bs)))
      (entries_opened (entries_of (record { 0 = 0 }) 0 b) q x ∙ ap (λ (ks : List ℕ). with_these q ks x) (sym (same_keys ue context b)))
      ∙ sym (with_append q (keys_of (entries_of ue context b)) (keys_of (flat_map (entries_of ue context) bs)) x)
      ∙ ap (λ (ks : List ℕ). with_these q ks x)
      (sym (map-append (λ (e : Entry). e.0) (entries_of ue context b) (flat_map (entries_of ue context) bs)))

  -- ---- a CU-UP that shows what is open

  abbrev tunnels_of : CuUp M C → List Entry
  tunnels_of r = r.tunnels

  abbrev pub Fits : CuUp M C → Answer M P (CuUp M C) → Type 0
  Fits r a = Shows way tunnels_of r.tunnels a

  fits_if : (r : CuUp M C) (t : Bool) (x y : Answer M P (CuUp M C)) → Fits r x → Fits r y → Fits r (if t then x else y)
  fits_if r t x y p q = shows_if way tunnels_of r.tunnels t x y p q

  dropped_fits : (reason : DropReason) (r : CuUp M C) → Fits r (drops reason r)
  dropped_fits reason r = λ q. refl

  -- ---- the bearers of a context

  abbrev StepKeeps : UpStep way → Type 0
  StepKeeps (steps os bearers) = (q : ℕ) (x : Bool) → open_after q os x ≡ x
  StepKeeps (stops k) = Unit {0}

  bearer_keeps : (b : CuUpBearer) (a : Answer M P CuUpBearer) → Stays way (ends b) a → OpensNone a
  bearer_keeps b (gives os c) p = λ q x. closes_these q os x p.0 ∙ ap (λ (ts : List ℕ). without_these q ts x) p.1
  bearer_keeps b (spent k) p = tt

  step_keeps : (bearer : BearerId) (a : Answer M P CuUpBearer) (s : UpStep way) → OpensNone a → StepKeeps s → StepKeeps (step_with way bearer a s)
  step_keeps bearer (gives os c) (steps more bs) p h = λ q x. open_append q os more x ∙ ap (open_after q more) (p q x) ∙ h q x
  step_keeps bearer (gives os c) (stops k) p h = tt
  step_keeps bearer (spent k) s p h = tt

  each_keeps : (order : BearerId → CuUpBearer → Answer M P CuUpBearer) → ((bearer : BearerId) (b : CuUpBearer) → Stays way (ends b) (order bearer b))
      → (es : List (BearerId × CuUpBearer)) → StepKeeps (each_bearer way order es)
  each_keeps order each [] = λ q x. refl
  each_keeps order each (e ∷ es) =
      step_keeps e.0 (order e.0 e.1) (each_bearer way order es) (bearer_keeps e.1 (order e.0 e.1) (each e.0 e.1)) (each_keeps order each es)

  statuses_keep : (ue : UeId) (c : CuUpContext) (ss : List SnStatus) (es : List (BearerId × CuUpBearer)) → StepKeeps (status_each way ue c ss es)
  statuses_keep ue c [] es = λ q x. refl
  statuses_keep ue c (s ∷ ss) [] = λ q x. refl
  statuses_keep ue c (s ∷ ss) (e ∷ es) =
      step_keeps e.0 (with_status way (cu_up_scope ue c e.0) s e.1) (status_each way ue c ss es)
      (bearer_keeps e.1 (with_status way (cu_up_scope ue c e.0) s e.1) (status_stays way (cu_up_scope ue c e.0) s e.1)) (statuses_keep ue c ss es)

  answer_fits : (r : CuUp M C) (ue : UeId) (c : CuUpContext) (s : UpStep way) → StepKeeps s → Fits r (answer_with way r ue c s)
  answer_fits r ue c (steps os bearers) still = (λ q. sym (still q (is_open_in r.tunnels q)))
  answer_fits r ue c (stops k) still = tt

  replies_fits : (ch : Channel) (m : E1Message) (r : CuUp M C) → Fits r (replies way ch m r)
  replies_fits ch m r =
      none_then way tunnels_of r.tunnels (replied way r.transactions ch (e1 m)) (with_transactions r)
      (none_replied way r.transactions ch (e1 m)) (λ s q. refl)

  steps_fits : (r : CuUp M C) (ch : Channel) (ue : UeId) (c : CuUpContext) (s : UpStep way) (m : E1Message) → StepKeeps s
      → Fits r (answer_with way r ue c s then replies way ch m)
  steps_fits r ch ue c s m still =
      shows_then way tunnels_of r.tunnels (answer_with way r ue c s) (replies way ch m) (answer_fits r ue c s still) (replies_fits ch m)

  -- ---- a context ends

  closings_show : (es : List (BearerId × CuUpBearer)) (q : ℕ) (x : Bool)
      → open_after {M = M} {L = Load P} {P = P} q (flat_map (λ e. map (λ teid. closed teid) (open_teids e.1)) es) x
      ≡ without_these q (flat_map (λ e. open_teids e.1) es) x
  closings_show [] q x = refl
  closings_show (e ∷ es) q x =
      open_append q (map (λ teid. closed teid) (open_teids e.1)) (flat_map (λ e. map (λ teid. closed teid) (open_teids e.1)) es) x
      ∙ closings_show es q (open_after {M = M} {L = Load P} {P = P} q (map (λ teid. closed teid) (open_teids e.1)) x)
      ∙ ap (without_these q (flat_map (λ e. open_teids e.1) es)) (all_closed M (Load P) P q (open_teids e.1) x)
      ∙ sym (without_append q (open_teids e.1) (flat_map (λ e. open_teids e.1) es) x)

  ended_fits : (r : CuUp M C) (ue : UeId) (c : CuUpContext) → Fits r (ended way r ue c)
  unfolding ended
  ended_fits r ue c = λ q.
      open_without_each (flat_map (λ e. open_teids e.1) c.bearers) r.tunnels q ∙ sym (closings_show c.bearers q (is_open_in r.tunnels q))

  over_fits : (ue : UeId) (r : CuUp M C) → Fits r (end_where_over way ue r)
  unfolding end_where_over
  over_fits ue r = by (context_of r ue)
    where
      by : (c : Option CuUpContext) → Fits r (ended_if_over way ue r c)
      by None = (λ q. refl)
      by (Some c) =
          fits_if r (c.flags.released && list_all (λ e. is_over c.flags e.1) c.bearers) (ended way r ue c) (nothing r)
          (ended_fits r ue c) (λ q. refl)

  released_fits : (ue : UeId) (is_final : Bool) (r : CuUp M C) (c : Option CuUpContext) → Fits r (released_on way ue is_final r c)
  released_fits ue is_final r None = (λ q. refl)
  released_fits ue true r (Some c) = ended_fits r ue c
  released_fits ue false r (Some c) = over_fits ue (with_context ue r (as_released way c))

  -- ---- Bearer Context Setup

  makes_fits : (ue : UeId) (sn : SnBits) (quota : ℕ) (target : Bool) (count : ℕ) (r : CuUp M C) → Fits r (makes way ue sn quota target count r)
  unfolding makes
  makes_fits ue sn quota target count r = by (teids_are_left r.next_teid (count * teids_of_bearer target))
    where
      c : CuUpContext
      c = new_context way r sn quota target count

      by : (t : Bool) → Fits r (if t then with_new way ue r (count * teids_of_bearer target) (new_context way r sn quota target count) else spent teids_spent)
      by true = λ q.
          open_entries (flat_map (entries_of ue r.next_teid) (new_context way r sn quota target count).bearers) r.tunnels q
          ∙ sym (openings_show ue r.next_teid (new_context way r sn quota target count).bearers q (is_open_in r.tunnels q))
      by false = tt

  set_up_fits : (ch : Channel) (ue : UeId) (instance : ℕ) (forward : Bool) (r : CuUp M C) (c : Option CuUpContext) → Fits r (set_up_for way ch ue instance forward r c)
  set_up_fits ch ue instance forward r None = (λ q. refl)
  set_up_fits ch ue instance forward r (Some c) = replies_fits ch (setup_response way ue instance forward c.bearers) r

  setup_fits : (ch : Channel) (ue : UeId) (instance count : ℕ) (sn : SnBits) (quota : ℕ) (forward : Bool) (r : CuUp M C) (c : Option CuUpContext)
      → Fits r (setup_on way ch ue instance count sn quota forward r c)
  setup_fits ch ue instance count sn quota forward r (Some c) =
      (replies_fits ch (e1s.BearerContextSetupFailure ue instance cause_busy) r)
  setup_fits ch ue instance count sn quota forward r None =
      fits_if r (not (fits way count quota r)) _ _ ((replies_fits ch (e1s.BearerContextSetupFailure ue instance cause_quota) r))
      (shows_then way tunnels_of r.tunnels (makes way ue sn quota forward count r)
      (λ s. set_up_for way ch ue instance forward s (context_of s ue)) (makes_fits ue sn quota forward count r)
      (λ s. set_up_fits ch ue instance forward s (context_of s ue)))

  -- ---- Bearer Context Modification: uplinks are added

  abbrev OpensStep : List ℕ → UpStep way → Type 0
  OpensStep teids (steps os bearers) = (q : ℕ) (x : Bool) → open_after q os x ≡ with_these q teids x
  OpensStep teids (stops k) = Unit {0}

  uplinks_open : (ue : UeId) (context next : ℕ) (es : List (BearerId × CuUpBearer))
      → OpensStep (keys_of (uplink_entries way ue context (teids_from way next es))) (uplinks_from way next es)
  unfolding with_uplink
  uplinks_open ue context next [] = λ q x. refl
  uplinks_open ue context next (e ∷ es) = by (uplinks_from way (next + 1) es) (uplinks_open ue context (next + 1) es)
    where
      by : (s : UpStep way) → OpensStep (keys_of (uplink_entries way ue context (teids_from way (next + 1) es))) s
          → OpensStep (next ∷ keys_of (uplink_entries way ue context (teids_from way (next + 1) es))) (step_with way e.0 (with_uplink way next e.1) s)
      by (steps os bs) p = λ q x. p q (next == q || x)
      by (stops k) p = tt

  uplinks_fits : (ch : Channel) (ue : UeId) (instance : ℕ) (c : CuUpContext) (r : CuUp M C) → Fits r (add_uplinks way ch ue instance c r)
  unfolding add_uplinks
  uplinks_fits ch ue instance c r = by (teids_are_left r.next_teid (length c.bearers))
    where
      given : (s : UpStep way) → OpensStep (keys_of (uplink_entries way ue c.instance (teids_from way r.next_teid c.bearers))) s
          → Fits r (answer_with way (uplinks_given way ue r c (teids_from way r.next_teid c.bearers)) ue c s)
      given (steps os bearers) p = λ q.
          open_entries (uplink_entries way ue c.instance (teids_from way r.next_teid c.bearers)) r.tunnels q ∙ sym (p q (is_open_in r.tunnels q))
      given (stops k) p = tt

      by : (t : Bool) → Fits r (if not t then spent teids_spent
          else (answer_with way (uplinks_given way ue r c (teids_from way r.next_teid c.bearers)) ue c (uplinks_from way r.next_teid c.bearers)
          then replies way ch (modified way ue instance (Some (teids_from way r.next_teid c.bearers)) None)))
      by true =
          shows_then way tunnels_of r.tunnels
          (answer_with way (uplinks_given way ue r c (teids_from way r.next_teid c.bearers)) ue c (uplinks_from way r.next_teid c.bearers))
          (replies way ch (modified way ue instance (Some (teids_from way r.next_teid c.bearers)) None))
          (given (uplinks_from way r.next_teid c.bearers) (uplinks_open ue c.instance r.next_teid c.bearers))
          (replies_fits ch (modified way ue instance (Some (teids_from way r.next_teid c.bearers)) None))
      by false = tt

  -- ---- the other modifications

  module _ (ch : Channel) (ue : UeId) (instance : ℕ) (r : CuUp M C) where
    choose : (t : Bool) (x y : Answer M P (CuUp M C)) → Fits r x → Fits r y → Fits r (if t then x else y)
    choose = fits_if r

    drop : Fits r (drops Unexpected r)
    drop = dropped_fits Unexpected r

    switch_fits : (d : Option ℕ) (list : Option (List Tunnel)) (c : CuUpContext) → Fits r (switch_if way ch ue instance d list c r)
    unfolding switch
    switch_fits (Some d) (Some list) c =
        choose (c.flags.released || not (are_bearers (names way c) (bearers_of list))) (drops Unexpected r) _ drop
        (steps_fits r ch ue (as_switched way c)
        (each_bearer way (λ b. switched way (cu_up_scope ue (as_switched way c) b) (du_id r.gnb d) (teid_of list b)) c.bearers) (modified way ue instance None None)
        (each_keeps (λ b. switched way (cu_up_scope ue (as_switched way c) b) (du_id r.gnb d) (teid_of list b))
        (λ b x. switched_stays way (cu_up_scope ue (as_switched way c) b) (du_id r.gnb d) (teid_of list b) x) c.bearers))
    switch_fits (Some d) None c = drop
    switch_fits None list c = drop

    freeze_fits : (p : Option Peer) (a b : Option (List Tunnel)) (c : CuUpContext) → Fits r (freeze_if way ch ue instance p a b c r)
    unfolding freeze
    freeze_fits (Some p) (Some a) (Some b) c =
        choose (c.flags.frozen || c.flags.released || not c.flags.arrived || not (are_bearers (names way c) (bearers_of a)) || not (are_bearers (names way c) (bearers_of b)))
        (drops Unexpected r) _ drop
        (choose (not c.flags.may_serve) _ _ (replies_fits ch (e1s.BearerContextModificationFailure ue instance cause_busy) r)
        (steps_fits r ch ue (as_frozen way c)
        (each_bearer way (λ x. frozen_to way (cu_up_scope ue (as_frozen way c) x) (peer_node way p) (teid_of a x) (teid_of b x)) c.bearers)
        (modified way ue instance None (Some (statuses way c)))
        (each_keeps (λ x. frozen_to way (cu_up_scope ue (as_frozen way c) x) (peer_node way p) (teid_of a x) (teid_of b x))
        (λ x y. frozen_stays way (cu_up_scope ue (as_frozen way c) x) (peer_node way p) (teid_of a x) (teid_of b x) y) c.bearers)))
    freeze_fits (Some p) (Some a) None c = drop
    freeze_fits (Some p) None b c = drop
    freeze_fits None a b c = drop

    status_fits : (list : Option (List SnStatus)) (c : CuUpContext) → Fits r (status_if way ch ue instance list c r)
    unfolding take_status
    status_fits (Some list) c =
        choose (c.flags.may_serve || not (are_bearers (names way c) (statuses_of list))) (drops Unexpected r) _ drop
        (steps_fits r ch ue (as_known way c) (status_each way ue (as_known way c) list c.bearers) (modified way ue instance None None)
        (statuses_keep ue (as_known way c) list c.bearers))
    status_fits None c = drop

    resume_fits : (c : CuUpContext) → Fits r (resume_if way ch ue instance c r)
    unfolding resume
    resume_fits c =
        choose (c.flags.frozen && not c.flags.released) _ (drops Unexpected r)
        (steps_fits r ch ue (as_resumed way c)
        (each_bearer way (λ b. resumed way (cu_up_scope ue (as_resumed way c) b)) c.bearers) (modified way ue instance None None)
        (each_keeps (λ b. resumed way (cu_up_scope ue (as_resumed way c) b)) (λ b x. resumed_stays way (cu_up_scope ue (as_resumed way c) b) x) c.bearers))
        drop

    uplinks_if_fits : (c : CuUpContext) → Fits r (uplinks_if way ch ue instance c r)
    uplinks_if_fits c = fits_if r c.flags.released (drops Unexpected r) _ (dropped_fits Unexpected r) (uplinks_fits ch ue instance c r)

    modify_fits : (downlinks : Option (List Tunnel)) (mode : ℕ) (peer : Option Peer) (down up : Option (List Tunnel)) (ss : Option (List SnStatus)) (du : Option ℕ)
        (c : Option CuUpContext) → Fits r (modify_on way ch (e1s.BearerContextModificationRequest ue instance downlinks mode peer down up ss du) r c)
    modify_fits downlinks mode peer down up ss du None = dropped_fits NoContext r
    modify_fits downlinks mode peer down up ss du (Some c) =
        fits_if r (mode == mode_uplinks) _ _ (uplinks_if_fits c)
        (fits_if r (mode == mode_switch) _ _ ((switch_fits du downlinks c))
        (fits_if r (mode == mode_freeze) _ _ ((freeze_fits peer down up c))
        (fits_if r (mode == mode_status) _ _ ((status_fits ss c))
        (fits_if r (mode == mode_resume) _ _ ((resume_fits c)) (dropped_fits Unexpected r)))))

  -- ---- requests and replies

  release_fits : (ch : Channel) (ue : UeId) (instance : ℕ) (is_final : Bool) (r : CuUp M C) → Fits r (release way ch ue instance is_final r)
  unfolding release
  release_fits ch ue instance is_final r =
      shows_then way tunnels_of r.tunnels (replies way ch (e1s.BearerContextReleaseComplete ue instance) r)
      (λ s. released_on way ue is_final s (context_of s ue)) (replies_fits ch (e1s.BearerContextReleaseComplete ue instance) r)
      (λ s. released_fits ue is_final s (context_of s ue))

  asked_fits : (ch : Channel) (m : Message C) (r : CuUp M C) → Fits r (asked way ch m r)
  unfolding setup
  asked_fits ch (e1 (e1s.BearerContextSetupRequest ue instance count sn quota forward)) r =
      setup_fits ch ue instance count sn quota forward r (context_of r ue)
  asked_fits ch (e1 (e1s.BearerContextModificationRequest ue instance downlinks mode peer down up ss du)) r =
      modify_fits ch ue instance r downlinks mode peer down up ss du (context_of r ue)
  asked_fits ch (e1 (e1s.BearerContextReleaseCommand ue instance is_final)) r =
      release_fits ch ue instance is_final r
  asked_fits ch m r = dropped_fits Unexpected r

  is_set_up_fits : (ch : Channel) (r : CuUp M C) → Fits r (set_up way ch r)
  unfolding set_up
  is_set_up_fits ch r =
      none_then way tunnels_of r.tunnels (advance way (record r.transactions { caller = close r.transactions.caller ch }) ch)
      (λ a. record r { is_set_up = true; transactions = a.transactions })
      (none_advance way (record r.transactions { caller = close r.transactions.caller ch }) ch) (λ s q. refl)

  control_by_fits : (ch : Channel) (m : Message C) (r : CuUp M C) (k : Kind) → Fits r (control_by way ch m r k)
  control_by_fits ch m r (request ue i) =
      shows_request way tunnels_of r r.transactions ch i (λ t. asked way ch m (with_transactions r t)) (λ t. asked_fits ch m (with_transactions r t))
  control_by_fits ch m r (reply ue i) =
      (shows_reply way tunnels_of r r.transactions ch i (set_up way ch r) (is_set_up_fits ch r))
  control_by_fits ch m r (transfer ue) = dropped_fits Unexpected r

  control_fits : (from : NodeId) (m : Message C) (r : CuUp M C) → Fits r (control_received way from m r)
  unfolding control_received
  control_fits from m r =
      fits_if r (is_own_cu_cp way r.gnb from) _ (drops Unexpected r)
      (control_by_fits (channel (ue_in way (kind_of m)) from) m r (kind_of m)) (dropped_fits Unexpected r)

  -- ---- items, polls, ticks

  bearer_fits : (r : CuUp M C) (ue : UeId) (c : CuUpContext) (bearer : BearerId) (a : Answer M P CuUpBearer) → NoneOpened a
      → Fits r (with_bearer way r ue c bearer a)
  bearer_fits r ue c bearer (gives os b) none = λ q.
      open_without_each (flat_map closed_in os) r.tunnels q ∙ sym (closes_these q os (is_open_in r.tunnels q) none)
  bearer_fits r ue c bearer (spent k) none = tt

  took_none : (kind : TunnelKind) (teid : ℕ) (b : CuUpBearer) (a : Answer M P CuUpBearer) → Took way kind teid b a → NoneOpened a
  took_none kind teid b (gives os c) p = p.0
  took_none kind teid b (spent k) p = tt

  stays_none : (b : CuUpBearer) (a : Answer M P CuUpBearer) → Stays way (ends b) a → NoneOpened a
  stays_none b (gives os c) p = p.0
  stays_none b (spent k) p = tt

  taken_fits : (r : CuUp M C) (t : CuUpTunnel) (teid : ℕ) (item : Taken P) (c : CuUpContext) (b : CuUpBearer) (reason : Option HeldReason)
      → Fits r (taken_by way r t teid item c b reason)
  taken_fits r t teid item c b (Some reason) = (λ q. refl)
  taken_fits r t teid item c b None =
      shows_then way tunnels_of r.tunnels
      (with_bearer way r t.ue c t.bearer (took way (cu_up_scope t.ue c t.bearer) t.kind teid item b)) (end_where_over way t.ue)
      (bearer_fits r t.ue c t.bearer (took way (cu_up_scope t.ue c t.bearer) t.kind teid item b)
      (took_none t.kind teid b _ (item_took way (cu_up_scope t.ue c t.bearer) t.kind teid item b)))
      (over_fits t.ue)

  take_fits : (teid : ℕ) (item : Taken P) (r : CuUp M C) → Fits r (take way teid item r)
  unfolding take
  take_fits teid item r = by (find nat_cmp r.tunnels teid)
    where
      in_bearer : (t : CuUpTunnel) (c : CuUpContext) (b : Option CuUpBearer) → Fits r (taken_in way r t teid item c b)
      in_bearer t c None = dropped_fits NoContext r
      in_bearer t c (Some b) = taken_fits r t teid item c b (held_reason (cu_up_scope t.ue c t.bearer) b t.kind item)

      in_context : (t : CuUpTunnel) (c : Option CuUpContext) → Fits r (taken_of way r t teid item c)
      in_context t None = dropped_fits NoContext r
      in_context t (Some c) = in_bearer t c (find bearer_cmp c.bearers t.bearer)

      by : (t : Option CuUpTunnel) → Fits r (taken_on way r teid item t)
      by None = dropped_fits NoTunnel r
      by (Some t) = in_context t (context_of r t.ue)

  poll_fits : (ue : UeId) (bearer : BearerId) (r : CuUp M C) → Fits r (poll way ue bearer r)
  unfolding poll
  poll_fits ue bearer r = by (context_of r ue)
    where
      in_bearer : (c : CuUpContext) (b : Option CuUpBearer) → Fits r (poll_bearer way r ue c bearer b)
      in_bearer c None = (λ q. refl)
      in_bearer c (Some b) =
          fits_if r (length b.sender.unconfirmed == 0) (puts (no Empty) r) _ (λ q. refl)
          (fits_if r (c.flags.frozen || not (has_downlink b.downlink)) (puts (no NoRadio) r) _ (λ q. refl)
          (bearer_fits r ue c bearer (framed way (cu_up_scope ue c bearer) true false None Absent b)
          (stays_none b _ (poll_stays way (cu_up_scope ue c bearer) b))))

      by : (c : Option CuUpContext) → Fits r (poll_on way r ue bearer c)
      by None = (λ q. refl)
      by (Some c) = in_bearer c (find bearer_cmp c.bearers bearer)

  start_fits : (r : CuUp M C) → Fits r (start way r)
  unfolding start
  start_fits r =
      fits_if r r.is_set_up (nothing r) _ (λ q. refl)
      (none_then way tunnels_of r.tunnels (ask way r.transactions (channel 0 (CuCp r.gnb))
      (record { message = e1 (e1s.E1SetupRequest no_instance (node_text (up_node r))); deadline = None; awaited = false }))
      (λ a. with_transactions r a.transactions) (none_ask way r.transactions (channel 0 (CuCp r.gnb)) _) (λ s q. refl))

  tick_fits : (r : CuUp M C) → Fits r (tick way r)
  unfolding tick
  tick_fits r = λ q. sym (none_due way (due_output way) (λ c m. refl) (λ c. refl) (due r.transactions.caller) q (is_open_in r.tunnels q))

  pub cu_up_fits : (r : CuUp M C) (input : Input C P) → Fits r (cu_up_acts way r input)
  unfolding cu_up_acts
  cu_up_fits r (control_input from m) = control_fits from m r
  cu_up_fits r (packet_input teid item) = take_fits teid item r
  cu_up_fits r tick_input = tick_fits r
  cu_up_fits r (order_input orders.Start) = start_fits r
  cu_up_fits r (order_input (orders.Poll ue bearer)) = poll_fits ue bearer r
  cu_up_fits r input = dropped_fits Unexpected r

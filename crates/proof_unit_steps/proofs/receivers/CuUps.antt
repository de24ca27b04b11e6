-- A CU-UP keeps what its receivers store above what they await.
use Rattle.std.proofs.Common.{◌≡◌, ◌==◌, ℕ, ◌+◌, ◌*◌, Bool, true, false, cond, not, ◌&&◌, ◌||◌, List, [], ◌∷◌, length, map, Option, Some, None, refl, sym, ap, ◌∙◌, subst}
use Rattle.std.specs.Ordering.{nat_cmp, eq_by_cmp, match_ordering}
use Rattle.std.specs.declared.cmp.Ordering.{Ordering}
use Rattle.std.specs.declared.cmp.Ordering.TheVariants.{Less, Equal, Greater}
use Rattle.std.specs.Map.{lookup}
use Rattle.std.specs.BTreeMap.{is_at, insert_entry}
use Rattle.std.specs.List.{list_all, AllByRecursion}
use Rattle.std.specs.Prelude.{if◌then◌else◌}
use Rattle.gnb_types.specs.declared.names.NodeId.{NodeId}
use Rattle.gnb_types.specs.declared.names.NodeId.TheVariants.{CuCp, Du as du_id}
use Rattle.gnb_types.specs.declared.names.UeId.{UeId}
use Rattle.gnb_types.specs.declared.names.BearerId.{BearerId}
use Rattle.gnb_types.specs.declared.names.SnBits.{SnBits}
use Rattle.gnb_types.specs.declared.keys.Channel.{Channel}
use Rattle.gnb_types.specs.declared.plans.Peer.{Peer}
use Rattle.gnb_types.specs.declared.plans.Tunnel.{Tunnel}
use Rattle.gnb_types.specs.declared.plans.SnStatus.{SnStatus}
use Rattle.gnb_types.specs.declared.inputs.Order.TheVariants as orders
use Rattle.gnb_types.specs.declared.outputs.Tag.TheVariants.{Absent}
use Rattle.gnb_types.specs.declared.reasons.HeldReason.{HeldReason}
use Rattle.gnb_types.specs.declared.reasons.DropReason.TheVariants.{Unexpected}
use Rattle.gnb_types.specs.declared.reasons.RefuseReason.TheVariants.{Empty, NoRadio}
use Rattle.gnb_types.specs.Names.{node_text}
use Rattle.gnb_types.specs.Orders.{bearer_cmp, ue_cmp}
use Rattle.tables.specs.Tables.{find, put, without}
use Rattle.transaction_defs.specs.Callers.{close}
use Rattle.message_types.specs.declared.e1.E1Message.{E1Message}
use Rattle.message_types.specs.declared.e1.E1Message.TheVariants as e1s
use Rattle.unit_defs.specs.Ways.{Message, e1, Taken, no, Input, control_input, packet_input, tick_input, order_input, Way, Answer, gives, spent, ◌then◌, nothing, puts, drops, teids_spent}
use Rattle.unit_defs.specs.Messages.{cause_busy, cause_quota, mode_uplinks, mode_switch, mode_freeze, mode_status, mode_resume, channel, are_bearers, bearers_of, statuses_of, teid_of}
use Rattle.unit_defs.specs.Teids.{teids_are_left}
use Rattle.unit_defs.specs.Transactions.{Kind, request, reply, transfer, kind_of, no_instance, ask, advance, replied}
use Rattle.unit_defs.specs.CuUpRecords.{CuUpBearer, CuUpContext, CuUp, CuUpTunnel, cu_up_scope, CuUpFlags}
use Rattle.unit_defs.specs.CuUpBearers.{made, teids_of_bearer, with_uplink, switched, frozen_to, with_status, resumed, is_over, has_downlink, framed, released}
use Rattle.unit_defs.specs.CuUpItems.{held_reason, took}
use Rattle.unit_defs.specs.CuUp.{bearers_from, bearers_made, with_context, context_of, with_transactions, up_node, UpStep, steps, stops, step_with, each_bearer, answer_with, ended, ended_if_over, end_where_over, replies, new_context, with_new, makes, fits, set_up_for, setup_response, setup_on, setup, modified, uplinks_from, teids_from, uplinks_given, add_uplinks, as_switched, switch, as_frozen, peer_node, statuses, freeze, as_known, status_each, take_status, as_resumed, resume, names, switch_if, freeze_if, status_if, resume_if, modify_on, as_released, released_on, release, asked, start, set_up, control_by, ue_in, is_own_cu_cp, control_received, with_bearer, taken_by, taken_in, taken_of, taken_on, take, poll_bearer, poll_on, poll, tick, cu_up_acts}
use Rattle.gnb_types.proofs.OrderLemmas.{ue_total}
use Rattle.tables.proofs.TableLaws.{find-put, find-without}
use Rattle.pdcp_defs.specs.Receivers.{deliver as handed_up}
use Rattle.proof_unit_steps.specs.answers.After.{HoldsAfter}
use Rattle.proof_unit_steps.proofs.answers.Answers.{holds_if, holds_then, any_then, holds_request, holds_reply}
use Rattle.proof_unit_steps.specs.receivers.Ready.{CuUpStores, BearersStore, ContextsStore, CuUpReady}
use Rattle.proof_unit_steps.proofs.receivers.Receivers.{with_none, when_delivered, when_frozen}
use Rattle.proof_unit_steps.proofs.receivers.UpBearers.{framed_keeps, switched_hands, frozen_keeps, status_none, resumed_hands, as_stored, not_held_there, item_stores}

-- ---- tables of bearers

module _ {X : Type 0} (P : X → Type 0) where
  abbrev pub Each : List (BearerId × X) → Type 0
  Each es = AllByRecursion (λ (e : BearerId × X). P e.1) es

  pub found_in : (es : List (BearerId × X)) (x : BearerId) (b : X) → Each es → find bearer_cmp es x ≡ Some b → P b
  unfolding find
  found_in [] x b all is = absurd cc
  found_in (e ∷ es) x b all is = by (found_in es x b all.1) (is_at (bearer_cmp x) e.0) is
    where
      by : (find bearer_cmp es x ≡ Some b → P b) → (t : Bool) → cond t (Some e.1) (lookup (is_at (bearer_cmp x)) es) ≡ Some b → P b
      by later true h = let same : e.1 ≡ b = cc in subst P same all.0
      by later false h = later h

  pub all_put : (es : List (BearerId × X)) (x : BearerId) (b : X) → Each es → P b → Each (put bearer_cmp es x b)
  unfolding put
  all_put [] x b all p = (p, tt)
  all_put (e ∷ es) x b all p = by (bearer_cmp x e.0) (all_put es x b all.1 p)
    where
      by : (r : Ordering) → Each (insert_entry bearer_cmp es x b) → Each (match_ordering r ((x, b) ∷ e ∷ es) ((e.0, b) ∷ es) (e ∷ insert_entry bearer_cmp es x b))
      by Less rest = (p, all)
      by Equal rest = (p, all.1)
      by Greater rest = (all.0, rest)

-- ---- contexts

abbrev Bearers : Type 0
Bearers = List (BearerId × CuUpBearer)

pub contexts_put : (contexts : List (UeId × CuUpContext)) (ue : UeId) (d : CuUpContext) → ContextsStore contexts → BearersStore d.flags d.bearers → ContextsStore (put ue_cmp contexts ue d)
contexts_put contexts ue d all p u c e = by (eq_by_cmp ue_cmp u ue) (sym (find-put ue_total contexts ue d u) ∙ e)
  where
    by : (t : Bool) → cond t (Some d) (find ue_cmp contexts u) ≡ Some c → BearersStore c.flags c.bearers
    by true h = let same : d ≡ c = cc in subst (λ (x : CuUpContext). BearersStore x.flags x.bearers) same p
    by false h = all u c h

contexts_left : (contexts : List (UeId × CuUpContext)) (ue : UeId) → ContextsStore contexts → ContextsStore (without ue_cmp contexts ue)
contexts_left contexts ue all u c e = by (eq_by_cmp ue_cmp u ue) (sym (find-without ue_total contexts ue u) ∙ e)
  where
    by : (t : Bool) → cond t None (find ue_cmp contexts u) ≡ Some c → BearersStore c.flags c.bearers
    by true h = absurd cc
    by false h = all u c h

-- a new context stores nothing
pub made_store : (flags : CuUpFlags) (target : Bool) (next : ℕ) (bs : List BearerId) → BearersStore flags (bearers_made target next bs)
unfolding made
made_store flags target next [] = tt
made_store flags target next (b ∷ bs) = (with_none flags (made target next).receiver refl, made_store flags target (next + teids_of_bearer target) bs)

module _ {M C P : Type 0} (way : Way M C P) where
  abbrev Keeps : Answer M P (CuUp M C) → Type 0
  Keeps a = HoldsAfter (λ (r : CuUp M C). CuUpReady r) a

  keeps_if : (t : Bool) (x y : Answer M P (CuUp M C)) → Keeps x → Keeps y → Keeps (if t then x else y)
  keeps_if t x y p q = holds_if (λ (r : CuUp M C). CuUpReady r) t x y p q

  replies_keep : (ch : Channel) (m : E1Message) (r : CuUp M C) → CuUpReady r → Keeps (replies way ch m r)
  replies_keep ch m r p = any_then (λ (s : CuUp M C). CuUpReady s) (replied way r.transactions ch (e1 m)) (λ t. nothing (with_transactions r t)) (λ t. p)

  -- ---- the bearers of a context, one after another

  abbrev Stores : CuUpFlags → Answer M P CuUpBearer → Type 0
  Stores flags a = HoldsAfter (λ (b : CuUpBearer). CuUpStores flags b.receiver) a

  abbrev StepStores : CuUpFlags → UpStep way → Type 0
  StepStores flags (steps os bearers) = BearersStore flags bearers
  StepStores flags (stops k) = Unit {0}

  step_stores : (flags : CuUpFlags) (bearer : BearerId) (a : Answer M P CuUpBearer) (s : UpStep way) → Stores flags a → StepStores flags s
      → StepStores flags (step_with way bearer a s)
  step_stores flags bearer (gives os c) (steps more bs) p q = (p, q)
  step_stores flags bearer (gives os c) (stops k) p q = tt
  step_stores flags bearer (spent k) s p q = tt

  each_stores : (old new : CuUpFlags) (order : BearerId → CuUpBearer → Answer M P CuUpBearer)
      → ((bearer : BearerId) (b : CuUpBearer) → CuUpStores old b.receiver → Stores new (order bearer b)) → (es : Bearers) → BearersStore old es
      → StepStores new (each_bearer way order es)
  each_stores old new order each [] all = tt
  each_stores old new order each (e ∷ es) all =
      step_stores new e.0 (order e.0 e.1) (each_bearer way order es) (each e.0 e.1 all.0) (each_stores old new order each es all.1)

  -- an SN status comes where none was: nothing is stored
  known_stores : (old new : CuUpFlags) (b : CuUpBearer) → old.may_serve ≡ false → CuUpStores old b.receiver → b.receiver.stored ≡ []
  known_stores old new b none p = p.none (ap (λ (t : Bool). t && old.arrived) none)

  all_none : (old new : CuUpFlags) (es : Bearers) → old.may_serve ≡ false → BearersStore old es → BearersStore new es
  all_none old new [] none all = tt
  all_none old new (e ∷ es) none all = (with_none new e.1.receiver (known_stores old new e.1 none all.0), all_none old new es none all.1)

  stores_none : (new : CuUpFlags) (a : Answer M P CuUpBearer) → HoldsAfter (λ (c : CuUpBearer). c.receiver.stored ≡ []) a → Stores new a
  stores_none new (gives os c) p = with_none new c.receiver p
  stores_none new (spent k) p = tt

  statuses_store : (old : CuUpFlags) (ue : UeId) (c : CuUpContext) (ss : List SnStatus) (es : Bearers) → old.may_serve ≡ false → BearersStore old es
      → StepStores c.flags (status_each way ue c ss es)
  statuses_store old ue c [] es none all = all_none old c.flags es none all
  statuses_store old ue c (s ∷ ss) [] none all = tt
  statuses_store old ue c (s ∷ ss) (e ∷ es) none all =
      step_stores c.flags e.0 (with_status way (cu_up_scope ue c e.0) s e.1) (status_each way ue c ss es)
      (stores_none c.flags (with_status way (cu_up_scope ue c e.0) s e.1) (status_none way (cu_up_scope ue c e.0) s e.1 (known_stores old c.flags e.1 none all.0)))
      (statuses_store old ue c ss es none all.1)

  steps_keep : (r : CuUp M C) (ch : Channel) (ue : UeId) (d : CuUpContext) (s : UpStep way) (m : E1Message) → CuUpReady r → StepStores d.flags s
      → Keeps (answer_with way r ue d s then replies way ch m)
  steps_keep r ch ue d s m p store = holds_then (λ (x : CuUp M C). CuUpReady x) (λ (x : CuUp M C). CuUpReady x) (answer_with way r ue d s) (replies way ch m) (by s store) (replies_keep ch m)
    where
      by : (s : UpStep way) → StepStores d.flags s → Keeps (answer_with way r ue d s)
      by (steps os bearers) h = contexts_put r.contexts ue (record d { bearers = bearers }) p h
      by (stops k) h = tt

  -- ---- a context ends

  ended_keeps : (r : CuUp M C) (ue : UeId) (c : CuUpContext) → CuUpReady r → Keeps (ended way r ue c)
  unfolding ended
  ended_keeps r ue c p = contexts_left r.contexts ue p

  over_keeps : (ue : UeId) (r : CuUp M C) → CuUpReady r → Keeps (end_where_over way ue r)
  unfolding end_where_over
  over_keeps ue r p = by (context_of r ue)
    where
      by : (c : Option CuUpContext) → Keeps (ended_if_over way ue r c)
      by None = p
      by (Some c) = keeps_if (c.flags.released && list_all (λ e. is_over c.flags e.1) c.bearers) (ended way r ue c) (nothing r) (ended_keeps r ue c p) p

  released_store : (flags : CuUpFlags) (es : Bearers) → BearersStore flags (map (λ e. (e.0, released e.1)) es)
  released_store flags [] = tt
  released_store flags (e ∷ es) = (with_none flags (released e.1).receiver refl, released_store flags es)

  released_keeps : (ue : UeId) (is_final : Bool) (r : CuUp M C) → CuUpReady r → (c : Option CuUpContext) → Keeps (released_on way ue is_final r c)
  released_keeps ue is_final r p None = p
  released_keeps ue true r p (Some c) = ended_keeps r ue c p
  released_keeps ue false r p (Some c) =
      over_keeps ue (with_context ue r (as_released way c)) (contexts_put r.contexts ue (as_released way c) p (released_store (as_released way c).flags c.bearers))

  release_keeps : (ch : Channel) (ue : UeId) (instance : ℕ) (is_final : Bool) (r : CuUp M C) → CuUpReady r → Keeps (release way ch ue instance is_final r)
  unfolding release
  release_keeps ch ue instance is_final r p =
      holds_then (λ (x : CuUp M C). CuUpReady x) (λ (x : CuUp M C). CuUpReady x) (replies way ch (e1s.BearerContextReleaseComplete ue instance) r)
      (λ s. released_on way ue is_final s (context_of s ue)) (replies_keep ch (e1s.BearerContextReleaseComplete ue instance) r p)
      (λ s q. released_keeps ue is_final s q (context_of s ue))

  -- ---- Bearer Context Setup

  makes_keeps : (ue : UeId) (sn : SnBits) (quota : ℕ) (target : Bool) (count : ℕ) (r : CuUp M C) → CuUpReady r → Keeps (makes way ue sn quota target count r)
  unfolding makes
  makes_keeps ue sn quota target count r p = by (teids_are_left r.next_teid (count * teids_of_bearer target))
    where
      by : (t : Bool) → Keeps (if t then with_new way ue r (count * teids_of_bearer target) (new_context way r sn quota target count) else spent teids_spent)
      by true =
          contexts_put r.contexts ue (new_context way r sn quota target count) p
          (made_store (new_context way r sn quota target count).flags target r.next_teid (bearers_from 1 count))
      by false = tt

  set_up_keeps : (ch : Channel) (ue : UeId) (instance : ℕ) (forward : Bool) (r : CuUp M C) (c : Option CuUpContext) → CuUpReady r
      → Keeps (set_up_for way ch ue instance forward r c)
  set_up_keeps ch ue instance forward r None p = p
  set_up_keeps ch ue instance forward r (Some c) p = replies_keep ch (setup_response way ue instance forward c.bearers) r p

  setup_keeps : (ch : Channel) (ue : UeId) (instance count : ℕ) (sn : SnBits) (quota : ℕ) (forward : Bool) (r : CuUp M C) → CuUpReady r → (c : Option CuUpContext)
      → Keeps (setup_on way ch ue instance count sn quota forward r c)
  setup_keeps ch ue instance count sn quota forward r p (Some c) = replies_keep ch (e1s.BearerContextSetupFailure ue instance cause_busy) r p
  setup_keeps ch ue instance count sn quota forward r p None =
      keeps_if (not (fits way count quota r)) _ _ (replies_keep ch (e1s.BearerContextSetupFailure ue instance cause_quota) r p)
      (holds_then (λ (x : CuUp M C). CuUpReady x) (λ (x : CuUp M C). CuUpReady x) (makes way ue sn quota forward count r)
      (λ s. set_up_for way ch ue instance forward s (context_of s ue)) (makes_keeps ue sn quota forward count r p)
      (λ s q. set_up_keeps ch ue instance forward s (context_of s ue) q))

  -- ---- Bearer Context Modification

  uplinks_store : (flags : CuUpFlags) (next : ℕ) (es : Bearers) → BearersStore flags es → StepStores flags (uplinks_from way next es)
  unfolding with_uplink
  uplinks_store flags next [] all = tt
  uplinks_store flags next (e ∷ es) all =
      step_stores flags e.0 (with_uplink way next e.1) (uplinks_from way (next + 1) es) all.0 (uplinks_store flags (next + 1) es all.1)

  module _ (ch : Channel) (ue : UeId) (instance : ℕ) (r : CuUp M C) (p : CuUpReady r) where
    uplinks_keep : (c : CuUpContext) → BearersStore c.flags c.bearers → Keeps (add_uplinks way ch ue instance c r)
    unfolding add_uplinks
    uplinks_keep c all =
        keeps_if (not (teids_are_left r.next_teid (length c.bearers))) (spent teids_spent) _ tt
        (steps_keep (uplinks_given way ue r c (teids_from way r.next_teid c.bearers)) ch ue c (uplinks_from way r.next_teid c.bearers)
        (modified way ue instance (Some (teids_from way r.next_teid c.bearers)) None) p (uplinks_store c.flags r.next_teid c.bearers all))

    switch_keeps : (d : Option ℕ) (list : Option (List Tunnel)) (c : CuUpContext) → BearersStore c.flags c.bearers → Keeps (switch_if way ch ue instance d list c r)
    unfolding switch
    switch_keeps (Some d) (Some list) c all =
        keeps_if (c.flags.released || not (are_bearers (names way c) (bearers_of list))) (drops Unexpected r) _ p
        (steps_keep r ch ue (as_switched way c)
        (each_bearer way (λ b. switched way (cu_up_scope ue (as_switched way c) b) (du_id r.gnb d) (teid_of list b)) c.bearers) (modified way ue instance None None) p
        (each_stores c.flags (as_switched way c).flags (λ b. switched way (cu_up_scope ue (as_switched way c) b) (du_id r.gnb d) (teid_of list b))
        (λ b x h. as_stored way (as_switched way c).flags (handed_up x.receiver).after (switched way (cu_up_scope ue (as_switched way c) b) (du_id r.gnb d) (teid_of list b) x)
        (when_delivered c.flags (as_switched way c).flags x.receiver h (λ e. before c.flags.may_serve c.flags.arrived e))
        (switched_hands way (cu_up_scope ue (as_switched way c) b) (du_id r.gnb d) (teid_of list b) x)) c.bearers all))
      where
        before : (a b : Bool) → a && true ≡ false → a && b ≡ false
        before true b e = absurd cc
        before false b e = refl
    switch_keeps (Some d) None c all = p
    switch_keeps None list c all = p

    freeze_keeps : (peer : Option Peer) (a b : Option (List Tunnel)) (c : CuUpContext) → BearersStore c.flags c.bearers → Keeps (freeze_if way ch ue instance peer a b c r)
    unfolding freeze
    freeze_keeps (Some peer) (Some a) (Some b) c all =
        keeps_if (c.flags.frozen || c.flags.released || not c.flags.arrived || not (are_bearers (names way c) (bearers_of a)) || not (are_bearers (names way c) (bearers_of b)))
        (drops Unexpected r) _ p
        (keeps_if (not c.flags.may_serve) _ _ (replies_keep ch (e1s.BearerContextModificationFailure ue instance cause_busy) r p)
        (steps_keep r ch ue (as_frozen way c)
        (each_bearer way (λ x. frozen_to way (cu_up_scope ue (as_frozen way c) x) (peer_node way peer) (teid_of a x) (teid_of b x)) c.bearers)
        (modified way ue instance None (Some (statuses way c))) p
        (each_stores c.flags (as_frozen way c).flags (λ x. frozen_to way (cu_up_scope ue (as_frozen way c) x) (peer_node way peer) (teid_of a x) (teid_of b x))
        (λ x y h. as_stored way (as_frozen way c).flags y.receiver (frozen_to way (cu_up_scope ue (as_frozen way c) x) (peer_node way peer) (teid_of a x) (teid_of b x) y)
        (when_frozen c.flags (as_frozen way c).flags y.receiver h refl (λ e. e))
        (frozen_keeps way (cu_up_scope ue (as_frozen way c) x) (peer_node way peer) (teid_of a x) (teid_of b x) y)) c.bearers all)))
    freeze_keeps (Some peer) (Some a) None c all = p
    freeze_keeps (Some peer) None b c all = p
    freeze_keeps None a b c all = p

    neither : (a b : Bool) → a || b ≡ false → a ≡ false
    neither true b e = absurd cc
    neither false b e = refl

    status_keeps : (list : Option (List SnStatus)) (c : CuUpContext) → BearersStore c.flags c.bearers → Keeps (status_if way ch ue instance list c r)
    unfolding take_status
    status_keeps (Some list) c all = by (c.flags.may_serve || not (are_bearers (names way c) (statuses_of list))) refl
      where
        by : (t : Bool) → c.flags.may_serve || not (are_bearers (names way c) (statuses_of list)) ≡ t
            → Keeps (if t then drops Unexpected r else (answer_with way r ue (as_known way c) (status_each way ue (as_known way c) list c.bearers)
            then replies way ch (modified way ue instance None None)))
        by true e = p
        by false e =
            steps_keep r ch ue (as_known way c) (status_each way ue (as_known way c) list c.bearers) (modified way ue instance None None) p
            (statuses_store c.flags ue (as_known way c) list c.bearers (neither c.flags.may_serve _ e) all)
    status_keeps None c all = p

    resume_keeps : (c : CuUpContext) → BearersStore c.flags c.bearers → Keeps (resume_if way ch ue instance c r)
    unfolding resume
    resume_keeps c all =
        keeps_if (c.flags.frozen && not c.flags.released) _ (drops Unexpected r)
        (steps_keep r ch ue (as_resumed way c)
        (each_bearer way (λ b. resumed way (cu_up_scope ue (as_resumed way c) b)) c.bearers) (modified way ue instance None None) p
        (each_stores c.flags (as_resumed way c).flags (λ b. resumed way (cu_up_scope ue (as_resumed way c) b))
        (λ b x h. as_stored way (as_resumed way c).flags (handed_up x.receiver).after (resumed way (cu_up_scope ue (as_resumed way c) b) x)
        (when_delivered c.flags (as_resumed way c).flags x.receiver h (λ e. e)) (resumed_hands way (cu_up_scope ue (as_resumed way c) b) x)) c.bearers all))
        p

    modify_keeps : (downlinks : Option (List Tunnel)) (mode : ℕ) (peer : Option Peer) (down up : Option (List Tunnel)) (ss : Option (List SnStatus)) (du : Option ℕ)
        (c : Option CuUpContext) → find ue_cmp r.contexts ue ≡ c
        → Keeps (modify_on way ch (e1s.BearerContextModificationRequest ue instance downlinks mode peer down up ss du) r c)
    modify_keeps downlinks mode peer down up ss du None is = p
    modify_keeps downlinks mode peer down up ss du (Some c) is =
        let all : BearersStore c.flags c.bearers = p ue c is in
        keeps_if (mode == mode_uplinks) _ _ (keeps_if c.flags.released (drops Unexpected r) _ p (uplinks_keep c all))
        (keeps_if (mode == mode_switch) _ _ (switch_keeps du downlinks c all)
        (keeps_if (mode == mode_freeze) _ _ (freeze_keeps peer down up c all)
        (keeps_if (mode == mode_status) _ _ (status_keeps ss c all)
        (keeps_if (mode == mode_resume) _ _ (resume_keeps c all) p))))

  -- ---- requests and replies

  asked_keeps : (ch : Channel) (m : Message C) (r : CuUp M C) → CuUpReady r → Keeps (asked way ch m r)
  unfolding setup
  asked_keeps ch (e1 (e1s.BearerContextSetupRequest ue instance count sn quota forward)) r p =
      setup_keeps ch ue instance count sn quota forward r p (context_of r ue)
  asked_keeps ch (e1 (e1s.BearerContextModificationRequest ue instance downlinks mode peer down up ss du)) r p =
      modify_keeps ch ue instance r p downlinks mode peer down up ss du (context_of r ue) refl
  asked_keeps ch (e1 (e1s.BearerContextReleaseCommand ue instance is_final)) r p = release_keeps ch ue instance is_final r p
  asked_keeps ch m r p = p

  is_set_up_keeps : (ch : Channel) (r : CuUp M C) → CuUpReady r → Keeps (set_up way ch r)
  unfolding set_up
  is_set_up_keeps ch r p =
      any_then (λ (x : CuUp M C). CuUpReady x) (advance way (record r.transactions { caller = close r.transactions.caller ch }) ch)
      (λ a. nothing (record r { is_set_up = true; transactions = a.transactions })) (λ a. p)

  control_by_keeps : (ch : Channel) (m : Message C) (r : CuUp M C) (k : Kind) → CuUpReady r → Keeps (control_by way ch m r k)
  control_by_keeps ch m r (request ue i) p =
      holds_request way (λ (x : CuUp M C). CuUpReady x) r r.transactions ch i (λ t. asked way ch m (with_transactions r t)) p (λ t. asked_keeps ch m (with_transactions r t) p)
  control_by_keeps ch m r (reply ue i) p = holds_reply way (λ (x : CuUp M C). CuUpReady x) r r.transactions ch i (set_up way ch r) p (is_set_up_keeps ch r p)
  control_by_keeps ch m r (transfer ue) p = p

  control_keeps : (from : NodeId) (m : Message C) (r : CuUp M C) → CuUpReady r → Keeps (control_received way from m r)
  unfolding control_received
  control_keeps from m r p =
      keeps_if (is_own_cu_cp way r.gnb from) _ (drops Unexpected r) (control_by_keeps (channel (ue_in way (kind_of m)) from) m r (kind_of m) p) p

  -- ---- items, polls, ticks

  bearer_keeps : (r : CuUp M C) (ue : UeId) (c : CuUpContext) (bearer : BearerId) (a : Answer M P CuUpBearer) → CuUpReady r → BearersStore c.flags c.bearers → Stores c.flags a
      → Keeps (with_bearer way r ue c bearer a)
  bearer_keeps r ue c bearer (gives os b) p all h =
      contexts_put r.contexts ue (record c { bearers = put bearer_cmp c.bearers bearer b }) p (all_put (λ (x : CuUpBearer). CuUpStores c.flags x.receiver) c.bearers bearer b all h)
  bearer_keeps r ue c bearer (spent k) p all h = tt

  module _ (r : CuUp M C) (p : CuUpReady r) where
    taken_keeps : (t : CuUpTunnel) (teid : ℕ) (item : Taken P) (c : CuUpContext) (b : CuUpBearer) → BearersStore c.flags c.bearers → CuUpStores c.flags b.receiver
        → (reason : Option HeldReason) → held_reason (cu_up_scope t.ue c t.bearer) b t.kind item ≡ reason → Keeps (taken_by way r t teid item c b reason)
    taken_keeps t teid item c b all store (Some reason) is = p
    taken_keeps t teid item c b all store None is =
        holds_then (λ (x : CuUp M C). CuUpReady x) (λ (x : CuUp M C). CuUpReady x)
        (with_bearer way r t.ue c t.bearer (took way (cu_up_scope t.ue c t.bearer) t.kind teid item b)) (end_where_over way t.ue)
        (bearer_keeps r t.ue c t.bearer (took way (cu_up_scope t.ue c t.bearer) t.kind teid item b) p all
        (item_stores way (cu_up_scope t.ue c t.bearer) t.kind teid item b store (not_held_there way (cu_up_scope t.ue c t.bearer) b t.kind item is)))
        (over_keeps t.ue)

    take_keeps : (teid : ℕ) (item : Taken P) → Keeps (take way teid item r)
    unfolding take
    take_keeps teid item = by (find nat_cmp r.tunnels teid)
      where
        in_bearer : (t : CuUpTunnel) (c : CuUpContext) → BearersStore c.flags c.bearers → (b : Option CuUpBearer) → find bearer_cmp c.bearers t.bearer ≡ b
            → Keeps (taken_in way r t teid item c b)
        in_bearer t c all None is = p
        in_bearer t c all (Some b) is =
            taken_keeps t teid item c b all (found_in (λ (x : CuUpBearer). CuUpStores c.flags x.receiver) c.bearers t.bearer b all is)
            (held_reason (cu_up_scope t.ue c t.bearer) b t.kind item) refl

        in_context : (t : CuUpTunnel) (c : Option CuUpContext) → find ue_cmp r.contexts t.ue ≡ c → Keeps (taken_of way r t teid item c)
        in_context t None is = p
        in_context t (Some c) is = in_bearer t c (p t.ue c is) (find bearer_cmp c.bearers t.bearer) refl

        by : (t : Option CuUpTunnel) → Keeps (taken_on way r teid item t)
        by None = p
        by (Some t) = in_context t (context_of r t.ue) refl

    poll_keeps : (ue : UeId) (bearer : BearerId) → Keeps (poll way ue bearer r)
    unfolding poll
    poll_keeps ue bearer = by (context_of r ue) refl
      where
        in_bearer : (c : CuUpContext) → BearersStore c.flags c.bearers → (b : Option CuUpBearer) → find bearer_cmp c.bearers bearer ≡ b
            → Keeps (poll_bearer way r ue c bearer b)
        in_bearer c all None is = p
        in_bearer c all (Some b) is =
            keeps_if (length b.sender.unconfirmed == 0) (puts (no Empty) r) _ p
            (keeps_if (c.flags.frozen || not (has_downlink b.downlink)) (puts (no NoRadio) r) _ p
            (bearer_keeps r ue c bearer (framed way (cu_up_scope ue c bearer) true false None Absent b) p all
            (as_stored way c.flags b.receiver (framed way (cu_up_scope ue c bearer) true false None Absent b)
            (found_in (λ (x : CuUpBearer). CuUpStores c.flags x.receiver) c.bearers bearer b all is) (framed_keeps way (cu_up_scope ue c bearer) true false None Absent b))))

        by : (c : Option CuUpContext) → find ue_cmp r.contexts ue ≡ c → Keeps (poll_on way r ue bearer c)
        by None is = p
        by (Some c) is = in_bearer c (p ue c is) (find bearer_cmp c.bearers bearer) refl

  start_keeps : (r : CuUp M C) → CuUpReady r → Keeps (start way r)
  unfolding start
  start_keeps r p =
      keeps_if r.is_set_up (nothing r) _ p
      (any_then (λ (x : CuUp M C). CuUpReady x) (ask way r.transactions (channel 0 (CuCp r.gnb))
      (record { message = e1 (e1s.E1SetupRequest no_instance (node_text (up_node r))); deadline = None; awaited = false }))
      (λ a. nothing (with_transactions r a.transactions)) (λ a. p))

  tick_keeps : (r : CuUp M C) → CuUpReady r → Keeps (tick way r)
  unfolding tick
  tick_keeps r p = p

  pub cu_up_stores : (r : CuUp M C) (input : Input C P) → CuUpReady r → HoldsAfter (λ (x : CuUp M C). CuUpReady x) (cu_up_acts way r input)
  unfolding cu_up_acts
  cu_up_stores r (control_input from m) p = control_keeps from m r p
  cu_up_stores r (packet_input teid item) p = take_keeps r p teid item
  cu_up_stores r tick_input p = tick_keeps r p
  cu_up_stores r (order_input orders.Start) p = start_keeps r p
  cu_up_stores r (order_input (orders.Poll ue bearer)) p = poll_keeps r p ue bearer
  cu_up_stores r input p = p

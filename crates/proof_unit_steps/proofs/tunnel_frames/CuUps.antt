-- A CU-UP numbers the frames of a tunnel, whatever it is given.
use Rattle.std.proofs.Common.{◌≡◌, ◌==◌, ℕ, ◌+◌, ◌*◌, Bool, true, false, cond, not, ◌&&◌, ◌||◌, List, [], ◌∷◌, ◌++◌, length, map, Option, Some, None, refl, sym, ap, ◌∙◌, subst, eqb-true, eq-eqb}
use Rattle.std.specs.Prelude.{if◌then◌else◌}
use Rattle.std.specs.Ordering.{nat_cmp, eq_by_cmp}
use Rattle.std.specs.Cmp.{Equal-is}
use Rattle.std.specs.Map.{lookup}
use Rattle.std.specs.BTreeMap.{is_at}
use Rattle.std.specs.List.{AllByRecursion, flat_map, list_all}
use Rattle.std.proofs.lemmas.Grind.{flat_map-append}
use Rattle.gnb_types.specs.declared.names.Gnb.{Gnb}
use Rattle.gnb_types.specs.declared.names.NodeId.{NodeId}
use Rattle.gnb_types.specs.declared.names.NodeId.TheVariants.{CuCp, Du as du_id}
use Rattle.gnb_types.specs.declared.names.UeId.{UeId}
use Rattle.gnb_types.specs.declared.names.BearerId.{BearerId}
use Rattle.gnb_types.specs.declared.names.SnBits.{SnBits}
use Rattle.gnb_types.specs.declared.keys.Channel.{Channel}
use Rattle.gnb_types.specs.declared.plans.Peer.{Peer}
use Rattle.gnb_types.specs.declared.plans.Tunnel.{Tunnel}
use Rattle.gnb_types.specs.declared.plans.SnStatus.{SnStatus}
use Rattle.gnb_types.specs.declared.inputs.Order.TheVariants as orders
use Rattle.gnb_types.specs.declared.outputs.Tag.TheVariants.{Absent}
use Rattle.gnb_types.specs.declared.reasons.HeldReason.{HeldReason}
use Rattle.gnb_types.specs.declared.reasons.DropReason.{DropReason}
use Rattle.gnb_types.specs.declared.reasons.DropReason.TheVariants.{NoContext, NoTunnel, Stale, Unexpected}
use Rattle.gnb_types.specs.declared.reasons.RefuseReason.TheVariants.{Empty, NoRadio}
use Rattle.gnb_types.specs.Names.{node_text}
use Rattle.gnb_types.specs.Orders.{bearer_cmp, ue_cmp}
use Rattle.gnb_types.proofs.OrderLemmas.{ue_total, ue_exact}
use Rattle.tables.specs.Tables.{find}
use Rattle.tables.proofs.TableLaws.{find-put, find-without}
use Rattle.transaction_defs.specs.Callers.{Begin, begun, running, spent as begins_no_more, begin, is_open, is_awaited, close, due, Due, repeats, expires}
use Rattle.transaction_defs.specs.Callees.{Verdict, new, again, stale, verdict, taken, kept_reply}
use Rattle.message_types.specs.declared.e1.E1Message.{E1Message}
use Rattle.message_types.specs.declared.e1.E1Message.TheVariants as e1s
use Rattle.unit_defs.specs.Ways.{Message, e1, Taken, closed, no, Input, control_input, packet_input, tick_input, order_input, Way, Answer, gives, spent, with_outputs, ◌then◌, nothing, puts, drops, teids_spent}
use Rattle.unit_defs.specs.Messages.{cause_busy, cause_quota, mode_uplinks, mode_switch, mode_freeze, mode_status, mode_resume, channel, are_bearers, bearers_of, statuses_of, teid_of}
use Rattle.unit_defs.specs.Teids.{teids_are_left}
use Rattle.unit_defs.specs.Transactions.{Kind, request, reply, transfer, kind_of, no_instance, Transactions, Waiting, is_empty, waits_at, with_waiting, begun_as, begin_request, ask, advance_with, advance, replied, answered_again, request_by, on_request, on_reply}
use Rattle.unit_defs.specs.CuUpRecords.{DownlinkTunnel, CuUpBearer, CuUpContext, CuUp, CuUpTunnel, cu_up_scope}
use Rattle.unit_defs.specs.CuUpBearers.{made, teids_of_bearer, switched, frozen_to, resumed, released, is_over, open_teids, has_downlink, framed}
use Rattle.unit_defs.specs.CuUpItems.{held_reason, took}
use Rattle.unit_defs.specs.CuUp.{bearers_from, bearers_made, with_context, context_of, with_transactions, up_node, UpStep, each_bearer, answer_with, ended, ended_if_over, end_where_over, replies, opened_of, new_context, with_new, makes, fits, set_up_for, setup_response, setup_on, setup, modified, uplinks_from, teids_from, uplinks_given, add_uplinks, as_switched, switch, as_frozen, peer_node, statuses, freeze, as_known, status_each, take_status, as_resumed, resume, names, switch_if, freeze_if, status_if, resume_if, modify_on, as_released, released_on, release, asked, start, set_up, control_by, ue_in, is_own_cu_cp, control_received, with_bearer, taken_by, taken_in, taken_of, taken_on, take, poll_bearer, poll_on, poll, due_output, tick, cu_up_acts}
use Rattle.proof_unit_steps.specs.frames.Numbered.{Frame, frames_in, frames_by}
use Rattle.proof_unit_steps.proofs.frames.Bearers.{poll_stays, switched_stays, frozen_stays, resumed_stays, item_stays}
use Rattle.proof_unit_steps.specs.tunnel_frames.OneTunnel.{OwnedTunnel, number_on, numbers_on, CountTo, Leads, BearerCounts, CuUpCounts, BearersInOrder, IsGiven, SwitchesFirst, NumbersTunnel}
use Rattle.proof_unit_steps.proofs.tunnel_frames.Counting.{count_then}
use Rattle.proof_unit_steps.proofs.tunnel_frames.Contexts.{Bearers, Apart, sorted_apart, each_found, found_all, EachCounts, stood, StepNumbers, each_numbers, statuses_number, uplinks_number, answer_numbers, bearer_numbers}

-- ---- answers without frames

abbrev NoFrames : {M P R : Type 0} → Answer M P R → Type 0
NoFrames (gives os r) = frames_by os ≡ []
NoFrames (spent k) = Unit {0}

module _ {M C P : Type 0} (way : Way M C P) where
  none_if : {R : Type 0} (t : Bool) (x y : Answer M P R) → NoFrames x → NoFrames y → NoFrames (if t then x else y)
  none_if true x y p q = p
  none_if false x y p q = q

  none_begun : (s : Transactions M C) (c : Channel) (w : Waiting C) (b : Begin M) → NoFrames (begun_as way s c w b)
  none_begun s c w (begun instance after) = refl
  none_begun s c w running = refl
  none_begun s c w begins_no_more = tt

  none_begin : (s : Transactions M C) (c : Channel) (w : Waiting C) → NoFrames (begin_request way s c w)
  unfolding begin_request
  none_begin s c w = none_begun s c w (begin s.caller c w.deadline)

  none_ask : (s : Transactions M C) (c : Channel) (w : Waiting C) → NoFrames (ask way s c w)
  unfolding ask
  none_ask s c w = none_if (is_open s.caller c || not (is_empty (waits_at s c))) _ (begin_request way s c w) refl (none_begin s c w)

  none_advance_with : (s : Transactions M C) (c : Channel) (ws : List (Waiting C)) → NoFrames (advance_with way s c ws)
  none_advance_with s c [] = refl
  none_advance_with s c (w ∷ ws) = none_begin (with_waiting s c ws) c w

  none_advance : (s : Transactions M C) (c : Channel) → NoFrames (advance way s c)
  unfolding advance
  none_advance s c = none_if (is_open s.caller c) _ (advance_with way s c (waits_at s c)) refl (none_advance_with s c (waits_at s c))

  none_replied : (s : Transactions M C) (c : Channel) (m : Message C) → NoFrames (replied way s c m)
  unfolding replied
  none_replied s c m = refl

  none_due : (ds : List (Due M)) → frames_by (flat_map (due_output way) ds) ≡ []
  none_due [] = refl
  none_due (repeats c m ∷ ds) = none_due ds
  none_due (expires c ∷ ds) = none_due ds

  none_closed : (teids : List ℕ) → frames_by {M = M} {P = P} (map (λ teid. closed teid) teids) ≡ []
  none_closed [] = refl
  none_closed (x ∷ xs) = none_closed xs

  none_closings : (es : Bearers) → frames_by {M = M} {P = P} (flat_map (λ e. map (λ teid. closed teid) (open_teids e.1)) es) ≡ []
  none_closings [] = refl
  none_closings (e ∷ es) =
      flat_map-append frames_in (map (λ teid. closed teid) (open_teids e.1)) (flat_map (λ e. map (λ teid. closed teid) (open_teids e.1)) es)
      ∙ (λ i. none_closed (open_teids e.1) i ++ none_closings es i)

  none_opened : (target : Bool) (next : ℕ) (bs : List BearerId) → frames_by (flat_map (opened_of way) (bearers_made target next bs)) ≡ []
  unfolding made
  none_opened target next [] = refl
  none_opened true next (b ∷ bs) = none_opened true (next + 4) bs
  none_opened false next (b ∷ bs) = none_opened false (next + 2) bs

module _ (t : OwnedTunnel) {M C P : Type 0} (way : Way M C P) where
  abbrev Numbers : ℕ → Answer M P (CuUp M C) → Type 0
  Numbers k a = NumbersTunnel t k a

  numbers_if : (k : ℕ) (b : Bool) (x y : Answer M P (CuUp M C)) → Numbers k x → Numbers k y → Numbers k (if b then x else y)
  numbers_if k true x y p q = p
  numbers_if k false x y p q = q

  none_counts : (k : ℕ) (fs : List Frame) → fs ≡ [] → CountTo k (numbers_on t.end fs) k
  none_counts k fs is = subst (λ (gs : List Frame). CountTo k (numbers_on t.end gs) k) (sym is) refl

  quiet_after : {S : Type 0} (k : ℕ) (a : Answer M P S) (f : S → CuUp M C) → NoFrames a → ((s : S) → CuUpCounts t k (f s)) → Numbers k (a then (λ s. nothing (f s)))
  quiet_after k (gives os s) f none keeps =
      (k, none_counts k (frames_by (os ++ [])) (flat_map-append frames_in os [] ∙ (λ i. none i ++ [])), keeps s, λ e. refl)
  quiet_after k (spent c) f none keeps = tt

  numbers_then : (k : ℕ) (a : Answer M P (CuUp M C)) (f : CuUp M C → Answer M P (CuUp M C)) → Numbers k a
      → ((j : ℕ) (r : CuUp M C) → CuUpCounts t j r → Numbers j (f r)) → Numbers k (a then f)
  numbers_then k (gives os r) f p q = by (f r) (q p.0 r p.2)
    where
      by : (b : Answer M P (CuUp M C)) → Numbers p.0 b → Numbers k (with_outputs os b)
      by (gives more s) h = (
        h.0,
        subst (λ (fs : List Frame). CountTo k (numbers_on t.end fs) h.0) (sym (flat_map-append frames_in os more))
            (subst (λ (ns : List ℕ). CountTo k ns h.0) (sym (flat_map-append (number_on t.end) (frames_by os) (frames_by more)))
            (count_then k (numbers_on t.end (frames_by os)) p.0 (numbers_on t.end (frames_by more)) h.0 p.1 h.1)),
        h.2,
        λ e. h.3 e ∙ p.3 e,
      )
      by (spent c) h = tt
  numbers_then k (spent c) f p q = tt

  drops_number : (k : ℕ) (reason : DropReason) (r : CuUp M C) → CuUpCounts t k r → Numbers k (drops reason r)
  drops_number k reason r p = (k, refl, p, λ e. refl)

  stays_number : (k : ℕ) (r : CuUp M C) → CuUpCounts t k r → Numbers k (nothing r)
  stays_number k r p = (k, refl, p, λ e. refl)

  replies_number : (k : ℕ) (ch : Channel) (m : E1Message) (r : CuUp M C) → CuUpCounts t k r → Numbers k (replies way ch m r)
  replies_number k ch m r p =
      quiet_after k (replied way r.transactions ch (e1 m)) (with_transactions r) (none_replied way r.transactions ch (e1 m)) (λ s. p)

  steps_number : (k : ℕ) (r : CuUp M C) (ch : Channel) (ue : UeId) (d : CuUpContext) (es : Bearers) (s : UpStep way) (m : E1Message) → CuUpCounts t k r
      → StepNumbers t way ue k es s → Numbers k (answer_with way r ue d s then replies way ch m)
  steps_number k r ch ue d es s m p h =
      numbers_then k (answer_with way r ue d s) (replies way ch m) (answer_numbers t way ue k r d es s p h) (λ j q c. replies_number j ch m q c)

  -- ---- a context ends

  ended_numbers : (k : ℕ) (r : CuUp M C) (ue : UeId) (c : CuUpContext) → CuUpCounts t k r → Numbers k (ended way r ue c)
  unfolding ended
  ended_numbers k r ue c p = (
    k,
    none_counts k _ (none_closings way c.bearers),
    (p.0, λ u x b y at found. by u x b y (eq_by_cmp ue_cmp u ue) (sym (find-without ue_total r.contexts ue u) ∙ at) found),
    λ e. refl,
  )
    where
      by : (u : UeId) (x : CuUpContext) (b : BearerId) (y : CuUpBearer) (tie : Bool) → cond tie None (find ue_cmp r.contexts u) ≡ Some x
          → find bearer_cmp x.bearers b ≡ Some y → BearerCounts t k u b y.downlink
      by u x b y true e found = absurd cc
      by u x b y false e found = p.1 u x b y e found

  over_numbers : (k : ℕ) (ue : UeId) (r : CuUp M C) → CuUpCounts t k r → Numbers k (end_where_over way ue r)
  unfolding end_where_over
  over_numbers k ue r p = by (context_of r ue)
    where
      by : (c : Option CuUpContext) → Numbers k (ended_if_over way ue r c)
      by None = stays_number k r p
      by (Some c) =
          numbers_if k (c.flags.released && list_all (λ e. is_over c.flags e.1) c.bearers) (ended way r ue c) (nothing r) (ended_numbers k r ue c p)
          (stays_number k r p)

  released_found : (es : Bearers) (b : BearerId) (y : CuUpBearer) → find bearer_cmp (map (λ e. (e.0, released e.1)) es) b ≡ Some y
      → (z : CuUpBearer) × (find bearer_cmp es b ≡ Some z) × (y.downlink ≡ z.downlink)
  unfolding find
  released_found [] b y e = absurd cc
  released_found (f ∷ fs) b y e = by (released_found fs b y) (is_at (bearer_cmp b) f.0) e
    where
      by : (find bearer_cmp (map (λ e. (e.0, released e.1)) fs) b ≡ Some y → (z : CuUpBearer) × (find bearer_cmp fs b ≡ Some z) × (y.downlink ≡ z.downlink))
          → (tie : Bool) → cond tie (Some (released f.1)) (lookup (is_at (bearer_cmp b)) (map (λ e. (e.0, released e.1)) fs)) ≡ Some y
          → (z : CuUpBearer) × (cond tie (Some f.1) (lookup (is_at (bearer_cmp b)) fs) ≡ Some z) × (y.downlink ≡ z.downlink)
      by later true h = let it : released f.1 ≡ y = cc in (f.1, refl, ap (λ (x : CuUpBearer). x.downlink) (sym it))
      by later false h = later h

  released_counts : (k : ℕ) (r : CuUp M C) (ue : UeId) (c : CuUpContext) → CuUpCounts t k r → find ue_cmp r.contexts ue ≡ Some c
      → CuUpCounts t k (with_context ue r (as_released way c))
  released_counts k r ue c p is = (p.0, λ u x b y at found. by u x b y found (eq_by_cmp ue_cmp u ue) refl (sym (find-put ue_total r.contexts ue (as_released way c) u) ∙ at))
    where
      by : (u : UeId) (x : CuUpContext) (b : BearerId) (y : CuUpBearer) → find bearer_cmp x.bearers b ≡ Some y → (tie : Bool) → eq_by_cmp ue_cmp u ue ≡ tie
          → cond tie (Some (as_released way c)) (find ue_cmp r.contexts u) ≡ Some x → BearerCounts t k u b y.downlink
      by u x b y found true tie e =
          let same : u ≡ ue = ue_exact u ue ((Equal-is (ue_cmp u ue)).0 tie) in
          let those : as_released way c ≡ x = cc in
          let it = released_found c.bearers b y (subst (λ (z : CuUpContext). find bearer_cmp z.bearers b ≡ Some y) (sym {b = x} those) found) in
          subst (λ (v : UeId). BearerCounts t k v b y.downlink) (sym same)
          (subst (λ (d : Option DownlinkTunnel). BearerCounts t k ue b d) (sym it.2) (p.1 ue c b it.0 is it.1))
      by u x b y found false off e = p.1 u x b y e found

  released_numbers : (k : ℕ) (ue : UeId) (is_final : Bool) (r : CuUp M C) → CuUpCounts t k r → (c : Option CuUpContext) → find ue_cmp r.contexts ue ≡ c
      → Numbers k (released_on way ue is_final r c)
  released_numbers k ue is_final r p None is = stays_number k r p
  released_numbers k ue true r p (Some c) is = ended_numbers k r ue c p
  released_numbers k ue false r p (Some c) is = over_numbers k ue (with_context ue r (as_released way c)) (released_counts k r ue c p is)

  release_numbers : (k : ℕ) (ch : Channel) (ue : UeId) (instance : ℕ) (is_final : Bool) (r : CuUp M C) → CuUpCounts t k r
      → Numbers k (release way ch ue instance is_final r)
  unfolding release
  release_numbers k ch ue instance is_final r p =
      numbers_then k (replies way ch (e1s.BearerContextReleaseComplete ue instance) r) (λ s. released_on way ue is_final s (context_of s ue))
      (replies_number k ch (e1s.BearerContextReleaseComplete ue instance) r p) (λ j s q. released_numbers j ue is_final s q (context_of s ue) refl)

  -- ---- Bearer Context Setup: new bearers have no downlink

  new_none : (target : Bool) (next : ℕ) (bs : List BearerId)
      → AllByRecursion (λ (e : BearerId × CuUpBearer). e.1.downlink ≡ None) (bearers_made target next bs)
  unfolding made
  new_none target next [] = tt
  new_none target next (b ∷ bs) = (refl, new_none target (next + teids_of_bearer target) bs)

  makes_number : (k : ℕ) (ue : UeId) (sn : SnBits) (quota : ℕ) (target : Bool) (count : ℕ) (r : CuUp M C) → CuUpCounts t k r
      → Numbers k (makes way ue sn quota target count r)
  unfolding makes
  makes_number k ue sn quota target count r p = by (teids_are_left r.next_teid (count * teids_of_bearer target))
    where
      at_new : (u : UeId) (x : CuUpContext) (b : BearerId) (y : CuUpBearer) (tie : Bool)
          → cond tie (Some (new_context way r sn quota target count)) (find ue_cmp r.contexts u) ≡ Some x → find bearer_cmp x.bearers b ≡ Some y
          → BearerCounts t k u b y.downlink
      at_new u x b y true e found =
          let those : new_context way r sn quota target count ≡ x = cc in
          let none : y.downlink ≡ None =
          found_all (λ c z. z.downlink ≡ None) (bearers_made target r.next_teid (bearers_from 1 count)) (new_none target r.next_teid (bearers_from 1 count)) b y
          (subst (λ (z : CuUpContext). find bearer_cmp z.bearers b ≡ Some y) (sym those) found) in
          λ l. absurd (subst (Leads t.end) none l)
      at_new u x b y false e found = p.1 u x b y e found

      by : (b : Bool) → Numbers k (if b then with_new way ue r (count * teids_of_bearer target) (new_context way r sn quota target count) else spent teids_spent)
      by true = (
        k,
        none_counts k _ (none_opened way target r.next_teid (bearers_from 1 count)),
        (p.0, λ u x b y at found. at_new u x b y (eq_by_cmp ue_cmp u ue) (sym (find-put ue_total r.contexts ue (new_context way r sn quota target count) u) ∙ at) found),
        λ e. refl,
      )
      by false = tt

  set_up_numbers : (k : ℕ) (ch : Channel) (ue : UeId) (instance : ℕ) (forward : Bool) (r : CuUp M C) (c : Option CuUpContext) → CuUpCounts t k r
      → Numbers k (set_up_for way ch ue instance forward r c)
  set_up_numbers k ch ue instance forward r None p = stays_number k r p
  set_up_numbers k ch ue instance forward r (Some c) p = replies_number k ch (setup_response way ue instance forward c.bearers) r p

  setup_numbers : (k : ℕ) (ch : Channel) (ue : UeId) (instance count : ℕ) (sn : SnBits) (quota : ℕ) (forward : Bool) (r : CuUp M C) → CuUpCounts t k r
      → (c : Option CuUpContext) → Numbers k (setup_on way ch ue instance count sn quota forward r c)
  setup_numbers k ch ue instance count sn quota forward r p (Some c) = replies_number k ch (e1s.BearerContextSetupFailure ue instance cause_busy) r p
  setup_numbers k ch ue instance count sn quota forward r p None =
      numbers_if k (not (fits way count quota r)) _ _ (replies_number k ch (e1s.BearerContextSetupFailure ue instance cause_quota) r p)
      (numbers_then k (makes way ue sn quota forward count r) (λ s. set_up_for way ch ue instance forward s (context_of s ue))
      (makes_number k ue sn quota forward count r p) (λ j s q. set_up_numbers j ch ue instance forward s (context_of s ue) q))

  -- ---- a switch: what the list gives to each bearer

  has_named : List Tunnel → BearerId → Bool
  has_named [] b = false
  has_named (x ∷ xs) b = x.bearer.0 == b.0 || has_named xs b

  or_later : (a b : Bool) → b ≡ true → a || b ≡ true
  or_later true b h = refl
  or_later false b h = h

  both_true : (a b : Bool) → a && b ≡ true → (a ≡ true) × (b ≡ true)
  both_true true b h = (refl, h)
  both_true false b h = absurd cc

  module _ (gnb : Gnb) (ue : UeId) (du : ℕ) (k : ℕ) where
    teid_given : (list : List Tunnel) (b : BearerId) → has_named list b ≡ true → AllByRecursion (IsGiven t k gnb ue du) list
        → IsGiven t k gnb ue du (record { bearer = b; teid = teid_of list b })
    unfolding has_named
    teid_given [] b h all = absurd cc
    teid_given (x ∷ xs) b h all = by (teid_given xs b) (x.bearer.0 == b.0) refl h
      where
        by : (has_named xs b ≡ true → AllByRecursion (IsGiven t k gnb ue du) xs → IsGiven t k gnb ue du (record { bearer = b; teid = teid_of xs b }))
            → (tie : Bool) → (x.bearer.0 == b.0) ≡ tie → tie || has_named xs b ≡ true
            → IsGiven t k gnb ue du (record { bearer = b; teid = if tie then x.teid else teid_of xs b })
        by later true tie g =
            let same : x.bearer ≡ b = ap (λ (n : ℕ). record { 0 = n }) (eqb-true x.bearer.0 b.0 tie) in
            λ on. let is = all.0 on in (subst (λ (c : BearerId). t.owner ≡ Some (ue, c)) same is.0, is.1)
        by later false off g = later g all.1

    named_later : (x : Tunnel) (xs : List Tunnel) (es : Bearers) → AllByRecursion (λ (e : BearerId × CuUpBearer). has_named xs e.0 ≡ true) es
        → AllByRecursion (λ (e : BearerId × CuUpBearer). has_named (x ∷ xs) e.0 ≡ true) es
    unfolding has_named
    named_later x xs [] all = tt
    named_later x xs (e ∷ es) all = (or_later (x.bearer.0 == e.0.0) (has_named xs e.0) all.0, named_later x xs es all.1)

    each_named : (es : Bearers) (list : List Tunnel) → are_bearers (map (λ e. e.0) es) (bearers_of list) ≡ true
        → AllByRecursion (λ (e : BearerId × CuUpBearer). has_named list e.0 ≡ true) es
    unfolding has_named
    each_named [] list h = tt
    each_named (e ∷ es) [] h = absurd cc
    each_named (e ∷ es) (x ∷ xs) h =
        let both = both_true (e.0.0 == x.bearer.0) (are_bearers (map (λ e. e.0) es) (bearers_of xs)) h in
        let same : e.0.0 ≡ x.bearer.0 = eqb-true e.0.0 x.bearer.0 both.0 in (
          ap (λ (b : Bool). b || has_named xs e.0) (eq-eqb x.bearer.0 e.0.0 (sym same)),
          named_later x xs es (each_named es xs both.1),
        )

    abbrev began : List Tunnel → BearerId → CuUpBearer → Option DownlinkTunnel
    began list b x = Some (record { du = du_id gnb du; teid = teid_of list b; next = 0 })

    each_begins : (es : Bearers) (list : List Tunnel) → AllByRecursion (λ (e : BearerId × CuUpBearer). has_named list e.0 ≡ true) es
        → AllByRecursion (IsGiven t k gnb ue du) list → EachCounts t way ue (began list) k es
    each_begins [] list named all = tt
    each_begins (e ∷ es) list named all =
        (λ l. let is = teid_given list e.0 named.0 all l in (is.0, sym is.1), each_begins es list named.1 all)

  -- ---- Bearer Context Modification

  abbrev AskedFirst : ℕ → Gnb → Message C → Type 0
  AskedFirst k gnb (e1 (e1s.BearerContextModificationRequest ue instance (Some downlinks) mode peer down up ss (Some du))) =
      mode ≡ mode_switch → AllByRecursion (IsGiven t k gnb ue du) downlinks
  AskedFirst k gnb message = Unit {0}

  module _ (k : ℕ) (ch : Channel) (ue : UeId) (instance : ℕ) (r : CuUp M C) (order : BearersInOrder r) (p : CuUpCounts t k r) where
    each_counts : (c : CuUpContext) → find ue_cmp r.contexts ue ≡ Some c → Apart c.bearers → EachCounts t way ue (stood t way ue) k c.bearers
    each_counts c is apart = each_found (λ b x. BearerCounts t k ue b x.downlink) c.bearers apart (λ b x found. p.1 ue c b x is found)

    uplinks_numbers : (c : CuUpContext) → find ue_cmp r.contexts ue ≡ Some c → Apart c.bearers → Numbers k (add_uplinks way ch ue instance c r)
    unfolding add_uplinks
    uplinks_numbers c is apart =
        numbers_if k (not (teids_are_left r.next_teid (length c.bearers))) (spent teids_spent) _ tt
        (steps_number k (uplinks_given way ue r c (teids_from way r.next_teid c.bearers)) ch ue c c.bearers (uplinks_from way r.next_teid c.bearers)
        (modified way ue instance (Some (teids_from way r.next_teid c.bearers)) None) p
        (uplinks_number t way ue r.next_teid k c.bearers apart (each_counts c is apart)))

    switch_numbers : (d : Option ℕ) (list : Option (List Tunnel)) (c : CuUpContext) → Apart c.bearers
        → ((du : ℕ) (tunnels : List Tunnel) → d ≡ Some du → list ≡ Some tunnels → AllByRecursion (IsGiven t k r.gnb ue du) tunnels)
        → Numbers k (switch_if way ch ue instance d list c r)
    unfolding switch
    switch_numbers (Some d) (Some list) c apart first = by c.flags.released (are_bearers (names way c) (bearers_of list)) refl
      where
        by : (gone named : Bool) → are_bearers (names way c) (bearers_of list) ≡ named
            → Numbers k (if gone || not named then drops Unexpected r
            else (answer_with way r ue (as_switched way c)
            (each_bearer way (λ b. switched way (cu_up_scope ue (as_switched way c) b) (du_id r.gnb d) (teid_of list b)) c.bearers)
            then replies way ch (modified way ue instance None None)))
        by true named is = drops_number k Unexpected r p
        by false false is = drops_number k Unexpected r p
        by false true is =
            steps_number k r ch ue (as_switched way c) c.bearers
            (each_bearer way (λ b. switched way (cu_up_scope ue (as_switched way c) b) (du_id r.gnb d) (teid_of list b)) c.bearers) (modified way ue instance None None) p
            (each_numbers t way ue (began r.gnb ue d k list) (λ b. switched way (cu_up_scope ue (as_switched way c) b) (du_id r.gnb d) (teid_of list b))
            (λ b x. switched_stays way (cu_up_scope ue (as_switched way c) b) (du_id r.gnb d) (teid_of list b) x) k c.bearers apart
            (each_begins r.gnb ue d k c.bearers list (each_named r.gnb ue d k c.bearers list is) (first d list refl refl)))
    switch_numbers (Some d) None c apart first = drops_number k Unexpected r p
    switch_numbers None list c apart first = drops_number k Unexpected r p

    freeze_numbers : (peer : Option Peer) (a b : Option (List Tunnel)) (c : CuUpContext) → find ue_cmp r.contexts ue ≡ Some c → Apart c.bearers
        → Numbers k (freeze_if way ch ue instance peer a b c r)
    unfolding freeze
    freeze_numbers (Some peer) (Some a) (Some b) c is apart =
        numbers_if k (c.flags.frozen || c.flags.released || not c.flags.arrived || not (are_bearers (names way c) (bearers_of a)) || not (are_bearers (names way c) (bearers_of b)))
        (drops Unexpected r) _ (drops_number k Unexpected r p)
        (numbers_if k (not c.flags.may_serve) _ _ (replies_number k ch (e1s.BearerContextModificationFailure ue instance cause_busy) r p)
        (steps_number k r ch ue (as_frozen way c) c.bearers
        (each_bearer way (λ x. frozen_to way (cu_up_scope ue (as_frozen way c) x) (peer_node way peer) (teid_of a x) (teid_of b x)) c.bearers)
        (modified way ue instance None (Some (statuses way c))) p
        (each_numbers t way ue (stood t way ue) (λ x. frozen_to way (cu_up_scope ue (as_frozen way c) x) (peer_node way peer) (teid_of a x) (teid_of b x))
        (λ x y. frozen_stays way (cu_up_scope ue (as_frozen way c) x) (peer_node way peer) (teid_of a x) (teid_of b x) y) k c.bearers apart (each_counts c is apart))))
    freeze_numbers (Some peer) (Some a) None c is apart = drops_number k Unexpected r p
    freeze_numbers (Some peer) None b c is apart = drops_number k Unexpected r p
    freeze_numbers None a b c is apart = drops_number k Unexpected r p

    status_numbers : (list : Option (List SnStatus)) (c : CuUpContext) → find ue_cmp r.contexts ue ≡ Some c → Apart c.bearers
        → Numbers k (status_if way ch ue instance list c r)
    unfolding take_status
    status_numbers (Some list) c is apart =
        numbers_if k (c.flags.may_serve || not (are_bearers (names way c) (statuses_of list))) (drops Unexpected r) _ (drops_number k Unexpected r p)
        (steps_number k r ch ue (as_known way c) c.bearers (status_each way ue (as_known way c) list c.bearers) (modified way ue instance None None) p
        (statuses_number t way ue (as_known way c) list k c.bearers apart (each_counts c is apart)))
    status_numbers None c is apart = drops_number k Unexpected r p

    resume_numbers : (c : CuUpContext) → find ue_cmp r.contexts ue ≡ Some c → Apart c.bearers → Numbers k (resume_if way ch ue instance c r)
    unfolding resume
    resume_numbers c is apart =
        numbers_if k (c.flags.frozen && not c.flags.released) _ (drops Unexpected r)
        (steps_number k r ch ue (as_resumed way c) c.bearers
        (each_bearer way (λ b. resumed way (cu_up_scope ue (as_resumed way c) b)) c.bearers) (modified way ue instance None None) p
        (each_numbers t way ue (stood t way ue) (λ b. resumed way (cu_up_scope ue (as_resumed way c) b))
        (λ b x. resumed_stays way (cu_up_scope ue (as_resumed way c) b) x) k c.bearers apart (each_counts c is apart)))
        (drops_number k Unexpected r p)

    modify_numbers : (downlinks : Option (List Tunnel)) (mode : ℕ) (peer : Option Peer) (down up : Option (List Tunnel)) (ss : Option (List SnStatus)) (du : Option ℕ)
        (c : Option CuUpContext) → find ue_cmp r.contexts ue ≡ c
        → AskedFirst k r.gnb (e1 (e1s.BearerContextModificationRequest ue instance downlinks mode peer down up ss du))
        → Numbers k (modify_on way ch (e1s.BearerContextModificationRequest ue instance downlinks mode peer down up ss du) r c)
    modify_numbers downlinks mode peer down up ss du None is first = drops_number k NoContext r p
    modify_numbers downlinks mode peer down up ss du (Some c) is first =
        numbers_if k (mode == mode_uplinks) _ _ (numbers_if k c.flags.released (drops Unexpected r) _ (drops_number k Unexpected r p) (uplinks_numbers c is apart))
        (by (mode == mode_switch) refl)
      where
        apart : Apart c.bearers
        apart = sorted_apart c.bearers (order ue c is)

        given : mode ≡ mode_switch → (d : Option ℕ) (list : Option (List Tunnel))
            → AskedFirst k r.gnb (e1 (e1s.BearerContextModificationRequest ue instance list mode peer down up ss d))
            → (x : ℕ) (tunnels : List Tunnel) → d ≡ Some x → list ≡ Some tunnels → AllByRecursion (IsGiven t k r.gnb ue x) tunnels
        given is_switch (Some d) (Some list) fits x tunnels dx lx =
            let same : d ≡ x = cc in
            let those : list ≡ tunnels = cc in
            subst (λ (y : ℕ). AllByRecursion (IsGiven t k r.gnb ue y) tunnels) same
            (subst (λ (l : List Tunnel). AllByRecursion (IsGiven t k r.gnb ue d) l) those (fits is_switch))
        given is_switch (Some d) None fits x tunnels dx lx = absurd cc
        given is_switch None list fits x tunnels dx lx = absurd cc

        others : Numbers k (if mode == mode_freeze then freeze_if way ch ue instance peer down up c r else
            (if mode == mode_status then status_if way ch ue instance ss c r else
            (if mode == mode_resume then resume_if way ch ue instance c r else drops Unexpected r)))
        others =
            numbers_if k (mode == mode_freeze) _ _ (freeze_numbers peer down up c is apart)
            (numbers_if k (mode == mode_status) _ _ (status_numbers ss c is apart)
            (numbers_if k (mode == mode_resume) _ _ (resume_numbers c is apart) (drops_number k Unexpected r p)))

        by : (b : Bool) → (mode == mode_switch) ≡ b → Numbers k (if b then switch_if way ch ue instance du downlinks c r else
            (if mode == mode_freeze then freeze_if way ch ue instance peer down up c r else
            (if mode == mode_status then status_if way ch ue instance ss c r else
            (if mode == mode_resume then resume_if way ch ue instance c r else drops Unexpected r))))
        by true switches = switch_numbers du downlinks c apart (given (eqb-true mode mode_switch switches) du downlinks first)
        by false off = others

  -- ---- requests and replies

  asked_numbers : (k : ℕ) (ch : Channel) (m : Message C) (r : CuUp M C) → BearersInOrder r → CuUpCounts t k r → AskedFirst k r.gnb m
      → Numbers k (asked way ch m r)
  unfolding setup
  asked_numbers k ch (e1 (e1s.BearerContextSetupRequest ue instance count sn quota forward)) r order p first =
      setup_numbers k ch ue instance count sn quota forward r p (context_of r ue)
  asked_numbers k ch (e1 (e1s.BearerContextModificationRequest ue instance downlinks mode peer down up ss du)) r order p first =
      modify_numbers k ch ue instance r order p downlinks mode peer down up ss du (context_of r ue) refl first
  asked_numbers k ch (e1 (e1s.BearerContextReleaseCommand ue instance is_final)) r order p first = release_numbers k ch ue instance is_final r p
  asked_numbers k ch m r order p first = drops_number k Unexpected r p

  is_set_up_numbers : (k : ℕ) (ch : Channel) (r : CuUp M C) → CuUpCounts t k r → Numbers k (set_up way ch r)
  unfolding set_up
  is_set_up_numbers k ch r p =
      quiet_after k (advance way (record r.transactions { caller = close r.transactions.caller ch }) ch)
      (λ a. record r { is_set_up = true; transactions = a.transactions })
      (none_advance way (record r.transactions { caller = close r.transactions.caller ch }) ch) (λ a. p)

  request_numbers : (k : ℕ) (r : CuUp M C) (s : Transactions M C) (ch : Channel) (instance : ℕ) (row : Transactions M C → Answer M P (CuUp M C)) → CuUpCounts t k r
      → (verdict s.callee ch instance ≡ new → (u : Transactions M C) → Numbers k (row u)) → Numbers k (on_request way r s ch instance row)
  unfolding on_request
  request_numbers k r s ch instance row p each = by (verdict s.callee ch instance) refl
    where
      kept_again : (kept : Option M) → Numbers k (answered_again way r ch kept)
      kept_again None = stays_number k r p
      kept_again (Some m) = (k, refl, p, λ e. refl)

      by : (v : Verdict) → verdict s.callee ch instance ≡ v → Numbers k (request_by way r s ch instance row v)
      by new is = each is (record s { callee = taken s.callee ch instance })
      by again is = kept_again (kept_reply s.callee ch)
      by stale is = drops_number k Stale r p

  -- a request that is new is the one of which its first switch is told
  asked_first : (k : ℕ) (from : NodeId) (m : Message C) (r : CuUp M C) (ue instance : ℕ) → kind_of m ≡ request ue instance
      → verdict r.transactions.callee (channel ue from) instance ≡ new → SwitchesFirst {P = P} t k r (control_input from m) → AskedFirst k r.gnb m
  unfolding kind_of
  asked_first k from (e1 (e1s.BearerContextModificationRequest ue i (Some list) mode peer down up ss (Some du))) r u instance is fresh first =
      let same : ue.0 ≡ u = cc in
      let at : i ≡ instance = cc in
      λ switches. first switches ((λ j. verdict r.transactions.callee (channel (same j) from) (at j)) ∙ fresh)
  asked_first k from m r ue instance is fresh first = tt

  control_by_numbers : (k : ℕ) (from : NodeId) (m : Message C) (r : CuUp M C) → BearersInOrder r → CuUpCounts t k r → SwitchesFirst {P = P} t k r (control_input from m)
      → (kind : Kind) → kind_of m ≡ kind → Numbers k (control_by way (channel (ue_in way kind) from) m r kind)
  unfolding on_reply
  control_by_numbers k from m r order p first (request ue i) is =
      request_numbers k r r.transactions (channel ue from) i (λ s. asked way (channel ue from) m (with_transactions r s)) p
      (λ fresh s. asked_numbers k (channel ue from) m (with_transactions r s) order p (asked_first k from m r ue i is fresh first))
  control_by_numbers k from m r order p first (reply ue i) is =
      numbers_if k (is_awaited r.transactions.caller (channel ue from) i) _ _ (is_set_up_numbers k (channel ue from) r p) (drops_number k Stale r p)
  control_by_numbers k from m r order p first (transfer ue) is = drops_number k Unexpected r p

  control_numbers : (k : ℕ) (from : NodeId) (m : Message C) (r : CuUp M C) → BearersInOrder r → CuUpCounts t k r → SwitchesFirst {P = P} t k r (control_input from m)
      → Numbers k (control_received way from m r)
  unfolding control_received
  control_numbers k from m r order p first =
      numbers_if k (is_own_cu_cp way r.gnb from) _ (drops Unexpected r) (control_by_numbers k from m r order p first (kind_of m) refl) (drops_number k Unexpected r p)

  -- ---- items, polls, ticks

  module _ (k : ℕ) (r : CuUp M C) (p : CuUpCounts t k r) where
    taken_numbers : (x : CuUpTunnel) (teid : ℕ) (item : Taken P) (c : CuUpContext) (b : CuUpBearer) → find ue_cmp r.contexts x.ue ≡ Some c
        → find bearer_cmp c.bearers x.bearer ≡ Some b → (reason : Option HeldReason) → Numbers k (taken_by way r x teid item c b reason)
    taken_numbers x teid item c b at found (Some reason) = (k, refl, p, λ e. refl)
    taken_numbers x teid item c b at found None =
        numbers_then k (with_bearer way r x.ue c x.bearer (took way (cu_up_scope x.ue c x.bearer) x.kind teid item b)) (end_where_over way x.ue)
        (bearer_numbers t way x.ue k r c x.bearer b (took way (cu_up_scope x.ue c x.bearer) x.kind teid item b) p at found
        (item_stays way (cu_up_scope x.ue c x.bearer) x.kind teid item b))
        (λ j s q. over_numbers j x.ue s q)

    take_numbers : (teid : ℕ) (item : Taken P) → Numbers k (take way teid item r)
    unfolding take
    take_numbers teid item = by (find nat_cmp r.tunnels teid)
      where
        in_bearer : (x : CuUpTunnel) (c : CuUpContext) → find ue_cmp r.contexts x.ue ≡ Some c → (b : Option CuUpBearer) → find bearer_cmp c.bearers x.bearer ≡ b
            → Numbers k (taken_in way r x teid item c b)
        in_bearer x c at None is = drops_number k NoContext r p
        in_bearer x c at (Some b) is = taken_numbers x teid item c b at is (held_reason (cu_up_scope x.ue c x.bearer) b x.kind item)

        in_context : (x : CuUpTunnel) (c : Option CuUpContext) → find ue_cmp r.contexts x.ue ≡ c → Numbers k (taken_of way r x teid item c)
        in_context x None is = drops_number k NoContext r p
        in_context x (Some c) is = in_bearer x c is (find bearer_cmp c.bearers x.bearer) refl

        by : (x : Option CuUpTunnel) → Numbers k (taken_on way r teid item x)
        by None = drops_number k NoTunnel r p
        by (Some x) = in_context x (context_of r x.ue) refl

    poll_numbers : (ue : UeId) (bearer : BearerId) → Numbers k (poll way ue bearer r)
    unfolding poll
    poll_numbers ue bearer = by (context_of r ue) refl
      where
        in_bearer : (c : CuUpContext) → find ue_cmp r.contexts ue ≡ Some c → (b : Option CuUpBearer) → find bearer_cmp c.bearers bearer ≡ b
            → Numbers k (poll_bearer way r ue c bearer b)
        in_bearer c at None is = (k, refl, p, λ e. refl)
        in_bearer c at (Some b) is =
            numbers_if k (length b.sender.unconfirmed == 0) (puts (no Empty) r) _ (k, refl, p, λ e. refl)
            (numbers_if k (c.flags.frozen || not (has_downlink b.downlink)) (puts (no NoRadio) r) _ (k, refl, p, λ e. refl)
            (bearer_numbers t way ue k r c bearer b (framed way (cu_up_scope ue c bearer) true false None Absent b) p at is (poll_stays way (cu_up_scope ue c bearer) b)))

        by : (c : Option CuUpContext) → find ue_cmp r.contexts ue ≡ c → Numbers k (poll_on way r ue bearer c)
        by None is = (k, refl, p, λ e. refl)
        by (Some c) is = in_bearer c is (find bearer_cmp c.bearers bearer) refl

    start_numbers : Numbers k (start way r)
    unfolding start
    start_numbers =
        numbers_if k r.is_set_up (nothing r) _ (stays_number k r p)
        (quiet_after k (ask way r.transactions (channel 0 (CuCp r.gnb))
        (record { message = e1 (e1s.E1SetupRequest no_instance (node_text (up_node r))); deadline = None; awaited = false }))
        (λ a. with_transactions r a.transactions) (none_ask way r.transactions (channel 0 (CuCp r.gnb)) _) (λ a. p))

    tick_numbers : Numbers k (tick way r)
    unfolding tick
    tick_numbers = (k, none_counts k _ (none_due way (due r.transactions.caller)), p, λ e. refl)

  pub cu_up_numbers : (k : ℕ) (r : CuUp M C) (input : Input C P) → BearersInOrder r → CuUpCounts t k r → SwitchesFirst t k r input
      → Numbers k (cu_up_acts way r input)
  unfolding cu_up_acts
  cu_up_numbers k r (control_input from m) order p first = control_numbers k from m r order p first
  cu_up_numbers k r (packet_input teid item) order p first = take_numbers k r p teid item
  cu_up_numbers k r tick_input order p first = tick_numbers k r p
  cu_up_numbers k r (order_input orders.Start) order p first = start_numbers k r p
  cu_up_numbers k r (order_input (orders.Poll ue bearer)) order p first = poll_numbers k r p ue bearer
  cu_up_numbers k r input order p first = drops_number k Unexpected r p

-- What a CU-UP asks of a bearer, it tested.
use Rattle.std.proofs.Common.{◌≡◌, ◌==◌, ℕ, Bool, true, false, cond, not, ◌&&◌, ◌||◌, List, [], ◌∷◌, ◌++◌, length, map, Option, Some, None, refl, sym, ap, subst, ◌∙◌}
use Rattle.std.specs.Prelude.{if◌then◌else◌}
use Rattle.std.specs.List.{list_all}
use Rattle.std.specs.Map.{lookup}
use Rattle.std.specs.BTreeMap.{is_at}
use Rattle.std.specs.Ordering.{nat_cmp, eq_by_cmp}
use Rattle.std.specs.Cmp.{Equal-is}
use Rattle.gnb_types.specs.declared.names.NodeId.{NodeId}
use Rattle.gnb_types.specs.declared.names.NodeId.TheVariants.{Du as du_id}
use Rattle.gnb_types.specs.declared.names.UeId.{UeId}
use Rattle.gnb_types.specs.declared.names.BearerId.{BearerId}
use Rattle.gnb_types.specs.declared.names.SnBits.{SnBits}
use Rattle.gnb_types.specs.declared.keys.Channel.{Channel}
use Rattle.gnb_types.specs.declared.plans.Peer.{Peer}
use Rattle.gnb_types.specs.declared.plans.Tunnel.{Tunnel}
use Rattle.gnb_types.specs.declared.plans.SnStatus.{SnStatus}
use Rattle.gnb_types.specs.declared.inputs.Order.TheVariants as inputs
use Rattle.gnb_types.specs.declared.reasons.HeldReason.{HeldReason}
use Rattle.gnb_types.specs.Orders.{ue_cmp, bearer_cmp}
use Rattle.gnb_types.proofs.OrderLemmas.{ue_exact, bearer_total, bearer_exact}
use Rattle.tables.specs.Tables.{find, put}
use Rattle.tables.proofs.TableLaws.{find-put-same, find-put-other}
use Rattle.transaction_defs.specs.Callees.{Verdict, new, again, stale, verdict}
use Rattle.message_types.specs.declared.e1.E1Message.TheVariants as e1s
use Rattle.unit_defs.specs.Ways.{Message, e1, Taken, Input, control_input, packet_input, order_input, Output, Way, Answer, gives, spent}
use Rattle.unit_defs.specs.Messages.{mode_uplinks, mode_switch, mode_freeze, mode_status, mode_resume, channel, are_bearers, bearers_of, statuses_of, teid_of}
use Rattle.unit_defs.specs.Transactions.{Kind, request, reply, transfer, kind_of}
use Rattle.unit_defs.specs.CuUpRecords.{TunnelKind, CuUpBearer, CuUpContext, CuUp, CuUpTunnel, cu_up_scope}
use Rattle.unit_defs.specs.CuUpBearers.{has_downlink, is_over, released}
use Rattle.unit_defs.specs.CuUpItems.{held_reason, took}
use Rattle.unit_defs.specs.CuUp.{context_of, bearers_from, fits, teids_from, peer_node, names, as_released, is_own_cu_cp, ue_in}
use Rattle.proof_cu_up_orders.specs.context_orders.Orders.{CuUpModel, model_with, model_of_bearer, model_in, model_of, ContextStep, adds, switches, freezes, knows, resumes, releases, closes, takes, polls, kept_in}
use Rattle.proof_cu_up_orders.specs.context_orders.Inputs.{only_if, ends, closes_if, closes_after, taken_by, taken_in, taken_of, taken_on, polls_if, polls_on, new_teid, makes_with, setup_orders, switches_if, freezes_if, status_in, knows_if, modify_orders, release_orders, asked_orders, new_orders, control_orders, orders_of}
use Rattle.proof_cu_up_orders.specs.context_orders.Shown.{is_bearer}
use Rattle.proof_cu_up_orders.specs.context_tests.Tests.{is_final, IsOver, IsTested, IsBegun, EndsAfter, AreTested}

abbrev Bearers : Type 0
Bearers = List (BearerId × CuUpBearer)

-- ---- tests, one after another

both_true : (a b : Bool) → a && b ≡ true → (a ≡ true) × (b ≡ true)
both_true true b h = (refl, h)
both_true false b h = absurd cc

none_of_two : (a b : Bool) → not (a || b) ≡ true → a ≡ false
none_of_two false b h = refl
none_of_two true b h = absurd cc

not_true : (a : Bool) → not a ≡ true → a ≡ false
not_true false h = refl
not_true true h = absurd cc

may_poll : (e f d : Bool) → not (e || (f || not d)) ≡ true → (f ≡ false) × (d ≡ true)
may_poll false false true h = (refl, refl)
may_poll true f d h = absurd cc
may_poll false true d h = absurd cc
may_poll false false false h = absurd cc

may_freeze : (f g a x y s : Bool) → not (f || g || not a || not x || not y) && s ≡ true
    → (f ≡ false) × (g ≡ false) × (a ≡ true) × (s ≡ true)
may_freeze false false true true true s h = (refl, refl, refl, h)
may_freeze true g a x y s h = absurd cc
may_freeze false true a x y s h = absurd cc
may_freeze false false false x y s h = absurd cc
may_freeze false false true false y s h = absurd cc
may_freeze false false true true false s h = absurd cc

may_resume : (f g : Bool) → f && not g ≡ true → (f ≡ true) × (g ≡ false)
may_resume true false h = (refl, refl)
may_resume true true h = absurd cc
may_resume false g h = absurd cc

-- ---- what is so of all bearers is so of the one that is found

all_found : (test : CuUpBearer → Bool) (es : Bearers) (bearer : BearerId) (b : CuUpBearer) → list_all (λ e. test e.1) es ≡ true
    → find bearer_cmp es bearer ≡ Some b → test b ≡ true
unfolding find
all_found test [] bearer b all there = absurd cc
all_found test (e ∷ es) bearer b all there =
    let both = both_true (test e.1) (list_all (λ e. test e.1) es) all in
    by both.0 (all_found test es bearer b both.1) (is_at (bearer_cmp bearer) e.0) there
  where
    by : test e.1 ≡ true → (lookup (is_at (bearer_cmp bearer)) es ≡ Some b → test b ≡ true) → (t : Bool)
        → cond t (Some e.1) (lookup (is_at (bearer_cmp bearer)) es) ≡ Some b → test b ≡ true
    by first later true h = let same : e.1 ≡ b = cc in subst (λ (x : CuUpBearer). test x ≡ true) same first
    by first later false h = later h

all_released : (test : CuUpBearer → Bool) (es : Bearers)
    → list_all (λ (e : BearerId × CuUpBearer). test e.1) (map (λ (e : BearerId × CuUpBearer). (e.0, released e.1)) es)
    ≡ list_all (λ (e : BearerId × CuUpBearer). test (released e.1)) es
all_released test [] = refl
all_released test (e ∷ es) = ap (λ (t : Bool). test (released e.1) && t) (all_released test es)

module _ {M C P : Type 0} (way : Way M C P) (r : CuUp M C) (ue : UeId) (bearer : BearerId) where
  abbrev Orders : Type 0
  Orders = List (ContextStep P)

  abbrev now : Option CuUpModel
  now = model_of r ue bearer

  abbrev Is : Bool → Orders → Type 0
  Is final os = AreTested way ue bearer final r.next_teid os now

  only_tested : (final t : Bool) (os : Orders) → (t ≡ true → Is final os) → Is final (only_if way t os)
  only_tested final true os h = h refl
  only_tested final false os h = tt

  either : (final t : Bool) (xs ys : Orders) → Is final xs → Is final ys → Is final (if t then xs else ys)
  either final true xs ys h k = h
  either final false xs ys h k = k

  by_terminal : (final : Bool) (u : UeId) (os : UeId → Orders) → Is final (os ue) → Is final (only_if way (eq_by_cmp ue_cmp ue u) (os u))
  by_terminal final u os h = only_tested final (eq_by_cmp ue_cmp ue u) (os u)
      (λ tie. subst (λ (v : UeId). Is final (os v)) (ue_exact ue u ((Equal-is (ue_cmp ue u)).0 tie)) h)

  -- ---- a context ends

  over_one : (c : CuUpContext) → ends way c ≡ true → (b : CuUpBearer) → find bearer_cmp c.bearers bearer ≡ Some b → IsOver (model_with ue c bearer b)
  over_one c e b there =
      let both = both_true c.flags.released (list_all (λ e. is_over c.flags e.1) c.bearers) e in
      (both.0, all_found (λ x. is_over c.flags x) c.bearers bearer b both.1 there)

  ends_after : (c : CuUpContext) (o : Option CuUpBearer) → find bearer_cmp c.bearers bearer ≡ o → (outputs : List (Output M P))
      → EndsAfter (closes_if way c) (gives outputs (model_of_bearer ue c bearer o))
  ends_after c o there outputs = by (ends way c) refl o there
    where
      by : (t : Bool) → ends way c ≡ t → (o : Option CuUpBearer) → find bearer_cmp c.bearers bearer ≡ o
          → EndsAfter (only_if way t (closes ∷ [])) (gives outputs (model_of_bearer ue c bearer o))
      by true e None there = tt
      by true e (Some b) there = over_one c e b there
      by false e o there = tt

  ends_first : (c : CuUpContext) (o : Option CuUpBearer) → find bearer_cmp c.bearers bearer ≡ o
      → AreTested way ue bearer false r.next_teid (closes_if way c) (model_of_bearer ue c bearer o)
  ends_first c o there = by (ends way c) refl o there
    where
      by : (t : Bool) → ends way c ≡ t → (o : Option CuUpBearer) → find bearer_cmp c.bearers bearer ≡ o
          → AreTested way ue bearer false r.next_teid (only_if way t (closes ∷ [])) (model_of_bearer ue c bearer o)
      by true e None there = (tt, tt)
      by true e (Some b) there = (λ f. over_one c e b there, tt)
      by false e o there = tt

  -- ---- items of this terminal's tunnels

  module _ (c : CuUpContext) (is : context_of r ue ≡ Some c) where
    now_is : now ≡ model_of_bearer ue c bearer (find bearer_cmp c.bearers bearer)
    now_is = ap (model_in ue bearer) is

    item_ends : (b : CuUpBearer) (a : Answer M P CuUpBearer)
        → EndsAfter (closes_after way c bearer a) (kept_in (model_with ue c bearer b) a)
    item_ends b (gives os y) =
        ends_after (record c { bearers = put bearer_cmp c.bearers bearer y }) (Some y) (find-put-same bearer_total c.bearers bearer y) os
    item_ends b (spent k) = tt

    item_here : (kind : TunnelKind) (teid : ℕ) (item : Taken P) (b : CuUpBearer) → find bearer_cmp c.bearers bearer ≡ Some b
        → held_reason (cu_up_scope ue c bearer) b kind item ≡ None
        → Is false (takes kind teid item ∷ closes_after way c bearer (took way (cu_up_scope ue c bearer) kind teid item b))
    item_here kind teid item b there passes =
        subst (λ (p : Option CuUpModel). AreTested way ue bearer false r.next_teid
        (takes kind teid item ∷ closes_after way c bearer (took way (cu_up_scope ue c bearer) kind teid item b)) p)
        (sym (now_is ∙ ap (model_of_bearer ue c bearer) there))
        (passes, item_ends b (took way (cu_up_scope ue c bearer) kind teid item b))

    item_beside : (other : BearerId) → eq_by_cmp bearer_cmp bearer other ≡ false → (a : Answer M P CuUpBearer) → Is false (closes_after way c other a)
    item_beside other off (spent k) = tt
    item_beside other off (gives os y) =
        subst (λ (p : Option CuUpModel). AreTested way ue bearer false r.next_teid (closes_if way on) p) (sym (now_is ∙ alike (find bearer_cmp c.bearers bearer)))
        (ends_first on (find bearer_cmp c.bearers bearer) (find-put-other bearer_total c.bearers other y bearer off))
      where
        on : CuUpContext
        on = record c { bearers = put bearer_cmp c.bearers other y }

        alike : (o : Option CuUpBearer) → model_of_bearer ue c bearer o ≡ model_of_bearer ue on bearer o
        alike None = refl
        alike (Some b) = refl

    taken_tested : (t : CuUpTunnel) (teid : ℕ) (item : Taken P) (b : CuUpBearer) → find bearer_cmp c.bearers t.bearer ≡ Some b → (o : Option HeldReason)
        → held_reason (cu_up_scope ue c t.bearer) b t.kind item ≡ o → Is false (taken_by way bearer (record t { ue = ue }) teid item c b o)
    taken_tested t teid item b there (Some reason) held = tt
    taken_tested t teid item b there None passes = by (eq_by_cmp bearer_cmp bearer t.bearer) refl
      where
        by : (k : Bool) → eq_by_cmp bearer_cmp bearer t.bearer ≡ k
            → Is false (only_if way k (takes t.kind teid item ∷ []) ++ closes_after way c t.bearer (took way (cu_up_scope ue c t.bearer) t.kind teid item b))
        by true tie =
            let same : bearer ≡ t.bearer = bearer_exact bearer t.bearer ((Equal-is (bearer_cmp bearer t.bearer)).0 tie) in
            subst (λ (v : BearerId). Is false (takes t.kind teid item ∷ closes_after way c v (took way (cu_up_scope ue c v) t.kind teid item b))) same
            (item_here t.kind teid item b (subst (λ (v : BearerId). find bearer_cmp c.bearers v ≡ Some b) (sym same) there)
            (subst (λ (v : BearerId). held_reason (cu_up_scope ue c v) b t.kind item ≡ None) (sym same) passes))
        by false off = item_beside t.bearer off (took way (cu_up_scope ue c t.bearer) t.kind teid item b)

    in_tested : (t : CuUpTunnel) (teid : ℕ) (item : Taken P) (o : Option CuUpBearer) → find bearer_cmp c.bearers t.bearer ≡ o
        → Is false (taken_in way bearer (record t { ue = ue }) teid item c o)
    in_tested t teid item None there = tt
    in_tested t teid item (Some b) there = taken_tested t teid item b there (held_reason (cu_up_scope ue c t.bearer) b t.kind item) refl

    -- ---- one order, where the bearer's state allows it

    one_tested : (final : Bool) (o : ContextStep P) → IsBegun r.next_teid o → ((b : CuUpBearer) → IsTested final (model_with ue c bearer b) o) → Is final (o ∷ [])
    one_tested final o begins may =
        subst (λ (p : Option CuUpModel). AreTested way ue bearer final r.next_teid (o ∷ []) p) (sym now_is) (by (find bearer_cmp c.bearers bearer))
      where
        by : (q : Option CuUpBearer) → AreTested way ue bearer final r.next_teid (o ∷ []) (model_of_bearer ue c bearer q)
        by None = (begins, tt)
        by (Some b) = (may b, tt)

    poll_tested : (o : Option CuUpBearer) → find bearer_cmp c.bearers bearer ≡ o → Is false (polls_if way c o)
    poll_tested None there = tt
    poll_tested (Some b) there =
        only_tested false (not (length b.sender.unconfirmed == 0 || (c.flags.frozen || not (has_downlink b.downlink)))) (polls ∷ [])
        (λ e. subst (λ (p : Option CuUpModel). AreTested way ue bearer false r.next_teid (polls ∷ []) p) (sym (now_is ∙ ap (model_of_bearer ue c bearer) there))
        (may_poll (length b.sender.unconfirmed == 0) c.flags.frozen (has_downlink b.downlink) e, tt))

    switch_tested : (du : Option ℕ) (list : Option (List Tunnel)) → Is false (switches_if way r.gnb bearer du list c)
    switch_tested (Some du) (Some list) =
        only_tested false (not (c.flags.released || not (are_bearers (names way c) (bearers_of list)))) (switches (du_id r.gnb du) (teid_of list bearer) ∷ [])
        (λ e. one_tested false (switches (du_id r.gnb du) (teid_of list bearer)) tt (λ b. none_of_two c.flags.released (not (are_bearers (names way c) (bearers_of list))) e))
    switch_tested (Some du) None = tt
    switch_tested None list = tt

    freeze_tested : (peer : Option Peer) (down up : Option (List Tunnel)) → Is false (freezes_if way bearer peer down up c)
    freeze_tested (Some peer) (Some down) (Some up) =
        let order : ContextStep P = freezes (peer_node way peer) (teid_of down bearer) (teid_of up bearer) in
        only_tested false (not (c.flags.frozen || c.flags.released || not c.flags.arrived || not (are_bearers (names way c) (bearers_of down))
        || not (are_bearers (names way c) (bearers_of up))) && c.flags.may_serve) (order ∷ [])
        (λ e. one_tested false order tt (λ b. may_freeze c.flags.frozen c.flags.released c.flags.arrived (are_bearers (names way c) (bearers_of down))
        (are_bearers (names way c) (bearers_of up)) c.flags.may_serve e))
    freeze_tested (Some peer) (Some down) None = tt
    freeze_tested (Some peer) None up = tt
    freeze_tested None down up = tt

    knows_tested : (ss : Option (List SnStatus)) → Is false (knows_if way bearer ss c)
    knows_tested (Some ss) =
        only_tested false (not (c.flags.may_serve || not (are_bearers (names way c) (statuses_of ss)))) (knows (status_in way ss bearer) ∷ [])
        (λ e. one_tested false (knows (status_in way ss bearer)) tt (λ b. none_of_two c.flags.may_serve (not (are_bearers (names way c) (statuses_of ss))) e))
    knows_tested None = tt

    modify_tested : (u : UeId) (instance : ℕ) (downlinks : Option (List Tunnel)) (mode : ℕ) (peer : Option Peer) (down up : Option (List Tunnel))
        (ss : Option (List SnStatus)) (du : Option ℕ)
        → Is false (modify_orders way r bearer (e1s.BearerContextModificationRequest u instance downlinks mode peer down up ss du) (Some c))
    modify_tested u instance downlinks mode peer down up ss du =
        either false (mode == mode_uplinks) _ _ (only_tested false (not c.flags.released) (one ∷ [])
        (λ e. one_tested false one tt (λ b. not_true c.flags.released e)))
        (either false (mode == mode_switch) _ _ (switch_tested du downlinks)
        (either false (mode == mode_freeze) _ _ (freeze_tested peer down up)
        (either false (mode == mode_status) _ _ (knows_tested ss)
        (either false (mode == mode_resume) (only_if way (c.flags.frozen && not c.flags.released) (resumes ∷ [])) []
        (only_tested false (c.flags.frozen && not c.flags.released) (resumes ∷ []) (λ e. one_tested false resumes tt (λ b. may_resume c.flags.frozen c.flags.released e))) tt))))
      where
        one : ContextStep P
        one = adds (teid_of (teids_from way r.next_teid c.bearers) bearer)

    -- ---- release: what is over then

    release_ends : (o : Option CuUpBearer) → find bearer_cmp c.bearers bearer ≡ o
        → AreTested way ue bearer false r.next_teid (releases ∷ closes_if way (as_released way c)) (model_of_bearer ue c bearer o)
    release_ends o there = by (ends way (as_released way c)) refl o there
      where
        by : (t : Bool) → ends way (as_released way c) ≡ t → (o : Option CuUpBearer) → find bearer_cmp c.bearers bearer ≡ o
            → AreTested way ue bearer false r.next_teid (releases ∷ only_if way t (closes ∷ [])) (model_of_bearer ue c bearer o)
        by true e None there = (tt, tt)
        by true e (Some b) there = (
          refl,
          (
            refl,
            all_found (λ x. is_over (as_released way c).flags (released x)) c.bearers bearer b
                (sym (all_released (λ x. is_over (as_released way c).flags x) c.bearers) ∙ e) there,
          ),
        )
        by false e None there = (tt, tt)
        by false e (Some b) there = (refl, tt)

  released_tested : (final : Bool) (o : Option CuUpContext) → context_of r ue ≡ o → Is final (release_orders way final o)
  released_tested final None is = tt
  released_tested true (Some c) is = one_tested c is true closes tt (λ b f. absurd cc)
  released_tested false (Some c) is =
      subst (λ (p : Option CuUpModel). AreTested way ue bearer false r.next_teid (releases ∷ closes_if way (as_released way c)) p) (sym (now_is c is))
      (release_ends c is (find bearer_cmp c.bearers bearer) refl)

  -- ---- setup

  setup_tested : (count : ℕ) (sn : SnBits) (quota : ℕ) (target : Bool) (o : Option CuUpContext) → context_of r ue ≡ o
      → Is false (setup_orders way r bearer count sn quota target o)
  setup_tested count sn quota target (Some c) is = tt
  setup_tested count sn quota target None is =
      only_tested false (fits way count quota r) _ (λ e. by (new_teid way target r.next_teid (bearers_from 1 count) bearer))
    where
      by : (o : Option ℕ) → Is false (makes_with way r.next_teid sn quota target o)
      by None = tt
      by (Some teid) =
          subst (λ (p : Option CuUpModel). AreTested way ue bearer false r.next_teid (makes_with way r.next_teid sn quota target (Some teid)) p)
          (sym (ap (model_in ue bearer) is)) (refl, tt)

  modification_tested : (u : UeId) (instance : ℕ) (downlinks : Option (List Tunnel)) (mode : ℕ) (peer : Option Peer) (down up : Option (List Tunnel))
      (ss : Option (List SnStatus)) (du : Option ℕ) (o : Option CuUpContext) → context_of r ue ≡ o
      → Is false (modify_orders way r bearer (e1s.BearerContextModificationRequest u instance downlinks mode peer down up ss du) o)
  modification_tested u instance downlinks mode peer down up ss du None is = tt
  modification_tested u instance downlinks mode peer down up ss du (Some c) is = modify_tested c is u instance downlinks mode peer down up ss du

  -- ---- the table

  asked_tested : (from : NodeId) (m : Message C) → Is (is_final {P = P} (control_input from m)) (asked_orders way r ue bearer m)
  asked_tested from (e1 (e1s.BearerContextSetupRequest u instance count sn quota forward)) =
      by_terminal false u (λ v. setup_orders way r bearer count sn quota forward (context_of r v))
      (setup_tested count sn quota forward (context_of r ue) refl)
  asked_tested from (e1 (e1s.BearerContextModificationRequest u instance downlinks mode peer down up ss du)) =
      by_terminal false u (λ v. modify_orders way r bearer (e1s.BearerContextModificationRequest v instance downlinks mode peer down up ss du) (context_of r v))
      (modification_tested ue instance downlinks mode peer down up ss du (context_of r ue) refl)
  asked_tested from (e1 (e1s.BearerContextReleaseCommand u instance final)) =
      by_terminal final u (λ v. release_orders way final (context_of r v)) (released_tested final (context_of r ue) refl)
  asked_tested from m = tt

  control_tested : (from : NodeId) (m : Message C) (ch : Channel) (k : Kind)
      → Is (is_final {P = P} (control_input from m)) (control_orders way r ue bearer ch m k)
  control_tested from m ch (request u instance) = by (verdict r.transactions.callee ch instance)
    where
      by : (v : Verdict) → Is (is_final {P = P} (control_input from m)) (new_orders way (asked_orders way r ue bearer m) v)
      by new = asked_tested from m
      by again = tt
      by stale = tt
  control_tested from m ch (reply u instance) = tt
  control_tested from m ch (transfer u) = tt

  items_tested : (teid : ℕ) (item : Taken P) (o : Option CuUpTunnel) → Is false (taken_on way r ue bearer teid item o)
  items_tested teid item None = tt
  items_tested teid item (Some t) =
      by_terminal false t.ue (λ v. taken_of way bearer (record t { ue = v }) teid item (context_of r v)) (by (context_of r ue) refl)
    where
      by : (o : Option CuUpContext) → context_of r ue ≡ o → Is false (taken_of way bearer (record t { ue = ue }) teid item o)
      by None is = tt
      by (Some c) is = in_tested c is t teid item (find bearer_cmp c.bearers t.bearer) refl

  polls_tested : (u : UeId) (b : BearerId) → Is false (only_if way (is_bearer ue bearer u b) (polls_on way bearer (context_of r u)))
  polls_tested u b = only_tested false (is_bearer ue bearer u b) (polls_on way bearer (context_of r u)) (λ e.
      subst (λ (v : UeId). Is false (polls_on way bearer (context_of r v)))
      (ue_exact ue u ((Equal-is (ue_cmp ue u)).0 (both_true (eq_by_cmp ue_cmp ue u) (eq_by_cmp bearer_cmp bearer b) e).0))
      (by (context_of r ue) refl))
    where
      by : (o : Option CuUpContext) → context_of r ue ≡ o → Is false (polls_on way bearer o)
      by None is = tt
      by (Some c) is = poll_tested c is (find bearer_cmp c.bearers bearer) refl

  pub orders_tested : (input : Input C P) → Is (is_final input) (orders_of way r ue bearer input)
  orders_tested (control_input from m) =
      only_tested (is_final {P = P} (control_input from m)) (is_own_cu_cp way r.gnb from)
      (control_orders way r ue bearer (channel (ue_in way (kind_of m)) from) m (kind_of m))
      (λ e. control_tested from m (channel (ue_in way (kind_of m)) from) (kind_of m))
  orders_tested (packet_input teid item) = items_tested teid item (find nat_cmp r.tunnels teid)
  orders_tested (order_input (inputs.Poll u b)) = polls_tested u b
  orders_tested input = tt

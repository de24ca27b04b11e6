-- A released context isn't switched, resumed, frozen or made again.
use Rattle.std.proofs.Common.{◌≡◌, ◌==◌, ℕ, Bool, true, false, not, ◌&&◌, ◌||◌, List, [], ◌∷◌, ◌++◌, length, Option, Some, None, refl, sym, ap, subst}
use Rattle.std.specs.Prelude.{if◌then◌else◌}
use Rattle.std.specs.Ordering.{nat_cmp, eq_by_cmp}
use Rattle.std.specs.Cmp.{Equal-is}
use Rattle.gnb_types.specs.declared.names.UeId.{UeId}
use Rattle.gnb_types.specs.declared.names.BearerId.{BearerId}
use Rattle.gnb_types.specs.declared.keys.Channel.{Channel}
use Rattle.gnb_types.specs.declared.plans.Peer.{Peer}
use Rattle.gnb_types.specs.declared.plans.Tunnel.{Tunnel}
use Rattle.gnb_types.specs.declared.plans.SnStatus.{SnStatus}
use Rattle.gnb_types.specs.declared.inputs.Order.TheVariants as inputs
use Rattle.gnb_types.specs.declared.reasons.HeldReason.{HeldReason}
use Rattle.gnb_types.specs.Orders.{ue_cmp, bearer_cmp}
use Rattle.gnb_types.proofs.OrderLemmas.{ue_exact}
use Rattle.tables.specs.Tables.{find, put}
use Rattle.transaction_defs.specs.Callees.{Verdict, new, again, stale, verdict}
use Rattle.message_types.specs.declared.e1.E1Message.TheVariants as e1s
use Rattle.unit_defs.specs.Ways.{Message, e1, Taken, Input, control_input, packet_input, order_input, Way, Answer, gives, spent}
use Rattle.unit_defs.specs.Messages.{mode_uplinks, mode_switch, mode_freeze, mode_status, mode_resume, channel, are_bearers, bearers_of, statuses_of}
use Rattle.unit_defs.specs.Transactions.{Kind, request, reply, transfer, kind_of}
use Rattle.unit_defs.specs.CuUpRecords.{CuUpBearer, CuUpContext, CuUp, CuUpTunnel, cu_up_scope}
use Rattle.unit_defs.specs.CuUpBearers.{has_downlink}
use Rattle.unit_defs.specs.CuUpItems.{held_reason, took}
use Rattle.unit_defs.specs.CuUp.{context_of, names, as_released, is_own_cu_cp, ue_in}
use Rattle.proof_cu_up_orders.specs.context_orders.Orders.{ContextStep, closes, takes, polls, knows, resumes}
use Rattle.proof_cu_up_orders.specs.context_orders.Inputs.{only_if, ends, closes_if, closes_after, taken_by, taken_in, taken_of, taken_on, polls_if, polls_on, setup_orders, switches_if, freezes_if, status_in, knows_if, modify_orders, release_orders, asked_orders, new_orders, control_orders, orders_of}
use Rattle.proof_cu_up_orders.specs.context_orders.Shown.{is_bearer}
use Rattle.proof_cu_up_orders.specs.context_rows.Released.{AllPass}

not_frozen_again : (f g : Bool) → g ≡ true → (a b d s : Bool) → not (f || g || not a || not b || not d) && s ≡ false
not_frozen_again true g e a b d s = refl
not_frozen_again false true e a b d s = refl
not_frozen_again false false e a b d s = absurd cc

not_resumed : (f g : Bool) → g ≡ true → f && not g ≡ false
not_resumed false g e = refl
not_resumed true true e = refl
not_resumed true false e = absurd cc

module _ {M C P : Type 0} (way : Way M C P) (r : CuUp M C) (ue : UeId) (bearer : BearerId) where
  abbrev Orders : Type 0
  Orders = List (ContextStep P)

  pass_if : (t : Bool) (os : Orders) → AllPass os → AllPass (only_if way t os)
  pass_if true os h = h
  pass_if false os h = tt

  none_if : (t : Bool) (os : Orders) → t ≡ false → AllPass (only_if way t os)
  none_if t os e = subst (λ (k : Bool). AllPass (only_if way k os)) (sym e) tt

  either : (t : Bool) (xs ys : Orders) → AllPass xs → AllPass ys → AllPass (if t then xs else ys)
  either true xs ys h k = h
  either false xs ys h k = k

  closes_pass : (d : CuUpContext) → AllPass (closes_if way d)
  closes_pass d = pass_if (ends way d) (closes ∷ []) (tt, tt)

  -- ---- items and polls, of whichever context

  after_pass : (d : CuUpContext) (b : BearerId) (a : Answer M P CuUpBearer) → AllPass (closes_after way d b a)
  after_pass d b (gives os y) = closes_pass (record d { bearers = put bearer_cmp d.bearers b y })
  after_pass d b (spent k) = tt

  taken_pass : (t : CuUpTunnel) (teid : ℕ) (item : Taken P) (d : CuUpContext) (b : CuUpBearer) (o : Option HeldReason) → AllPass (taken_by way bearer t teid item d b o)
  taken_pass t teid item d b (Some reason) = tt
  taken_pass t teid item d b None = by (eq_by_cmp bearer_cmp bearer t.bearer)
    where
      by : (k : Bool) → AllPass (only_if way k (takes t.kind teid item ∷ []) ++ closes_after way d t.bearer (took way (cu_up_scope t.ue d t.bearer) t.kind teid item b))
      by true = (tt, after_pass d t.bearer (took way (cu_up_scope t.ue d t.bearer) t.kind teid item b))
      by false = after_pass d t.bearer (took way (cu_up_scope t.ue d t.bearer) t.kind teid item b)

  in_pass : (t : CuUpTunnel) (teid : ℕ) (item : Taken P) (d : CuUpContext) (o : Option CuUpBearer) → AllPass (taken_in way bearer t teid item d o)
  in_pass t teid item d None = tt
  in_pass t teid item d (Some b) = taken_pass t teid item d b (held_reason (cu_up_scope t.ue d t.bearer) b t.kind item)

  of_pass : (t : CuUpTunnel) (teid : ℕ) (item : Taken P) (o : Option CuUpContext) → AllPass (taken_of way bearer t teid item o)
  of_pass t teid item None = tt
  of_pass t teid item (Some d) = in_pass t teid item d (find bearer_cmp d.bearers t.bearer)

  on_pass : (teid : ℕ) (item : Taken P) (o : Option CuUpTunnel) → AllPass (taken_on way r ue bearer teid item o)
  on_pass teid item None = tt
  on_pass teid item (Some t) = pass_if (eq_by_cmp ue_cmp ue t.ue) (taken_of way bearer t teid item (context_of r t.ue)) (of_pass t teid item (context_of r t.ue))

  poll_pass : (d : CuUpContext) (o : Option CuUpBearer) → AllPass (polls_if way d o)
  poll_pass d None = tt
  poll_pass d (Some b) =
      pass_if (not (length b.sender.unconfirmed == 0 || (d.flags.frozen || not (has_downlink b.downlink)))) (polls ∷ []) (tt, tt)

  polls_pass : (o : Option CuUpContext) → AllPass (polls_on way bearer o)
  polls_pass None = tt
  polls_pass (Some d) = poll_pass d (find bearer_cmp d.bearers bearer)

  -- ---- requests

  module _ (c : CuUpContext) (is : context_of r ue ≡ Some c) (gone : c.flags.released ≡ true) where
    by_terminal : (u : UeId) (os : UeId → Option CuUpContext → Orders) → AllPass (os ue (Some c))
        → AllPass (only_if way (eq_by_cmp ue_cmp ue u) (os u (context_of r u)))
    by_terminal u os h = by (eq_by_cmp ue_cmp ue u) refl
      where
        by : (t : Bool) → eq_by_cmp ue_cmp ue u ≡ t → AllPass (only_if way t (os u (context_of r u)))
        by true tie =
            subst (λ (v : UeId). AllPass (os v (context_of r v))) (ue_exact ue u ((Equal-is (ue_cmp ue u)).0 tie))
            (subst (λ (o : Option CuUpContext). AllPass (os ue o)) (sym is) h)
        by false off = tt

    switch_pass : (du : Option ℕ) (list : Option (List Tunnel)) → AllPass (switches_if way r.gnb bearer du list c)
    switch_pass (Some du) (Some list) = none_if _ _ (λ i. not (gone i || not (are_bearers (names way c) (bearers_of list))))
    switch_pass (Some du) None = tt
    switch_pass None list = tt

    freeze_pass : (peer : Option Peer) (down up : Option (List Tunnel)) → AllPass (freezes_if way bearer peer down up c)
    freeze_pass (Some peer) (Some down) (Some up) =
        none_if _ _ (not_frozen_again c.flags.frozen c.flags.released gone c.flags.arrived (are_bearers (names way c) (bearers_of down))
        (are_bearers (names way c) (bearers_of up)) c.flags.may_serve)
    freeze_pass (Some peer) (Some down) None = tt
    freeze_pass (Some peer) None up = tt
    freeze_pass None down up = tt

    knows_pass : (ss : Option (List SnStatus)) → AllPass (knows_if way bearer ss c)
    knows_pass (Some ss) = pass_if (not (c.flags.may_serve || not (are_bearers (names way c) (statuses_of ss)))) (knows (status_in way ss bearer) ∷ []) (tt, tt)
    knows_pass None = tt

    modify_pass : (u : UeId) (instance : ℕ) (downlinks : Option (List Tunnel)) (mode : ℕ) (peer : Option Peer) (down up : Option (List Tunnel))
        (ss : Option (List SnStatus)) (du : Option ℕ)
        → AllPass (modify_orders way r bearer (e1s.BearerContextModificationRequest u instance downlinks mode peer down up ss du) (Some c))
    modify_pass u instance downlinks mode peer down up ss du =
        either (mode == mode_uplinks) _ _ (none_if _ _ (ap not gone))
        (either (mode == mode_switch) _ _ (switch_pass du downlinks)
        (either (mode == mode_freeze) _ _ (freeze_pass peer down up)
        (either (mode == mode_status) _ _ (knows_pass ss)
        (either (mode == mode_resume) (only_if way (c.flags.frozen && not c.flags.released) (resumes ∷ [])) []
        (none_if _ _ (not_resumed c.flags.frozen c.flags.released gone)) tt))))

    asked_pass : (m : Message C) → AllPass (asked_orders way r ue bearer m)
    asked_pass (e1 (e1s.BearerContextSetupRequest u instance count sn quota forward)) =
        by_terminal u (λ v o. setup_orders way r bearer count sn quota forward o) tt
    asked_pass (e1 (e1s.BearerContextModificationRequest u instance downlinks mode peer down up ss du)) =
        by_terminal u (λ v o. modify_orders way r bearer (e1s.BearerContextModificationRequest v instance downlinks mode peer down up ss du) o)
        (modify_pass ue instance downlinks mode peer down up ss du)
    asked_pass (e1 (e1s.BearerContextReleaseCommand u instance is_final)) =
        by_terminal u (λ v o. release_orders way is_final o)
        (either is_final (closes ∷ []) _ (tt, tt) (tt, closes_pass (as_released way c)))
    asked_pass m = tt

    control_pass : (ch : Channel) (m : Message C) (k : Kind) → AllPass (control_orders way r ue bearer ch m k)
    control_pass ch m (request u instance) = by (verdict r.transactions.callee ch instance)
      where
        by : (v : Verdict) → AllPass (new_orders way (asked_orders way r ue bearer m) v)
        by new = asked_pass m
        by again = tt
        by stale = tt
    control_pass ch m (reply u instance) = tt
    control_pass ch m (transfer u) = tt

    pub orders_pass : (input : Input C P) → AllPass (orders_of way r ue bearer input)
    orders_pass (control_input from m) =
        pass_if (is_own_cu_cp way r.gnb from) (control_orders way r ue bearer (channel (ue_in way (kind_of m)) from) m (kind_of m))
        (control_pass (channel (ue_in way (kind_of m)) from) m (kind_of m))
    orders_pass (packet_input teid item) = on_pass teid item (find nat_cmp r.tunnels teid)
    orders_pass (order_input (inputs.Poll u b)) = pass_if (is_bearer ue bearer u b) (polls_on way bearer (context_of r u)) (polls_pass (context_of r u))
    orders_pass input = tt

-- A path switch is an order; all else leaves the path.
use Rattle.std.proofs.Common.{◌≡◌, ◌==◌, ℕ, Bool, true, false, ◌&&◌, if◌then◌else◌, List, [], ◌∷◌, ◌++◌, map, Option, Some, None, refl, sym, ap, subst, ◌∙◌, eqb-true}
use Rattle.std.proofs.lemmas.List.{append-nil}
use Rattle.std.specs.Ordering.{eq_by_cmp}
use Rattle.std.specs.Cmp.{Equal-is}
use Rattle.gnb_types.specs.declared.names.NodeId.{NodeId}
use Rattle.gnb_types.specs.declared.names.NodeId.TheVariants.{CuCp, CuUp, Du, Core, Ue}
use Rattle.gnb_types.specs.declared.names.SnBits.{SnBits}
use Rattle.gnb_types.specs.declared.names.UeId.{UeId}
use Rattle.gnb_types.specs.declared.names.BearerId.{BearerId}
use Rattle.gnb_types.specs.declared.keys.Channel.{Channel}
use Rattle.gnb_types.specs.declared.plans.Peer.{Peer}
use Rattle.gnb_types.specs.declared.plans.Tunnel.{Tunnel}
use Rattle.gnb_types.specs.declared.reasons.DropReason.{DropReason}
use Rattle.gnb_types.specs.declared.reasons.DropReason.TheVariants.{Stale, Unexpected}
use Rattle.gnb_types.specs.Orders.{ue_cmp, bearer_cmp}
use Rattle.gnb_types.proofs.OrderLemmas.{ue_total, ue_exact}
use Rattle.tables.specs.Tables.{find, put}
use Rattle.tables.proofs.TableLaws.{find-put-same, find-put-other}
use Rattle.message_types.specs.declared.xn.CoreMessage.TheVariants as cores
use Rattle.transaction_defs.specs.Callees.{Verdict, new, again, stale, verdict, taken, kept_reply, keep}
use Rattle.unit_defs.specs.Ways.{Message, f1, e1, xn, core, rrc, Output, control, dropped, Way, Answer, gives, ◌then◌, drops}
use Rattle.unit_defs.specs.Transactions.{Kind, request, reply, transfer, kind_of, Transactions, replied, request_by, answered_again, on_request}
use Rattle.unit_defs.specs.Messages.{channel}
use Rattle.unit_defs.specs.Core.{CorePath, CoreRecord, end_of, old_ends, new_path, switch_path, asked, came, core_acts}
use Rattle.bearer_defs.specs.chain_defs.Models.{Item, end_marker as end_item, Member, Model}
use Rattle.bearer_defs.specs.chain_defs.Orders.{switches_path, after, run}
use Rattle.bearer_defs.specs.chain_defs.Assumptions.{IsReady, IsAssumed, AreKept}
use Rattle.proof_node_orders.specs.core_rows.Shown.{teids_of, Places, IsPath, is_new, Goal, if_own, goal_of, goal_if, goal_at, goal_by, to_first, orders_to, IsOne, items_put, IsAfter, Follows}

pub switch_kept : (sn : SnBits) (quota : ℕ) (s : Model) (to : ℕ) → IsAssumed s (switches_path to) → AreKept sn quota s (switches_path to ∷ [])
unfolding AreKept IsReady
switch_kept sn quota s to assumed = (tt, assumed, tt)

module _ {M C P : Type 0} (way : Way M C P) (places : Places) (ue : UeId) (bearer : BearerId) where
  -- ---- nothing changes

  rests : (r v : CoreRecord M C) (s : Model) (outputs : List (Output M P)) → IsPath places r ue bearer s
      → find ue_cmp v.paths ue ≡ find ue_cmp r.paths ue → ((x : ℕ) → items_put places ue bearer x outputs ≡ [])
      → IsAfter places ue bearer s s outputs v
  rests r v s outputs is same none_put = record {
    path = record { path = is.path; teid = is.teid; there = same ∙ is.there; one = is.one; place = is.place };
    n3 = λ x. sym (ap (λ xs. (s.members x).n3 ++ xs) (none_put x) ∙ append-nil (s.members x).n3);
  }

  -- ---- End Markers on the old tunnels

  other_ends : (other : UeId) (up : NodeId) (ts : List Tunnel) (x : ℕ) → eq_by_cmp ue_cmp ue other ≡ false
      → items_put places ue bearer x (map (end_of way other up) ts) ≡ []
  unfolding items_put
  other_ends other up [] x far = refl
  other_ends other up (t ∷ ts) x far =
      ap (λ b. (if b && eq_by_cmp bearer_cmp bearer t.bearer && x == places up t.teid then end_item ∷ [] else [])
      ++ items_put places ue bearer x (map (end_of way other up) ts)) far
      ∙ other_ends other up ts x far

  -- one for each tunnel of this bearer that ends at this context
  abbrev ends_at : NodeId → ℕ → List ℕ → List Item
  ends_at up x [] = []
  ends_at up x (teid ∷ teids) = (if x == places up teid then end_item ∷ [] else []) ++ ends_at up x teids

  own_ends : (other : UeId) (up : NodeId) (ts : List Tunnel) (x : ℕ) → eq_by_cmp ue_cmp ue other ≡ true
      → items_put places ue bearer x (map (end_of way other up) ts) ≡ ends_at up x (teids_of bearer ts)
  unfolding items_put
  own_ends other up [] x own = refl
  own_ends other up (t ∷ ts) x own =
      ap (λ b. (if b && eq_by_cmp bearer_cmp bearer t.bearer && x == places up t.teid then end_item ∷ [] else [])
      ++ items_put places ue bearer x (map (end_of way other up) ts)) own
      ∙ by (eq_by_cmp bearer_cmp bearer t.bearer) (own_ends other up ts x own)
    where
      by : (t1 : Bool) → items_put places ue bearer x (map (end_of way other up) ts) ≡ ends_at up x (teids_of bearer ts)
          → (if t1 && x == places up t.teid then end_item ∷ [] else []) ++ items_put places ue bearer x (map (end_of way other up) ts)
          ≡ ends_at up x ((if t1 then t.teid ∷ [] else []) ++ teids_of bearer ts)
      by true h = ap (λ xs. (if x == places up t.teid then end_item ∷ [] else []) ++ xs) h
      by false h = h

  -- ---- the path is switched

  switched : (s : Model) (to x : ℕ)
      → ((run s (switches_path to ∷ [])).members x).n3 ≡ (s.members x).n3 ++ (if x == s.path then end_item ∷ [] else [])
  unfolding run after
  switched s to x = by (x == s.path) refl
    where
      now : Member
      now = record (s.members s.path) { n3 = (s.members s.path).n3 ++ end_item ∷ [] }

      by : (t : Bool) → (x == s.path) ≡ t → (if t then now else s.members x).n3 ≡ (s.members x).n3 ++ (if t then end_item ∷ [] else [])
      by true e = ap (λ y. (s.members y).n3 ++ end_item ∷ []) (sym (eqb-true x s.path e))
      by false e = sym (append-nil (s.members x).n3)

  module _ (r : CoreRecord M C) (s : Model) (is : IsPath places r ue bearer s) where
    abbrev To : Option Goal → Answer M P (CoreRecord M C) → Type 0
    To goal a = Follows places ue bearer s (run s (orders_to places goal)) a

    -- ---- a request

    switch_follows : (ch : Channel) (other : UeId) (instance : ℕ) (peer : Peer) (n3 : List Tunnel) (t : Transactions M C)
        → IsOne (if_own (eq_by_cmp ue_cmp ue other) (record { up = CuUp peer.gnb peer.up; teids = teids_of bearer n3 }))
        → To (if_own (eq_by_cmp ue_cmp ue other) (record { up = CuUp peer.gnb peer.up; teids = teids_of bearer n3 }))
        (switch_path way ch other instance peer n3 (record r { transactions = t }))
    unfolding switch_path replied Follows items_put run after
    switch_follows ch other instance peer n3 t one = by (find ue_cmp r.paths other) refl (eq_by_cmp ue_cmp ue other) refl one
      where
        goal : Goal
        goal = record { up = CuUp peer.gnb peer.up; teids = teids_of bearer n3 }

        first : Output M P
        first = control ch.peer ch.ue (way.encode (core (cores.PathSwitchAcknowledge other instance)))

        v : CoreRecord M C
        v = record {
          paths = put ue_cmp r.paths other (new_path way peer n3);
          transactions = record t { callee = keep t.callee ch (way.encode (core (cores.PathSwitchAcknowledge other instance))) };
        }

        none_put : (o : Option CorePath) → eq_by_cmp ue_cmp ue other ≡ false → (x : ℕ) → items_put places ue bearer x (old_ends way other o) ≡ []
        none_put None far x = refl
        none_put (Some path) far x = other_ends other path.up path.n3 x far

        by : (o : Option CorePath) → find ue_cmp r.paths other ≡ o → (b : Bool) → eq_by_cmp ue_cmp ue other ≡ b → IsOne (if_own b goal)
            → IsAfter places ue bearer s (run s (orders_to places (if_own b goal))) (first ∷ old_ends way other o) v
        by o there false far one =
            rests r v s (first ∷ old_ends way other o) is (find-put-other ue_total r.paths other (new_path way peer n3) ue far) (none_put o far)
        by None there true own one =
            let name : ue ≡ other = ue_exact ue other ((Equal-is (ue_cmp ue other)).0 own) in
            let old : Some is.path ≡ None = sym is.there ∙ ap (find ue_cmp r.paths) name ∙ there in
            absurd cc
        by (Some path) there true own one =
            let name : ue ≡ other = ue_exact ue other ((Equal-is (ue_cmp ue other)).0 own) in
            let old : Some is.path ≡ Some path = sym is.there ∙ ap (find ue_cmp r.paths) name ∙ there in
            let same : is.path ≡ path = cc in
            subst (λ ts. IsAfter places ue bearer s (run s (to_first places goal.up ts)) (first ∷ old_ends way other (Some path)) v) (sym one.1)
            (record {
              path = record {
                path = new_path way peer n3;
                teid = one.0;
                there = ap (λ k. find ue_cmp (put ue_cmp r.paths other (new_path way peer n3)) k) name
                    ∙ find-put-same ue_total r.paths other (new_path way peer n3);
                one = one.1;
                place = refl;
              };
              n3 = λ x. switched s (places goal.up one.0) x
                  ∙ ap (λ xs. (s.members x).n3 ++ xs) (ap (λ y. if x == y then end_item ∷ [] else []) is.place
                  ∙ sym (append-nil (if x == places is.path.up is.teid then end_item ∷ [] else []))
                  ∙ sym (ap (λ p. items_put places ue bearer x (map (end_of way other p.up) p.n3)) (sym same)
                  ∙ own_ends other is.path.up is.path.n3 x own ∙ ap (ends_at is.path.up x) is.one));
            })

    stays : (outputs : List (Output M P)) (t : Transactions M C) → ((x : ℕ) → items_put places ue bearer x outputs ≡ [])
        → To None (gives outputs (record r { transactions = t }))
    unfolding Follows run
    stays outputs t none_put = rests r (record r { transactions = t }) s outputs is refl none_put

    drop_stays : (reason : DropReason) (t : Transactions M C) → To None (drops reason (record r { transactions = t }))
    unfolding items_put
    drop_stays reason t = stays (dropped reason ∷ []) t (λ x. refl)

    asked_follows : (ch : Channel) (message : Message C) (t : Transactions M C) → IsOne (goal_of ue bearer message)
        → To (goal_of ue bearer message) (asked way ch message (record r { transactions = t }))
    asked_follows ch (core (cores.PathSwitchRequest other instance peer n3)) t one = switch_follows ch other instance peer n3 t one
    asked_follows ch (core (cores.PathSwitchAcknowledge other instance)) t one = drop_stays Unexpected t
    asked_follows ch (f1 message) t one = drop_stays Unexpected t
    asked_follows ch (e1 message) t one = drop_stays Unexpected t
    asked_follows ch (xn message) t one = drop_stays Unexpected t
    asked_follows ch (rrc token) t one = drop_stays Unexpected t

    came_follows : (from : NodeId) (message : Message C) (kind : Kind) → IsOne (goal_at ue bearer r from message kind)
        → To (goal_at ue bearer r from message kind) (came way from message r kind)
    unfolding on_request items_put
    came_follows from message (request other instance) one = by (verdict r.transactions.callee (channel other from) instance) one
      where
        again_stays : (o : Option M) → To None (answered_again way r (channel other from) o)
        again_stays None = stays [] r.transactions (λ x. refl)
        again_stays (Some m) = stays (control from other m ∷ []) r.transactions (λ x. refl)

        by : (v : Verdict) → IsOne (goal_if (is_new v) (goal_of ue bearer message)) → To (goal_if (is_new v) (goal_of ue bearer message))
            (request_by way r r.transactions (channel other from) instance (λ t. asked way (channel other from) message (record r { transactions = t })) v)
        by new h = asked_follows (channel other from) message (record r.transactions { callee = taken r.transactions.callee (channel other from) instance }) h
        by again h = again_stays (kept_reply r.transactions.callee (channel other from))
        by stale h = drop_stays Stale r.transactions
    came_follows from message (reply other instance) one = drop_stays Unexpected r.transactions
    came_follows from message (transfer other) one = drop_stays Unexpected r.transactions

    pub control_message_follows : (from : NodeId) (message : Message C) → IsOne (goal_by ue bearer r from message)
        → To (goal_by ue bearer r from message) (core_acts way r from message)
    unfolding core_acts
    control_message_follows (CuCp gnb) message one = came_follows (CuCp gnb) message (kind_of message) one
    control_message_follows (CuUp gnb number) message one = drop_stays Unexpected r.transactions
    control_message_follows (Du gnb number) message one = drop_stays Unexpected r.transactions
    control_message_follows Core message one = drop_stays Unexpected r.transactions
    control_message_follows (Ue from) message one = drop_stays Unexpected r.transactions

-- What the orders of a bearer put on a DU's tunnel.
use Rattle.std.proofs.Common.{◌≡◌, true, false, List, [], ◌∷◌, ◌++◌, Option, Some, None, refl, sym, ap, subst, ◌∙◌}
use Rattle.std.specs.Prelude.{if◌then◌else◌}
use Rattle.std.specs.List.{AllByRecursion}
use Rattle.gnb_types.specs.declared.names.UeId.{UeId}
use Rattle.gnb_types.specs.declared.names.BearerId.{BearerId}
use Rattle.gnb_types.specs.declared.keys.TunnelEnd.{TunnelEnd}
use Rattle.message_types.specs.declared.rrc.Token.{Token}
use Rattle.unit_defs.specs.CuUpBearers.{with_uplink, switched, frozen_to, with_status, resumed, framed}
use Rattle.unit_defs.specs.CuUpItems.{took}
use Rattle.unit_defs.specs.CuUpRecords.{CuUpBearer}
use Rattle.gnb_types.specs.declared.outputs.Tag.TheVariants.{Absent}
use Rattle.unit_defs.specs.Ways.{Message, Pdu, Answer, gives, spent, with_outputs, ◌then◌}
use Rattle.intervals.proofs.Intervals.{all_append}
use Rattle.proof_cu_up_orders.specs.frame_rows.Sent.{sent_by}
use Rattle.proof_cu_up_orders.specs.frame_rows.Shown.{end_of, PutsSent}
use Rattle.proof_cu_up_orders.proofs.frame_rows.Rows.{order_puts as order_sends}
use Rattle.proof_cu_up_orders.proofs.bearer_lists.Hops.{order_puts}
use Rattle.proof_cu_up_orders.specs.bearer_lists.Puts.{hop_after, AreOwnPuts, PutsOwn}
use Rattle.proof_cu_up_orders.specs.bearer_orders.Happenings.{kept_of}
use Rattle.proof_cu_up_orders.specs.context_orders.Orders.{CuUpModel, ContextStep, makes, adds, switches, freezes, knows, resumes, releases, closes, takes, polls, on_switch, on_freeze, on_status, on_resume, kept_in, begun, done, carried}
use Rattle.run_defs.specs.Runs.{plain_way}
use Rattle.proof_bearer_refinement.proofs.refinement_facts.Puts.{Outs, IsOwn, own_puts}
use Rattle.proof_bearer_refinement.specs.f1u_frames.Frames.{frames_by, frames_sent}
use Rattle.proof_bearer_refinement.proofs.f1u_frames.Puts.{frames_to, frames_more, pick, picked, picked_none, picked_sent}

abbrev pub Row : Type 0
Row = Answer (Message Token) Pdu (Option CuUpModel)

module _ (end : TunnelEnd) (ue : UeId) (bearer : BearerId) where
  -- ---- one order

  pub one_sent : (p : CuUpModel) (order : ContextStep Pdu) (a : Row) → PutsSent plain_way p.at.sn (sent_by p order) a → (os : Outs) (q : Option CuUpModel)
      → a ≡ gives os q → frames_to end os ≡ frames_by end (sent_by p order) a
  one_sent p order a h os q is = by q (subst (λ (b : Row). PutsSent plain_way p.at.sn (sent_by p order) b) is h) ∙ ap (frames_by end (sent_by p order)) (sym is)
    where
      by : (q : Option CuUpModel) → PutsSent plain_way p.at.sn (sent_by p order) (gives os q) → frames_to end os ≡ frames_by end (sent_by p order) (gives os q)
      by None h = picked end os ∙ ap (pick end) h ∙ picked_none end
      by (Some q) h = picked end os ∙ ap (pick end) h.0 ∙ picked_sent end p.at.sn (end_of q.bearer.downlink) (sent_by p order).frames

  -- ---- a bearer's names stay

  abbrev pub IsNamed : Option CuUpModel → Type 0
  IsNamed None = Unit {0}
  IsNamed (Some p) = (p.at.ue ≡ ue) × (p.at.bearer ≡ bearer)

  abbrev pub StaysNamed : Row → Type 0
  StaysNamed (gives os q) = IsNamed q
  StaysNamed (spent k) = Unit {0}

  kept_named : (q : CuUpModel) (a : Answer (Message Token) Pdu CuUpBearer) → IsNamed (Some q) → StaysNamed (kept_in q a)
  kept_named q (gives os b) h = h
  kept_named q (spent k) h = tt

  pub done_named : (p : CuUpModel) → IsNamed (Some p) → (order : ContextStep Pdu) → StaysNamed (done plain_way order p)
  done_named p h (makes instance sn quota target teid) = h
  done_named p h (adds teid) = kept_named p (with_uplink plain_way teid p.bearer) h
  done_named p h (switches du teid) = kept_named (on_switch p) (switched plain_way (on_switch p).at du teid p.bearer) h
  done_named p h (freezes peer down up) = kept_named (on_freeze p) (frozen_to plain_way (on_freeze p).at peer down up p.bearer) h
  done_named p h (knows status) = kept_named (on_status p) (with_status plain_way (on_status p).at status p.bearer) h
  done_named p h resumes = kept_named (on_resume p) (resumed plain_way (on_resume p).at p.bearer) h
  done_named p h releases = h
  done_named p h closes = tt
  done_named p h (takes kind teid item) = kept_named p (took plain_way p.at kind teid item p.bearer) h
  done_named p h polls = kept_named p (framed plain_way p.at true false None Absent p.bearer) h

  begun_named : (order : ContextStep Pdu) → IsNamed (begun ue bearer order)
  begun_named (makes instance sn quota target teid) = (refl, refl)
  begun_named (adds teid) = tt
  begun_named (switches du teid) = tt
  begun_named (freezes peer down up) = tt
  begun_named (knows status) = tt
  begun_named resumes = tt
  begun_named releases = tt
  begun_named closes = tt
  begun_named (takes kind teid item) = tt
  begun_named polls = tt

  own_row : (p : CuUpModel) → IsNamed (Some p) → (order : ContextStep Pdu) (a : Row) → PutsOwn p order a → (os : Outs) (q : Option CuUpModel) → a ≡ gives os q
      → AllByRecursion (IsOwn end ue bearer) os
  own_row p h order a own os q is = by q (subst (λ (b : Row). PutsOwn p order b) is own)
    where
      named : AreOwnPuts p.at.ue p.at.bearer (hop_after p order) os → AreOwnPuts ue bearer (hop_after p order) os
      named k = subst (λ (u : UeId). AreOwnPuts u bearer (hop_after p order) os) h.0 (subst (λ (c : BearerId). AreOwnPuts p.at.ue c (hop_after p order) os) h.1 k)

      by : (q : Option CuUpModel) → PutsOwn p order (gives os q) → AllByRecursion (IsOwn end ue bearer) os
      by None k = own_puts end ue bearer (hop_after p order) os (named k)
      by (Some q) k = own_puts end ue bearer (hop_after p order) os (named k.0)

  -- ---- one after another

  pub all_sent : (orders : List (ContextStep Pdu)) (p : Option CuUpModel) → IsNamed p → (more : Outs) (q : Option CuUpModel) → carried plain_way ue bearer orders p ≡ gives more q
      → (frames_to end more ≡ frames_sent end ue bearer orders p) × AllByRecursion (IsOwn end ue bearer) more
  unfolding frames_sent
  all_sent [] p h more q is = (ap (λ (os : Outs). frames_to end os) (sym none), subst (λ (os : Outs). AllByRecursion (IsOwn end ue bearer) os) none tt)
    where
      none : [] ≡ more
      none = cc
  all_sent (order ∷ orders) None h more q is =
      nothing_first (carried plain_way ue bearer orders (begun ue bearer order)) (all_sent orders (begun ue bearer order) (begun_named order)) is
    where
      nothing_first : (a : Row)
          → ((more : Outs) (q : Option CuUpModel) → a ≡ gives more q
          → (frames_to end more ≡ frames_sent end ue bearer orders (begun ue bearer order)) × AllByRecursion (IsOwn end ue bearer) more)
          → with_outputs [] a ≡ gives more q
          → (frames_to end more ≡ frames_sent end ue bearer orders (begun ue bearer order)) × AllByRecursion (IsOwn end ue bearer) more
      nothing_first (gives os r) k e = k more q e
      nothing_first (spent n) k e = absurd cc
  all_sent (order ∷ orders) (Some p) h more q is =
      by (done plain_way order p) refl (done_named p h order) (order_sends plain_way p order) (order_puts plain_way p order) (λ r k. all_sent orders r k) is
    where
      then_more : (a : Row) (os : Outs) (r : Option CuUpModel) → done plain_way order p ≡ gives os r → (frames_to end os ≡ frames_by end (sent_by p order) (done plain_way order p))
          → AllByRecursion (IsOwn end ue bearer) os
          → ((others : Outs) (q : Option CuUpModel) → a ≡ gives others q
          → (frames_to end others ≡ frames_sent end ue bearer orders r) × AllByRecursion (IsOwn end ue bearer) others)
          → with_outputs os a ≡ gives more q
          → (frames_to end more ≡ frames_by end (sent_by p order) (done plain_way order p) ++ frames_sent end ue bearer orders (kept_of (Some p) (done plain_way order p)))
          × AllByRecursion (IsOwn end ue bearer) more
      then_more (spent n) os r at first own k e = absurd cc
      then_more (gives others r2) os r at first own k e =
          let both : os ++ others ≡ more = cc in
          let rest = k others r2 refl in (
            ap (λ (zs : Outs). frames_to end zs) (sym both) ∙ frames_more end os others
                ∙ (λ i. first i ++ (rest.0 ∙ ap (λ (b : Row). frames_sent end ue bearer orders (kept_of (Some p) b)) (sym at)) i),
            subst (λ (zs : Outs). AllByRecursion (IsOwn end ue bearer) zs) both (all_append (IsOwn end ue bearer) os others own rest.1),
          )

      by : (a : Row) → done plain_way order p ≡ a → StaysNamed (done plain_way order p) → PutsSent plain_way p.at.sn (sent_by p order) (done plain_way order p)
          → PutsOwn p order (done plain_way order p)
          → ((r : Option CuUpModel) → IsNamed r → (others : Outs) (q : Option CuUpModel) → carried plain_way ue bearer orders r ≡ gives others q
          → (frames_to end others ≡ frames_sent end ue bearer orders r) × AllByRecursion (IsOwn end ue bearer) others)
          → (a then carried plain_way ue bearer orders) ≡ gives more q
          → (frames_to end more ≡ frames_by end (sent_by p order) (done plain_way order p) ++ frames_sent end ue bearer orders (kept_of (Some p) (done plain_way order p)))
          × AllByRecursion (IsOwn end ue bearer) more
      by (spent n) at named sends own k e = absurd cc
      by (gives os r) at named sends own k e =
          then_more (carried plain_way ue bearer orders r) os r at (one_sent p order (done plain_way order p) sends os r at)
          (own_row p h order (done plain_way order p) own os r at) (k r (subst (λ (b : Row). StaysNamed b) at named)) e

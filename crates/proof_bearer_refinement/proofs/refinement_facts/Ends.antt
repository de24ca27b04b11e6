-- Whose an open TEID of a CU-UP is, and that a step neither opens nor closes a tunnel that was open before and is open after it.
use Rattle.std.proofs.Common.{inl, inr, ◌≡◌, ◌≢◌, ◌⊎◌, ◌≤◌, ◌==◌, ℕ, zero, suc, ◌+◌, ◌-◌, nat_le, Bool, true, false, not, ◌&&◌, ◌||◌, List, [], ◌∷◌, length, map, Option, Some, None, refl, sym, ap, subst, ◌∙◌, eqb-true, true≢false, arith}
use Rattle.std.specs.Prelude.{if◌then◌else◌, is_some}
use Rattle.std.specs.List.{AllByRecursion}
use Rattle.std.specs.Ordering.{nat_cmp, eq_by_cmp}
use Rattle.std.specs.Cmp.{Equal-is}
use Rattle.gnb_types.specs.declared.names.NodeId.{NodeId}
use Rattle.gnb_types.specs.declared.names.UeId.{UeId}
use Rattle.gnb_types.specs.declared.names.BearerId.{BearerId}
use Rattle.gnb_types.specs.declared.keys.TunnelEnd.{TunnelEnd}
use Rattle.gnb_types.specs.Orders.{ue_cmp, bearer_cmp, node_cmp}
use Rattle.gnb_types.proofs.OrderLemmas.{ue_exact, bearer_exact}
use Rattle.tables.specs.Tables.{find}
use Rattle.message_types.specs.declared.rrc.Token.{Token}
use Rattle.unit_defs.specs.Teids.{last_teid}
use Rattle.unit_defs.specs.Ways.{Message, Load, Pdu, control, packet, radio, deliver, dropped, held, opened, closed, failed, no, Input, Output, gives}
use Rattle.unit_defs.specs.CuUpRecords.{CuUpBearer, CuUpContext, CuUpTunnel, TunnelKind, n3, f1u_uplink, forwarding_down, forwarding_up}
use Rattle.unit_defs.specs.CuUpBearers.{teid_in, is_one_of}
use Rattle.unit_defs.specs.CuUp.{cu_up_acts}
use Rattle.run_defs.specs.States.{Lengths}
use Rattle.run_defs.specs.Written.{Written, written_put}
use Rattle.run_defs.specs.Runs.{plain_way}
use Rattle.proof_cu_up_orders.specs.context_orders.Orders.{CuUpModel, model_with, model_of_bearer, model_in, model_of}
use Rattle.proof_cu_up_orders.specs.context_orders.Shown.{is_bearer}
use Rattle.law_tunnels_are_owned.specs.owner_facts.Owned.{ends_of, has_end, up_context_names, CuUpOwns}
use Rattle.law_tunnels_are_owned.proofs.owner_facts.Owners.{first_of, second_of}
use Rattle.law_tunnels_are_owned.proofs.owner_facts.UpContexts.{one_is}
use Rattle.proof_run_steps.specs.teids.Given.{opened_by, count_from, GivesNext, below, GivesTeids}
use Rattle.proof_run_steps.proofs.teids.CuUps.{cu_up_gives}
use Rattle.law_tunnels_are_owned.specs.open_tunnels.Open.{open_after, ShowsFrom}
use Rattle.law_tunnels_are_owned.proofs.open_tunnels.CuUps.{cu_up_fits}
use Rattle.law_tunnels_are_owned.proofs.open_tunnels.Links.{end_of, same_end, differs}
use Rattle.proof_run_steps.specs.tunnel_steps.Standing.{is_end, Leaves}
use Rattle.proof_bearer_refinement.specs.run_unit_inputs.Happenings.{CuUpRecord}

pub clash : {X : Type 0} → false ≡ true → X
clash e = absurd (true≢false (sym e))

-- ---- the bearer that an open TEID is of

pub record IsOwner (r : CuUpRecord) (ue : UeId) (bearer : BearerId) (teid : ℕ) (t : CuUpTunnel) : Type 0 where
  pub part : CuUpModel
  pub its_context : CuUpContext
  pub its_bearer : CuUpBearer
  pub context_there : find ue_cmp r.contexts ue ≡ Some its_context
  pub bearer_there : find bearer_cmp its_context.bearers bearer ≡ Some its_bearer
  pub there : model_of r ue bearer ≡ Some part
  pub context : part.instance ≡ t.context
  pub has : is_one_of (ends_of t.kind part.bearer) teid ≡ true

pub owner_is : (r : CuUpRecord) → CuUpOwns r → (ue : UeId) (bearer : BearerId) (teid : ℕ) (t : CuUpTunnel) → find nat_cmp r.tunnels teid ≡ Some t
    → is_bearer ue bearer t.ue t.bearer ≡ true → IsOwner r ue bearer teid t
owner_is r owns ue bearer teid t found own = by_context (find ue_cmp r.contexts ue) refl named
  where
    same_ue : ue ≡ t.ue
    same_ue = ue_exact ue t.ue ((Equal-is (ue_cmp ue t.ue)).0 (first_of (eq_by_cmp ue_cmp ue t.ue) (eq_by_cmp bearer_cmp bearer t.bearer) own))

    same_bearer : bearer ≡ t.bearer
    same_bearer =
        bearer_exact bearer t.bearer ((Equal-is (bearer_cmp bearer t.bearer)).0 (second_of (eq_by_cmp ue_cmp ue t.ue) (eq_by_cmp bearer_cmp bearer t.bearer) own))

    named : up_context_names t teid (find ue_cmp r.contexts ue) ≡ true
    named = ap (λ (u : UeId). up_context_names t teid (find ue_cmp r.contexts u)) same_ue ∙ owns.0.named teid t found

    by_bearer : (c : CuUpContext) → find ue_cmp r.contexts ue ≡ Some c → (c.instance == t.context) ≡ true → (o : Option CuUpBearer)
        → find bearer_cmp c.bearers bearer ≡ o → has_end t.kind teid o ≡ true → IsOwner r ue bearer teid t
    by_bearer c at instance None there has = clash has
    by_bearer c at instance (Some b) there has = record {
      part = model_with ue c bearer b;
      its_context = c;
      its_bearer = b;
      context_there = at;
      bearer_there = there;
      there = ap (model_in ue bearer) at ∙ ap (model_of_bearer ue c bearer) there;
      context = eqb-true c.instance t.context instance;
      has = has;
    }

    by_context : (o : Option CuUpContext) → find ue_cmp r.contexts ue ≡ o → up_context_names t teid o ≡ true → IsOwner r ue bearer teid t
    by_context None at h = clash h
    by_context (Some c) at h =
        by_bearer c at (first_of (c.instance == t.context) (has_end t.kind teid (find bearer_cmp c.bearers t.bearer)) h) (find bearer_cmp c.bearers bearer) refl
        (ap (λ (k : BearerId). has_end t.kind teid (find bearer_cmp c.bearers k)) same_bearer
        ∙ second_of (c.instance == t.context) (has_end t.kind teid (find bearer_cmp c.bearers t.bearer)) h)

-- ---- of N3 and forwarding a bearer has one tunnel at most

abbrev pub Differs : TunnelKind → ℕ → TunnelKind → ℕ → Type 0
Differs n3 a n3 b = ⊥
Differs forwarding_down a forwarding_down b = ⊥
Differs forwarding_up a forwarding_up b = ⊥
Differs f1u_uplink a f1u_uplink b = b ≢ a
Differs kind a other b = Unit {0}

one_only : (o : Option ℕ) (a b : ℕ) → is_one_of (teid_in o) a ≡ true → is_one_of (teid_in o) b ≡ true → b ≡ a
one_only None a b p q = clash p
one_only (Some teid) a b p q = sym (one_is teid b q) ∙ one_is teid a p

pub they_differ : (b : CuUpBearer) (kind other : TunnelKind) (a c : ℕ) → is_one_of (ends_of kind b) a ≡ true → is_one_of (ends_of other b) c ≡ true
    → c ≢ a → Differs kind a other c
they_differ b n3 n3 a c p q far = absurd (far (one_only b.n3 a c p q))
they_differ b forwarding_down forwarding_down a c p q far = absurd (far (one_only b.forward_down a c p q))
they_differ b forwarding_up forwarding_up a c p q far = absurd (far (one_only b.forward_up a c p q))
they_differ b f1u_uplink f1u_uplink a c p q far = far
they_differ b n3 f1u_uplink a c p q far = tt
they_differ b n3 forwarding_down a c p q far = tt
they_differ b n3 forwarding_up a c p q far = tt
they_differ b f1u_uplink n3 a c p q far = tt
they_differ b f1u_uplink forwarding_down a c p q far = tt
they_differ b f1u_uplink forwarding_up a c p q far = tt
they_differ b forwarding_down n3 a c p q far = tt
they_differ b forwarding_down f1u_uplink a c p q far = tt
they_differ b forwarding_down forwarding_up a c p q far = tt
they_differ b forwarding_up n3 a c p q far = tt
they_differ b forwarding_up f1u_uplink a c p q far = tt
they_differ b forwarding_up forwarding_down a c p q far = tt

-- ---- which outputs leave a tunnel

and_false : (a b : Bool) → b ≡ false → a && b ≡ false
and_false true b e = e
and_false false b e = refl

abbrev NotOpened : ℕ → Output (Message Token) Pdu → Type 0
NotOpened teid (opened t) = (t == teid) ≡ false
NotOpened teid output = Unit {0}

each_opened : (teid : ℕ) (os : List (Output (Message Token) Pdu)) → AllByRecursion (λ (t : ℕ). (t == teid) ≡ false) (opened_by os)
    → AllByRecursion (NotOpened teid) os
each_opened teid [] all = tt
each_opened teid (opened t ∷ os) all = (all.0, each_opened teid os all.1)
each_opened teid (control to ue message ∷ os) all = (tt, each_opened teid os all)
each_opened teid (packet to t ue bearer dir tag load ∷ os) all = (tt, each_opened teid os all)
each_opened teid (radio ue bearer dir epoch tag pdu ∷ os) all = (tt, each_opened teid os all)
each_opened teid (deliver ue bearer dir count p ∷ os) all = (tt, each_opened teid os all)
each_opened teid (dropped reason ∷ os) all = (tt, each_opened teid os all)
each_opened teid (held reason ∷ os) all = (tt, each_opened teid os all)
each_opened teid (closed t ∷ os) all = (tt, each_opened teid os all)
each_opened teid (failed ue cause ∷ os) all = (tt, each_opened teid os all)
each_opened teid (no reason ∷ os) all = (tt, each_opened teid os all)

above : (teid first count : ℕ) → teid + 1 ≤ first → AllByRecursion (λ (t : ℕ). (t == teid) ≡ false) (count_from first count)
above teid first zero low = tt
above teid first (suc more) low = (apart first low, above teid (first + 1) more (omega (arith, low)))
  where
    apart : (first : ℕ) → teid + 1 ≤ first → (first == teid) ≡ false
    apart first low = by (first == teid) refl
      where
        by : (b : Bool) → (first == teid) ≡ b → b ≡ false
        by true e = let same : first ≡ teid = eqb-true first teid e in absurd (omega (arith, low, same))
        by false e = refl

none_opened : (next teid : ℕ) (teids : List ℕ) (after : ℕ) → teid + 1 ≤ below next → GivesNext next teids after
    → AllByRecursion (λ (t : ℕ). (t == teid) ≡ false) teids
none_opened next teid teids after low (are, inl none) = subst (AllByRecursion (λ (t : ℕ). (t == teid) ≡ false)) (sym none.0) tt
none_opened next teid teids after low (are, inr left) =
    subst (AllByRecursion (λ (t : ℕ). (t == teid) ≡ false)) (sym are) (above teid next (length teids) (by (next == 0) refl))
  where
    by : (b : Bool) → (next == 0) ≡ b → teid + 1 ≤ next
    by true e = clash (sym (ap (λ (b : Bool). not b && nat_le (next + length teids - 1) last_teid) e) ∙ left.0)
    by false e = subst (λ (b : Bool). teid + 1 ≤ (if b then last_teid + 1 else next)) e low

stays_shut : (teid : ℕ) (os : List (Output (Message Token) Pdu)) → AllByRecursion (NotOpened teid) os → open_after teid os false ≡ false
stays_shut teid [] all = refl
stays_shut teid (opened t ∷ os) all = ap (λ (b : Bool). open_after teid os (b || false)) all.0 ∙ stays_shut teid os all.1
stays_shut teid (closed t ∷ os) all = ap (open_after teid os) (and_false (not (t == teid)) false refl) ∙ stays_shut teid os all.1
stays_shut teid (control to ue message ∷ os) all = stays_shut teid os all.1
stays_shut teid (packet to t ue bearer dir tag load ∷ os) all = stays_shut teid os all.1
stays_shut teid (radio ue bearer dir epoch tag pdu ∷ os) all = stays_shut teid os all.1
stays_shut teid (deliver ue bearer dir count p ∷ os) all = stays_shut teid os all.1
stays_shut teid (dropped reason ∷ os) all = stays_shut teid os all.1
stays_shut teid (held reason ∷ os) all = stays_shut teid os all.1
stays_shut teid (failed ue cause ∷ os) all = stays_shut teid os all.1
stays_shut teid (no reason ∷ os) all = stays_shut teid os all.1

module _ (node : NodeId) (teid : ℕ) where
  not_here : (t : ℕ) → (t == teid) ≡ false → is_end (end_of node teid) node t ≡ false
  not_here t e = same_end node node teid t ∙ and_false (eq_by_cmp node_cmp node node) (t == teid) e

  all_leave : (os : List (Output (Message Token) Pdu)) → AllByRecursion (NotOpened teid) os → open_after teid os true ≡ true
      → AllByRecursion (Leaves (end_of node teid) node) os
  all_leave [] all is = tt
  all_leave (opened t ∷ os) all is = (not_here t all.0, all_leave os all.1 (sym (ap (λ (b : Bool). open_after teid os (b || true)) all.0) ∙ is))
  all_leave (closed t ∷ os) all is = by (t == teid) refl (all_leave os all.1)
    where
      by : (b : Bool) → (t == teid) ≡ b → (open_after teid os true ≡ true → AllByRecursion (Leaves (end_of node teid) node) os)
          → AllByRecursion (Leaves (end_of node teid) node) (closed t ∷ os)
      by true e again = clash (sym (ap (λ (b : Bool). open_after teid os (not b && true)) e ∙ stays_shut teid os all.1) ∙ is)
      by false e again = (not_here t e, again (sym (ap (λ (b : Bool). open_after teid os (not b && true)) e) ∙ is))
  all_leave (control to ue message ∷ os) all is = (tt, all_leave os all.1 is)
  all_leave (packet to t ue bearer dir tag load ∷ os) all is = (tt, all_leave os all.1 is)
  all_leave (radio ue bearer dir epoch tag pdu ∷ os) all is = (tt, all_leave os all.1 is)
  all_leave (deliver ue bearer dir count p ∷ os) all is = (tt, all_leave os all.1 is)
  all_leave (dropped reason ∷ os) all is = (tt, all_leave os all.1 is)
  all_leave (held reason ∷ os) all is = (tt, all_leave os all.1 is)
  all_leave (failed ue cause ∷ os) all is = (tt, all_leave os all.1 is)
  all_leave (no reason ∷ os) all is = (tt, all_leave os all.1 is)

-- another node's tunnels
pub others_leave : (end : TunnelEnd) (node : NodeId) → (end.node ≡ node → ⊥) → (os : List (Output (Message Token) Pdu)) → AllByRecursion (Leaves end node) os
others_leave end node far os = all os
  where
    not_there : (t : ℕ) → is_end end node t ≡ false
    not_there t = same_end end.node node end.teid t ∙ ap (λ (b : Bool). b && (t == end.teid)) (differs end.node node far)

    all : (os : List (Output (Message Token) Pdu)) → AllByRecursion (Leaves end node) os
    all [] = tt
    all (opened t ∷ os) = (not_there t, all os)
    all (closed t ∷ os) = (not_there t, all os)
    all (control to ue message ∷ os) = (tt, all os)
    all (packet to t ue bearer dir tag load ∷ os) = (tt, all os)
    all (radio ue bearer dir epoch tag pdu ∷ os) = (tt, all os)
    all (deliver ue bearer dir count p ∷ os) = (tt, all os)
    all (dropped reason ∷ os) = (tt, all os)
    all (held reason ∷ os) = (tt, all os)
    all (failed ue cause ∷ os) = (tt, all os)
    all (no reason ∷ os) = (tt, all os)

-- the same as it stands on links
pub written_leaves : (lengths : Lengths) (end : TunnelEnd) (node : NodeId) (os : List (Output (Message Token) Pdu)) → AllByRecursion (Leaves end node) os
    → AllByRecursion (Leaves {L = Written (Load Pdu)} {P = Written Pdu} end node) (map (written_put lengths) os)
written_leaves lengths end node [] all = tt
written_leaves lengths end node (opened t ∷ os) all = (all.0, written_leaves lengths end node os all.1)
written_leaves lengths end node (closed t ∷ os) all = (all.0, written_leaves lengths end node os all.1)
written_leaves lengths end node (control to ue message ∷ os) all = (tt, written_leaves lengths end node os all.1)
written_leaves lengths end node (packet to t ue bearer dir tag load ∷ os) all = (tt, written_leaves lengths end node os all.1)
written_leaves lengths end node (radio ue bearer dir epoch tag pdu ∷ os) all = (tt, written_leaves lengths end node os all.1)
written_leaves lengths end node (deliver ue bearer dir count p ∷ os) all = (tt, written_leaves lengths end node os all.1)
written_leaves lengths end node (dropped reason ∷ os) all = (tt, written_leaves lengths end node os all.1)
written_leaves lengths end node (held reason ∷ os) all = (tt, written_leaves lengths end node os all.1)
written_leaves lengths end node (failed ue cause ∷ os) all = (tt, written_leaves lengths end node os all.1)
written_leaves lengths end node (no reason ∷ os) all = (tt, written_leaves lengths end node os all.1)

-- ---- a tunnel of the CU-UP that acts, which was open and is open

abbrev pub open_is : (r v : CuUpRecord) (teid : ℕ) (a b : CuUpTunnel) → Type 0
open_is r v teid a b = (find nat_cmp r.tunnels teid ≡ Some a) × (find nat_cmp v.tunnels teid ≡ Some b)

pub own_leave : (node : NodeId) (r v : CuUpRecord) (input : Input Token Pdu) (os : List (Output (Message Token) Pdu)) (teid : ℕ) (a b : CuUpTunnel) → CuUpOwns r
    → cu_up_acts plain_way r input ≡ gives os v → open_is r v teid a b → (a ≡ b) × AllByRecursion (Leaves (end_of node teid) node) os
own_leave node r v input os teid a b owns at (was, is) = (same, all_leave node teid os none open_still)
  where
    given : GivesTeids (λ (u : CuUpRecord). u.next_teid) (λ (u : CuUpRecord). u.tunnels) r (gives os v)
    given = subst (GivesTeids (λ (u : CuUpRecord). u.next_teid) (λ (u : CuUpRecord). u.tunnels) r) at (cu_up_gives plain_way r input)

    shows : ShowsFrom (λ (u : CuUpRecord). u.tunnels) r.tunnels (gives os v)
    shows = subst (ShowsFrom (λ (u : CuUpRecord). u.tunnels) r.tunnels) at (cu_up_fits plain_way r input)

    low : teid + 1 ≤ below r.next_teid
    low = owns.2 teid a was

    same : a ≡ b
    same = by (given.1.1 teid b is)
      where
        by : (find nat_cmp r.tunnels teid ≡ Some b) ⊎ ((below r.next_teid ≤ teid) × (teid + 1 ≤ below v.next_teid)) → a ≡ b
        by (inl before) = let both : Some a ≡ Some b = sym was ∙ before in cc
        by (inr new) = absurd (omega (arith, low, new.0))

    none : AllByRecursion (NotOpened teid) os
    none = each_opened teid os (none_opened r.next_teid teid (opened_by os) v.next_teid low given.0)

    open_still : open_after teid os true ≡ true
    open_still =
        sym (ap (λ (o : Option CuUpTunnel). open_after teid os (is_some o)) was) ∙ sym (shows teid) ∙ ap (λ (o : Option CuUpTunnel). is_some o) is

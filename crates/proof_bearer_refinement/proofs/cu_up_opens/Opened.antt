-- A tunnel that a step of a CU-UP opens for the bearer: nothing stands there after the step, and it is of a context that the step makes, or
-- an uplink that it adds.
use Rattle.std.proofs.Common.{inl, inr, ◌≡◌, ◌⊎◌, ◌≤◌, ◌==◌, ℕ, ◌+◌, Bool, true, false, cond, not, ◌&&◌, ◌||◌, List, [], ◌∷◌, ◌++◌, filter, map, Option, Some, None, refl, sym, ap, subst, ◌∙◌, arith}
use Rattle.std.specs.Prelude.{is_some, unwrap_or, if◌then◌else◌}
use Rattle.std.specs.List.{AllByRecursion}
use Rattle.std.specs.Ordering.{nat_cmp, is_eq, eq_by_cmp}
use Rattle.std.specs.Cmp.{Equal-is, tied_itself}
use Rattle.gnb_types.specs.declared.names.Gnb.{Gnb}
use Rattle.gnb_types.specs.declared.names.NodeId.{NodeId}
use Rattle.gnb_types.specs.declared.names.NodeId.TheVariants.{CuCp, CuUp as up_id, Du, Core, Ue}
use Rattle.gnb_types.specs.declared.names.UeId.{UeId}
use Rattle.gnb_types.specs.declared.names.BearerId.{BearerId}
use Rattle.gnb_types.specs.declared.keys.TunnelEnd.{TunnelEnd}
use Rattle.gnb_types.specs.declared.outputs.Tag.TheVariants.{Absent}
use Rattle.gnb_types.specs.Orders.{ue_cmp, bearer_cmp, node_cmp, tunnel_cmp}
use Rattle.gnb_types.proofs.OrderLemmas.{node_total, node_exact, tunnel_exact}
use Rattle.tables.specs.Tables.{find, at}
use Rattle.tables.proofs.TableLaws.{at-put}
use Rattle.message_types.specs.declared.rrc.Token.{Token}
use Rattle.unit_defs.specs.Ways.{Message, Pdu, control, packet, radio, deliver, dropped, held, opened, closed, failed, no, Put, Input, Answer, gives, spent, nothing, ◌then◌}
use Rattle.unit_defs.specs.CuUpRecords.{CuUpBearer, CuUpContext, CuUpTunnel, TunnelKind, n3, f1u_uplink, forwarding_down, forwarding_up}
use Rattle.unit_defs.specs.CuUpBearers.{teid_in, is_one_of, released, with_uplink, switched, frozen_to, with_status, resumed, framed}
use Rattle.unit_defs.specs.CuUpItems.{took}
use Rattle.unit_defs.specs.CuUp.{new_cu_up, cu_up_acts}
use Rattle.proof_run_steps.specs.teids.Given.{below, GivesTeids}
use Rattle.proof_run_steps.proofs.teids.CuUps.{cu_up_gives}
use Rattle.proof_run_steps.proofs.teids.Bearers.{closed_by, Ends, ends, without_n3, without_uplink, Stays, Took, poll_stays, switched_stays, frozen_stays, status_stays, resumed_stays, item_took}
use Rattle.proof_cu_up_orders.specs.context_tests.Tests.{is_final, EndsAfter, AreTested}
use Rattle.proof_cu_up_orders.proofs.context_tests.Tests.{orders_tested}
use Rattle.proof_cu_up_orders.proofs.context_rows.Rows.{all_does, follows}
use Rattle.transport_defs.specs.declared.Item.{Item}
use Rattle.run_defs.specs.Lines.{RunLine}
use Rattle.run_defs.specs.Units.{cu_up_of, with_cu_up}
use Rattle.run_defs.specs.Written.{Written, written_put}
use Rattle.run_defs.specs.States.{Lengths, sn_of, entity}
use Rattle.run_defs.specs.Steps.{count_beside}
use Rattle.run_defs.specs.Runs.{Reading, plain_world, plain_way}
use Rattle.proof_run_steps.specs.steps.Causes.{by_order, by_tick, by_octets, by_octets_on, by_attach, by_release, by_offer, by_item, by_air, by_ack, by_control_message, node_of, count_of}
use Rattle.proof_run_steps.proofs.steps.Frames.{HasUnits, units_by, act_units}
use Rattle.proof_run_steps.specs.tunnel_steps.Standing.{standing, is_end, with_item, after_put, after_puts, after_taking}
use Rattle.proof_run_steps.proofs.tunnel_steps.Tracks.{acts_so}
use Rattle.proof_cu_up_orders.specs.context_orders.Orders.{CuUpModel, model_with, model_of_bearer, model_in, model_of, ContextStep, makes, adds, switches, freezes, knows, resumes, releases, closes, takes, polls, on_switch, on_freeze, on_status, on_resume, on_release, kept_in, begun, done, carried}
use Rattle.proof_cu_up_orders.specs.context_orders.Inputs.{orders_of}
use Rattle.proof_cu_up_orders.specs.context_orders.Shown.{is_bearer, is_on, on_bearer, Comes, Follows}
use Rattle.law_tunnels_are_owned.proofs.open_tunnels.Links.{end_of}
use Rattle.law_tunnels_are_owned.specs.owner_facts.Owned.{ends_of, has_end, up_context_names, cu_up_names, CuUpOwns}
use Rattle.law_tunnels_are_owned.specs.run_tunnels.Own.{IsOwnAt}
use Rattle.proof_bearer_refinement.specs.run_unit_inputs.Happenings.{CuUpRecord}
use Rattle.proof_bearer_refinement.specs.run_bearers.Things.{PlainUnits}
use Rattle.proof_bearer_refinement.specs.run_bearers.Bearers.{Numbering}
use Rattle.proof_bearer_refinement.specs.refinement_facts.Refinements.{RunState, RunItem, Owned, owned_by, owned_on, owned_at}
use Rattle.proof_bearer_refinement.specs.refinement_facts.Asked.{RunCause, TakesThere, IsUpStep, AreSound}
use Rattle.proof_bearer_refinement.proofs.refinement_facts.Ends.{clash, IsOwner, owner_is, own_leave}
use Rattle.proof_bearer_refinement.proofs.refinement_facts.Puts.{Outs}
use Rattle.proof_bearer_refinement.proofs.du_puts.Apart.{place, found_on}
use Rattle.proof_bearer_refinement.proofs.du_puts.Stands.{ups_stay}

-- ---- what stands on a tunnel that wasn't open comes of the outputs

module _ {L : Type 0} (Q : Item L → Type 0) where
  abbrev There : Option (List (Item L)) → Type 0
  There None = Unit {0}
  There (Some items) = AllByRecursion Q items

  and_one : (items : List (Item L)) (item : Item L) → AllByRecursion Q items → Q item → AllByRecursion Q (items ++ item ∷ [])
  and_one [] item all is = (is, tt)
  and_one (x ∷ xs) item all is = (all.0, and_one xs item all.1 is)

module _ {M L P : Type 0} (end : TunnelEnd) (node : NodeId) (taken : Option ℕ) (Q : Item L → Type 0) where
  -- what an output puts is so
  abbrev IsPut : Put M L P → Type 0
  IsPut (packet to teid ue bearer dir tag load) = Q (record { key = entity ue bearer dir; count = count_beside tag taken; content = load })
  IsPut output = Unit {0}

  one_there : (output : Put M L P) (o : Option (List (Item L))) → IsPut output → There Q o → There Q (after_put end node taken output o)
  one_there (packet to teid ue bearer dir tag load) o is all = by (is_end end to teid) o all
    where
      by : (t : Bool) (o : Option (List (Item L))) → There Q o
          → There Q (if t then with_item (record { key = entity ue bearer dir; count = count_beside tag taken; content = load }) o else o)
      by true None h = tt
      by true (Some items) h = and_one Q items _ h is
      by false o h = h
  one_there (opened teid) o is all = by (is_end end node teid) o all
    where
      by : (t : Bool) (o : Option (List (Item L))) → There Q o → There Q (if t then Some (unwrap_or o []) else o)
      by true None h = tt
      by true (Some items) h = h
      by false o h = h
  one_there (closed teid) o is all = by (is_end end node teid) o all
    where
      by : (t : Bool) (o : Option (List (Item L))) → There Q o → There Q (if t then None else o)
      by true o h = tt
      by false o h = h
  one_there (control to ue message) o is all = all
  one_there (radio ue bearer dir epoch tag pdu) o is all = all
  one_there (deliver ue bearer dir count p) o is all = all
  one_there (dropped reason) o is all = all
  one_there (held reason) o is all = all
  one_there (failed ue cause) o is all = all
  one_there (no reason) o is all = all

  all_there : (outputs : List (Put M L P)) (o : Option (List (Item L))) → AllByRecursion IsPut outputs → There Q o
      → There Q (after_puts end node taken outputs o)
  all_there [] o each all = all
  all_there (output ∷ outputs) o each all = all_there outputs (after_put end node taken output o) each.1 (one_there output o each.0 all)

-- ---- outputs of which none is of the bearer

none_of_bearer : (ue : UeId) (bearer : BearerId) (os : Outs) → on_bearer ue bearer os ≡ [] → AllByRecursion (λ o. is_on ue bearer o ≡ false) os
none_of_bearer ue bearer [] is = tt
none_of_bearer ue bearer (o ∷ os) is = by (is_on ue bearer o) refl is (none_of_bearer ue bearer os)
  where
    by : (t : Bool) → is_on ue bearer o ≡ t → cond t (o ∷ on_bearer ue bearer os) (on_bearer ue bearer os) ≡ []
        → (on_bearer ue bearer os ≡ [] → AllByRecursion (λ o. is_on ue bearer o ≡ false) os)
        → (is_on ue bearer o ≡ false) × AllByRecursion (λ o. is_on ue bearer o ≡ false) os
    by true e is later = absurd cc
    by false e is later = (e, later is)

abbrev IsOther : UeId → BearerId → RunItem → Type 0
IsOther ue bearer item = is_bearer ue bearer item.key.ue item.key.bearer ≡ false

others_put : (lengths : Lengths) (end : TunnelEnd) (node : NodeId) (taken : Option ℕ) (ue : UeId) (bearer : BearerId) (os : Outs)
    → AllByRecursion (λ o. is_on ue bearer o ≡ false) os
    → AllByRecursion (IsPut {M = Message Token} {P = Written Pdu} end node taken (IsOther ue bearer)) (map (written_put lengths) os)
others_put lengths end node taken ue bearer [] all = tt
others_put lengths end node taken ue bearer (packet to teid u b dir tag load ∷ os) all = (all.0, others_put lengths end node taken ue bearer os all.1)
others_put lengths end node taken ue bearer (control to u message ∷ os) all = (tt, others_put lengths end node taken ue bearer os all.1)
others_put lengths end node taken ue bearer (radio u b dir epoch tag pdu ∷ os) all = (tt, others_put lengths end node taken ue bearer os all.1)
others_put lengths end node taken ue bearer (deliver u b dir count q ∷ os) all = (tt, others_put lengths end node taken ue bearer os all.1)
others_put lengths end node taken ue bearer (dropped reason ∷ os) all = (tt, others_put lengths end node taken ue bearer os all.1)
others_put lengths end node taken ue bearer (held reason ∷ os) all = (tt, others_put lengths end node taken ue bearer os all.1)
others_put lengths end node taken ue bearer (opened q ∷ os) all = (tt, others_put lengths end node taken ue bearer os all.1)
others_put lengths end node taken ue bearer (closed q ∷ os) all = (tt, others_put lengths end node taken ue bearer os all.1)
others_put lengths end node taken ue bearer (failed u reason ∷ os) all = (tt, others_put lengths end node taken ue bearer os all.1)
others_put lengths end node taken ue bearer (no reason ∷ os) all = (tt, others_put lengths end node taken ue bearer os all.1)

-- ---- rows by which a bearer gets no tunnel

abbrev ends_in : TunnelKind → Ends → List ℕ
ends_in n3 e = teid_in e.n3
ends_in f1u_uplink e = e.uplinks
ends_in forwarding_down e = teid_in e.forward_down
ends_in forwarding_up e = teid_in e.forward_up

as_ends : (kind : TunnelKind) (b : CuUpBearer) → ends_of kind b ≡ ends_in kind (ends b)
as_ends n3 b = refl
as_ends f1u_uplink b = refl
as_ends forwarding_down b = refl
as_ends forwarding_up b = refl

left_one : (xs : List ℕ) (t q : ℕ) → is_one_of (filter (λ (k : ℕ). not (k == t)) xs) q ≡ true → is_one_of xs q ≡ true
left_one [] t q is = is
left_one (x ∷ xs) t q is = by (not (x == t)) is (left_one xs t q)
  where
    Fewer_so : Type 0
    Fewer_so = is_one_of (filter (λ (k : ℕ). not (k == t)) xs) q ≡ true → is_one_of xs q ≡ true

    or_so : (a : Bool) → Fewer_so → a || is_one_of (filter (λ (k : ℕ). not (k == t)) xs) q ≡ true → a || is_one_of xs q ≡ true
    or_so true f h = refl
    or_so false f h = f h

    either : (a : Bool) → is_one_of xs q ≡ true → a || is_one_of xs q ≡ true
    either true h = refl
    either false h = h

    by : (b : Bool) → is_one_of (cond b (x ∷ filter (λ (k : ℕ). not (k == t)) xs) (filter (λ (k : ℕ). not (k == t)) xs)) q ≡ true → Fewer_so
        → is_one_of (x ∷ xs) q ≡ true
    by true h f = or_so (x == q) f h
    by false h f = either (x == q) (f h)

fewer_n3 : (kind : TunnelKind) (e : Ends) (q : ℕ) → is_one_of (ends_in kind (without_n3 e)) q ≡ true → is_one_of (ends_in kind e) q ≡ true
fewer_n3 n3 e q is = clash is
fewer_n3 f1u_uplink e q is = is
fewer_n3 forwarding_down e q is = is
fewer_n3 forwarding_up e q is = is

fewer_uplinks : (kind : TunnelKind) (e : Ends) (t q : ℕ) → is_one_of (ends_in kind (without_uplink t e)) q ≡ true → is_one_of (ends_in kind e) q ≡ true
fewer_uplinks n3 e t q is = is
fewer_uplinks f1u_uplink e t q is = left_one e.uplinks t q is
fewer_uplinks forwarding_down e t q is = is
fewer_uplinks forwarding_up e t q is = is

abbrev Fewer : CuUpBearer → CuUpBearer → Type 0
Fewer b c = (kind : TunnelKind) (q : ℕ) → is_one_of (ends_of kind c) q ≡ true → is_one_of (ends_of kind b) q ≡ true

fewer_by : (b c : CuUpBearer) (e : Ends) → ends c ≡ e
    → ((kind : TunnelKind) (q : ℕ) → is_one_of (ends_in kind e) q ≡ true → is_one_of (ends_in kind (ends b)) q ≡ true) → Fewer b c
fewer_by b c e is f kind q h =
    ap (λ (xs : List ℕ). is_one_of xs q) (as_ends kind b)
    ∙ f kind q (sym (ap (λ (k : Ends). is_one_of (ends_in kind k) q) is) ∙ sym (ap (λ (xs : List ℕ). is_one_of xs q) (as_ends kind c)) ∙ h)

abbrev FewerAfter : CuUpBearer → Answer (Message Token) Pdu CuUpBearer → Type 0
FewerAfter b (gives os c) = Fewer b c
FewerAfter b (spent counter) = Unit {0}

stays_fewer : (b : CuUpBearer) (a : Answer (Message Token) Pdu CuUpBearer) → Stays plain_way (ends b) a → FewerAfter b a
stays_fewer b (gives os c) h = fewer_by b c (ends b) h.2 (λ kind q e. e)
stays_fewer b (spent counter) h = tt

took_fewer : (kind : TunnelKind) (teid : ℕ) (b : CuUpBearer) (a : Answer (Message Token) Pdu CuUpBearer) → Took plain_way kind teid b a → FewerAfter b a
took_fewer kind teid b (gives os c) h = by h.1
  where
    by : ((closed_by os ≡ []) × (ends c ≡ ends b))
        ⊎ (((t : ℕ) × (b.n3 ≡ Some t) × (closed_by os ≡ t ∷ []) × (ends c ≡ without_n3 (ends b)))
        ⊎ ((kind ≡ f1u_uplink) × (closed_by os ≡ teid ∷ []) × (ends c ≡ without_uplink teid (ends b)))) → Fewer b c
    by (inl same) = fewer_by b c (ends b) same.1 (λ k q e. e)
    by (inr (inl n3_ends)) = fewer_by b c (without_n3 (ends b)) n3_ends.3 (λ k q e. fewer_n3 k (ends b) q e)
    by (inr (inr uplink_ends)) = fewer_by b c (without_uplink teid (ends b)) uplink_ends.2 (λ k q e. fewer_uplinks k (ends b) teid q e)
took_fewer kind teid b (spent counter) h = tt

pub number_same : (a : ℕ) → (a == a) ≡ true
number_same a = grind arith

none_of : {X : Type 0} (o : Option X) → is_some o ≡ false → o ≡ None
none_of None is = refl
none_of (Some x) is = clash (sym is)

module _ (reading : Reading) (n : Numbering) (ue : UeId) (bearer : BearerId) (s t : RunState) (gnb : Gnb) (number : ℕ) (cause : RunCause) (input : Input Token Pdu)
    (outputs : Outs) (v : CuUpRecord) (step : IsUpStep reading s t gnb number cause input outputs v) (sound : AreSound s t) where
  abbrev r : CuUpRecord
  r = cu_up_of s.units gnb number

  abbrev p : Option CuUpModel
  p = model_of r ue bearer

  abbrev orders : List (ContextStep Pdu)
  orders = orders_of plain_way r ue bearer input

  abbrev here : NodeId
  here = up_id gnb number

  -- ---- the units then

  pub units_then : t.units ≡ units_by (plain_world reading) cause (with_cu_up s.units gnb number v)
  units_then =
      subst (HasUnits (plain_world reading) {X = RunLine (Message Token)} (units_by (plain_world reading) cause (with_cu_up s.units gnb number v))) step.goes_on
      (act_units (plain_world reading) cause (map (written_put (sn_of s)) outputs) (with_cu_up s.units gnb number v) s)

  up_then : (g : Gnb) (k : ℕ) → cu_up_of t.units g k ≡ cond (eq_by_cmp node_cmp (up_id g k) here) v (cu_up_of s.units g k)
  up_then g k =
      ap (λ es. at node_cmp (new_cu_up g k) es (up_id g k))
      (ap (λ (u : PlainUnits). u.ups) units_then ∙ ups_stay (plain_world reading) cause (with_cu_up s.units gnb number v))
      ∙ at-put node_total (new_cu_up g k) s.units.ups here v (up_id g k)

  up_here : cu_up_of t.units gnb number ≡ v
  up_here = up_then gnb number ∙ ap (λ (b : Bool). cond b v r) (ap is_eq (tied_itself node_total here))

  owns_then : CuUpOwns v
  owns_then = subst (λ (w : CuUpRecord). CuUpOwns w) up_here (sound.owned_after.0 gnb number)

  by_node : (g : Gnb) (k : ℕ) → (up_id g k ≡ here) ⊎ (cu_up_of t.units g k ≡ cu_up_of s.units g k)
  by_node g k = by (eq_by_cmp node_cmp (up_id g k) here) refl
    where
      by : (b : Bool) → eq_by_cmp node_cmp (up_id g k) here ≡ b → (up_id g k ≡ here) ⊎ (cu_up_of t.units g k ≡ cu_up_of s.units g k)
      by true e = inl (node_exact (up_id g k) here ((Equal-is (node_cmp (up_id g k) here)).0 e))
      by false e = inr (up_then g k ∙ ap (λ (b : Bool). cond b v (cu_up_of s.units g k)) e)

  -- ---- a tunnel that was open is its owner's still

  same_owner : (teid : ℕ) (a b : CuUpTunnel) → find nat_cmp r.tunnels teid ≡ Some a → find nat_cmp v.tunnels teid ≡ Some b → a ≡ b
  same_owner teid a b was is = (own_leave here r v input outputs teid a b (sound.owned.0 gnb number) step.answers (was, is)).0

  then_found : (teid : ℕ) (b : CuUpTunnel) → find nat_cmp (cu_up_of t.units gnb number).tunnels teid ≡ Some b → find nat_cmp v.tunnels teid ≡ Some b
  then_found teid b is = sym (ap (λ (w : CuUpRecord). find nat_cmp w.tunnels teid) up_here) ∙ is

  here_stays : (teid : ℕ) (o w : Owned) → owned_on n ue bearer s.units here teid ≡ Some o → owned_on n ue bearer t.units here teid ≡ Some w → o ≡ w
  here_stays teid o w was is =
      let a = found_on n ue bearer s.units gnb number teid o was in
      let b = found_on n ue bearer t.units gnb number teid w is in
      let same : a.0 ≡ b.0 = same_owner teid a.0 b.0 a.1 (then_found teid b.0 b.1) in
      let both : Some o ≡ Some w =
      sym was ∙ ap (owned_by n ue bearer gnb number) (a.1 ∙ ap (λ (k : CuUpTunnel). Some k) same ∙ sym b.1) ∙ is in cc

  pub owners_stay : (end : TunnelEnd) (o w : Owned) → owned_at n ue bearer s.units end ≡ Some o → owned_at n ue bearer t.units end ≡ Some w → o ≡ w
  owners_stay end o w was is = by end.node was is
    where
      by : (node : NodeId) → owned_on n ue bearer s.units node end.teid ≡ Some o → owned_on n ue bearer t.units node end.teid ≡ Some w → o ≡ w
      by (up_id g k) was is = at_up (by_node g k)
        where
          at_up : (up_id g k ≡ here) ⊎ (cu_up_of t.units g k ≡ cu_up_of s.units g k) → o ≡ w
          at_up (inl e) =
              subst (λ (node : NodeId). owned_on n ue bearer s.units node end.teid ≡ Some o → owned_on n ue bearer t.units node end.teid ≡ Some w → o ≡ w) (sym e)
              (here_stays end.teid o w) was is
          at_up (inr same) =
              let both : Some o ≡ Some w =
              sym was ∙ sym (ap (λ (x : CuUpRecord). owned_by n ue bearer g k (find nat_cmp x.tunnels end.teid)) same) ∙ is in cc
      by (CuCp g) was is = absurd cc
      by (Du g k) was is = absurd cc
      by Core was is = absurd cc
      by (Ue k) was is = absurd cc

  -- ---- one that is the bearer's then, and wasn't before, was not open

  pub record IsOpened (teid : ℕ) (o : Owned) : Type 0 where
    pub owner : CuUpTunnel
    pub found : find nat_cmp (cu_up_of t.units gnb number).tunnels teid ≡ Some owner
    pub own : is_bearer ue bearer owner.ue owner.bearer ≡ true
    pub is : o ≡ record { context = n.number_of (place gnb number owner.context); kind = owner.kind }
    pub absent : find nat_cmp r.tunnels teid ≡ None
    pub new : below r.next_teid ≤ teid
    pub its : IsOwner v ue bearer teid owner

  given : GivesTeids (λ (u : CuUpRecord). u.next_teid) (λ (u : CuUpRecord). u.tunnels) r (gives outputs v)
  given = subst (GivesTeids (λ (u : CuUpRecord). u.next_teid) (λ (u : CuUpRecord). u.tunnels) r) step.answers (cu_up_gives plain_way r input)

  pub opened_here : (teid : ℕ) (o : Owned) → owned_on n ue bearer s.units here teid ≡ None → owned_on n ue bearer t.units here teid ≡ Some o → IsOpened teid o
  opened_here teid o none is = record {
    owner = f.0;
    found = f.1;
    own = f.2;
    is = sym its_owned;
    absent = absent;
    new = by (given.1.1 teid f.0 found);
    its = owner_is v owns_then ue bearer teid f.0 found f.2;
  }
    where
      f : (owner : CuUpTunnel) × (find nat_cmp (cu_up_of t.units gnb number).tunnels teid ≡ Some owner) × (is_bearer ue bearer owner.ue owner.bearer ≡ true)
      f = found_on n ue bearer t.units gnb number teid o is

      found : find nat_cmp v.tunnels teid ≡ Some f.0
      found = then_found teid f.0 f.1

      as_owned : CuUpTunnel → Owned
      as_owned a = record { context = n.number_of (place gnb number a.context); kind = a.kind }

      owned_so : (a : CuUpTunnel) → is_bearer ue bearer a.ue a.bearer ≡ true → owned_by n ue bearer gnb number (Some a) ≡ Some (as_owned a)
      owned_so a own = ap (λ (b : Bool). if b then Some (as_owned a) else None) own

      its_owned : as_owned f.0 ≡ o
      its_owned =
          let both : Some (as_owned f.0) ≡ Some o = sym (owned_so f.0 f.2) ∙ sym (ap (owned_by n ue bearer gnb number) f.1) ∙ is in cc

      absent_if : (a : Option CuUpTunnel) → find nat_cmp r.tunnels teid ≡ a → a ≡ None
      absent_if None e = refl
      absent_if (Some a) e =
          let same : a ≡ f.0 = same_owner teid a f.0 e found in
          let clashes : None ≡ Some (as_owned f.0) =
          sym none ∙ ap (owned_by n ue bearer gnb number) (e ∙ ap (λ (k : CuUpTunnel). Some k) same) ∙ owned_so f.0 f.2 in absurd cc

      absent : find nat_cmp r.tunnels teid ≡ None
      absent = absent_if (find nat_cmp r.tunnels teid) refl

      by : (find nat_cmp r.tunnels teid ≡ Some f.0) ⊎ ((below r.next_teid ≤ teid) × (teid + 1 ≤ below v.next_teid)) → below r.next_teid ≤ teid
      by (inl before) = let clashes : None ≡ Some f.0 = sym absent ∙ before in absurd cc
      by (inr new) = new.0

  module _ (teid : ℕ) (o : Owned) (opens : IsOpened teid o) where
    abbrev end : TunnelEnd
    end = end_of here teid

    -- ---- what stands there is put by the step

    stood_not : standing s end ≡ None
    stood_not = none_of (standing s end) (sound.standing_there.0 gnb number teid ∙ ap (λ (a : Option CuUpTunnel). is_some a) opens.absent)

    takes_not : (c : RunCause) → TakesThere s c → after_taking end c None ≡ None
    takes_not (by_item from item rest) there = by (eq_by_cmp tunnel_cmp end from) refl
      where
        by : (b : Bool) → eq_by_cmp tunnel_cmp end from ≡ b → (if b then Some rest else None) ≡ None
        by true e =
            let same : end ≡ from = tunnel_exact end from ((Equal-is (tunnel_cmp end from)).0 e) in
            let clashes : None ≡ Some (item ∷ rest) = sym stood_not ∙ ap (standing s) same ∙ there in absurd cc
        by false e = refl
    takes_not (by_order node order) there = refl
    takes_not (by_tick node) there = refl
    takes_not (by_octets from to octets) there = refl
    takes_not (by_octets_on e octets) there = refl
    takes_not (by_attach plan) there = refl
    takes_not (by_release g w) there = refl
    takes_not (by_offer w b q) there = refl
    takes_not (by_air key home item) there = refl
    takes_not (by_ack key home item rest) there = refl
    takes_not (by_control_message k l to) there = refl

    pub nothing_stands : on_bearer ue bearer outputs ≡ [] → (items : List RunItem) → standing t end ≡ Some items → items ≡ []
    nothing_stands none items there = by items (sound.own end items there) others
      where
        followed : after_puts end (node_of cause) (count_of cause) (map (written_put (sn_of s)) outputs) None ≡ Some items
        followed =
            sym (acts_so (plain_world reading) end cause (map (written_put (sn_of s)) outputs) (with_cu_up s.units gnb number v) s t step.lines step.goes_on
            ∙ ap (after_puts end (node_of cause) (count_of cause) (map (written_put (sn_of s)) outputs))
            (ap (after_taking end cause) stood_not ∙ takes_not cause step.takes_there)) ∙ there

        others : AllByRecursion (IsOther ue bearer) items
        others =
            subst (There (IsOther ue bearer)) followed
            (all_there end (node_of cause) (count_of cause) (IsOther ue bearer) (map (written_put (sn_of s)) outputs) None
            (others_put (sn_of s) end (node_of cause) (count_of cause) ue bearer outputs (none_of_bearer ue bearer outputs none)) tt)

        by : (zs : List RunItem) → AllByRecursion (λ (item : RunItem). IsOwnAt t.units here teid item.key item.content.says) zs
            → AllByRecursion (IsOther ue bearer) zs → zs ≡ []
        by [] own other = refl
        by (item ∷ zs) own other =
            let its = own.0 opens.owner opens.found in
            clash (sym other.0 ∙ (λ i. is_bearer ue bearer (its.0 i) (its.1 i)) ∙ opens.own)

    -- ---- the bearer had no such tunnel

    not_before : (q : CuUpModel) → p ≡ Some q → is_one_of (ends_of opens.owner.kind q.bearer) teid ≡ true → ⊥
    not_before q is has =
        let clashes : None ≡ Some owner = sym opens.absent ∙ (sound.owned.0 gnb number).0.stands teid owner (by_context (find ue_cmp r.contexts ue) refl is) in cc
      where
        owner : CuUpTunnel
        owner = record { ue = ue; bearer = bearer; kind = opens.owner.kind; context = q.instance }

        by_bearer : (c : CuUpContext) (b : Option CuUpBearer) → find bearer_cmp c.bearers bearer ≡ b → model_of_bearer ue c bearer b ≡ Some q
            → up_context_names owner teid (Some c) ≡ true
        by_bearer c None there e = absurd cc
        by_bearer c (Some b) there e =
            let same : model_with ue c bearer b ≡ q = cc in
            (λ i. (c.instance == (sym same i).instance) && has_end opens.owner.kind teid (there i))
            ∙ (λ i. number_same c.instance i && (ap (λ (k : CuUpModel). is_one_of (ends_of opens.owner.kind k.bearer) teid) same ∙ has) i)

        by_context : (c : Option CuUpContext) → find ue_cmp r.contexts ue ≡ c → model_in ue bearer c ≡ Some q → cu_up_names r.contexts owner teid ≡ true
        by_context None there e = absurd cc
        by_context (Some c) there e = ap (up_context_names owner teid) there ∙ by_bearer c (find bearer_cmp c.bearers bearer) refl e

    model_is : (q : CuUpModel) → model_of v ue bearer ≡ Some q → opens.its.part ≡ q
    model_is q is = let both : Some opens.its.part ≡ Some q = sym opens.its.there ∙ is in cc

    never_none : {X : Type 0} → model_of v ue bearer ≡ None → X
    never_none is = absurd (let clashes : None ≡ Some opens.its.part = sym is ∙ opens.its.there in cc)

    has_in : (q : CuUpModel) → model_of v ue bearer ≡ Some q → is_one_of (ends_of opens.owner.kind q.bearer) teid ≡ true
    has_in q is = sym (ap (λ (k : CuUpModel). is_one_of (ends_of opens.owner.kind k.bearer) teid) (model_is q is)) ∙ opens.its.has

    -- ---- so it comes with a context that is made, or as an uplink that is added

    pub record IsMade : Type 0 where
      pub order : ContextStep Pdu
      pub absent : p ≡ None
      pub begun_is : begun ue bearer order ≡ Some opens.its.part
      pub orders_are : orders ≡ order ∷ []
      pub instance : opens.its.part.instance ≡ r.next_teid

    pub record IsAdded : Type 0 where
      pub before : CuUpModel
      pub first : ℕ
      pub present : p ≡ Some before
      pub orders_are : orders ≡ adds first ∷ []
      pub kind : opens.owner.kind ≡ f1u_uplink
      pub instance : opens.its.part.instance ≡ before.instance

    abbrev Result : Type 0
    Result = (on_bearer ue bearer outputs ≡ []) × (IsMade ⊎ IsAdded)

    abbrev Its : List (ContextStep Pdu) → Option CuUpModel → Type 0
    Its os q = Comes ue bearer outputs v (carried plain_way ue bearer os q)

    shape : (a : Answer (Message Token) Pdu (Option CuUpModel)) (os : List (ContextStep Pdu)) → EndsAfter os a → (os ≡ []) ⊎ (os ≡ closes ∷ [])
    shape a [] h = inl refl
    shape a (closes ∷ []) h = inr refl
    shape a os h = absurd h

    begins : (order : ContextStep Pdu) → p ≡ None → orders ≡ order ∷ [] → AreTested plain_way ue bearer (is_final input) r.next_teid (order ∷ []) None
        → Its (order ∷ []) None → Result
    begins (makes instance sn quota target first) none are tested c =
        let same = model_is _ c.1 in (
          c.0,
          inl (record {
            order = makes instance sn quota target first;
            absent = none;
            begun_is = ap (λ (k : CuUpModel). Some k) (sym same);
            orders_are = are;
            instance = ap (λ (k : CuUpModel). k.instance) same ∙ tested.0;
          }),
        )
    begins (adds first) none are tested c = never_none c.1
    begins (switches du first) none are tested c = never_none c.1
    begins (freezes peer down up) none are tested c = never_none c.1
    begins (knows its_status) none are tested c = never_none c.1
    begins resumes none are tested c = never_none c.1
    begins releases none are tested c = never_none c.1
    begins closes none are tested c = never_none c.1
    begins (takes kind from it) none are tested c = never_none c.1
    begins polls none are tested c = never_none c.1

    -- a row by which the bearer gets no tunnel
    no_more : {X : Type 0} (q k : CuUpModel) (a : Answer (Message Token) Pdu CuUpBearer) → p ≡ Some q → FewerAfter q.bearer a
        → Comes ue bearer outputs v (kept_in k a then carried plain_way ue bearer []) → X
    no_more q k (gives os c) is fewer come = absurd (not_before q is (fewer opens.owner.kind teid (has_in (record k { bearer = c }) come.1)))
    no_more q k (spent counter) is fewer come = absurd come

    released_same : (kind : TunnelKind) (b : CuUpBearer) → is_one_of (ends_of kind (released b)) teid ≡ is_one_of (ends_of kind b) teid
    released_same n3 b = refl
    released_same f1u_uplink b = refl
    released_same forwarding_down b = refl
    released_same forwarding_up b = refl

    adds_one : (first : ℕ) (q : CuUpModel) → p ≡ Some q → orders ≡ adds first ∷ [] → Its (adds first ∷ []) (Some q) → Result
    unfolding with_uplink
    adds_one first q is are c = by opens.owner.kind refl
      where
        after : CuUpModel
        after = record q { bearer = record q.bearer { uplinks = q.bearer.uplinks ++ first ∷ [] } }

        other : (kind : TunnelKind) → opens.owner.kind ≡ kind → is_one_of (ends_of kind after.bearer) teid ≡ is_one_of (ends_of kind q.bearer) teid → Result
        other kind e same =
            absurd (not_before q is (ap (λ (k : TunnelKind). is_one_of (ends_of k q.bearer) teid) e ∙ sym same
            ∙ sym (ap (λ (k : TunnelKind). is_one_of (ends_of k after.bearer) teid) e) ∙ has_in after c.1))

        by : (kind : TunnelKind) → opens.owner.kind ≡ kind → Result
        by n3 e = other n3 e refl
        by forwarding_down e = other forwarding_down e refl
        by forwarding_up e = other forwarding_up e refl
        by f1u_uplink e = (
          c.0,
          inr (record { before = q; first = first; present = is; orders_are = are; kind = e; instance = ap (λ (k : CuUpModel). k.instance) (model_is after c.1) }),
        )

    goes_on : (order : ContextStep Pdu) (q : CuUpModel) → p ≡ Some q → orders ≡ order ∷ [] → AreTested plain_way ue bearer (is_final input) r.next_teid (order ∷ []) (Some q)
        → Its (order ∷ []) (Some q) → Result
    goes_on (makes instance sn quota target first) q is are tested c = absurd tested.0
    goes_on (adds first) q is are tested c = adds_one first q is are c
    goes_on (switches du first) q is are tested c =
        no_more q (on_switch q) (switched plain_way (on_switch q).at du first q.bearer) is
        (stays_fewer q.bearer (switched plain_way (on_switch q).at du first q.bearer) (switched_stays plain_way (on_switch q).at du first q.bearer)) c
    goes_on (freezes peer down up) q is are tested c =
        no_more q (on_freeze q) (frozen_to plain_way (on_freeze q).at peer down up q.bearer) is
        (stays_fewer q.bearer (frozen_to plain_way (on_freeze q).at peer down up q.bearer) (frozen_stays plain_way (on_freeze q).at peer down up q.bearer)) c
    goes_on (knows its_status) q is are tested c =
        no_more q (on_status q) (with_status plain_way (on_status q).at its_status q.bearer) is
        (stays_fewer q.bearer (with_status plain_way (on_status q).at its_status q.bearer) (status_stays plain_way (on_status q).at its_status q.bearer)) c
    goes_on resumes q is are tested c =
        no_more q (on_resume q) (resumed plain_way (on_resume q).at q.bearer) is
        (stays_fewer q.bearer (resumed plain_way (on_resume q).at q.bearer) (resumed_stays plain_way (on_resume q).at q.bearer)) c
    goes_on releases q is are tested c =
        absurd (not_before q is (sym (released_same opens.owner.kind q.bearer) ∙ has_in (on_release q) c.1))
    goes_on closes q is are tested c = never_none c.1
    goes_on (takes kind from it) q is are tested c =
        no_more q q (took plain_way q.at kind from it q.bearer) is
        (took_fewer kind from q.bearer (took plain_way q.at kind from it q.bearer) (item_took plain_way q.at kind from it q.bearer)) c
    goes_on polls q is are tested c =
        no_more q q (framed plain_way q.at true false None Absent q.bearer) is
        (stays_fewer q.bearer (framed plain_way q.at true false None Absent q.bearer) (poll_stays plain_way q.at q.bearer)) c

    -- an end leaves no bearer
    ended_none : {X : Type 0} (a : Answer (Message Token) Pdu (Option CuUpModel)) → Comes ue bearer outputs v (a then carried plain_way ue bearer (closes ∷ [])) → X
    ended_none (gives os None) c = never_none c.1
    ended_none (gives os (Some q)) c = never_none c.1
    ended_none (spent counter) c = absurd c

    by_all : (os : List (ContextStep Pdu)) → orders ≡ os → (q : Option CuUpModel) → p ≡ q → AreTested plain_way ue bearer (is_final input) r.next_teid os q → Its os q → Result
    by_all [] are None is tested c = never_none c.1
    by_all [] are (Some q) is tested c = absurd (not_before q is (has_in q c.1))
    by_all (order ∷ os) are None is tested c = by (shape (nothing (begun ue bearer order)) os tested.1)
      where
        by : (os ≡ []) ⊎ (os ≡ closes ∷ []) → Result
        by (inl e) =
            begins order is (are ∙ ap (λ (k : List (ContextStep Pdu)). order ∷ k) e)
            (subst (λ (k : List (ContextStep Pdu)). AreTested plain_way ue bearer (is_final input) r.next_teid (order ∷ k) None) e tested)
            (subst (λ (k : List (ContextStep Pdu)). Its (order ∷ k) None) e c)
        by (inr e) = ended_none (nothing (begun ue bearer order)) (subst (λ (k : List (ContextStep Pdu)). Its (order ∷ k) None) e c)
    by_all (order ∷ os) are (Some q) is tested c = by (shape (done plain_way order q) os tested.1)
      where
        by : (os ≡ []) ⊎ (os ≡ closes ∷ []) → Result
        by (inl e) =
            goes_on order q is (are ∙ ap (λ (k : List (ContextStep Pdu)). order ∷ k) e)
            (subst (λ (k : List (ContextStep Pdu)). AreTested plain_way ue bearer (is_final input) r.next_teid (order ∷ k) (Some q)) e tested)
            (subst (λ (k : List (ContextStep Pdu)). Its (order ∷ k) (Some q)) e c)
        by (inr e) = ended_none (done plain_way order q) (subst (λ (k : List (ContextStep Pdu)). Its (order ∷ k) (Some q)) e c)

    pub result : Result
    result =
        by_all orders refl p refl (orders_tested plain_way r ue bearer input)
        (subst (Follows ue bearer (carried plain_way ue bearer orders p)) step.answers
        (follows plain_way ue bearer (cu_up_acts plain_way r input) (carried plain_way ue bearer orders p)
        (all_does plain_way ue bearer r input (sound.owned.0 gnb number).1)))

  -- what holds of each that is opened, holds of each that is the bearer's then, and wasn't before
  pub opened_at : (Q : ℕ → Owned → List RunItem → Type 0)
      → ((teid : ℕ) (o : Owned) (items : List RunItem) → IsOpened teid o → standing t (end_of here teid) ≡ Some items → Q teid o items)
      → (end : TunnelEnd) (o : Owned) (items : List RunItem) → owned_at n ue bearer s.units end ≡ None → owned_at n ue bearer t.units end ≡ Some o
      → standing t end ≡ Some items → Q end.teid o items
  opened_at Q each end o items none is there = by end.node none is there
    where
      by : (node : NodeId) → owned_on n ue bearer s.units node end.teid ≡ None → owned_on n ue bearer t.units node end.teid ≡ Some o
          → standing t (end_of node end.teid) ≡ Some items → Q end.teid o items
      by (up_id g k) none is there = at_up (by_node g k)
        where
          at_up : (up_id g k ≡ here) ⊎ (cu_up_of t.units g k ≡ cu_up_of s.units g k) → Q end.teid o items
          at_up (inl e) =
              subst (λ (node : NodeId). owned_on n ue bearer s.units node end.teid ≡ None → owned_on n ue bearer t.units node end.teid ≡ Some o
              → standing t (end_of node end.teid) ≡ Some items → Q end.teid o items) (sym e)
              (λ none is there. each end.teid o items (opened_here end.teid o none is) there) none is there
          at_up (inr same) =
              let clashes : None ≡ Some o =
              sym none ∙ sym (ap (λ (x : CuUpRecord). owned_by n ue bearer g k (find nat_cmp x.tunnels end.teid)) same) ∙ is in absurd cc
      by (CuCp g) none is there = absurd cc
      by (Du g k) none is there = absurd cc
      by Core none is there = absurd cc
      by (Ue k) none is there = absurd cc

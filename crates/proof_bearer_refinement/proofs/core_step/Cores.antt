-- What the core puts for a bearer is orders of its downlink: an offered packet on the N3 tunnel of the bearer's path, and an End Marker
-- there where the path is switched.
use Rattle.std.proofs.Common.{◌≡◌, ◌==◌, ℕ, Bool, true, false, ◌&&◌, List, [], ◌∷◌, ◌++◌, map, Option, Some, None, refl, sym, ap, subst, ◌∙◌, eqb-true, arith}
use Rattle.std.proofs.lemmas.List.{append-nil}
use Rattle.std.specs.Prelude.{is_some, if◌then◌else◌}
use Rattle.std.specs.List.{AllByRecursion}
use Rattle.std.specs.Ordering.{is_eq, eq_by_cmp}
use Rattle.std.specs.Cmp.{Equal-is, tied_itself}
use Rattle.gnb_types.specs.declared.names.Gnb.{Gnb}
use Rattle.gnb_types.specs.declared.names.NodeId.{NodeId}
use Rattle.gnb_types.specs.declared.names.NodeId.TheVariants.{CuCp, CuUp as up_id, Du as du_id, Core, Ue}
use Rattle.gnb_types.specs.declared.names.SnBits.{SnBits}
use Rattle.gnb_types.specs.declared.names.UeId.{UeId}
use Rattle.gnb_types.specs.declared.names.BearerId.{BearerId}
use Rattle.gnb_types.specs.declared.names.Dir.TheVariants.{Dl}
use Rattle.gnb_types.specs.declared.keys.Channel.{Channel}
use Rattle.gnb_types.specs.declared.keys.TunnelEnd.{TunnelEnd}
use Rattle.gnb_types.specs.declared.outputs.Tag.TheVariants.{Absent}
use Rattle.gnb_types.specs.declared.plans.Peer.{Peer}
use Rattle.gnb_types.specs.declared.plans.Tunnel.{Tunnel}
use Rattle.gnb_types.specs.Orders.{ue_cmp, bearer_cmp}
use Rattle.gnb_types.proofs.OrderLemmas.{ue_exact, bearer_total, bearer_exact}
use Rattle.tables.specs.Tables.{find}
use Rattle.message_types.specs.declared.rrc.Token.{Token}
use Rattle.message_types.specs.declared.xn.CoreMessage.TheVariants as cores
use Rattle.transaction_defs.specs.Callees.{Verdict, new, again, stale, verdict, taken, kept_reply}
use Rattle.unit_defs.specs.Ways.{Message, f1, e1, xn, core, rrc, Pdu, fresh, end_marker, Output, control, packet, radio, deliver, dropped, held, opened, closed, failed, no, Answer, gives, spent}
use Rattle.unit_defs.specs.CuUpRecords.{CuUpTunnel, TunnelKind, n3, f1u_uplink, forwarding_down, forwarding_up}
use Rattle.unit_defs.specs.Transactions.{Kind, request, reply, transfer, kind_of, Transactions, replied, request_by, answered_again, on_request}
use Rattle.unit_defs.specs.Messages.{channel, teid_of}
use Rattle.unit_defs.specs.Core.{CorePath, CoreRecord, end_of as core_end, old_ends, switch_path, asked, came, core_acts}
use Rattle.transport_defs.specs.declared.ControlMessage.{ControlMessage}
use Rattle.transport_defs.specs.Links.{landed}
use Rattle.run_defs.specs.Lines.{got_message}
use Rattle.run_defs.specs.Written.{written_put}
use Rattle.run_defs.specs.States.{entity, sn_of, ◌next◌}
use Rattle.run_defs.specs.Steps.{check_spans, put_on_tunnel, put_out_all}
use Rattle.run_defs.specs.Events.{offered}
use Rattle.run_defs.specs.Runs.{Reading, plain_world, plain_way}
use Rattle.proof_run_steps.proofs.tunnel_steps.Tracks.{puts_so}
use Rattle.proof_run_steps.specs.tunnel_steps.Standing.{standing, is_end, after_puts}
use Rattle.bearer_defs.specs.chain_defs.Models as down_models
use Rattle.bearer_defs.specs.chain_defs.Models.{set}
use Rattle.bearer_defs.specs.chain_defs.Orders as down
use Rattle.bearer_defs.specs.uplink_defs.Models as up_models
use Rattle.proof_cu_up_orders.specs.chain_rows.Shown.{item_of}
use Rattle.proof_cu_up_orders.specs.context_orders.Orders.{CuUpModel}
use Rattle.proof_cu_up_orders.specs.context_orders.Shown.{is_bearer}
use Rattle.proof_cu_up_orders.specs.bearer_orders.Happenings.{Contexts}
use Rattle.proof_cu_up_orders.specs.bearer_orders.Down as downs
use Rattle.proof_cu_up_orders.specs.bearer_orders.Up as ups
use Rattle.proof_cu_up_orders.specs.down_orders.Down.{down_of}
use Rattle.law_tunnels_are_owned.proofs.open_tunnels.Links.{end_of}
use Rattle.law_tunnels_are_owned.proofs.owner_facts.Owners.{first_of, second_of}
use Rattle.law_tunnels_are_owned.specs.run_tunnels.Own.{IsOwnAt}
use Rattle.proof_bearer_refinement.specs.run_bearers.Things.{PlainUnits}
use Rattle.proof_bearer_refinement.specs.run_bearers.Bearers.{Numbering, contexts_of}
use Rattle.proof_bearer_refinement.specs.refinement_facts.Refinements.{RunState, RunItem, Owned, owned_on, owned_at, downs_of, up_item, ups_of, IsMirror}
use Rattle.proof_bearer_refinement.specs.refinement_facts.Asked.{Refines, AreSound}
use Rattle.proof_bearer_refinement.proofs.refinement_facts.Ends.{clash}
use Rattle.proof_bearer_refinement.proofs.refinement_facts.Puts.{Outs, put_there, downs_both, downs_written, ups_written, IsOwn, own_from, stays_so}
use Rattle.proof_node_orders.specs.du_inputs.Puts.{OnTunnel, tunnels_put}
use Rattle.proof_node_orders.specs.core_rows.Shown as told
use Rattle.proof_node_orders.specs.core_rows.Shown.{teids_of, IsPath, Goal, goal_by, to_first, orders_to, IsOne, items_put, IsAfter, Follows}
use Rattle.proof_node_orders.proofs.core_rows.Rows.{control_message_follows}
use Rattle.proof_bearer_refinement.specs.core_step.Core.{PathLeads, IsOffer, orders_offered, IsCoreStep, context_of, places_of, orders_told}
use Rattle.proof_bearer_refinement.proofs.du_puts.Apart.{on_same, contexts_same, found_on, on_n3, of_kinds}
use Rattle.proof_bearer_refinement.proofs.du_puts.Stands.{all_right, some_standing, items_are, Ends, after_told, and_no_more, units_put}
use Rattle.proof_bearer_refinement.proofs.du_puts.Listed.{items_on, none_on, downs_listed, ups_listed}

-- ---- contexts of the downlink's model stay, but for what stands on N3

record Stays (d e : down_models.Model) : Type 0 where
  pub there : (y : ℕ) → (e.members y).is_there ≡ (d.members y).is_there
  pub flags : (y : ℕ) → (e.members y).flags ≡ (d.members y).flags
  pub bearer : (y : ℕ) → (e.members y).bearer ≡ (d.members y).bearer
  pub forwarded : (y : ℕ) → (e.members y).forwarded ≡ (d.members y).forwarded

stays_as_is : (d : down_models.Model) → Stays d d
stays_as_is d = record { there = λ y. refl; flags = λ y. refl; bearer = λ y. refl; forwarded = λ y. refl }

set_stays : {X : Type 0} (part : down_models.Member → X) (f : ℕ → down_models.Member) (x : ℕ) (m : down_models.Member) (y : ℕ) → part m ≡ part (f x)
    → part (set f x m y) ≡ part (f y)
set_stays part f x m y same = by (y == x) refl
  where
    by : (t : Bool) → (y == x) ≡ t → part (if t then m else f y) ≡ part (f y)
    by true e = same ∙ ap (λ z. part (f z)) (sym (eqb-true y x e))
    by false e = refl

abbrev with_item : down_models.Member → down_models.Item → down_models.Member
with_item m item = record m { n3 = m.n3 ++ item ∷ [] }

with_stays : (d : down_models.Model) (item : down_models.Item) (members : ℕ → down_models.Member) → members ≡ set d.members d.path (with_item (d.members d.path) item)
    → (e : down_models.Model) → e.members ≡ members → Stays d e
with_stays d item members are e is =
    let all : e.members ≡ set d.members d.path (with_item (d.members d.path) item) = is ∙ are in record {
      there = λ y. ap (λ f. (f y).is_there) all ∙ set_stays (λ k. k.is_there) d.members d.path (with_item (d.members d.path) item) y refl;
      flags = λ y. ap (λ f. (f y).flags) all ∙ set_stays (λ k. k.flags) d.members d.path (with_item (d.members d.path) item) y refl;
      bearer = λ y. ap (λ f. (f y).bearer) all ∙ set_stays (λ k. k.bearer) d.members d.path (with_item (d.members d.path) item) y refl;
      forwarded = λ y. ap (λ f. (f y).forwarded) all ∙ set_stays (λ k. k.forwarded) d.members d.path (with_item (d.members d.path) item) y refl;
    }

offer_stays : (d : down_models.Model) (p : List ℕ) → Stays d (down.run d (down.offers p ∷ []))
unfolding down.run down.after
offer_stays d p = with_stays d (down_models.fresh p) _ refl (down.run d (down.offers p ∷ [])) refl

switch_stays : (d : down_models.Model) (to : ℕ) → Stays d (down.run d (down.switches_path to ∷ []))
unfolding down.run down.after
switch_stays d to = with_stays d down_models.end_marker _ refl (down.run d (down.switches_path to ∷ [])) refl

offer_comes : (d : down_models.Model) (p : List ℕ) (y : ℕ)
    → ((down.run d (down.offers p ∷ [])).members y).n3 ≡ (d.members y).n3 ++ (if y == d.path then down_models.fresh p ∷ [] else [])
unfolding down.run down.after
offer_comes d p y = by (y == d.path) refl
  where
    by : (t : Bool) → (y == d.path) ≡ t
        → (if t then with_item (d.members d.path) (down_models.fresh p) else d.members y).n3 ≡ (d.members y).n3 ++ (if t then down_models.fresh p ∷ [] else [])
    by true e = ap (λ z. (d.members z).n3 ++ down_models.fresh p ∷ []) (sym (eqb-true y d.path e))
    by false e = sym (append-nil (d.members y).n3)

-- ---- what the core puts, on each tunnel

module _ (n : Numbering) (ue : UeId) (bearer : BearerId) (sn : SnBits) (quota : ℕ) (s t : RunState) (sound : AreSound s t) (d : down_models.Model)
    (u : up_models.Model) (refined : Refines n ue bearer sn quota s d u) (outputs : Outs) (ups_same : t.units.ups ≡ s.units.ups)
    (follows : (end : TunnelEnd) → standing t end ≡ after_puts end Core None (map (written_put (sn_of s)) outputs) (standing s end))
    (e : down_models.Model) (stays : Stays d e)
    (comes : (end : TunnelEnd) (o : Owned) → owned_at n ue bearer s.units end ≡ Some o → o.kind ≡ n3
    → (e.members o.context).n3 ≡ (d.members o.context).n3 ++ items_on item_of end (tunnels_put ue bearer outputs))
    (misses : (end : TunnelEnd) (o : Owned) → owned_at n ue bearer s.units end ≡ Some o → (o.kind ≡ n3 → ⊥)
    → AllByRecursion (λ (p : OnTunnel). is_end end p.to p.teid ≡ false) (tunnels_put ue bearer outputs)) where
  module _ (g : Gnb) (k teid : ℕ) (o : Owned) (items : List RunItem) (is : owned_on n ue bearer t.units (up_id g k) teid ≡ Some o)
      (there : standing t (end_of (up_id g k) teid) ≡ Some items) where
    abbrev end : TunnelEnd
    end = end_of (up_id g k) teid

    was : owned_at n ue bearer s.units end ≡ Some o
    was = sym (on_same n ue bearer s.units t.units ups_same (up_id g k) teid) ∙ is

    stood : (before : List RunItem) × (standing s end ≡ Some before)
    stood =
        some_standing (standing s end)
        (sound.standing_there.0 g k teid ∙ ap (λ (a : Option CuUpTunnel). is_some a) (found_on n ue bearer s.units g k teid o was).1)

    abbrev puts : List RunItem
    puts = put_there (sn_of s) end None outputs

    are : items ≡ stood.0 ++ puts
    are = items_are (sn_of s) end Core None outputs (standing s end) (standing t end) stood.0 items (λ h. absurd cc) stood.1 there (follows end)

    own_puts : AllByRecursion (IsOwn end ue bearer) outputs
    own_puts =
        let f = found_on n ue bearer t.units g k teid o is in
        own_from (sn_of s) t.units g k teid None ue bearer f.0 f.1 f.2 outputs
        (all_right (λ (item : RunItem). IsOwnAt t.units (up_id g k) teid item.key item.content.says) stood.0 puts
        (subst (AllByRecursion (λ (item : RunItem). IsOwnAt t.units (up_id g k) teid item.key item.content.says)) are (sound.own end items there)))

    downs_put : downs_of puts ≡ items_on item_of end (tunnels_put ue bearer outputs)
    downs_put = downs_written (sn_of s) end None outputs ∙ downs_listed end ue bearer outputs own_puts

    ups_put : ups_of puts ≡ items_on up_item end (tunnels_put ue bearer outputs)
    ups_put = ups_written (sn_of s) end None outputs ∙ ups_listed end ue bearer outputs own_puts

    abbrev Before : TunnelKind → Type 0
    Before kind = IsMirror kind (d.members o.context) (u.members o.context) teid stood.0

    kept : (kind : TunnelKind) → o.kind ≡ kind → (kind ≡ n3 → ⊥) → Before kind → IsMirror kind (d.members o.context) (u.members o.context) teid (stood.0 ++ puts)
    kept kind same other before =
        let none = misses end o was (λ h. other (sym same ∙ h)) in
        stays_so kind (d.members o.context) (u.members o.context) teid stood.0 puts before
        (downs_put ∙ none_on end item_of (tunnels_put ue bearer outputs) none) (ups_put ∙ none_on end up_item (tunnels_put ue bearer outputs) none)

    of_kind : (kind : TunnelKind) → o.kind ≡ kind → Before kind → IsMirror kind (e.members o.context) (u.members o.context) teid (stood.0 ++ puts)
    of_kind n3 same before = downs_both stood.0 puts ∙ (λ i. before i ++ downs_put i) ∙ sym (comes end o was same)
    of_kind forwarding_down same before = kept forwarding_down same (λ h. absurd cc) before ∙ sym (stays.forwarded o.context)
    of_kind forwarding_up same before = kept forwarding_up same (λ h. absurd cc) before
    of_kind f1u_uplink same before = kept f1u_uplink same (λ h. absurd cc) before

    mirrors : IsMirror o.kind (e.members o.context) (u.members o.context) teid items
    mirrors =
        subst (λ (zs : List RunItem). IsMirror o.kind (e.members o.context) (u.members o.context) teid zs) (sym are)
        (of_kind o.kind refl (refined.mirrors end o stood.0 was stood.1))

  at_node : (node : NodeId) (teid : ℕ) (o : Owned) (items : List RunItem) → owned_on n ue bearer t.units node teid ≡ Some o
      → standing t (end_of node teid) ≡ Some items → IsMirror o.kind (e.members o.context) (u.members o.context) teid items
  at_node (up_id g k) teid o items is there = mirrors g k teid o items is there
  at_node (CuCp g) teid o items is there = absurd cc
  at_node (du_id g k) teid o items is there = absurd cc
  at_node Core teid o items is there = absurd cc
  at_node (Ue k) teid o items is there = absurd cc

  has_down : (x : ℕ) (p : Option CuUpModel) → downs.IsIn sn quota (d.members x) p → downs.IsIn sn quota (e.members x) p
  has_down x None h = stays.there x ∙ h
  has_down x (Some p) h = (
    record { there = stays.there x ∙ h.0.there; flags = stays.flags x ∙ h.0.flags; bearer = ap down_of (stays.bearer x) ∙ h.0.bearer },
    h.1,
    h.2,
  )

  core_refined : Refines n ue bearer sn quota t e u
  core_refined =
      let same : contexts_of n ue bearer t.units ≡ contexts_of n ue bearer s.units = contexts_same n ue bearer s.units t.units ups_same in record {
        mirrors = λ end o items is there. at_node end.node end.teid o items is there;
        down = subst (λ (cs : Contexts). downs.Has sn quota e cs) (sym same) (λ x. has_down x (contexts_of n ue bearer s.units x) (refined.down x));
        up = subst (λ (cs : Contexts). ups.Has u cs) (sym same) refined.up;
      }

-- ---- the bearer's tunnel in a list of them

bearer_test : (a b : BearerId) → eq_by_cmp bearer_cmp a b ≡ (b.0 == a.0)
bearer_test a b = by (eq_by_cmp bearer_cmp a b) refl
  where
    itself : (k : ℕ) → (k == k) ≡ true
    itself k = grind arith

    refinement : eq_by_cmp bearer_cmp a a ≡ true
    refinement = ap is_eq (tied_itself bearer_total a)

    unless : (v : Bool) → (b.0 == a.0) ≡ v → eq_by_cmp bearer_cmp a b ≡ false → false ≡ v
    unless false f not = refl
    unless true f not =
        let same : a ≡ b = λ i. record { 0 = sym (eqb-true b.0 a.0 f) i } in
        clash (sym not ∙ ap (λ (c : BearerId). eq_by_cmp bearer_cmp a c) (sym same) ∙ refinement)

    by : (t : Bool) → eq_by_cmp bearer_cmp a b ≡ t → t ≡ (b.0 == a.0)
    by true e =
        let same : a ≡ b = bearer_exact a b ((Equal-is (bearer_cmp a b)).0 e) in
        sym (ap (λ (c : BearerId). c.0 == a.0) (sym same) ∙ itself a.0)
    by false e = unless (b.0 == a.0) refl e

one_teid : (bearer : BearerId) (ts : List Tunnel) (teid : ℕ) → teids_of bearer ts ≡ teid ∷ [] → teid_of ts bearer ≡ teid
one_teid bearer [] teid is = absurd cc
one_teid bearer (t ∷ ts) teid is =
    ap (λ (b : Bool). if b then t.teid else teid_of ts bearer) (sym (bearer_test bearer t.bearer))
    ∙ by (eq_by_cmp bearer_cmp bearer t.bearer) is (one_teid bearer ts teid)
  where
    by : (b : Bool) → (if b then t.teid ∷ [] else []) ++ teids_of bearer ts ≡ teid ∷ [] → (teids_of bearer ts ≡ teid ∷ [] → teid_of ts bearer ≡ teid)
        → (if b then t.teid else teid_of ts bearer) ≡ teid
    by true e later = cc
    by false e later = later e

-- ---- an offered packet

module _ (reading : Reading) (n : Numbering) (ue : UeId) (bearer : BearerId) (sn : SnBits) (quota : ℕ) (s t : RunState) (who : UeId) (which : BearerId)
    (p : List ℕ) (path : CorePath) (step : IsOffer reading s t who which p path) (sound : AreSound s t) (d : down_models.Model) (u : up_models.Model)
    (refined : Refines n ue bearer sn quota s d u) (lead : is_bearer ue bearer who which ≡ true → PathLeads n ue bearer s d) where
  abbrev its_teid : ℕ
  its_teid = teid_of path.n3 which

  abbrev outputs : Outs
  outputs = packet path.up its_teid who which Dl Absent (fresh p) ∷ []

  abbrev noted : RunState
  noted = offered (plain_world reading) (entity who which Dl) s

  went : Ends (plain_world reading) (put_out_all (plain_world reading) Core None (map (written_put (sn_of s)) outputs) noted next check_spans) t
  unfolding put_out_all
  went =
      and_no_more (plain_world reading) Core None
      (put_on_tunnel (plain_world reading) (record { node = path.up; teid = its_teid })
      (record { key = entity who which Dl; count = None; content = (plain_world reading).lay_n3 its_teid p }) noted)
      t step.lines step.goes_on

  follows : (end : TunnelEnd) → standing t end ≡ after_puts end Core None (map (written_put (sn_of s)) outputs) (standing s end)
  follows end = puts_so (plain_world reading) end Core None (map (written_put (sn_of s)) outputs) noted t went.0 went.1

  units_same : t.units ≡ s.units
  units_same = units_put (plain_world reading) Core None (map (written_put (sn_of s)) outputs) noted t went

  -- of the bearer
  own_listed : is_bearer ue bearer who which ≡ true → tunnels_put ue bearer outputs ≡ record { to = path.up; teid = its_teid; load = fresh p } ∷ []
  unfolding tunnels_put
  own_listed own = ap (λ (b : Bool). (if b then record { to = path.up; teid = its_teid; load = fresh p } ∷ [] else []) ++ []) own

  other_listed : is_bearer ue bearer who which ≡ false → tunnels_put ue bearer outputs ≡ []
  unfolding tunnels_put
  other_listed other = ap (λ (b : Bool). (if b then record { to = path.up; teid = its_teid; load = fresh p } ∷ [] else []) ++ []) other

  its_owner : is_bearer ue bearer who which ≡ true → owned_on n ue bearer s.units path.up its_teid ≡ Some (record { context = d.path; kind = n3 })
  its_owner own =
      let pl = lead own in
      let ue_is : ue ≡ who = ue_exact ue who ((Equal-is (ue_cmp ue who)).0 (first_of (eq_by_cmp ue_cmp ue who) (eq_by_cmp bearer_cmp bearer which) own)) in
      let bearer_is : bearer ≡ which =
      bearer_exact bearer which ((Equal-is (bearer_cmp bearer which)).0 (second_of (eq_by_cmp ue_cmp ue who) (eq_by_cmp bearer_cmp bearer which) own)) in
      let both : Some path ≡ Some pl.path = sym step.there ∙ ap (find ue_cmp s.core.paths) (sym ue_is) ∙ pl.there in
      let same : path ≡ pl.path = cc in
      let teid_is : its_teid ≡ pl.teid = (λ i. teid_of ((same i).n3) (sym bearer_is i)) ∙ one_teid bearer pl.path.n3 pl.teid pl.one in
      (λ i. owned_on n ue bearer s.units ((same i).up) (teid_is i)) ∙ pl.leads

  abbrev Refined : down_models.Model → Type 0
  Refined e = Refines n ue bearer sn quota t e u

  by : (b : Bool) → is_bearer ue bearer who which ≡ b → Refined (down.run d (if b then down.offers p ∷ [] else []))
  unfolding down.run
  by true own =
      core_refined n ue bearer sn quota s t sound d u refined outputs (ap (λ (w : PlainUnits). w.ups) units_same) follows (down.run d (down.offers p ∷ []))
      (offer_stays d p)
      (λ end o is kind. offer_comes d p o.context
      ∙ ap (λ (b : Bool). (d.members o.context).n3 ++ (if b then down_models.fresh p ∷ [] else []))
      (on_n3 n ue bearer s.units sound.owned end o is path.up its_teid (record { context = d.path; kind = n3 }) (its_owner own) kind refl)
      ∙ ap (λ (zs : List down_models.Item). (d.members o.context).n3 ++ zs) (sym (append-nil (if is_end end path.up its_teid then down_models.fresh p ∷ [] else [])))
      ∙ ap (λ (ps : List OnTunnel). (d.members o.context).n3 ++ items_on item_of end ps) (sym (own_listed own)))
      (λ end o is other. subst (λ (ps : List OnTunnel). AllByRecursion (λ (k : OnTunnel). is_end end k.to k.teid ≡ false) ps) (sym (own_listed own))
      (of_kinds n ue bearer s.units sound.owned end o is path.up its_teid (record { context = d.path; kind = n3 }) (its_owner own) (λ h. other (sym h)), tt))
  by false other =
      core_refined n ue bearer sn quota s t sound d u refined outputs (ap (λ (w : PlainUnits). w.ups) units_same) follows d (stays_as_is d)
      (λ end o is kind. sym (ap (λ (ps : List OnTunnel). (d.members o.context).n3 ++ items_on item_of end ps) (other_listed other)
      ∙ append-nil (d.members o.context).n3))
      (λ end o is none. subst (λ (ps : List OnTunnel). AllByRecursion (λ (k : OnTunnel). is_end end k.to k.teid ≡ false) ps) (sym (other_listed other)) tt)

  pub offer_refined : Refined (down.run d (orders_offered ue bearer who which p))
  offer_refined = by (is_bearer ue bearer who which) refl

-- ---- a message: an End Marker on the old tunnel of the bearer, and nothing else for it

module _ (ue : UeId) (bearer : BearerId) (up : NodeId) (teid : ℕ) where
  abbrev IsEnd : Output (Message Token) Pdu → Type 0
  IsEnd (packet to q w c dir tag load) = is_bearer ue bearer w c ≡ true → (to ≡ up) × (q ≡ teid) × (load ≡ end_marker)
  IsEnd output = Unit {0}

  abbrev AllEnd : Answer (Message Token) Pdu (CoreRecord (Message Token) Token) → Type 0
  AllEnd (gives outputs v) = AllByRecursion IsEnd outputs
  AllEnd (spent counter) = Unit {0}

  heads : {X : Type 0} (Q : X → Type 0) (t : Bool) (x : X) (xs : List X) → AllByRecursion Q ((if t then x ∷ [] else []) ++ xs)
      → (t ≡ true → Q x) × AllByRecursion Q xs
  heads Q true x xs all = (λ e. all.0, all.1)
  heads Q false x xs all = (λ e. clash e, all)

  ends_all : (other : UeId) (from : NodeId) (ts : List Tunnel)
      → (eq_by_cmp ue_cmp ue other ≡ true → (from ≡ up) × AllByRecursion (λ (q : ℕ). q ≡ teid) (teids_of bearer ts))
      → AllByRecursion IsEnd (map (core_end plain_way other from) ts)
  ends_all other from [] all = tt
  ends_all other from (t ∷ ts) all = (
    λ own.
        let its = all (first_of (eq_by_cmp ue_cmp ue other) (eq_by_cmp bearer_cmp bearer t.bearer) own) in
        let first = heads (λ (q : ℕ). q ≡ teid) (eq_by_cmp bearer_cmp bearer t.bearer) t.teid (teids_of bearer ts) its.1 in
        (its.0, first.0 (second_of (eq_by_cmp ue_cmp ue other) (eq_by_cmp bearer_cmp bearer t.bearer) own), refl),
    ends_all other from ts (λ e. ((all e).0, (heads (λ (q : ℕ). q ≡ teid) (eq_by_cmp bearer_cmp bearer t.bearer) t.teid (teids_of bearer ts) (all e).1).1)),
  )

  module _ (r : CoreRecord (Message Token) Token) (path : CorePath) (there : find ue_cmp r.paths ue ≡ Some path) (at : path.up ≡ up)
      (one : teids_of bearer path.n3 ≡ teid ∷ []) where
    old_all : (other : UeId) (o : Option CorePath) → find ue_cmp r.paths other ≡ o → AllByRecursion IsEnd (old_ends plain_way other o)
    old_all other None is = tt
    old_all other (Some p) is =
        ends_all other p.up p.n3
        (λ e.
        let name : ue ≡ other = ue_exact ue other ((Equal-is (ue_cmp ue other)).0 e) in
        let both : Some p ≡ Some path = sym is ∙ ap (find ue_cmp r.paths) (sym name) ∙ there in
        let same : p ≡ path = cc in (
          ap (λ (k : CorePath). k.up) same ∙ at,
          subst (AllByRecursion (λ (q : ℕ). q ≡ teid)) (sym (ap (λ (k : CorePath). teids_of bearer k.n3) same ∙ one)) (refl, tt),
        ))

    switch_all : (ch : Channel) (other : UeId) (instance : ℕ) (peer : Peer) (ts : List Tunnel) (x : Transactions (Message Token) Token)
        → AllEnd (switch_path plain_way ch other instance peer ts (record r { transactions = x }))
    unfolding switch_path replied
    switch_all ch other instance peer ts x = (tt, old_all other (find ue_cmp r.paths other) refl)

    asked_all : (ch : Channel) (message : Message Token) (x : Transactions (Message Token) Token)
        → AllEnd (asked plain_way ch message (record r { transactions = x }))
    asked_all ch (core (cores.PathSwitchRequest other instance peer ts)) x = switch_all ch other instance peer ts x
    asked_all ch (core (cores.PathSwitchAcknowledge other instance)) x = (tt, tt)
    asked_all ch (f1 message) x = (tt, tt)
    asked_all ch (e1 message) x = (tt, tt)
    asked_all ch (xn message) x = (tt, tt)
    asked_all ch (rrc token) x = (tt, tt)

    came_all : (from : NodeId) (message : Message Token) (kind : Kind) → AllEnd (came plain_way from message r kind)
    unfolding on_request
    came_all from message (request other instance) = by (verdict r.transactions.callee (channel other from) instance)
      where
        again_all : (o : Option (Message Token)) → AllEnd (answered_again plain_way r (channel other from) o)
        again_all None = tt
        again_all (Some m) = (tt, tt)

        by : (v : Verdict) → AllEnd (request_by plain_way r r.transactions (channel other from) instance
            (λ x. asked plain_way (channel other from) message (record r { transactions = x })) v)
        by new = asked_all (channel other from) message (record r.transactions { callee = taken r.transactions.callee (channel other from) instance })
        by again = again_all (kept_reply r.transactions.callee (channel other from))
        by stale = (tt, tt)
    came_all from message (reply other instance) = (tt, tt)
    came_all from message (transfer other) = (tt, tt)

    core_all : (from : NodeId) (message : Message Token) → AllEnd (core_acts plain_way r from message)
    unfolding core_acts
    core_all (CuCp gnb) message = came_all (CuCp gnb) message (kind_of message)
    core_all (up_id gnb number) message = (tt, tt)
    core_all (du_id gnb number) message = (tt, tt)
    core_all Core message = (tt, tt)
    core_all (Ue k) message = (tt, tt)

  -- so what comes to the context that the tunnel ends at is that End Marker
  all_ends : (os : Outs) → AllByRecursion IsEnd os → AllByRecursion (λ (k : OnTunnel). (k.to ≡ up) × (k.teid ≡ teid)) (tunnels_put ue bearer os)
  unfolding tunnels_put
  all_ends [] all = tt
  all_ends (packet to q w c dir tag load ∷ os) all = by (is_bearer ue bearer w c) refl (all_ends os all.1)
    where
      by : (b : Bool) → is_bearer ue bearer w c ≡ b → AllByRecursion (λ (k : OnTunnel). (k.to ≡ up) × (k.teid ≡ teid)) (tunnels_put ue bearer os)
          → AllByRecursion (λ (k : OnTunnel). (k.to ≡ up) × (k.teid ≡ teid)) ((if b then record { to = to; teid = q; load = load } ∷ [] else []) ++ tunnels_put ue bearer os)
      by true own later = (((all.0 own).0, (all.0 own).1), later)
      by false own later = later
  all_ends (control to u message ∷ os) all = all_ends os all.1
  all_ends (radio u b dir epoch tag pdu ∷ os) all = all_ends os all.1
  all_ends (deliver u b dir count q ∷ os) all = all_ends os all.1
  all_ends (dropped reason ∷ os) all = all_ends os all.1
  all_ends (held reason ∷ os) all = all_ends os all.1
  all_ends (opened q ∷ os) all = all_ends os all.1
  all_ends (closed q ∷ os) all = all_ends os all.1
  all_ends (failed u cause ∷ os) all = all_ends os all.1
  all_ends (no reason ∷ os) all = all_ends os all.1

  module _ (places : told.Places) (end : TunnelEnd) (x : ℕ) (test : (x == places up teid) ≡ is_end end up teid) where
    placed : (os : Outs) → AllByRecursion IsEnd os → items_put places ue bearer x os ≡ items_on item_of end (tunnels_put ue bearer os)
    unfolding items_put tunnels_put
    placed [] all = refl
    placed (packet to q w c dir tag load ∷ os) all = by (eq_by_cmp ue_cmp ue w) refl (eq_by_cmp bearer_cmp bearer c) refl (placed os all.1)
      where
        by : (a : Bool) → eq_by_cmp ue_cmp ue w ≡ a → (b : Bool) → eq_by_cmp bearer_cmp bearer c ≡ b
            → items_put places ue bearer x os ≡ items_on item_of end (tunnels_put ue bearer os)
            → (if a && b && x == places to q then told.item_of load else []) ++ items_put places ue bearer x os
            ≡ items_on item_of end ((if a && b then record { to = to; teid = q; load = load } ∷ [] else []) ++ tunnels_put ue bearer os)
        by false e b f later = later
        by true e false f later = later
        by true e true f later =
            let its = all.0 (λ i. e i && f i) in
            (λ i. (if x == places (its.0 i) (its.1 i) then told.item_of (its.2 i) else []) ++ later i)
            ∙ ap (λ (c : Bool). (if c then down_models.end_marker ∷ [] else []) ++ items_on item_of end (tunnels_put ue bearer os)) test
            ∙ sym (λ i. (if is_end end (its.0 i) (its.1 i) then item_of (its.2 i) else []) ++ items_on item_of end (tunnels_put ue bearer os))
    placed (control to u message ∷ os) all = placed os all.1
    placed (radio u b dir epoch tag pdu ∷ os) all = placed os all.1
    placed (deliver u b dir count q ∷ os) all = placed os all.1
    placed (dropped reason ∷ os) all = placed os all.1
    placed (held reason ∷ os) all = placed os all.1
    placed (opened q ∷ os) all = placed os all.1
    placed (closed q ∷ os) all = placed os all.1
    placed (failed u cause ∷ os) all = placed os all.1
    placed (no reason ∷ os) all = placed os all.1

orders_stay : (d : down_models.Model) (places : told.Places) (goal : Option Goal) → Stays d (down.run d (orders_to places goal))
unfolding down.run
orders_stay d places None = stays_as_is d
orders_stay d places (Some goal) = by goal.teids
  where
    by : (teids : List ℕ) → Stays d (down.run d (to_first places goal.up teids))
    by [] = stays_as_is d
    by (teid ∷ teids) = switch_stays d (places goal.up teid)

module _ (reading : Reading) (n : Numbering) (ue : UeId) (bearer : BearerId) (sn : SnBits) (quota : ℕ) (s t : RunState) (number : ℕ)
    (l : ControlMessage (Message Token)) (outputs : Outs) (core : CoreRecord (Message Token) Token) (step : IsCoreStep reading s t number l outputs core)
    (sound : AreSound s t) (d : down_models.Model) (u : up_models.Model) (refined : Refines n ue bearer sn quota s d u) (lead : PathLeads n ue bearer s d)
    (one : IsOne (goal_by ue bearer s.core l.from l.message)) where
  abbrev at_core : RunState
  at_core = record s { core = core; bag = landed s.bag number }

  its_end : Ends (plain_world reading) (put_out_all (plain_world reading) Core None (map (written_put (sn_of s)) outputs) at_core next check_spans) t
  its_end =
      after_told (plain_world reading) (got_message number l ∷ [])
      (put_out_all (plain_world reading) Core None (map (written_put (sn_of s)) outputs) at_core) t step.lines step.goes_on

  abbrev places : told.Places
  places = places_of n ue bearer s.units

  is_path : IsPath places s.core ue bearer d
  is_path = record { path = lead.path; teid = lead.teid; there = lead.there; one = lead.one; place = sym (ap context_of lead.leads) }

  after_it : IsAfter places ue bearer d (down.run d (orders_told n ue bearer s l)) outputs core
  unfolding Follows
  after_it =
      subst (Follows places ue bearer d (down.run d (orders_told n ue bearer s l))) step.answers
      (control_message_follows plain_way places ue bearer s.core d is_path l.from l.message one)

  all_its_ends : AllByRecursion (IsEnd ue bearer lead.path.up lead.teid) outputs
  all_its_ends =
      subst (AllEnd ue bearer lead.path.up lead.teid) step.answers
      (core_all ue bearer lead.path.up lead.teid s.core lead.path lead.there refl lead.one l.from l.message)

  abbrev path_owner : Owned
  path_owner = record { context = d.path; kind = n3 }

  pub message_refined : Refines n ue bearer sn quota t (down.run d (orders_told n ue bearer s l)) u
  message_refined =
      core_refined n ue bearer sn quota s t sound d u refined outputs
      (ap (λ (w : PlainUnits). w.ups) (units_put (plain_world reading) Core None (map (written_put (sn_of s)) outputs) at_core t its_end))
      (λ end. puts_so (plain_world reading) end Core None (map (written_put (sn_of s)) outputs) at_core t its_end.0 its_end.1)
      (down.run d (orders_told n ue bearer s l)) (orders_stay d places (goal_by ue bearer s.core l.from l.message))
      (λ end o is kind. after_it.n3 o.context
      ∙ ap (λ (zs : List down_models.Item). (d.members o.context).n3 ++ zs)
      (placed ue bearer lead.path.up lead.teid places end o.context
      (ap (λ (y : ℕ). o.context == y) (ap context_of lead.leads)
      ∙ on_n3 n ue bearer s.units sound.owned end o is lead.path.up lead.teid path_owner lead.leads kind refl)
      outputs all_its_ends))
      (λ end o is other. missed end (of_kinds n ue bearer s.units sound.owned end o is lead.path.up lead.teid path_owner lead.leads (λ h. other (sym h)))
      (tunnels_put ue bearer outputs) (all_ends ue bearer lead.path.up lead.teid outputs all_its_ends))
    where
      missed : (end : TunnelEnd) → is_end end lead.path.up lead.teid ≡ false → (ps : List OnTunnel)
          → AllByRecursion (λ (k : OnTunnel). (k.to ≡ lead.path.up) × (k.teid ≡ lead.teid)) ps
          → AllByRecursion (λ (k : OnTunnel). is_end end k.to k.teid ≡ false) ps
      missed end none [] all = tt
      missed end none (k ∷ ps) all = ((λ i. is_end end (all.0.0 i) (all.0.1 i)) ∙ none, missed end none ps all.1)

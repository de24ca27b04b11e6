-- Where the core's path leads after each kind of step.
use Rattle.std.proofs.Common.{◌≡◌, ◌==◌, ◌+◌, ℕ, Bool, true, false, ◌&&◌, ◌||◌, List, [], ◌∷◌, map, Option, Some, None, refl, sym, ap, subst, ◌∙◌, eqb-true, arith}
use Rattle.std.specs.Prelude.{if◌then◌else◌}
use Rattle.std.specs.Ordering.{is_eq}
use Rattle.std.specs.Cmp.{tied_itself}
use Rattle.gnb_types.specs.declared.names.Gnb.{Gnb}
use Rattle.gnb_types.specs.declared.names.NodeId.{NodeId}
use Rattle.gnb_types.specs.declared.names.NodeId.TheVariants.{CuUp as up_id, Core}
use Rattle.gnb_types.specs.declared.names.SnBits.{SnBits}
use Rattle.gnb_types.specs.declared.names.UeId.{UeId}
use Rattle.gnb_types.specs.declared.names.BearerId.{BearerId}
use Rattle.gnb_types.specs.declared.names.Dir.TheVariants.{Dl}
use Rattle.gnb_types.specs.declared.keys.TunnelEnd.{TunnelEnd}
use Rattle.gnb_types.specs.declared.outputs.Tag.TheVariants.{Absent}
use Rattle.gnb_types.specs.Orders.{ue_cmp}
use Rattle.gnb_types.proofs.OrderLemmas.{ue_total, bearer_total}
use Rattle.tables.specs.Tables.{find}
use Rattle.message_types.specs.declared.rrc.Token.{Token}
use Rattle.pdcp_defs.specs.Senders.{window}
use Rattle.unit_defs.specs.Ways.{Message, fresh, packet}
use Rattle.unit_defs.specs.Messages.{teid_of}
use Rattle.unit_defs.specs.CuUpRecords.{CuUpBearer, TunnelKind, n3, f1u_uplink, forwarding_down, forwarding_up}
use Rattle.unit_defs.specs.CuUpBearers.{is_one_of}
use Rattle.unit_defs.specs.Core.{CoreRecord}
use Rattle.run_defs.specs.Lines.{got_message, RunLine}
use Rattle.run_defs.specs.Units.{cu_up_of, with_cu_up, with_du}
use Rattle.run_defs.specs.Written.{written_put}
use Rattle.run_defs.specs.States.{entity, sn_of, ◌next◌}
use Rattle.run_defs.specs.Steps.{check_spans, put_on_tunnel, put_out_all}
use Rattle.run_defs.specs.Events.{offered}
use Rattle.run_defs.specs.Runs.{Reading, plain_world, plain_way}
use Rattle.transport_defs.specs.Links.{landed}
use Rattle.proof_run_steps.proofs.steps.Frames.{HasUnits, units_by, act_units}
use Rattle.proof_node_orders.specs.core_rows.Shown.{Places, IsPath, Goal, goal_by, to_first, orders_to, IsOne, Follows, IsAfter}
use Rattle.proof_node_orders.proofs.core_rows.Rows.{control_message_follows}
use Rattle.bearer_defs.specs.chain_defs.Models as down_models
use Rattle.bearer_defs.specs.chain_defs.Models.{is_open}
use Rattle.bearer_defs.specs.chain_defs.Orders as down
use Rattle.law_downlink_order.proofs.chain.Facts as chain
use Rattle.law_downlink_order.proofs.chain.Runs.{stream, agrees, kept_run, good_start}
use Rattle.proof_cu_up_orders.specs.context_orders.Orders.{CuUpModel, model_of}
use Rattle.proof_cu_up_orders.specs.context_orders.Inputs.{orders_of}
use Rattle.proof_cu_up_orders.specs.context_orders.Shown.{is_bearer}
use Rattle.proof_cu_up_orders.specs.bearer_orders.Down as downs
use Rattle.law_tunnels_are_owned.specs.owner_facts.Owned.{ends_of, AreOwned}
use Rattle.proof_bearer_refinement.specs.run_bearers.Things.{PlainUnits}
use Rattle.proof_bearer_refinement.specs.run_bearers.Bearers.{Place, Numbering, if_of, at_place, contexts_of}
use Rattle.proof_bearer_refinement.specs.refinement_facts.Refinements.{RunState, Owned, owned_by, owned_on, owned_at}
use Rattle.proof_bearer_refinement.specs.refinement_facts.Asked.{AreSound, context_at, beside_of}
use Rattle.proof_cu_up_orders.specs.context_tests.Tests.{is_final}
use Rattle.law_tunnels_are_owned.proofs.open_tunnels.Links.{end_of}
use Rattle.proof_bearer_refinement.proofs.refinement_facts.Ends.{clash}
use Rattle.proof_bearer_refinement.proofs.refinement_facts.Puts.{Outs}
use Rattle.proof_bearer_refinement.proofs.du_puts.Apart.{on_same, end_same, on_n3}
use Rattle.proof_bearer_refinement.proofs.du_puts.Stands.{Ends, after_told, and_no_more, units_put, ups_stay}
use Rattle.proof_bearer_refinement.proofs.cu_up_opens.Opened.{owners_stay}
use Rattle.law_handover_delivers.specs.assumptions.WellLinked.{IsOld}
use Rattle.law_handover_delivers.proofs.assumptions.Rooms.{open_as}
use Rattle.proof_bearer_refinement.specs.core_step.Core.{context_of, places_of}
use Rattle.proof_bearer_refinement.specs.runs.Steps.{Point, IsRefined, DuActs}
use Rattle.law_handover_delivers.specs.assumed_runs.Assuming.{IsWellLinkedAt, CuUpActs}
use Rattle.law_handover_delivers.proofs.assumed_runs.Grows.{opened_at, not_there}
use Rattle.law_handover_delivers.specs.core_path.Paths.{CameAbout, PathStays, NamesN3, LeadsAt, CoreOffers, CoreTakes, StaysInFrame}
use Rattle.law_handover_delivers.proofs.core_path.Cores.{core_put, core_stays, same_path}
use Rattle.law_handover_delivers.proofs.core_path.Orders.{asked_path, radio_path, offered_path}

number_same : (a : ℕ) → (a == a) ≡ true
number_same a = grind arith

abbrev n3_of : ℕ → Owned
n3_of x = record { context = x; kind = n3 }

-- ---- the context that the model sends to is there, and its N3 is open

module _ (sn : SnBits) (quota : ℕ) (d : down_models.Model) (came : CameAbout sn quota d) where
  p : ℕ → List ℕ
  p = stream (down.offers_in came.orders)

  good : chain.Good p (window sn quota) d
  unfolding down_models.initial p stream
  good =
      subst (λ (e : down_models.Model). chain.Good p (window sn quota) e) (sym came.is)
      (kept_run p sn quota (down_models.initial came.first came.teid) came.orders (good_start p (window sn quota) came.first came.teid) came.kept
      (agrees (down.offers_in came.orders)))

  pub path_there : (d.members d.path).is_there ≡ true
  path_there = ((good.1.each d.path).path refl).is_there

  pub path_open : is_open (d.members d.path).bearer.n3 ≡ true
  path_open = ((good.1.each d.path).path refl).is_open

-- so a CU-UP has it, with a TEID of N3
module _ (n : Numbering) (ue : UeId) (bearer : BearerId) (sn : SnBits) (quota : ℕ) (units : PlainUnits) (d : down_models.Model)
    (came : CameAbout sn quota d) (has : downs.Has sn quota d (contexts_of n ue bearer units)) where
  pub record HasN3 : Type 0 where
    pub part : CuUpModel
    pub there : contexts_of n ue bearer units d.path ≡ Some part
    pub teid : ℕ
    pub is : part.bearer.n3 ≡ Some teid

  pub has_n3 : HasN3
  has_n3 = by (contexts_of n ue bearer units d.path) refl (has d.path)
    where
      some_teid : (o : Option ℕ) → is_open o ≡ true → (teid : ℕ) × (o ≡ Some teid)
      some_teid None e = clash e
      some_teid (Some teid) e = (teid, refl)

      by : (o : Option CuUpModel) → contexts_of n ue bearer units d.path ≡ o → downs.IsIn sn quota (d.members d.path) o → HasN3
      by None e is = clash (sym is ∙ path_there sn quota d came)
      by (Some w) e is =
          let its : (teid : ℕ) × (w.bearer.n3 ≡ Some teid)
          = some_teid w.bearer.n3 (ap (λ (b : CuUpBearer). is_open b.n3) (sym is.0.bearer) ∙ path_open sn quota d came) in
          record { part = w; there = e; teid = its.0; is = its.1 }

  -- and that TEID is open as the bearer's
  pub record IsOpenThere : Type 0 where
    pub gnb : Gnb
    pub number : ℕ
    pub teid : ℕ
    pub owned : owned_on n ue bearer units (up_id gnb number) teid ≡ Some (n3_of d.path)

  itself : is_bearer ue bearer ue bearer ≡ true
  itself i = ap is_eq (tied_itself ue_total ue) i && ap is_eq (tied_itself bearer_total bearer) i

  pub open_there : AreOwned units → IsOpenThere
  open_there owned = by (n.place_of d.path) refl has_n3.there
    where
      h : HasN3
      h = has_n3

      has_end : is_one_of (ends_of n3 h.part.bearer) h.teid ≡ true
      has_end = ap (λ (o : Option ℕ). is_one_of (ends_of n3 (record h.part.bearer { n3 = o })) h.teid) h.is ∙ (λ i. number_same h.teid i || false)

      at_it : (place : Place) → n.place_of d.path ≡ Some place → (w : CuUpModel) → model_of (cu_up_of units place.gnb place.number) ue bearer ≡ Some w
          → (b : Bool) → (w.instance == place.instance) ≡ b → (if b then Some w else None) ≡ Some h.part → IsOpenThere
      at_it place at w there false e is = absurd cc
      at_it place at w there true e is =
          let same : w ≡ h.part = cc in
          let instance : h.part.instance ≡ place.instance = sym (ap (λ (k : CuUpModel). k.instance) same) ∙ eqb-true w.instance place.instance e in
          record {
            gnb = place.gnb;
            number = place.number;
            teid = h.teid;
            owned = ap (owned_by n ue bearer place.gnb place.number)
                (open_as (cu_up_of units place.gnb place.number) (owned.0 place.gnb place.number) ue bearer h.part
                (there ∙ ap (λ (k : CuUpModel). Some k) same) n3 h.teid has_end)
                ∙ ap (λ (b : Bool). if b then Some (n3_of (n.number_of (record { gnb = place.gnb; number = place.number; instance = h.part.instance }))) else None) itself
                ∙ ap (λ (k : ℕ). Some (n3_of (n.number_of (record { gnb = place.gnb; number = place.number; instance = k })))) instance
                ∙ ap (λ (x : ℕ). Some (n3_of x)) (n.back d.path place at);
          }

      by_model : (place : Place) → n.place_of d.path ≡ Some place → (o : Option CuUpModel) → model_of (cu_up_of units place.gnb place.number) ue bearer ≡ o
          → if_of place.instance o ≡ Some h.part → IsOpenThere
      by_model place at None there is = absurd cc
      by_model place at (Some w) there is = at_it place at w there (w.instance == place.instance) refl is

      by : (o : Option Place) → n.place_of d.path ≡ o → at_place ue bearer units o ≡ Some h.part → IsOpenThere
      by None at is = absurd cc
      by (Some place) at is = by_model place at (model_of (cu_up_of units place.gnb place.number) ue bearer) refl is

-- ---- which N3 tunnel a TEID is of, from 1 on; 0 for none

abbrev coded_kind : TunnelKind → ℕ → ℕ
coded_kind n3 x = x + 1
coded_kind kind x = 0

abbrev coded : Option Owned → ℕ
coded None = 0
coded (Some o) = coded_kind o.kind o.context

decoded : (o : Option Owned) (x : ℕ) → coded o ≡ x + 1 → o ≡ Some (n3_of x)
decoded None x is = absurd (omega (arith, is))
decoded (Some o) x is = by o.kind o.context is
  where
    by : (kind : TunnelKind) (c : ℕ) → coded_kind kind c ≡ x + 1 → Some (record { context = c; kind = kind }) ≡ Some (n3_of x)
    by n3 c e = let same : c ≡ x = omega (arith, e) in ap (λ (z : ℕ). Some (n3_of z)) same
    by f1u_uplink c e = absurd (omega (arith, e))
    by forwarding_down c e = absurd (omega (arith, e))
    by forwarding_up c e = absurd (omega (arith, e))

pub is_one : (n : Numbering) (ue : UeId) (bearer : BearerId) (units : PlainUnits) (goal : Option Goal) → NamesN3 n ue bearer units goal → IsOne goal
is_one n ue bearer units None names = tt
is_one n ue bearer units (Some goal) names = (names.0, names.2)

-- ---- each kind of step

module _ (reading : Reading) (n : Numbering) (ue : UeId) (bearer : BearerId) (sn : SnBits) (quota : ℕ) (p q : Point)
    (leads : LeadsAt reading n ue bearer sn quota p) where
  -- where the core keeps its path, and the model too, and whose that tunnel is
  by_same : PathStays ue p.state q.state
      → owned_on n ue bearer q.state.units leads.path.up leads.teid ≡ Some (n3_of p.down.path) → q.down.path ≡ p.down.path
      → LeadsAt reading n ue bearer sn quota q
  by_same path owned same = record {
    path = leads.path;
    teid = leads.teid;
    there = path ∙ leads.there;
    one = leads.one;
    leads = owned ∙ ap (λ (x : ℕ). Some (n3_of x)) (sym same);
  }

  by_ups : PathStays ue p.state q.state → q.state.units.ups ≡ p.state.units.ups → q.down.path ≡ p.down.path → LeadsAt reading n ue bearer sn quota q
  by_ups path ups same = by_same path (on_same n ue bearer p.state.units q.state.units ups leads.path.up leads.teid ∙ leads.leads) same

  pub du_leads : DuActs reading n ue bearer sn quota p q → LeadsAt reading n ue bearer sn quota q
  du_leads a =
      by_ups
      (same_path ue p.state q.state
      (core_stays (plain_world reading) a.cause (map (written_put (sn_of p.state)) a.outputs) (with_du p.state.units a.gnb a.number a.left) p.state q.state
      a.acts.lines a.acts.goes_on))
      (ap (λ (w : PlainUnits). w.ups) units_then ∙ ups_stay (plain_world reading) a.cause (with_du p.state.units a.gnb a.number a.left))
      (ap (λ (k : down_models.Model). k.path) a.down)
    where
      units_then : q.state.units ≡ units_by (plain_world reading) a.cause (with_du p.state.units a.gnb a.number a.left)
      units_then =
          subst (HasUnits (plain_world reading) {X = RunLine (Message Token)} (units_by (plain_world reading) a.cause (with_du p.state.units a.gnb a.number a.left)))
          a.acts.goes_on
          (act_units (plain_world reading) a.cause (map (written_put (sn_of p.state)) a.outputs) (with_du p.state.units a.gnb a.number a.left) p.state)

  module _ (a : CoreOffers reading n ue bearer sn quota p q) where
    abbrev outputs : Outs
    outputs = packet a.path.up (teid_of a.path.n3 a.which) a.who a.which Dl Absent (fresh a.packet) ∷ []

    abbrev its_noted : RunState
    its_noted = offered (plain_world reading) (entity a.who a.which Dl) p.state

    went : Ends (plain_world reading) (put_out_all (plain_world reading) Core None (map (written_put (sn_of p.state)) outputs) its_noted next check_spans) q.state
    unfolding put_out_all
    went =
        and_no_more (plain_world reading) Core None
        (put_on_tunnel (plain_world reading) (record { node = a.path.up; teid = teid_of a.path.n3 a.which })
        (record { key = entity a.who a.which Dl; count = None; content = (plain_world reading).lay_n3 (teid_of a.path.n3 a.which) a.packet }) its_noted)
        q.state a.offers.lines a.offers.goes_on

    pub offer_leads : LeadsAt reading n ue bearer sn quota q
    offer_leads =
        by_ups (same_path ue p.state q.state (core_put (plain_world reading) Core None (map (written_put (sn_of p.state)) outputs) its_noted q.state went))
        (ap (λ (w : PlainUnits). w.ups) (units_put (plain_world reading) Core None (map (written_put (sn_of p.state)) outputs) its_noted q.state went))
        (ap (λ (k : down_models.Model). k.path) a.down ∙ offered_path p.down ue bearer a.who a.which a.packet)

  pub beside_leads : StaysInFrame reading n ue bearer sn quota p q → LeadsAt reading n ue bearer sn quota q
  beside_leads a =
      by_same a.path (a.stays.rest.owners (end_of leads.path.up leads.teid) ∙ leads.leads)
      (ap (λ (k : down_models.Model). k.path) a.stays.down ∙ radio_path p.down a.stays.radio a.stays.of_radio)

  -- ---- a message: by what a path switch names

  module _ (a : CoreTakes reading n ue bearer sn quota p q) where
    abbrev goal : Option Goal
    goal = goal_by ue bearer p.state.core a.control_message.from a.control_message.message

    abbrev places : Places
    places node teid = coded (owned_on n ue bearer p.state.units node teid)

    abbrev before : down_models.Model
    before = record p.down { path = p.down.path + 1 }

    is_path : IsPath places p.state.core ue bearer before
    is_path = record { path = leads.path; teid = leads.teid; there = leads.there; one = leads.one; place = sym (ap coded leads.leads) }

    after_it : IsAfter places ue bearer before (down.run before (orders_to places goal)) a.outputs a.core
    unfolding Follows
    after_it =
        subst (Follows places ue bearer before (down.run before (orders_to places goal))) a.takes.answers
        (control_message_follows plain_way places ue bearer p.state.core before is_path a.control_message.from a.control_message.message
        (is_one n ue bearer p.state.units goal a.names))

    codes : (g : Option Goal) → NamesN3 n ue bearer p.state.units g
        → (down.run before (orders_to places g)).path ≡ (down.run p.down (orders_to (places_of n ue bearer p.state.units) g)).path + 1
    unfolding down.run down.after
    codes None names = refl
    codes (Some g) names =
        ap (λ (ts : List ℕ). (down.run before (to_first places g.up ts)).path) names.2 ∙ ap coded names.3
        ∙ sym (ap (λ (ts : List ℕ). (down.run p.down (to_first (places_of n ue bearer p.state.units) g.up ts)).path + 1) names.2
        ∙ ap (λ (o : Option Owned). context_of o + 1) names.3)

    abbrev at_core : RunState
    at_core = record p.state { core = a.core; bag = landed p.state.bag a.number }

    its_end : Ends (plain_world reading) (put_out_all (plain_world reading) Core None (map (written_put (sn_of p.state)) a.outputs) at_core next check_spans) q.state
    its_end =
        after_told (plain_world reading) (got_message a.number a.control_message ∷ [])
        (put_out_all (plain_world reading) Core None (map (written_put (sn_of p.state)) a.outputs) at_core) q.state a.takes.lines a.takes.goes_on

    pub message_leads : LeadsAt reading n ue bearer sn quota q
    message_leads = record {
      path = after_it.path.path;
      teid = after_it.path.teid;
      there = ap (λ (c : CoreRecord (Message Token) Token). find ue_cmp c.paths ue)
          (core_put (plain_world reading) Core None (map (written_put (sn_of p.state)) a.outputs) at_core q.state its_end) ∙ after_it.path.there;
      one = after_it.path.one;
      leads = on_same n ue bearer p.state.units q.state.units
          (ap (λ (w : PlainUnits). w.ups) (units_put (plain_world reading) Core None (map (written_put (sn_of p.state)) a.outputs) at_core q.state its_end))
          after_it.path.path.up after_it.path.teid
          ∙ decoded (owned_on n ue bearer p.state.units after_it.path.path.up after_it.path.teid) q.down.path
          (sym after_it.path.place ∙ codes goal a.names ∙ ap (λ (k : down_models.Model). k.path + 1) (sym a.down));
    }

  -- ---- a CU-UP: the N3 of the context that the model sends to is open then too, and it was open before, as the path's

  module _ (a : CuUpActs reading n ue bearer sn quota p q) (sound : AreSound p.state q.state) (refinements : IsRefined reading n ue bearer sn quota p)
      (refinements_then : IsRefined reading n ue bearer sn quota q) (well_linked : IsWellLinkedAt reading n ue bearer sn quota p) (came : CameAbout sn quota p.down)
      (came_then : CameAbout sn quota q.down) where
    same_model : q.down.path ≡ p.down.path
    same_model =
        ap (λ (k : down_models.Model). k.path) a.down
        ∙ asked_path n ue bearer p.state.units sn quota (context_at n ue bearer p.state.units a.gnb a.number)
        (beside_of a.cause (record a.beside { final = is_final a.input })) p.down (contexts_of n ue bearer p.state.units)
        (orders_of plain_way (cu_up_of p.state.units a.gnb a.number) ue bearer a.input)

    open_then : IsOpenThere n ue bearer sn quota q.state.units q.down came_then refinements_then.down
    open_then = open_there n ue bearer sn quota q.state.units q.down came_then refinements_then.down sound.owned_after

    abbrev its_node : NodeId
    its_node = up_id open_then.gnb open_then.number

    abbrev n3_end : TunnelEnd
    n3_end = end_of its_node open_then.teid

    owned_then : owned_at n ue bearer q.state.units n3_end ≡ Some (n3_of p.down.path)
    owned_then = open_then.owned ∙ ap (λ (x : ℕ). Some (n3_of x)) same_model

    old : HasN3 n ue bearer sn quota p.state.units p.down came refinements.down → IsOld n ue bearer p.state.units p.down.path
    old h = (well_linked p.down.path h.part h.there).old

    owned_before : owned_at n ue bearer p.state.units n3_end ≡ Some (n3_of p.down.path)
    owned_before = by (owned_at n ue bearer p.state.units n3_end) refl
      where
        by : (o : Option Owned) → owned_at n ue bearer p.state.units n3_end ≡ o → owned_at n ue bearer p.state.units n3_end ≡ Some (n3_of p.down.path)
        by (Some w) was =
            let same : w ≡ n3_of p.down.path
            = owners_stay reading n ue bearer p.state q.state a.gnb a.number a.cause a.input a.outputs a.left a.acts sound n3_end w (n3_of p.down.path) was
            owned_then in
            was ∙ ap (λ (o : Owned). Some o) same
        by None none =
            let opens = opened_at reading n ue bearer p.state q.state a.gnb a.number a.cause a.input a.outputs a.left a.acts sound its_node open_then.teid
            (n3_of p.down.path) none owned_then in
            clash (sym (not_there reading n ue bearer p.state q.state a.gnb a.number a.cause a.input a.outputs a.left a.acts sound open_then.teid
            (n3_of p.down.path) opens.1 n3 p.down.path refl (old (has_n3 n ue bearer sn quota p.state.units p.down came refinements.down)))
            ∙ number_same p.down.path)

    same_end : n3_end ≡ end_of leads.path.up leads.teid
    same_end =
        end_same n3_end leads.path.up leads.teid
        (sym (on_n3 n ue bearer p.state.units sound.owned n3_end (n3_of p.down.path) owned_before leads.path.up leads.teid (n3_of p.down.path) leads.leads
        refl refl) ∙ number_same p.down.path)

    pub cu_up_leads : LeadsAt reading n ue bearer sn quota q
    cu_up_leads =
        by_same
        (same_path ue p.state q.state
        (core_stays (plain_world reading) a.cause (map (written_put (sn_of p.state)) a.outputs) (with_cu_up p.state.units a.gnb a.number a.left) p.state q.state
        a.acts.lines a.acts.goes_on))
        (ap (λ (e : TunnelEnd). owned_at n ue bearer q.state.units e) (sym same_end) ∙ owned_then) same_model

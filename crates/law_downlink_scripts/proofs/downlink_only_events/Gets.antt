-- The oldest item of a tunnel is got, whichever node it leads to.
use Rattle.std.proofs.Common.{◌≡◌, ◌==◌, ℕ, Bool, true, false, ◌||◌, List, [], ◌∷◌, Option, Some, None, refl, sym, ap, ◌∙◌, subst, eqb-true}
use Rattle.std.specs.Prelude.{is_some}
use Rattle.std.specs.Ordering.{nat_cmp}
use Rattle.gnb_types.specs.declared.names.Gnb.{Gnb}
use Rattle.gnb_types.specs.declared.names.NodeId.{NodeId}
use Rattle.gnb_types.specs.declared.names.NodeId.TheVariants.{CuCp, CuUp as up_id, Du as du_id, Core, Ue}
use Rattle.gnb_types.specs.declared.names.UeId.{UeId}
use Rattle.gnb_types.specs.declared.names.BearerId.{BearerId}
use Rattle.gnb_types.specs.declared.reasons.RefuseReason.TheVariants.{NoSuch, Empty}
use Rattle.gnb_types.specs.declared.keys.TunnelEnd.{TunnelEnd}
use Rattle.gnb_types.specs.Orders.{tunnel_cmp}
use Rattle.tables.specs.Tables.{find}
use Rattle.scenario_text.specs.declared.event.Event.{Event}
use Rattle.scenario_text.specs.declared.event.Event.TheVariants as events
use Rattle.unit_defs.specs.CuUpRecords.{TunnelKind, n3, f1u_uplink, forwarding_down, forwarding_up, CuUpTunnel}
use Rattle.unit_defs.specs.CuUpBearers.{is_one_of, teid_in}
use Rattle.unit_defs.specs.Du.{DuTunnel}
use Rattle.run_defs.specs.Lines.{was_refused}
use Rattle.run_defs.specs.Units.{cu_up_of, du_of}
use Rattle.run_defs.specs.Events.{get_done, get_on, get}
use Rattle.run_defs.specs.Runs.{Reading, plain_world}
use Rattle.law_tunnels_are_owned.specs.open_tunnels.Open.{is_open_in, StandWhereOpen}
use Rattle.law_tunnels_are_owned.specs.link_items.Items.{ItemsShow}
use Rattle.law_tunnels_are_owned.specs.owner_facts.Owned.{ends_of as teids_of, AreOwned}
use Rattle.law_downlink_scripts.specs.downlink_only_rows.DownlinkOnly.{TheEnds}
use Rattle.proof_cu_up_orders.specs.context_orders.Orders.{CuUpModel, model_of as up_model_of}
use Rattle.proof_node_orders.specs.du_inputs.Changes.{DuModel, model_of as du_model_of}
use Rattle.law_downlink_scripts.proofs.downlink_only_facts.Views.{PlainState, OnTunnel, View, Sees, IsFit, IsInOrder, Stage, comes, lacks, stands, AllStand}
use Rattle.law_downlink_scripts.proofs.downlink_only_facts.Ends.{UpNamed, up_named, DuNamed, du_named}
use Rattle.law_downlink_scripts.proofs.downlink_only_facts.Moves.{Fares}
use Rattle.law_downlink_scripts.proofs.downlink_only_facts.Does as steps
use Rattle.law_downlink_scripts.proofs.downlink_only_steps.GetItems.{n3_fares, uplink_fares}
use Rattle.law_downlink_scripts.proofs.downlink_only_steps.Dus.{downlink_fares}

pub among_one : (a teid : ℕ) → is_one_of (a ∷ []) teid ≡ true → a ≡ teid
among_one a teid h = eqb-true a teid (by (a == teid) h)
  where
    by : (t : Bool) → t || false ≡ true → t ≡ true
    by true e = refl
    by false e = e

module _ (reading : Reading) (s : PlainState) (owned : AreOwned s.units) (where_open : StandWhereOpen s) (shows : ItemsShow s) (all : AllStand s) (at : NodeId) (number : ℕ) where
  abbrev event : Event
  event = events.Get at number

  module _ (item : OnTunnel) (rest : List OnTunnel) where
    abbrev DoneFor : TunnelEnd → UeId → BearerId → Type 0
    DoneFor end who q =
        steps.DoneFares reading who q event refl s (all who q).delivered (all who q).left (all who q).stage
        (get_done (plain_world reading) end item rest s)

    abbrev Stood : TunnelEnd → Type 0
    Stood end = find tunnel_cmp s.tunnels end ≡ Some (item ∷ rest)

    -- ---- at a CU-UP

    module _ (ue : UeId) (bearer : BearerId) (v : View) (sees : Sees s ue bearer v) (fit : IsFit bearer v)
        (order : IsInOrder v (all ue bearer).delivered (all ue bearer).left) where
      by_kind : (kind : TunnelKind) (teid : ℕ) → is_one_of (teids_of kind v.up.bearer) teid ≡ true
          → Stood (record { node = up_id v.plan.gnb v.plan.up; teid = teid }) → (who : UeId) (q : BearerId)
          → DoneFor (record { node = up_id v.plan.gnb v.plan.up; teid = teid }) who q
      by_kind n3 teid among stood who q =
          let same : v.n3 ≡ teid = among_one v.n3 teid (ap (λ (e : TheEnds). is_one_of (teid_in e.0) teid) (sym fit.ends) ∙ among) in
          subst (λ (k : ℕ). Stood (record { node = up_id v.plan.gnb v.plan.up; teid = k }) → DoneFor (record { node = up_id v.plan.gnb v.plan.up; teid = k }) who q) same
          (λ there. n3_fares reading event (λ a b. refl) s owned all ue bearer v sees fit order item rest there who q) stood
      by_kind f1u_uplink teid among stood who q =
          let same : v.du.bearer.uplink ≡ teid = among_one v.du.bearer.uplink teid (ap (λ (e : TheEnds). is_one_of e.1 teid) (sym fit.ends) ∙ among) in
          subst (λ (k : ℕ). Stood (record { node = up_id v.plan.gnb v.plan.up; teid = k }) → DoneFor (record { node = up_id v.plan.gnb v.plan.up; teid = k }) who q) same
          (λ there. uplink_fares reading event (λ a b. refl) s owned all ue bearer v sees fit order item rest there who q) stood
      by_kind forwarding_down teid among stood who q =
          let none : is_one_of (teid_in None) teid ≡ true = ap (λ (e : TheEnds). is_one_of (teid_in e.2) teid) (sym fit.ends) ∙ among in absurd cc
      by_kind forwarding_up teid among stood who q =
          let none : is_one_of (teid_in None) teid ≡ true = ap (λ (e : TheEnds). is_one_of (teid_in e.3) teid) (sym fit.ends) ∙ among in absurd cc

    at_up : (g : Gnb) (k teid : ℕ) (t : CuUpTunnel) → UpNamed s.units owned g k teid t → (n : ℕ) (left : List (List ℕ)) → Stage s t.ue t.bearer n left
        → (all t.ue t.bearer).delivered ≡ n → (all t.ue t.bearer).left ≡ left → Stood (record { node = up_id g k; teid = teid }) → (who : UeId) (q : BearerId)
        → DoneFor (record { node = up_id g k; teid = teid }) who q
    at_up g k teid t named n left (comes plan absent none first empty) n_is left_is stood who q =
        let clash : None ≡ Some named.part = sym (none.0 g k) ∙ named.is in absurd cc
    at_up g k teid t named n left (lacks l none first) n_is left_is stood who q =
        let clash : None ≡ Some named.part = sym (none.0 g k) ∙ named.is in absurd cc
    at_up g k teid t named n left (stands v sees fit order) n_is left_is stood who q =
        let here = sees.only_up g k named.part named.is in
        let parts : Some named.part ≡ Some v.up = sym named.is ∙ (λ i. up_model_of (cu_up_of s.units (here.0 i) (here.1 i)) t.ue t.bearer) ∙ sees.up in
        let part : named.part ≡ v.up = cc in
        subst (λ (a : Gnb × ℕ). Stood (record { node = up_id a.0 a.1; teid = teid }) → DoneFor (record { node = up_id a.0 a.1; teid = teid }) who q)
        (λ i. (sym here.0 i, sym here.1 i))
        (λ there. by_kind t.ue t.bearer v sees fit (subst (λ (a : ℕ × List (List ℕ)). IsInOrder v a.0 a.1) (λ i. (sym n_is i, sym left_is i)) order) t.kind teid
        (ap (λ (p : CuUpModel). is_one_of (teids_of t.kind p.bearer) teid) (sym part) ∙ named.among) there who q) stood

    -- ---- at a DU

    at_du : (g : Gnb) (k teid : ℕ) (t : DuTunnel) → DuNamed s.units owned g k teid t → (n : ℕ) (left : List (List ℕ)) → Stage s t.ue t.bearer n left
        → (all t.ue t.bearer).delivered ≡ n → (all t.ue t.bearer).left ≡ left → Stood (record { node = du_id g k; teid = teid }) → (who : UeId) (q : BearerId)
        → DoneFor (record { node = du_id g k; teid = teid }) who q
    at_du g k teid t named n left (comes plan absent none first empty) n_is left_is stood who q =
        let clash : None ≡ Some named.part = sym (none.1 g k) ∙ named.is in absurd cc
    at_du g k teid t named n left (lacks l none first) n_is left_is stood who q =
        let clash : None ≡ Some named.part = sym (none.1 g k) ∙ named.is in absurd cc
    at_du g k teid t named n left (stands v sees fit order) n_is left_is stood who q =
        let here = sees.only_du g k named.part named.is in
        let parts : Some named.part ≡ Some v.du = sym named.is ∙ (λ i. du_model_of (du_of s.units (here.0 i) (here.1 i)) t.ue t.bearer) ∙ sees.du in
        let part : named.part ≡ v.du = cc in
        let same : teid ≡ v.du.bearer.downlink = sym named.downlink ∙ ap (λ (p : DuModel). p.bearer.downlink) part in
        subst (λ (e : TunnelEnd). Stood e → DoneFor e who q) (λ i. record { node = du_id (sym here.0 i) (sym here.1 i); teid = sym same i })
        (λ there. downlink_fares reading event (λ a b. refl) s owned all t.ue t.bearer v sees fit
        (subst (λ (a : ℕ × List (List ℕ)). IsInOrder v a.0 a.1) (λ i. (sym n_is i, sym left_is i)) order) item rest there who q) stood

    -- ---- no item stands on a tunnel to another node

    at_node : (node : NodeId) (teid : ℕ) → Stood (record { node = node; teid = teid }) → (who : UeId) (q : BearerId)
        → DoneFor (record { node = node; teid = teid }) who q
    at_node (up_id g k) teid stood who q = by (find nat_cmp (cu_up_of s.units g k).tunnels teid) refl
      where
        is_there : is_open_in (cu_up_of s.units g k).tunnels teid ≡ true
        is_there = sym (where_open.0 g k teid) ∙ ap is_some stood

        by : (o : Option CuUpTunnel) → find nat_cmp (cu_up_of s.units g k).tunnels teid ≡ o → DoneFor (record { node = up_id g k; teid = teid }) who q
        by None found = let clash : false ≡ true = sym (ap is_some found) ∙ is_there in absurd cc
        by (Some t) found =
            at_up g k teid t (up_named s.units owned g k teid t found) (all t.ue t.bearer).delivered (all t.ue t.bearer).left (all t.ue t.bearer).stage refl refl stood who q
    at_node (du_id g k) teid stood who q = by (find nat_cmp (du_of s.units g k).tunnels teid) refl
      where
        is_there : is_open_in (du_of s.units g k).tunnels teid ≡ true
        is_there = sym (where_open.1 g k teid) ∙ ap is_some stood

        by : (o : Option DuTunnel) → find nat_cmp (du_of s.units g k).tunnels teid ≡ o → DoneFor (record { node = du_id g k; teid = teid }) who q
        by None found = let clash : false ≡ true = sym (ap is_some found) ∙ is_there in absurd cc
        by (Some t) found =
            at_du g k teid t (du_named s.units owned g k teid t found) (all t.ue t.bearer).delivered (all t.ue t.bearer).left (all t.ue t.bearer).stage refl refl stood who q
    at_node (CuCp g) teid stood who q = absurd (shows.tunnels (record { node = CuCp g; teid = teid }) (item ∷ rest) stood).0.1
    at_node Core teid stood who q = absurd (shows.tunnels (record { node = Core; teid = teid }) (item ∷ rest) stood).0.1
    at_node (Ue u) teid stood who q = absurd (shows.tunnels (record { node = Ue u; teid = teid }) (item ∷ rest) stood).0.1

  -- ---- the event

  pub get_fares : (who : UeId) (q : BearerId)
      → Fares who q event (all who q).delivered (all who q).left (get (plain_world reading) (record { node = at; teid = number }) s)
  unfolding get
  get_fares who q = by (find tunnel_cmp s.tunnels (record { node = at; teid = number })) refl
    where
      by : (o : Option (List OnTunnel)) → find tunnel_cmp s.tunnels (record { node = at; teid = number }) ≡ o
          → Fares who q event (all who q).delivered (all who q).left (get_on (plain_world reading) (record { node = at; teid = number }) s o)
      by None found = steps.told reading who q event refl s (all who q).delivered (all who q).left (all who q).stage None (was_refused NoSuch ∷ []) (tt, tt)
      by (Some []) found = steps.told reading who q event refl s (all who q).delivered (all who q).left (all who q).stage None (was_refused Empty ∷ []) (tt, tt)
      by (Some (item ∷ rest)) found =
          steps.got_fares reading who q event refl s (all who q).delivered (all who q).left (all who q).stage (record { node = at; teid = number })
          (get_done (plain_world reading) (record { node = at; teid = number }) item rest s) (at_node item rest at number found who q)

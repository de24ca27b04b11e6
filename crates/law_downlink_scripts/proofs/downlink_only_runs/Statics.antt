-- A terminal is set up without messages: its bearers stand then, with nothing on their way, and the others as before.
use Rattle.std.proofs.Common.{◌≡◌, ◌≤◌, ◌<◌, ◌==◌, ℕ, ◌+◌, ◌*◌, Bool, true, false, not, ◌&&◌, ◌||◌, List, [], ◌∷◌, Option, Some, None, inl, inr, ◌⊎◌, refl, sym, ap, ◌∙◌, subst, arith, eqb-true, eq-eqb}
use Rattle.std.specs.Prelude.{if◌then◌else◌, is_some, unwrap_or}
use Rattle.std.specs.Option.{option_map}
use Rattle.std.specs.Ordering.{nat_cmp, eq_by_cmp}
use Rattle.gnb_types.proofs.Choices.{both}
use Rattle.gnb_types.specs.declared.names.Gnb.{Gnb}
use Rattle.gnb_types.specs.declared.names.Gnb.TheVariants.{A, B}
use Rattle.gnb_types.specs.declared.names.NodeId.TheVariants.{CuUp as up_id, Du as du_id}
use Rattle.gnb_types.specs.declared.names.UeId.{UeId}
use Rattle.gnb_types.specs.declared.names.BearerId.{BearerId}
use Rattle.gnb_types.specs.declared.plans.Plan.{Plan}
use Rattle.gnb_types.specs.declared.reasons.RefuseReason.TheVariants.{Attached, Quota}
use Rattle.gnb_types.specs.Orders.{ue_cmp, node_cmp, tunnel_cmp}
use Rattle.gnb_types.proofs.OrderLemmas.{ue_total, ue_exact}
use Rattle.tables.specs.Tables.{find, put, at}
use Rattle.tables.proofs.TableLaws.{find-put-same, find-put-other}
use Rattle.message_types.specs.declared.rrc.Token.{Token}
use Rattle.scenario_text.specs.declared.event.Event.TheVariants as events
use Rattle.unit_defs.specs.Ways.{Message, teids_spent}
use Rattle.unit_defs.specs.Teids.{teids_are_left}
use Rattle.unit_defs.specs.CuUpRecords.{CuUp, CuUpContext}
use Rattle.unit_defs.specs.CuUpBearers.{made}
use Rattle.unit_defs.specs.CuUp.{new_cu_up}
use Rattle.unit_defs.specs.Du.{Du, new_du}
use Rattle.unit_defs.specs.CuCpRecords.{CuCpRecord}
use Rattle.unit_defs.specs.Core.{CorePath}
use Rattle.unit_defs.specs.Static.{cu_up_has_room, cu_up_has_teids, du_has_teids, cu_up_context, cu_up_placed, du_context, du_placed, cu_cp_placed, cu_up_set_up, du_set_up}
use Rattle.unit_defs.specs.Ue.{new_ue, placed, new_bearer}
use Rattle.transport_defs.specs.Links.{silent}
use Rattle.run_defs.specs.Lines.{was_refused}
use Rattle.run_defs.specs.Units.{cu_cp_of, with_cu_cp, cu_up_of, with_cu_up, du_of, with_du, ue_of, with_ue}
use Rattle.run_defs.specs.States.{was_attached, stops, goes_on, refused, spent_counter}
use Rattle.run_defs.specs.Conditions.{units_placed, all_set_up, n3_from, tunnels_from, statically, is_held_by_units}
use Rattle.run_defs.specs.Events.{static}
use Rattle.run_defs.specs.Runs.{Reading, plain_world}
use Rattle.proof_run_steps.specs.teids.Given.{below}
use Rattle.proof_run_steps.proofs.teids.Grows.{below_left}
use Rattle.proof_run_steps.proofs.teids.Placed.{find_mapped}
use Rattle.law_tunnels_are_owned.specs.open_tunnels.Open.{is_open_in, StandWhereOpen}
use Rattle.law_tunnels_are_owned.specs.owner_facts.Owned.{WereGiven, AreOwned}
use Rattle.proof_cu_up_orders.specs.context_orders.Orders.{CuUpModel, model_with, model_of_bearer, model_in, model_of as up_model_of}
use Rattle.proof_node_orders.specs.du_inputs.Changes.{DuModel, model_with as du_part_with, model_in as du_part_in, model_of as du_model_of}
use Rattle.law_downlink_scripts.proofs.downlink_only_facts.Views.{PlainState, PlainUnits, OnTunnel, View, Sees, IsFit, IsInOrder, IsNowhere, Lacks, Stage, comes, lacks, stands, AllStand}
use Rattle.law_downlink_scripts.proofs.downlink_only_facts.Keys.{apart_by, up_itself, du_itself, ups_same, dus_same, up_elsewhere, du_elsewhere}
use Rattle.law_downlink_scripts.proofs.downlink_only_facts.Kept.{Kept, stage_kept, same_terminal}
use Rattle.law_downlink_scripts.proofs.downlink_only_facts.Moves.{PlainOutcome, Fares, still_comes}
use Rattle.law_downlink_scripts.proofs.downlink_only_runs.Places.{up_bearer, du_bearer, AllHave, NoneHas, have_or_not, keeps_all, elsewhere, opens_each}
use Rattle.law_downlink_scripts.proofs.downlink_only_facts.Does as steps

-- ---- units

module _ (u : PlainUnits) where
  set_up_ups : {X : Type 0} (f : CuUp (Message Token) Token → X) → ((r : CuUp (Message Token) Token) → f (cu_up_set_up r) ≡ f r) → (g : Gnb) (k : ℕ)
      → f (cu_up_of (all_set_up u) g k) ≡ f (cu_up_of u g k)
  unfolding at
  set_up_ups f same g k =
      ap (λ (o : Option (CuUp (Message Token) Token)). f (unwrap_or o (new_cu_up g k))) (find_mapped node_cmp cu_up_set_up u.ups (up_id g k))
      ∙ by (find node_cmp u.ups (up_id g k))
    where
      by : (o : Option (CuUp (Message Token) Token)) → f (unwrap_or (option_map cu_up_set_up o) (new_cu_up g k)) ≡ f (unwrap_or o (new_cu_up g k))
      by None = refl
      by (Some r) = same r

  set_up_dus : {X : Type 0} (f : Du (Message Token) Token → X) → ((r : Du (Message Token) Token) → f (du_set_up r) ≡ f r) → (g : Gnb) (k : ℕ)
      → f (du_of (all_set_up u) g k) ≡ f (du_of u g k)
  unfolding at
  set_up_dus f same g k =
      ap (λ (o : Option (Du (Message Token) Token)). f (unwrap_or o (new_du g k))) (find_mapped node_cmp du_set_up u.dus (du_id g k))
      ∙ by (find node_cmp u.dus (du_id g k))
    where
      by : (o : Option (Du (Message Token) Token)) → f (unwrap_or (option_map du_set_up o) (new_du g k)) ≡ f (unwrap_or o (new_du g k))
      by None = refl
      by (Some r) = same r

cp_keeps : (u : PlainUnits) (gnb : Gnb) (r : CuCpRecord (Message Token) Token)
    → ((with_cu_cp u gnb r).ups ≡ u.ups) × ((with_cu_cp u gnb r).dus ≡ u.dus) × ((with_cu_cp u gnb r).ues ≡ u.ues)
cp_keeps u A r = (refl, refl, refl)
cp_keeps u B r = (refl, refl, refl)

module _ (reading : Reading) (plan : Plan) (s : PlainState) (owned : AreOwned s.units) (where_open : StandWhereOpen s) (all : AllStand s)
    (left_up : cu_up_has_teids (cu_up_of s.units plan.gnb plan.up) plan ≡ true) (left_du : du_has_teids (du_of s.units plan.gnb plan.du) plan ≡ true)
    (free : find ue_cmp s.plans plan.ue ≡ None) where
  abbrev upr : CuUp (Message Token) Token
  upr = cu_up_of s.units plan.gnb plan.up

  abbrev dur : Du (Message Token) Token
  dur = du_of s.units plan.gnb plan.du

  abbrev up : ℕ
  up = upr.next_teid

  abbrev du : ℕ
  du = dur.next_teid

  abbrev new_up : CuUp (Message Token) Token
  new_up = cu_up_placed upr plan du

  abbrev new_dur : Du (Message Token) Token
  new_dur = du_placed dur plan (up + 1)

  abbrev t : PlainState
  t = statically plan s

  abbrev begun : PlainUnits
  begun = with_du (with_cu_up (with_ue s.units plan.ue (placed (new_ue plan))) plan.gnb plan.up new_up) plan.gnb plan.du new_dur

  ups_in : {X : Type 0} (f : CuUp (Message Token) Token → X) → ((r : CuUp (Message Token) Token) → f (cu_up_set_up r) ≡ f r) → (g : Gnb) (k : ℕ)
      → f (cu_up_of t.units g k) ≡ f (cu_up_of (with_cu_up s.units plan.gnb plan.up new_up) g k)
  ups_in f same g k =
      set_up_ups (units_placed plan s.units) f same g k
      ∙ ap (λ es. f (at node_cmp (new_cu_up g k) es (up_id g k))) (cp_keeps begun plan.gnb (cu_cp_placed (cu_cp_of s.units plan.gnb) plan)).0

  dus_in : {X : Type 0} (f : Du (Message Token) Token → X) → ((r : Du (Message Token) Token) → f (du_set_up r) ≡ f r) → (g : Gnb) (k : ℕ)
      → f (du_of t.units g k) ≡ f (du_of (with_du s.units plan.gnb plan.du new_dur) g k)
  dus_in f same g k =
      set_up_dus (units_placed plan s.units) f same g k
      ∙ ap (λ es. f (at node_cmp (new_du g k) es (du_id g k))) (cp_keeps begun plan.gnb (cu_cp_placed (cu_cp_of s.units plan.gnb) plan)).1

  ues_in : t.units.ues ≡ put ue_cmp s.units.ues plan.ue (placed (new_ue plan))
  ues_in = (cp_keeps begun plan.gnb (cu_cp_placed (cu_cp_of s.units plan.gnb) plan)).2

  -- ---- a bearer of another terminal

  kept : (who : UeId) (q : BearerId) → (who ≡ plan.ue → ⊥) → Kept s t who q
  unfolding cu_up_placed du_placed
  kept who q differ =
      let apart : eq_by_cmp ue_cmp who plan.ue ≡ false = apart_by ue_cmp ue_exact who plan.ue differ in
      record {
        plans = find-put-other ue_total s.plans plan.ue plan who apart;
        paths = find-put-other ue_total s.core.paths plan.ue (record { up = up_id plan.gnb plan.up; n3 = n3_from 1 up plan.bearers }) who apart;
        ups = λ g k. ups_in (λ r. up_model_of r who q) (λ r. refl) g k
            ∙ ups_same s.units plan.gnb plan.up (λ r. up_model_of r who q) new_up
            (ap (model_in who q) (find-put-other ue_total upr.contexts plan.ue (cu_up_context upr plan du) who apart)) g k;
        dus = λ g k. dus_in (λ r. du_model_of r who q) (λ r. refl) g k
            ∙ dus_same s.units plan.gnb plan.du (λ r. du_model_of r who q) new_dur
            (ap (du_part_in q) (find-put-other ue_total dur.contexts plan.ue (du_context dur plan (up + 1)) who apart)) g k;
        gnbs = λ g k. (
          ups_in (λ r. r.gnb) (λ r. refl) g k ∙ ups_same s.units plan.gnb plan.up (λ r. r.gnb) new_up refl g k,
          dus_in (λ r. r.gnb) (λ r. refl) g k ∙ dus_same s.units plan.gnb plan.du (λ r. r.gnb) new_dur refl g k,
        );
        terminal = same_terminal s.units t.units who q
            (ap (λ es. find ue_cmp es who) ues_in ∙ find-put-other ue_total s.units.ues plan.ue (placed (new_ue plan)) who apart);
        tunnels = λ e kind items owner given there.
            keeps_all (du_id plan.gnb plan.du) plan.bearers du (tunnels_from (up_id plan.gnb plan.up) up (2 * plan.bearers) s.tunnels) e items
            (keeps_all (up_id plan.gnb plan.up) (2 * plan.bearers) up s.tunnels e items there);
        radio = refl;
        radio_up = refl;
        connected = λ on. find-put-other ue_total s.connected plan.ue 1 who apart ∙ on;
      }

  -- ---- a TEID that wasn't given is not open

  not_zero : (next count n : ℕ) → teids_are_left next count ≡ true → next ≤ n → n == 0 ≡ false
  not_zero next count n is_left low = by (n == 0) refl (next == 0) refl
    where
      parts : not (next == 0) ≡ true
      parts = (both (not (next == 0)) _ is_left).0

      by : (a : Bool) → (n == 0) ≡ a → (b : Bool) → (next == 0) ≡ b → a ≡ false
      by false e b f = refl
      by true e true f = let clash : false ≡ true = ap not (sym f) ∙ parts in absurd cc
      by true e false f =
          let zero_n : n ≡ 0 = eqb-true n 0 e in
          let zero_next : next ≡ 0 = omega (arith, low, zero_n) in
          let clash : true ≡ false = sym (eq-eqb next 0 zero_next) ∙ f in absurd cc

  closed : {X : Type 0} (tunnels : List (ℕ × X)) (next count n : ℕ) → teids_are_left next count ≡ true → WereGiven next tunnels → next ≤ n
      → is_open_in tunnels n ≡ false
  closed {X = X} tunnels next count n is_left given low = by (find nat_cmp tunnels n) refl
    where
      by : (o : Option X) → find nat_cmp tunnels n ≡ o → is_some o ≡ false
      by None e = refl
      by (Some x) e =
          let high : n + 1 ≤ below next = given n x e in
          let bound : below next ≡ next = below_left next count is_left in
          absurd (omega (arith, high, bound, low))

  no_tunnel : (o : Option (List OnTunnel)) → is_some o ≡ false → o ≡ None
  no_tunnel None e = refl
  no_tunnel (Some items) e = absurd cc

  up_closed : (n : ℕ) → up ≤ n → find tunnel_cmp s.tunnels (record { node = up_id plan.gnb plan.up; teid = n }) ≡ None
  up_closed n low =
      no_tunnel _ (where_open.0 plan.gnb plan.up n ∙ closed upr.tunnels up (2 * plan.bearers) n left_up (owned.0 plan.gnb plan.up).2 low)

  du_closed : (n : ℕ) → du ≤ n → find tunnel_cmp s.tunnels (record { node = du_id plan.gnb plan.du; teid = n }) ≡ None
  du_closed n low = no_tunnel _ (where_open.1 plan.gnb plan.du n ∙ closed dur.tunnels du plan.bearers n left_du (owned.1 plan.gnb plan.du).2 low)

  up_opened : (n : ℕ) → up ≤ n → n < up + 2 * plan.bearers → find tunnel_cmp t.tunnels (record { node = up_id plan.gnb plan.up; teid = n }) ≡ Some []
  up_opened n low high =
      keeps_all (du_id plan.gnb plan.du) plan.bearers du (tunnels_from (up_id plan.gnb plan.up) up (2 * plan.bearers) s.tunnels)
      (record { node = up_id plan.gnb plan.up; teid = n }) []
      (opens_each (up_id plan.gnb plan.up) (2 * plan.bearers) up s.tunnels n low high (up_closed n low))

  du_opened : (n : ℕ) → du ≤ n → n < du + plan.bearers → find tunnel_cmp t.tunnels (record { node = du_id plan.gnb plan.du; teid = n }) ≡ Some []
  du_opened n low high =
      opens_each (du_id plan.gnb plan.du) plan.bearers du (tunnels_from (up_id plan.gnb plan.up) up (2 * plan.bearers) s.tunnels) n low high
      (elsewhere (up_id plan.gnb plan.up) (2 * plan.bearers) up s.tunnels (record { node = du_id plan.gnb plan.du; teid = n }) (λ e. absurd cc) ∙ du_closed n low)

  -- ---- a bearer of this terminal

  module _ (q : BearerId) (none : IsNowhere s plan.ue q) where
    abbrev c : CuUpContext
    c = cu_up_context upr plan du

    up_in : up_model_of new_up plan.ue q ≡ model_in plan.ue q (Some c)
    unfolding cu_up_placed
    up_in = ap (model_in plan.ue q) (find-put-same ue_total upr.contexts plan.ue c)

    du_in : du_model_of new_dur plan.ue q ≡ du_part_in q (Some (du_context dur plan (up + 1)))
    unfolding du_placed
    du_in = ap (du_part_in q) (find-put-same ue_total dur.contexts plan.ue (du_context dur plan (up + 1)))

    -- what each CU-UP and each DU has of it then
    ups_of : (g : Gnb) (k : ℕ) → (up_model_of (cu_up_of t.units g k) plan.ue q ≡ None) ⊎ ((g ≡ plan.gnb) × (k ≡ plan.up))
    ups_of g k = by (up_elsewhere s.units plan.gnb plan.up new_up g k)
      where
        by : (cu_up_of (with_cu_up s.units plan.gnb plan.up new_up) g k ≡ cu_up_of s.units g k) ⊎ ((g ≡ plan.gnb) × (k ≡ plan.up))
            → (up_model_of (cu_up_of t.units g k) plan.ue q ≡ None) ⊎ ((g ≡ plan.gnb) × (k ≡ plan.up))
        by (inl same) = inl (ups_in (λ r. up_model_of r plan.ue q) (λ r. refl) g k ∙ ap (λ r. up_model_of r plan.ue q) same ∙ none.0 g k)
        by (inr here) = inr here

    dus_of : (g : Gnb) (k : ℕ) → (du_model_of (du_of t.units g k) plan.ue q ≡ None) ⊎ ((g ≡ plan.gnb) × (k ≡ plan.du))
    dus_of g k = by (du_elsewhere s.units plan.gnb plan.du new_dur g k)
      where
        by : (du_of (with_du s.units plan.gnb plan.du new_dur) g k ≡ du_of s.units g k) ⊎ ((g ≡ plan.gnb) × (k ≡ plan.du))
            → (du_model_of (du_of t.units g k) plan.ue q ≡ None) ⊎ ((g ≡ plan.gnb) × (k ≡ plan.du))
        by (inl same) = inl (dus_in (λ r. du_model_of r plan.ue q) (λ r. refl) g k ∙ ap (λ r. du_model_of r plan.ue q) same ∙ none.1 g k)
        by (inr here) = inr here

    up_here : up_model_of (cu_up_of t.units plan.gnb plan.up) plan.ue q ≡ model_in plan.ue q (Some c)
    up_here =
        ups_in (λ r. up_model_of r plan.ue q) (λ r. refl) plan.gnb plan.up ∙ ap (λ r. up_model_of r plan.ue q) (up_itself s.units plan.gnb plan.up new_up) ∙ up_in

    du_here : du_model_of (du_of t.units plan.gnb plan.du) plan.ue q ≡ du_part_in q (Some (du_context dur plan (up + 1)))
    du_here =
        dus_in (λ r. du_model_of r plan.ue q) (λ r. refl) plan.gnb plan.du ∙ ap (λ r. du_model_of r plan.ue q) (du_itself s.units plan.gnb plan.du new_dur) ∙ du_in

    abbrev path : CorePath
    path = record { up = up_id plan.gnb plan.up; n3 = n3_from 1 up plan.bearers }

    there_now : ue_of t.units plan.ue ≡ Some (placed (new_ue plan))
    there_now = ap (λ es. find ue_cmp es plan.ue) ues_in ∙ find-put-same ue_total s.units.ues plan.ue (placed (new_ue plan))

    abbrev Has : Type 0
    Has = AllHave upr.gnb plan.du (up_id dur.gnb plan.up) 1 up du plan.bearers q

    abbrev HasNot : Type 0
    HasNot = NoneHas upr.gnb plan.du (up_id dur.gnb plan.up) 1 up du plan.bearers q

    -- it has no such bearer
    nowhere_now : HasNot → IsNowhere t plan.ue q
    unfolding cu_up_placed du_placed
    nowhere_now h = (ups, dus, none.2, none.3, gnbs)
      where
        ups : (g : Gnb) (k : ℕ) → up_model_of (cu_up_of t.units g k) plan.ue q ≡ None
        ups g k = by (ups_of g k)
          where
            by : (up_model_of (cu_up_of t.units g k) plan.ue q ≡ None) ⊎ ((g ≡ plan.gnb) × (k ≡ plan.up)) → up_model_of (cu_up_of t.units g k) plan.ue q ≡ None
            by (inl e) = e
            by (inr here) = (λ i. up_model_of (cu_up_of t.units (here.0 i) (here.1 i)) plan.ue q) ∙ up_here ∙ ap (model_of_bearer plan.ue c q) h.in_ups

        dus : (g : Gnb) (k : ℕ) → du_model_of (du_of t.units g k) plan.ue q ≡ None
        dus g k = by (dus_of g k)
          where
            by : (du_model_of (du_of t.units g k) plan.ue q ≡ None) ⊎ ((g ≡ plan.gnb) × (k ≡ plan.du)) → du_model_of (du_of t.units g k) plan.ue q ≡ None
            by (inl e) = e
            by (inr here) = (λ i. du_model_of (du_of t.units (here.0 i) (here.1 i)) plan.ue q) ∙ du_here ∙ ap (du_part_with (du_context dur plan (up + 1))) h.in_dus

        gnbs : (g : Gnb) (k : ℕ) → ((cu_up_of t.units g k).gnb ≡ g) × ((du_of t.units g k).gnb ≡ g)
        gnbs g k = (
          ups_in (λ r. r.gnb) (λ r. refl) g k ∙ ups_same s.units plan.gnb plan.up (λ r. r.gnb) new_up refl g k ∙ (none.4 g k).0,
          dus_in (λ r. r.gnb) (λ r. refl) g k ∙ dus_same s.units plan.gnb plan.du (λ r. r.gnb) new_dur refl g k ∙ (none.4 g k).1,
        )

    lacks_now : HasNot → Lacks t plan.ue q
    unfolding new_ue placed
    lacks_now h = record {
      plan = plan;
      planned = find-put-same ue_total s.plans plan.ue plan;
      path = path;
      path_there = find-put-same ue_total s.core.paths plan.ue path;
      path_up = refl;
      path_n3 = h.in_path;
      node = placed (new_ue plan);
      there = there_now;
      has_not = h.in_ue;
    }

    -- it has it
    module _ (h : Has) where
      abbrev view : View
      view = record {
        plan = plan;
        path = path;
        up = model_with plan.ue c q (up_bearer upr.gnb plan.du (up_id dur.gnb plan.up) h.n3 h.downlink);
        n3 = h.n3;
        downlink = record { du = du_id upr.gnb plan.du; teid = h.downlink; next = 0 };
        du = record { epoch = 1; sn = plan.sn; bearer = du_bearer upr.gnb plan.du (up_id dur.gnb plan.up) h.n3 h.downlink };
        bearer = new_bearer;
        on_n3 = [];
        on_uplink = [];
        on_downlink = [];
        radio = silent;
      }

      sees_it : Sees t plan.ue q view
      unfolding new_ue placed
      sees_it = record {
        plan = find-put-same ue_total s.plans plan.ue plan;
        path = find-put-same ue_total s.core.paths plan.ue path;
        up = up_here ∙ ap (model_of_bearer plan.ue c q) h.in_ups;
        du = du_here ∙ ap (du_part_with (du_context dur plan (up + 1))) h.in_dus;
        terminal = record {
          node = placed (new_ue plan);
          there = there_now;
          has = h.in_ue;
          state = refl;
          epoch = refl;
          home = refl;
          own = refl;
        };
        on_n3 = up_opened h.n3 h.n3_low (omega (arith, h.n3_high));
        on_uplink = up_opened (h.n3 + 1) (omega (arith, h.n3_low)) h.n3_high;
        on_downlink = du_opened h.downlink h.down_low h.down_high;
        radio = none.2;
        radio_up = none.3;
        connected = find-put-same ue_total s.connected plan.ue 1;
        theirs = tt;
        only_up = only_up;
        only_du = only_du;
      }
        where
          only_up : (g : Gnb) (k : ℕ) (p : CuUpModel) → up_model_of (cu_up_of t.units g k) plan.ue q ≡ Some p → (g ≡ plan.gnb) × (k ≡ plan.up)
          only_up g k p found = by (ups_of g k)
            where
              by : (up_model_of (cu_up_of t.units g k) plan.ue q ≡ None) ⊎ ((g ≡ plan.gnb) × (k ≡ plan.up)) → (g ≡ plan.gnb) × (k ≡ plan.up)
              by (inl e) = let clash : None ≡ Some p = sym e ∙ found in absurd cc
              by (inr here) = here

          only_du : (g : Gnb) (k : ℕ) (p : DuModel) → du_model_of (du_of t.units g k) plan.ue q ≡ Some p → (g ≡ plan.gnb) × (k ≡ plan.du)
          only_du g k p found = by (dus_of g k)
            where
              by : (du_model_of (du_of t.units g k) plan.ue q ≡ None) ⊎ ((g ≡ plan.gnb) × (k ≡ plan.du)) → (g ≡ plan.gnb) × (k ≡ plan.du)
              by (inl e) = let clash : None ≡ Some p = sym e ∙ found in absurd cc
              by (inr here) = here

      fits_it : IsFit q view
      unfolding made
      fits_it = record {
        path_up = refl;
        path_n3 = h.in_path;
        n3_given = not_zero up (2 * plan.bearers) h.n3 left_up h.n3_low;
        uplink_given = not_zero up (2 * plan.bearers) (h.n3 + 1) left_up (omega (arith, h.n3_low));
        downlink_given = not_zero du plan.bearers h.downlink left_du h.down_low;
        flags = refl;
        ends = refl;
        restart = refl;
        downlink = refl;
        to_du = ap (λ (g : Gnb). du_id g plan.du) (none.4 plan.gnb plan.up).0;
        to_teid = refl;
        from_du = ap (λ (g : Gnb). up_id g plan.up) (none.4 plan.gnb plan.du).1;
        epoch = refl;
        gap = refl;
      }

      in_order : IsInOrder view 0 []
      unfolding made
      in_order = record {
        aired = [];
        framed = [];
        offered = [];
        known = [];
        flying = [];
        radio_is = refl;
        carried_is = refl;
        on_radio = refl;
        on_downlink = refl;
        on_n3 = refl;
        on_uplink = tt;
        frames = refl;
        counts = refl;
        left_is = refl;
        receiver = refl;
      }

    now_stands : (n : ℕ) (rest : List (List ℕ)) → n ≡ 0 → rest ≡ [] → Stage t plan.ue q n rest
    now_stands n rest first empty = by (have_or_not upr.gnb plan.du (up_id dur.gnb plan.up) plan.bearers 1 up du q)
      where
        by : Has ⊎ HasNot → Stage t plan.ue q n rest
        by (inl h) =
            stands (view h) (sees_it h) (fits_it h) (subst (λ (k : ℕ × List (List ℕ)). IsInOrder (view h) k.0 k.1) (λ i. (sym first i, sym empty i)) (in_order h))
        by (inr h) = lacks (lacks_now h) (nowhere_now h) first

  -- ---- each bearer

  of_this : (q : BearerId) (n : ℕ) (rest : List (List ℕ)) → Stage s plan.ue q n rest → Stage t plan.ue q n rest
  of_this q n rest (comes unplanned absent none first empty) = now_stands q none n rest first empty
  of_this q n rest (lacks l none first) = let clash : None ≡ Some l.plan = sym free ∙ l.planned in absurd cc
  of_this q n rest (stands v sees fit order) = let clash : None ≡ Some v.plan = sym free ∙ sees.plan in absurd cc

  pub each_stands : (who : UeId) (q : BearerId) (n : ℕ) (rest : List (List ℕ)) → Stage s who q n rest → Stage t who q n rest
  each_stands who q n rest stage = by (who.0 == plan.ue.0) refl
    where
      by : (b : Bool) → (who.0 == plan.ue.0) ≡ b → Stage t who q n rest
      by true e =
          let numbers : who.0 ≡ plan.ue.0 = eqb-true who.0 plan.ue.0 e in
          let same : who ≡ plan.ue = (λ i. record { 0 = numbers i }) in
          subst (λ (w : UeId). Stage t w q n rest) (sym same) (of_this q n rest (subst (λ (w : UeId). Stage s w q n rest) same stage))
      by false e =
          stage_kept s t who q owned (kept who q (λ same. clash (sym (eq-eqb who.0 plan.ue.0 (ap (λ (w : UeId). w.0) same)) ∙ e))) n rest stage
        where
          clash : true ≡ false → ⊥
          clash e = absurd cc

-- ---- the event

module _ (reading : Reading) (plan : Plan) (s : PlainState) (owned : AreOwned s.units) (where_open : StandWhereOpen s) (all : AllStand s) (who : UeId) (q : BearerId) where
  abbrev Fared : PlainOutcome → Type 0
  Fared e = Fares who q (events.Static plan) (all who q).delivered (all who q).left e

  not_planned : (a b : Bool) (o : Option Plan) → is_some o || a ≡ false → o ≡ None
  not_planned a b None e = refl
  not_planned true b (Some p) e = absurd cc
  not_planned false b (Some p) e = absurd cc

  pub static_fares : Fared (static (plain_world reading) plan s)
  unfolding static
  static_fares = free (was_attached s plan.ue || is_held_by_units plan s.units) refl
    where
      put_there : was_attached s plan.ue || is_held_by_units plan s.units ≡ false → (t : Bool)
          → cu_up_has_teids (cu_up_of s.units plan.gnb plan.up) plan && du_has_teids (du_of s.units plan.gnb plan.du) plan ≡ t
          → Fared (if t then goes_on (statically plan s) else stops [] (spent_counter teids_spent))
      put_there unheld true teids =
          let parts = both (cu_up_has_teids (cu_up_of s.units plan.gnb plan.up) plan) _ teids in
          still_comes who q (events.Static plan) refl [] (all who q).delivered (all who q).left [] (statically plan s) tt
          (each_stands reading plan s owned where_open all parts.0 parts.1 (not_planned (is_held_by_units plan s.units) true (find ue_cmp s.plans plan.ue) unheld)
          who q (all who q).delivered (all who q).left (all who q).stage)
      put_there unheld false teids =
          steps.stopped reading who q (events.Static plan) refl s (all who q).delivered (all who q).left (all who q).stage (spent_counter teids_spent)

      roomy : was_attached s plan.ue || is_held_by_units plan s.units ≡ false → (t : Bool)
          → Fared (if t then refused Quota s else
          (if cu_up_has_teids (cu_up_of s.units plan.gnb plan.up) plan && du_has_teids (du_of s.units plan.gnb plan.du) plan
          then goes_on (statically plan s) else stops [] (spent_counter teids_spent)))
      roomy unheld true =
          steps.told reading who q (events.Static plan) refl s (all who q).delivered (all who q).left (all who q).stage None (was_refused Quota ∷ []) (tt, tt)
      roomy unheld false =
          put_there unheld (cu_up_has_teids (cu_up_of s.units plan.gnb plan.up) plan && du_has_teids (du_of s.units plan.gnb plan.du) plan) refl

      free : (t : Bool) → was_attached s plan.ue || is_held_by_units plan s.units ≡ t
          → Fared (if t then refused Attached s else
          (if not (cu_up_has_room (cu_up_of s.units plan.gnb plan.up) plan) then refused Quota s else
          (if cu_up_has_teids (cu_up_of s.units plan.gnb plan.up) plan && du_has_teids (du_of s.units plan.gnb plan.du) plan
          then goes_on (statically plan s) else stops [] (spent_counter teids_spent))))
      free true held =
          steps.told reading who q (events.Static plan) refl s (all who q).delivered (all who q).left (all who q).stage None (was_refused Attached ∷ []) (tt, tt)
      free false unheld = roomy unheld (not (cu_up_has_room (cu_up_of s.units plan.gnb plan.up) plan))

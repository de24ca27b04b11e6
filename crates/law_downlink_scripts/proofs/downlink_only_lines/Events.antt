-- Each event of such a script puts and delivers at places.
use Rattle.std.proofs.Common.{◌≡◌, ◌==◌, ℕ, Bool, true, false, ◌&&◌, ◌||◌, List, [], ◌∷◌, ◌++◌, length, Option, Some, None, refl, sym, ap, ◌∙◌, subst}
use Rattle.std.specs.Prelude.{if◌then◌else◌, is_some, nat_lt, not}
use Rattle.std.specs.List.{AllByRecursion}
use Rattle.std.specs.Ordering.{nat_cmp}
use Rattle.gnb_types.specs.declared.names.Gnb.{Gnb}
use Rattle.gnb_types.specs.declared.names.NodeId.{NodeId}
use Rattle.gnb_types.specs.declared.names.NodeId.TheVariants.{CuCp, CuUp as up_id, Du as du_id, Core, Ue}
use Rattle.gnb_types.specs.declared.names.UeId.{UeId}
use Rattle.gnb_types.specs.declared.names.BearerId.{BearerId}
use Rattle.gnb_types.specs.declared.names.Dir.TheVariants.{Dl, Ul}
use Rattle.gnb_types.specs.declared.keys.EntityKey.{EntityKey}
use Rattle.gnb_types.specs.declared.keys.TunnelEnd.{TunnelEnd}
use Rattle.gnb_types.specs.declared.plans.Plan.{Plan}
use Rattle.gnb_types.specs.declared.reasons.RefuseReason.TheVariants.{NoBearer, Empty, Size}
use Rattle.gnb_types.specs.Orders.{ue_cmp, tunnel_cmp}
use Rattle.tables.specs.Tables.{find}
use Rattle.scenario_text.specs.declared.event.Event.{Event}
use Rattle.scenario_text.specs.declared.event.Event.TheVariants as events
use Rattle.unit_defs.specs.Ways.{Pdu}
use Rattle.unit_defs.specs.Core.{CorePath}
use Rattle.unit_defs.specs.Messages.{teid_of}
use Rattle.unit_defs.specs.Static.{cu_up_has_room, cu_up_has_teids, du_has_teids}
use Rattle.unit_defs.specs.CuUpRecords.{TunnelKind, n3, f1u_uplink, forwarding_down, forwarding_up, CuUpTunnel}
use Rattle.unit_defs.specs.CuUpBearers.{is_one_of, teid_in}
use Rattle.unit_defs.specs.Du.{DuTunnel}
use Rattle.unit_defs.specs.Ue.{largest_packet}
use Rattle.transport_defs.specs.Links.{Radio, nth}
use Rattle.run_defs.specs.Lines.{is_quiet, is_busy}
use Rattle.run_defs.specs.Units.{cu_up_of, du_of}
use Rattle.run_defs.specs.Written.{Written}
use Rattle.run_defs.specs.States.{Lengths, ◌next◌, as_step, refused, prints, entity, has_bearer, was_attached, radio_of, book_of}
use Rattle.run_defs.specs.Steps.{is_done, is_held, is_refused, check_spans, put_on_tunnel, ordered_by}
use Rattle.run_defs.specs.Conditions.{is_held_by_units, ready_home, rests, ask_line}
use Rattle.run_defs.specs.Events.{static, offer_on_path, offer_down, offered as offered_in, offer, get_done, got_by, get_on, get, carry_done, carried_by, air_item, air_at, air, confirm_done, ack_items, ack_at, ack, ask}
use Rattle.run_defs.specs.Runs.{Reading, plain_world, happens}
use Rattle.proof_run_steps.specs.steps.Causes.{by_item, by_air, by_ack}
use Rattle.law_units_act_locally.proofs.local_packets.Lines.{then_lines, checked_lines, tunnel_lines}
use Rattle.law_tunnels_are_owned.specs.open_tunnels.Open.{is_open_in, StandWhereOpen}
use Rattle.law_tunnels_are_owned.specs.link_items.Items.{ItemsShow}
use Rattle.law_tunnels_are_owned.specs.owner_facts.Owned.{ends_of as teids_of, AreOwned}
use Rattle.law_downlink_scripts.specs.downlink_only_rows.DownlinkOnly.{TheEnds}
use Rattle.proof_cu_up_orders.specs.context_orders.Orders.{CuUpModel, model_of as up_model_of}
use Rattle.proof_node_orders.specs.du_inputs.Changes.{DuModel, model_of as du_model_of}
use Rattle.law_downlink_scripts.proofs.downlink_only_facts.Views.{PlainState, OnTunnel, OnRadio, View, Sees, IsFit, IsInOrder, Stage, comes, lacks, stands, AllStand}
use Rattle.law_downlink_scripts.proofs.downlink_only_facts.Ends.{UpNamed, up_named, DuNamed, du_named}
use Rattle.law_downlink_scripts.proofs.downlink_only_facts.Moves.{PlainOutcome}
use Rattle.law_downlink_scripts.proofs.downlink_only_steps.Ues.{nth_after}
use Rattle.law_downlink_scripts.proofs.downlink_only_events.Gets.{among_one}
use Rattle.law_downlink_scripts.proofs.downlink_only_events.Airs.{silent_up}
use Rattle.law_downlink_scripts.proofs.downlink_only_events.Acks.{at_the_du}
use Rattle.law_downlink_scripts.specs.downlink_only_runs.Scripts.{IsDownlinkOnly}
use Rattle.law_downlink_scripts.proofs.downlink_only_lines.Lines.{PlainDone, AreLong, IsAtPlace, other_at, AtPlaces, DoneAtPlaces, in_a_step, does_at}
use Rattle.law_downlink_scripts.proofs.downlink_only_lines.Units.{Stood, n3_answers, uplink_answers, downlink_answers, air_answers, ack_answers}

module _ (L : Lengths) (offered : EntityKey → List (List ℕ)) (reading : Reading) (s : PlainState) (owned : AreOwned s.units) (long : AreLong L s)
    (where_open : StandWhereOpen s) (shows : ItemsShow s) (all : AllStand s) (stood : Stood offered s all) where
  got : (end : TunnelEnd) (d : PlainDone) → DoneAtPlaces L offered d → AtPlaces L offered (got_by (plain_world reading) end s d)
  got end (is_done outcome) p = p
  got end (is_held reason) p = (tt, tt)
  got end (is_refused reason) p = (tt, tt)

  carried : (key : EntityKey) (home : NodeId) (d : PlainDone) → DoneAtPlaces L offered d → AtPlaces L offered (carried_by (plain_world reading) key home s d)
  carried key home (is_done outcome) p = p
  carried key home (is_held reason) p = (tt, tt)
  carried key home (is_refused reason) p = (tt, tt)

  ordered : (d : PlainDone) → DoneAtPlaces L offered d → AtPlaces L offered (ordered_by (plain_world reading) s d)
  ordered (is_done outcome) p = p
  ordered (is_held reason) p = tt
  ordered (is_refused reason) p = (tt, tt)

  -- ---- an item is got

  module _ (item : OnTunnel) (rest : List OnTunnel) where
    abbrev Got : TunnelEnd → Type 0
    Got end = find tunnel_cmp s.tunnels end ≡ Some (item ∷ rest) → DoneAtPlaces L offered (get_done (plain_world reading) end item rest s)

    abbrev end_of : NodeId → ℕ → TunnelEnd
    end_of node teid = record { node = node; teid = teid }

    by_kind : (ue : UeId) (bearer : BearerId) (v : View) (sees : Sees s ue bearer v) (fit : IsFit bearer v)
        (order : IsInOrder v (all ue bearer).delivered (all ue bearer).left) (kind : TunnelKind) (teid : ℕ) → is_one_of (teids_of kind v.up.bearer) teid ≡ true
        → Got (end_of (up_id v.plan.gnb v.plan.up) teid)
    by_kind ue bearer v sees fit order n3 teid among =
        let same : v.n3 ≡ teid = among_one v.n3 teid (ap (λ (e : TheEnds). is_one_of (teid_in e.0) teid) (sym fit.ends) ∙ among) in
        subst (λ (k : ℕ). Got (end_of (up_id v.plan.gnb v.plan.up) k)) same
        (λ there. does_at L offered reading s (by_item (end_of (up_id v.plan.gnb v.plan.up) v.n3) item rest)
        (n3_answers L offered reading s owned long all stood ue bearer v sees fit order item rest there))
    by_kind ue bearer v sees fit order f1u_uplink teid among =
        let same : v.du.bearer.uplink ≡ teid = among_one v.du.bearer.uplink teid (ap (λ (e : TheEnds). is_one_of e.1 teid) (sym fit.ends) ∙ among) in
        subst (λ (k : ℕ). Got (end_of (up_id v.plan.gnb v.plan.up) k)) same
        (λ there. does_at L offered reading s (by_item (end_of (up_id v.plan.gnb v.plan.up) v.du.bearer.uplink) item rest)
        (uplink_answers L offered reading s owned long all stood ue bearer v sees fit order item rest there))
    by_kind ue bearer v sees fit order forwarding_down teid among =
        let none : is_one_of (teid_in None) teid ≡ true = ap (λ (e : TheEnds). is_one_of (teid_in e.2) teid) (sym fit.ends) ∙ among in absurd cc
    by_kind ue bearer v sees fit order forwarding_up teid among =
        let none : is_one_of (teid_in None) teid ≡ true = ap (λ (e : TheEnds). is_one_of (teid_in e.3) teid) (sym fit.ends) ∙ among in absurd cc

    at_up : (g : Gnb) (k teid : ℕ) (t : CuUpTunnel) → UpNamed s.units owned g k teid t → (n : ℕ) (left : List (List ℕ)) → Stage s t.ue t.bearer n left
        → (all t.ue t.bearer).delivered ≡ n → (all t.ue t.bearer).left ≡ left → Got (end_of (up_id g k) teid)
    at_up g k teid t named n left (comes plan absent none first empty) n_is left_is =
        let clash : None ≡ Some named.part = sym (none.0 g k) ∙ named.is in absurd cc
    at_up g k teid t named n left (lacks l none first) n_is left_is =
        let clash : None ≡ Some named.part = sym (none.0 g k) ∙ named.is in absurd cc
    at_up g k teid t named n left (stands v sees fit order) n_is left_is =
        let here = sees.only_up g k named.part named.is in
        let parts : Some named.part ≡ Some v.up = sym named.is ∙ (λ i. up_model_of (cu_up_of s.units (here.0 i) (here.1 i)) t.ue t.bearer) ∙ sees.up in
        let part : named.part ≡ v.up = cc in
        subst (λ (a : Gnb × ℕ). Got (end_of (up_id a.0 a.1) teid)) (λ i. (sym here.0 i, sym here.1 i))
        (by_kind t.ue t.bearer v sees fit (subst (λ (a : ℕ × List (List ℕ)). IsInOrder v a.0 a.1) (λ i. (sym n_is i, sym left_is i)) order) t.kind teid
        (ap (λ (p : CuUpModel). is_one_of (teids_of t.kind p.bearer) teid) (sym part) ∙ named.among))

    at_du : (g : Gnb) (k teid : ℕ) (t : DuTunnel) → DuNamed s.units owned g k teid t → (n : ℕ) (left : List (List ℕ)) → Stage s t.ue t.bearer n left
        → (all t.ue t.bearer).delivered ≡ n → (all t.ue t.bearer).left ≡ left → Got (end_of (du_id g k) teid)
    at_du g k teid t named n left (comes plan absent none first empty) n_is left_is =
        let clash : None ≡ Some named.part = sym (none.1 g k) ∙ named.is in absurd cc
    at_du g k teid t named n left (lacks l none first) n_is left_is =
        let clash : None ≡ Some named.part = sym (none.1 g k) ∙ named.is in absurd cc
    at_du g k teid t named n left (stands v sees fit order) n_is left_is =
        let here = sees.only_du g k named.part named.is in
        let parts : Some named.part ≡ Some v.du = sym named.is ∙ (λ i. du_model_of (du_of s.units (here.0 i) (here.1 i)) t.ue t.bearer) ∙ sees.du in
        let part : named.part ≡ v.du = cc in
        let same : teid ≡ v.du.bearer.downlink = sym named.downlink ∙ ap (λ (p : DuModel). p.bearer.downlink) part in
        subst Got (λ i. end_of (du_id (sym here.0 i) (sym here.1 i)) (sym same i))
        (λ there. does_at L offered reading s (by_item (end_of (du_id v.plan.gnb v.plan.du) v.du.bearer.downlink) item rest)
        (downlink_answers L offered reading s owned long all stood t.ue t.bearer v sees fit
        (subst (λ (a : ℕ × List (List ℕ)). IsInOrder v a.0 a.1) (λ i. (sym n_is i, sym left_is i)) order) item rest there
        (shows.tunnels (end_of (du_id v.plan.gnb v.plan.du) v.du.bearer.downlink) (item ∷ rest) there).0.0))

    at_node : (node : NodeId) (teid : ℕ) → Got (end_of node teid)
    at_node (up_id g k) teid there = by (find nat_cmp (cu_up_of s.units g k).tunnels teid) refl
      where
        is_there : is_open_in (cu_up_of s.units g k).tunnels teid ≡ true
        is_there = sym (where_open.0 g k teid) ∙ ap is_some there

        by : (o : Option CuUpTunnel) → find nat_cmp (cu_up_of s.units g k).tunnels teid ≡ o
            → DoneAtPlaces L offered (get_done (plain_world reading) (end_of (up_id g k) teid) item rest s)
        by None found = let clash : false ≡ true = sym (ap is_some found) ∙ is_there in absurd cc
        by (Some t) found =
            at_up g k teid t (up_named s.units owned g k teid t found) (all t.ue t.bearer).delivered (all t.ue t.bearer).left (all t.ue t.bearer).stage refl refl there
    at_node (du_id g k) teid there = by (find nat_cmp (du_of s.units g k).tunnels teid) refl
      where
        is_there : is_open_in (du_of s.units g k).tunnels teid ≡ true
        is_there = sym (where_open.1 g k teid) ∙ ap is_some there

        by : (o : Option DuTunnel) → find nat_cmp (du_of s.units g k).tunnels teid ≡ o
            → DoneAtPlaces L offered (get_done (plain_world reading) (end_of (du_id g k) teid) item rest s)
        by None found = let clash : false ≡ true = sym (ap is_some found) ∙ is_there in absurd cc
        by (Some t) found =
            at_du g k teid t (du_named s.units owned g k teid t found) (all t.ue t.bearer).delivered (all t.ue t.bearer).left (all t.ue t.bearer).stage refl refl there
    at_node (CuCp g) teid there = absurd (shows.tunnels (end_of (CuCp g) teid) (item ∷ rest) there).0.1
    at_node Core teid there = absurd (shows.tunnels (end_of Core teid) (item ∷ rest) there).0.1
    at_node (Ue u) teid there = absurd (shows.tunnels (end_of (Ue u) teid) (item ∷ rest) there).0.1

  get_at : (end : TunnelEnd) → AtPlaces L offered (get (plain_world reading) end s)
  unfolding get
  get_at end = by (find tunnel_cmp s.tunnels end) refl
    where
      by : (o : Option (List OnTunnel)) → find tunnel_cmp s.tunnels end ≡ o → AtPlaces L offered (get_on (plain_world reading) end s o)
      by None found = (tt, tt)
      by (Some []) found = (tt, tt)
      by (Some (item ∷ rest)) found = got end (get_done (plain_world reading) end item rest s) (at_node item rest end.node end.teid found)

  -- ---- a packet is offered down

  offer_at : (ue : UeId) (bearer : BearerId) (packet : List ℕ) → AtPlaces L offered (offer (plain_world reading) ue bearer Dl packet s)
  unfolding offer
  offer_at ue bearer packet = by (has_bearer s ue bearer)
    where
      on_link : (path : CorePath) → AtPlaces L offered (as_step (Some Core) (put_on_tunnel (plain_world reading) (record { node = path.up; teid = teid_of path.n3 bearer })
          (record { key = entity ue bearer Dl; count = None; content = (plain_world reading).lay_n3 (teid_of path.n3 bearer) packet })
          (offered_in (plain_world reading) (entity ue bearer Dl) s) next check_spans))
      on_link path =
          in_a_step L offered (Some Core) (put_on_tunnel (plain_world reading) (record { node = path.up; teid = teid_of path.n3 bearer })
          (record { key = entity ue bearer Dl; count = None; content = (plain_world reading).lay_n3 (teid_of path.n3 bearer) packet })
          (offered_in (plain_world reading) (entity ue bearer Dl) s) next check_spans)
          (then_lines (plain_world reading) (IsAtPlace L offered) (other_at L offered)
          (put_on_tunnel (plain_world reading) (record { node = path.up; teid = teid_of path.n3 bearer })
          (record { key = entity ue bearer Dl; count = None; content = (plain_world reading).lay_n3 (teid_of path.n3 bearer) packet })
          (offered_in (plain_world reading) (entity ue bearer Dl) s)) check_spans
          (tunnel_lines (plain_world reading) (IsAtPlace L offered) (other_at L offered) (record { node = path.up; teid = teid_of path.n3 bearer })
          (record { key = entity ue bearer Dl; count = None; content = (plain_world reading).lay_n3 (teid_of path.n3 bearer) packet }) tt
          (offered_in (plain_world reading) (entity ue bearer Dl) s))
          (checked_lines (plain_world reading) (IsAtPlace L offered) (other_at L offered)))

      sized : (path : CorePath) (t : Bool) → AtPlaces L offered (if t then refused Size s else
          as_step (Some Core) (put_on_tunnel (plain_world reading) (record { node = path.up; teid = teid_of path.n3 bearer })
          (record { key = entity ue bearer Dl; count = None; content = (plain_world reading).lay_n3 (teid_of path.n3 bearer) packet })
          (offered_in (plain_world reading) (entity ue bearer Dl) s) next check_spans))
      sized path true = (tt, tt)
      sized path false = on_link path

      on_path : (o : Option CorePath) → AtPlaces L offered (offer_on_path (plain_world reading) ue bearer packet s o)
      on_path None = (tt, tt)
      on_path (Some path) = sized path (nat_lt largest_packet (length packet))

      by : (t : Bool) → AtPlaces L offered (if t then offer_down (plain_world reading) ue bearer packet s else refused NoBearer s)
      by true = on_path (find ue_cmp s.core.paths ue)
      by false = (tt, tt)

  -- ---- radios

  module _ (ue : UeId) (bearer : BearerId) where
    abbrev key : EntityKey
    key = entity ue bearer Dl

    -- what is on a bearer's radio is its own
    own_item : (known flying : List OnRadio) (item : OnRadio) (fl : List OnRadio) → AllByRecursion (λ (i : OnRadio). i.key ≡ key) (known ++ flying) → flying ≡ item ∷ fl
        → item.key ≡ key
    own_item [] flying item fl h e = (subst (AllByRecursion (λ (i : OnRadio). i.key ≡ key)) e h).0
    own_item (k ∷ known) flying item fl h e = own_item known flying item fl h.1 e

    silent_air : (home : NodeId) → nth (radio_of s key).items (radio_of s key).carried ≡ None
        → AtPlaces L offered (air_item (plain_world reading) key home s (nth (radio_of s key).items (radio_of s key).carried))
    silent_air home none =
        subst (λ (o : Option OnRadio). AtPlaces L offered (air_item (plain_world reading) key home s o)) (sym none) (tt, tt)

    by_flying : (home : NodeId) (v : View) (sees : Sees s ue bearer v) (fit : IsFit bearer v) (order : IsInOrder v (all ue bearer).delivered (all ue bearer).left)
        (fl : List OnRadio) → order.flying ≡ fl → nth (radio_of s key).items (radio_of s key).carried ≡ nth fl 0
        → AtPlaces L offered (air_item (plain_world reading) key home s (nth (radio_of s key).items (radio_of s key).carried))
    by_flying home v sees fit order [] is found = silent_air home found
    by_flying home v sees fit order (item ∷ fl) is found =
        subst (λ (o : Option OnRadio). AtPlaces L offered (air_item (plain_world reading) key home s o)) (sym found)
        (carried key home (carry_done (plain_world reading) key home item s)
        (does_at L offered reading s (by_air key home item)
        (air_answers L offered reading s owned long all stood ue bearer v sees fit order item fl is
        (own_item order.known order.flying item fl (subst (AllByRecursion (λ (i : OnRadio). i.key ≡ key)) order.radio_is sees.theirs) is))))

    air_by : (home : NodeId) (n : ℕ) (left : List (List ℕ)) → Stage s ue bearer n left → (all ue bearer).delivered ≡ n → (all ue bearer).left ≡ left
        → AtPlaces L offered (air_item (plain_world reading) key home s (nth (radio_of s key).items (radio_of s key).carried))
    air_by home n left (comes plan absent none first empty) n_is left_is = silent_air home (ap (λ (r : Radio (Written Pdu)). nth r.items r.carried) none.2)
    air_by home n left (lacks l none first) n_is left_is = silent_air home (ap (λ (r : Radio (Written Pdu)). nth r.items r.carried) none.2)
    air_by home n left (stands v sees fit found) n_is left_is =
        let order : IsInOrder v (all ue bearer).delivered (all ue bearer).left =
        subst (λ (k : ℕ × List (List ℕ)). IsInOrder v k.0 k.1) (λ i. (sym n_is i, sym left_is i)) found in
        by_flying home v sees fit order order.flying refl
        (ap (λ (r : Radio (Written Pdu)). nth r.items r.carried) sees.radio ∙ ap (λ (is : List OnRadio). nth is v.radio.carried) order.radio_is
        ∙ nth_after order.known order.flying v.radio.carried order.carried_is)

    air_down : AtPlaces L offered (air (plain_world reading) key s)
    unfolding air
    air_down = by (has_bearer s ue bearer)
      where
        at_home : (o : Option NodeId) → AtPlaces L offered (air_at (plain_world reading) key s o)
        at_home None = (tt, tt)
        at_home (Some home) = air_by home (all ue bearer).delivered (all ue bearer).left (all ue bearer).stage refl refl

        by : (t : Bool) → AtPlaces L offered (if t then air_at (plain_world reading) key s (ready_home s ue) else refused NoBearer s)
        by true = at_home (ready_home s ue)
        by false = (tt, tt)

    air_up : AtPlaces L offered (air (plain_world reading) (entity ue bearer Ul) s)
    unfolding air
    air_up = by (has_bearer s ue bearer)
      where
        at_home : (o : Option NodeId) → AtPlaces L offered (air_at (plain_world reading) (entity ue bearer Ul) s o)
        at_home None = (tt, tt)
        at_home (Some home) =
            subst (λ (r : Radio (Written Pdu)). AtPlaces L offered (air_item (plain_world reading) (entity ue bearer Ul) home s (nth r.items r.carried)))
            (sym (silent_up s ue bearer (all ue bearer).delivered (all ue bearer).left (all ue bearer).stage)) (tt, tt)

        by : (t : Bool) → AtPlaces L offered (if t then air_at (plain_world reading) (entity ue bearer Ul) s (ready_home s ue) else refused NoBearer s)
        by true = at_home (ready_home s ue)
        by false = (tt, tt)

    of_radio : (v : View) (sees : Sees s ue bearer v) (fit : IsFit bearer v) (order : IsInOrder v (all ue bearer).delivered (all ue bearer).left) (home : NodeId)
        → ready_home s ue ≡ Some home → (items : List OnRadio) → (radio_of s key).items ≡ items → (carried : ℕ)
        → AtPlaces L offered (ack_items (plain_world reading) key home s items carried)
    of_radio v sees fit order home ready [] are carried = (tt, tt)
    of_radio v sees fit order home ready (item ∷ rest) are carried = by (carried == 0)
      where
        theirs : item.key ≡ key
        theirs =
            (subst (AllByRecursion (λ (i : OnRadio). i.key ≡ key)) (ap (λ (r : Radio (Written Pdu)). r.items) (sym sees.radio) ∙ are) sees.theirs).0

        by : (t : Bool) → AtPlaces L offered (if t then refused Empty s else ordered_by (plain_world reading) s (confirm_done (plain_world reading) key home item rest s))
        by true = (tt, tt)
        by false =
            subst (λ (h : NodeId). AtPlaces L offered (ordered_by (plain_world reading) s (confirm_done (plain_world reading) key h item rest s)))
            (sym (at_the_du reading s owned all ue bearer ue bearer v sees home ready))
            (ordered (confirm_done (plain_world reading) key (du_id v.plan.gnb v.plan.du) item rest s)
            (does_at L offered reading s (by_ack key (du_id v.plan.gnb v.plan.du) item rest)
            (ack_answers L offered reading s owned long all stood ue bearer v sees fit order item theirs)))

    ack_by : (home : NodeId) → ready_home s ue ≡ Some home → (n : ℕ) (left : List (List ℕ)) → Stage s ue bearer n left
        → (all ue bearer).delivered ≡ n → (all ue bearer).left ≡ left
        → AtPlaces L offered (ack_items (plain_world reading) key home s (radio_of s key).items (radio_of s key).carried)
    ack_by home ready n left (comes plan absent none first empty) n_is left_is =
        subst (λ (r : Radio (Written Pdu)). AtPlaces L offered (ack_items (plain_world reading) key home s r.items r.carried)) (sym none.2) (tt, tt)
    ack_by home ready n left (lacks l none first) n_is left_is =
        subst (λ (r : Radio (Written Pdu)). AtPlaces L offered (ack_items (plain_world reading) key home s r.items r.carried)) (sym none.2) (tt, tt)
    ack_by home ready n left (stands v sees fit found) n_is left_is =
        of_radio v sees fit (subst (λ (k : ℕ × List (List ℕ)). IsInOrder v k.0 k.1) (λ i. (sym n_is i, sym left_is i)) found) home ready
        (radio_of s key).items refl (radio_of s key).carried

    ack_down : AtPlaces L offered (ack (plain_world reading) key s)
    unfolding ack
    ack_down = by (has_bearer s ue bearer)
      where
        at_home : (o : Option NodeId) → ready_home s ue ≡ o → AtPlaces L offered (ack_at (plain_world reading) key s o)
        at_home None ready = (tt, tt)
        at_home (Some home) ready = ack_by home ready (all ue bearer).delivered (all ue bearer).left (all ue bearer).stage refl refl

        by : (t : Bool) → AtPlaces L offered (if t then ack_at (plain_world reading) key s (ready_home s ue) else refused NoBearer s)
        by true = at_home (ready_home s ue) refl
        by false = (tt, tt)

    ack_up : AtPlaces L offered (ack (plain_world reading) (entity ue bearer Ul) s)
    unfolding ack
    ack_up = by (has_bearer s ue bearer)
      where
        at_home : (o : Option NodeId) → AtPlaces L offered (ack_at (plain_world reading) (entity ue bearer Ul) s o)
        at_home None = (tt, tt)
        at_home (Some home) =
            subst (λ (r : Radio (Written Pdu)). AtPlaces L offered (ack_items (plain_world reading) (entity ue bearer Ul) home s r.items r.carried))
            (sym (silent_up s ue bearer (all ue bearer).delivered (all ue bearer).left (all ue bearer).stage)) (tt, tt)

        by : (t : Bool) → AtPlaces L offered (if t then ack_at (plain_world reading) (entity ue bearer Ul) s (ready_home s ue) else refused NoBearer s)
        by true = at_home (ready_home s ue)
        by false = (tt, tt)

    ask_at : AtPlaces L offered (ask (plain_world reading) ue bearer s)
    unfolding ask
    ask_at = by (has_bearer s ue bearer)
      where
        quiet : (t : Bool) (a b : ℕ) → AtPlaces L offered (prints ((if t then is_quiet ue bearer a b else is_busy ue bearer) ∷ []) s)
        quiet true a b = (tt, tt)
        quiet false a b = (tt, tt)

        by : (t : Bool) → AtPlaces L offered (if t then prints (ask_line s ue bearer ∷ []) s else refused NoBearer s)
        by true = quiet (rests s ue bearer) (book_of s (entity ue bearer Dl)).delivered (book_of s (entity ue bearer Ul)).delivered
        by false = (tt, tt)

  -- ---- a terminal is set up

  chosen : (t : Bool) (a b : PlainOutcome) → AtPlaces L offered a → AtPlaces L offered b → AtPlaces L offered (if t then a else b)
  chosen true a b p q = p
  chosen false a b p q = q

  static_at : (plan : Plan) → AtPlaces L offered (static (plain_world reading) plan s)
  unfolding static
  static_at plan =
      chosen (was_attached s plan.ue || is_held_by_units plan s.units) _ _ (tt, tt)
      (chosen (not (cu_up_has_room (cu_up_of s.units plan.gnb plan.up) plan)) _ _ (tt, tt)
      (chosen (cu_up_has_teids (cu_up_of s.units plan.gnb plan.up) plan && du_has_teids (du_of s.units plan.gnb plan.du) plan) _ _ tt tt))

  -- ---- the events

  pub event_at : (event : Event) → IsDownlinkOnly event → AtPlaces L offered (happens (plain_world reading) event s)
  unfolding happens
  event_at (events.Static plan) is = static_at plan
  event_at (events.Offer ue bearer Dl packet) is = offer_at ue bearer packet
  event_at (events.Get end teid) is = get_at (record { node = end; teid = teid })
  event_at (events.Air ue bearer Dl) is = air_down ue bearer
  event_at (events.Air ue bearer Ul) is = air_up ue bearer
  event_at (events.Ack ue bearer Dl) is = ack_down ue bearer
  event_at (events.Ack ue bearer Ul) is = ack_up ue bearer
  event_at (events.Ask ue bearer) is = ask_at ue bearer
  event_at event is = absurd is

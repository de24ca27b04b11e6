-- A packet is offered: it stands on the bearer's N3 tunnel then.
use Rattle.std.proofs.Common.{◌≡◌, ◌==◌, ℕ, Bool, true, false, ◌&&◌, not, List, [], ◌∷◌, ◌++◌, length, Option, Some, None, inl, inr, ◌⊎◌, refl, sym, ap, ◌∙◌, subst, append_assoc, eq-eqb}
use Rattle.std.specs.Prelude.{if◌then◌else◌, nat_lt, nat_le, is_some}
use Rattle.std.specs.Ordering.{eq_by_cmp}
use Rattle.std.proofs.lemmas.List.{append-nil, map-append}
use Rattle.gnb_types.specs.declared.names.NodeId.TheVariants.{Core}
use Rattle.gnb_types.specs.declared.names.UeId.{UeId}
use Rattle.gnb_types.specs.declared.names.BearerId.{BearerId}
use Rattle.gnb_types.specs.declared.names.Dir.TheVariants.{Dl}
use Rattle.gnb_types.specs.declared.keys.TunnelEnd.{TunnelEnd}
use Rattle.gnb_types.specs.declared.keys.EntityKey.{EntityKey}
use Rattle.gnb_types.specs.declared.plans.Plan.{Plan}
use Rattle.gnb_types.specs.declared.reasons.RefuseReason.{RefuseReason}
use Rattle.gnb_types.specs.declared.reasons.RefuseReason.TheVariants.{NoBearer, NoPath, Size}
use Rattle.gnb_types.specs.Orders.{ue_cmp, tunnel_cmp, entity_cmp}
use Rattle.gnb_types.proofs.OrderLemmas.{tunnel_total, tunnel_exact, entity_total}
use Rattle.tables.specs.Tables.{find, put}
use Rattle.tables.proofs.TableLaws.{find-put-same, find-put-other}
use Rattle.scenario_text.specs.declared.event.Event.{Event}
use Rattle.scenario_text.specs.declared.event.Event.TheVariants as events
use Rattle.unit_defs.specs.Ways.{Load, Pdu, fresh}
use Rattle.unit_defs.specs.CuUpRecords.{n3, f1u_uplink}
use Rattle.unit_defs.specs.Messages.{teid_of}
use Rattle.unit_defs.specs.Core.{CorePath}
use Rattle.unit_defs.specs.Ue.{largest_packet}
use Rattle.run_defs.specs.Lines.{put_item, lost_items, was_refused, tunnel_link, shown}
use Rattle.run_defs.specs.States.{goes, told_before, ◌next◌, as_step, refused, entity, is_gone, has_bearer, bearers_in}
use Rattle.run_defs.specs.Steps.{on_tunnel, put_on_tunnel, check_spans}
use Rattle.run_defs.specs.Events.{offered, offer_on_path, offer}
use Rattle.run_defs.specs.Runs.{Reading, plain_world}
use Rattle.law_tunnels_are_owned.specs.owner_facts.Owned.{AreOwned}
use Rattle.law_downlink_scripts.proofs.downlink_only_facts.Views.{PlainState, OnTunnel, View, load_of, fresh_ones, n3_end, uplink_end, downlink_end, Sees, IsFit, IsInOrder, Lacks, IsNowhere, Stage, comes, lacks, stands, AllStand}
use Rattle.law_downlink_scripts.proofs.downlink_only_facts.Keys.{Apart, apart_by, tied, same_or_apart}
use Rattle.law_downlink_scripts.proofs.downlink_only_facts.Ends.{owner_of, owner_at, n3_owned, uplink_owned, downlink_owned, others_apart, kinds_apart}
use Rattle.law_downlink_scripts.proofs.downlink_only_facts.Kept.{Kept, stage_kept, same_terminals}
use Rattle.law_downlink_scripts.proofs.downlink_only_facts.Moves.{Line, PlainWithin, PlainOutcome, AreMute, Comes, Fares, mute_moves, step_fares, printed}
use Rattle.law_downlink_scripts.proofs.downlink_only_facts.Lists.{fresh_append}
use Rattle.law_downlink_scripts.proofs.downlink_only_steps.Dus.{radios_apart}

module _ (reading : Reading) (s : PlainState) (owned : AreOwned s.units) (all : AllStand s) (ue : UeId) (bearer : BearerId) (p : List ℕ) where
  abbrev event : Event
  event = events.Offer ue bearer Dl p

  abbrev key : EntityKey
  key = entity ue bearer Dl

  abbrev pub Fared : UeId → BearerId → PlainOutcome → Type 0
  Fared who q e = Fares who q event (all who q).delivered (all who q).left e

  pub refused_fares : (who : UeId) (q : BearerId) (reason : RefuseReason) → Fared who q (refused reason s)
  refused_fares who q reason =
      printed who q event None (all who q).delivered (all who q).left (was_refused reason ∷ []) s (record {
        further = (all who q).delivered;
        then_left = (all who q).left ++ [];
        moves = mute_moves who q (all who q).delivered (all who q).left [] (was_refused reason ∷ []) (tt, tt);
        stage = subst (λ ps. Stage s who q (all who q).delivered ps) (sym (append-nil (all who q).left)) (all who q).stage;
      })

  -- what this bearer is offered, and any other one
  abbrev by_tie : Bool → List (List ℕ)
  by_tie t = if t then p ∷ [] else []

  module _ (lines : List Line) (after : PlainState) (mute : AreMute lines) where
    for_it : Stage after ue bearer (all ue bearer).delivered ((all ue bearer).left ++ p ∷ [])
        → Comes ue bearer (all ue bearer).delivered (all ue bearer).left (by_tie (eq_by_cmp entity_cmp key key)) lines after
    for_it stage =
        subst (λ (t : Bool). Comes ue bearer (all ue bearer).delivered (all ue bearer).left (by_tie t) lines after) (sym (tied entity_cmp entity_total key key refl))
        (record {
          further = (all ue bearer).delivered;
          then_left = (all ue bearer).left ++ p ∷ [];
          moves = mute_moves ue bearer (all ue bearer).delivered (all ue bearer).left (p ∷ []) lines mute;
          stage = stage;
        })

    for_other : (who : UeId) (q : BearerId) → Apart who q ue bearer → Kept s after who q
        → Comes who q (all who q).delivered (all who q).left (by_tie (eq_by_cmp entity_cmp (entity who q Dl) key)) lines after
    for_other who q apart kept =
        subst (λ (t : Bool). Comes who q (all who q).delivered (all who q).left (by_tie t) lines after) (sym (radios_apart who ue q bearer apart))
        (record {
          further = (all who q).delivered;
          then_left = (all who q).left ++ [];
          moves = mute_moves who q (all who q).delivered (all who q).left [] lines mute;
          stage = subst (λ ps. Stage after who q (all who q).delivered ps) (sym (append-nil (all who q).left))
              (stage_kept s after who q owned kept (all who q).delivered (all who q).left (all who q).stage);
        })

    pub comes_to : Stage after ue bearer (all ue bearer).delivered ((all ue bearer).left ++ p ∷ [])
        → ((who : UeId) (q : BearerId) → Apart who q ue bearer → Kept s after who q) → (who : UeId) (q : BearerId)
        → Comes who q (all who q).delivered (all who q).left (by_tie (eq_by_cmp entity_cmp (entity who q Dl) key)) lines after
    comes_to stage kept who q = by (same_or_apart who q ue bearer)
      where
        by : ((who ≡ ue) × (q ≡ bearer)) ⊎ Apart who q ue bearer
            → Comes who q (all who q).delivered (all who q).left (by_tie (eq_by_cmp entity_cmp (entity who q Dl) key)) lines after
        by (inl same) =
            subst (λ (k : UeId × BearerId). Comes k.0 k.1 (all k.0 k.1).delivered (all k.0 k.1).left (by_tie (eq_by_cmp entity_cmp (entity k.0 k.1 Dl) key)) lines after)
            (λ i. (sym same.0 i, sym same.1 i)) (for_it stage)
        by (inr apart) = for_other who q apart (kept who q apart)

  -- ---- on a tunnel

  module _ (end : TunnelEnd) (item : OnTunnel) where
    abbrev now : PlainState
    now = offered (plain_world reading) key s

    abbrev line : Line
    line = put_item (tunnel_link end) (shown item.key item.count item.content.octets)

    abbrev with_items : List OnTunnel → PlainState
    with_items items = record now { tunnels = put tunnel_cmp s.tunnels end (items ++ item ∷ []) }

    abbrev Puts : UeId → BearerId → Type 0
    Puts who q = Fared who q (as_step (Some Core) (put_on_tunnel (plain_world reading) end item now next check_spans))

    -- where it is open, and where it isn't
    opens_so : (items : List OnTunnel) → find tunnel_cmp s.tunnels end ≡ Some items
        → put_on_tunnel (plain_world reading) end item now ≡ goes (line ∷ []) (with_items items)
    unfolding put_on_tunnel
    opens_so items found = ap (λ (o : Option (List OnTunnel)). told_before (line ∷ []) (on_tunnel (plain_world reading) now end item o)) found

    closed_so : find tunnel_cmp s.tunnels end ≡ None
        → put_on_tunnel (plain_world reading) end item now ≡ goes (line ∷ lost_items (tunnel_link end) 1 ∷ []) now
    unfolding put_on_tunnel
    closed_so found = ap (λ (o : Option (List OnTunnel)). told_before (line ∷ []) (on_tunnel (plain_world reading) now end item o)) found

    on_open : (items : List OnTunnel) → find tunnel_cmp s.tunnels end ≡ Some items
        → ((who : UeId) (q : BearerId) → Comes who q (all who q).delivered (all who q).left (by_tie (eq_by_cmp entity_cmp (entity who q Dl) key)) (line ∷ []) (with_items items))
        → (who : UeId) (q : BearerId) → Puts who q
    on_open items found each who q =
        subst (λ (w : PlainWithin). Fared who q (as_step (Some Core) (w next check_spans))) (sym (opens_so items found))
        (step_fares who q event (Some Core) (all who q).delivered (all who q).left (line ∷ []) (with_items items) (each who q))

    on_closed : find tunnel_cmp s.tunnels end ≡ None
        → ((who : UeId) (q : BearerId) → Comes who q (all who q).delivered (all who q).left (by_tie (eq_by_cmp entity_cmp (entity who q Dl) key))
        (line ∷ lost_items (tunnel_link end) 1 ∷ []) now)
        → (who : UeId) (q : BearerId) → Puts who q
    on_closed found each who q =
        subst (λ (w : PlainWithin). Fared who q (as_step (Some Core) (w next check_spans))) (sym (closed_so found))
        (step_fares who q event (Some Core) (all who q).delivered (all who q).left (line ∷ lost_items (tunnel_link end) 1 ∷ []) now (each who q))

    -- ---- the bearer has one

    module _ (v : View) (sees : Sees s ue bearer v) (fit : IsFit bearer v) (order : IsInOrder v (all ue bearer).delivered (all ue bearer).left)
        (same : end ≡ n3_end v) (says : item.content.says ≡ fresh p) where
      abbrev after : PlainState
      after = with_items v.on_n3

      end_owned : owner_at s.units end ≡ Some (owner_of ue bearer (Some n3))
      end_owned = ap (owner_at s.units) same ∙ n3_owned s owned ue bearer v sees fit

      found : find tunnel_cmp s.tunnels end ≡ Some v.on_n3
      found = ap (find tunnel_cmp s.tunnels) same ∙ sees.on_n3

      kept : (who : UeId) (q : BearerId) → Apart who q ue bearer → Kept s after who q
      kept who q apart = record {
        plans = refl;
        paths = refl;
        ups = λ g k. refl;
        dus = λ g k. refl;
        gnbs = λ g k. (refl, refl);
        terminal = same_terminals s.units after.units who q refl;
        tunnels = λ e kind items owner given there. find-put-other tunnel_total s.tunnels end (v.on_n3 ++ item ∷ []) e
            (others_apart s.units e end who ue q bearer kind (Some n3) owner end_owned apart) ∙ there;
        radio = refl;
        radio_up = refl;
        connected = λ on. on;
      }

      abbrev view : View
      view = record v { on_n3 = v.on_n3 ++ item ∷ [] }

      sees_it : Sees after ue bearer view
      sees_it = record {
        plan = sees.plan;
        path = sees.path;
        up = sees.up;
        du = sees.du;
        terminal = (same_terminals s.units after.units ue bearer refl).has v.plan v.bearer sees.terminal;
        on_n3 = ap (find tunnel_cmp after.tunnels) (sym same) ∙ find-put-same tunnel_total s.tunnels end (v.on_n3 ++ item ∷ []);
        on_uplink = find-put-other tunnel_total s.tunnels end (v.on_n3 ++ item ∷ []) (uplink_end v)
            (kinds_apart s.units (uplink_end v) end ue ue bearer bearer (Some f1u_uplink) (Some n3) (uplink_owned s owned ue bearer v sees fit) end_owned (λ e. absurd cc))
            ∙ sees.on_uplink;
        on_downlink = find-put-other tunnel_total s.tunnels end (v.on_n3 ++ item ∷ []) (downlink_end v)
            (kinds_apart s.units (downlink_end v) end ue ue bearer bearer None (Some n3) (downlink_owned s owned ue bearer v sees fit) end_owned (λ e. absurd cc))
            ∙ sees.on_downlink;
        radio = sees.radio;
        radio_up = sees.radio_up;
        connected = sees.connected;
        theirs = sees.theirs;
        only_up = sees.only_up;
        only_du = sees.only_du;
      }

      fits_it : IsFit bearer view
      fits_it = record {
        path_up = fit.path_up;
        path_n3 = fit.path_n3;
        n3_given = fit.n3_given;
        uplink_given = fit.uplink_given;
        downlink_given = fit.downlink_given;
        flags = fit.flags;
        ends = fit.ends;
        restart = fit.restart;
        downlink = fit.downlink;
        to_du = fit.to_du;
        to_teid = fit.to_teid;
        from_du = fit.from_du;
        epoch = fit.epoch;
        gap = fit.gap;
      }

      in_order : IsInOrder view (all ue bearer).delivered ((all ue bearer).left ++ p ∷ [])
      in_order = record {
        aired = order.aired;
        framed = order.framed;
        offered = order.offered ++ p ∷ [];
        known = order.known;
        flying = order.flying;
        radio_is = order.radio_is;
        carried_is = order.carried_is;
        on_radio = order.on_radio;
        on_downlink = order.on_downlink;
        on_n3 = map-append load_of v.on_n3 (item ∷ []) ∙ ap (λ (ls : List (Load Pdu)). ls ++ load_of item ∷ []) order.on_n3
            ∙ ap (λ (l : Load Pdu). fresh_ones order.offered ++ l ∷ []) says ∙ sym (fresh_append order.offered (p ∷ []));
        on_uplink = order.on_uplink;
        frames = order.frames;
        counts = order.counts;
        left_is = ap (λ (ps : List (List ℕ)). ps ++ p ∷ []) order.left_is
            ∙ append_assoc order.aired (order.framed ++ (v.up.bearer.waiting ++ order.offered)) (p ∷ [])
            ∙ ap (λ (ps : List (List ℕ)). order.aired ++ ps) (append_assoc order.framed (v.up.bearer.waiting ++ order.offered) (p ∷ [])
            ∙ ap (λ (ps : List (List ℕ)). order.framed ++ ps) (append_assoc v.up.bearer.waiting order.offered (p ∷ [])));
        receiver = order.receiver;
      }

      pub stands_fares : (who : UeId) (q : BearerId) → Puts who q
      stands_fares =
          on_open v.on_n3 found (comes_to (line ∷ []) after (tt, tt) (stands view sees_it fits_it in_order) kept)

    -- ---- it has none: TEID 0 is no bearer's

    module _ (l : Lacks s ue bearer) (none : IsNowhere s ue bearer) (first : (all ue bearer).delivered ≡ 0) (no_teid : end.teid ≡ 0) where
      apart_from : (e : TunnelEnd) → e.teid == 0 ≡ false → eq_by_cmp tunnel_cmp e end ≡ false
      apart_from e given = apart_by tunnel_cmp tunnel_exact e end (λ is. clash (sym (eq-eqb e.teid 0 (ap (λ (t : TunnelEnd). t.teid) is ∙ no_teid)) ∙ given))
        where
          clash : true ≡ false → ⊥
          clash e = absurd cc

      kept_as : (ts : List (TunnelEnd × List OnTunnel)) → ((e : TunnelEnd) → eq_by_cmp tunnel_cmp e end ≡ false → find tunnel_cmp ts e ≡ find tunnel_cmp s.tunnels e)
          → (who : UeId) (q : BearerId) → Kept s (record now { tunnels = ts }) who q
      kept_as ts others who q = record {
        plans = refl;
        paths = refl;
        ups = λ g k. refl;
        dus = λ g k. refl;
        gnbs = λ g k. (refl, refl);
        terminal = same_terminals s.units s.units who q refl;
        tunnels = λ e kind items owner given there. others e (apart_from e given) ∙ there;
        radio = refl;
        radio_up = refl;
        connected = λ on. on;
      }

      lacks_on : (ts : List (TunnelEnd × List OnTunnel)) → ((e : TunnelEnd) → eq_by_cmp tunnel_cmp e end ≡ false → find tunnel_cmp ts e ≡ find tunnel_cmp s.tunnels e)
          → Stage (record now { tunnels = ts }) ue bearer (all ue bearer).delivered ((all ue bearer).left ++ p ∷ [])
      lacks_on ts others =
          stage_kept s (record now { tunnels = ts }) ue bearer owned (kept_as ts others ue bearer) (all ue bearer).delivered ((all ue bearer).left ++ p ∷ []) (lacks l none first)

      pub lacks_fares : (who : UeId) (q : BearerId) → Puts who q
      lacks_fares = by (find tunnel_cmp s.tunnels end) refl
        where
          by : (o : Option (List OnTunnel)) → find tunnel_cmp s.tunnels end ≡ o → (who : UeId) (q : BearerId) → Puts who q
          by None found =
              on_closed found (comes_to (line ∷ lost_items (tunnel_link end) 1 ∷ []) now (tt, (tt, tt)) (lacks_on s.tunnels (λ e a. refl))
              (λ who q apart. kept_as s.tunnels (λ e a. refl) who q))
          by (Some items) found =
              let others : (e : TunnelEnd) → eq_by_cmp tunnel_cmp e end ≡ false
              → find tunnel_cmp (put tunnel_cmp s.tunnels end (items ++ item ∷ [])) e ≡ find tunnel_cmp s.tunnels e =
              λ e a. find-put-other tunnel_total s.tunnels end (items ++ item ∷ []) e a in
              on_open items found (comes_to (line ∷ []) (with_items items) (tt, tt)
              (lacks_on (put tunnel_cmp s.tunnels end (items ++ item ∷ [])) others)
              (λ who q apart. kept_as (put tunnel_cmp s.tunnels end (items ++ item ∷ [])) others who q))

  -- ---- the event

  one : (y z : CorePath) → Some y ≡ Some z → y ≡ z
  one y z e = cc

  attached_needs : find ue_cmp s.plans ue ≡ None → has_bearer s ue bearer ≡ false
  attached_needs none = ap (λ (o : Option Plan). (is_some o && not (is_gone s ue)) && nat_le bearer.0 (bearers_in o)) none

  on_path : has_bearer s ue bearer ≡ true → (path : CorePath) → find ue_cmp s.core.paths ue ≡ Some path → (n : ℕ) (left : List (List ℕ))
      → Stage s ue bearer n left → (all ue bearer).delivered ≡ n → (all ue bearer).left ≡ left → (who : UeId) (q : BearerId)
      → Puts (record { node = path.up; teid = teid_of path.n3 bearer })
      (record { key = key; count = None; content = (plain_world reading).lay_n3 (teid_of path.n3 bearer) p }) who q
  on_path has path there n left (comes plan absent none first empty) n_is left_is who q =
      let clash : true ≡ false = sym has ∙ attached_needs plan in absurd cc
  on_path has path there n left (lacks l none first) n_is left_is who q =
      let same : l.path ≡ path = one l.path path (sym l.path_there ∙ there) in
      lacks_fares (record { node = path.up; teid = teid_of path.n3 bearer }) (record { key = key; count = None; content = (plain_world reading).lay_n3 (teid_of path.n3 bearer) p })
      l none (n_is ∙ first) (ap (λ (z : CorePath). teid_of z.n3 bearer) (sym same) ∙ l.path_n3) who q
  on_path has path there n left (stands v sees fit order) n_is left_is who q =
      let same : v.path ≡ path = one v.path path (sym sees.path ∙ there) in
      let node_is = ap (λ (z : CorePath). z.up) (sym same) ∙ fit.path_up in
      let teid_is = ap (λ (z : CorePath). teid_of z.n3 bearer) (sym same) ∙ fit.path_n3 in
      stands_fares (record { node = path.up; teid = teid_of path.n3 bearer }) (record { key = key; count = None; content = (plain_world reading).lay_n3 (teid_of path.n3 bearer) p })
      v sees fit (subst (λ (k : ℕ × List (List ℕ)). IsInOrder v k.0 k.1) (λ i. (sym n_is i, sym left_is i)) order) (λ i. record { node = node_is i; teid = teid_is i }) refl who q

  pub offer_fares : (who : UeId) (q : BearerId) → Fared who q (offer (plain_world reading) ue bearer Dl p s)
  unfolding offer
  offer_fares who q = by (has_bearer s ue bearer) refl
    where
      sized : (path : CorePath) → find ue_cmp s.core.paths ue ≡ Some path → has_bearer s ue bearer ≡ true → (t : Bool)
          → Fared who q (if t then refused Size s else
          (let end : TunnelEnd = record { node = path.up; teid = teid_of path.n3 bearer } in
          let item : OnTunnel = record { key = entity ue bearer Dl; count = None; content = (plain_world reading).lay_n3 (teid_of path.n3 bearer) p } in
          as_step (Some Core) (put_on_tunnel (plain_world reading) end item (offered (plain_world reading) (entity ue bearer Dl) s) next check_spans)))
      sized path there has true = refused_fares who q Size
      sized path there has false = on_path has path there (all ue bearer).delivered (all ue bearer).left (all ue bearer).stage refl refl who q

      pathed : (o : Option CorePath) → find ue_cmp s.core.paths ue ≡ o → has_bearer s ue bearer ≡ true
          → Fared who q (offer_on_path (plain_world reading) ue bearer p s o)
      pathed None there has = refused_fares who q NoPath
      pathed (Some path) there has = sized path there has (nat_lt largest_packet (length p))

      by : (t : Bool) → has_bearer s ue bearer ≡ t
          → Fared who q (if t then offer_on_path (plain_world reading) ue bearer p s (find ue_cmp s.core.paths ue) else refused NoBearer s)
      by true has = pathed (find ue_cmp s.core.paths ue) refl has
      by false has = refused_fares who q NoBearer

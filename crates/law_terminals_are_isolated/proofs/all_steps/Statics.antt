-- A terminal that is set up without messages leaves the whole projections of the others.
use Rattle.std.proofs.Common.{◌≡◌, ℕ, zero, suc, ◌+◌, ◌*◌, ◌==◌, Bool, true, false, cond, ◌&&◌, List, [], Option, Some, None, refl, sym, ap, ◌∙◌, subst, eqb-true}
use Rattle.std.specs.Prelude.{◌≢◌, unwrap_or, if◌then◌else◌}
use Rattle.std.specs.Option.{option_map}
use Rattle.std.specs.Ordering.{nat_cmp, eq_by_cmp}
use Rattle.std.specs.Cmp.{Equal-is}
use Rattle.gnb_types.specs.declared.names.Gnb.{Gnb}
use Rattle.gnb_types.specs.declared.names.Gnb.TheVariants.{A, B}
use Rattle.gnb_types.specs.declared.names.NodeId.{NodeId}
use Rattle.gnb_types.specs.declared.names.NodeId.TheVariants.{CuUp as up_id, Du as du_id}
use Rattle.gnb_types.specs.declared.names.UeId.{UeId}
use Rattle.gnb_types.specs.declared.keys.TunnelEnd.{TunnelEnd}
use Rattle.gnb_types.specs.declared.plans.Plan.{Plan}
use Rattle.gnb_types.specs.Orders.{node_cmp, ue_cmp, tunnel_cmp}
use Rattle.gnb_types.proofs.OrderLemmas.{node_total, node_exact, ue_total, tunnel_total, tunnel_exact}
use Rattle.tables.specs.Tables.{find, put, at}
use Rattle.tables.proofs.TableLaws.{at-put, find-put-other}
use Rattle.unit_defs.specs.Ue.{UeNode, new_ue, placed}
use Rattle.unit_defs.specs.CuUpRecords.{CuUp}
use Rattle.unit_defs.specs.CuUp.{new_cu_up}
use Rattle.unit_defs.specs.Du.{DuContext, DuTunnel, Du, new_du}
use Rattle.unit_defs.specs.CuCpRecords.{CuCpRecord, terminal_in}
use Rattle.unit_defs.specs.Static.{cu_up_context, cu_up_placed, cu_up_has_teids, du_context, du_placed, du_has_teids, cu_cp_context, cu_cp_placed, cu_cp_set_up, cu_up_set_up, du_set_up}
use Rattle.transport_defs.specs.declared.Item.{Item}
use Rattle.transport_defs.specs.Links.{items_of}
use Rattle.run_defs.specs.Units.{Units, cu_cp_of, with_cu_cp, cu_up_of, with_cu_up, du_of, with_du, with_ue}
use Rattle.run_defs.specs.States.{State}
use Rattle.run_defs.specs.Steps.{with_tunnel}
use Rattle.run_defs.specs.Conditions.{is_held_by_units, all_set_up, units_placed, n3_from, tunnels_from, statically}
use Rattle.law_tunnels_are_owned.specs.owner_facts.Owned.{du_names, du_context_names, DuOwns, AreOwned}
use Rattle.law_tunnels_are_owned.proofs.tunnel_owners.Placed.{placed_owned}
use Rattle.law_terminals_are_isolated.proofs.projection_owners.Owners.{tunnels_same as up_tunnels_same}
use Rattle.law_terminals_are_isolated.specs.projections.Projections.{Requests, requests_of}
use Rattle.law_terminals_are_isolated.proofs.projections.Tables.{apart_ues}
use Rattle.law_terminals_are_isolated.specs.cu_cp_projection.CuCps.{cu_cp_projection}
use Rattle.law_terminals_are_isolated.specs.cu_up_projection.CuUps.{CuUpWithoutTeids, cu_up_without_teids, cu_up_projection}
use Rattle.law_terminals_are_isolated.specs.du_projection.Dus.{own_tunnel, du_projection}
use Rattle.law_terminals_are_isolated.specs.run_projections.Units.{units_projection}
use Rattle.law_terminals_are_isolated.specs.own_steps.Own.{LeavesOthers}
use Rattle.proof_run_steps.proofs.teids.Placed.{find_mapped}

-- ---- the open TEIDs of a terminal at a DU follow from its context

module _ (ue : UeId) where
  same_ue : (t : DuTunnel) → (t.ue.0 == ue.0) ≡ true → t.ue ≡ ue
  same_ue t e = ap (λ (n : ℕ). record { 0 = n }) (eqb-true t.ue.0 ue.0 e)

  -- each one of the terminal's in one of two places is in the other
  own_equal : (a b : Option DuTunnel) → ((t : DuTunnel) → t.ue ≡ ue → a ≡ Some t → b ≡ Some t) → ((t : DuTunnel) → t.ue ≡ ue → b ≡ Some t → a ≡ Some t)
      → own_tunnel ue a ≡ own_tunnel ue b
  own_equal None None there back = refl
  own_equal None (Some u) there back = by (u.ue.0 == ue.0) refl
    where
      by : (c : Bool) → (u.ue.0 == ue.0) ≡ c → None ≡ own_tunnel ue (Some u)
      by true e = ap (own_tunnel ue) (back u (same_ue u e) refl)
      by false e = sym (ap (λ (c : Bool). if c then Some u else None) e)
  own_equal (Some t) b there back = by (t.ue.0 == ue.0) refl
    where
      none : (x : Option DuTunnel) → (t.ue.0 == ue.0) ≡ false → ((u : DuTunnel) → u.ue ≡ ue → x ≡ Some u → Some t ≡ Some u) → None ≡ own_tunnel ue x
      none None e same = refl
      none (Some u) e same = at_one (u.ue.0 == ue.0) refl
        where
          at_one : (c : Bool) → (u.ue.0 == ue.0) ≡ c → None ≡ own_tunnel ue (Some u)
          at_one true f = sym (ap (λ (c : Bool). if c then Some t else None) e) ∙ ap (own_tunnel ue) (same u (same_ue u f) refl)
          at_one false f = sym (ap (λ (c : Bool). if c then Some u else None) f)

      by : (c : Bool) → (t.ue.0 == ue.0) ≡ c → own_tunnel ue (Some t) ≡ own_tunnel ue b
      by true e = ap (own_tunnel ue) (sym (there t (same_ue t e) refl))
      by false e = ap (λ (c : Bool). if c then Some t else None) e ∙ none b e back

  module _ {M C : Type 0} (r s : Du M C) (p : DuOwns r) (q : DuOwns s) (same : find ue_cmp s.contexts ue ≡ find ue_cmp r.contexts ue) where
    names_same : (t : DuTunnel) (teid : ℕ) → t.ue ≡ ue → du_names s.contexts t teid ≡ du_names r.contexts t teid
    names_same t teid is =
        ap (du_context_names t teid) (subst (λ (v : UeId). find ue_cmp s.contexts v ≡ find ue_cmp r.contexts v) (sym is) same)

    pub du_tunnels_same : (teid : ℕ) → own_tunnel ue (find nat_cmp s.tunnels teid) ≡ own_tunnel ue (find nat_cmp r.tunnels teid)
    du_tunnels_same teid =
        own_equal (find nat_cmp s.tunnels teid) (find nat_cmp r.tunnels teid)
        (λ t is e. p.0.stands teid t (sym (names_same t teid is) ∙ q.0.named teid t e))
        (λ t is e. q.0.stands teid t (names_same t teid is ∙ p.0.named teid t e))

-- ---- units

module _ {M C : Type 0} (plan : Plan) (u : Units M C) (other : UeId) (apart : other ≢ plan.ue) where
  abbrev after : Units M C
  after = all_set_up (units_placed plan u)

  placed_cp : (r : CuCpRecord M C) → cu_cp_projection other (cu_cp_set_up (cu_cp_placed r plan)) ≡ cu_cp_projection other r
  unfolding cu_cp_placed
  placed_cp r = λ i. record {
    terminal = terminal_in (find-put-other ue_total r.terminals plan.ue (record { context = Some (cu_cp_context plan); taken = None }) other (apart_ues other plan.ue apart) i);
    requests = requests_of other.0 r.transactions;
  }

  cp_by : (gnb g : Gnb) (x : Units M C) → x.cu_cp_a ≡ u.cu_cp_a → x.cu_cp_b ≡ u.cu_cp_b
      → cu_cp_projection other (cu_cp_of (all_set_up (with_cu_cp x gnb (cu_cp_placed (cu_cp_of u gnb) plan))) g) ≡ cu_cp_projection other (cu_cp_of u g)
  cp_by A A x a b = placed_cp u.cu_cp_a
  cp_by A B x a b = ap (cu_cp_projection other) b
  cp_by B A x a b = ap (cu_cp_projection other) a
  cp_by B B x a b = placed_cp u.cu_cp_b

  cp_ups : (gnb : Gnb) (x : Units M C) (r : CuCpRecord M C) → (with_cu_cp x gnb r).ups ≡ x.ups
  cp_ups A x r = refl
  cp_ups B x r = refl

  cp_dus : (gnb : Gnb) (x : Units M C) (r : CuCpRecord M C) → (with_cu_cp x gnb r).dus ≡ x.dus
  cp_dus A x r = refl
  cp_dus B x r = refl

  cp_ues : (gnb : Gnb) (x : Units M C) (r : CuCpRecord M C) → (with_cu_cp x gnb r).ues ≡ x.ues
  cp_ues A x r = refl
  cp_ues B x r = refl

  -- ---- CU-UPs

  abbrev up_now : CuUp M C
  up_now = cu_up_of u plan.gnb plan.up

  abbrev du_now : Du M C
  du_now = du_of u plan.gnb plan.du

  abbrev up_then : CuUp M C
  up_then = cu_up_placed up_now plan du_now.next_teid

  abbrev du_then : Du M C
  du_then = du_placed du_now plan (up_now.next_teid + 1)

  abbrev both : Units M C
  both = with_du (with_cu_up (with_ue u plan.ue (placed (new_ue plan))) plan.gnb plan.up up_then) plan.gnb plan.du du_then

  up_set : (g : Gnb) (n : ℕ) (v : Units M C) → cu_up_without_teids other (cu_up_of (all_set_up v) g n) ≡ cu_up_without_teids other (cu_up_of v g n)
  unfolding at
  up_set g n v =
      ap (λ (o : Option (CuUp M C)). cu_up_without_teids other (unwrap_or o (new_cu_up g n))) (find_mapped node_cmp cu_up_set_up v.ups (up_id g n))
      ∙ by (find node_cmp v.ups (up_id g n))
    where
      by : (o : Option (CuUp M C)) → cu_up_without_teids other (unwrap_or (option_map cu_up_set_up o) (new_cu_up g n)) ≡ cu_up_without_teids other (unwrap_or o (new_cu_up g n))
      by None = refl
      by (Some r) = refl

  up_stays : cu_up_without_teids other up_then ≡ cu_up_without_teids other up_now
  unfolding cu_up_placed
  up_stays = λ i. record {
    context = find-put-other ue_total up_now.contexts plan.ue (cu_up_context up_now plan du_now.next_teid) other (apart_ues other plan.ue apart) i;
    requests = requests_of other.0 up_now.transactions;
  }

  up_became : (g : Gnb) (n : ℕ) → cu_up_without_teids other (at node_cmp (new_cu_up g n) (put node_cmp u.ups (up_id plan.gnb plan.up) up_then) (up_id g n))
      ≡ cu_up_without_teids other (cu_up_of u g n)
  up_became g n =
      ap (cu_up_without_teids other) (at-put node_total (new_cu_up g n) u.ups (up_id plan.gnb plan.up) up_then (up_id g n))
      ∙ by (eq_by_cmp node_cmp (up_id g n) (up_id plan.gnb plan.up)) refl
    where
      by : (t : Bool) → eq_by_cmp node_cmp (up_id g n) (up_id plan.gnb plan.up) ≡ t → cu_up_without_teids other (cond t up_then (cu_up_of u g n)) ≡ cu_up_without_teids other (cu_up_of u g n)
      by false tie = refl
      by true tie =
          let same : up_id g n ≡ up_id plan.gnb plan.up = node_exact (up_id g n) (up_id plan.gnb plan.up) ((Equal-is (node_cmp (up_id g n) (up_id plan.gnb plan.up))).0 tie) in
          let of_gnb : g ≡ plan.gnb = cc in
          let numbered : n ≡ plan.up = cc in
          up_stays ∙ sym (ap (λ (x : Gnb). cu_up_without_teids other (cu_up_of u x n)) of_gnb ∙ ap (λ (m : ℕ). cu_up_without_teids other (cu_up_of u plan.gnb m)) numbered)

  ups_stay : (g : Gnb) (n : ℕ) → cu_up_without_teids other (cu_up_of after g n) ≡ cu_up_without_teids other (cu_up_of u g n)
  ups_stay g n =
      up_set g n (units_placed plan u)
      ∙ ap (λ (us : List (NodeId × CuUp M C)). cu_up_without_teids other (at node_cmp (new_cu_up g n) us (up_id g n))) (cp_ups plan.gnb both (cu_cp_placed (cu_cp_of u plan.gnb) plan))
      ∙ up_became g n

  -- ---- DUs

  abbrev DuPart : Type 0
  DuPart = Option DuContext × Requests M C

  abbrev du_part : Du M C → DuPart
  du_part r = (find ue_cmp r.contexts other, requests_of other.0 r.transactions)

  du_set : (g : Gnb) (n : ℕ) (v : Units M C) → du_part (du_of (all_set_up v) g n) ≡ du_part (du_of v g n)
  unfolding at
  du_set g n v =
      ap (λ (o : Option (Du M C)). du_part (unwrap_or o (new_du g n))) (find_mapped node_cmp du_set_up v.dus (du_id g n))
      ∙ by (find node_cmp v.dus (du_id g n))
    where
      by : (o : Option (Du M C)) → du_part (unwrap_or (option_map du_set_up o) (new_du g n)) ≡ du_part (unwrap_or o (new_du g n))
      by None = refl
      by (Some r) = refl

  du_stays : du_part du_then ≡ du_part du_now
  unfolding du_placed
  du_stays = λ i. (
    find-put-other ue_total du_now.contexts plan.ue (du_context du_now plan (up_now.next_teid + 1)) other (apart_ues other plan.ue apart) i,
    requests_of other.0 du_now.transactions,
  )

  du_became : (g : Gnb) (n : ℕ) → du_part (at node_cmp (new_du g n) (put node_cmp u.dus (du_id plan.gnb plan.du) du_then) (du_id g n))
      ≡ du_part (du_of u g n)
  du_became g n =
      ap du_part (at-put node_total (new_du g n) u.dus (du_id plan.gnb plan.du) du_then (du_id g n))
      ∙ by (eq_by_cmp node_cmp (du_id g n) (du_id plan.gnb plan.du)) refl
    where
      by : (t : Bool) → eq_by_cmp node_cmp (du_id g n) (du_id plan.gnb plan.du) ≡ t → du_part (cond t du_then (du_of u g n)) ≡ du_part (du_of u g n)
      by false tie = refl
      by true tie =
          let same : du_id g n ≡ du_id plan.gnb plan.du = node_exact (du_id g n) (du_id plan.gnb plan.du) ((Equal-is (node_cmp (du_id g n) (du_id plan.gnb plan.du))).0 tie) in
          let of_gnb : g ≡ plan.gnb = cc in
          let numbered : n ≡ plan.du = cc in
          du_stays ∙ sym (ap (λ (x : Gnb). du_part (du_of u x n)) of_gnb ∙ ap (λ (m : ℕ). du_part (du_of u plan.gnb m)) numbered)

  dus_stay : (g : Gnb) (n : ℕ) → du_part (du_of after g n) ≡ du_part (du_of u g n)
  dus_stay g n =
      du_set g n (units_placed plan u)
      ∙ ap (λ (ds : List (NodeId × Du M C)). du_part (at node_cmp (new_du g n) ds (du_id g n))) (cp_dus plan.gnb both (cu_cp_placed (cu_cp_of u plan.gnb) plan))
      ∙ du_became g n

  -- ---- all units, where the open TEIDs are those that contexts name, before and after

  module _ (owned : AreOwned u) (then_owned : AreOwned after) where
    up_projections : (g : Gnb) (n : ℕ) → cu_up_projection other (cu_up_of after g n) ≡ cu_up_projection other (cu_up_of u g n)
    up_projections g n = λ i. record {
      context = (ups_stay g n i).context;
      tunnels = λ teid. up_tunnels_same other (cu_up_of u g n) (cu_up_of after g n) (owned.0 g n) (then_owned.0 g n)
          (ap (λ (x : CuUpWithoutTeids M C). x.context) (ups_stay g n)) teid i;
      requests = (ups_stay g n i).requests;
    }

    du_projections : (g : Gnb) (n : ℕ) → du_projection other (du_of after g n) ≡ du_projection other (du_of u g n)
    du_projections g n = λ i. record {
      context = (dus_stay g n i).0;
      tunnels = λ teid. du_tunnels_same other (du_of u g n) (du_of after g n) (owned.1 g n) (then_owned.1 g n)
          (ap (λ (x : DuPart). x.0) (dus_stay g n)) teid i;
      requests = (dus_stay g n i).1;
    }

    node_stays : find ue_cmp after.ues other ≡ find ue_cmp u.ues other
    node_stays =
        ap (λ (es : List (UeId × UeNode)). find ue_cmp es other) (cp_ues plan.gnb both (cu_cp_placed (cu_cp_of u plan.gnb) plan))
        ∙ find-put-other ue_total u.ues plan.ue (placed (new_ue plan)) other (apart_ues other plan.ue apart)

    units_stay : units_projection other after ≡ units_projection other u
    units_stay = λ i. record {
      cps = λ g. cp_by plan.gnb g both refl refl i;
      ups = λ g n. ups_stay g n i;
      dus = λ g n. du_projections g n i;
      node = node_stays i;
    }

-- ---- beside units: open tunnels have what stood there

open_same : {X : Type 0} (ts : List (TunnelEnd × List (Item X))) (end q : TunnelEnd) → at tunnel_cmp [] (with_tunnel end ts) q ≡ at tunnel_cmp [] ts q
open_same ts end q = at-put tunnel_total [] ts end (at tunnel_cmp [] ts end) q ∙ by (eq_by_cmp tunnel_cmp q end) refl
  where
    by : (b : Bool) → eq_by_cmp tunnel_cmp q end ≡ b → cond b (at tunnel_cmp [] ts end) (at tunnel_cmp [] ts q) ≡ at tunnel_cmp [] ts q
    by false tie = refl
    by true tie =
        let here : q ≡ end = tunnel_exact q end ((Equal-is (tunnel_cmp q end)).0 tie) in
        ap (λ (e : TunnelEnd). at tunnel_cmp [] ts e) (sym here)

pub from_same : {X : Type 0} (node : NodeId) (teid count : ℕ) (ts : List (TunnelEnd × List (Item X))) (q : TunnelEnd)
    → at tunnel_cmp [] (tunnels_from node teid count ts) q ≡ at tunnel_cmp [] ts q
from_same node teid zero ts q = refl
from_same node teid (suc count) ts q =
    from_same node (teid + 1) count (with_tunnel (record { node = node; teid = teid }) ts) q ∙ open_same ts (record { node = node; teid = teid }) q

module _ {M C L P : Type 0} (plan : Plan) (s : State M C L P) (free : is_held_by_units plan s.units ≡ false)
    (left : cu_up_has_teids (cu_up_of s.units plan.gnb plan.up) plan && du_has_teids (du_of s.units plan.gnb plan.du) plan ≡ true) (owned : AreOwned s.units) where
  then_owned : AreOwned (all_set_up (units_placed plan s.units))
  then_owned = placed_owned s.units plan free left owned

  pub static_leaves : LeavesOthers plan.ue s (statically plan s)
  static_leaves =
      let up = (cu_up_of s.units plan.gnb plan.up).next_teid in
      let du = (du_of s.units plan.gnb plan.du).next_teid in
      record {
        units = λ other apart. units_stay plan s.units other apart owned then_owned;
        tunnels = λ gnb number other apart. up_projections plan s.units other apart owned then_owned gnb number;
        core = λ other apart i. record {
          path = find-put-other ue_total s.core.paths plan.ue (record { up = up_id plan.gnb plan.up; n3 = n3_from 1 up plan.bearers }) other (apart_ues other plan.ue apart) i;
          requests = requests_of other.0 s.core.transactions;
        };
        beside = record {
          control_messages = λ other apart. refl;
          tunnels = λ end key apart. ap (items_of key)
              (from_same (du_id plan.gnb plan.du) du plan.bearers (tunnels_from (up_id plan.gnb plan.up) up (2 * plan.bearers) s.tunnels) end
              ∙ from_same (up_id plan.gnb plan.up) up (2 * plan.bearers) s.tunnels end);
          radios = λ q apart. refl;
          books = λ q apart. refl;
          connected = λ other apart. find-put-other ue_total s.connected plan.ue 1 other (apart_ues other plan.ue apart);
          plans = λ other apart. find-put-other ue_total s.plans plan.ue plan other (apart_ues other plan.ue apart);
        };
      }

-- What a set-up of another terminal leaves of a bearer: by the projections of CU-UPs, and by the tunnels that it opens.
use Rattle.std.proofs.Common.{◌≡◌, ◌≢◌, ℕ, ◌==◌, Bool, true, false, ◌&&◌, List, [], ◌∷◌, Option, Some, None, refl, sym, ap, ◌∙◌, arith}
use Rattle.std.specs.Prelude.{if◌then◌else◌, unwrap_or, is_some, ◌*◌}
use Rattle.std.specs.Ordering.{nat_cmp, eq_by_cmp}
use Rattle.std.specs.Cmp.{Equal-is}
use Rattle.gnb_types.specs.declared.names.Gnb.{Gnb}
use Rattle.gnb_types.specs.declared.names.NodeId.{NodeId}
use Rattle.gnb_types.specs.declared.names.NodeId.TheVariants.{CuCp, CuUp as up_id, Du as du_id, Core, Ue}
use Rattle.gnb_types.specs.declared.names.UeId.{UeId}
use Rattle.gnb_types.specs.declared.names.BearerId.{BearerId}
use Rattle.gnb_types.specs.declared.keys.TunnelEnd.{TunnelEnd}
use Rattle.gnb_types.specs.declared.plans.Plan.{Plan}
use Rattle.gnb_types.specs.Orders.{ue_cmp, bearer_cmp}
use Rattle.gnb_types.proofs.OrderLemmas.{ue_exact}
use Rattle.tables.specs.Tables.{find, at}
use Rattle.message_types.specs.declared.rrc.Token.{Token}
use Rattle.unit_defs.specs.Ways.{Message}
use Rattle.unit_defs.specs.CuUpRecords.{CuUpContext, CuUpTunnel}
use Rattle.unit_defs.specs.Static.{cu_up_has_teids, du_has_teids}
use Rattle.run_defs.specs.Units.{cu_up_of, du_of}
use Rattle.run_defs.specs.Conditions.{is_held_by_units, tunnels_from, statically}
use Rattle.run_defs.specs.Runs.{Reading}
use Rattle.law_terminals_are_isolated.specs.cu_up_projection.CuUps.{CuUpProjection, own_tunnel, cu_up_projection}
use Rattle.law_terminals_are_isolated.specs.own_steps.Own.{LeavesOthers}
use Rattle.law_terminals_are_isolated.proofs.own_steps.Steps.{Sound}
use Rattle.law_terminals_are_isolated.proofs.all_steps.Statics.{from_same, static_leaves}
use Rattle.proof_cu_up_orders.specs.context_orders.Orders.{model_in}
use Rattle.proof_run_steps.specs.tunnel_steps.Standing.{standing}
use Rattle.proof_bearer_refinement.specs.run_bearers.Bearers.{Place, Numbering, if_of, at_place, contexts_of}
use Rattle.proof_bearer_refinement.specs.refinement_facts.Refinements.{RunState, RunItem, Owned, owned_by, owned_on}
use Rattle.law_tunnels_are_owned.proofs.open_tunnels.Links.{end_of}
use Rattle.proof_bearer_refinement.proofs.du_puts.Apart.{found_on}
use Rattle.proof_bearer_refinement.proofs.du_puts.Stands.{some_standing}
use Rattle.proof_bearer_refinement.specs.runs.Steps.{LeavesBearer}
use Rattle.proof_bearer_refinement.specs.runs.Fair.{IsFair}

number_same : (a : ℕ) → (a == a) ≡ true
number_same a = grind arith

-- two tunnels that are open, and on which the same stands
same_standing : (a b : Option (List RunItem)) (x y : List RunItem) → a ≡ Some x → b ≡ Some y → unwrap_or a [] ≡ unwrap_or b [] → a ≡ b
same_standing a b x y p q same =
    p ∙ ap (λ (zs : List RunItem). Some zs) (sym (ap (λ (o : Option (List RunItem)). unwrap_or o []) p) ∙ same ∙ ap (λ (o : Option (List RunItem)). unwrap_or o []) q)
    ∙ sym q

module _ (n : Numbering) (ue : UeId) (bearer : BearerId) (g : Gnb) (k : ℕ) where
  apart_ue : (w : UeId) → (w.0 == ue.0) ≡ false → eq_by_cmp ue_cmp ue w ≡ false
  apart_ue w apart = by (eq_by_cmp ue_cmp ue w) refl
    where
      by : (t : Bool) → eq_by_cmp ue_cmp ue w ≡ t → t ≡ false
      by false e = refl
      by true e =
          let same : ue ≡ w = ue_exact ue w ((Equal-is (ue_cmp ue w)).0 e) in
          let never : true ≡ false = sym (number_same ue.0) ∙ ap (λ (u : UeId). u.0 == ue.0) same ∙ apart in absurd cc

  -- whose a tunnel is, of this bearer, is told by those of the terminal
  own_owned : (o : Option CuUpTunnel) → owned_by n ue bearer g k o ≡ owned_by n ue bearer g k (own_tunnel ue o)
  own_owned None = refl
  own_owned (Some w) = by (w.ue.0 == ue.0) refl
    where
      by : (t : Bool) → (w.ue.0 == ue.0) ≡ t → owned_by n ue bearer g k (Some w) ≡ owned_by n ue bearer g k (if t then Some w else None)
      by true e = refl
      by false apart =
          ap (λ (t : Bool). if t && eq_by_cmp bearer_cmp bearer w.bearer
          then Some (record { context = n.number_of (record { gnb = g; number = k; instance = w.context }); kind = w.kind }) else None)
          (apart_ue w.ue apart)

module _ (reading : Reading) (n : Numbering) (ue : UeId) (bearer : BearerId) (s : RunState) (plan : Plan) (fair : IsFair s)
    (fair_then : IsFair (statically plan s)) (free : is_held_by_units plan s.units ≡ false)
    (teids : cu_up_has_teids (cu_up_of s.units plan.gnb plan.up) plan && du_has_teids (du_of s.units plan.gnb plan.du) plan ≡ true) (apart : ue ≢ plan.ue) where
  abbrev t : RunState
  t = statically plan s

  sound : Sound s
  sound = fair.sound

  sound_then : Sound t
  sound_then = fair_then.sound

  leaves : LeavesOthers plan.ue s t
  leaves = static_leaves plan s free teids sound.owned

  slice : (g : Gnb) (k : ℕ) → cu_up_projection ue (cu_up_of t.units g k) ≡ cu_up_projection ue (cu_up_of s.units g k)
  slice g k = leaves.tunnels g k ue apart

  contexts_then : contexts_of n ue bearer t.units ≡ contexts_of n ue bearer s.units
  contexts_then i x = by (n.place_of x) i
    where
      by : (o : Option Place) → at_place ue bearer t.units o ≡ at_place ue bearer s.units o
      by None = refl
      by (Some p) =
          ap (λ (c : Option CuUpContext). if_of p.instance (model_in ue bearer c))
          (ap (λ (z : CuUpProjection (Message Token) Token). z.context) (slice p.gnb p.number))

  owned_then : (g : Gnb) (k teid : ℕ) → owned_on n ue bearer t.units (up_id g k) teid ≡ owned_on n ue bearer s.units (up_id g k) teid
  owned_then g k teid =
      own_owned n ue bearer g k (find nat_cmp (cu_up_of t.units g k).tunnels teid)
      ∙ ap (owned_by n ue bearer g k) (ap (λ (z : CuUpProjection (Message Token) Token). z.tunnels teid) (slice g k))
      ∙ sym (own_owned n ue bearer g k (find nat_cmp (cu_up_of s.units g k).tunnels teid))

  owners_then : (node : NodeId) (teid : ℕ) → owned_on n ue bearer t.units node teid ≡ owned_on n ue bearer s.units node teid
  owners_then (up_id g k) teid = owned_then g k teid
  owners_then (CuCp g) teid = refl
  owners_then (du_id g k) teid = refl
  owners_then Core teid = refl
  owners_then (Ue k) teid = refl

  lists_same : (end : TunnelEnd) → unwrap_or (standing t end) [] ≡ unwrap_or (standing s end) []
  unfolding at
  lists_same end =
      from_same (du_id plan.gnb plan.du) (du_of s.units plan.gnb plan.du).next_teid plan.bearers
      (tunnels_from (up_id plan.gnb plan.up) (cu_up_of s.units plan.gnb plan.up).next_teid (2 * plan.bearers) s.tunnels) end
      ∙ from_same (up_id plan.gnb plan.up) (cu_up_of s.units plan.gnb plan.up).next_teid (2 * plan.bearers) s.tunnels end

  at_node : (node : NodeId) (teid : ℕ) (o : Owned) → owned_on n ue bearer s.units node teid ≡ Some o
      → standing t (end_of node teid) ≡ standing s (end_of node teid)
  at_node (up_id g k) teid o is =
      let before = some_standing (standing s (end_of (up_id g k) teid))
      (sound.standing.0 g k teid ∙ ap (λ (a : Option CuUpTunnel). is_some a) (found_on n ue bearer s.units g k teid o is).1) in
      let after = some_standing (standing t (end_of (up_id g k) teid))
      (sound_then.standing.0 g k teid ∙ ap (λ (a : Option CuUpTunnel). is_some a) (found_on n ue bearer t.units g k teid o (owned_then g k teid ∙ is)).1) in
      same_standing (standing t (end_of (up_id g k) teid)) (standing s (end_of (up_id g k) teid)) after.0 before.0 after.1 before.1
      (lists_same (end_of (up_id g k) teid))
  at_node (CuCp g) teid o is = absurd cc
  at_node (du_id g k) teid o is = absurd cc
  at_node Core teid o is = absurd cc
  at_node (Ue k) teid o is = absurd cc

  pub is_left : LeavesBearer n ue bearer s (statically plan s)
  is_left = record {
    contexts = contexts_then;
    owners = λ end. owners_then end.node end.teid;
    tunnels = λ end o is. at_node end.node end.teid o is;
  }

-- A terminal that is set up without messages: its tunnels are its contexts'.
use Rattle.std.proofs.Common.{◌≡◌, ◌≤◌, ◌==◌, ℕ, zero, suc, ◌+◌, ◌*◌, Bool, true, false, cond, ◌&&◌, ◌||◌, List, [], ◌∷◌, Option, Some, None, refl, sym, subst, eq-eqb}
use Rattle.std.proofs.lemmas.Bool.{or_parts}
use Rattle.std.specs.Prelude.{unwrap_or, is_some}
use Rattle.std.specs.Ordering.{nat_cmp, eq_by_cmp}
use Rattle.std.specs.Option.{option_map}
use Rattle.std.specs.List.Sorted.{IsStrictlySortedBy}
use Rattle.std.specs.Map.{keys_of}
use Rattle.std.specs.BTreeMap.{is_at}
use Rattle.gnb_types.specs.declared.names.Gnb.{Gnb}
use Rattle.gnb_types.specs.declared.names.Gnb.TheVariants.{A, B}
use Rattle.gnb_types.specs.declared.names.UeId.{UeId}
use Rattle.gnb_types.specs.declared.names.BearerId.{BearerId}
use Rattle.gnb_types.specs.declared.names.NodeId.TheVariants.{CuUp as up_id, Du as du_id}
use Rattle.gnb_types.specs.declared.plans.Plan.{Plan}
use Rattle.gnb_types.specs.Orders.{node_cmp, ue_cmp, bearer_cmp}
use Rattle.gnb_types.proofs.OrderLemmas.{node_total}
use Rattle.tables.specs.Tables.{find, at, IsSorted}
use Rattle.tables.proofs.TableLaws.{at-put}
use Rattle.unit_defs.specs.Messages.{bearers_of, are_from}
use Rattle.unit_defs.specs.Accessors.{place_of, epoch_in}
use Rattle.unit_defs.specs.CuCpRecords.{CuCpRecord}
use Rattle.unit_defs.specs.CuUpRecords.{CuUp, CuUpContext, CuUpTunnel}
use Rattle.unit_defs.specs.CuUp.{new_cu_up, bearers_from, bearers_made}
use Rattle.unit_defs.specs.Du.{Du, DuContext, DuTunnel, new_du}
use Rattle.unit_defs.specs.Static.{with_downlinks, cu_up_context, cu_up_placed, cu_up_has_teids, uplinks_from, du_context, du_placed, du_has_teids, cu_cp_placed, cu_up_set_up, du_set_up}
use Rattle.run_defs.specs.Units.{Units, new_units, cu_cp_of, with_cu_cp, cu_up_of, with_cu_up, du_of, with_du, with_ue}
use Rattle.run_defs.specs.Conditions.{is_held_by_units, units_placed, all_set_up}
use Rattle.proof_run_steps.proofs.teids.Grows.{below_left}
use Rattle.proof_run_steps.proofs.teids.CuUps.{Entry}
use Rattle.proof_run_steps.proofs.teids.Dus.{made_counted}
use Rattle.proof_run_steps.proofs.teids.Placed.{same_ends, up_grows, du_grows, find_mapped}
use Rattle.law_tunnels_are_owned.specs.owner_facts.Owned.{cu_up_names, du_names, AreNamed, WereGiven, UpInOrder, DuInOrder, CuUpOwns, DuOwns, AreOwned}
use Rattle.law_tunnels_are_owned.proofs.owner_facts.Owners.{first_of, second_of, both_of, given_then, AreFrom}
use Rattle.law_tunnels_are_owned.proofs.owner_facts.UpEnds.{Bearers, made_from, made_in_order}
use Rattle.law_tunnels_are_owned.proofs.owner_facts.UpContexts.{Named}
use Rattle.law_tunnels_are_owned.proofs.owner_facts.UpGiven.{new_named}
use Rattle.law_tunnels_are_owned.proofs.tunnel_owners.Dus.{new_named as du_new_named, none_left, made_in_order as du_made_in_order, order_put as du_order_put}

-- ---- CU-UP

down_keys : (gnb : Gnb) (du next : ℕ) (es : Bearers) → keys_of es ≡ keys_of (with_downlinks gnb du next es)
down_keys gnb du next [] = refl
down_keys gnb du next (e ∷ es) = λ i. e.0 ∷ down_keys gnb du (next + 1) es i

uplinks_counted : (first i n : ℕ) → are_from i (bearers_of (uplinks_from first (bearers_from i n))) ≡ true
uplinks_counted first i zero = refl
uplinks_counted first i (suc n) = both_of (i == i) _ (eq-eqb i i refl) (uplinks_counted (first + 2) (i + 1) n)

-- ---- what no unit holds

none_up : (o : Option CuUpContext) → is_some o ≡ false → o ≡ None
none_up None h = refl
none_up (Some c) h = absurd cc

none_du : (o : Option DuContext) → is_some (epoch_in o) ≡ false → o ≡ None
none_du None h = refl
none_du (Some c) h = absurd cc

module _ {M C : Type 0} where
  up_owns_placed : (r : CuUp M C) (plan : Plan) (downlink : ℕ) → CuUpOwns r → cu_up_has_teids r plan ≡ true → find ue_cmp r.contexts plan.ue ≡ None
      → CuUpOwns (cu_up_placed r plan downlink)
  unfolding cu_up_placed
  up_owns_placed r plan downlink p left none =
      let bs : Bearers = bearers_made false r.next_teid (bearers_from 1 plan.bearers) in
      let now : Named (cu_up_placed r plan downlink).tunnels (cu_up_placed r plan downlink).contexts =
      new_named r.tunnels r.contexts (p.0, p.1) plan.ue r.next_teid
      (subst (λ (n : ℕ). (q : ℕ) (o : CuUpTunnel) → find nat_cmp r.tunnels q ≡ Some o → q + 1 ≤ n) (below_left r.next_teid (2 * plan.bearers) left) p.2)
      (cu_up_context r plan downlink) none
      (subst (λ (ks : List BearerId). IsStrictlySortedBy bearer_cmp ks) (down_keys r.gnb plan.du downlink bs) (made_in_order false 1 plan.bearers r.next_teid))
      (subst (λ (es : List Entry). AreFrom r.next_teid es) (sym (same_ends plan.ue r.next_teid r.gnb plan.du downlink bs))
      (made_from plan.ue r.next_teid false (bearers_from 1 plan.bearers) r.next_teid)) in
      (now.0, now.1, given_then r.next_teid r.tunnels (cu_up_placed r plan downlink).next_teid (cu_up_placed r plan downlink).tunnels p.2 (up_grows r plan downlink left))

  -- ---- DU

  du_owns_placed : (r : Du M C) (plan : Plan) (uplink : ℕ) → DuOwns r → du_has_teids r plan ≡ true → find ue_cmp r.contexts plan.ue ≡ None
      → DuOwns (du_placed r plan uplink)
  unfolding du_placed
  du_owns_placed r plan uplink p left none =
      let uplinks = uplinks_from uplink (bearers_from 1 plan.bearers) in
      let d : DuContext = du_context r plan uplink in
      let sorted : IsSorted bearer_cmp (du_context r plan uplink).bearers =
      du_made_in_order (up_id r.gnb plan.up) 1 r.next_teid uplinks (uplinks_counted uplink 1 plan.bearers) in (
        du_new_named r.tunnels r.contexts plan.ue d r.next_teid (none_left r.tunnels r.contexts (p.0, p.1) plan.ue none)
            (subst (λ (n : ℕ). (q : ℕ) (o : DuTunnel) → find nat_cmp r.tunnels q ≡ Some o → q + 1 ≤ n) (below_left r.next_teid plan.bearers left) p.2)
            sorted (made_counted (up_id r.gnb plan.up) r.next_teid uplinks).0,
        du_order_put r.contexts plan.ue d p.1 sorted,
        given_then r.next_teid r.tunnels (du_placed r plan uplink).next_teid (du_placed r plan uplink).tunnels p.2 (du_grows r plan uplink left),
      )

  -- ---- one unit changes

  pub with_up_owned : (u : Units M C) (gnb : Gnb) (number : ℕ) (r : CuUp M C) → AreOwned u → CuUpOwns r → AreOwned (with_cu_up u gnb number r)
  with_up_owned u gnb number r p h = (
    λ g n. subst (λ (x : CuUp M C). CuUpOwns x) (sym (at-put node_total (new_cu_up g n) u.ups (up_id gnb number) r (up_id g n)))
        (by g n (eq_by_cmp node_cmp (up_id g n) (up_id gnb number))),
    p.1,
  )
    where
      by : (g : Gnb) (n : ℕ) (t : Bool) → CuUpOwns (cond t r (cu_up_of u g n))
      by g n true = h
      by g n false = p.0 g n

  pub with_du_owned : (u : Units M C) (gnb : Gnb) (number : ℕ) (r : Du M C) → AreOwned u → DuOwns r → AreOwned (with_du u gnb number r)
  with_du_owned u gnb number r p h = (
    p.0,
    λ g n. subst (λ (x : Du M C). DuOwns x) (sym (at-put node_total (new_du g n) u.dus (du_id gnb number) r (du_id g n)))
        (by g n (eq_by_cmp node_cmp (du_id g n) (du_id gnb number))),
  )
    where
      by : (g : Gnb) (n : ℕ) (t : Bool) → DuOwns (cond t r (du_of u g n))
      by g n true = h
      by g n false = p.1 g n

  pub with_cp_owned : (u : Units M C) (gnb : Gnb) (r : CuCpRecord M C) → AreOwned u → AreOwned (with_cu_cp u gnb r)
  with_cp_owned u A r p = p
  with_cp_owned u B r p = p

  -- ---- all units count as set up

  set_up_owned : (u : Units M C) → AreOwned u → AreOwned (all_set_up u)
  unfolding at
  set_up_owned u p = (ups, dus)
    where
      up_by : (g : Gnb) (n : ℕ) (o : Option (CuUp M C)) → CuUpOwns (unwrap_or o (new_cu_up g n)) → CuUpOwns (unwrap_or (option_map cu_up_set_up o) (new_cu_up g n))
      up_by g n None h = h
      up_by g n (Some r) h = h

      ups : (g : Gnb) (n : ℕ) → CuUpOwns (cu_up_of (all_set_up u) g n)
      ups g n =
          subst (λ (o : Option (CuUp M C)). CuUpOwns (unwrap_or o (new_cu_up g n))) (sym (find_mapped node_cmp cu_up_set_up u.ups (up_id g n)))
          (up_by g n (find node_cmp u.ups (up_id g n)) (p.0 g n))

      du_by : (g : Gnb) (n : ℕ) (o : Option (Du M C)) → DuOwns (unwrap_or o (new_du g n)) → DuOwns (unwrap_or (option_map du_set_up o) (new_du g n))
      du_by g n None h = h
      du_by g n (Some r) h = h

      dus : (g : Gnb) (n : ℕ) → DuOwns (du_of (all_set_up u) g n)
      dus g n =
          subst (λ (o : Option (Du M C)). DuOwns (unwrap_or o (new_du g n))) (sym (find_mapped node_cmp du_set_up u.dus (du_id g n)))
          (du_by g n (find node_cmp u.dus (du_id g n)) (p.1 g n))

  -- ---- a terminal that no unit holds is set up

  pub placed_owned : (u : Units M C) (plan : Plan) → is_held_by_units plan u ≡ false
      → cu_up_has_teids (cu_up_of u plan.gnb plan.up) plan && du_has_teids (du_of u plan.gnb plan.du) plan ≡ true → AreOwned u → AreOwned (all_set_up (units_placed plan u))
  placed_owned u plan free left p =
      let up : CuUp M C = cu_up_of u plan.gnb plan.up in
      let du : Du M C = du_of u plan.gnb plan.du in
      let a : Units M C = with_ue u plan.ue _ in
      let b : Units M C = with_cu_up a plan.gnb plan.up (cu_up_placed up plan du.next_teid) in
      let c : Units M C = with_du b plan.gnb plan.du (du_placed du plan (up.next_teid + 1)) in
      let none = or_parts (is_some (place_of (cu_cp_of u plan.gnb) plan.ue) || is_some (find ue_cmp up.contexts plan.ue)) (is_some (epoch_in (find ue_cmp du.contexts plan.ue))) free in
      let ups = or_parts (is_some (place_of (cu_cp_of u plan.gnb) plan.ue)) (is_some (find ue_cmp up.contexts plan.ue)) none.0 in
      set_up_owned (units_placed plan u)
      (with_cp_owned c plan.gnb (cu_cp_placed (cu_cp_of u plan.gnb) plan)
      (with_du_owned b plan.gnb plan.du (du_placed du plan (up.next_teid + 1))
      (with_up_owned a plan.gnb plan.up (cu_up_placed up plan du.next_teid) p
      (up_owns_placed up plan du.next_teid (p.0 plan.gnb plan.up) (first_of (cu_up_has_teids up plan) _ left) (none_up (find ue_cmp up.contexts plan.ue) ups.1)))
      (du_owns_placed du plan (up.next_teid + 1) (p.1 plan.gnb plan.du) (second_of (cu_up_has_teids up plan) _ left) (none_du (find ue_cmp du.contexts plan.ue) none.1))))

  -- ---- the first state

  pub nothing_up : (r : CuUp M C) → r.tunnels ≡ [] → r.contexts ≡ [] → CuUpOwns r
  unfolding find
  nothing_up r t c =
      subst (λ (x : List (ℕ × CuUpTunnel) × List (UeId × CuUpContext)). AreNamed x.0 (cu_up_names x.1) × UpInOrder x.1 × WereGiven r.next_teid x.0) (λ i. (sym t i, sym c i))
      (record { named = λ q o e. absurd cc; stands = λ q o e. absurd cc }, λ ue d e. absurd cc, λ q o e. absurd cc)

  pub nothing_du : (r : Du M C) → r.tunnels ≡ [] → r.contexts ≡ [] → DuOwns r
  unfolding find
  nothing_du r t c =
      subst (λ (x : List (ℕ × DuTunnel) × List (UeId × DuContext)). AreNamed x.0 (du_names x.1) × DuInOrder x.1 × WereGiven r.next_teid x.0) (λ i. (sym t i, sym c i))
      (record { named = λ q o e. absurd cc; stands = λ q o e. absurd cc }, λ ue d e. absurd cc, λ q o e. absurd cc)

pub first_owned : (M C : Type 0) → AreOwned (new_units {M = M} {C = C})
unfolding at find
first_owned M C = (ups, dus)
  where
    up_by : (g : Gnb) (k : ℕ) (a b c d : Bool) → CuUpOwns (unwrap_or (cond a (Some (new_cu_up {M = M} {C = C} A 1)) (cond b (Some (new_cu_up A 2)) (cond c (Some (new_cu_up B 1))
        (cond d (Some (new_cu_up B 2)) None)))) (new_cu_up g k))
    up_by g k true b c d = nothing_up (new_cu_up {M = M} {C = C} A 1) refl refl
    up_by g k false true c d = nothing_up (new_cu_up {M = M} {C = C} A 2) refl refl
    up_by g k false false true d = nothing_up (new_cu_up {M = M} {C = C} B 1) refl refl
    up_by g k false false false true = nothing_up (new_cu_up {M = M} {C = C} B 2) refl refl
    up_by g k false false false false = nothing_up (new_cu_up {M = M} {C = C} g k) refl refl

    ups : (g : Gnb) (k : ℕ) → CuUpOwns (cu_up_of (new_units {M = M} {C = C}) g k)
    ups g k =
        up_by g k (is_at (node_cmp (up_id g k)) (up_id A 1)) (is_at (node_cmp (up_id g k)) (up_id A 2)) (is_at (node_cmp (up_id g k)) (up_id B 1))
        (is_at (node_cmp (up_id g k)) (up_id B 2))

    du_by : (g : Gnb) (k : ℕ) (a b c d : Bool) → DuOwns (unwrap_or (cond a (Some (new_du {M = M} {C = C} A 1)) (cond b (Some (new_du A 2)) (cond c (Some (new_du B 1))
        (cond d (Some (new_du B 2)) None)))) (new_du g k))
    du_by g k true b c d = nothing_du (new_du {M = M} {C = C} A 1) refl refl
    du_by g k false true c d = nothing_du (new_du {M = M} {C = C} A 2) refl refl
    du_by g k false false true d = nothing_du (new_du {M = M} {C = C} B 1) refl refl
    du_by g k false false false true = nothing_du (new_du {M = M} {C = C} B 2) refl refl
    du_by g k false false false false = nothing_du (new_du {M = M} {C = C} g k) refl refl

    dus : (g : Gnb) (k : ℕ) → DuOwns (du_of (new_units {M = M} {C = C}) g k)
    dus g k =
        du_by g k (is_at (node_cmp (du_id g k)) (du_id A 1)) (is_at (node_cmp (du_id g k)) (du_id A 2)) (is_at (node_cmp (du_id g k)) (du_id B 1))
        (is_at (node_cmp (du_id g k)) (du_id B 2))

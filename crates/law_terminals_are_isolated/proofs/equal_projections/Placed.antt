-- A terminal that is set up without messages is set up alike in two states that share its projection, where the same TEIDs come next.
use Rattle.std.proofs.Common.{◌≡◌, ℕ, ◌+◌, Bool, true, false, cond, List, Option, Some, None, refl, sym, ap, ◌∙◌}
use Rattle.std.specs.Prelude.{unwrap_or}
use Rattle.std.specs.Option.{option_map}
use Rattle.std.specs.Ordering.{eq_by_cmp}
use Rattle.gnb_types.specs.declared.names.Gnb.{Gnb}
use Rattle.gnb_types.specs.declared.names.Gnb.TheVariants.{A, B}
use Rattle.gnb_types.specs.declared.names.NodeId.{NodeId}
use Rattle.gnb_types.specs.declared.names.NodeId.TheVariants.{CuUp as up_id, Du as du_id}
use Rattle.gnb_types.specs.declared.names.UeId.{UeId}
use Rattle.gnb_types.specs.declared.plans.Plan.{Plan}
use Rattle.gnb_types.specs.Orders.{ue_cmp, node_cmp}
use Rattle.gnb_types.proofs.OrderLemmas.{node_total, ue_total}
use Rattle.tables.specs.Tables.{find, put, at}
use Rattle.tables.proofs.TableLaws.{at-put, find-put-same}
use Rattle.unit_defs.specs.Ue.{UeNode, new_ue, placed}
use Rattle.unit_defs.specs.CuUpRecords.{CuUpContext, CuUp}
use Rattle.unit_defs.specs.CuUp.{new_cu_up}
use Rattle.unit_defs.specs.Du.{DuContext, Du, new_du}
use Rattle.unit_defs.specs.CuCpRecords.{CuCpRecord, terminal_in}
use Rattle.unit_defs.specs.Static.{cu_up_context, cu_up_placed, du_context, du_placed, cu_cp_context, cu_cp_placed, cu_cp_set_up, cu_up_set_up, du_set_up}
use Rattle.run_defs.specs.Units.{Units, cu_cp_of, with_cu_cp, cu_up_of, with_cu_up, du_of, with_du, with_ue}
use Rattle.run_defs.specs.Conditions.{all_set_up, units_placed}
use Rattle.proof_run_steps.proofs.teids.Placed.{find_mapped}
use Rattle.law_tunnels_are_owned.specs.owner_facts.Owned.{AreOwned}
use Rattle.law_terminals_are_isolated.proofs.projection_owners.Owners.{tunnels_same as up_tunnels_same}
use Rattle.law_terminals_are_isolated.specs.projections.Projections.{Requests, requests_of}
use Rattle.law_terminals_are_isolated.specs.cu_cp_projection.CuCps.{cu_cp_projection}
use Rattle.law_terminals_are_isolated.specs.cu_up_projection.CuUps.{cu_up_without_teids, UpShared}
use Rattle.law_terminals_are_isolated.specs.du_projection.Dus.{DuShared}
use Rattle.law_terminals_are_isolated.specs.step_consistency.Places.{of_up, of_du}
use Rattle.law_terminals_are_isolated.specs.step_consistency.EqualStates.{Agree}
use Rattle.law_terminals_are_isolated.proofs.step_consistency.Units.{RunUnits}
use Rattle.law_terminals_are_isolated.proofs.all_steps.Statics.{du_tunnels_same}
use Rattle.law_terminals_are_isolated.specs.equal_projections.States.{shared_but_room}

-- what stands at the terminal's key after a put there
module _ (plan : Plan) (ue : UeId) (its : plan.ue ≡ ue) where
  pub there : {X : Type 0} (es : List (UeId × X)) (x : X) → find ue_cmp (put ue_cmp es plan.ue x) ue ≡ Some x
  there es x = ap (λ (w : UeId). find ue_cmp (put ue_cmp es w x) ue) its ∙ find-put-same ue_total es ue x

abbrev DuPart : Type 0 → Type 0 → Type 0
DuPart M C = Option DuContext × Requests M C

module _ {M C : Type 0} (plan : Plan) (ue : UeId) (its : plan.ue ≡ ue) where
  -- ---- one unit

  cp_same : (r q : CuCpRecord M C) → cu_cp_projection ue r ≡ cu_cp_projection ue q → cu_cp_projection ue (cu_cp_set_up (cu_cp_placed r plan)) ≡ cu_cp_projection ue (cu_cp_set_up (cu_cp_placed q plan))
  unfolding cu_cp_placed
  cp_same r q e = λ i. record {
    terminal = terminal_in ((there plan ue its r.terminals (record { context = Some (cu_cp_context plan); taken = None })
        ∙ sym (there plan ue its q.terminals (record { context = Some (cu_cp_context plan); taken = None }))) i);
    requests = (e i).requests;
  }

  up_same : (r q : CuUp M C) (down : ℕ) (mark : ℕ) → down ≡ mark → r.gnb ≡ q.gnb → r.next_teid ≡ q.next_teid → cu_up_without_teids ue r ≡ cu_up_without_teids ue q
      → cu_up_without_teids ue (cu_up_placed r plan down) ≡ cu_up_without_teids ue (cu_up_placed q plan mark)
  unfolding cu_up_placed
  up_same r q down mark downs gnb next e = λ i. record {
    context = (there plan ue its r.contexts (cu_up_context r plan down) ∙ ap (λ (c : CuUpContext). Some c) contexts ∙ sym (there plan ue its q.contexts (cu_up_context q plan mark))) i;
    requests = (e i).requests;
  }
    where
      contexts : cu_up_context r plan down ≡ cu_up_context q plan mark
      contexts = λ i. cu_up_context (record r { gnb = gnb i; next_teid = next i }) plan (downs i)

  du_same : (r q : Du M C) (up mark : ℕ) → up ≡ mark → r.gnb ≡ q.gnb → r.next_teid ≡ q.next_teid
      → ◌≡◌ {A = Option DuContext × Requests M C} (find ue_cmp r.contexts ue, requests_of ue.0 r.transactions) (find ue_cmp q.contexts ue, requests_of ue.0 q.transactions)
      → ◌≡◌ {A = Option DuContext × Requests M C} (find ue_cmp (du_placed r plan up).contexts ue, requests_of ue.0 (du_placed r plan up).transactions)
      (find ue_cmp (du_placed q plan mark).contexts ue, requests_of ue.0 (du_placed q plan mark).transactions)
  unfolding du_placed
  du_same r q up mark ups gnb next e = λ i. (
    (there plan ue its r.contexts (du_context r plan up) ∙ ap (λ (c : DuContext). Some c) contexts ∙ sym (there plan ue its q.contexts (du_context q plan mark))) i,
    (e i).1,
  )
    where
      contexts : du_context r plan up ≡ du_context q plan mark
      contexts = λ i. du_context (record r { gnb = gnb i; next_teid = next i }) plan (ups i)

  -- ---- all units

  abbrev du_part : Du M C → DuPart M C
  du_part r = (find ue_cmp r.contexts ue, requests_of ue.0 r.transactions)

  cp_ups : (gnb : Gnb) (x : Units M C) (r : CuCpRecord M C) → (with_cu_cp x gnb r).ups ≡ x.ups
  cp_ups A x r = refl
  cp_ups B x r = refl

  cp_dus : (gnb : Gnb) (x : Units M C) (r : CuCpRecord M C) → (with_cu_cp x gnb r).dus ≡ x.dus
  cp_dus A x r = refl
  cp_dus B x r = refl

  cp_ues : (gnb : Gnb) (x : Units M C) (r : CuCpRecord M C) → (with_cu_cp x gnb r).ues ≡ x.ues
  cp_ues A x r = refl
  cp_ues B x r = refl

  module _ (u : Units M C) where
    abbrev up_now : CuUp M C
    up_now = cu_up_of u plan.gnb plan.up

    abbrev du_now : Du M C
    du_now = du_of u plan.gnb plan.du

    abbrev up_then : CuUp M C
    up_then = cu_up_placed up_now plan du_now.next_teid

    abbrev du_then : Du M C
    du_then = du_placed du_now plan (up_now.next_teid + 1)

    abbrev both : Units M C
    both = with_du (with_cu_up (with_ue u plan.ue (placed (new_ue plan))) plan.gnb plan.up up_then) plan.gnb plan.du du_then

    abbrev pub after : Units M C
    after = all_set_up (units_placed plan u)

    up_set : (g : Gnb) (n : ℕ) (v : Units M C) → cu_up_without_teids ue (cu_up_of (all_set_up v) g n) ≡ cu_up_without_teids ue (cu_up_of v g n)
    unfolding at
    up_set g n v =
        ap (λ (o : Option (CuUp M C)). cu_up_without_teids ue (unwrap_or o (new_cu_up g n))) (find_mapped node_cmp cu_up_set_up v.ups (up_id g n))
        ∙ by (find node_cmp v.ups (up_id g n))
      where
        by : (o : Option (CuUp M C)) → cu_up_without_teids ue (unwrap_or (option_map cu_up_set_up o) (new_cu_up g n)) ≡ cu_up_without_teids ue (unwrap_or o (new_cu_up g n))
        by None = refl
        by (Some r) = refl

    du_set : (g : Gnb) (n : ℕ) (v : Units M C) → du_part (du_of (all_set_up v) g n) ≡ du_part (du_of v g n)
    unfolding at
    du_set g n v =
        ap (λ (o : Option (Du M C)). du_part (unwrap_or o (new_du g n))) (find_mapped node_cmp du_set_up v.dus (du_id g n))
        ∙ by (find node_cmp v.dus (du_id g n))
      where
        by : (o : Option (Du M C)) → du_part (unwrap_or (option_map du_set_up o) (new_du g n)) ≡ du_part (unwrap_or o (new_du g n))
        by None = refl
        by (Some r) = refl

    ups_are : (g : Gnb) (n : ℕ) → cu_up_without_teids ue (cu_up_of after g n)
        ≡ cond (eq_by_cmp node_cmp (up_id g n) (up_id plan.gnb plan.up)) (cu_up_without_teids ue up_then) (cu_up_without_teids ue (cu_up_of u g n))
    ups_are g n =
        up_set g n (units_placed plan u)
        ∙ ap (λ (us : List (NodeId × CuUp M C)). cu_up_without_teids ue (at node_cmp (new_cu_up g n) us (up_id g n))) (cp_ups plan.gnb both (cu_cp_placed (cu_cp_of u plan.gnb) plan))
        ∙ ap (cu_up_without_teids ue) (at-put node_total (new_cu_up g n) u.ups (up_id plan.gnb plan.up) up_then (up_id g n))
        ∙ by (eq_by_cmp node_cmp (up_id g n) (up_id plan.gnb plan.up))
      where
        by : (t : Bool) → cu_up_without_teids ue (cond t up_then (cu_up_of u g n)) ≡ cond t (cu_up_without_teids ue up_then) (cu_up_without_teids ue (cu_up_of u g n))
        by true = refl
        by false = refl

    dus_are : (g : Gnb) (n : ℕ) → du_part (du_of after g n)
        ≡ cond (eq_by_cmp node_cmp (du_id g n) (du_id plan.gnb plan.du)) (du_part du_then) (du_part (du_of u g n))
    dus_are g n =
        du_set g n (units_placed plan u)
        ∙ ap (λ (ds : List (NodeId × Du M C)). du_part (at node_cmp (new_du g n) ds (du_id g n))) (cp_dus plan.gnb both (cu_cp_placed (cu_cp_of u plan.gnb) plan))
        ∙ ap du_part (at-put node_total (new_du g n) u.dus (du_id plan.gnb plan.du) du_then (du_id g n))
        ∙ by (eq_by_cmp node_cmp (du_id g n) (du_id plan.gnb plan.du))
      where
        by : (t : Bool) → du_part (cond t du_then (du_of u g n)) ≡ cond t (du_part du_then) (du_part (du_of u g n))
        by true = refl
        by false = refl

    node_is : find ue_cmp after.ues ue ≡ Some (placed (new_ue plan))
    node_is =
        ap (λ (es : List (UeId × UeNode)). find ue_cmp es ue) (cp_ues plan.gnb both (cu_cp_placed (cu_cp_of u plan.gnb) plan))
        ∙ there plan ue its u.ues (placed (new_ue plan))

  cps_same : (gnb g : Gnb) (x y u v : Units M C) → x.cu_cp_a ≡ u.cu_cp_a → x.cu_cp_b ≡ u.cu_cp_b → y.cu_cp_a ≡ v.cu_cp_a → y.cu_cp_b ≡ v.cu_cp_b
      → ((h : Gnb) → cu_cp_projection ue (cu_cp_of u h) ≡ cu_cp_projection ue (cu_cp_of v h))
      → cu_cp_projection ue (cu_cp_of (all_set_up (with_cu_cp x gnb (cu_cp_placed (cu_cp_of u gnb) plan))) g)
      ≡ cu_cp_projection ue (cu_cp_of (all_set_up (with_cu_cp y gnb (cu_cp_placed (cu_cp_of v gnb) plan))) g)
  cps_same A A x y u v a b c d e = cp_same u.cu_cp_a v.cu_cp_a (e A)
  cps_same A B x y u v a b c d e = ap (cu_cp_projection ue) b ∙ e B ∙ sym (ap (cu_cp_projection ue) d)
  cps_same B A x y u v a b c d e = ap (cu_cp_projection ue) a ∙ e A ∙ sym (ap (cu_cp_projection ue) c)
  cps_same B B x y u v a b c d e = cp_same u.cu_cp_b v.cu_cp_b (e B)

module _ (plan : Plan) (ue : UeId) (its : plan.ue ≡ ue) (u v : RunUnits) (h : Agree ue u v)
    (up : shared_but_room u (up_id plan.gnb plan.up) ≡ shared_but_room v (up_id plan.gnb plan.up))
    (du : shared_but_room u (du_id plan.gnb plan.du) ≡ shared_but_room v (du_id plan.gnb plan.du))
    (owned : AreOwned (all_set_up (units_placed plan u))) (also : AreOwned (all_set_up (units_placed plan v))) where
  the_up : {a b : UpShared} {f g : ℕ → ℕ → Bool} → of_up a f ≡ of_up b g → a ≡ b
  the_up e = cc

  the_du : {a b : DuShared} → of_du a ≡ of_du b → a ≡ b
  the_du e = cc

  pub next_up : (cu_up_of u plan.gnb plan.up).next_teid ≡ (cu_up_of v plan.gnb plan.up).next_teid
  next_up = ap (λ (s : UpShared). s.next_teid) (the_up up)

  pub next_du : (du_of u plan.gnb plan.du).next_teid ≡ (du_of v plan.gnb plan.du).next_teid
  next_du = ap (λ (s : DuShared). s.next_teid) (the_du du)

  ups : (g : Gnb) (n : ℕ) → cu_up_without_teids ue (cu_up_of (after plan ue its u) g n) ≡ cu_up_without_teids ue (cu_up_of (after plan ue its v) g n)
  ups g n = ups_are plan ue its u g n ∙ by (eq_by_cmp node_cmp (up_id g n) (up_id plan.gnb plan.up)) ∙ sym (ups_are plan ue its v g n)
    where
      part : (k : Gnb) (m : ℕ) → cu_up_without_teids ue (cu_up_of u k m) ≡ cu_up_without_teids ue (cu_up_of v k m)
      part k m = λ i. (h.units i).ups k m

      by : (t : Bool) → cond t (cu_up_without_teids ue (up_then plan ue its u)) (cu_up_without_teids ue (cu_up_of u g n)) ≡ cond t (cu_up_without_teids ue (up_then plan ue its v)) (cu_up_without_teids ue (cu_up_of v g n))
      by false = part g n
      by true =
          up_same plan ue its (cu_up_of u plan.gnb plan.up) (cu_up_of v plan.gnb plan.up) (du_of u plan.gnb plan.du).next_teid (du_of v plan.gnb plan.du).next_teid next_du
          (ap (λ (s : UpShared). s.gnb) (the_up up)) next_up (part plan.gnb plan.up)

  dus : (g : Gnb) (n : ℕ) → du_part plan ue its (du_of (after plan ue its u) g n) ≡ du_part plan ue its (du_of (after plan ue its v) g n)
  dus g n = dus_are plan ue its u g n ∙ by (eq_by_cmp node_cmp (du_id g n) (du_id plan.gnb plan.du)) ∙ sym (dus_are plan ue its v g n)
    where
      part : (k : Gnb) (m : ℕ) → du_part plan ue its (du_of u k m) ≡ du_part plan ue its (du_of v k m)
      part k m = λ i. (((h.units i).dus k m).context, ((h.units i).dus k m).requests)

      by : (t : Bool) → cond t (du_part plan ue its (du_then plan ue its u)) (du_part plan ue its (du_of u g n))
          ≡ cond t (du_part plan ue its (du_then plan ue its v)) (du_part plan ue its (du_of v g n))
      by false = part g n
      by true =
          du_same plan ue its (du_of u plan.gnb plan.du) (du_of v plan.gnb plan.du) ((cu_up_of u plan.gnb plan.up).next_teid + 1)
          ((cu_up_of v plan.gnb plan.up).next_teid + 1) (ap (λ (n : ℕ). n + 1) next_up) (ap (λ (s : DuShared). s.gnb) (the_du du)) next_du (part plan.gnb plan.du)

  pub placed_agree : Agree ue (all_set_up (units_placed plan u)) (all_set_up (units_placed plan v))
  placed_agree = record {
    units = λ i. record {
      cps = λ g. cps_same plan ue its plan.gnb g (both plan ue its u) (both plan ue its v) u v refl refl refl refl (λ k j. (h.units j).cps k) i;
      ups = λ g n. ups g n i;
      dus = λ g n. record {
        context = (dus g n i).0;
        tunnels = λ teid. du_tunnels_same ue (du_of (after plan ue its v) g n) (du_of (after plan ue its u) g n) (also.1 g n) (owned.1 g n)
            (λ j. (dus g n j).0) teid i;
        requests = (dus g n i).1;
      };
      node = (node_is plan ue its u ∙ sym (node_is plan ue its v)) i;
    };
    tunnels = λ g n i. record {
      context = (ups g n i).context;
      tunnels = λ teid. up_tunnels_same ue (cu_up_of (after plan ue its v) g n) (cu_up_of (after plan ue its u) g n) (also.0 g n) (owned.0 g n)
          (λ j. (ups g n j).context) teid i;
      requests = (ups g n i).requests;
    };
  }

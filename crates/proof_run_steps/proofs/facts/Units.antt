-- Units of which one changes, or comes, and the first ones: what holds of each.
use Rattle.std.proofs.Common.{◌≡◌, ℕ, ◌+◌, Bool, true, false, cond, ◌&&◌, Option, Some, None, refl, sym, ◌∙◌, subst}
use Rattle.std.proofs.lemmas.Bool.{and_parts}
use Rattle.std.specs.Prelude.{unwrap_or}
use Rattle.std.specs.Ordering.{eq_by_cmp}
use Rattle.std.specs.Cmp.{Equal-is}
use Rattle.std.specs.Option.{option_map}
use Rattle.std.specs.BTreeMap.{is_at}
use Rattle.gnb_types.specs.declared.names.Gnb.{Gnb}
use Rattle.gnb_types.specs.declared.names.Gnb.TheVariants.{A, B}
use Rattle.gnb_types.specs.declared.names.UeId.{UeId}
use Rattle.gnb_types.specs.declared.names.NodeId.{NodeId}
use Rattle.gnb_types.specs.declared.names.NodeId.TheVariants.{CuUp as up_id, Du as du_id}
use Rattle.gnb_types.specs.declared.plans.Plan.{Plan}
use Rattle.gnb_types.specs.Orders.{node_cmp, ue_cmp}
use Rattle.gnb_types.proofs.OrderLemmas.{node_total, node_exact, ue_total, ue_exact}
use Rattle.message_types.specs.declared.rrc.Token.{Token}
use Rattle.tables.specs.Tables.{find, at}
use Rattle.tables.proofs.TableLaws.{at-put, find-put}
use Rattle.unit_defs.specs.Ways.{Message}
use Rattle.unit_defs.specs.CuCpRecords.{CuCpRecord, new_cu_cp}
use Rattle.unit_defs.specs.CuUpRecords.{CuUp}
use Rattle.unit_defs.specs.CuUp.{new_cu_up}
use Rattle.unit_defs.specs.Du.{Du, new_du}
use Rattle.unit_defs.specs.Static.{cu_up_has_room, cu_up_has_teids, du_has_teids, cu_up_placed, du_placed, cu_cp_placed, cu_up_set_up, du_set_up, cu_cp_set_up}
use Rattle.unit_defs.specs.Ue.{UeNode, new_ue, placed}
use Rattle.run_defs.specs.Units.{Units, new_units, cu_cp_of, with_cu_cp, cu_up_of, with_cu_up, du_of, with_du, with_ue}
use Rattle.run_defs.specs.Conditions.{units_placed, all_set_up}
use Rattle.proof_run_steps.proofs.teids.Placed.{find_mapped}
use Rattle.proof_run_steps.specs.facts.UnitFacts.{UnitFacts, OfUnits, UnitsKeep}

abbrev Records : Type 0
Records = Units (Message Token) Token

-- names of CU-UPs and of DUs, and their parts
abbrev gnb_in : NodeId → Gnb
gnb_in (up_id gnb number) = gnb
gnb_in (du_id gnb number) = gnb
gnb_in node = A

abbrev number_in : NodeId → ℕ
number_in (up_id gnb number) = number
number_in (du_id gnb number) = number
number_in node = 0

module _ (facts : UnitFacts) where
  pub with_up_holds : (u : Records) (gnb : Gnb) (number : ℕ) (r : CuUp (Message Token) Token) → OfUnits facts u → facts.up gnb number r
      → OfUnits facts (with_cu_up u gnb number r)
  with_up_holds u gnb number r p h = (
    λ g n. subst (λ (x : CuUp (Message Token) Token). facts.up g n x) (sym (at-put node_total (new_cu_up g n) u.ups (up_id gnb number) r (up_id g n)))
        (by g n (eq_by_cmp node_cmp (up_id g n) (up_id gnb number)) refl),
    p.1,
    p.2,
    p.3,
  )
    where
      by : (g : Gnb) (n : ℕ) (t : Bool) → eq_by_cmp node_cmp (up_id g n) (up_id gnb number) ≡ t → facts.up g n (cond t r (cu_up_of u g n))
      by g n true tie =
          let same : up_id g n ≡ up_id gnb number = node_exact (up_id g n) (up_id gnb number) ((Equal-is (node_cmp (up_id g n) (up_id gnb number))).0 tie) in
          subst (λ (x : NodeId). facts.up (gnb_in x) (number_in x) r) (sym same) h
      by g n false apart = p.0 g n

  pub with_du_holds : (u : Records) (gnb : Gnb) (number : ℕ) (r : Du (Message Token) Token) → OfUnits facts u → facts.du gnb number r
      → OfUnits facts (with_du u gnb number r)
  with_du_holds u gnb number r p h = (
    p.0,
    λ g n. subst (λ (x : Du (Message Token) Token). facts.du g n x) (sym (at-put node_total (new_du g n) u.dus (du_id gnb number) r (du_id g n)))
        (by g n (eq_by_cmp node_cmp (du_id g n) (du_id gnb number)) refl),
    p.2,
    p.3,
  )
    where
      by : (g : Gnb) (n : ℕ) (t : Bool) → eq_by_cmp node_cmp (du_id g n) (du_id gnb number) ≡ t → facts.du g n (cond t r (du_of u g n))
      by g n true tie =
          let same : du_id g n ≡ du_id gnb number = node_exact (du_id g n) (du_id gnb number) ((Equal-is (node_cmp (du_id g n) (du_id gnb number))).0 tie) in
          subst (λ (x : NodeId). facts.du (gnb_in x) (number_in x) r) (sym same) h
      by g n false apart = p.1 g n

  pub with_cp_holds : (u : Records) (gnb : Gnb) (r : CuCpRecord (Message Token) Token) → OfUnits facts u → facts.cp gnb r → OfUnits facts (with_cu_cp u gnb r)
  with_cp_holds u A r p h = (p.0, p.1, cps, p.3)
    where
      cps : (g : Gnb) → facts.cp g (cu_cp_of (with_cu_cp u A r) g)
      cps A = h
      cps B = p.2 B
  with_cp_holds u B r p h = (p.0, p.1, cps, p.3)
    where
      cps : (g : Gnb) → facts.cp g (cu_cp_of (with_cu_cp u B r) g)
      cps A = p.2 A
      cps B = h

  pub with_ue_holds : (u : Records) (ue : UeId) (x : UeNode) → OfUnits facts u → facts.ue ue x → OfUnits facts (with_ue u ue x)
  with_ue_holds u ue x p h = (
    p.0,
    p.1,
    cps,
    λ v y e. by v y (eq_by_cmp ue_cmp v ue) refl (sym (find-put ue_total u.ues ue x v) ∙ e),
  )
    where
      cps : (g : Gnb) → facts.cp g (cu_cp_of (with_ue u ue x) g)
      cps A = p.2 A
      cps B = p.2 B

      by : (v : UeId) (y : UeNode) (t : Bool) → eq_by_cmp ue_cmp v ue ≡ t → cond t (Some x) (find ue_cmp u.ues v) ≡ Some y → facts.ue v y
      by v y true tie e =
          let same : v ≡ ue = ue_exact v ue ((Equal-is (ue_cmp v ue)).0 tie) in
          let those : x ≡ y = cc in
          subst (λ (w : UeId). facts.ue w y) (sym same) (subst (facts.ue ue) those h)
      by v y false apart e = p.3 v y e

  -- all units count as set up then
  module _ (sets_up : (gnb : Gnb) (number : ℕ) (r : CuUp (Message Token) Token) → facts.up gnb number r → facts.up gnb number (cu_up_set_up r))
      (sets_du : (gnb : Gnb) (number : ℕ) (r : Du (Message Token) Token) → facts.du gnb number r → facts.du gnb number (du_set_up r))
      (sets_cp : (gnb : Gnb) (r : CuCpRecord (Message Token) Token) → facts.cp gnb r → facts.cp gnb (cu_cp_set_up r)) where
    pub set_up_holds : (u : Records) → OfUnits facts u → OfUnits facts (all_set_up u)
    unfolding at
    set_up_holds u p = (ups, dus, cps, p.3)
      where
        up_by : (g : Gnb) (n : ℕ) (o : Option (CuUp (Message Token) Token)) → facts.up g n (unwrap_or o (new_cu_up g n))
            → facts.up g n (unwrap_or (option_map cu_up_set_up o) (new_cu_up g n))
        up_by g n None h = h
        up_by g n (Some r) h = sets_up g n r h

        ups : (g : Gnb) (n : ℕ) → facts.up g n (cu_up_of (all_set_up u) g n)
        ups g n =
            subst (λ (o : Option (CuUp (Message Token) Token)). facts.up g n (unwrap_or o (new_cu_up g n)))
            (sym (find_mapped node_cmp cu_up_set_up u.ups (up_id g n))) (up_by g n (find node_cmp u.ups (up_id g n)) (p.0 g n))

        du_by : (g : Gnb) (n : ℕ) (o : Option (Du (Message Token) Token)) → facts.du g n (unwrap_or o (new_du g n))
            → facts.du g n (unwrap_or (option_map du_set_up o) (new_du g n))
        du_by g n None h = h
        du_by g n (Some r) h = sets_du g n r h

        dus : (g : Gnb) (n : ℕ) → facts.du g n (du_of (all_set_up u) g n)
        dus g n =
            subst (λ (o : Option (Du (Message Token) Token)). facts.du g n (unwrap_or o (new_du g n)))
            (sym (find_mapped node_cmp du_set_up u.dus (du_id g n))) (du_by g n (find node_cmp u.dus (du_id g n)) (p.1 g n))

        cps : (g : Gnb) → facts.cp g (cu_cp_of (all_set_up u) g)
        cps A = sets_cp A u.cu_cp_a (p.2 A)
        cps B = sets_cp B u.cu_cp_b (p.2 B)

    -- a terminal is set up without messages, with these records of its units
    pub units_set_up : (u : Records) (plan : Plan) → OfUnits facts u → facts.ue plan.ue (placed (new_ue plan))
        → facts.up plan.gnb plan.up (cu_up_placed (cu_up_of u plan.gnb plan.up) plan (du_of u plan.gnb plan.du).next_teid)
        → facts.du plan.gnb plan.du (du_placed (du_of u plan.gnb plan.du) plan ((cu_up_of u plan.gnb plan.up).next_teid + 1))
        → facts.cp plan.gnb (cu_cp_placed (cu_cp_of u plan.gnb) plan) → OfUnits facts (all_set_up (units_placed plan u))
    units_set_up u plan p the_ue the_up the_du the_cp =
        let up : CuUp (Message Token) Token = cu_up_of u plan.gnb plan.up in
        let du : Du (Message Token) Token = du_of u plan.gnb plan.du in
        let a : Records = with_ue u plan.ue (placed (new_ue plan)) in
        let b : Records = with_cu_up a plan.gnb plan.up (cu_up_placed up plan du.next_teid) in
        let c : Records = with_du b plan.gnb plan.du (du_placed du plan (up.next_teid + 1)) in
        set_up_holds (units_placed plan u)
        (with_cp_holds c plan.gnb (cu_cp_placed (cu_cp_of u plan.gnb) plan)
        (with_du_holds b plan.gnb plan.du (du_placed du plan (up.next_teid + 1))
        (with_up_holds a plan.gnb plan.up (cu_up_placed up plan du.next_teid)
        (with_ue_holds u plan.ue (placed (new_ue plan)) p the_ue) the_up) the_du) the_cp)

  -- the first units
  module _ (first_up : (gnb : Gnb) (number : ℕ) → facts.up gnb number (new_cu_up gnb number))
      (first_du : (gnb : Gnb) (number : ℕ) → facts.du gnb number (new_du gnb number)) (first_cp : (gnb : Gnb) → facts.cp gnb (new_cu_cp gnb)) where
    pub first_hold : OfUnits facts new_units
    unfolding at find
    first_hold = (ups, dus, cps, λ ue x e. absurd cc)
      where
        up_pick : (g : Gnb) (k : ℕ) (h : Gnb) (j : ℕ) (t : Bool) → is_at (node_cmp (up_id g k)) (up_id h j) ≡ t → (o : Option (CuUp (Message Token) Token))
            → facts.up g k (unwrap_or o (new_cu_up g k)) → facts.up g k (unwrap_or (cond t (Some (new_cu_up h j)) o) (new_cu_up g k))
        up_pick g k h j true tie o is =
            let same : up_id g k ≡ up_id h j = node_exact (up_id g k) (up_id h j) ((Equal-is (node_cmp (up_id g k) (up_id h j))).0 tie) in
            subst (λ (x : NodeId). facts.up (gnb_in x) (number_in x) (new_cu_up h j)) (sym same) (first_up h j)
        up_pick g k h j false apart o is = is

        ups : (g : Gnb) (k : ℕ) → facts.up g k (cu_up_of new_units g k)
        ups g k =
            up_pick g k A 1 (is_at (node_cmp (up_id g k)) (up_id A 1)) refl _
            (up_pick g k A 2 (is_at (node_cmp (up_id g k)) (up_id A 2)) refl _
            (up_pick g k B 1 (is_at (node_cmp (up_id g k)) (up_id B 1)) refl _
            (up_pick g k B 2 (is_at (node_cmp (up_id g k)) (up_id B 2)) refl None (first_up g k))))

        du_pick : (g : Gnb) (k : ℕ) (h : Gnb) (j : ℕ) (t : Bool) → is_at (node_cmp (du_id g k)) (du_id h j) ≡ t → (o : Option (Du (Message Token) Token))
            → facts.du g k (unwrap_or o (new_du g k)) → facts.du g k (unwrap_or (cond t (Some (new_du h j)) o) (new_du g k))
        du_pick g k h j true tie o is =
            let same : du_id g k ≡ du_id h j = node_exact (du_id g k) (du_id h j) ((Equal-is (node_cmp (du_id g k) (du_id h j))).0 tie) in
            subst (λ (x : NodeId). facts.du (gnb_in x) (number_in x) (new_du h j)) (sym same) (first_du h j)
        du_pick g k h j false apart o is = is

        dus : (g : Gnb) (k : ℕ) → facts.du g k (du_of new_units g k)
        dus g k =
            du_pick g k A 1 (is_at (node_cmp (du_id g k)) (du_id A 1)) refl _
            (du_pick g k A 2 (is_at (node_cmp (du_id g k)) (du_id A 2)) refl _
            (du_pick g k B 1 (is_at (node_cmp (du_id g k)) (du_id B 1)) refl _
            (du_pick g k B 2 (is_at (node_cmp (du_id g k)) (du_id B 2)) refl None (first_du g k))))

        cps : (g : Gnb) → facts.cp g (cu_cp_of new_units g)
        cps A = first_cp A
        cps B = first_cp B

  module _ (keep : UnitsKeep facts) where
    pub placed_holds : (u : Records) (plan : Plan) → cu_up_has_room (cu_up_of u plan.gnb plan.up) plan ≡ true
        → cu_up_has_teids (cu_up_of u plan.gnb plan.up) plan && du_has_teids (du_of u plan.gnb plan.du) plan ≡ true
        → OfUnits facts u → OfUnits facts (all_set_up (units_placed plan u))
    placed_holds u plan room teids p =
        let up : CuUp (Message Token) Token = cu_up_of u plan.gnb plan.up in
        let du : Du (Message Token) Token = du_of u plan.gnb plan.du in
        let both = and_parts (cu_up_has_teids up plan) (du_has_teids du plan) teids in
        units_set_up keep.sets_up keep.sets_du keep.sets_cp u plan p (keep.places_ue plan) (keep.places_up up plan du.next_teid room both.0 (p.0 plan.gnb plan.up))
        (keep.places_du du plan (up.next_teid + 1) both.1 (p.1 plan.gnb plan.du)) (keep.places_cp (cu_cp_of u plan.gnb) plan (p.2 plan.gnb))

    pub first_units : OfUnits facts new_units
    first_units = first_hold keep.first_up keep.first_du keep.first_cp

-- Keys apart, and what a CU-UP and a DU have of a bearer after one bearer changed.
use Rattle.std.proofs.Common.{◌≡◌, ℕ, Bool, true, false, cond, Option, Some, None, inl, inr, ◌⊎◌, refl, sym, ap, ◌∙◌}
use Rattle.std.specs.declared.cmp.Ordering.{Ordering}
use Rattle.std.specs.declared.cmp.Ordering.TheVariants.{Equal}
use Rattle.std.specs.Ordering.{eq_by_cmp, is_eq}
use Rattle.std.specs.Cmp.{IsTotalOrder, Equal-is, tied_itself}
use Rattle.gnb_types.specs.declared.names.UeId.{UeId}
use Rattle.gnb_types.specs.declared.names.BearerId.{BearerId}
use Rattle.gnb_types.specs.declared.names.Gnb.{Gnb}
use Rattle.gnb_types.specs.declared.names.NodeId.TheVariants.{CuUp as up_id, Du as du_id}
use Rattle.gnb_types.specs.Orders.{ue_cmp, bearer_cmp, node_cmp}
use Rattle.gnb_types.proofs.OrderLemmas.{ue_total, ue_exact, bearer_total, bearer_exact, node_total, node_exact}
use Rattle.tables.specs.Tables.{find, put}
use Rattle.tables.proofs.TableLaws.{find-put-same, find-put-other, at-put}
use Rattle.unit_defs.specs.CuUpRecords.{CuUp, CuUpBearer, CuUpContext}
use Rattle.unit_defs.specs.CuUp.{new_cu_up, context_of}
use Rattle.unit_defs.specs.Du.{Du, DuBearer, DuContext, new_du, context_of as du_context_of}
use Rattle.run_defs.specs.Units.{Units, cu_up_of, with_cu_up, du_of, with_du}
use Rattle.proof_cu_up_orders.specs.context_orders.Orders.{CuUpModel, model_with, model_of_bearer, model_in, model_of}
use Rattle.proof_node_orders.specs.du_inputs.Changes.{DuModel, model_with as du_part_with, model_in as du_part_in, model_of as du_model_of}

-- ---- keys

pub apart_by : {K : Type 0} (R : K → K → Ordering) → ((a b : K) → R a b ≡ Equal → a ≡ b) → (a b : K) → (a ≡ b → ⊥) → eq_by_cmp R a b ≡ false
apart_by R exact a b differ = by (eq_by_cmp R a b) refl
  where
    by : (t : Bool) → eq_by_cmp R a b ≡ t → t ≡ false
    by true tie = absurd (differ (exact a b ((Equal-is (R a b)).0 tie)))
    by false e = refl

pub tied : {K : Type 0} (R : K → K → Ordering) → IsTotalOrder R → (a b : K) → a ≡ b → eq_by_cmp R a b ≡ true
tied R o a b e = ap (λ c. eq_by_cmp R a c) (sym e) ∙ ap is_eq (tied_itself o a)

not_tied : {K : Type 0} (R : K → K → Ordering) → IsTotalOrder R → (a b : K) → a ≡ b → eq_by_cmp R a b ≡ false → ⊥
not_tied R o a b e f = let t : true ≡ false = sym (tied R o a b e) ∙ f in absurd cc

abbrev pub Apart : UeId → BearerId → UeId → BearerId → Type 0
Apart ue b other c = ue ≡ other → b ≡ c → ⊥

pub same_or_apart : (ue : UeId) (b : BearerId) (other : UeId) (c : BearerId) → ((ue ≡ other) × (b ≡ c)) ⊎ Apart ue b other c
same_or_apart ue b other c = by (eq_by_cmp ue_cmp ue other) refl (eq_by_cmp bearer_cmp b c) refl
  where
    by : (t : Bool) → eq_by_cmp ue_cmp ue other ≡ t → (u : Bool) → eq_by_cmp bearer_cmp b c ≡ u → ((ue ≡ other) × (b ≡ c)) ⊎ Apart ue b other c
    by true e true f = inl (ue_exact ue other ((Equal-is (ue_cmp ue other)).0 e), bearer_exact b c ((Equal-is (bearer_cmp b c)).0 f))
    by true e false f = inr (λ p q. not_tied bearer_cmp bearer_total b c q f)
    by false e u f = inr (λ p q. not_tied ue_cmp ue_total ue other p e)

-- ---- what a CU-UP has of a bearer

module _ {M C : Type 0} (r : CuUp M C) (ue : UeId) (bearer : BearerId) where
  pub record UpFound (p : CuUpModel) : Type 0 where
    pub context : CuUpContext
    pub there : context_of r ue ≡ Some context
    pub found : CuUpBearer
    pub has : find bearer_cmp context.bearers bearer ≡ Some found
    pub is : model_with ue context bearer found ≡ p

  pub up_found : (p : CuUpModel) → model_of r ue bearer ≡ Some p → UpFound p
  up_found p e = by (context_of r ue) refl e
    where
      in_it : (c : CuUpContext) → context_of r ue ≡ Some c → (o : Option CuUpBearer) → find bearer_cmp c.bearers bearer ≡ o
          → model_of_bearer ue c bearer o ≡ Some p → UpFound p
      in_it c there None has e = absurd cc
      in_it c there (Some x) has e =
          let same : model_with ue c bearer x ≡ p = cc in record { context = c; there = there; found = x; has = has; is = same }

      by : (o : Option CuUpContext) → context_of r ue ≡ o → model_in ue bearer o ≡ Some p → UpFound p
      by None there e = absurd cc
      by (Some c) there e = in_it c there (find bearer_cmp c.bearers bearer) refl e

  pub up_part : (c : CuUpContext) (x : CuUpBearer) → context_of r ue ≡ Some c → find bearer_cmp c.bearers bearer ≡ Some x
      → model_of r ue bearer ≡ Some (model_with ue c bearer x)
  up_part c x there has = ap (model_in ue bearer) there ∙ ap (model_of_bearer ue c bearer) has

  module _ (v : CuUp M C) (c : CuUpContext) (x : CuUpBearer) (there : context_of r ue ≡ Some c)
      (is : v.contexts ≡ put ue_cmp r.contexts ue (record c { bearers = put bearer_cmp c.bearers bearer x })) where
    pub up_changed : model_of v ue bearer ≡ Some (model_with ue c bearer x)
    up_changed =
        ap (λ es. model_in ue bearer (find ue_cmp es ue)) is
        ∙ ap (model_in ue bearer) (find-put-same ue_total r.contexts ue (record c { bearers = put bearer_cmp c.bearers bearer x }))
        ∙ ap (model_of_bearer ue c bearer) (find-put-same bearer_total c.bearers bearer x)

    pub up_kept : (other : UeId) (b : BearerId) → Apart other b ue bearer → model_of v other b ≡ model_of r other b
    up_kept other b apart =
        ap (λ es. model_in other b (find ue_cmp es other)) is
        ∙ by (eq_by_cmp ue_cmp other ue) refl
      where
        d : CuUpContext
        d = record c { bearers = put bearer_cmp c.bearers bearer x }

        same_bearer : (b ≡ bearer → ⊥) → model_in other b (Some d) ≡ model_in other b (Some c)
        same_bearer differ =
            ap (model_of_bearer other c b) (find-put-other bearer_total c.bearers bearer x b (apart_by bearer_cmp bearer_exact b bearer differ))

        by : (t : Bool) → eq_by_cmp ue_cmp other ue ≡ t → model_in other b (find ue_cmp (put ue_cmp r.contexts ue d) other) ≡ model_in other b (find ue_cmp r.contexts other)
        by true e =
            let same : other ≡ ue = ue_exact other ue ((Equal-is (ue_cmp other ue)).0 e) in
            ap (λ (u : UeId). model_in other b (find ue_cmp (put ue_cmp r.contexts ue d) u)) same
            ∙ ap (model_in other b) (find-put-same ue_total r.contexts ue d) ∙ same_bearer (apart same)
            ∙ ap (model_in other b) (sym there) ∙ ap (λ (u : UeId). model_in other b (find ue_cmp r.contexts u)) (sym same)
        by false e = ap (model_in other b) (find-put-other ue_total r.contexts ue d other e)

-- ---- what a DU has of it

module _ {M C : Type 0} (r : Du M C) (ue : UeId) (bearer : BearerId) where
  pub record DuFound (p : DuModel) : Type 0 where
    pub context : DuContext
    pub there : du_context_of r ue ≡ Some context
    pub found : DuBearer
    pub has : find bearer_cmp context.bearers bearer ≡ Some found
    pub is : record { epoch = context.epoch; sn = context.sn; bearer = found } ≡ p

  pub du_found : (p : DuModel) → du_model_of r ue bearer ≡ Some p → DuFound p
  du_found p e = by (du_context_of r ue) refl e
    where
      in_it : (c : DuContext) → du_context_of r ue ≡ Some c → (o : Option DuBearer) → find bearer_cmp c.bearers bearer ≡ o
          → du_part_with c o ≡ Some p → DuFound p
      in_it c there None has e = absurd cc
      in_it c there (Some x) has e =
          let same : record { epoch = c.epoch; sn = c.sn; bearer = x } ≡ p = cc in record { context = c; there = there; found = x; has = has; is = same }

      by : (o : Option DuContext) → du_context_of r ue ≡ o → du_part_in bearer o ≡ Some p → DuFound p
      by None there e = absurd cc
      by (Some c) there e = in_it c there (find bearer_cmp c.bearers bearer) refl e

  module _ (v : Du M C) (c : DuContext) (x : DuBearer) (there : du_context_of r ue ≡ Some c)
      (is : v.contexts ≡ put ue_cmp r.contexts ue (record c { bearers = put bearer_cmp c.bearers bearer x })) where
    pub du_changed : du_model_of v ue bearer ≡ Some (record { epoch = c.epoch; sn = c.sn; bearer = x })
    du_changed =
        ap (λ es. du_part_in bearer (find ue_cmp es ue)) is
        ∙ ap (du_part_in bearer) (find-put-same ue_total r.contexts ue (record c { bearers = put bearer_cmp c.bearers bearer x }))
        ∙ ap (du_part_with c) (find-put-same bearer_total c.bearers bearer x)

    pub du_kept : (other : UeId) (b : BearerId) → Apart other b ue bearer → du_model_of v other b ≡ du_model_of r other b
    du_kept other b apart =
        ap (λ es. du_part_in b (find ue_cmp es other)) is
        ∙ by (eq_by_cmp ue_cmp other ue) refl
      where
        d : DuContext
        d = record c { bearers = put bearer_cmp c.bearers bearer x }

        same_bearer : (b ≡ bearer → ⊥) → du_part_in b (Some d) ≡ du_part_in b (Some c)
        same_bearer differ = ap (du_part_with c) (find-put-other bearer_total c.bearers bearer x b (apart_by bearer_cmp bearer_exact b bearer differ))

        by : (t : Bool) → eq_by_cmp ue_cmp other ue ≡ t → du_part_in b (find ue_cmp (put ue_cmp r.contexts ue d) other) ≡ du_part_in b (find ue_cmp r.contexts other)
        by true e =
            let same : other ≡ ue = ue_exact other ue ((Equal-is (ue_cmp other ue)).0 e) in
            ap (λ (u : UeId). du_part_in b (find ue_cmp (put ue_cmp r.contexts ue d) u)) same
            ∙ ap (du_part_in b) (find-put-same ue_total r.contexts ue d) ∙ same_bearer (apart same)
            ∙ ap (du_part_in b) (sym there) ∙ ap (λ (u : UeId). du_part_in b (find ue_cmp r.contexts u)) (sym same)
        by false e = ap (du_part_in b) (find-put-other ue_total r.contexts ue d other e)

-- ---- of the units

module _ {M C : Type 0} (u : Units M C) (gnb : Gnb) (number : ℕ) where
  pub up_itself : (r : CuUp M C) → cu_up_of (with_cu_up u gnb number r) gnb number ≡ r
  up_itself r =
      at-put node_total (new_cu_up gnb number) u.ups (up_id gnb number) r (up_id gnb number)
      ∙ ap (λ t. cond t r (cu_up_of u gnb number)) (tied node_cmp node_total (up_id gnb number) (up_id gnb number) refl)

  pub du_itself : (r : Du M C) → du_of (with_du u gnb number r) gnb number ≡ r
  du_itself r =
      at-put node_total (new_du gnb number) u.dus (du_id gnb number) r (du_id gnb number)
      ∙ ap (λ t. cond t r (du_of u gnb number)) (tied node_cmp node_total (du_id gnb number) (du_id gnb number) refl)

  -- where the unit that changes has the same of a bearer, each has
  pub ups_same : {X : Type 0} (f : CuUp M C → X) (r : CuUp M C) → f r ≡ f (cu_up_of u gnb number) → (g : Gnb) (k : ℕ) → f (cu_up_of (with_cu_up u gnb number r) g k) ≡ f (cu_up_of u g k)
  ups_same f r is g k =
      ap f (at-put node_total (new_cu_up g k) u.ups (up_id gnb number) r (up_id g k)) ∙ by (eq_by_cmp node_cmp (up_id g k) (up_id gnb number)) refl
    where
      by : (t : Bool) → eq_by_cmp node_cmp (up_id g k) (up_id gnb number) ≡ t → f (cond t r (cu_up_of u g k)) ≡ f (cu_up_of u g k)
      by true tie =
          let same : up_id g k ≡ up_id gnb number = node_exact (up_id g k) (up_id gnb number) ((Equal-is (node_cmp (up_id g k) (up_id gnb number))).0 tie) in
          let gnbs : gnb ≡ g = cc in
          let numbers : number ≡ k = cc in
          is ∙ (λ i. f (cu_up_of u (gnbs i) (numbers i)))
      by false apart = refl

  pub dus_same : {X : Type 0} (f : Du M C → X) (r : Du M C) → f r ≡ f (du_of u gnb number) → (g : Gnb) (k : ℕ) → f (du_of (with_du u gnb number r) g k) ≡ f (du_of u g k)
  dus_same f r is g k =
      ap f (at-put node_total (new_du g k) u.dus (du_id gnb number) r (du_id g k)) ∙ by (eq_by_cmp node_cmp (du_id g k) (du_id gnb number)) refl
    where
      by : (t : Bool) → eq_by_cmp node_cmp (du_id g k) (du_id gnb number) ≡ t → f (cond t r (du_of u g k)) ≡ f (du_of u g k)
      by true tie =
          let same : du_id g k ≡ du_id gnb number = node_exact (du_id g k) (du_id gnb number) ((Equal-is (node_cmp (du_id g k) (du_id gnb number))).0 tie) in
          let gnbs : gnb ≡ g = cc in
          let numbers : number ≡ k = cc in
          is ∙ (λ i. f (du_of u (gnbs i) (numbers i)))
      by false apart = refl

  -- another unit is as it was
  pub up_elsewhere : (r : CuUp M C) (g : Gnb) (k : ℕ) → (cu_up_of (with_cu_up u gnb number r) g k ≡ cu_up_of u g k) ⊎ ((g ≡ gnb) × (k ≡ number))
  up_elsewhere r g k = by (eq_by_cmp node_cmp (up_id g k) (up_id gnb number)) refl
    where
      is : cu_up_of (with_cu_up u gnb number r) g k ≡ cond (eq_by_cmp node_cmp (up_id g k) (up_id gnb number)) r (cu_up_of u g k)
      is = at-put node_total (new_cu_up g k) u.ups (up_id gnb number) r (up_id g k)

      by : (t : Bool) → eq_by_cmp node_cmp (up_id g k) (up_id gnb number) ≡ t → (cu_up_of (with_cu_up u gnb number r) g k ≡ cu_up_of u g k) ⊎ ((g ≡ gnb) × (k ≡ number))
      by true tie =
          let same : up_id g k ≡ up_id gnb number = node_exact (up_id g k) (up_id gnb number) ((Equal-is (node_cmp (up_id g k) (up_id gnb number))).0 tie) in
          inr (cc, cc)
      by false e = inl (is ∙ ap (λ t. cond t r (cu_up_of u g k)) e)

  pub du_elsewhere : (r : Du M C) (g : Gnb) (k : ℕ) → (du_of (with_du u gnb number r) g k ≡ du_of u g k) ⊎ ((g ≡ gnb) × (k ≡ number))
  du_elsewhere r g k = by (eq_by_cmp node_cmp (du_id g k) (du_id gnb number)) refl
    where
      is : du_of (with_du u gnb number r) g k ≡ cond (eq_by_cmp node_cmp (du_id g k) (du_id gnb number)) r (du_of u g k)
      is = at-put node_total (new_du g k) u.dus (du_id gnb number) r (du_id g k)

      by : (t : Bool) → eq_by_cmp node_cmp (du_id g k) (du_id gnb number) ≡ t → (du_of (with_du u gnb number r) g k ≡ du_of u g k) ⊎ ((g ≡ gnb) × (k ≡ number))
      by true tie =
          let same : du_id g k ≡ du_id gnb number = node_exact (du_id g k) (du_id gnb number) ((Equal-is (node_cmp (du_id g k) (du_id gnb number))).0 tie) in
          inr (cc, cc)
      by false e = inl (is ∙ ap (λ t. cond t r (du_of u g k)) e)

-- A unit's own step, and that of a terminal which is placed, as a step of the table that the unit stands in.
use Rattle.std.proofs.Common.{◌≡◌, ℕ, List, [], Option, Some, None, refl, sym, ap, ◌∙◌, subst}
use Rattle.std.specs.Prelude.{Result, Ok, Err, unwrap_or, OnOk, IfOk, IfErr}
use Rattle.std.specs.declared.cmp.Ordering.{Ordering}
use Rattle.gnb_types.specs.declared.inputs.Input.{Input}
use Rattle.gnb_types.specs.declared.names.Gnb.{Gnb}
use Rattle.gnb_types.specs.declared.names.NodeId.TheVariants.{CuUp, Du}
use Rattle.gnb_types.specs.declared.outputs.Output.{Output}
use Rattle.gnb_types.specs.declared.plans.Plan.{Plan}
use Rattle.gnb_types.specs.Orders.{node_cmp}
use Rattle.tables.specs.Tables.{find, put, at}
use Rattle.unit_defs.specs.octet_defs.Codec.{Codec}
use Rattle.unit_defs.specs.octet_defs.Units.{cu_up_steps, du_steps}
use Rattle.unit_messages.specs.declared.steps.StepError.{StepError}
use Rattle.unit_messages.specs.declared.steps.StepError.TheVariants as errors
use Rattle.unit_messages.specs.steps.Steps.{Step, stepped, IsStep, step_after}
use Rattle.cu_user.specs.Users.{User, outputs_in as user_outputs, failure_in as user_failure, placing_failure_in}
use Rattle.cu_up_contexts.specs.contexts.Tables.{OctetUp}
use Rattle.cu_up_contexts.specs.declared.contexts.placing.PlaceError.{PlaceError}
use Rattle.cu_up_contexts.specs.declared.contexts.placing.PlaceError.TheVariants as places
use Rattle.cu_up_contexts.specs.contexts.Placing.{IsPlaced}
use Rattle.du_contexts.specs.Tables.{OctetDu}
use Rattle.du_node.specs.Nodes.{Node, outputs_in as node_outputs, failure_in}
use Rattle.du_contexts.specs.Placing.{IsPlaced as IsNodePlaced}
use Rattle.site.specs.site_tables.Steps.{Kind, Steps}
use Rattle.site.specs.site_tables.Users.{Users, user_kind, user_at, PlacesUser}
use Rattle.site.specs.site_tables.Nodes.{Nodes, node_kind, node_at, PlacesNode}

-- ---- a table at a name

module _ {K X : Type 0} (R : K → K → Ordering) (m : List (K × X)) (d : X) (k : K) where
  pub at_some : (x : X) → Some x ≡ find R m k → at R d m k ≡ x
  unfolding at
  at_some x is = ap (λ (o : Option X). unwrap_or o d) (sym is)

  pub at_none : find R m k ≡ None → at R d m k ≡ d
  unfolding at
  at_none is = ap (λ (o : Option X). unwrap_or o d) is

-- ---- a step

abbrev Answer : Type 0
Answer = Result (List Output) StepError

module _ {X R M : Type 0} (kind : Kind X R) (step : Step R) (put_back : X → M) (outs : Answer → List Output) (fails : Answer → Option StepError)
    (outs_are : (os : List Output) → outs (Ok os) ≡ os) (goes_on : (os : List Output) → fails (Ok os) ≡ None) where
  pub stepped_by : (after : X) (new : M) (result : Answer) → IsStep step (outs result) (kind.kept after) result → kind.failure after ≡ fails result
      → ((os : List Output) → result ≡ Ok os → new ≡ put_back after) → Steps kind step put_back new result
  stepped_by after new (Ok os) is kept there =
      (after, kept ∙ goes_on os, subst (λ (l : List Output). IsStep step l (kind.kept after) (Ok os)) (outs_are os) is, there os refl)
  stepped_by after new (Err (errors.Spent counter)) is kept there = is
  stepped_by after new (Err errors.Memory) is kept there = tt

-- a unit that is put back with its outputs, or memory runs out there
module _ {X R M : Type 0} (kind : Kind X R) (step : Step R) (put_back : X → M) where
  pub kept_steps : (there new : M) (outputs : List Output) (result : Answer) → Steps kind step put_back there (Ok outputs)
      → IfOk result (λ os. os ≡ outputs) → OnOk result (new ≡ there) → IfErr result (λ error. error ≡ errors.Memory)
      → Steps kind step put_back new result
  kept_steps there new outputs (Ok os) (x, works, is, back) same put fails =
      (x, works, subst (λ (l : List Output). step ≡ stepped l (kind.kept x)) (sym same) is, put ∙ back)
  kept_steps there new outputs (Err error) steps same put fails =
      subst (λ (e : StepError). Steps kind step put_back new (Err e)) (sym fails) tt

-- a CU-UP's own step
module _ (codec : Codec) (input : Input) (old new : Users) (gnb : Gnb) (number : ℕ) where
  abbrev user_step : User → Step OctetUp
  user_step u = step_after [] (cu_up_steps codec u.up input)

  pub user_steps : (before after : User) (result : Answer) → user_at old gnb number ≡ before → (user_at old gnb number).failure ≡ None
      → (before.failure ≡ None → IsStep (user_step before) (user_outputs result) after.up result)
      → (before.failure ≡ None → after.failure ≡ user_failure result)
      → ((os : List Output) → result ≡ Ok os → new ≡ put node_cmp old (CuUp gnb number) after)
      → Steps user_kind (user_step (user_at old gnb number)) (put node_cmp old (CuUp gnb number)) new result
  user_steps before after result is_there works is kept there =
      let works_before : before.failure ≡ None = ap (λ (u : User). u.failure) (sym is_there) ∙ works in
      subst (λ (u : User). Steps user_kind (user_step u) (put node_cmp old (CuUp gnb number)) new result) (sym is_there)
      (stepped_by user_kind (user_step before) (put node_cmp old (CuUp gnb number)) user_outputs user_failure (λ os. refl) (λ os. refl)
      after new result (is works_before) (kept works_before) there)

-- a DU's own step
module _ (codec : Codec) (input : Input) (old new : Nodes) (gnb : Gnb) (number : ℕ) where
  abbrev node_step : Node → Step OctetDu
  node_step n = step_after [] (du_steps codec n.du input)

  pub node_steps : (before after : Node) (result : Answer) → node_at old gnb number ≡ before → (node_at old gnb number).failure ≡ None
      → (before.failure ≡ None → IsStep (node_step before) (node_outputs result) after.du result)
      → (before.failure ≡ None → after.failure ≡ failure_in result)
      → ((os : List Output) → result ≡ Ok os → new ≡ put node_cmp old (Du gnb number) after)
      → Steps node_kind (node_step (node_at old gnb number)) (put node_cmp old (Du gnb number)) new result
  node_steps before after result is_there works is kept there =
      let works_before : before.failure ≡ None = ap (λ (n : Node). n.failure) (sym is_there) ∙ works in
      subst (λ (n : Node). Steps node_kind (node_step n) (put node_cmp old (Du gnb number)) new result) (sym is_there)
      (stepped_by node_kind (node_step before) (put node_cmp old (Du gnb number)) node_outputs failure_in (λ os. refl) (λ os. refl)
      after new result (is works_before) (kept works_before) there)

-- ---- a terminal that is placed

module _ (plan : Plan) (downlink : ℕ) (old new : Users) (before after : User) (is_there : user_at old plan.gnb plan.up ≡ before)
    (works : (user_at old plan.gnb plan.up).failure ≡ None) where
  works_before : before.failure ≡ None
  works_before = ap (λ (u : User). u.failure) (sym is_there) ∙ works

  abbrev IsPlacedAt : OctetUp → OctetUp → Result (Unit {0}) PlaceError → Type 0
  IsPlacedAt r later result = IsPlaced r plan downlink later result

  -- that the CU-UP was `before`
  from_before : (later : OctetUp) (result : Result (Unit {0}) PlaceError) → IsPlacedAt before.up later result
      → IsPlacedAt (user_at old plan.gnb plan.up).up later result
  from_before later result placed = subst (λ (u : User). IsPlacedAt u.up later result) (sym is_there) placed

  pub user_placed : (result : Result (Unit {0}) PlaceError) → (before.failure ≡ None → IsPlacedAt before.up after.up result)
      → (before.failure ≡ None → after.failure ≡ placing_failure_in result)
      → (result ≡ Ok tt → new ≡ put node_cmp old (CuUp plan.gnb plan.up) after) → (result ≡ Err places.NoQuota → after ≡ before → new ≡ old)
      → PlacesUser plan downlink old new result
  user_placed (Ok done) placed kept there back =
      (after, kept works_before, from_before after.up (Ok done) (placed works_before), there refl)
  user_placed (Err places.NoQuota) placed kept there back =
      let p : IsPlacedAt before.up after.up (Err places.NoQuota) = placed works_before in
      ((from_before after.up (Err places.NoQuota) p).0, back refl (λ i. record { up = p.1 i; failure = (kept works_before ∙ sym works_before) i }))
  user_placed (Err (places.Step (errors.Spent counter))) placed kept there back =
      from_before after.up (Err (places.Step (errors.Spent counter))) (placed works_before)
  user_placed (Err (places.Step errors.Memory)) placed kept there back =
      from_before after.up (Err (places.Step errors.Memory)) (placed works_before)

module _ (plan : Plan) (uplink : ℕ) (old new : Nodes) (before after : Node) (is_there : node_at old plan.gnb plan.du ≡ before)
    (works : (node_at old plan.gnb plan.du).failure ≡ None) where
  node_works_before : before.failure ≡ None
  node_works_before = ap (λ (n : Node). n.failure) (sym is_there) ∙ works

  node_from_before : (later : OctetDu) (result : Result (Unit {0}) StepError) → IsNodePlaced before.du plan uplink later result
      → IsNodePlaced (node_at old plan.gnb plan.du).du plan uplink later result
  node_from_before later result placed = subst (λ (n : Node). IsNodePlaced n.du plan uplink later result) (sym is_there) placed

  pub node_placed : (result : Result (Unit {0}) StepError) → (before.failure ≡ None → IsNodePlaced before.du plan uplink after.du result)
      → (before.failure ≡ None → after.failure ≡ failure_in result)
      → (result ≡ Ok tt → new ≡ put node_cmp old (Du plan.gnb plan.du) after) → PlacesNode plan uplink old new result
  node_placed (Ok done) placed kept there =
      (after, kept node_works_before, node_from_before after.du (Ok done) (placed node_works_before), there refl)
  node_placed (Err (errors.Spent counter)) placed kept there = node_from_before after.du (Err (errors.Spent counter)) (placed node_works_before)
  node_placed (Err errors.Memory) placed kept there = node_from_before after.du (Err errors.Memory) (placed node_works_before)

-- where memory runs out as it is put back
module _ (plan : Plan) (downlink : ℕ) (old new there : Users) where
  pub kept_placed : (result : Result (Unit {0}) PlaceError) → PlacesUser plan downlink old there (Ok tt) → OnOk result (new ≡ there)
      → IfErr result (λ error. error ≡ places.Step errors.Memory) → PlacesUser plan downlink old new result
  kept_placed (Ok done) (u, works, placed, back) put fails = (u, works, placed, put ∙ back)
  kept_placed (Err error) (u, works, placed, back) put fails =
      let full : PlacesUser plan downlink old new (Err (places.Step errors.Memory)) = (placed.0, tt) in
      subst (λ (e : PlaceError). PlacesUser plan downlink old new (Err e)) (sym fails) full

module _ (plan : Plan) (uplink : ℕ) (old new there : Nodes) where
  pub kept_node_placed : (result : Result (Unit {0}) StepError) → PlacesNode plan uplink old there (Ok tt) → OnOk result (new ≡ there)
      → IfErr result (λ error. error ≡ errors.Memory) → PlacesNode plan uplink old new result
  kept_node_placed (Ok done) (n, works, placed, back) put fails = (n, works, placed, put ∙ back)
  kept_node_placed (Err error) placed put fails = subst (λ (e : StepError). PlacesNode plan uplink old new (Err e)) (sym fails) tt

-- A terminal that is set up without messages, at all units: where it fits, where it doesn't, and what the run sees then.
use Rattle.std.proofs.Common.{◌≡◌, ◌≤◌, ◌<◌, ℕ, ◌+◌, ◌-◌, ◌*◌, ◌^◌, ◌==◌, nat_le, not, Bool, true, false, ◌&&◌, List, Option, Some, None, refl, sym, ap, ◌∙◌, subst, arith, tests}
use Rattle.std.specs.Prelude.{Result, Ok, Err, is_some, ◌||◌}
use Rattle.gnb_types.specs.declared.names.Gnb.{Gnb}
use Rattle.gnb_types.specs.declared.names.Gnb.TheVariants.{A, B}
use Rattle.gnb_types.specs.declared.plans.Plan.{Plan}
use Rattle.unit_defs.specs.Teids.{teids_are_left, last_teid}
use Rattle.cu_up_contexts.specs.contexts.Placing.{downlinks_fit}
use Rattle.du_contexts.specs.Placing.{uplinks_fit}
use Rattle.cu_up_contexts.specs.declared.contexts.placing.PlaceError.{PlaceError}
use Rattle.cu_up_contexts.specs.declared.contexts.placing.PlaceError.TheVariants as places
use Rattle.unit_messages.specs.declared.steps.StepError.{StepError}
use Rattle.unit_messages.specs.declared.steps.StepError.TheVariants as errors
use Rattle.gnb_types.specs.declared.names.NodeId.TheVariants.{CuUp as up_id}
use Rattle.gnb_types.specs.Orders.{node_cmp, ue_cmp}
use Rattle.tables.specs.Tables.{find, put}
use Rattle.unit_defs.specs.CuUpRecords.{CuUp}
use Rattle.unit_defs.specs.Du.{DuContext, Du}
use Rattle.unit_defs.specs.Accessors.{place_of, cu_up_has_context, epoch_in, du_epoch}
use Rattle.unit_defs.specs.Ue.{new_ue, placed}
use Rattle.unit_defs.specs.Static.{cu_up_has_room, cu_up_has_teids, cu_up_placed, du_has_teids, du_placed, cu_cp_placed}
use Rattle.run_defs.specs.Units.{cu_cp_of, with_cu_cp, cu_up_of, with_cu_up, du_of, with_du, with_ue}
use Rattle.run_defs.specs.Conditions.{units_placed, all_set_up, is_held_by_units}
use Rattle.run_defs.specs.UnitRuns.{Records}
use Rattle.run_units.specs.Steps.{has_room, has_teids, PlacingGives}
use Rattle.cu_user.specs.Users.{User}
use Rattle.du_node.specs.Nodes.{Node}
use Rattle.site.specs.declared.unit_set.UnitSet.{UnitSet}
use Rattle.site.specs.site_tables.Users.{Users, user_at, PlacesUser}
use Rattle.site.specs.site_tables.Nodes.{node_at}
use Rattle.site.specs.Sites.{records_of, AreWorking}
use Rattle.site.specs.Placing.{placed_beside, PlacesOthers}
use Rattle.site.proofs.Sets.{with_user, up_is, ups_put, du_is}

le_of : (a b : ℕ) → nat_le a b ≡ true → a ≤ b
le_of a b h = grind arith

is_le : (a b : ℕ) → a ≤ b → nat_le a b ≡ true
is_le a b h = grind arith

second : (a b : Bool) → a && b ≡ true → b ≡ true
second true b h = h
second false b h = absurd cc

-- TEIDs that are left are of 32 bits
ends_by : (next count : ℕ) → teids_are_left next count ≡ true → next + count ≤ 2 ^ 32
ends_by next count h =
    let below : next + count - 1 ≤ 2 ^ 32 - 1 = le_of (next + count - 1) last_teid (second (not (next == 0)) (nat_le (next + count - 1) last_teid) h) in omega arith

pub downlinks_of_left : (next count : ℕ) → teids_are_left next count ≡ true → downlinks_fit next count ≡ true
downlinks_of_left next count h = is_le (next + count) (2 ^ 32) (ends_by next count h)

pub uplinks_of_left : (next count : ℕ) → teids_are_left next (2 * count) ≡ true → uplinks_fit (next + 1) count ≡ true
uplinks_of_left next count h =
    let below : next + 2 * count ≤ 2 ^ 32 = ends_by next (2 * count) h in is_le (next + 1 + 2 * count) (2 ^ 32 + 1) (omega (arith, below))

-- ---- where it doesn't fit: at the CU-UP, and at the DU

spent_up : (a d f : Bool) → (d ≡ true → f ≡ true) → a && f ≡ false → a && d ≡ false
spent_up true true f fits h = let both : true ≡ false = sym (fits refl) ∙ h in absurd cc
spent_up true false f fits h = refl
spent_up false d f fits h = refl

spent_du : (a d f : Bool) → f ≡ true → d && f ≡ false → a && d ≡ false
spent_du a true f fits h = let both : true ≡ false = sym fits ∙ h in absurd cc
spent_du true false f fits h = refl
spent_du false false f fits h = refl

first : (a b : Bool) → a && b ≡ true → a ≡ true
first true b h = refl
first false b h = absurd cc

both_left : (a f d g : Bool) → a && f ≡ true → d && g ≡ true → a && d ≡ true
both_left true f true g h k = refl
both_left true f false g h k = absurd cc
both_left false f d g h k = absurd cc

abbrev pub as_placing : Result (Unit {0}) StepError → Result (Unit {0}) PlaceError
as_placing (Ok done) = Ok done
as_placing (Err error) = Err (places.Step error)

module _ (plan : Plan) (s : UnitSet) where
  abbrev before : User
  before = user_at s.users plan.gnb plan.up

  abbrev du_before : Node
  du_before = node_at s.nodes plan.gnb plan.du

  room_is : (b : Bool) → cu_up_has_room before.up plan ≡ b → has_room plan (records_of s) ≡ b
  room_is b h = ap (λ u. cu_up_has_room u plan) (up_is s plan.gnb plan.up) ∙ h

  teids_are : (b : Bool) → cu_up_has_teids before.up plan && du_has_teids du_before.du plan ≡ b → has_teids plan (records_of s) ≡ b
  teids_are b h = (λ i. cu_up_has_teids (up_is s plan.gnb plan.up i) plan && du_has_teids (du_is s plan.gnb plan.du i) plan) ∙ h

  -- the CU-UP places nothing
  pub up_fails : (downlink : ℕ) (new : Users) (error : PlaceError) → downlink ≡ du_before.du.next_teid → PlacesUser plan downlink s.users new (Err error)
      → PlacingGives plan (records_of s) (records_of (record s { users = new })) (Err error)
  up_fails downlink new places.NoQuota is p = (room_is false p.0, ap (λ (m : Users). records_of (record s { users = m })) p.1)
  up_fails downlink new (places.Step (errors.Spent counter)) is (room, (may, spent)) = (
    room_is true room,
    teids_are false (spent_up (cu_up_has_teids before.up plan) (du_has_teids du_before.du plan) (downlinks_fit downlink plan.bearers)
        (λ left. ap (λ (n : ℕ). downlinks_fit n plan.bearers) is ∙ downlinks_of_left du_before.du.next_teid plan.bearers left) may),
    spent,
  )
  up_fails downlink new (places.Step errors.Memory) is p = tt

  -- ---- the CU-UP places it

  beside_is : (x : CuUp (List ℕ) (List ℕ)) (uplink : ℕ) (r : Records)
      → placed_beside plan uplink (with_cu_up r plan.gnb plan.up x)
      ≡ with_cu_cp (with_du (with_cu_up (with_ue r plan.ue (placed (new_ue plan))) plan.gnb plan.up x) plan.gnb plan.du (du_placed (du_of r plan.gnb plan.du) plan uplink))
      plan.gnb (cu_cp_placed (cu_cp_of r plan.gnb) plan)
  beside_is x uplink r = by plan.gnb
    where
      by : (g : Gnb) → with_cu_cp (with_du (with_cu_up (with_ue r plan.ue (placed (new_ue plan))) plan.gnb plan.up x) plan.gnb plan.du (du_placed (du_of r plan.gnb plan.du) plan uplink))
          g (cu_cp_placed (cu_cp_of (with_cu_up r plan.gnb plan.up x) g) plan)
          ≡ with_cu_cp (with_du (with_cu_up (with_ue r plan.ue (placed (new_ue plan))) plan.gnb plan.up x) plan.gnb plan.du (du_placed (du_of r plan.gnb plan.du) plan uplink))
          g (cu_cp_placed (cu_cp_of r g) plan)
      by A = refl
      by B = refl

  -- what all see of it, where the CU-UP keeps this record
  all_is : (new : Users) (u : User) (uplink downlink : ℕ) (t : UnitSet) → new ≡ put node_cmp s.users (up_id plan.gnb plan.up) u
      → u.up ≡ cu_up_placed before.up plan downlink → downlink ≡ du_before.du.next_teid → uplink ≡ before.up.next_teid + 1
      → records_of t ≡ all_set_up (placed_beside plan uplink (records_of (record s { users = new })))
      → records_of t ≡ all_set_up (units_placed plan (records_of s))
  all_is new u uplink downlink t there up_is_placed down_is up_at is =
      let r : Records = records_of s in
      let x : CuUp (List ℕ) (List ℕ) = cu_up_placed (cu_up_of r plan.gnb plan.up) plan (du_of r plan.gnb plan.du).next_teid in
      let down : downlink ≡ (du_of r plan.gnb plan.du).next_teid = down_is ∙ ap (λ d. d.next_teid) (sym (du_is s plan.gnb plan.du)) in
      let up : uplink ≡ (cu_up_of r plan.gnb plan.up).next_teid + 1 = up_at ∙ ap (λ d. d.next_teid + 1) (sym (up_is s plan.gnb plan.up)) in
      let same : u.up ≡ x = up_is_placed ∙ (λ i. cu_up_placed (sym (up_is s plan.gnb plan.up) i) plan (down i)) in
      is
      ∙ ap (λ (m : Users). all_set_up (placed_beside plan uplink (records_of (record s { users = m })))) there
      ∙ ap (λ (q : Records). all_set_up (placed_beside plan uplink q)) (sym (ups_put s plan.gnb plan.up u))
      ∙ ap (λ (y : CuUp (List ℕ) (List ℕ)). all_set_up (placed_beside plan uplink (with_cu_up r plan.gnb plan.up y))) same
      ∙ ap (λ (n : ℕ). all_set_up (placed_beside plan n (with_cu_up r plan.gnb plan.up x))) up
      ∙ ap (λ (q : Records). all_set_up q) (beside_is x ((cu_up_of r plan.gnb plan.up).next_teid + 1) r)

  pub others_give : (downlink uplink : ℕ) (new : Users) (t : UnitSet) (result : Result (Unit {0}) StepError) → PlacesUser plan downlink s.users new (Ok tt)
      → downlink ≡ du_before.du.next_teid → uplink ≡ before.up.next_teid + 1 → PlacesOthers plan uplink (record s { users = new }) t result
      → PlacingGives plan (records_of s) (records_of t) (as_placing result)
  others_give downlink uplink new t (Ok done) (u, works, (room, (fits, is_put)), there) down_is up_at (may, is, w) = (
    room_is true room,
    teids_are true (both_left (cu_up_has_teids before.up plan) (downlinks_fit downlink plan.bearers) (du_has_teids du_before.du plan)
        (uplinks_fit uplink plan.bearers) fits may),
    all_is new u uplink downlink t there is_put down_is up_at is,
  )
  others_give downlink uplink new t (Err (errors.Spent counter)) (u, works, (room, (fits, is_put)), there) down_is up_at (may, is) = (
    room_is true room,
    teids_are false (spent_du (cu_up_has_teids before.up plan) (du_has_teids du_before.du plan) (uplinks_fit uplink plan.bearers)
        (ap (λ (n : ℕ). uplinks_fit n plan.bearers) up_at
        ∙ uplinks_of_left before.up.next_teid plan.bearers (first (cu_up_has_teids before.up plan) (downlinks_fit downlink plan.bearers) fits)) may),
    is,
  )
  others_give downlink uplink new t (Err errors.Memory) p down_is up_at q = tt

  pub up_works : (downlink : ℕ) (new : Users) → AreWorking s → PlacesUser plan downlink s.users new (Ok tt) → AreWorking (record s { users = new })
  up_works downlink new w (u, works, placed, there) =
      subst (λ (m : Users). AreWorking (record s { users = m })) (sym there) (with_user s (up_id plan.gnb plan.up) u w works)

-- ---- a terminal that no unit of its plan holds

or_first : (a b : Bool) → a || b ≡ false → a ≡ false
or_first true b h = absurd cc
or_first false b h = refl

or_second : (a b : Bool) → a || b ≡ false → b ≡ false
or_second true b h = absurd cc
or_second false b h = h

no_context : {X : Type 0} (o : Option X) → is_some o ≡ false → o ≡ None
no_context None h = refl
no_context (Some x) h = absurd cc

no_du_context : (o : Option DuContext) → is_some (epoch_in o) ≡ false → o ≡ None
no_du_context None h = refl
no_du_context (Some c) h = absurd cc

module _ (plan : Plan) (s : UnitSet) (new : is_held_by_units plan (records_of s) ≡ false) where
  abbrev by_cp : Bool
  by_cp = is_some (place_of (cu_cp_of (records_of s) plan.gnb) plan.ue)

  abbrev by_up : Bool
  by_up = cu_up_has_context (cu_up_of (records_of s) plan.gnb plan.up) plan.ue

  abbrev by_du : Bool
  by_du = is_some (du_epoch (du_of (records_of s) plan.gnb plan.du) plan.ue)

  pub not_at_up : find ue_cmp (user_at s.users plan.gnb plan.up).up.contexts plan.ue ≡ None
  not_at_up =
      ap (λ (r : CuUp (List ℕ) (List ℕ)). find ue_cmp r.contexts plan.ue) (sym (up_is s plan.gnb plan.up))
      ∙ no_context (find ue_cmp (cu_up_of (records_of s) plan.gnb plan.up).contexts plan.ue) (or_second by_cp by_up (or_first (by_cp || by_up) by_du new))

  pub not_at_du : find ue_cmp (node_at s.nodes plan.gnb plan.du).du.contexts plan.ue ≡ None
  not_at_du =
      ap (λ (r : Du (List ℕ) (List ℕ)). find ue_cmp r.contexts plan.ue) (sym (du_is s plan.gnb plan.du))
      ∙ no_du_context (find ue_cmp (du_of (records_of s) plan.gnb plan.du).contexts plan.ue) (or_second (by_cp || by_up) by_du new)

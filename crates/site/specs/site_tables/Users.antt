-- The CU-UPs of both gNBs, by their names, and what calls leave of them.
use Rattle.std.specs.Prelude.{◌≡◌, ℕ, false, List, [], ◌∷◌, None, Result, Ok, Err}
use Rattle.gnb_types.specs.declared.names.Gnb.{Gnb}
use Rattle.gnb_types.specs.declared.names.Gnb.TheVariants.{A, B}
use Rattle.gnb_types.specs.declared.names.NodeId.{NodeId}
use Rattle.gnb_types.specs.declared.names.NodeId.TheVariants.{CuUp}
use Rattle.gnb_types.specs.declared.plans.Plan.{Plan}
use Rattle.gnb_types.specs.Orders.{node_cmp}
use Rattle.tables.specs.Tables.{at, put}
use Rattle.unit_defs.specs.Static.{cu_up_has_room, cu_up_set_up}
use Rattle.cu_user.specs.Users.{User, new_user}
use Rattle.cu_up_contexts.specs.contexts.Tables.{OctetUp}
use Rattle.cu_up_contexts.specs.contexts.Placing.{IsPlaced}
use Rattle.cu_up_contexts.specs.declared.contexts.placing.PlaceError.{PlaceError}
use Rattle.cu_up_contexts.specs.declared.contexts.placing.PlaceError.TheVariants as places
use Rattle.site.specs.site_tables.Steps.{Kind}

abbrev pub Users : Type 0
Users = List (NodeId × User)

abbrev pub user_kind : Kind User OctetUp
user_kind = record { kept = λ u. u.up; failure = λ u. u.failure }

abbrev pub first_users : Users
first_users =
    (CuUp A 1, new_user A 1) ∷ (CuUp A 2, new_user A 2) ∷ (CuUp B 1, new_user B 1) ∷ (CuUp B 2, new_user B 2) ∷ []

-- one that isn't there is as it is at first
abbrev pub user_at : Users → Gnb → ℕ → User
user_at users gnb number = at node_cmp (new_user gnb number) users (CuUp gnb number)

-- A terminal is placed at the CU-UP of its plan, which works on; without blocks all stays; else the counter of TEIDs is spent. Out of
-- memory nothing is said of what is kept.
abbrev pub PlacesUser : Plan → ℕ → Users → Users → Result (Unit {0}) PlaceError → Type 0
PlacesUser plan downlink old new (Ok done) =
    (u : User) × (u.failure ≡ None) × IsPlaced (user_at old plan.gnb plan.up).up plan downlink u.up (Ok done)
    × (new ≡ put node_cmp old (CuUp plan.gnb plan.up) u)
PlacesUser plan downlink old new (Err places.NoQuota) =
    (cu_up_has_room (user_at old plan.gnb plan.up).up plan ≡ false) × (new ≡ old)
PlacesUser plan downlink old new (Err (places.Step error)) =
    IsPlaced (user_at old plan.gnb plan.up).up plan downlink (user_at old plan.gnb plan.up).up (Err (places.Step error))

abbrev pub as_set_up : User → User
as_set_up u = record u { up = cu_up_set_up u.up }

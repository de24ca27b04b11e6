-- An answer of a CU-UP as one bearer sees it: what is put on the bearer's tunnels and handed to its user, and the bearer then.
use Rattle.std.specs.Prelude.{◌≡◌, Bool, false, ◌&&◌, List, [], filter, Option}
use Rattle.std.specs.Ordering.{eq_by_cmp}
use Rattle.gnb_types.specs.declared.names.UeId.{UeId}
use Rattle.gnb_types.specs.declared.names.BearerId.{BearerId}
use Rattle.gnb_types.specs.Orders.{ue_cmp, bearer_cmp}
use Rattle.unit_defs.specs.Ways.{Output, packet, deliver, Answer, gives, spent}
use Rattle.unit_defs.specs.CuUpRecords.{CuUp}
use Rattle.proof_cu_up_orders.specs.context_orders.Orders.{CuUpModel, model_of}

abbrev pub is_bearer : UeId → BearerId → UeId → BearerId → Bool
is_bearer ue bearer u b = eq_by_cmp ue_cmp ue u && eq_by_cmp bearer_cmp bearer b

-- an output is on the bearer
abbrev pub is_on : {M P : Type 0} → UeId → BearerId → Output M P → Bool
is_on ue bearer (packet to teid u b dir tag load) = is_bearer ue bearer u b
is_on ue bearer (deliver u b dir count p) = is_bearer ue bearer u b
is_on ue bearer output = false

abbrev pub on_bearer : {M P : Type 0} → UeId → BearerId → List (Output M P) → List (Output M P)
on_bearer ue bearer outputs = filter (is_on ue bearer) outputs

-- What the orders put on the bearer is what the row puts there, and the bearer is what they make of it. Where the row ends, since a
-- counter would pass its last value, nothing is said; else no order does so.
abbrev pub Comes : {M C P : Type 0} → UeId → BearerId → List (Output M P) → CuUp M C → Answer M P (Option CuUpModel) → Type 0
Comes ue bearer outputs after (gives more p) = (on_bearer ue bearer outputs ≡ on_bearer ue bearer more) × (model_of after ue bearer ≡ p)
Comes ue bearer outputs after (spent counter) = ⊥

-- nothing is put on the bearer, nor handed to its user
abbrev pub IsOff : {M P R : Type 0} → UeId → BearerId → Answer M P R → Type 0
IsOff ue bearer (gives outputs after) = on_bearer ue bearer outputs ≡ []
IsOff ue bearer (spent counter) = Unit {0}

-- nor is the bearer another one then
abbrev pub Untouched : {M C P : Type 0} → UeId → BearerId → Option CuUpModel → Answer M P (CuUp M C) → Type 0
Untouched ue bearer before (gives outputs after) = (on_bearer ue bearer outputs ≡ []) × (model_of after ue bearer ≡ before)
Untouched ue bearer before (spent counter) = Unit {0}

abbrev pub Follows : {M C P : Type 0} → UeId → BearerId → Answer M P (Option CuUpModel) → Answer M P (CuUp M C) → Type 0
Follows ue bearer orders (gives outputs after) = Comes ue bearer outputs after orders
Follows ue bearer orders (spent counter) = Unit {0}

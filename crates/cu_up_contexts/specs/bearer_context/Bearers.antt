-- Internal: the bearers of a context in the code, and what is always so of them.
use Rattle.std.specs.Prelude.{◌≡◌, ◌⊎◌, ℕ, ◌+◌, ◌<◌, ◌≤◌, true, List, [], ◌∷◌, length}
use Rattle.std.specs.List.{AllByRecursion}
use Rattle.gnb_types.specs.declared.names.BearerId.{BearerId}
use Rattle.gnb_types.specs.declared.names.SnBits.{SnBits}
use Rattle.unit_defs.specs.CuUpRecords.{CuUpBearer, CuUpContext}
use Rattle.cu_up_bearer.specs.declared.tunnels.at.Scope.{Scope}
use Rattle.cu_up_bearer.specs.declared.tunnels.at.Flags.{Flags}
use Rattle.cu_up_bearer.specs.tunnels.Tunnels.{flags_as}
use Rattle.cu_up_bearer.specs.bearers.Bearers.{kept, IsOf}
use Rattle.cu_up_bearer.specs.declared.bearers.bearer.Bearer.{Bearer}
use Rattle.cu_up_bearer.specs.orders.Orders.{IsEmpty, IsIdle}

-- bearers by their numbers, from this one on
abbrev pub numbered : ℕ → List Bearer → List (BearerId × CuUpBearer)
numbered i [] = []
numbered i (b ∷ bs) = (record { 0 = i }, kept b) ∷ numbered (i + 1) bs

-- the context of the tables
abbrev pub context_as : ℕ → SnBits → ℕ → Flags → List Bearer → CuUpContext
context_as instance sn quota flags bs = record { instance = instance; sn = sn; quota = quota; flags = flags_as flags; bearers = numbered 1 bs }

-- what all of them share
abbrev pub shared : SnBits → ℕ → Flags → Scope
shared sn quota flags = record { ue = record { 0 = 0 }; bearer = record { 0 = 0 }; sn = sn; quota = quota; flags = flags }

-- a bearer has the numbers and the quota of its context, and before the SN status nothing was sent and nothing is stored
abbrev pub IsServed : Scope → Bearer → Type 0
IsServed a b = IsOf a b × IsIdle a b

abbrev pub AreServed : Scope → List Bearer → Type 0
AreServed a bs = AllByRecursion (λ b. IsServed a b) bs

-- a bearer before the SN status
abbrev pub AreEmpty : Scope → List Bearer → Type 0
AreEmpty a bs = AllByRecursion (λ b. IsOf a b × IsEmpty b) bs

-- only a context that has its SN status is frozen
pub record IsContext (sn : SnBits) (quota : ℕ) (flags : Flags) (bs : List Bearer) : Type 0 where
  pub few : length bs ≤ 8
  pub served : AreServed (shared sn quota flags) bs
  pub known : flags.frozen ≡ true → flags.may_serve ≡ true

-- no bearer of so many has this number
abbrev pub IsOutside : ℕ → ℕ → Type 0
IsOutside number count = (number ≡ 0) ⊎ (count < number)

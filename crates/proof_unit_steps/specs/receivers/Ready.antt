-- What units keep of receivers: what one stores is above the COUNT that it awaits (TS 38.323, 5.2.2).
use Rattle.std.specs.Prelude.{ℕ, ◌≡◌, ◌≤◌, ◌+◌, false, ◌&&◌, List, [], ◌∷◌, Some}
use Rattle.std.specs.List.{AllByRecursion}
use Rattle.gnb_types.specs.declared.names.UeId.{UeId}
use Rattle.gnb_types.specs.declared.names.BearerId.{BearerId}
use Rattle.gnb_types.specs.Orders.{ue_cmp}
use Rattle.tables.specs.Tables.{find}
use Rattle.pdcp_defs.specs.Receivers.{Receiver}
use Rattle.unit_defs.specs.CuUpRecords.{CuUpBearer, CuUpFlags, CuUpContext, CuUp}
use Rattle.unit_defs.specs.Ue.{UeBearer, UeNode}

-- COUNTs from this one on, ascending
abbrev pub Ascends : ℕ → List (ℕ × List ℕ) → Type 0
Ascends low [] = Unit {0}
Ascends low (e ∷ es) = (low ≤ e.0) × Ascends (e.0 + 1) es

-- all that is stored is above the COUNT that is awaited
abbrev pub StoresAbove : Receiver (List ℕ) → Type 0
StoresAbove r = Ascends (r.deliv + 1) r.stored

-- At a CU-UP that holds of a context that isn't frozen; a frozen one delivers nothing, and may store what it awaits. Nothing is
-- stored before the context has its SN status and its terminal.
pub record CuUpStores (flags : CuUpFlags) (r : Receiver (List ℕ)) : Type 0 where
  pub from : Ascends r.deliv r.stored
  pub above : flags.frozen ≡ false → StoresAbove r
  pub none : flags.may_serve && flags.arrived ≡ false → r.stored ≡ []

abbrev pub BearersStore : CuUpFlags → List (BearerId × CuUpBearer) → Type 0
BearersStore flags bearers = AllByRecursion (λ (e : BearerId × CuUpBearer). CuUpStores flags e.1.receiver) bearers

abbrev pub ContextsStore : List (UeId × CuUpContext) → Type 0
ContextsStore contexts = (ue : UeId) (c : CuUpContext) → find ue_cmp contexts ue ≡ Some c → BearersStore c.flags c.bearers

abbrev pub CuUpReady : {M C : Type 0} → CuUp M C → Type 0
CuUpReady r = ContextsStore r.contexts

abbrev pub UeReady : UeNode → Type 0
UeReady u = AllByRecursion (λ (e : BearerId × UeBearer). StoresAbove e.1.receiver) u.bearers

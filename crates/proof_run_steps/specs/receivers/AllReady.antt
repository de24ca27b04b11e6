-- What a receiver stores is above the COUNT that it awaits, at all units.
use Rattle.std.specs.Prelude.{ℕ, ◌≡◌, Some}
use Rattle.gnb_types.specs.declared.names.Gnb.{Gnb}
use Rattle.gnb_types.specs.declared.names.UeId.{UeId}
use Rattle.unit_defs.specs.Ue.{UeNode}
use Rattle.run_defs.specs.Units.{Units, cu_up_of, ue_of}
use Rattle.proof_unit_steps.specs.receivers.Ready.{CuUpReady, UeReady}

abbrev pub AreReady : {M C : Type 0} → Units M C → Type 0
AreReady units =
    ((gnb : Gnb) (number : ℕ) → CuUpReady (cu_up_of units gnb number)) × ((ue : UeId) (u : UeNode) → ue_of units ue ≡ Some u → UeReady u)

-- What stands on a DU's tunnel and on a terminal's radio down after a step, by what stood there before.
use Rattle.std.specs.Prelude.{◌≡◌, ℕ, List, [], ◌∷◌, Option, Some, ◌⊎◌}
use Rattle.gnb_types.specs.declared.names.NodeId.{NodeId}
use Rattle.gnb_types.specs.declared.names.NodeId.TheVariants.{CuUp, Du}
use Rattle.bearer_defs.specs.chain_defs.Models.{Model}
use Rattle.unit_defs.specs.Ways.{Pdu}
use Rattle.run_defs.specs.Written.{Written}
use Rattle.law_downlink_order.specs.path.Paths.{Frame}
use Rattle.proof_run_steps.specs.radio_steps.Radios.{OnAir}
use Rattle.proof_bearer_refinement.specs.downlink_radio.Down.{IsDown}
use Rattle.proof_bearer_refinement.specs.refinement_facts.Refinements.{RunItem}

abbrev pub IsNoCuUp : NodeId → Type 0
IsNoCuUp (CuUp gnb number) = ⊥
IsNoCuUp node = Unit {0}

abbrev pub IsNoDu : NodeId → Type 0
IsNoDu (Du gnb number) = ⊥
IsNoDu node = Unit {0}

-- what stood there stands there, or nothing does
abbrev pub IsFrom : Option (List RunItem) → List RunItem → Type 0
IsFrom there items = (there ≡ Some items) ⊎ (items ≡ [])

-- the same frames, all but the first, or none
pub data AreLeft (before frames : List Frame) : Type 0 where
  all : frames ≡ before → AreLeft before frames
  rest : (f : Frame) → before ≡ f ∷ frames → AreLeft before frames
  none : frames ≡ [] → AreLeft before frames

-- what waits on the radio down is so, and it is these packets; and in which epoch it is connected
pub record Waits (a : OnAir (Written Pdu)) (d : Model) (waits : List (ℕ × List ℕ)) (epoch : Option ℕ) : Type 0 where
  pub down : IsDown a d
  pub same : down.waits ≡ waits
  pub at : a.epoch ≡ epoch

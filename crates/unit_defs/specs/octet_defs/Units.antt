-- The units over octets: each reads its input and acts on it; what it can't read it drops, and its record is as before.
use Rattle.std.specs.Prelude.{ℕ, List, Ok, Err}
use Rattle.gnb_types.specs.declared.names.NodeId.{NodeId}
use Rattle.gnb_types.specs.declared.names.NodeId.TheVariants.{Core}
use Rattle.gnb_types.specs.declared.inputs.Input.{Input as OctetInput}
use Rattle.gnb_types.specs.declared.reasons.DropReason.TheVariants.{Unexpected}
use Rattle.unit_defs.specs.Ways.{Input, control_input, Answer, drops}
use Rattle.unit_defs.specs.CuCpRecords.{CuCpRecord}
use Rattle.unit_defs.specs.CuCp.{cu_cp_acts}
use Rattle.unit_defs.specs.CuUpRecords.{CuUp}
use Rattle.unit_defs.specs.CuUp.{cu_up_acts}
use Rattle.unit_defs.specs.Du.{Du, du_acts}
use Rattle.unit_defs.specs.Ue.{UeNode, ue_acts}
use Rattle.unit_defs.specs.Core.{CoreRecord, core_acts}
use Rattle.unit_defs.specs.octet_defs.Codec.{Codec, octet_way}
use Rattle.unit_defs.specs.octet_defs.Reading.{ReadInput, read_message, read_at_cu_cp, read_at_cu_up, read_at_du, read_at_ue}

-- an answer in octets
abbrev pub OctetAnswer : Type 0 → Type 0
OctetAnswer R = Answer (List ℕ) (List ℕ) R

abbrev pub acts_on : {R : Type 0} → (Input (List ℕ) (List ℕ) → OctetAnswer R) → R → ReadInput → OctetAnswer R
acts_on act r (Ok input) = act input
acts_on act r (Err reason) = drops reason r

module _ (codec : Codec) where
  unfoldable pub cu_cp_steps : CuCpRecord (List ℕ) (List ℕ) → OctetInput → OctetAnswer (CuCpRecord (List ℕ) (List ℕ))
  cu_cp_steps r input = acts_on (cu_cp_acts (octet_way codec) r) r (read_at_cu_cp codec r input)

  unfoldable pub cu_up_steps : CuUp (List ℕ) (List ℕ) → OctetInput → OctetAnswer (CuUp (List ℕ) (List ℕ))
  cu_up_steps r input = acts_on (cu_up_acts (octet_way codec) r) r (read_at_cu_up codec r input)

  unfoldable pub du_steps : Du (List ℕ) (List ℕ) → OctetInput → OctetAnswer (Du (List ℕ) (List ℕ))
  du_steps r input = acts_on (du_acts (octet_way codec) r) r (read_at_du codec r input)

  unfoldable pub ue_steps : UeNode → OctetInput → OctetAnswer UeNode
  ue_steps u input = acts_on (ue_acts (octet_way codec) u) u (read_at_ue codec u input)

  -- the core takes control messages alone
  abbrev pub core_takes : CoreRecord (List ℕ) (List ℕ) → Input (List ℕ) (List ℕ) → OctetAnswer (CoreRecord (List ℕ) (List ℕ))
  core_takes r (control_input from message) = core_acts (octet_way codec) r from message
  core_takes r input = drops Unexpected r

  unfoldable pub core_steps : CoreRecord (List ℕ) (List ℕ) → NodeId → List ℕ → OctetAnswer (CoreRecord (List ℕ) (List ℕ))
  core_steps r from octets = acts_on (core_takes r) r (read_message codec Core from octets)

-- The numbers and names that a word may have.
use Rattle.std.specs.Prelude.{ℕ, ◌<◌, ◌≤◌, ◌^◌, ◌-◌, List, length, All}
use Rattle.gnb_types.specs.declared.names.NodeId.{NodeId}
use Rattle.gnb_types.specs.declared.names.NodeId.TheVariants.{CuCp, CuUp, Du, Core, Ue}
use Rattle.gnb_types.specs.declared.names.UeId.{UeId}
use Rattle.gnb_types.specs.declared.names.BearerId.{BearerId}
use Rattle.scenario_text.specs.script_words.Forms.{greatest_number}

-- n lies in low .. high
pub record IsWithin (low high n : ℕ) : Type 0 where
  pub from : low ≤ n
  pub to : n ≤ high

abbrev pub IsUe : UeId → Type 0
IsUe ue = IsWithin 1 16 ue.0

abbrev pub IsBearer : BearerId → Type 0
IsBearer bearer = IsWithin 1 8 bearer.0

abbrev pub IsNode : NodeId → Type 0
IsNode (CuCp gnb) = Unit {0}
IsNode (CuUp gnb number) = IsWithin 1 2 number
IsNode (Du gnb number) = IsWithin 1 2 number
IsNode Core = Unit {0}
IsNode (Ue number) = IsWithin 1 16 number

-- a packet is at least one byte
pub record IsPacket (packet : List ℕ) : Type 0 where
  pub some : 0 < length packet
  pub bytes : All (λ b. b < 256) packet

-- a tunnel by its end
abbrev pub IsTunnel : NodeId × ℕ → Type 0
IsTunnel tunnel = IsNode tunnel.0 × IsWithin 1 greatest_number tunnel.1

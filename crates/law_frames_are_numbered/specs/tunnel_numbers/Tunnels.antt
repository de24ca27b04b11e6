-- What the lines of a run tell of one F1-U downlink tunnel (TS 38.425, 5.4.1): what CU-UPs put on it.
use Rattle.std.specs.Prelude.{ℕ, ◌≡◌, ◌+◌, Bool, if◌then◌else◌, List, [], ◌∷◌, Option, Some, ◌⊎◌}
use Rattle.std.specs.List.{flat_map}
use Rattle.gnb_types.specs.declared.names.NodeId.{NodeId}
use Rattle.gnb_types.specs.declared.names.NodeId.TheVariants.{CuUp}
use Rattle.gnb_types.specs.declared.names.SnBits.{SnBits}
use Rattle.gnb_types.specs.declared.keys.TunnelEnd.{TunnelEnd}
use Rattle.unit_defs.specs.Ways.{Pdu, Load, frame}
use Rattle.unit_defs.specs.octet_defs.Writing.{load_octets, written_load}
use Rattle.run_defs.specs.Lines.{RunLine, put_item, tunnel_link}
use Rattle.run_defs.specs.Said.{same_link}
use Rattle.run_defs.specs.States.{RunStep}
use Rattle.run_defs.specs.Runs.{Happened}

-- ---- the octets of a data frame with this number, and those of anything else that is put

abbrev pub IsDataFrame : ℕ → ℕ → List ℕ → Type 0
IsDataFrame teid number octets =
    (sn : SnBits) × (poll : Bool) × (restart : Bool) × (pdu : Option Pdu)
    × (octets ≡ load_octets teid (written_load sn (frame poll restart number pdu)))

abbrev pub IsNoFrame : Load Pdu → Type 0
IsNoFrame (frame poll restart number pdu) = ⊥
IsNoFrame load = Unit {0}

abbrev pub IsOther : ℕ → List ℕ → Type 0
IsOther teid octets = (sn : SnBits) × (load : Load Pdu) × IsNoFrame load × (octets ≡ load_octets teid (written_load sn load))

-- the frames among these have the numbers from the first on, one after another, up to the last
abbrev pub AreNumbered : ℕ → ℕ → List (List ℕ) → ℕ → Type 0
AreNumbered teid first [] last = last ≡ first
AreNumbered teid first (octets ∷ more) last =
    (IsDataFrame teid first octets × AreNumbered teid (first + 1) more last) ⊎ (IsOther teid octets × AreNumbered teid first more last)

-- ---- what CU-UPs put on the tunnel

abbrev pub put_on : {M : Type 0} → TunnelEnd → RunLine M → List (List ℕ)
put_on end (put_item link item) = if same_link link (tunnel_link end) then item.bytes ∷ [] else []
put_on end line = []

abbrev pub puts_by : {M : Type 0} → TunnelEnd → Option NodeId → List (RunLine M) → List (List ℕ)
puts_by end (Some (CuUp gnb number)) lines = flat_map (put_on end) lines
puts_by end actor lines = []

abbrev pub puts_in : {M : Type 0} → TunnelEnd → List (RunStep M) → List (List ℕ)
puts_in end steps = flat_map (λ step. puts_by end step.actor step.lines) steps

abbrev pub put_there : {M : Type 0} → TunnelEnd → List (Happened M) → List (List ℕ)
put_there end happened = flat_map (λ h. puts_in end h.steps) happened

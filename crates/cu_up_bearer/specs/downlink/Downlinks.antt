-- The downlink of a bearer of a CU-UP, as the procedure tables have it.
use Rattle.std.specs.Prelude.{◌≡◌, ℕ, List, filter}
use Rattle.unit_defs.specs.CuUpRecords.{CuUpBearer}
use Rattle.unit_defs.specs.CuUpBearers.{is_one_of}
use Rattle.cu_up_bearer.specs.declared.tunnels.at.Scope.{Scope}
use Rattle.cu_up_bearer.specs.tunnels.Tunnels.{downlink_as}
use Rattle.cu_up_bearer.specs.declared.downlink.down.DownSide.{DownSide}

-- a bearer with this downlink, whatever else it keeps
abbrev pub with_down : CuUpBearer → DownSide → CuUpBearer
with_down b d = record b { sender = d.sending.sender; waiting = d.sending.waiting; downlink = downlink_as d.frames.downlink; restart = d.frames.restart }

-- its entity has the numbers and the quota of the context
abbrev pub IsDown : Scope → DownSide → Type 0
IsDown a d = (d.sending.sn ≡ a.sn) × (d.sending.quota ≡ a.quota)

-- of these packets, those with one of these COUNTs
abbrev pub taken_of : List ℕ → List (ℕ × List ℕ) → List (ℕ × List ℕ)
taken_of counts es = filter (λ e. is_one_of counts e.0) es

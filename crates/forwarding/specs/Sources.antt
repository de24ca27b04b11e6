-- The end of a hop at its source (TS 38.300, 9.2.3.2.3): the hop of the procedure tables, with what the octets on it need.
use Rattle.std.specs.Prelude.{ℕ, Bool, true, false, List, Result, Ok, Err, if◌then◌else◌}
use Rattle.gnb_types.specs.declared.names.Dir.{Dir}
use Rattle.gnb_types.specs.declared.names.Dir.TheVariants.{Dl, Ul}
use Rattle.gnb_types.specs.declared.names.NodeId.{NodeId}
use Rattle.gnb_types.specs.declared.names.SnBits.{SnBits}
use Rattle.link_defs.specs.Layouts.{end_marker}
use Rattle.unit_defs.specs.CuUpRecords.{SourceHop}
use Rattle.forwarding.specs.declared.error.HopError.{HopError}
use Rattle.forwarding.specs.declared.error.HopError.TheVariants.{EndSeen}

-- the length of its numbers, whether the end of the downlink was put, and the hop
pub record SourceEnd : Type 0 where
  pub sn : SnBits
  pub down_ended : Bool
  pub hop : SourceHop

abbrev pub source_end : SnBits → Bool → SourceHop → SourceEnd
source_end sn down_ended hop = record { sn = sn; down_ended = down_ended; hop = hop }

abbrev pub source : NodeId → ℕ → ℕ → SnBits → SourceEnd
source peer down up sn = source_end sn false (record { peer = peer; down = down; up = up; up_ended = false })

-- ---- by direction

abbrev pub teid_of : SourceEnd → Dir → ℕ
teid_of s Dl = s.hop.down
teid_of s Ul = s.hop.up

abbrev pub has_ended : SourceEnd → Dir → Bool
has_ended s Dl = s.down_ended
has_ended s Ul = s.hop.up_ended

abbrev pub ended : SourceEnd → Dir → SourceEnd
ended s Dl = record s { down_ended = true }
ended s Ul = record s { hop = record s.hop { up_ended = true } }

-- the end of a direction is put once
abbrev pub end_of : SourceEnd → Dir → Result (List ℕ) HopError
end_of s dir = if has_ended s dir then Err EndSeen else Ok (end_marker (teid_of s dir))

-- A bearer of a CU-UP whose next COUNT and next NR-U number are at most one above the last ones that are given.
use Rattle.std.specs.Prelude.{ℕ, ◌+◌, ◌≤◌, Option, Some, None}
use Rattle.pdcp.specs.Near.{last_count}
use Rattle.unit_defs.specs.Ways.{Answer, gives, spent}
use Rattle.unit_defs.specs.CuUpRecords.{DownlinkTunnel, CuUpBearer}
use Rattle.unit_defs.specs.CuUpBearers.{last_frame}

abbrev pub IsNextFrame : Option DownlinkTunnel → Type 0
IsNextFrame None = Unit {0}
IsNextFrame (Some d) = d.next ≤ last_frame + 1

abbrev pub CountsInRange : CuUpBearer → Type 0
CountsInRange b = (b.sender.next ≤ last_count + 1) × IsNextFrame b.downlink

abbrev pub EndsInRange : {M P : Type 0} → Answer M P CuUpBearer → Type 0
EndsInRange (gives outputs b) = CountsInRange b
EndsInRange (spent counter) = Unit {0}

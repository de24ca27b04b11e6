-- Internal: where a decoder has come to, and how its turns end.
use Rattle.std.specs.Prelude.{◌≡◌, ℕ, ◌*◌, ◌==◌, ◌≤◌, List, [], map, reverse, length, Result, Ok, Err, if◌then◌else◌}
use Rattle.asn1_syntax.specs.declared.assignments.assignment.Syntax.{Syntax}
use Rattle.aper_defs.specs.declared.reason.Reason.TheVariants as reasons
use Rattle.aper_defs.specs.Trees.{Tree}
use Rattle.aper_defs.specs.Values as seen
use Rattle.aper_defs.specs.Asking.{asks_whole}
use Rattle.aper_defs.specs.Reading.{Cursor, Opened, Fault, at_first, run}
use Rattle.gnb_types.specs.declared.items.Memory.{Memory}
use Rattle.aper_cursor.specs.Spans.{span_view}
use Rattle.aper_frames.specs.declared.frame.Frame.{Frame}
use Rattle.aper_frames.specs.Frames.{path_of}
use Rattle.aper_values.specs.types.Types.{tree}
use Rattle.aper_values.specs.Views.{view}
use Rattle.aper_stream.specs.aper_resuming.Reading.{IsReading}
use Rattle.aper_stream.specs.declared.decoder.spot.Spot.{Spot}
use Rattle.aper_stream.specs.declared.steps.step.Next.{Next}
use Rattle.aper_stream.specs.declared.steps.step.Onward.{Onward}
use Rattle.aper_stream.specs.declared.steps.step.Onward.TheVariants as onwards
use Rattle.aper_stream.specs.declared.steps.step.Halted.{Halted}
use Rattle.aper_stream.specs.declared.steps.step.Halted.TheVariants as halts
use Rattle.aper_stream.specs.declared.decoder.turns.End.{End}
use Rattle.aper_stream.specs.declared.decoder.turns.End.TheVariants as ends
use Rattle.aper_stream.specs.declared.decoder.turns.Turned.{Turned}
use Rattle.aper_stream.specs.declared.decoder.turns.Turned.TheVariants as turneds
use Rattle.aper_stream.specs.steps.Steps.{next_left, IsNextLight, IsNextBounded}

abbrev pub cursor_at : Spot → List ℕ → Cursor
cursor_at spot octets = record { octets = octets; place = spot.place; opens = map span_view (reverse spot.spans.items) }

abbrev pub IsSpotInside : ℕ → Spot → Type 0
IsSpotInside size spot = (spot.place ≤ 1048576) × (spot.place ≤ 8 * size)

-- what the code needs of what comes next
pub record Stands (m : Syntax) (size : ℕ) (spot : Spot) (next : Next) (fs : List Frame) : Type 0 where
  pub inside : IsSpotInside size spot
  pub light : IsNextLight m next fs
  pub bounded : IsNextBounded spot.place next

abbrev pub IsReadingAt : Syntax → Tree → List ℕ → Spot → Next → List Frame → Type 0
IsReadingAt m t octets spot next fs = IsReading t octets (cursor_at spot octets) (next_left (tree m) next fs)

-- ---- how turns end
-- the value is found in the octets, up to a place
pub record IsFound (t : Tree) (octets : List ℕ) (v : seen.Value) (place : ℕ) : Type 0 where
  pub opens : List Opened
  pub is : run (asks_whole t) (at_first octets) ≡ Ok (v, record { octets = octets; place = place; opens = opens })

-- The value is there; or the octets are wrong, or end here, and this comes next where they end.
abbrev pub IsEnd : Syntax → Tree → List ℕ → Spot → List Frame → End → Type 0
IsEnd m t octets spot fs (ends.Whole v place) = IsFound t octets (view v) place
IsEnd m t octets spot fs (ends.Wrong bit reason back) =
    let fault : Fault = record { bit = bit; reason = reason; path = path_of fs } in
    (run (asks_whole t) (at_first octets) ≡ Err fault) × IsReadingAt m t octets spot back fs

abbrev pub StandsThen : Syntax → ℕ → Spot → List Frame → End → Type 0
StandsThen m size spot fs (ends.Whole v place) = place ≤ 8 * size
StandsThen m size spot fs (ends.Wrong bit reason back) = Stands m size spot back fs

-- ---- one turn
abbrev pub IsTurned : Syntax → Tree → List ℕ → Spot → List Frame → Turned → Type 0
IsTurned m t octets spot fs (turneds.Next next) = IsReadingAt m t octets spot next fs
IsTurned m t octets spot fs (turneds.End end) = IsEnd m t octets spot fs end

abbrev pub TurnedStands : Syntax → (octets : List ℕ) → Cursor → Spot → List Frame → Turned → Type 0
TurnedStands m octets c spot fs (turneds.Next next) = (c ≡ cursor_at spot octets) × Stands m (length octets) spot next fs
TurnedStands m octets c spot fs (turneds.End end) = StandsThen m (length octets) spot fs end

-- what a step leads to
abbrev pub IsKept : Cursor → Spot → Onward → Turned → Type 0
IsKept c spot (onwards.Next next) (turneds.Next other) =
    (other ≡ next) × (c ≡ cursor_at spot c.octets) × IsSpotInside (length c.octets) spot
IsKept c spot (onwards.Whole v) (turneds.End end) = (end ≡ ends.Whole v c.place) × (c.place ≤ 8 * length c.octets)
IsKept c spot (onwards.Next next) (turneds.End end) = ⊥
IsKept c spot (onwards.Whole v) (turneds.Next other) = ⊥

abbrev pub HaltsTurns : ℕ → Halted → Result Turned Memory → Type 0
HaltsTurns place (halts.Wrong reason back) (Ok turned) = turned ≡ turneds.End (ends.Wrong place reason back)
HaltsTurns place (halts.Wrong reason back) (Err e) = ⊥
HaltsTurns place halts.Memory (Ok turned) = ⊥
HaltsTurns place halts.Memory (Err e) = Unit {0}

-- ---- where no octets come any more
-- a value up to a place, which is all where the octets end there
abbrev pub alone : ℕ → seen.Value → ℕ → Result seen.Value Fault
alone size v place = if place == 8 * size then Ok v else Err (record { bit = place; reason = reasons.Tail; path = [] })

abbrev pub end_of : ℕ → List Frame → End → Result seen.Value Fault
end_of size fs (ends.Whole v place) = alone size (view v) place
end_of size fs (ends.Wrong bit reason back) = Err (record { bit = bit; reason = reason; path = path_of fs })

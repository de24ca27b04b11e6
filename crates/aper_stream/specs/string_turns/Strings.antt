-- What is left of a string, whatever octets come after those that are there.
use Rattle.std.specs.Prelude.{◌≡◌, ℕ, ◌+◌, ◌*◌, ◌<◌, ◌≤◌, List, [], ◌++◌, Option, Some, None, Result, Ok, Err}
use Rattle.aper_defs.specs.declared.reason.Reason.{Reason}
use Rattle.aper_defs.specs.Bounds.{IsSizeBounded}
use Rattle.aper_defs.specs.Fields.{Path, RunUnit, pad}
use Rattle.aper_defs.specs.Parts as parts
use Rattle.aper_defs.specs.Questions.{Prog, ask, take, ask_string, ask_sized, ask_units, ask_parts}
use Rattle.aper_defs.specs.Reading.{Cursor, run}
use Rattle.proof_aper.specs.pieces.Onto.{onto}
use Rattle.aper_cursor.specs.declared.error.Unanswered.{Unanswered}
use Rattle.aper_cursor.specs.declared.error.Unanswered.TheVariants.{Wrong, Memory}
use Rattle.aper_cursor.specs.asking.Going.{fault_at}
use Rattle.aper_cursor.specs.strings.Contents.{content_of}
use Rattle.aper_stream.specs.declared.string_turns.field.Parts.{Parts}
use Rattle.aper_stream.specs.declared.string_turns.field.StringField.{StringField}
use Rattle.aper_stream.specs.declared.string_turns.field.StringField.TheVariants as next
use Rattle.aper_stream.specs.declared.string_turns.string.StringLeft.{StringLeft}

-- ---- what is asked
abbrev pub parts_left : parts.Content → Parts → Path → (List ℕ → Prog) → Prog
parts_left content others p K = ask_parts p content others.outside others.turns others.before others.previous K

-- after units
abbrev pub with_parts : parts.Content → Option Parts → Path → (List ℕ → Prog) → List ℕ → Prog
with_parts content None p K units = K units
with_parts content (Some others) p K units = parts_left content others p (λ more. K (units ++ more))

abbrev pub field_left : parts.Content → StringField → Path → (List ℕ → Prog) → Prog
field_left content (next.All size) p K = ask_string p content size K
field_left content (next.Sized size) p K = ask_sized p content size K
field_left content (next.Padded count) p K = ask p pad (λ z. ask_units p content count K)
field_left content (next.Length others) p K = parts_left content others p K
field_left content (next.Units count others) p K = ask_units p content count (with_parts content others p K)
field_left content next.Nothing p K = K []

abbrev pub string_left : StringLeft → Path → (List ℕ → Prog) → Prog
string_left s p K = field_left (content_of s.content) s.field p (λ more. K (s.units.items ++ more))

-- units that stand in one run
abbrev pub IsRunOf : parts.Content → RunUnit → Type 0
IsRunOf content unit = (p : Path) (count : ℕ) (K : List ℕ → Prog) → ask_units p content count K ≡ take p unit count K

-- what is asked stays the same
abbrev pub IsSameField : parts.Content → StringField → StringField → Type 0
IsSameField content field other = (p : Path) (K : List ℕ → Prog) → field_left content field p K ≡ field_left content other p K

-- ---- turns
-- Over the same octets, whatever octets come after them, what is asked at the old place is asked as what is left then at the new one. Or
-- it is refused at the new place.
abbrev pub TakesField : parts.Content → StringField → Cursor → Cursor → Result StringField Reason → Type 0
TakesField content field old new (Ok other) = (new.octets ≡ old.octets) × ((more : List ℕ) (p : Path) (K : List ℕ → Prog)
    → run (field_left content field p K) (onto more old) ≡ run (field_left content other p K) (onto more new))
TakesField content field old new (Err reason) =
    (p : Path) (K : List ℕ → Prog) → run (field_left content field p K) old ≡ Err (fault_at new reason p)

-- the same of a string, which stays as it was where it is refused
abbrev pub TakesString : StringLeft → StringLeft → Cursor → Cursor → Result (Unit {0}) Unanswered → Type 0
TakesString before after old new (Ok done) = (new.octets ≡ old.octets) × ((more : List ℕ) (p : Path) (K : List ℕ → Prog)
    → run (string_left before p K) (onto more old) ≡ run (string_left after p K) (onto more new))
TakesString before after old new (Err (Wrong reason)) = ((p : Path) (K : List ℕ → Prog)
    → run (string_left before p K) old ≡ Err (fault_at new reason p)) × (after ≡ before)
TakesString before after old new (Err Memory) = Unit {0}

-- ---- bounds
-- Each part that came had 16,384 bits at least, and at most 65,536 units: so one more fits, where one is awaited.
abbrev pub IsPartsBounded : ℕ → Parts → Type 0
IsPartsBounded place others =
    (1064960 ≤ place + 16384 * others.turns) × (others.before + 65536 * others.turns ≤ 4259840)

abbrev pub AreOthersBounded : ℕ → Option Parts → Type 0
AreOthersBounded place None = Unit {0}
AreOthersBounded place (Some others) = IsPartsBounded place others

abbrev pub IsFieldBounded : ℕ → StringField → Type 0
IsFieldBounded place (next.All size) = IsSizeBounded size
IsFieldBounded place (next.Sized size) = IsSizeBounded (Some size)
IsFieldBounded place (next.Padded count) = count < 65536
IsFieldBounded place (next.Length others) = IsPartsBounded place others
IsFieldBounded place (next.Units count others) = (count ≤ 65536) × AreOthersBounded (place + count) others
IsFieldBounded place next.Nothing = Unit {0}

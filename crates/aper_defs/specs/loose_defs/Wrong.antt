-- The first field at which octets go wrong, by the loose layouts of a type.
use Rattle.std.specs.Prelude.{◌≡◌, ℕ, ◌≤◌, List, [], ◌∷◌, ◌++◌, length, Ok, Err}
use Rattle.aper_defs.specs.declared.reason.Reason.{Reason}
use Rattle.aper_defs.specs.Trees.{Tree}
use Rattle.aper_defs.specs.Values.{Value}
use Rattle.aper_defs.specs.Fields.{Path, Field, asked, run}
use Rattle.aper_defs.specs.Reading.{Cursor, Fault, at_first, read, read_units, after_field}
use Rattle.aper_defs.specs.Spelling.{Spells}
use Rattle.aper_defs.specs.loose_defs.Loose.{LooseWhole}

-- This field stands at a place, and no reason of the table applies to it: it passes no end, is no longer than it has to be, and an end
-- mark is at its end. (`read` is one row of the table: the reasons of one kind of field, in their order.)
abbrev pub Agrees : Field → Cursor → Type 0
Agrees (asked p question n) c = read question c ≡ Ok n
Agrees (run p unit units) c = read_units unit (length units) c ≡ Ok units

-- so do all of these, one after another, and this is the place after them
abbrev pub AllAgree : List Field → Cursor → Type 0
AllAgree [] c = Unit {0}
AllAgree (f ∷ fs) c = Agrees f c × AllAgree fs (after_field f c)

abbrev pub place_after : List Field → Cursor → Cursor
place_after [] c = c
place_after (f ∷ fs) c = place_after fs (after_field f c)

-- a field of this kind is wrong at a place, for the first reason that applies to what stands there, on the way to its value
abbrev pub IsWrongFor : Field → Cursor → Reason → Type 0
IsWrongFor (asked p question n) c reason = read question c ≡ Err reason
IsWrongFor (run p unit units) c reason = read_units unit (length units) c ≡ Err reason

abbrev pub way_of : Field → Path
way_of (asked p question n) = p
way_of (run p unit units) = p

-- two fields of one kind, on the way to one value: one question, or runs of as many units
abbrev pub AreOfKind : Field → Field → Type 0
AreOfKind (asked p question n) (asked p' question' n') = (p ≡ p') × (question ≡ question')
AreOfKind (run p unit units) (run p' unit' units') = (p ≡ p') × (unit ≡ unit') × (length units ≡ length units')
AreOfKind f g = ⊥

-- The octets spell no value; a loose layout of a value agrees with them on some fields, no loose layout of any value agrees on more of
-- its fields, and the next field is wrong.
pub record WrongAt (t : Tree) (octets : List ℕ) (fault : Fault) : Type 0 where
  pub no_value : (v : Value) → Spells t v octets → ⊥
  pub v : Value
  pub front : List Field
  pub next : Field
  pub others : List Field
  pub loose : LooseWhole t v (front ++ next ∷ others)
  pub agree : AllAgree front (at_first octets)
  pub most : (w : Value) (fs more : List Field) → LooseWhole t w (fs ++ more) → AllAgree fs (at_first octets) → length fs ≤ length front
  pub bit : fault.bit ≡ (place_after front (at_first octets)).place
  pub reason : IsWrongFor next (place_after front (at_first octets)) fault.reason
  pub path : fault.path ≡ way_of next

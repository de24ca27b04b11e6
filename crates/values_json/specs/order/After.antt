-- Internal: a name and the one before it.
use Rattle.std.specs.Prelude.{◌≡◌, Bool, true, false, Option, Some, None}
use Rattle.std.specs.Ordering.{nat_cmp, is_lt}
use Rattle.std.specs.Cmp.Lexicographic.{slice_cmp}
use Rattle.json_defs.specs.Members.{Text, dots}

abbrev pub IsAfter : Option Text → Text → Bool → Type 0
IsAfter None name b = b ≡ true
IsAfter (Some last) name b = b ≡ is_lt (slice_cmp nat_cmp last name)

-- the name that comes first where there are additions
abbrev pub first_name : Bool → Option Text
first_name true = Some dots
first_name false = None

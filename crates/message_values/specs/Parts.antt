-- Components by their numbers, and members.
use Rattle.std.specs.Prelude.{ℕ, zero, suc, List, Bool, Option, Some, None}
use Rattle.aper_defs.specs.Values.{Value, Values, Options, bits, components, list, no_values, no_options, absent, present}

abbrev pub option_at : ℕ → Options → Option Value
option_at n no_options = None
option_at zero (absent vs) = None
option_at zero (present v vs) = Some v
option_at (suc n) (absent vs) = option_at n vs
option_at (suc n) (present v vs) = option_at n vs

-- the component of a SEQUENCE, where it is there
abbrev pub part_at : ℕ → Value → Option Value
part_at n (components vs more) = option_at n vs
part_at n v = None

-- the members of a SEQUENCE OF
abbrev pub members_in : Value → Values
members_in (list vs) = vs
members_in v = no_values

-- a string of bits, where one is there
abbrev pub received_of : Option Value → Option (List Bool)
received_of (Some (bits bs)) = Some bs
received_of v = None

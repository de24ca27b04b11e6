-- The names that an object of a SEQUENCE has, as they come.
use Rattle.std.specs.Prelude.{◌≡◌, List, [], ◌∷◌, Bool, true, false, Option, Some, None}
use Rattle.std.specs.Ordering.{nat_cmp}
use Rattle.std.proofs.Common.{Less}
use Rattle.std.specs.Cmp.Lexicographic.{slice_cmp}
use Rattle.asn1_syntax.specs.declared.types.definition.Component.{Component}
use Rattle.aper_values.specs.declared.value.Value.{Value}
use Rattle.json_defs.specs.Members.{Text, dots}

-- the names of the components that are there
abbrev pub names_there : List Component → List (Option Value) → List Text
names_there [] vs = []
names_there (c ∷ components) [] = []
names_there (c ∷ components) (None ∷ vs) = names_there components vs
names_there (c ∷ components) (Some v ∷ vs) = c.name ∷ names_there components vs

-- those of the object, that of the additions first where there are some
abbrev pub object_names : Bool → List Component → List (Option Value) → List Text
object_names true components vs = dots ∷ names_there components vs
object_names false components vs = names_there components vs

-- the name is before the first of these
abbrev pub IsBeforeNext : Text → List Text → Type 0
IsBeforeNext name [] = Unit {0}
IsBeforeNext name (n ∷ names) = slice_cmp nat_cmp name n ≡ Less

-- each name is before the next, octet by octet
abbrev pub AreAscending : List Text → Type 0
AreAscending [] = Unit {0}
AreAscending (n ∷ names) = IsBeforeNext n names × AreAscending names

-- Types that encodings don't tell apart, and a type of a module that is such a one. OPTIONAL at an addition makes no difference: an addition
-- may be left out in any case (X.691, 19.6 to 19.9).
use Rattle.std.specs.Prelude.{◌≡◌, ◌<◌, [], length}
use Rattle.asn1_syntax.specs.declared.types.definition.TypeId.{TypeId}
use Rattle.asn1_syntax.specs.declared.assignments.assignment.Syntax.{Syntax}
use Rattle.aper_defs.specs.Trees.{Tree}
use Rattle.aper_defs.specs.Values.{Value}
use Rattle.aper_defs.specs.Layouts.{layout}
use Rattle.aper_defs.specs.Membership.{Has}
use Rattle.aper_defs.specs.Asking.{asks_whole}
use Rattle.aper_values.specs.types.Types.{tree}

-- They have the same values, a value is laid out alike, and the same is asked of octets.
pub record IsAlike (a b : Tree) : Type 0 where
  pub has : (v : Value) → Has [] a v → Has [] b v
  pub had : (v : Value) → Has [] b v → Has [] a v
  pub layouts : (v : Value) → layout [] a v ≡ layout [] b v
  pub questions : asks_whole a ≡ asks_whole b

-- the number of a type of the module, which encodings don't tell from this one
pub record IsTypeLike (m : Syntax) (t : Tree) (id : TypeId) : Type 0 where
  pub inside : id.number < length m.nodes
  pub alike : IsAlike (tree m id.number) t

-- A type of a module that is what the profile has.
use Rattle.std.specs.Prelude.{◌≡◌, ◌<◌, length}
use Rattle.asn1_syntax.specs.declared.types.definition.TypeId.{TypeId}
use Rattle.asn1_syntax.specs.declared.assignments.assignment.Syntax.{Syntax}
use Rattle.aper_defs.specs.Trees.{Tree}
use Rattle.aper_values.specs.types.Types.{tree}

-- the number of a type of the module, with this tree
pub record IsTypeOf (m : Syntax) (t : Tree) (id : TypeId) : Type 0 where
  pub inside : id.number < length m.nodes
  pub is : tree m id.number ≡ t

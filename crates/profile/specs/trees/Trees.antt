-- A type of the profile in a module, with its tree.
use Rattle.std.specs.Prelude.{◌≡◌, ◌<◌, length, Some}
use Rattle.asn1_syntax.specs.declared.types.definition.TypeId.{TypeId}
use Rattle.asn1_syntax.specs.declared.assignments.assignment.Syntax.{Syntax}
use Rattle.asn1_defs.specs.Targets.{find_type}
use Rattle.aper_values.specs.types.Types as modules
use Rattle.message_defs.specs.profile_defs.Forms.{Form, name_of, tree}

-- the form's name is that of a type of the module, whose tree is the form's
pub record HasTree (m : Syntax) (form : Form) : Type 0 where
  pub id : TypeId
  pub named : find_type (name_of form) m.assignments ≡ Some id
  pub inside : id.number < length m.nodes
  pub is : modules.tree m id.number ≡ tree form

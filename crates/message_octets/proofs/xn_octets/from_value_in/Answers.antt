use Rattle.std.proofs.Common.{[], subst}
use Rattle.asn1_syntax.specs.declared.assignments.assignment.Syntax.{Syntax}
use Rattle.aper_defs.specs.Membership.{Has}
use Rattle.aper_values.specs.types.Types.{tree}
use Rattle.aper_values.specs.Views.{view}
use Rattle.profile.specs.Versions.{number_of}
use Rattle.message_octets.proofs.xn_octets.from_value_in.Goals as goal

pub from_value-message-requires : goal.from_value-message-requires
from_value-message-requires c = (
  number_of c.args.profile.now.version,
  c.requires.alike.has (view c.in_ok-value.value)
      (subst (λ (m : Syntax). Has [] (tree m c.args.id.number) (view c.in_ok-value.value)) c.module-module.ensures.syntax
      c.in_ok-value.ensures.value.has),
)

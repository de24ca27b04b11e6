use Rattle.std.proofs.Common.{ap, ◌∙◌}
use Rattle.std.specs.Prelude.{is_some}
use Rattle.asn1_syntax.specs.assignments.inside.Module.{is_assigned}
use Rattle.asn1_syntax.proofs.assignments.Indexed.{assigned_by}
use Rattle.asn1_syntax.proofs.assignments.assigned.Assigned.is_assigned.Goals as goal

pub returns : goal.returns
returns c =
    c.is_some.ensures
    ∙ ap is_some c.number_of.ensures
    ∙ assigned_by c.self.inside.index c.self.inside.assignments c.args.name.now c.self.invariant.0
    ∙ ap (is_assigned c.args.name.now) c.self.view_is

use Rattle.std.proofs.Common.{◌∙◌}
use Rattle.aper_values.specs.types.Types.{tree}
use Rattle.aper_values.proofs.types.TreeLaws.{tree_is}
use Rattle.aper_values.proofs.types.Bounded.{tree_bounded}
use Rattle.aper_values.proofs.types.form.form_of.Goals as goal

pub returns-clause-tree : goal.returns-clause-tree
returns-clause-tree c =
    c.resolved-end.ensures.tree
    ∙ tree_is c.args.m.now c.resolved-end.result.number c.resolved-end.ensures.sound c.resolved-end.ensures.inside
    ∙ c.own_form.ensures.tree (tree c.args.m.now)

pub returns-clause-bounded : goal.returns-clause-bounded
returns-clause-bounded c = tree_bounded c.args.m.now c.args.id.number c.resolved-end.ensures.sound

use Rattle.std.proofs.Common.{sym, subst, ◌∙◌}
use Rattle.aper_defs.specs.Bounds.{IsBounded}
use Rattle.aper_values.specs.types.Types.{tree}
use Rattle.aper_decode.proofs.FormBounds.{form_bounded}
use Rattle.aper_decode.proofs.container.body_of.Goals as goal

pub returns-then-is_simple-clause-readable : goal.returns-then-is_simple-clause-readable
returns-then-is_simple-clause-readable c = (
  form_bounded (tree c.args.m.now) c.form_of-form.result (subst IsBounded c.form_of-form.ensures.tree c.form_of-form.ensures.bounded),
  sym c.is_simple.ensures ∙ c.if-is_simple.true,
)

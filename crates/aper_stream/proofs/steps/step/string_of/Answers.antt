use Rattle.std.proofs.Common.{subst}
use Rattle.aper_defs.specs.Bounds.{IsBounded}
use Rattle.aper_values.specs.types.Types.{tree}
use Rattle.aper_decode.proofs.FormBounds.{form_bounded}
use Rattle.aper_stream.proofs.steps.Strings.{string_read}
use Rattle.aper_stream.proofs.steps.step.string_of.Goals as goal

pub string_form-requires : goal.string_form-requires
string_form-requires c =
    form_bounded (tree c.args.m.now) c.form_of.result (subst IsBounded c.form_of.ensures.tree c.form_of.ensures.bounded)

pub returns-in-Read : goal.returns-in-Read
returns-in-Read c =
    string_read c.args.m.now c.args.pending.now c.in-Read.id c.form_of.result c.string_form.result c.in-Read.is c.form_of.ensures.tree
    c.string_form.ensures

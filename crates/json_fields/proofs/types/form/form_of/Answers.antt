use Rattle.std.proofs.Common.{◌∙◌}
use Rattle.json_defs.specs.type_defs.Types.{named}
use Rattle.proof_json.proofs.types.Unfolded.{named_is}
use Rattle.json_fields.proofs.types.form.form_of.Goals as goal

pub returns-clause-named : goal.returns-clause-named
returns-clause-named c =
    c.resolved-end.ensures.named
    ∙ named_is c.args.m.now c.resolved-end.result.number c.resolved-end.ensures.sound c.resolved-end.ensures.inside
    ∙ c.own_form.ensures.named (named c.args.m.now)

use Rattle.aper_values.specs.Views.{view}
use Rattle.values_json.proofs.Shown.{shown_has}
use Rattle.command_values.proofs.Answered.{encoded, unencoded}
use Rattle.command_values.proofs.answer.encoded.Goals as goal

pub spelled-requires-clause-member : goal.spelled-requires-clause-member
spelled-requires-clause-member c = shown_has c.args.m.now c.args.id.number c.args.line.now (view c.in-Ok.value) c.in-Ok.ensures.value

pub returns-in-Ok : goal.returns-in-Ok
returns-in-Ok c =
    encoded c.args.m.now c.args.id.number c.args.line.now (view c.in-Ok.value) _ c.in-Ok.ensures.value c.spelled.ensures

pub returns-in-Err : goal.returns-in-Err
returns-in-Err c =
    unencoded c.args.m.now c.args.id.number c.args.line.now c.in-Err.error _ c.in-Err.ensures.not_json c.in-Err.ensures.fault
    c.refused_json.ensures

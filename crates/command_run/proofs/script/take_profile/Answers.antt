use Rattle.std.proofs.lemmas.Result.{err_from_is_err_and}
use Rattle.command_run.proofs.Applied.{untaken, unlike, uncompared}
use Rattle.command_run.proofs.script.take_profile.Goals as goal

pub returns-in_err-take_module : goal.returns-in_err-take_module
returns-in_err-take_module g c =
    let p = err_from_is_err_and c.from_residual.result c.from_residual.ensures.1 in
    untaken _ _ _ _ p.1 p.2 c.in_err-take_module.ensures

pub returns-in-Err-Differs : goal.returns-in-Err-Differs
returns-in-Err-Differs g c =
    unlike _ c.in-Text.module _ c.in-Err-Differs.name c.in-Text.is c.in_ok-take_module.ensures c.in-Err-Differs.field-0-is
    c.in-Err-Differs.ensures

pub returns : goal.returns
returns g c = uncompared _ c.in-Text.module c.in-Text.is c.in_ok-take_module.ensures

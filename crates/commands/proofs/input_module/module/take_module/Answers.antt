use Rattle.std.proofs.Common.{Err, ap, ◌∙◌}
use Rattle.std.proofs.lemmas.Result.{err_from_is_err_and}
use Rattle.commands.proofs.input_module.Given.{text_taken, module_stops, module_given, profile_given}
use Rattle.commands.proofs.input_module.module.take_module.Goals as goal

pub returns-in_err-read_alone-in-Text : goal.returns-in_err-read_alone-in-Text
returns-in_err-read_alone-in-Text g c =
    let p = err_from_is_err_and c.from_residual-in_err-read_alone-in-Text.result c.from_residual-in_err-read_alone-in-Text.ensures.1 in
    module_stops (text_taken _ _ c.in-Text.is c.in_ok-version.ensures) _ _ c.read_so_far.ensures c.text-text.ensures _ _ (p.1 ∙ ap (λ e. Err e) p.2)
    c.in_err-read_alone-in-Text.ensures

pub returns-in_ok-read_alone-in-Text : goal.returns-in_ok-read_alone-in-Text
returns-in_ok-read_alone-in-Text g c =
    module_given (text_taken _ _ c.in-Text.is c.in_ok-version.ensures) _ _ c.read_so_far.ensures c.text-text.ensures _
    c.in_ok-read_alone-in-Text.ensures

pub returns-in-Builtin : goal.returns-in-Builtin
returns-in-Builtin g c = profile_given _ _ c.in-Builtin.version c.in-Builtin.is c.in_ok-version.ensures

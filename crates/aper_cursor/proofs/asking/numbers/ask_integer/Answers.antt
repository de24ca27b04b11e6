use Rattle.std.proofs.Common.{ℕ, ◌+◌, ◌-◌, ◌≡◌, ap, sym, ◌∙◌}
use Rattle.std.proofs.lemmas.Result.{err_from_is_err_and}
use Rattle.std.specs.Prelude.{true, false}
use Rattle.aper_defs.specs.Questions.{ask_integer, ask_integer_by}
use Rattle.aper_defs.specs.Reading.{run}
use Rattle.aper_cursor.proofs.asking.Onward.{extension_as, goes_after, integer_as}
use Rattle.aper_cursor.proofs.asking.numbers.ask_integer.Goals as goal

pub returns-in_err-is_extended : goal.returns-in_err-is_extended
returns-in_err-is_extended c =
    let p = err_from_is_err_and c.from_residual.result c.from_residual.ensures.1 in
    rw (p.1, p.2) (λ way K. ap (λ Q. run Q c.args.cursor.now) (integer_as way c.args.range.now.low c.args.range.now.high c.args.extensible K) ∙ (c.in_err-is_extended.ensures {u = tt}) way (ask_integer_by way c.args.range.now.low c.args.range.now.high K))

pub returns-then-is_extended : goal.returns-then-is_extended
returns-then-is_extended c =
    goes_after c.ask_signed.result (λ way K. ask_integer way c.args.range.now.low c.args.range.now.high c.args.extensible K)
    (λ way K. ask_integer_by way c.args.range.now.low c.args.range.now.high K true) c.args.cursor.now c.ask_extension.new.cursor c.ask_signed.new.cursor
    (λ way K. extension_as (ask_integer way c.args.range.now.low c.args.range.now.high c.args.extensible K) way c.args.extensible
    (ask_integer_by way c.args.range.now.low c.args.range.now.high K) c.args.cursor.now c.ask_extension.new.cursor
    c.in_ok-is_extended.is_extended true (integer_as way c.args.range.now.low c.args.range.now.high c.args.extensible K)
    (c.in_ok-is_extended.ensures {u = tt}) c.if-is_extended.true)
    c.ask_signed.ensures

pub returns : goal.returns
returns c =
    goes_after c.ask_inside.result (λ way K. ask_integer way c.args.range.now.low c.args.range.now.high c.args.extensible K)
    (λ way K. ask_integer_by way c.args.range.now.low c.args.range.now.high K false) c.args.cursor.now c.ask_extension.new.cursor c.ask_inside.new.cursor
    (λ way K. extension_as (ask_integer way c.args.range.now.low c.args.range.now.high c.args.extensible K) way c.args.extensible
    (ask_integer_by way c.args.range.now.low c.args.range.now.high K) c.args.cursor.now c.ask_extension.new.cursor
    c.in_ok-is_extended.is_extended false (integer_as way c.args.range.now.low c.args.range.now.high c.args.extensible K)
    (c.in_ok-is_extended.ensures {u = tt}) c.if-is_extended.false)
    c.ask_inside.ensures

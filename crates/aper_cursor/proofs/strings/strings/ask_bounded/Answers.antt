use Rattle.std.proofs.Common.{◌++◌, true, false, Some, ap, ◌∙◌}
use Rattle.std.proofs.lemmas.Result.{err_from_is_err_and}
use Rattle.aper_defs.specs.Questions.{ask_string, ask_string_by, ask_sized, ask_all_parts}
use Rattle.aper_defs.specs.Reading.{run}
use Rattle.aper_cursor.proofs.asking.Onward.{extension_as}
use Rattle.aper_cursor.specs.strings.Contents.{content_of}
use Rattle.aper_cursor.proofs.strings.Onward.{puts_after, string_as}
use Rattle.aper_cursor.proofs.strings.strings.ask_bounded.Goals as goal

pub returns-in_err-is_extended : goal.returns-in_err-is_extended
returns-in_err-is_extended c =
    let content = content_of c.args.content in
    let out = c.args.out.now.items in
    let p = err_from_is_err_and c.from_residual.result c.from_residual.ensures.1 in
    rw (p.1, p.2) (λ way K. ap (λ R. run R c.args.cursor.now) (string_as way content c.args.bounds (λ us. K (out ++ us)))
    ∙ (c.in_err-is_extended.ensures {u = tt}) way (ask_string_by way content c.args.bounds (λ us. K (out ++ us))))

pub returns-then-is_extended : goal.returns-then-is_extended
returns-then-is_extended c =
    let content = content_of c.args.content in
    let bounds = c.args.bounds in
    let out = c.args.out.now.items in
    puts_after (λ way. ask_string way content (Some bounds)) (λ way. ask_all_parts way content (Some bounds))
    c.args.cursor.now c.ask_extension.new.cursor c.ask_parts.new.cursor out out c.ask_parts.result c.ask_parts.new.out.items
    (λ way K. extension_as (ask_string way content (Some bounds) (λ us. K (out ++ us))) way bounds.extensible
    (ask_string_by way content bounds (λ us. K (out ++ us))) c.args.cursor.now c.ask_extension.new.cursor
    c.in_ok-is_extended.is_extended true (string_as way content bounds (λ us. K (out ++ us)))
    (c.in_ok-is_extended.ensures {u = tt}) c.if-is_extended.true)
    c.ask_parts.ensures

pub returns : goal.returns
returns c =
    let content = content_of c.args.content in
    let bounds = c.args.bounds in
    let out = c.args.out.now.items in
    puts_after (λ way. ask_string way content (Some bounds)) (λ way. ask_sized way content bounds)
    c.args.cursor.now c.ask_extension.new.cursor c.ask_sized.new.cursor out out c.ask_sized.result c.ask_sized.new.out.items
    (λ way K. extension_as (ask_string way content (Some bounds) (λ us. K (out ++ us))) way bounds.extensible
    (ask_string_by way content bounds (λ us. K (out ++ us))) c.args.cursor.now c.ask_extension.new.cursor
    c.in_ok-is_extended.is_extended false (string_as way content bounds (λ us. K (out ++ us)))
    (c.in_ok-is_extended.ensures {u = tt}) c.if-is_extended.false)
    c.ask_sized.ensures

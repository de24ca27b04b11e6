use Rattle.std.proofs.Common.{true, false, Some, ap, refl, ◌∙◌}
use Rattle.std.proofs.lemmas.Result.{err_from_is_err_and}
use Rattle.aper_defs.specs.Questions.{ask_string_by}
use Rattle.aper_cursor.specs.strings.Contents.{content_of}
use Rattle.aper_stream.specs.declared.string_turns.field.StringField.TheVariants as next
use Rattle.aper_stream.proofs.string_turns.Turns.{all_parts_as, extension_on, extension_wrong}
use Rattle.aper_stream.proofs.string_turns.field.after_extension.Goals as goal

pub returns-in_err-is_extended-clause-asked : goal.returns-in_err-is_extended-clause-asked
returns-in_err-is_extended-clause-asked c =
    let p = err_from_is_err_and c.from_residual.result c.from_residual.ensures.1 in
    rw (p.1, p.2) (extension_wrong (content_of c.args.content) c.args.size c.args.cursor.now c.ask_extension.new.cursor
    c.in_err-is_extended.field-0.0 (c.in_err-is_extended.ensures {u = tt}))

pub returns-then-is_extended-clause-asked : goal.returns-then-is_extended-clause-asked
returns-then-is_extended-clause-asked c =
    let content = content_of c.args.content in
    extension_on content c.args.size c.args.cursor.now c.ask_extension.new.cursor c.in_ok-is_extended.is_extended
    (next.Length c.all_parts.result) (c.in_ok-is_extended.ensures {u = tt})
    (λ p K. ap (ask_string_by p content c.args.size K) c.if-is_extended.true
    ∙ all_parts_as content (Some c.args.size) c.all_parts.result c.all_parts.ensures p K)

pub returns-else-is_extended-clause-asked : goal.returns-else-is_extended-clause-asked
returns-else-is_extended-clause-asked c =
    let content = content_of c.args.content in
    extension_on content c.args.size c.args.cursor.now c.ask_extension.new.cursor c.in_ok-is_extended.is_extended
    (next.Sized c.args.size) (c.in_ok-is_extended.ensures {u = tt})
    (λ p K. ap (ask_string_by p content c.args.size K) c.if-is_extended.false)

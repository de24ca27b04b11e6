use Rattle.std.proofs.Common.{ℕ, ◌+◌, ◌-◌, ◌≡◌, ap, sym, ◌∙◌}
use Rattle.std.proofs.lemmas.Result.{err_from_is_err_and}
use Rattle.std.specs.Prelude.{true, false, Some}
use Rattle.aper_defs.specs.Fields.{length}
use Rattle.aper_defs.specs.Questions.{ask_number, ask_count, ask_count_by}
use Rattle.aper_defs.specs.Reading.{run}
use Rattle.aper_cursor.proofs.asking.Onward.{extension_as, count_as}
use Rattle.aper_cursor.proofs.asking.lengths.ask_bounded.Goals as goal

pub returns-in_err-is_extended-clause-asked : goal.returns-in_err-is_extended-clause-asked
returns-in_err-is_extended-clause-asked c =
    let p = err_from_is_err_and c.from_residual.result c.from_residual.ensures.1 in
    rw (p.1, p.2) (λ way K. ap (λ Q. run Q c.args.cursor.now) (count_as way c.args.bounds K) ∙ (c.in_err-is_extended.ensures {u = tt}) way (ask_count_by way c.args.bounds K))

pub returns-in_err-outside-clause-asked : goal.returns-in_err-outside-clause-asked
returns-in_err-outside-clause-asked c =
    let p = err_from_is_err_and c.from_residual-in_err-outside.result c.from_residual-in_err-outside.ensures.1 in
    rw (p.1, p.2) (λ way K. extension_as (ask_count way (Some c.args.bounds) K) way c.args.bounds.extensible (ask_count_by way c.args.bounds K) c.args.cursor.now c.ask_extension.new.cursor
    c.in_ok-is_extended.is_extended true (count_as way c.args.bounds K) (c.in_ok-is_extended.ensures {u = tt}) c.if-is_extended.true
    ∙ (c.in_err-outside.ensures {u = tt}).asked way K)

pub returns-then-is_extended-clause-asked : goal.returns-then-is_extended-clause-asked
returns-then-is_extended-clause-asked c = λ way K. extension_as (ask_count way (Some c.args.bounds) K) way c.args.bounds.extensible (ask_count_by way c.args.bounds K) c.args.cursor.now c.ask_extension.new.cursor
    c.in_ok-is_extended.is_extended true (count_as way c.args.bounds K) (c.in_ok-is_extended.ensures {u = tt}) c.if-is_extended.true
    ∙ (c.in_ok-outside.ensures {u = tt}).asked way K

pub returns-in_err-further-clause-asked : goal.returns-in_err-further-clause-asked
returns-in_err-further-clause-asked c =
    let p = err_from_is_err_and c.from_residual-in_err-further.result c.from_residual-in_err-further.ensures.1 in
    rw (p.1, p.2) (λ way K. extension_as (ask_count way (Some c.args.bounds) K) way c.args.bounds.extensible (ask_count_by way c.args.bounds K) c.args.cursor.now c.ask_extension.new.cursor
    c.in_ok-is_extended.is_extended false (count_as way c.args.bounds K) (c.in_ok-is_extended.ensures {u = tt}) c.if-is_extended.false
    ∙ ap (λ (k : ℕ). run (ask_number way length k (λ n. K (c.args.bounds.low + n))) c.ask_extension.new.cursor) (sym c.from-span.ensures)
    ∙ (c.in_err-further.ensures {u = tt}).asked way (λ n. K (c.args.bounds.low + n)))

pub returns-clause-asked : goal.returns-clause-asked
returns-clause-asked c = λ way K. extension_as (ask_count way (Some c.args.bounds) K) way c.args.bounds.extensible (ask_count_by way c.args.bounds K) c.args.cursor.now c.ask_extension.new.cursor
    c.in_ok-is_extended.is_extended false (count_as way c.args.bounds K) (c.in_ok-is_extended.ensures {u = tt}) c.if-is_extended.false
    ∙ ap (λ (k : ℕ). run (ask_number way length k (λ n. K (c.args.bounds.low + n))) c.ask_extension.new.cursor) (sym c.from-span.ensures)
    ∙ (c.in_ok-further.ensures {u = tt}).asked way (λ n. K (c.args.bounds.low + n))
    ∙ ap (λ (k : ℕ). run (K (k + c.in_ok-further.further)) c.ask_number.new.cursor) (sym c.from.ensures)

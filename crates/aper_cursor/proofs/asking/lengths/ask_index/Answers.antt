use Rattle.std.proofs.Common.{ℕ, ◌+◌, ◌-◌, ◌≡◌, ap, sym, ◌∙◌}
use Rattle.std.proofs.lemmas.Result.{err_from_is_err_and}
use Rattle.std.specs.Prelude.{true, false}
use Rattle.aper_defs.specs.Questions.{ask_index, ask_index_by}
use Rattle.aper_defs.specs.Reading.{run}
use Rattle.aper_cursor.proofs.asking.Onward.{extension_as, index_as}
use Rattle.aper_cursor.proofs.asking.lengths.ask_index.Goals as goal

pub returns-in_err-is_extended-clause-asked : goal.returns-in_err-is_extended-clause-asked
returns-in_err-is_extended-clause-asked c =
    let p = err_from_is_err_and c.from_residual.result c.from_residual.ensures.1 in
    rw (p.1, p.2) (λ way K. ap (λ Q. run Q c.args.cursor.now) (index_as way c.args.count c.args.extensible K)
    ∙ (c.in_err-is_extended.ensures {u = tt}) way (ask_index_by way c.args.count K))

pub returns-in_err-further-clause-asked : goal.returns-in_err-further-clause-asked
returns-in_err-further-clause-asked c =
    let p = err_from_is_err_and c.from_residual-in_err-further.result c.from_residual-in_err-further.ensures.1 in
    rw (p.1, p.2) (λ way K. extension_as (ask_index way c.args.count c.args.extensible K) way c.args.extensible (ask_index_by way c.args.count K) c.args.cursor.now c.ask_extension.new.cursor
    c.in_ok-is_extended.is_extended true (index_as way c.args.count c.args.extensible K) (c.in_ok-is_extended.ensures {u = tt}) c.if-is_extended.true
    ∙ (c.in_err-further.ensures {u = tt}).asked way (λ n. K (c.args.count + n)))

pub returns-then-is_extended-clause-asked : goal.returns-then-is_extended-clause-asked
returns-then-is_extended-clause-asked c = λ way K. extension_as (ask_index way c.args.count c.args.extensible K) way c.args.extensible (ask_index_by way c.args.count K) c.args.cursor.now c.ask_extension.new.cursor
    c.in_ok-is_extended.is_extended true (index_as way c.args.count c.args.extensible K) (c.in_ok-is_extended.ensures {u = tt}) c.if-is_extended.true
    ∙ (c.in_ok-further.ensures {u = tt}).asked way (λ n. K (c.args.count + n))

pub returns-in_err-index-clause-asked : goal.returns-in_err-index-clause-asked
returns-in_err-index-clause-asked c =
    let p = err_from_is_err_and c.from_residual-in_err-index.result c.from_residual-in_err-index.ensures.1 in
    rw (p.1, p.2) (λ way K. extension_as (ask_index way c.args.count c.args.extensible K) way c.args.extensible (ask_index_by way c.args.count K) c.args.cursor.now c.ask_extension.new.cursor
    c.in_ok-is_extended.is_extended false (index_as way c.args.count c.args.extensible K) (c.in_ok-is_extended.ensures {u = tt}) c.if-is_extended.false
    ∙ (c.in_err-index.ensures {u = tt}).asked way K)

pub returns-clause-asked : goal.returns-clause-asked
returns-clause-asked c = λ way K. extension_as (ask_index way c.args.count c.args.extensible K) way c.args.extensible (ask_index_by way c.args.count K) c.args.cursor.now c.ask_extension.new.cursor
    c.in_ok-is_extended.is_extended false (index_as way c.args.count c.args.extensible K) (c.in_ok-is_extended.ensures {u = tt}) c.if-is_extended.false
    ∙ (c.in_ok-index.ensures {u = tt}).asked way K

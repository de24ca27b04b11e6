use Rattle.std.proofs.Common.{List, ℕ, ◌++◌, sym, ap, ◌∙◌}
use Rattle.std.proofs.lemmas.Result.{err_from_is_err_and}
use Rattle.aper_defs.specs.Questions.{ask_string}
use Rattle.aper_defs.specs.Reading.{run}
use Rattle.aper_cursor.specs.strings.Contents.{content_of}
use Rattle.aper_cursor.proofs.strings.Onward.{refused_first}
use Rattle.aper_cursor.proofs.strings.strings.ask_string.Goals as goal

pub returns-in_err-ask_into : goal.returns-in_err-ask_into
returns-in_err-ask_into c =
    let p = err_from_is_err_and c.from_residual.result c.from_residual.ensures.1 in
    rw (p.1, p.2) (refused_first (λ way. ask_string way (content_of c.args.content) c.args.size) c.args.cursor.now c.ask_into.new.cursor
    c.in_err-ask_into.field-0.0 c.new-units.result.items c.ask_into.new.out.items c.new-units.ensures.items
    (c.in_err-ask_into.ensures {u = tt}))

pub returns : goal.returns
returns c = λ way K.
    sym (ap (λ (os : List ℕ). run (ask_string way (content_of c.args.content) c.args.size (λ us. K (os ++ us))) c.args.cursor.now)
    c.new-units.ensures.items)
    ∙ (c.in_ok-ask_into.ensures {u = tt}) way K
    ∙ ap (λ (os : List ℕ). run (K os) c.ask_into.new.cursor) (sym c.from_vec.ensures)

use Rattle.std.proofs.Common.{List, ℕ, ◌++◌, sym, ap, ◌∙◌}
use Rattle.std.proofs.lemmas.Result.{err_from_is_err_and}
use Rattle.aper_defs.specs.Fields.{octet}
use Rattle.aper_defs.specs.Questions.{take}
use Rattle.aper_defs.specs.Reading.{run}
use Rattle.aper_frames.proofs.heads.RawTurns.{refused_first}
use Rattle.aper_frames.proofs.heads.raw.ask_octets.Goals as goal

pub returns-in_err-ask_run : goal.returns-in_err-ask_run
returns-in_err-ask_run c =
    let p = err_from_is_err_and c.from_residual.result c.from_residual.ensures.1 in
    rw (p.1, p.2) (refused_first (λ way. take way octet c.args.count) c.args.cursor.now c.ask_run.new.cursor
    c.in_err-ask_run.field-0.0 c.new-octets.result.items c.ask_run.new.out.items c.new-octets.ensures.items
    (c.in_err-ask_run.ensures {u = tt}).asked)

pub returns : goal.returns
returns c = λ way K.
    sym (ap (λ (os : List ℕ). run (take way octet c.args.count (λ us. K (os ++ us))) c.args.cursor.now) c.new-octets.ensures.items)
    ∙ (c.in_ok-ask_run.ensures {u = tt}).asked way K
    ∙ ap (λ (os : List ℕ). run (K os) c.ask_run.new.cursor) (sym c.from_vec.ensures)

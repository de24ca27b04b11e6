use Rattle.std.proofs.lemmas.Result.{err_from_is_err_and}
use Rattle.aper_cursor.specs.Questions.{unit_of}
use Rattle.aper_cursor.proofs.asking.Onward.{run_on, run_refused, run_limit}
use Rattle.aper_cursor.proofs.asking.steps.ask_run.Goals as goal

pub returns-in_err-run-clause-asked : goal.returns-in_err-run-clause-asked
returns-in_err-run-clause-asked c =
    let p = err_from_is_err_and c.from_residual.result c.from_residual.ensures.1 in
    rw (p.1, p.2) (
    run_refused (unit_of c.args.unit) c.args.count c.args.cursor.now c.run.new.self c.args.out.now.items c.run.new.out.items
    c.in_err-run.field-0.0 (c.in_err-run.ensures {u = tt})
    )

pub returns-clause-asked : goal.returns-clause-asked
returns-clause-asked c =
    run_on (unit_of c.args.unit) c.args.count c.args.cursor.now c.run.new.self c.args.out.now.items c.run.new.out.items
    (c.in_ok-run.ensures {u = tt})

pub returns-clause-limit : goal.returns-clause-limit
returns-clause-limit c =
    run_limit (unit_of c.args.unit) c.args.count c.args.cursor.now c.run.new.self c.args.out.now.items c.run.new.out.items
    (c.in_ok-run.ensures {u = tt})

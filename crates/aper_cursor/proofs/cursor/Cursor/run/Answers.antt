use Rattle.std.proofs.Common.{refl, sym, ◌∙◌}
use Rattle.aper_cursor.specs.Questions.{unit_of}
use Rattle.aper_cursor.proofs.Runs.{run_wrong, run_taken}
use Rattle.aper_cursor.proofs.cursor.Cursor.run.Goals as goal

pub returns-in-Some : goal.returns-in-Some
returns-in-Some c = (
  run_wrong (unit_of c.args.unit) c.args.count c.args.self.now c.width-width.result c.in-Some.reason c.width-width.ensures.width
      (sym c.in-Some.is ∙ c.pass.ensures),
  refl,
)

pub returns : goal.returns
returns c =
    run_taken (unit_of c.args.unit) c.args.count c.args.self.now c.go.new.self c.args.out.now.items c.put_run.new.out.items c.width-width.result
    c.width-width.ensures.width (sym c.pass.ensures ∙ c.in_default.is) (c.in_ok-put_run.ensures {u = tt}) c.go.ensures

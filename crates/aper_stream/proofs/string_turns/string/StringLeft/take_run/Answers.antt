use Rattle.std.proofs.Common.{◌≡◌, List, refl, ℕ, ◌++◌, sym, ap, ◌∙◌, arith}
use Rattle.std.proofs.lemmas.Result.{err_from_is_err_and}
use Rattle.aper_defs.specs.Questions.{take}
use Rattle.aper_defs.specs.Reading.{run}
use Rattle.aper_cursor.specs.Questions.{unit_of}
use Rattle.aper_stream.specs.declared.string_turns.string.StringLeft.{StringLeft}
use Rattle.aper_stream.proofs.string_turns.Turns.{run_on, run_refused, after_bounded}
use Rattle.aper_stream.proofs.string_turns.string.StringLeft.take_run.Goals as goal

pub returns-in_err-ask_run-clause-asked : goal.returns-in_err-ask_run-clause-asked
returns-in_err-ask_run-clause-asked c =
    let p = err_from_is_err_and c.from_residual.result c.from_residual.ensures.1 in
    rw (p.1, p.2) (run_refused c.args.self.now c.args.count c.args.others c.requires.units c.args.cursor.now c.ask_run.new.cursor
    (unit_of c.args.unit) c.requires.kind c.in_err-ask_run.field-0.0 c.new-run.result.items c.ask_run.new.out.items c.new-run.ensures.items
    (c.in_err-ask_run.ensures {u = tt}).asked)

pub returns-clause-asked : goal.returns-clause-asked
returns-clause-asked c =
    let s = c.args.self.now in
    let new : List ℕ = c.new-run.result.items in
    let us : List ℕ = c.ask_run.new.out.items in
    let put : c.extend_from_slice.new.self.items ≡ s.units.items ++ c.as_slice.result.now = (c.in_ok-extend_from_slice.ensures {u = tt}).items in
    let asked = (c.in_ok-ask_run.ensures {u = tt}).asked in
    let t : StringLeft = record { content = s.content; units = c.extend_from_slice.new.self; field = c.after_units-self.result } in
    run_on s c.args.count c.args.others c.requires.units c.args.cursor.now c.ask_run.new.cursor (unit_of c.args.unit) c.requires.kind us t
    (λ p K. sym (ap (λ (os : List ℕ). run (take p (unit_of c.args.unit) c.args.count (λ xs. K (os ++ xs))) c.args.cursor.now)
    c.new-run.ensures.items) ∙ asked p K)
    refl (put ∙ ap (λ (os : List ℕ). s.units.items ++ os) c.as_slice.ensures.value) c.after_units-self.ensures.asked

pub returns-clause-bounded : goal.returns-clause-bounded
returns-clause-bounded c =
    after_bounded c.args.cursor.now.place c.ask_run.new.cursor.place c.args.count c.args.others c.args.self.now.field c.requires.units
    c.requires.bounded c.after_units-self.result (c.in_ok-ask_run.ensures {u = tt}).on c.after_units-self.ensures.bounded

use Rattle.std.proofs.Common.{◌≡◌, ◌==◌, refl, sym, ap, ◌∙◌}
use Rattle.std.proofs.lemmas.Result.{err_from_is_err_and}
use Rattle.aper_defs.specs.Trees.{boolean}
use Rattle.aper_defs.specs.Values as seen
use Rattle.aper_defs.specs.Fields.{Path, flag}
use Rattle.aper_defs.specs.Questions.{Prog, ask}
use Rattle.aper_defs.specs.Asking.{asks}
use Rattle.aper_defs.specs.Reading.{run}
use Rattle.aper_frames.proofs.simple.simple.read_boolean.Goals as goal

asked_as : (p : Path) (K : seen.Value → Prog) → asks p boolean K ≡ ask p flag (λ b. K (seen.truth (b == 1)))
unfolding asks
asked_as p K = refl

pub returns-in_err-bit : goal.returns-in_err-bit
returns-in_err-bit c =
    let p = err_from_is_err_and c.from_residual.result c.from_residual.ensures.1 in
    rw (p.1, p.2) (λ p K. ap (λ P. run P c.args.cursor.now) (asked_as p K) ∙ c.in_err-bit.ensures {u = tt} p (λ b. K (seen.truth b)))

pub returns : goal.returns
returns c = λ p K.
    ap (λ P. run P c.args.cursor.now) (asked_as p K)
    ∙ c.in_ok-bit.ensures {u = tt} p (λ b. K (seen.truth b))
    ∙ ap (λ w. run (K w) c.ask_flag.new.cursor) (sym c.truth.ensures)

use Rattle.std.proofs.Common.{true, false, refl, sym, ◌∙◌}
use Rattle.cu_up_contexts.proofs.contexts.AnyCodec.{any_codec}
use Rattle.cu_up_contexts.proofs.contexts.Placings.{room_is}
use Rattle.cu_up_contexts.proofs.contexts.contexts.Contexts.place_static.Goals as goal

pub returns-then-not-fits : goal.returns-then-not-fits
returns-then-not-fits c = λ r gnb_is. (room_is r c.args.self.now c.args.plan false (sym c.if-not-fits.true ∙ c.fits.ensures any_codec r), refl)

pub returns-in-Ok : goal.returns-in-Ok
returns-in-Ok c = λ r gnb_is.
    (room_is r c.args.self.now c.args.plan true (sym c.if-not-fits.false ∙ c.fits.ensures any_codec r), c.in-Ok.ensures r gnb_is)

pub returns-in-Err : goal.returns-in-Err
returns-in-Err c = λ r gnb_is.
    (room_is r c.args.self.now c.args.plan true (sym c.if-not-fits.false ∙ c.fits.ensures any_codec r), c.in-Err.ensures r gnb_is)

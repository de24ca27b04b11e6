use Rattle.std.proofs.Common.{length, ap, subst, arith}
use Rattle.aper_defs.specs.Bounds.{IsBounded}
use Rattle.aper_values.specs.types.Types.{tree}
use Rattle.aper_frames.specs.Weights.{turn_weight, frame_weight, frames_weight}
use Rattle.aper_decode.specs.Heavy.{weighed}
use Rattle.aper_decode.specs.Turns.{IsTurnInside}
use Rattle.aper_decode.proofs.InPlace.{module_less}
use Rattle.aper_decode.proofs.FormBounds.{form_bounded}
use Rattle.aper_decode.proofs.Turns.{form_of_module, begun_lighter}
use Rattle.aper_decode.proofs.decoder.take_turn.Goals as goal

pub begin-requires-clause-inside : goal.begin-requires-clause-inside
begin-requires-clause-inside c =
    form_of_module c.args.m.now c.in-Read.id.number c.form_of.result
    (subst (IsTurnInside (length c.args.m.now.nodes)) c.in-Read.is c.requires.turn) c.form_of.ensures.tree c.form_of.ensures.inside

pub begin-requires-clause-bounded : goal.begin-requires-clause-bounded
begin-requires-clause-bounded c =
    form_bounded (tree c.args.m.now) c.form_of.result (subst IsBounded c.form_of.ensures.tree c.form_of.ensures.bounded)

pub returns-in_ok-begin-in-Read-clause-lighter : goal.returns-in_ok-begin-in-Read-clause-lighter
returns-in_ok-begin-in-Read-clause-lighter c = λ other. omega (
  arith,
  ap (turn_weight (weighed c.args.m.now other)) c.in-Read.is,
  begun_lighter c.args.m.now c.in-Read.id c.form_of.result c.form_of.ensures.tree c.in_ok-begin-in-Read.field-0 c.args.frames.now c.begin.new.frames
      (subst (IsTurnInside (length c.args.m.now.nodes)) c.in-Read.is c.requires.turn) c.form_of.ensures.inside
      (c.in_ok-begin-in-Read.ensures {u = tt}).lighter other,
)

pub go_on-requires : goal.go_on-requires
go_on-requires c =
    module_less c.args.m.now (λ w. frames_weight w c.args.frames.now) (λ w. frame_weight w c.in-Some.frame) c.requires.frames
    (λ w. omega (arith, ap (frames_weight w) c.in-Some.ensures))

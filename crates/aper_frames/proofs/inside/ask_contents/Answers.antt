use Rattle.std.proofs.Common.{◌+◌, ap, arith}
use Rattle.aper_frames.specs.Frames.{asked_inside, asked_unknown, asked_contents}
use Rattle.aper_frames.specs.Weights.{contents_weight, frame_weight, frames_weight}
use Rattle.aper_frames.proofs.Onward.{steps_as}
use Rattle.aper_frames.proofs.Lighter.{lighter_than}
use Rattle.aper_frames.proofs.inside.ask_contents.Goals as goal

pub returns-in-None : goal.returns-in-None
returns-in-None c = record {
  asked = steps_as c.ask_unknown.result (λ of. asked_contents of c.args.frame c.args.known c.args.frames.now)
      (λ of. asked_unknown of c.args.frame c.args.frames.now) c.args.cursor.now c.ask_unknown.new.cursor c.ask_unknown.new.frames
      (λ of. ap (λ x. asked_contents of c.args.frame x c.args.frames.now) c.in-None.is) c.ask_unknown.ensures.asked;
  lighter = lighter_than c.ask_unknown.result c.ask_unknown.new.frames _
      (λ w. contents_weight w c.args.known + frame_weight w c.args.frame + frames_weight w c.args.frames.now)
      (λ w. omega (arith, ap (contents_weight w) c.in-None.is)) c.ask_unknown.ensures.lighter;
}

pub returns-in-Some : goal.returns-in-Some
returns-in-Some c = record {
  asked = steps_as c.ask_inside.result (λ of. asked_contents of c.args.frame c.args.known c.args.frames.now)
      (λ of. asked_inside of c.args.frame c.in-Some.id c.args.frames.now) c.args.cursor.now c.ask_inside.new.cursor c.ask_inside.new.frames
      (λ of. ap (λ x. asked_contents of c.args.frame x c.args.frames.now) c.in-Some.is) c.ask_inside.ensures.asked;
  lighter = lighter_than c.ask_inside.result c.ask_inside.new.frames _
      (λ w. contents_weight w c.args.known + frame_weight w c.args.frame + frames_weight w c.args.frames.now)
      (λ w. omega (arith, ap (contents_weight w) c.in-Some.is)) c.ask_inside.ensures.lighter;
}

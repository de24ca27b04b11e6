use Rattle.std.proofs.Common.{ℕ, ◌+◌, ◌∷◌, List, sym, ap, ◌∙◌, arith}
use Rattle.std.specs.Prelude.{None, Some, option_copied}
use Rattle.aper_defs.specs.Values as seen
use Rattle.aper_defs.specs.Fields as fields
use Rattle.aper_defs.specs.Questions.{ask_open}
use Rattle.aper_defs.specs.Asking.{asks}
use Rattle.aper_frames.specs.declared.frame.Frame.TheVariants as frames
use Rattle.aper_frames.specs.Frames.{path_of, next_of, asked_unknown, asked_inside}
use Rattle.aper_frames.specs.Weights.{part_weight, contents_weight, frame_weight, frames_weight}
use Rattle.aper_frames.proofs.Onward.{steps_as}
use Rattle.aper_frames.proofs.Lighter.{lighter_than}
use Rattle.aper_frames.specs.aper_elements.Added.{asked_added}
use Rattle.aper_frames.proofs.aper_elements.choice.begin_added.Goals as goal

pub returns-in-None : goal.returns-in-None
returns-in-None c = record {
  asked = steps_as c.ask_unknown.result
      (λ of. asked_added of (path_of c.args.frames.now) (λ v. next_of of c.args.frames.now (seen.chosen c.args.index v)) (option_copied c.args.added))
      (λ of. asked_unknown of (frames.Alternative (record { name = None; index = c.args.index })) c.args.frames.now)
      c.args.cursor.now c.ask_unknown.new.cursor c.ask_unknown.new.frames
      (λ of. ap (λ x. asked_added of (path_of c.args.frames.now) (λ v. next_of of c.args.frames.now (seen.chosen c.args.index v)) (option_copied x)) c.in-None.is)
      c.ask_unknown.ensures.asked;
  lighter = lighter_than c.ask_unknown.result c.ask_unknown.new.frames
      (λ w. contents_weight w None + frame_weight w (frames.Alternative (record { name = None; index = c.args.index })) + frames_weight w c.args.frames.now)
      (λ w. part_weight w (option_copied c.args.added) + 3 + frames_weight w c.args.frames.now)
      (λ w. omega arith) c.ask_unknown.ensures.lighter;
}

pub returns-in-Some : goal.returns-in-Some
returns-in-Some c = record {
  asked = steps_as c.ask_inside.result
      (λ of. asked_added of (path_of c.args.frames.now) (λ v. next_of of c.args.frames.now (seen.chosen c.args.index v)) (option_copied c.args.added))
      (λ of. asked_inside of (frames.Alternative (record { name = Some c.as_slice.result; index = c.args.index })) c.in-Some.alternative.now.definition c.args.frames.now)
      c.args.cursor.now c.ask_inside.new.cursor c.ask_inside.new.frames
      (λ of. ap (λ x. asked_added of (path_of c.args.frames.now) (λ v. next_of of c.args.frames.now (seen.chosen c.args.index v)) (option_copied x)) c.in-Some.is
      ∙ ap (λ (name : List ℕ). ask_open (path_of c.args.frames.now) (fields.component name ∷ path_of c.args.frames.now)
      (asks (fields.component name ∷ path_of c.args.frames.now) (of c.in-Some.alternative.now.definition.number))
      (λ v. next_of of c.args.frames.now (seen.chosen c.args.index v))) (sym c.as_slice.ensures))
      c.ask_inside.ensures.asked;
  lighter = lighter_than c.ask_inside.result c.ask_inside.new.frames
      (λ w. contents_weight w (Some c.in-Some.alternative.now.definition)
      + frame_weight w (frames.Alternative (record { name = Some c.as_slice.result; index = c.args.index })) + frames_weight w c.args.frames.now)
      (λ w. part_weight w (option_copied c.args.added) + 3 + frames_weight w c.args.frames.now)
      (λ w. omega (arith, ap (λ x. part_weight w (option_copied x)) c.in-Some.is)) c.ask_inside.ensures.lighter;
}

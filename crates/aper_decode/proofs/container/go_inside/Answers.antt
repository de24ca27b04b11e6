use Rattle.std.proofs.Common.{◌+◌, Err, ap, sym, subst, ◌∙◌, arith}
use Rattle.aper_cursor.specs.asking.Going.{fault_at}
use Rattle.aper_frames.specs.declared.frame.Frame.TheVariants as frames
use Rattle.aper_frames.specs.Frames.{asked_inside, path_of, next_of}
use Rattle.aper_frames.specs.Weights.{elements_weight, frames_weight}
use Rattle.aper_frames.proofs.Lighter.{lighter_than}
use Rattle.aper_decode.specs.Elements.{ReadsContainer, LeavesLess}
use Rattle.aper_decode.proofs.InPlace.{steps_in}
use Rattle.aper_decode.proofs.ContainerSteps.{container_refused}
use Rattle.aper_decode.proofs.container.go_inside.Goals as goal

pub returns-in-Element : goal.returns-in-Element
returns-in-Element c =
    let fs = c.args.frames.now in
    let f = c.in-Element.frame in
    record {
      asked = λ question of first reads.
          steps_in c.ask_inside.result of (λ types. asked_inside types (frames.Element f) c.in-Element.id fs)
          (question (path_of fs) (next_of of fs)) first c.args.cursor.now c.ask_inside.new.cursor c.ask_inside.new.frames
          (subst (λ x. ReadsContainer question of first c.args.cursor.now (Err x)) c.in-Element.is reads (path_of fs) (next_of of fs))
          c.ask_inside.ensures.asked;
      lighter = λ weight less.
          lighter_than c.ask_inside.result c.ask_inside.new.frames
          (λ w. 2 + w c.in-Element.id.number + elements_weight w f.others + frames_weight w fs) (λ w. weight w + frames_weight w fs)
          (λ w. omega (arith, subst (λ x. LeavesLess weight (Err x)) c.in-Element.is less w)) c.ask_inside.ensures.lighter;
    }

pub returns-in_ok-push-in-Wrong : goal.returns-in_ok-push-in-Wrong
returns-in_ok-push-in-Wrong c = record {
  asked = λ question of first reads.
      subst (λ x. ReadsContainer question of first c.args.cursor.now (Err x)) c.in-Wrong.is reads (path_of c.args.frames.now) (next_of of c.args.frames.now)
      ∙ ap (λ gs. Err (fault_at c.args.cursor.now c.in-Wrong.reason (path_of gs))) (sym (c.in_ok-push-in-Wrong.ensures {u = tt}));
  lighter = λ weight less. tt;
}

pub returns-in-Error : goal.returns-in-Error
returns-in-Error c = record {
  asked = λ question of first reads.
      container_refused of question c.in-Error.error c.args.frames.now first c.args.cursor.now
      (subst (λ x. ReadsContainer question of first c.args.cursor.now (Err x)) c.in-Error.is reads);
  lighter = λ weight less. tt;
}

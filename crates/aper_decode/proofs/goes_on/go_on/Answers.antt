use Rattle.std.proofs.Common.{ap, sym, subst, ◌∙◌}
use Rattle.std.proofs.lemmas.Result.{err_from_is_err_and}
use Rattle.aper_defs.specs.Reading.{run}
use Rattle.aper_values.specs.types.Types.{tree}
use Rattle.aper_values.specs.Views.{view}
use Rattle.aper_frames.specs.Frames.{addition_after, path_of, next_of, after}
use Rattle.aper_frames.specs.Weights.{frame_weight}
use Rattle.aper_decode.specs.InModule.{IsOfModule, StepsIn}
use Rattle.aper_decode.proofs.InPlace.{steps_in}
use Rattle.aper_decode.proofs.goes_on.go_on.Goals as goal

pub after_component-requires : goal.after_component-requires
after_component-requires c = subst (λ f. IsOfModule c.args.m.now (λ w. frame_weight w f)) c.in-Component.is c.requires

pub after_member-requires : goal.after_member-requires
after_member-requires c = subst (λ f. IsOfModule c.args.m.now (λ w. frame_weight w f)) c.in-Member.is c.requires

pub after_element-requires : goal.after_element-requires
after_element-requires c = subst (λ f. IsOfModule c.args.m.now (λ w. frame_weight w f)) c.in-Element.is c.requires

pub returns-in-Component-clause-asked : goal.returns-in-Component-clause-asked
returns-in-Component-clause-asked c =
    let fs = c.args.frames.now in
    let of = tree c.args.m.now in
    subst (λ f. StepsIn of (after of f (path_of fs) (next_of of fs) (view c.args.value)) c.args.cursor.now c.after_component.new.cursor
    c.after_component.new.frames c.after_component.result) (sym c.in-Component.is) c.after_component.ensures.asked

pub returns-in-Member-clause-asked : goal.returns-in-Member-clause-asked
returns-in-Member-clause-asked c =
    let fs = c.args.frames.now in
    let of = tree c.args.m.now in
    subst (λ f. StepsIn of (after of f (path_of fs) (next_of of fs) (view c.args.value)) c.args.cursor.now c.after_member.new.cursor
    c.after_member.new.frames c.after_member.result) (sym c.in-Member.is) c.after_member.ensures.asked

pub returns-in-Addition-clause-asked : goal.returns-in-Addition-clause-asked
returns-in-Addition-clause-asked c =
    let fs = c.args.frames.now in
    let of = tree c.args.m.now in
    steps_in c.after_addition.result of (λ of. addition_after of c.in-Addition.frame.others (path_of fs) (next_of of fs) (view c.args.value))
    (after of c.args.frame (path_of fs) (next_of of fs) (view c.args.value))
    c.args.cursor.now c.args.cursor.now c.after_addition.new.cursor c.after_addition.new.frames
    (ap (λ f. run (after of f (path_of fs) (next_of of fs) (view c.args.value)) c.args.cursor.now) c.in-Addition.is)
    c.after_addition.ensures.asked

pub returns-in-Element-clause-asked : goal.returns-in-Element-clause-asked
returns-in-Element-clause-asked c =
    let fs = c.args.frames.now in
    let of = tree c.args.m.now in
    subst (λ f. StepsIn of (after of f (path_of fs) (next_of of fs) (view c.args.value)) c.args.cursor.now c.after_element.new.cursor
    c.after_element.new.frames c.after_element.result) (sym c.in-Element.is) c.after_element.ensures.asked

pub returns-in_err-ask_closing-in-Open-clause-asked : goal.returns-in_err-ask_closing-in-Open-clause-asked
returns-in_err-ask_closing-in-Open-clause-asked c =
    let from = c.from_residual-in_err-ask_closing-in-Open in
    let p = err_from_is_err_and from.result from.ensures.1 in
    let fs = c.args.frames.now in
    let of = tree c.args.m.now in
    rw (p.1, p.2) (
    ap (λ f. run (after of f (path_of fs) (next_of of fs) (view c.args.value)) c.args.cursor.now) c.in-Open.is
    ∙ c.in_err-ask_closing-in-Open.ensures {u = tt} (path_of fs) (λ z. next_of of fs (view c.args.value)))

pub returns-in_ok-ask_closing-in-Open-clause-asked : goal.returns-in_ok-ask_closing-in-Open-clause-asked
returns-in_ok-ask_closing-in-Open-clause-asked c =
    let fs = c.args.frames.now in
    let of = tree c.args.m.now in
    ap (λ f. run (after of f (path_of fs) (next_of of fs) (view c.args.value)) c.args.cursor.now) c.in-Open.is
    ∙ c.in_ok-ask_closing-in-Open.ensures {u = tt} (path_of fs) (λ z. next_of of fs (view c.args.value))

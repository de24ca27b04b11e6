use Rattle.std.proofs.Common.{subst}
use Rattle.aper_values.specs.types.Types.{tree}
use Rattle.aper_stream.specs.steps.Steps.{TakesStep, OnNext, IsNextLight, IsNextBounded}
use Rattle.aper_stream.proofs.decoder.Turned.{turn_kept, turn_stands, turn_halted, halted_stands}
use Rattle.aper_stream.proofs.decoder.turns.take_turn.Goals as goal

pub returns-in-Ok-clause-turned : goal.returns-in-Ok-clause-turned
returns-in-Ok-clause-turned c =
    let m = c.args.m.now in let old = c.args.cursor.now in let new = c.take_step.new.cursor in
    let fs = c.args.frames.now in let gs = c.take_step.new.frames in
    turn_kept m old new c.args.spot.now c.kept.new.spot fs gs c.args.next c.in-Ok.onward c.kept.result c.requires.at
    (subst (TakesStep (tree m) c.args.next old new fs gs) c.in-Ok.is c.take_step.ensures.asked) c.kept.ensures

pub returns-in-Ok-clause-stands : goal.returns-in-Ok-clause-stands
returns-in-Ok-clause-stands c =
    let m = c.args.m.now in let old = c.args.cursor.now in let new = c.take_step.new.cursor in
    let fs = c.args.frames.now in let gs = c.take_step.new.frames in
    turn_stands m old new c.args.spot.now c.kept.new.spot fs gs c.args.next c.in-Ok.onward c.kept.result
    (subst (TakesStep (tree m) c.args.next old new fs gs) c.in-Ok.is c.take_step.ensures.asked)
    (subst (λ r. OnNext r (λ next. IsNextLight m next gs)) c.in-Ok.is c.take_step.ensures.light)
    (subst (λ r. OnNext r (IsNextBounded new.place)) c.in-Ok.is c.take_step.ensures.bounded) c.kept.ensures

pub returns-in-Err-clause-turned : goal.returns-in-Err-clause-turned
returns-in-Err-clause-turned c =
    let m = c.args.m.now in let old = c.args.cursor.now in let new = c.take_step.new.cursor in
    let fs = c.args.frames.now in let gs = c.take_step.new.frames in
    turn_halted m old new c.args.spot.now c.args.spot.now fs gs c.args.next c.in-Err.halted c.ended.result c.requires.at
    (subst (TakesStep (tree m) c.args.next old new fs gs) c.in-Err.is c.take_step.ensures.asked) c.ended.ensures

pub returns-in-Err-clause-stands : goal.returns-in-Err-clause-stands
returns-in-Err-clause-stands c =
    let m = c.args.m.now in let old = c.args.cursor.now in let new = c.take_step.new.cursor in
    let fs = c.args.frames.now in let gs = c.take_step.new.frames in
    halted_stands m old new c.args.spot.now c.args.spot.now fs gs c.args.next c.in-Err.halted c.ended.result c.requires.stands
    (subst (TakesStep (tree m) c.args.next old new fs gs) c.in-Err.is c.take_step.ensures.asked) c.ended.ensures

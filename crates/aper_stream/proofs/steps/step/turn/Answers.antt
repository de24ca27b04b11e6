use Rattle.std.proofs.Common.{subst}
use Rattle.aper_stream.specs.resuming.Turns.{Lessens}
use Rattle.aper_stream.proofs.steps.Strings.{reads_inside}
use Rattle.aper_stream.proofs.steps.Taken.{turn_inside}
use Rattle.aper_stream.proofs.steps.step.turn.Goals as goal

pub take_turn-requires : goal.take_turn-requires
take_turn-requires c = reads_inside c.args.m.now c.args.pending c.args.frames.now c.requires.light

pub going_on-requires : goal.going_on-requires
going_on-requires c =
    let fs = c.args.frames.now in
    turn_inside c.args.m.now c.args.pending c.args.cursor.now c.take_turn.new.cursor fs c.take_turn.new.frames c.in-Ok.progress
    c.requires.light
    (subst (Lessens c.args.m.now c.args.pending fs c.take_turn.new.frames) c.in-Ok.is c.take_turn.ensures.lighter)

use Rattle.command_verify.specs.inside.Turns.{judged_at}
use Rattle.command_verify.proofs.Judged.{begins, no_room, turn_on, turn_ends, finished}
use Rattle.std.proofs.Common.{refl}
use Rattle.command_verify.proofs.judging.judge.Goals as goal

pub returns-in_default : goal.returns-in_default
returns-in_default g c = no_room (g.P.Spells.spelling c.args.spells.now) _

pub returns-in_default-new : goal.returns-in_default-new
returns-in_default-new g c = no_room (g.P.Spells.spelling c.args.spells.now) _

pub loop-number-init : goal.loop-number-init
loop-number-init g c = begins (g.P.Spells.spelling c.args.spells.now) _ _ _ c.in-Ok.ensures c.in-Ok-new.ensures

pub loop-number-preserved : goal.loop-number-preserved
loop-number-preserved g c =
    turn_on (g.P.Spells.spelling c.args.spells.now) (g.S.Source.at c.args.input.now)
    (judged_at c.take_line.new.reader (g.S.Source.at c.take_line.new.input) c.take_line.new.checker c.loop-number.count)
    _ _ c.in-Ok-Some.field-0-is (c.in-Ok-Some.ensures.meets _ _ c.loop-number.invariant)

pub finish-requires : goal.finish-requires
finish-requires g c = c.loop-number.invariant.bounded

pub returns-in-Ok-None : goal.returns-in-Ok-None
returns-in-Ok-None g c =
    let end = turn_ends (g.P.Spells.spelling c.args.spells.now) (g.S.Source.at c.args.input.now)
    (judged_at c.take_line.new.reader (g.S.Source.at c.take_line.new.input) c.take_line.new.checker c.loop-number.count)
    _ c.in-Ok-None.field-0-is (c.in-Ok-None.ensures.meets _ _ c.loop-number.invariant) in
    finished end _ _ refl c.finish.ensures

pub returns-in-Err : goal.returns-in-Err
returns-in-Err g c = c.in-Err.ensures.meets _ _ c.loop-number.invariant

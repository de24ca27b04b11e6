use Rattle.std.proofs.Common.{Ok, subst}
use Rattle.aper_decode.specs.Turns.{Lessens}
use Rattle.aper_decode.proofs.Turns.{first_turn, turn_inside, turn_frames, turn_lessens}
use Rattle.aper_decode.proofs.decoder.read_value.Goals as goal

pub loop-next-init : goal.loop-next-init
loop-next-init c = first_turn c.args.m.now c.args.cursor.now c.args.id c.args.frames.now c.requires.inside c.requires.first

pub take_turn-requires : goal.take_turn-requires
take_turn-requires c =
    let l = c.loop-next in
    record {
      turn = turn_inside c.args.m.now c.args.id.number c.args.cursor.now l.turn l.frames l.cursor l.invariant;
      frames = turn_frames c.args.m.now c.args.id.number c.args.cursor.now l.turn l.frames l.cursor l.invariant;
    }

pub loop-next-smaller : goal.loop-next-smaller
loop-next-smaller c =
    let l = c.loop-next in
    turn_lessens c.args.m.now l.turn c.in-Next.next l.frames c.take_turn.new.frames
    (subst (λ x. Lessens c.args.m.now l.turn l.frames c.take_turn.new.frames (Ok x)) c.in-Next.is (c.in_ok-next.ensures {u = tt}).lighter)

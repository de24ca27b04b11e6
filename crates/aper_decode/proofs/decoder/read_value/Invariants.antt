use Rattle.aper_decode.proofs.Turns.{IsTurn, turn_left}
use Rattle.aper_decode.proofs.decoder.read_value.Given as goal

abbrev pub invariant-loop-next : goal.invariant-loop-next
invariant-loop-next l = IsTurn l.m l.fn.id.number l.fn.cursor l.turn l.frames l.cursor

abbrev pub decreases-loop-next : goal.decreases-loop-next
decreases-loop-next l = turn_left l.m l.turn l.frames

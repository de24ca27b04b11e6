use Rattle.std.proofs.Common.{arith}
use Rattle.aper_cursor.proofs.Places.{overruns, too_long, cut_off, passes_nothing}
use Rattle.aper_cursor.proofs.cursor.Cursor.pass.Goals as goal

pub returns-then-end-self : goal.returns-then-end-self
returns-then-end-self c =
    overruns c.self.inside c.args.self.now c.args.width c.self.view_is c.self.invariant (omega arith) (omega arith)

pub returns-then-end-gt-BIT_LIMIT : goal.returns-then-end-gt-BIT_LIMIT
returns-then-end-gt-BIT_LIMIT c =
    too_long c.self.inside c.args.self.now c.args.width c.self.view_is c.self.invariant (omega arith) (omega arith) (omega arith)

pub returns-then-end-self-2 : goal.returns-then-end-self-2
returns-then-end-self-2 c =
    cut_off c.self.inside c.args.self.now c.args.width c.self.view_is c.self.invariant (omega arith) (omega arith) (omega arith) (omega arith)

pub returns-else-end-self-2 : goal.returns-else-end-self-2
returns-else-end-self-2 c =
    passes_nothing c.self.inside c.args.self.now c.args.width c.self.view_is c.self.invariant (omega arith) (omega arith) (omega arith) (omega arith)

use Rattle.std.proofs.Common.{arith}
use Rattle.std.proofs.lemmas.List.{length-take-le}
use Rattle.gnb_base.proofs.LineLemmas.{fills_front}
use Rattle.gnb_base.proofs.lines.read_front.Goals as goal

pub returns-clause-bytes : goal.returns-clause-bytes
returns-clause-bytes g c =
    fills_front _ _ c.args.wanted c.read.result c.read.new.buf _ c.read.ensures.bytes c.read.ensures.bound (omega (arith, length-take-le c.args.wanted c.args.piece.now (omega arith)))

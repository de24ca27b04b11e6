use Rattle.std.proofs.Common.{sym, subst}
use Rattle.aper_stream.specs.decoder.inside.States.{IsStateSound, Advances}
use Rattle.aper_stream.proofs.decoder.decoder.Reader.advance.Goals as goal

pub read-requires : goal.read-requires
read-requires c = subst (IsStateSound c.args.self.now) c.in-Reading.is c.requires

pub returns-in-Reading : goal.returns-in-Reading
returns-in-Reading c =
    subst (λ s. Advances c.args.self.now s c.args.piece.now c.read.new.self c.read.result) (sym c.in-Reading.is)
    (c.read.ensures.same, c.read.ensures.reads)

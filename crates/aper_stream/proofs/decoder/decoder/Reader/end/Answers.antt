use Rattle.std.proofs.Common.{◌≡◌, ◌++◌, subst}
use Rattle.std.specs.Prelude.{IfOk}
use Rattle.aper_stream.specs.decoder.inside.States.{PieceEnds}
use Rattle.aper_stream.proofs.decoder.Ends.{last_piece}
use Rattle.aper_stream.proofs.decoder.decoder.Reader.end.Goals as goal

pub returns-in-Ok : goal.returns-in-Ok
returns-in-Ok c =
    let old = c.args.self in let new = c.take_piece.new.self in
    last_piece old new c.args.piece.now c.in-Ok.end c.ended.result c.take_piece.ensures.same
    (subst (λ r. IfOk r (λ end. new.kept.items ≡ old.kept.items ++ c.args.piece.now)) c.in-Ok.is c.take_piece.ensures.kept)
    (subst (λ r. IfOk r (PieceEnds new)) c.in-Ok.is c.take_piece.ensures.ends)
    c.ended.ensures

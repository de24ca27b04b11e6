use Rattle.std.proofs.Common.{◌≡◌, ◌++◌, subst, ◌∙◌}
use Rattle.std.specs.Prelude.{IfOk}
use Rattle.aper_stream.specs.decoder.inside.States.{PieceEnds, StateAfter}
use Rattle.aper_stream.proofs.decoder.Pieces.{reads_piece}
use Rattle.aper_stream.proofs.decoder.decoder.Reader.read.Goals as goal

pub returns-in-Ok-clause-reads : goal.returns-in-Ok-clause-reads
returns-in-Ok-clause-reads c =
    let old = c.args.self.now in let new = c.take_piece.new.self in
    reads_piece old new c.args.piece.now c.take_piece.ensures.same
    (subst (λ r. IfOk r (λ end. new.kept.items ≡ old.kept.items ++ c.args.piece.now)) c.in-Ok.is c.take_piece.ensures.kept)
    c.in-Ok.end c.state_after.result
    (subst (λ r. IfOk r (PieceEnds new)) c.in-Ok.is c.take_piece.ensures.ends)
    (subst (λ n. StateAfter n c.in-Ok.end c.state_after.result) (c.len-before.ensures ∙ old.kept.ok.0) c.state_after.ensures)

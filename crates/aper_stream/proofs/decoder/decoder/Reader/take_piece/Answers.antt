use Rattle.std.proofs.Common.{◌≡◌, ◌++◌, ap, ◌∙◌}
use Rattle.aper_stream.specs.declared.decoder.decoder.Reader.{Reader}
use Rattle.aper_stream.specs.decoder.inside.Reading.{IsReadingAt}
use Rattle.aper_stream.specs.decoder.inside.States.{type_of, front}
use Rattle.aper_stream.proofs.decoder.Pieces.{more_stands, more_reading, piece_ends}
use Rattle.aper_stream.proofs.decoder.decoder.Reader.take_piece.Goals as goal

pub take_turns-requires-clause-stands : goal.take_turns-requires-clause-stands
take_turns-requires-clause-stands c =
    let old = c.args.self.now in
    let put : c.extend_from_slice.new.self.items ≡ old.kept.items ++ c.args.piece.now = (c.in_ok-extend_from_slice.ensures {u = tt}).items in
    more_stands old.module.now (type_of old) old.kept.items c.args.piece.now c.front.result.now
    (c.front.ensures.front ∙ ap front (c.as_slice.ensures.value ∙ put)) old.spot c.args.next old.frames c.requires.stands

pub returns-clause-ends : goal.returns-clause-ends
returns-clause-ends c =
    let old = c.args.self.now in
    let put : c.extend_from_slice.new.self.items ≡ old.kept.items ++ c.args.piece.now = (c.in_ok-extend_from_slice.ensures {u = tt}).items in
    let octets = c.front.result.now in
    let new : Reader = record old { kept = c.extend_from_slice.new.self; spot = c.take_turns.new.spot; frames = c.take_turns.new.frames } in
    piece_ends new octets (λ t. IsReadingAt old.module.now t octets old.spot c.args.next old.frames) c.take_turns.result
    (c.front.ensures.front ∙ ap front c.as_slice.ensures.value)
    (more_reading old.module.now (type_of old) old.kept.items c.args.piece.now octets
    (c.front.ensures.front ∙ ap front (c.as_slice.ensures.value ∙ put)) old.spot c.args.next old.frames c.requires.reading)
    c.take_turns.ensures.ends c.take_turns.ensures.stands

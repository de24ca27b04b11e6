use Rattle.aper_stream.proofs.decoder.Fed.{types_kept, id_kept, fed_on, sound_on}
use Rattle.aper_stream.proofs.decoder.decoder.Decoder.feed.Goals as goal

pub invariant_of-self : goal.invariant_of-self
invariant_of-self c =
    sound_on c.self.inside c.args.self.now c.self.view_is c.advance-state.new.self c.replace-before.result c.advance-state.result
    c.unless_failed.result c.args.piece.now c.answer-answer.result c.replace-before.ensures.value c.advance-state.ensures c.self.invariant
    c.unless_failed.ensures

pub returns-clause-types : goal.returns-clause-types
returns-clause-types c =
    types_kept c.self.inside c.args.self.now c.self.view_is c.advance-state.new.self c.replace-before.result c.advance-state.result
    c.unless_failed.result c.args.piece.now c.answer-answer.result c.replace-before.ensures.value c.advance-state.ensures

pub returns-clause-id : goal.returns-clause-id
returns-clause-id c =
    id_kept c.self.inside c.args.self.now c.self.view_is c.advance-state.new.self c.replace-before.result c.advance-state.result
    c.unless_failed.result c.args.piece.now c.answer-answer.result c.replace-before.ensures.value c.advance-state.ensures

pub returns-clause-answer : goal.returns-clause-answer
returns-clause-answer c =
    fed_on c.self.inside c.args.self.now c.self.view_is c.advance-state.new.self c.replace-before.result c.advance-state.result
    c.unless_failed.result c.args.piece.now c.answer-answer.result c.replace-before.ensures.value c.advance-state.ensures c.answer-answer.ensures
    c.unless_failed.ensures

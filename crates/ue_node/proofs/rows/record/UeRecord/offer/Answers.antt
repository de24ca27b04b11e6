use Rattle.std.proofs.Common.{arith}
use Rattle.ue_node.proofs.rows.AtBearer.{is_of, sound_step, offer_none, offer_there}
use Rattle.ue_node.proofs.rows.record.UeRecord.offer.Goals as goal

pub returns-in_default-clause-step : goal.returns-in_default-clause-step
returns-in_default-clause-step c = λ codec.
    offer_none c.args.self.now c.args.bearer c.len.result (omega (arith, c.args.self.now.bearers.ok.0)) c.in_default.ensures.none codec
    c.args.out.now c.drop_input.new.out c.drop_input.result c.drop_input.ensures.ok c.drop_input.ensures.err c.args.packet

pub offer-requires-clause-of : goal.offer-requires-clause-of
offer-requires-clause-of c =
    is_of c.args.self.now c.args.bearer c.in-Some.index c.index_mut-found.result.now
    (omega (arith, c.in-Some.ensures.within.0, c.args.self.now.bearers.ok.0)) c.in-Some.ensures.within.1 c.index_mut-found.ensures.value
    c.terminal-terminal.result c.terminal-terminal.ensures c.requires.sound

pub returns-clause-step : goal.returns-clause-step
returns-clause-step c = λ codec.
    offer_there c.args.self.now c.args.bearer c.in-Some.index c.index_mut-found.result.now
    (omega (arith, c.in-Some.ensures.within.0, c.args.self.now.bearers.ok.0)) c.in-Some.ensures.within.1 c.index_mut-found.ensures.value
    c.terminal-terminal.result c.terminal-terminal.ensures c.offer.new.self codec c.args.out.now c.offer.new.out c.offer.result c.args.packet
    (c.offer.ensures.step codec)

pub returns-clause-sound : goal.returns-clause-sound
returns-clause-sound c =
    sound_step c.args.self.now c.args.bearer c.in-Some.index c.index_mut-found.result.now
    (omega (arith, c.in-Some.ensures.within.0, c.args.self.now.bearers.ok.0)) c.in-Some.ensures.within.1 c.index_mut-found.ensures.value
    c.terminal-terminal.result c.terminal-terminal.ensures c.offer.new.self c.offer.result c.requires.sound c.offer.ensures.of

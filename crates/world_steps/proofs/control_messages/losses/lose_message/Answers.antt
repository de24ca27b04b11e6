use Rattle.world_steps.proofs.control_messages.losses.lose_message.Goals as goal

pub returns-clause-gives : goal.returns-clause-gives
returns-clause-gives g c =
    c.in_ok-lose_message.ensures g.C.MessageCodec.codec g.U.Units.answer (g.U.Units.records c.args.run_state.now.units) c.args.run_state.now.core

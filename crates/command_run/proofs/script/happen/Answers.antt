use Rattle.command_run.specs.Run.{setting_of}
use Rattle.command_run.specs.inside.Turns.{world_at}
use Rattle.command_run.proofs.Applied.{goes_now, outstanding_now, spent_now}
use Rattle.command_run.proofs.script.happen.Goals as goal

pub returns-in-Ok-clause-happens : goal.returns-in-Ok-clause-happens
returns-in-Ok-clause-happens g c =
    let old = c.args.world.now in
    let new = c.apply.new.self in
    goes_now (setting_of g.C.MessageCodec.codec g.U.Units.answer) c.args.event.now
    (world_at (g.U.Units.records old.run_state.units) old.run_state.core old.run_state.network old.stop)
    (world_at (g.U.Units.records new.run_state.units) new.run_state.core new.run_state.network new.stop) c.in-Ok.lines c.requires.going
    c.in-Ok.ensures.applies

pub returns-in-Err-Outstanding-clause-happens : goal.returns-in-Err-Outstanding-clause-happens
returns-in-Err-Outstanding-clause-happens g c =
    let old = c.args.world.now in
    let new = c.apply.new.self in
    outstanding_now (setting_of g.C.MessageCodec.codec g.U.Units.answer) c.args.event.now
    (world_at (g.U.Units.records old.run_state.units) old.run_state.core old.run_state.network old.stop)
    (world_at (g.U.Units.records new.run_state.units) new.run_state.core new.run_state.network new.stop) _ c.in-Err-Outstanding.outstanding
    c.in-Err-Outstanding.lines c.in-Err-Outstanding.field-0-is c.requires.going c.in-Err-Outstanding.ensures.applies

pub returns-in-Err-Spent-clause-happens : goal.returns-in-Err-Spent-clause-happens
returns-in-Err-Spent-clause-happens g c =
    let old = c.args.world.now in
    let new = c.apply.new.self in
    spent_now (setting_of g.C.MessageCodec.codec g.U.Units.answer) c.args.event.now
    (world_at (g.U.Units.records old.run_state.units) old.run_state.core old.run_state.network old.stop)
    (world_at (g.U.Units.records new.run_state.units) new.run_state.core new.run_state.network new.stop) _ c.in-Err-Spent.counter
    c.in-Err-Spent.lines c.in-Err-Spent.field-0-is c.requires.going c.in-Err-Spent.ensures.applies

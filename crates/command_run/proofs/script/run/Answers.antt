use Rattle.command_run.proofs.Applied.{usable_goes}
use Rattle.command_run.proofs.Turned.{no_reader, no_profile, no_world, begins, turns_at, ends_at_done, turn_stops}
use Rattle.command_run.proofs.script.run.Goals as goal

pub returns-in_default : goal.returns-in_default
returns-in_default g c = no_reader _ _ _

pub returns-in-Err : goal.returns-in-Err
returns-in-Err g c = no_profile _ _ _ c.in-Err.ensures

pub returns-in_default-new : goal.returns-in_default-new
returns-in_default-new g c = no_world _ _ c.in_default-take_profile.ensures

pub loop-more-init : goal.loop-more-init
loop-more-init g c =
    record {
      ready = usable_goes g.U.Units.ready c.in-Ok-new.world.run_state.units c.in-Ok-new.world.stop c.in-Ok-new.ensures.state.1 c.in-Ok-new.ensures.ready;
      so_far = begins _ _ _ c.in_default-take_profile.ensures c.in-Ok-new.ensures.state;
    }

pub loop-more-preserved : goal.loop-more-preserved
loop-more-preserved g c =
    let more = turns_at _ _ _ c.loop-more.invariant.so_far c.in-Ok-Some.field-0-is c.in-Ok-Some.ensures.meets in
    record { ready = usable_goes g.U.Units.ready c.apply_line.new.world.run_state.units c.apply_line.new.world.stop more.going c.in-Ok-Some.ensures.ready; so_far = more }

pub returns-in-Ok-None : goal.returns-in-Ok-None
returns-in-Ok-None g c = ends_at_done _ _ c.loop-more.invariant.so_far c.in-Ok-None.field-0-is c.in-Ok-None.ensures.meets

pub returns-in-Err-apply_line : goal.returns-in-Err-apply_line
returns-in-Err-apply_line g c = turn_stops _ _ c.loop-more.invariant.so_far c.in-Err-apply_line.ensures.meets

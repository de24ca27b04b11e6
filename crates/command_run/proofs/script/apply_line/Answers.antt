use Rattle.std.proofs.Common.{refl}
use Rattle.std.proofs.lemmas.Result.{err_from_is_err_and}
use Rattle.command_run.proofs.Applied.{still_usable, turn_unread, unapplied, halted, applied, is_event_at}
use Rattle.command_run.proofs.script.apply_line.Goals as goal

pub returns-in_err-line : goal.returns-in_err-line
returns-in_err-line g c =
    let p = err_from_is_err_and c.from_residual.result c.from_residual.ensures.1 in
    record {
      ready = still_usable g.U.Units.ready c.args.world.now.run_state.units c.args.world.now.stop c.requires.going c.requires.ready;
      meets = turn_unread _ _ _ _ _ _ c.in_err-line.ensures p.1 p.2 refl;
    }

pub returns-in_err-meaning_of : goal.returns-in_err-meaning_of
returns-in_err-meaning_of g c =
    let p = err_from_is_err_and c.from_residual-in_err-meaning_of.result c.from_residual-in_err-meaning_of.ensures.1 in
    record {
      ready = still_usable g.U.Units.ready c.args.world.now.run_state.units c.args.world.now.stop c.requires.going c.requires.ready;
      meets = unapplied _ _ _ _ c.in-Some.line _ _ _ c.in-Some.is c.in_ok-line.ensures c.in_err-meaning_of.ensures p.1 p.2 refl;
    }

pub returns-in_err-apply_event-in-Event : goal.returns-in_err-apply_event-in-Event
returns-in_err-apply_event-in-Event g c =
    let p = err_from_is_err_and c.from_residual-in_err-apply_event-in-Event.result c.from_residual-in_err-apply_event-in-Event.ensures.1 in
    record {
      ready = c.in_err-apply_event-in-Event.ensures.ready;
      meets = halted _ _ _ _ c.in-Some.line c.in-Event.event _ _ _ c.in-Some.is c.in_ok-line.ensures
          (is_event_at c.in-Some.line _ c.in-Event.event c.in-Event.is c.in_ok-meaning_of.ensures)
          c.in_err-apply_event-in-Event.ensures.meets p.1 p.2;
    }

pub returns : goal.returns
returns g c =
    record {
      ready = c.in_ok-apply_event-in-Event.ensures.ready;
      meets = applied _ _ _ _ c.in-Some.line c.in-Event.event c.in-Some.is c.in_ok-line.ensures
          (is_event_at c.in-Some.line _ c.in-Event.event c.in-Event.is c.in_ok-meaning_of.ensures)
          c.in_ok-apply_event-in-Event.ensures.meets;
    }

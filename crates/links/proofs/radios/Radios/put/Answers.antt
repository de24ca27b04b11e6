use Rattle.links.proofs.RadioLemmas.{radios-put, radios-undone}
use Rattle.links.proofs.radios.Radios.put.Goals as goal

pub invariant_of-self-in-Ok : goal.invariant_of-self-in-Ok
invariant_of-self-in-Ok c = radios-put c.self.invariant c.add.new.radios c.args.item c.enter.new.self c.in-Ok.ensures.ok c.in_ok-enter.ensures.ok

pub invariant_of-self-in-Err : goal.invariant_of-self-in-Err
invariant_of-self-in-Err c =
    radios-undone c.self.invariant c.add.new.radios c.args.item c.enter.new.self c.leave.new.self c.in-Err.ensures.err c.in_ok-enter.ensures.ok
    c.leave.ensures

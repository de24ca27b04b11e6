use Rattle.std.proofs.Common.{sym}
use Rattle.links.specs.Tunnels.{entity}
use Rattle.links.proofs.RadioLemmas.{radios-fail}
use Rattle.links.proofs.radios.Radios.fail.Goals as goal

pub invariant_of-self-2 : goal.invariant_of-self-2
invariant_of-self-2 c =
    radios-fail c.self.invariant (entity c.args.ue c.args.bearer c.args.dir) c.take.new.self c.in-Some.radio c.into_items-items.result.items c.leave_each.new.self
    c.take.ensures.rest (sym c.in-Some.ensures.value) c.into_items-items.ensures c.leave_each.ensures

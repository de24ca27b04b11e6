use Rattle.std.proofs.Common.{sym}
use Rattle.links.specs.Tunnels.{entity}
use Rattle.links.proofs.RadioLemmas.{radios-take}
use Rattle.links.proofs.radios.Radios.confirm.Goals as goal

pub invariant_of-self-2 : goal.invariant_of-self-2
invariant_of-self-2 c =
    radios-take c.self.invariant (entity c.args.ue c.args.bearer c.args.dir) c.in-Some.radio.now c.confirm.new.self c.in-Some-confirm.item c.leave.new.self
    (sym c.in-Some.ensures.value) c.in-Some-confirm.ensures.1 c.leave.ensures

use Rattle.std.proofs.Common.{sym}
use Rattle.links.specs.Tunnels.{entity}
use Rattle.links.proofs.RadioLemmas.{radios-carry, carries_same}
use Rattle.links.proofs.radios.Radios.carry.Goals as goal

pub invariant_of-self-2 : goal.invariant_of-self-2
invariant_of-self-2 c =
    radios-carry c.self.invariant (entity c.args.ue c.args.bearer c.args.dir) c.in-Some.radio.now c.carry.new.self (sym c.in-Some.ensures.value)
    (carries_same c.in-Some.radio.now c.carry.new.self c.carry.result c.carry.ensures.ok c.carry.ensures.err)

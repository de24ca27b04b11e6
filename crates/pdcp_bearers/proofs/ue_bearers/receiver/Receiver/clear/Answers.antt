use Rattle.pdcp_bearers.proofs.ue_bearers.StoreLemmas.{kept_cleared, cleared_seen}
use Rattle.pdcp_bearers.proofs.ue_bearers.receiver.Receiver.clear.Goals as goal

pub invariant_of-self : goal.invariant_of-self
invariant_of-self c =
    let i = c.self.inside in
    kept_cleared i.sn i.quota i.key i.pool i.rx c.self.invariant c.clear.new.pool c.clear.new.self c.clear.ensures.receiver c.clear.ensures.freed c.used.ensures.sound

pub returns : goal.returns
returns c =
    let i = c.self.inside in
    cleared_seen i.sn i.quota i.key i.pool i.rx c.self.invariant c.args.self.now c.self.view_is c.clear.new.pool c.clear.new.self c.clear.ensures.receiver

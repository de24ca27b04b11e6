use Rattle.pdcp_bearers.proofs.ue_bearers.KeptLemmas.{kept_offered}
use Rattle.pdcp_bearers.proofs.ue_bearers.sender.Sender.offer.Goals as goal

pub invariant_of-self : goal.invariant_of-self
invariant_of-self c =
    let i = c.self.inside in
    kept_offered i.sn i.quota i.key i.held i.pool i.tx i.waiting c.self.invariant c.push.result c.push.new.self c.args.packet c.args.self.now c.push.ensures.ok
    c.push.ensures.err c.self.view_is c.requires.room c.requires.packet

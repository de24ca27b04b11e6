use Rattle.pdcp_bearers.proofs.ue_bearers.StoreLemmas.{length_seen}
use Rattle.pdcp_bearers.proofs.ue_bearers.receiver.Receiver.len.Goals as goal

pub returns : goal.returns
returns c =
    let i = c.self.inside in
    length_seen i.sn i.quota i.key i.pool i.rx c.self.invariant c.args.self.now c.self.view_is c.used.result c.used.ensures.value c.used.ensures.sound

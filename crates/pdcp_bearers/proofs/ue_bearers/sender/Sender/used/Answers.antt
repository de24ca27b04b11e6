use Rattle.pdcp_bearers.proofs.ue_bearers.KeptLemmas.{used_seen}
use Rattle.pdcp_bearers.proofs.ue_bearers.sender.Sender.used.Goals as goal

pub returns : goal.returns
returns c =
    let i = c.self.inside in
    used_seen i.sn i.quota i.pool i.tx i.waiting c.args.self.now c.self.view_is i.held c.len.result c.self.invariant.held_is c.len.ensures

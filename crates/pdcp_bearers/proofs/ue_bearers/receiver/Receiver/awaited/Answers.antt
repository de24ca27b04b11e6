use Rattle.std.proofs.Common.{◌∙◌}
use Rattle.pdcp_bearers.proofs.ue_bearers.StoreLemmas.{deliv_seen}
use Rattle.pdcp_bearers.proofs.ue_bearers.receiver.Receiver.awaited.Goals as goal

pub returns : goal.returns
returns c = let i = c.self.inside in c.deliv.ensures ∙ deliv_seen i.sn i.quota i.pool i.rx c.args.self.now c.self.view_is

use Rattle.std.proofs.Common.{◌∙◌}
use Rattle.pdcp_bearers.proofs.ue_bearers.RestoreLemmas.{next_seen}
use Rattle.pdcp_bearers.proofs.ue_bearers.sender.Sender.next.Goals as goal

pub returns : goal.returns
returns c = let i = c.self.inside in c.next.ensures ∙ next_seen i.sn i.quota i.pool i.tx i.waiting c.args.self.now c.self.view_is

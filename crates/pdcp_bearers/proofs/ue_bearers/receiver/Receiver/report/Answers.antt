use Rattle.pdcp_bearers.proofs.ue_bearers.DownLemmas.{reported}
use Rattle.pdcp_bearers.proofs.ue_bearers.StoreLemmas.{short_seen}
use Rattle.pdcp_bearers.proofs.ue_bearers.receiver.Receiver.report.Goals as goal

pub returns : goal.returns
returns c =
    let i = c.self.inside in
    record {
      ok = reported i.sn i.quota i.pool i.rx c.args.self.now c.self.view_is c.report.result c.report.ensures;
      short = short_seen i.sn i.quota i.key i.pool i.rx c.self.invariant c.args.self.now c.self.view_is;
    }

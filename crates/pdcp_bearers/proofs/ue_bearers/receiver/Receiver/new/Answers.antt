use Rattle.pdcp_bearers.proofs.ue_bearers.DownLemmas.{begins, begins_seen}
use Rattle.pdcp_bearers.proofs.ue_bearers.receiver.Receiver.new.Goals as goal

pub invariant_of-result : goal.invariant_of-result
invariant_of-result c = begins c.args.sn c.args.quota c.args.key c.in_ok-pool.pool c.in_ok-rx.rx c.requires.least c.requires.most c.in_ok-pool.ensures c.in_ok-rx.ensures

pub returns : goal.returns
returns c = begins_seen c.args.sn c.args.quota c.in_ok-pool.pool c.in_ok-rx.rx c.in_ok-rx.ensures

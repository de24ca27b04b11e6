use Rattle.pdcp_bearers.proofs.ue_bearers.KeptLemmas.{kept_reported}
use Rattle.pdcp_bearers.proofs.ue_bearers.sender.Sender.confirm_report.Goals as goal

pub overflow_sub-self : goal.overflow_sub-self
overflow_sub-self c =
    let i = c.self.inside in
    let f = c.confirm_report.ensures in
    (kept_reported i.sn i.quota i.key i.held i.pool i.tx i.waiting c.self.invariant c.confirm_report.new.pool c.confirm_report.new.self c.args.fmc c.args.bits.now c.confirm_report.result f.sender f.count
    f.freed f.octets f.parked c.used.ensures.sound).0

pub invariant_of-self : goal.invariant_of-self
invariant_of-self c =
    let i = c.self.inside in
    let f = c.confirm_report.ensures in
    (kept_reported i.sn i.quota i.key i.held i.pool i.tx i.waiting c.self.invariant c.confirm_report.new.pool c.confirm_report.new.self c.args.fmc c.args.bits.now c.confirm_report.result f.sender f.count
    f.freed f.octets f.parked c.used.ensures.sound).1

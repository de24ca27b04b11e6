use Rattle.pdcp_bearers.proofs.ue_bearers.KeptLemmas.{kept_confirmed}
use Rattle.pdcp_bearers.proofs.ue_bearers.sender.Sender.confirm_to.Goals as goal

pub overflow_sub-self : goal.overflow_sub-self
overflow_sub-self c =
    let i = c.self.inside in
    let f = c.confirm_to.ensures in
    (kept_confirmed i.sn i.quota i.key i.held i.pool i.tx i.waiting c.self.invariant c.confirm_to.new.pool c.confirm_to.new.self c.args.number c.confirm_to.result f.sender f.count
    f.freed f.octets f.parked c.used.ensures.sound).0

pub invariant_of-self : goal.invariant_of-self
invariant_of-self c =
    let i = c.self.inside in
    let f = c.confirm_to.ensures in
    (kept_confirmed i.sn i.quota i.key i.held i.pool i.tx i.waiting c.self.invariant c.confirm_to.new.pool c.confirm_to.new.self c.args.number c.confirm_to.result f.sender f.count
    f.freed f.octets f.parked c.used.ensures.sound).1

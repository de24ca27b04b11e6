use Rattle.pdcp_bearers.proofs.ue_bearers.StoreLemmas.{kept_begun, none_inside, begun_seen}
use Rattle.pdcp_bearers.proofs.ue_bearers.receiver.Receiver.go_on_at.Goals as goal

pub invariant_of-self : goal.invariant_of-self
invariant_of-self c =
    let i = c.self.inside in
    kept_begun i.sn i.quota i.key i.pool i.rx c.self.invariant c.in_ok-self-inside.field-0 c.args.deliv
    (none_inside i.sn i.quota i.key i.pool i.rx c.self.invariant c.args.self.now c.self.view_is c.requires) c.in_ok-self-inside.ensures

pub returns-clause-ok : goal.returns-clause-ok
returns-clause-ok c =
    let i = c.self.inside in
    begun_seen i.sn i.quota i.key i.pool i.rx c.self.invariant c.args.self.now c.self.view_is c.in_ok-self-inside.field-0 c.args.deliv c.in_ok-self-inside.ensures

pub new-requires-clause-least : goal.new-requires-clause-least
new-requires-clause-least c = c.self.invariant.least

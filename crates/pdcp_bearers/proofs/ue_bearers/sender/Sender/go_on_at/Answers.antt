use Rattle.pdcp_bearers.proofs.ue_bearers.RestoreLemmas.{kept_begun, none_inside, begun_seen}
use Rattle.pdcp_bearers.proofs.ue_bearers.sender.Sender.go_on_at.Goals as goal

pub invariant_of-self : goal.invariant_of-self
invariant_of-self c =
    let i = c.self.inside in
    kept_begun i.sn i.quota i.key i.held i.pool i.tx i.waiting c.self.invariant c.in_ok-self-inside.field-0 c.args.next
    (none_inside i.sn i.quota i.pool i.tx i.waiting c.args.self.now c.self.view_is c.requires) c.in_ok-self-inside.ensures c.ranges.next.fits

pub returns-clause-ok : goal.returns-clause-ok
returns-clause-ok c =
    let i = c.self.inside in
    begun_seen i.sn i.quota i.pool i.tx i.waiting c.args.self.now c.self.view_is c.in_ok-self-inside.field-0 c.args.next c.in_ok-self-inside.ensures

pub new-requires-clause-least : goal.new-requires-clause-least
new-requires-clause-least c = c.self.invariant.least

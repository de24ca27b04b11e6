use Rattle.std.proofs.Common.{◌∙◌, sym}
use Rattle.pdcp_bearers.proofs.ue_bearers.SeenLemmas.{none_seen, parked_seen, least_seen}
use Rattle.pdcp_bearers.proofs.ue_bearers.sender.Sender.unconfirmed.Goals as goal

pub returns-in_default : goal.returns-in_default
returns-in_default c =
    let i = c.self.inside in
    none_seen i.sn i.quota i.key i.held i.pool i.tx i.waiting c.self.invariant c.args.self.now c.self.view_is c.args.from (sym c.unconfirmed.ensures ∙ c.in_default.is)

pub parked_bytes-requires : goal.parked_bytes-requires
parked_bytes-requires c =
    let i = c.self.inside in
    parked_seen i.sn i.quota i.key i.held i.pool i.tx i.waiting c.self.invariant c.args.self.now c.self.view_is c.args.from (c.in-Some.count, c.in-Some.place)
    (sym c.unconfirmed.ensures ∙ c.in-Some.is)

pub returns : goal.returns
returns c =
    let i = c.self.inside in
    least_seen i.sn i.quota i.key i.held i.pool i.tx i.waiting c.self.invariant c.args.self.now c.self.view_is c.args.from (c.in-Some.count, c.in-Some.place)
    (sym c.unconfirmed.ensures ∙ c.in-Some.is) c.parked_bytes.result.now c.parked_bytes.ensures.value

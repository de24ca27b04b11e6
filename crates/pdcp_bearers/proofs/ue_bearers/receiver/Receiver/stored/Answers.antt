use Rattle.std.proofs.Common.{◌∙◌, sym}
use Rattle.pdcp_bearers.proofs.ue_bearers.StoreLemmas.{none_stored, parked_stored, least_stored}
use Rattle.pdcp_bearers.proofs.ue_bearers.receiver.Receiver.stored.Goals as goal

pub returns-in_default : goal.returns-in_default
returns-in_default c =
    let i = c.self.inside in
    none_stored i.sn i.quota i.key i.pool i.rx c.self.invariant c.args.self.now c.self.view_is c.args.from (sym c.stored.ensures ∙ c.in_default.is)

pub parked_bytes-requires : goal.parked_bytes-requires
parked_bytes-requires c =
    let i = c.self.inside in
    parked_stored i.sn i.quota i.key i.pool i.rx c.self.invariant c.args.self.now c.self.view_is c.args.from (c.in-Some.count, c.in-Some.place)
    (sym c.stored.ensures ∙ c.in-Some.is)

pub returns : goal.returns
returns c =
    let i = c.self.inside in
    least_stored i.sn i.quota i.key i.pool i.rx c.self.invariant c.args.self.now c.self.view_is c.args.from (c.in-Some.count, c.in-Some.place)
    (sym c.stored.ensures ∙ c.in-Some.is) c.parked_bytes.result.now c.parked_bytes.ensures.value c.parked_bytes.ensures.sound

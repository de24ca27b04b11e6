use Rattle.pdcp_entities.proofs.ParkLemmas.{still_given}
use Rattle.pdcp_bearers.proofs.ue_bearers.NumberLemmas.{never_full, put_parked, put_given, kept_refused, refused_is, kept_numbered, numbered_is}
use Rattle.pdcp_bearers.proofs.ue_bearers.sender.Sender.give_count.Goals as goal

pub unreachable-requires : goal.unreachable-requires
unreachable-requires c =
    let i = c.self.inside in
    never_full i.sn i.quota i.key i.held i.pool i.tx i.waiting c.self.invariant c.in-Some.packet.now c.in-Some.ensures c.in-Err.ensures.refused

pub number-requires-clause-parked : goal.number-requires-clause-parked
number-requires-clause-parked c =
    let i = c.self.inside in
    put_parked i.sn i.quota i.key i.held i.pool i.tx i.waiting c.self.invariant c.in-Some.packet.now c.in-Some.ensures c.in-Ok.r c.as_slice.result.now c.as_slice.ensures c.put.ensures.sound c.in-Ok.ensures.fresh c.put.new.self c.in-Ok.ensures.ok

pub number-requires-clause-given : goal.number-requires-clause-given
number-requires-clause-given c =
    let i = c.self.inside in
    put_given i.sn i.quota i.key i.held i.pool i.tx i.waiting c.self.invariant c.in-Some.packet.now c.in-Some.ensures c.in-Ok.r c.as_slice.result.now c.as_slice.ensures c.put.ensures.sound c.in-Ok.ensures.fresh c.put.new.self c.in-Ok.ensures.ok

pub take-requires : goal.take-requires
take-requires c =
    let i = c.self.inside in
    let e = c.in-Err-number.ensures.err in
    still_given c.put.new.self c.number.new.pool c.in-Ok.r c.in-Err-number.r e.3 e.1 (put_given i.sn i.quota i.key i.held i.pool i.tx i.waiting c.self.invariant c.in-Some.packet.now c.in-Some.ensures c.in-Ok.r c.as_slice.result.now c.as_slice.ensures c.put.ensures.sound c.in-Ok.ensures.fresh c.put.new.self c.in-Ok.ensures.ok)

pub invariant_of-self : goal.invariant_of-self
invariant_of-self c =
    let i = c.self.inside in
    let e = c.in-Err-number.ensures.err in
    kept_refused i.sn i.quota i.key i.held i.pool i.tx i.waiting c.self.invariant c.in-Some.packet.now c.in-Some.ensures c.in-Ok.r c.as_slice.result.now c.as_slice.ensures c.put.ensures.sound c.in-Ok.ensures.fresh c.put.new.self c.in-Ok.ensures.ok c.number.new.pool c.take.new.self c.in-Err-number.r c.number.new.self e.1 e.2 e.3 c.take.ensures.taken

pub returns-in-Err-number : goal.returns-in-Err-number
returns-in-Err-number c =
    let i = c.self.inside in
    let e = c.in-Err-number.ensures.err in
    refused_is i.sn i.quota i.key i.held i.pool i.tx i.waiting c.self.invariant c.in-Some.packet.now c.in-Some.ensures c.in-Ok.r c.as_slice.result.now c.as_slice.ensures c.put.ensures.sound c.in-Ok.ensures.fresh c.put.new.self c.in-Ok.ensures.ok c.number.new.pool c.take.new.self c.in-Err-number.r c.number.new.self e.1 e.2 e.3 c.take.ensures.taken c.args.self.now c.self.view_is c.in-Err-number.error e.0 c.refused.result c.refused.ensures

pub invariant_of-self-2 : goal.invariant_of-self-2
invariant_of-self-2 c =
    let i = c.self.inside in
    let f = c.in-Ok-number.ensures in
    let h = f.held in
    kept_numbered i.sn i.quota i.key i.held i.pool i.tx i.waiting c.self.invariant c.in-Some.packet.now c.in-Some.ensures c.in-Ok.r c.as_slice.result.now c.as_slice.ensures c.put.ensures.sound c.in-Ok.ensures.fresh c.put.new.self c.in-Ok.ensures.ok c.number.new.pool c.number.new.self h.0 c.take-2.new.self c.in-Some-take.packet f.ok h.1 h.2 f.octets c.number.ensures.parked c.in-Some-take.ensures

pub returns : goal.returns
returns c =
    let i = c.self.inside in
    let f = c.in-Ok-number.ensures in
    let h = f.held in
    numbered_is i.sn i.quota i.key i.held i.pool i.tx i.waiting c.self.invariant c.in-Some.packet.now c.in-Some.ensures c.in-Ok.r c.as_slice.result.now c.as_slice.ensures c.put.ensures.sound c.in-Ok.ensures.fresh c.put.new.self c.in-Ok.ensures.ok c.number.new.pool c.number.new.self h.0 c.take-2.new.self c.in-Some-take.packet f.ok h.1 h.2 f.octets c.number.ensures.parked c.in-Some-take.ensures c.args.self.now c.self.view_is c.in-Ok-number.count f.count

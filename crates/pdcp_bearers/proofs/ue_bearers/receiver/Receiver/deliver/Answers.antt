use Rattle.std.proofs.Common.{ap}
use Rattle.pdcp_entities.specs.Entities.{receiver_in}
use Rattle.pdcp_bearers.specs.ue_bearers.Receivers.{ReceiverState}
use Rattle.pdcp_bearers.proofs.ue_bearers.DownLemmas.{state, nothing_seen, kept_delivered, delivered_seen, fewer_seen}
use Rattle.pdcp_bearers.proofs.ue_bearers.receiver.Receiver.deliver.Goals as goal

pub returns-in_default : goal.returns-in_default
returns-in_default c =
    let none = c.in_default.ensures.none in
    nothing_seen c.self.inside.sn c.self.inside.quota c.self.inside.pool c.self.inside.rx c.args.self.now c.self.view_is c.next.new.pool c.next.new.self
    c.self.invariant.frozen none.0 none.1 none.2

pub invariant_of-self-in_err-packet : goal.invariant_of-self-in_err-packet
invariant_of-self-in_err-packet c =
    let some = c.in-Some.ensures.some in
    kept_delivered _ _ _ c.self.inside.pool c.next.new.pool c.take.new.self c.self.inside.rx c.next.new.self (c.in-Some.count, some.0) c.in-Some.r some.1 some.2
    some.3 c.in-Some.ensures.given c.take.ensures.taken c.next.ensures.parked c.take.ensures.sound c.self.invariant

pub invariant_of-self-2 : goal.invariant_of-self-2
invariant_of-self-2 c =
    let some = c.in-Some.ensures.some in
    kept_delivered _ _ _ c.self.inside.pool c.next.new.pool c.take.new.self c.self.inside.rx c.next.new.self (c.in-Some.count, some.0) c.in-Some.r some.1 some.2
    some.3 c.in-Some.ensures.given c.take.ensures.taken c.next.ensures.parked c.take.ensures.sound c.self.invariant

pub returns : goal.returns
returns c =
    let i = c.self.inside in
    let some = c.in-Some.ensures.some in (
      ap (λ (d : ReceiverState). state d.sn d.quota (receiver_in c.take.new.self c.next.new.self)) c.self.view_is,
      delivered_seen i.sn i.quota i.pool i.rx c.args.self.now c.self.view_is c.next.new.pool c.take.new.self c.next.new.self c.in-Some.count c.in-Some.r
          c.bytes.result.now c.in_ok-packet.field-0 c.in-Some.ensures.octets c.bytes.ensures.value c.in_ok-packet.ensures c.in-Some.ensures.given
          c.take.ensures.taken,
      fewer_seen i.sn i.quota i.pool i.rx c.args.self.now c.self.view_is c.take.new.self c.next.new.self (c.in-Some.count, some.0) some.1 some.2,
    )

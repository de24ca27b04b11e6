use Rattle.transcript_check.proofs.OfferLemmas.{known_pushed}
use Rattle.transcript_check.proofs.index.offers.Offers.add.Goals as goal

pub invariant_of-self-in-Ok : goal.invariant_of-self-in-Ok
invariant_of-self-in-Ok c =
    known_pushed c.self.inside.known c.put.new.self c.self.inside.packets.items c.push.new.self.items c.in_ok-key.key c.in_ok-copy.copy c.args.packet.now
    c.self.invariant c.in_ok-key.ensures.items c.in-Ok.ensures.ok c.in_ok-copy.ensures c.in_ok-push.ensures.items

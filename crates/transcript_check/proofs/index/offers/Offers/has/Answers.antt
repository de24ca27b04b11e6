use Rattle.transcript_check.proofs.OfferLemmas.{has_packet}
use Rattle.transcript_check.proofs.index.offers.Offers.has.Goals as goal

pub returns : goal.returns
returns c =
    has_packet c.self.inside.known c.self.inside.packets.items c.args.self.now c.in_ok-key.key c.args.packet.now c.has.result c.self.view_is c.self.invariant
    c.in_ok-key.ensures.items c.has.ensures

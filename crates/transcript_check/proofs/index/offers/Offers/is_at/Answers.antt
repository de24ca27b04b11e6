use Rattle.std.proofs.Common.{◌≡◌, ◌↔◌, List, ℕ, IsTrue, subst}
use Rattle.transcript_check.proofs.OfferLemmas.{at_place, at_no_place}
use Rattle.transcript_check.proofs.index.offers.Offers.is_at.Goals as goal

pub returns-in-Some : goal.returns-in-Some
returns-in-Some c =
    at_place c.self.inside.packets.items c.args.self.now c.args.count c.in-Some.offered.now c.args.packet.now c.same_bytes.result c.self.view_is
    c.in-Some.ensures (subst (λ (p : List ℕ). IsTrue c.same_bytes.result ↔ (p ≡ c.args.packet.now)) c.as_slice.ensures c.same_bytes.ensures)

pub returns-in-None : goal.returns-in-None
returns-in-None c = at_no_place c.self.inside.packets.items c.args.self.now c.args.count c.args.packet.now c.self.view_is c.in-None.ensures

use Rattle.std.proofs.Common.{◌≡◌, ◌+◌, ◌≤◌, sym, subst, arith, length}
use Rattle.pdcp.specs.declared.pdu.TheConstants.{PACKET_LIMIT}
use Rattle.um.specs.run.inside.Views.{AreSent}
use Rattle.um.proofs.run.SentLemmas.{more_sent, sent_put}
use Rattle.um.proofs.run.world.UmWorld.offer.Goals as goal

pub invariant_of-self-2 : goal.invariant_of-self-2
invariant_of-self-2 c =
    let t = c.self.inside in
    let size = c.in_ok-packet.ensures in
    let sent = sent_put (t.puts + 1) t.flight (t.puts + 1) c.in_ok-packet.packet (more_sent t.puts t.flight c.self.invariant.flight)
    (subst (λ p. 1 ≤ length p) (sym size) c.requires) (subst (λ p. length p ≤ PACKET_LIMIT) (sym size) c.if-packet-gt-PACKET_LIMIT.false)
    (omega arith) (omega arith) in
    record {
      sn = c.self.invariant.sn;
      puts = omega (arith, c.if-self-ge-MOST_MESSAGES.false);
      flight = subst (AreSent (t.puts + 1)) (sym c.in_ok-put.ensures.ok) sent;
    }

use Rattle.std.proofs.Common.{◌≡◌, sym, subst}
use Rattle.um.specs.run.inside.Views.{AreSent}
use Rattle.um.proofs.run.SentLemmas.{sent_without}
use Rattle.um.proofs.run.world.UmWorld.land.Goals as goal

pub invariant_of-self : goal.invariant_of-self
invariant_of-self c =
    let t = c.self.inside in
    record {
      sn = c.self.invariant.sn;
      puts = c.self.invariant.puts;
      flight = subst (AreSent t.puts) (sym c.take.ensures.rest) (sent_without t.puts t.flight c.args.number c.self.invariant.flight);
    }

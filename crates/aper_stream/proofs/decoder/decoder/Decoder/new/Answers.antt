use Rattle.aper_stream.proofs.decoder.Beginning.{new_inside, new_fed}
use Rattle.aper_stream.proofs.decoder.decoder.Decoder.new.Goals as goal

pub invariant_of-result : goal.invariant_of-result
invariant_of-result c =
    let m = c.args.module.now in let reader = c.new.result in let next = c.begun.result in
    let begins = c.begun.ensures in
    record {
      inside = new_inside m c.args.id reader c.new.ensures next c.requires begins.same begins.light begins.bounded;
      state = new_fed m c.args.id reader c.new.ensures next c.requires begins.same begins.light begins.bounded;
    }

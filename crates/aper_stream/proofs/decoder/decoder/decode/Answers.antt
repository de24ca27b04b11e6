use Rattle.aper_stream.proofs.decoder.Beginning.{new_fed}
use Rattle.aper_stream.proofs.decoder.decoder.decode.Goals as goal

pub end-requires : goal.end-requires
end-requires c =
    new_fed c.args.module.now c.args.id c.new.result c.new.ensures c.begun-next.result c.requires c.begun-next.ensures.same
    c.begun-next.ensures.light c.begun-next.ensures.bounded

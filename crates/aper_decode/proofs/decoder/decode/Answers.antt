use Rattle.aper_values.specs.types.Types.{tree}
use Rattle.aper_decode.proofs.Front.{decodes_as}
use Rattle.aper_decode.proofs.decoder.decode.Goals as goal

pub returns : goal.returns
returns c =
    let t = tree c.args.m.now c.args.id.number in
    decodes_as t c.args.octets.now c.front.result.now c.decode_front.result (c.front.ensures.same t) c.decode_front.ensures

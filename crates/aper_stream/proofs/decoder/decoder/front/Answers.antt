use Rattle.std.proofs.Common.{◌≤◌, length, sym, arith}
use Rattle.std.proofs.lemmas.List.{length-take-le, take_all}
use Rattle.aper_stream.proofs.decoder.decoder.front.Goals as goal

pub slice_bounds-result-end : goal.slice_bounds-result-end
slice_bounds-result-end c =
    let within : 131073 ≤ length c.args.octets.now = omega arith in
    sym (length-take-le 131073 c.args.octets.now within)

pub returns-then-octets-gt-FRONT-clause-short : goal.returns-then-octets-gt-FRONT-clause-short
returns-then-octets-gt-FRONT-clause-short c =
    let within : 131073 ≤ length c.args.octets.now = omega arith in
    omega (arith, length-take-le 131073 c.args.octets.now within)

pub returns-else-octets-gt-FRONT-clause-front : goal.returns-else-octets-gt-FRONT-clause-front
returns-else-octets-gt-FRONT-clause-front c =
    let short : length c.args.octets.now ≤ 131073 = omega arith in
    sym (take_all 131073 c.args.octets.now short)

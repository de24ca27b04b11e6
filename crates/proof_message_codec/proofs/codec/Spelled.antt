-- Types that encodings don't tell apart are spelled alike.
use Rattle.std.proofs.Common.{◌≡◌, ℕ, List, [], cond, Result, ap, ◌∙◌}
use Rattle.aper_defs.specs.Trees.{Tree}
use Rattle.aper_defs.specs.Values.{Value}
use Rattle.aper_defs.specs.Fields.{Field}
use Rattle.aper_defs.specs.Bits.{put_all, octet_count, closed}
use Rattle.aper_defs.specs.Reading.{Fault, decoded}
use Rattle.aper_defs.specs.octet_defs.Octets.{octets_of, laid_out, is_found, spelled_as}
use Rattle.profile.specs.xn.Alike.{IsAlike}
use Rattle.profile.proofs.xn.Spellings.{same_decoded}

pub spelled_alike : (a b : Tree) (v : Value) → IsAlike a b → spelled_as a v ≡ spelled_as b v
unfolding spelled_as
spelled_alike a b v alike =
    let same : laid_out a v ≡ laid_out b v =
    ap (λ (fs : List Field). octets_of (octet_count (closed [] fs)) (put_all [] (closed [] fs))) (alike.layouts v) in
    ap (λ (os : List ℕ). cond (is_found v (decoded a os)) os []) same
    ∙ ap (λ (r : Result Value Fault). cond (is_found v r) (laid_out b v) []) (same_decoded a b alike (laid_out b v))

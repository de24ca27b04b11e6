-- A complete encoding that was put.
use Rattle.std.proofs.Common.{◌≡◌, ℕ, ◌*◌, ◌≤◌, List, [], ◌++◌, length, sym, ap, ◌∙◌, arith, append-nil}
use Rattle.bits_core.specs.Bits.{octet_bits}
use Rattle.bits_core.specs.Writing.{Written}
use Rattle.bits_core.proofs.BitLemmas.{length-octet_bits}
use Rattle.aper_defs.specs.Trees.{Tree}
use Rattle.aper_defs.specs.Values.{Value as SeenValue}
use Rattle.aper_defs.specs.Fields.{Path}
use Rattle.aper_defs.specs.Bits.{put_all, closed, octet_count}
use Rattle.aper_defs.specs.Layouts.{layout}
use Rattle.aper_defs.specs.Membership.{Has}
use Rattle.aper_defs.specs.Spelling.{Spells, spelling_limit, whole_layout}
use Rattle.aper_fields.specs.members.Followed.{ValueFollows}

-- what was put for a value alone
pub put_alone : (old new : Written) (t : Tree) (v : SeenValue) → old.bits ≡ [] → ValueFollows old new t v
    → (p : Path) → put_all [] (layout p t v) ≡ new.bits
unfolding put_all
put_alone old new t v none follows p =
    ap (put_all []) (sym (append-nil (layout p t v)))
    ∙ ap (λ bits. put_all bits (layout p t v ++ [])) (sym none)
    ∙ follows p []

pub spelled : (t : Tree) (v : SeenValue) (octets : List ℕ) → Has [] t v → octet_count (whole_layout t v) ≤ spelling_limit
    → octet_bits octets ≡ put_all [] (closed [] (layout [] t v)) → Spells t v octets
spelled t v octets has short bits =
    let size : 8 * length octets ≡ length (put_all [] (whole_layout t v)) = sym (length-octet_bits octets) ∙ ap length bits in
    record { has = has; bits = bits; short = omega (arith, size, short) }

-- the contents of an open type fit it
pub fits_inside : (t : Tree) (v : SeenValue) (octets : List ℕ) (p : Path) → octet_count (closed p (layout p t v)) ≤ 16383
    → octet_bits octets ≡ put_all [] (closed p (layout p t v)) → length octets ≤ 16383
fits_inside t v octets p fits bits =
    let size : 8 * length octets ≡ length (put_all [] (closed p (layout p t v))) = sym (length-octet_bits octets) ∙ ap length bits in
    omega (arith, size, fits)

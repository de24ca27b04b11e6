-- Open types whose contents were put.
use Rattle.std.proofs.Common.{◌≡◌, ℕ, ◌≤◌, List, [], ◌++◌, length}
use Rattle.bits_core.specs.Bits.{octet_bits}
use Rattle.bits_core.specs.Writing.{Written}
use Rattle.aper_defs.specs.Trees.{Tree}
use Rattle.aper_defs.specs.Values.{Value as SeenValue}
use Rattle.aper_defs.specs.Fields.{Path, Field}
use Rattle.aper_defs.specs.Bits.{put_all, closed, octet_count, open_fields}
use Rattle.aper_defs.specs.Layouts.{layout}
use Rattle.aper_defs.specs.Membership.{Has}
use Rattle.aper_defs.specs.Spelling.{Spells, spelling_limit, whole_layout}
use Rattle.aper_fields.specs.members.Membership.{FitsInside}
use Rattle.aper_fields.specs.members.Followed.{ValueFollows, OpenFollows}
use Rattle.aper_fields.proofs.members.SpelledLemmas.{put_alone, spelled, fits_inside}

-- the octets are the complete encoding of what was put, whatever fields these bits are
abbrev pub Completes : Written → List ℕ → Type 0
Completes written octets = (p : Path) (fields : List Field) → put_all [] fields ≡ written.bits → octet_bits octets ≡ put_all [] (closed p fields)

module _ (begun written : Written) (t : Tree) (v : SeenValue) (octets : List ℕ) where
  completed_as : begun.bits ≡ [] → ValueFollows begun written t v → Completes written octets
      → (p : Path) → octet_bits octets ≡ put_all [] (closed p (layout p t v))
  completed_as none follows all p = all p (layout p t v) (put_alone begun written t v none follows p)

  pub contents_fit : begun.bits ≡ [] → ValueFollows begun written t v → Completes written octets → FitsInside t v → length octets ≤ 16383
  contents_fit none follows all h = fits_inside t v octets h.path h.fits (completed_as none follows all h.path)

  pub contents_follow : (old new : Written) → begun.bits ≡ [] → ValueFollows begun written t v → Completes written octets
      → ((p inside : Path) (fields rest : List Field) → octet_bits octets ≡ put_all [] (closed inside fields)
      → put_all old.bits (open_fields p inside fields ++ rest) ≡ put_all new.bits rest)
      → OpenFollows old new t v
  contents_follow old new none follows all opened p inside rest = opened p inside (layout inside t v) rest (completed_as none follows all inside)

  pub spelled_by : begun.bits ≡ [] → ValueFollows begun written t v → Completes written octets
      → Has [] t v → octet_count (whole_layout t v) ≤ spelling_limit → Spells t v octets
  spelled_by none follows all has short = spelled t v octets has short (completed_as none follows all [])

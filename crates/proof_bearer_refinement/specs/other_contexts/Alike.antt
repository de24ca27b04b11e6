-- A context that is as it was, but for what may have come on its tunnels, and what it is promised.
use Rattle.std.specs.Prelude.{◌≡◌}
use Rattle.bearer_defs.specs.chain_defs.Models.{Member}

-- what stands on the two tunnels that end there, and what it is promised, say nothing of what it sends to its DU
abbrev pub Alike : Member → Member → Type 0
Alike m n = record n { n3 = m.n3; forwarded = m.forwarded; promised = m.promised } ≡ m

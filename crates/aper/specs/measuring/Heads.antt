-- Internal: OPTIONAL components.
use Rattle.std.specs.Prelude.{ℕ, suc, List, [], ◌∷◌, if◌then◌else◌}
use Rattle.asn1_syntax.specs.declared.types.definition.Component.{Component}

-- how many of these may be absent
abbrev pub optional_count : List Component → ℕ
optional_count [] = 0
optional_count (c ∷ cs) = if c.optional then suc (optional_count cs) else optional_count cs

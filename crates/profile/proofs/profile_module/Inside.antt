-- The types inside a type of a module have numbers of the module.
use Rattle.std.proofs.Common.{◌≡◌, ℕ, ◌<◌, List, [], ◌∷◌, subst, arith}
use Rattle.asn1_syntax.specs.declared.types.definition.Component.{Component}
use Rattle.asn1_syntax.specs.declared.types.definition.Extensible.{Extensible}
use Rattle.asn1_syntax.specs.declared.types.definition.Definition.{Definition}
use Rattle.asn1_syntax.specs.declared.types.definition.Definition.TheVariants as types
use Rattle.asn1_syntax.specs.types.Members.{additions_of}
use Rattle.asn1_defs.specs.Links.{AreBelow, PartsBelow, IsInside}

below_up : (n k : ℕ) (cs : List Component) → n < k → AreBelow n cs → AreBelow k cs
below_up n k [] lt h = tt
below_up n k (c ∷ cs) lt h = (omega (arith, lt, h.0), below_up n k cs lt h.1)

parts_below : (n k : ℕ) (parts : Extensible Component) → n < k → PartsBelow n parts → PartsBelow k parts
parts_below n k parts lt h = (below_up n k parts.root lt h.0, below_up n k (additions_of parts.additions) lt h.1)

pub sequence_below : (n k : ℕ) (d : Definition) (parts : Extensible Component) → n < k → d ≡ types.Sequence parts → IsInside n d → PartsBelow k parts
sequence_below n k d parts lt is h = parts_below n k parts lt (subst (IsInside n) is h)

pub choice_below : (n k : ℕ) (d : Definition) (parts : Extensible Component) → n < k → d ≡ types.Choice parts → IsInside n d → PartsBelow k parts
choice_below n k d parts lt is h = parts_below n k parts lt (subst (IsInside n) is h)

use Rattle.std.proofs.Common.{◌≡◌, ℕ, drop}
use Rattle.json_defs.specs.Named.{Named}
use Rattle.json_defs.specs.Members.{is_among}
use Rattle.json_defs.specs.Shown.{names_of}
use Rattle.json_defs.specs.type_defs.Types.{parts_with}
use Rattle.json_fields.proofs.members.members.is_part.Given as goal

abbrev pub invariant-loop-part : goal.invariant-loop-part
invariant-loop-part l = (of : ℕ → Named) → is_among (names_of (parts_with of (drop l.part-index l.parts))) l.name
    ≡ is_among (names_of (parts_with of l.parts)) l.name

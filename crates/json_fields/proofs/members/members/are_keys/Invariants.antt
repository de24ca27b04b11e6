use Rattle.std.proofs.Common.{◌≡◌, ℕ}
use Rattle.serde_json.specs.View.{members_view}
use Rattle.json_defs.specs.Named.{Named}
use Rattle.json_defs.specs.Members.{are_keys_among}
use Rattle.json_defs.specs.Shown.{keys_of}
use Rattle.json_defs.specs.type_defs.Types.{parts_with}
use Rattle.json_fields.proofs.members.members.are_keys.Given as goal

abbrev pub invariant-loop-name : goal.invariant-loop-name
invariant-loop-name l = (of : ℕ → Named) → are_keys_among (keys_of l.extensible (parts_with of l.parts)) (members_view l.name-iterator)
    ≡ are_keys_among (keys_of l.extensible (parts_with of l.parts)) (members_view l.members.entries)

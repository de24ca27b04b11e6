use Rattle.std.proofs.Common.{◌≡◌, drop}
use Rattle.serde_json.specs.View.{members_view}
use Rattle.json_fields.specs.parts.Parts.{part_in}
use Rattle.json_fields.proofs.parts.parts.part_in.Given as goal

abbrev pub invariant-loop-i : goal.invariant-loop-i
invariant-loop-i l = part_in (drop l.i l.parts) l.i (members_view l.members.entries) ≡ part_in l.parts 0 (members_view l.members.entries)

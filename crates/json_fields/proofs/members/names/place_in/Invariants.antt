use Rattle.std.proofs.Common.{◌≡◌, drop}
use Rattle.json_defs.specs.Members.{place_in}
use Rattle.json_fields.proofs.members.names.place_in.Given as goal

abbrev pub invariant-loop-i : goal.invariant-loop-i
invariant-loop-i l = place_in (drop l.i l.names) l.name l.i ≡ place_in l.names l.name 0

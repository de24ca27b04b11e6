use Rattle.std.proofs.Common.{◌≡◌, drop}
use Rattle.json_defs.specs.Members.{read_bits}
use Rattle.json_fields.proofs.members.Words.{bits_then}
use Rattle.json_fields.proofs.members.kinds.read_bits.Given as goal

abbrev pub invariant-loop-digit : goal.invariant-loop-digit
invariant-loop-digit l = bits_then l.bits (read_bits (drop l.digit-index l.text)) ≡ read_bits l.text

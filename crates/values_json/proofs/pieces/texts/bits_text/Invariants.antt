use Rattle.std.proofs.Common.{◌≡◌, ◌++◌, drop}
use Rattle.json_defs.specs.shown_defs.Printed.{bits_text}
use Rattle.values_json.proofs.pieces.texts.bits_text.Given as goal

abbrev pub invariant-loop-bit : goal.invariant-loop-bit
invariant-loop-bit l = l.text ++ bits_text (drop l.bit-index l.bits) ≡ bits_text l.bits

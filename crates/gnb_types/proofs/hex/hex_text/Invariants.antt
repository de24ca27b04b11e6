use Rattle.std.proofs.Common.{◌≡◌, ◌++◌, drop}
use Rattle.gnb_types.specs.Hex.{hex_of}
use Rattle.gnb_types.proofs.hex.hex_text.Given as goal

abbrev pub invariant-loop-byte : goal.invariant-loop-byte
invariant-loop-byte l = l.text ++ hex_of (drop l.byte-index l.bytes) ≡ hex_of l.bytes

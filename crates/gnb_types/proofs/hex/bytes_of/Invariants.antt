use Rattle.std.proofs.Common.{◌≡◌, ◌*◌, drop}
use Rattle.gnb_types.specs.Hex.{read_hex}
use Rattle.gnb_types.proofs.HexLemmas.{onto}
use Rattle.gnb_types.proofs.hex.bytes_of.Given as goal

abbrev pub invariant-loop-i : goal.invariant-loop-i
invariant-loop-i l = onto l.bytes (read_hex (drop (2 * l.i) l.text)) ≡ read_hex l.text

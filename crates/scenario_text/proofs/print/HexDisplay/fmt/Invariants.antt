use Rattle.std.proofs.Common.{take}
use Rattle.std.specs.Fmt.{HasWritten, IsPlainFormatter}
use Rattle.gnb_types.specs.Hex.{hex_of}
use Rattle.scenario_text.proofs.print.HexDisplay.fmt.Given as goal

-- what is written are the digits of the bytes so far
abbrev pub invariant-loop-byte : goal.invariant-loop-byte
invariant-loop-byte g l =
    IsPlainFormatter l.initial.f → HasWritten g.W.Write.write_str_gives l.initial.f (hex_of (take l.byte-index l.byte-items)) l.f

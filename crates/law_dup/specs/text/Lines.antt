-- The numbers that a line may have: COUNTs and numbers of items and packets of their type, bytes.
use Rattle.std.specs.Prelude.{◌^◌, ◌<◌}
use Rattle.transcript_defs.specs.Lines.{AreBytes}
use Rattle.dup_defs.specs.declared.types.line.DupLine.{DupLine}
use Rattle.dup_defs.specs.declared.types.line.DupLine.TheVariants as lines

abbrev pub IsLine : DupLine → Type 0
IsLine (lines.Put leg count pdu) = (count < 2 ^ 32) × AreBytes pdu
IsLine (lines.Got leg count pdu) = (count < 2 ^ 32) × AreBytes pdu
IsLine (lines.Deliver count packet) = (count < 2 ^ 32) × AreBytes packet
IsLine lines.DropDuplicate = Unit {0}
IsLine (lines.Lost leg items) = items < 2 ^ 32
IsLine (lines.Refused reason) = Unit {0}
IsLine (lines.Quiet delivered) = delivered < 2 ^ 32
IsLine lines.Busy = Unit {0}
IsLine (lines.Outstanding span window) = (span < 2 ^ 32) × (window < 2 ^ 32)

-- The numbers that a line may have: numbers of messages from 1 on, COUNTs and numbers of them of their type, bytes.
use Rattle.std.specs.Prelude.{ℕ, ◌^◌, ◌<◌}
use Rattle.scenario_text.specs.script_words.Forms.{greatest_number}
use Rattle.scenario_text.specs.script_words.Ranges.{IsWithin}
use Rattle.transcript_defs.specs.Lines.{AreBytes}
use Rattle.um_defs.specs.declared.types.line.UmLine.{UmLine}
use Rattle.um_defs.specs.declared.types.line.UmLine.TheVariants as lines

abbrev pub IsMessage : ℕ → Type 0
IsMessage number = IsWithin 1 greatest_number number

abbrev pub IsLine : UmLine → Type 0
IsLine (lines.Put number count pdu) = IsMessage number × (count < 2 ^ 32) × AreBytes pdu
IsLine (lines.Got number count pdu) = IsMessage number × (count < 2 ^ 32) × AreBytes pdu
IsLine (lines.Lost number) = IsMessage number
IsLine (lines.Deliver count packet) = (count < 2 ^ 32) × AreBytes packet
IsLine lines.DropLate = Unit {0}
IsLine lines.DropDuplicate = Unit {0}
IsLine (lines.Held number) = IsMessage number
IsLine (lines.Waiting deliv next stored) = (deliv < 2 ^ 32) × (next < 2 ^ 32) × (stored < 2 ^ 32)
IsLine (lines.Refused reason) = Unit {0}
IsLine (lines.Outstanding span window) = (span < 2 ^ 32) × (window < 2 ^ 32)

-- The text of the lines that an event prints.
use Rattle.std.specs.Prelude.{ℕ, List, [], ◌∷◌, ◌++◌, codes}
use Rattle.std.specs.List.{flat_map}
use Rattle.std.specs.Fmt.{decimal}
use Rattle.gnb_types.specs.Hex.{hex_of}
use Rattle.scenario_text.specs.Print.{◌then◌}
use Rattle.dup_defs.specs.declared.types.event.DupEvent.{DupEvent}
use Rattle.dup_defs.specs.declared.types.leg.Leg.{Leg}
use Rattle.dup_defs.specs.declared.types.line.DupLine.{DupLine}
use Rattle.dup_defs.specs.declared.types.line.DupLine.TheVariants as lines
use Rattle.dup_defs.specs.declared.types.line.DupRefusal.{DupRefusal}
use Rattle.dup_defs.specs.declared.types.line.DupRefusal.TheVariants as refusals
use Rattle.dup.specs.text.Arguments.{leg_text}
use Rattle.dup.specs.text.Texts.{event_text}

-- `L1` or `L2`
abbrev pub leg_name : Leg → List ℕ
leg_name leg = codes "L" ++ leg_text leg

-- `WORD LEG C HEX`
abbrev pub pdu_line : List ℕ → Leg → ℕ → List ℕ → List ℕ
pdu_line word leg count pdu = word then leg_name leg then decimal count then hex_of pdu

-- `deliver C HEX`
abbrev pub packet_line : ℕ → List ℕ → List ℕ
packet_line count packet = codes "deliver" then decimal count then hex_of packet

abbrev pub refusal_text : DupRefusal → List ℕ
refusal_text refusals.Size = codes "Size"
refusal_text refusals.Quota = codes "Quota"
refusal_text refusals.Down = codes "Down"
refusal_text refusals.Empty = codes "Empty"
refusal_text refusals.Up = codes "Up"
refusal_text refusals.Same = codes "Same"

unfoldable pub line_text : DupLine → List ℕ
line_text (lines.Put leg count pdu) = pdu_line (codes "put") leg count pdu
line_text (lines.Got leg count pdu) = pdu_line (codes "got") leg count pdu
line_text (lines.Deliver count packet) = packet_line count packet
line_text lines.DropDuplicate = codes "drop Duplicate"
line_text (lines.Lost leg items) = codes "lost" then leg_name leg then decimal items
line_text (lines.Refused reason) = codes "refused" then refusal_text reason
line_text (lines.Quiet delivered) = codes "quiet" then decimal delivered
line_text lines.Busy = codes "busy"
line_text (lines.Outstanding span window) = codes "outstanding" then decimal span then decimal window

-- the text of lines in order, each with its LF
abbrev pub print : List DupLine → List ℕ
print lines = flat_map (λ line. line_text line ++ 10 ∷ []) lines

-- the event, as it was read, with upper-case hexadecimal digits: `> EVENT`
abbrev pub happens_text : DupEvent → List ℕ
happens_text event = codes "> " ++ event_text event ++ 10 ∷ []

-- The text of the lines that an event prints.
use Rattle.std.specs.Prelude.{ℕ, List, [], ◌∷◌, ◌++◌, codes}
use Rattle.std.specs.List.{flat_map}
use Rattle.std.specs.Fmt.{decimal}
use Rattle.gnb_types.specs.Hex.{hex_of}
use Rattle.gnb_types.specs.Reasons.{refuse_text}
use Rattle.scenario_text.specs.Print.{◌then◌}
use Rattle.um_defs.specs.declared.types.event.UmEvent.{UmEvent}
use Rattle.um_defs.specs.declared.types.line.UmLine.{UmLine}
use Rattle.um_defs.specs.declared.types.line.UmLine.TheVariants as lines
use Rattle.um.specs.text.Texts.{event_text}

-- `#M`
abbrev pub number_text : ℕ → List ℕ
number_text number = codes "#" ++ decimal number

-- `WORD #M C HEX`
abbrev pub pdu_line : List ℕ → ℕ → ℕ → List ℕ → List ℕ
pdu_line word number count pdu = word then number_text number then decimal count then hex_of pdu

-- `deliver C HEX`
abbrev pub packet_line : ℕ → List ℕ → List ℕ
packet_line count packet = codes "deliver" then decimal count then hex_of packet

unfoldable pub line_text : UmLine → List ℕ
line_text (lines.Put number count pdu) = pdu_line (codes "put") number count pdu
line_text (lines.Got number count pdu) = pdu_line (codes "got") number count pdu
line_text (lines.Lost number) = codes "lost" then number_text number then codes "1"
line_text (lines.Deliver count packet) = packet_line count packet
line_text lines.DropLate = codes "drop Late"
line_text lines.DropDuplicate = codes "drop Duplicate"
line_text (lines.Held number) = codes "held" then number_text number then codes "Ahead"
line_text (lines.Waiting deliv next stored) = codes "waiting" then decimal deliv then decimal next then decimal stored
line_text (lines.Refused reason) = codes "refused" then refuse_text reason
line_text (lines.Outstanding span window) = codes "outstanding" then decimal span then decimal window

-- the text of lines in order, each with its LF
abbrev pub print : List UmLine → List ℕ
print lines = flat_map (λ line. line_text line ++ 10 ∷ []) lines

-- the event, as it was read, with upper-case hexadecimal digits: `> EVENT`
abbrev pub happens_text : UmEvent → List ℕ
happens_text event = codes "> " ++ event_text event ++ 10 ∷ []

-- The lines of a transcript as lines of a run, where a control message is its octets.
use Rattle.std.specs.Prelude.{ℕ, List, [], ◌∷◌, ◌++◌}
use Rattle.scenario_text.specs.declared.line.Message.{Message}
use Rattle.scenario_text.specs.declared.line.OutLine.TheVariants as lines
use Rattle.transcript_defs.specs.declared.line.TextLine.{TextLine}
use Rattle.transcript_defs.specs.declared.line.TextLine.TheVariants.{Printed}
use Rattle.run_defs.specs.Lines.{ControlMessage, RunLine, put_item, got_item, put_message, got_message, delivers, lost_items, lost_message, drops_input, held_at, procedure_failed, is_quiet, is_busy, has_settled, has_not_settled, was_refused}

abbrev pub control_message_of : Message → ControlMessage (List ℕ)
control_message_of message = record { from = message.from; to = message.to; ue = message.ue; message = message.bytes }

-- the run's line, if a step of a run says it: events, the last lines and what no run prints aren't told by steps
abbrev pub run_line : TextLine → List (RunLine (List ℕ))
run_line (Printed (lines.Put link item)) = put_item link item ∷ []
run_line (Printed (lines.Got link item)) = got_item link item ∷ []
run_line (Printed (lines.PutMessage message)) = put_message message.number (control_message_of message) ∷ []
run_line (Printed (lines.GotMessage message)) = got_message message.number (control_message_of message) ∷ []
run_line (Printed (lines.Deliver ue bearer dir count packet)) = delivers (record { ue = ue; bearer = bearer; dir = dir }) count packet ∷ []
run_line (Printed (lines.Lost link items)) = lost_items link items ∷ []
run_line (Printed (lines.LostMessage number)) = lost_message number ∷ []
run_line (Printed (lines.Drop node reason)) = drops_input node reason ∷ []
run_line (Printed (lines.Held link reason)) = held_at link reason ∷ []
run_line (Printed (lines.Failed node ue cause)) = procedure_failed node ue cause ∷ []
run_line (Printed (lines.Quiet ue bearer downlink uplink)) = is_quiet ue bearer downlink uplink ∷ []
run_line (Printed (lines.Busy ue bearer)) = is_busy ue bearer ∷ []
run_line (Printed (lines.Settled rounds)) = has_settled rounds ∷ []
run_line (Printed (lines.Unsettled rounds)) = has_not_settled rounds ∷ []
run_line (Printed (lines.Refused reason)) = was_refused reason ∷ []
run_line line = []

-- the run's lines, the oldest first; `past` has the newest line first
abbrev pub lines_of_run : List TextLine → List (RunLine (List ℕ))
lines_of_run [] = []
lines_of_run (line ∷ past) = lines_of_run past ++ run_line line

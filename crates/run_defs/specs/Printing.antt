-- The lines of a run as they are printed, where control messages are spelled like this.
use Rattle.std.specs.Prelude.{ℕ, List, map}
use Rattle.scenario_text.specs.declared.line.OutLine.{OutLine}
use Rattle.scenario_text.specs.declared.line.OutLine.TheVariants as outs
use Rattle.scenario_text.specs.declared.line.Message.{Message as ShownMessage}
use Rattle.run_defs.specs.Lines.{ControlMessage, RunLine, put_item, got_item, put_message, got_message, delivers, lost_items, lost_message, drops_input, held_at, procedure_failed, is_quiet, is_busy, has_settled, has_not_settled, was_refused}

abbrev pub shown_message : {M : Type 0} → (M → List ℕ) → ℕ → ControlMessage M → ShownMessage
shown_message spelled number l = record { number = number; from = l.from; to = l.to; ue = l.ue; bytes = spelled l.message }

abbrev pub out_line : {M : Type 0} → (M → List ℕ) → RunLine M → OutLine
out_line spelled (put_item link item) = outs.Put link item
out_line spelled (got_item link item) = outs.Got link item
out_line spelled (put_message number control_message) = outs.PutMessage (shown_message spelled number control_message)
out_line spelled (got_message number control_message) = outs.GotMessage (shown_message spelled number control_message)
out_line spelled (delivers key count packet) = outs.Deliver key.ue key.bearer key.dir count packet
out_line spelled (lost_items link items) = outs.Lost link items
out_line spelled (lost_message number) = outs.LostMessage number
out_line spelled (drops_input node reason) = outs.Drop node reason
out_line spelled (held_at link reason) = outs.Held link reason
out_line spelled (procedure_failed node ue cause) = outs.Failed node ue cause
out_line spelled (is_quiet ue bearer downlink uplink) = outs.Quiet ue bearer downlink uplink
out_line spelled (is_busy ue bearer) = outs.Busy ue bearer
out_line spelled (has_settled rounds) = outs.Settled rounds
out_line spelled (has_not_settled rounds) = outs.Unsettled rounds
out_line spelled (was_refused reason) = outs.Refused reason

abbrev pub out_lines : {M : Type 0} → (M → List ℕ) → List (RunLine M) → List OutLine
out_lines spelled lines = map (out_line spelled) lines

-- Worked scripts over octets: what the run of the tables' units gives there, and what was worked out.
use Rattle.std.specs.Prelude.{List, [], ◌∷◌, Option, map}
use Rattle.std.specs.List.{flat_map}
use Rattle.message_types.specs.declared.rrc.Token.{Token}
use Rattle.unit_defs.specs.Ways.{Message}
use Rattle.unit_defs.specs.octet_defs.Codec.{Codec}
use Rattle.unit_defs.specs.octet_defs.Spelling.{spelled}
use Rattle.scenario_text.specs.declared.event.Event.{Event}
use Rattle.scenario_text.specs.declared.line.OutLine.{OutLine}
use Rattle.run_defs.specs.Lines.{RunLine, put_message}
use Rattle.run_defs.specs.Printing.{out_lines}
use Rattle.run_defs.specs.States.{Stop}
use Rattle.run_defs.specs.Runs.{lines_of}
use Rattle.run_defs.specs.UnitRuns.{UnitRun, tables}
use Rattle.law_worked_runs.specs.Short.{Worked}
use Rattle.law_worked_runs.specs.PlainCodec.{plain_codec}

abbrev pub message_in : RunLine (Message Token) → List (Message Token)
message_in (put_message number control_message) = control_message.message ∷ []
message_in line = []

abbrev pub codec_of : Worked → Codec
codec_of w = plain_codec (flat_map (λ s. flat_map message_in s.lines) w.steps) w.faults w.items

-- an event with its lines, as they are printed
pub record OctetShown : Type 0 where
  pub event : Event
  pub lines : List OutLine

pub record OctetOutcome : Type 0 where
  pub steps : List OctetShown
  pub stop : Option Stop

abbrev pub octet_outcome : Worked → OctetOutcome
octet_outcome w =
    let codec = codec_of w in
    let t = UnitRun codec (tables codec) (map (λ s. s.event) w.steps) in
    record {
      steps = map (λ h. record { event = h.event; lines = out_lines (λ octets. octets) (lines_of h) }) t.events;
      stop = t.stop;
    }

abbrev pub octet_expected : Worked → OctetOutcome
octet_expected w = record { steps = map (λ s. record { event = s.event; lines = out_lines (spelled (codec_of w)) s.lines }) w.steps; stop = w.stop }

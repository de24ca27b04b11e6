-- What is printed of a transcript, where control messages are spelled like this: each event, the lines of each of its steps with the
-- unit that acts, and why the run stopped.
use Rattle.std.specs.Prelude.{ℕ, List, map, Option}
use Rattle.gnb_types.specs.declared.names.NodeId.{NodeId}
use Rattle.scenario_text.specs.declared.event.Event.{Event}
use Rattle.scenario_text.specs.declared.line.OutLine.{OutLine}
use Rattle.run_defs.specs.Printing.{out_lines}
use Rattle.run_defs.specs.States.{RunStep, Stop}
use Rattle.run_defs.specs.Runs.{Happened, Transcript}

pub record PrintedStep : Type 0 where
  pub actor : Option NodeId
  pub lines : List OutLine

pub record PrintedEvent : Type 0 where
  pub event : Event
  pub steps : List PrintedStep

pub record Printed : Type 0 where
  pub events : List PrintedEvent
  pub stop : Option Stop

abbrev pub printed_step : {M : Type 0} → (M → List ℕ) → RunStep M → PrintedStep
printed_step spelled step = record { actor = step.actor; lines = out_lines spelled step.lines }

abbrev pub printed_event : {M : Type 0} → (M → List ℕ) → Happened M → PrintedEvent
printed_event spelled h = record { event = h.event; steps = map (printed_step spelled) h.steps }

abbrev pub printed : {M : Type 0} → (M → List ℕ) → Transcript M → Printed
printed spelled t = record { events = map (printed_event spelled) t.events; stop = t.stop }

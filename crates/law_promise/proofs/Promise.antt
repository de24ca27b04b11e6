-- What is written by a run keeps the promise, whatever its end.
use Rattle.std.proofs.Common.{ℕ, List, Option, sym, subst, inl, inr}
use Rattle.std.specs.List.{AllByRecursion}
use Rattle.command_defs.specs.input_defs.Split.{InputSplit, rest_of}
use Rattle.scenario_text.specs.Texts.{InRange}
use Rattle.scenario_text.specs.declared.event.Event.{Event}
use Rattle.unit_defs.specs.codec_defs.Reading.{ReadsItems, ReadsPdus}
use Rattle.run_defs.specs.Said.{all_lines, Wires}
use Rattle.run_defs.specs.UnitRuns.{Records, UnitRun, unit_world}
use Rattle.run_defs.specs.plain_defs.Plain.{IsPlain, KeepRange}
use Rattle.law_downlink_scripts.proofs.wires.Runs.{wires}
use Rattle.law_octets_say_the_same.proofs.octet_downlink.Runs.{nothing_is_read, promised}
use Rattle.command_defs.specs.Outside.{OutsideAt}
use Rattle.command_run.specs.Run.{Setting, AreScript, run_of, RunMeets}
use Rattle.command_run.specs.declared.end.RunEnd.{RunEnd}
use Rattle.law_promise.specs.Written.{WritesOne}
use Rattle.law_promise.proofs.Ranges.{read_in_range}

events_in_range : (left : Option (List ℕ)) (split : InputSplit) (events : List Event) → AreScript left split events → AllByRecursion InRange events
events_in_range left split events (inl script) = read_in_range script.lines events script.are
events_in_range left split events (inr part) = subst (λ (es : List Event). AllByRecursion InRange es) (sym part.0) tt

module _ (setting : Setting) where
  keeps_wires : (script : List Event) → Wires (all_lines (run_of setting script).events)
  unfolding UnitRun
  keeps_wires script = wires (unit_world setting.codec setting.answer) script

  module _ (items : ReadsItems setting.codec) (pdus : ReadsPdus setting.codec) (in_range : Records → Type 0)
      (keep : KeepRange setting.answer in_range) (plain : IsPlain setting.codec setting.answer in_range) where
    pub writes_one : (before after : OutsideAt) (end : RunEnd) → RunMeets setting before after end → WritesOne setting before after end
    writes_one before after end r = record {
      split = r.split;
      events = r.events;
      input = r.input;
      script = r.script;
      in_ranges = fits;
      ends = r.ends;
      prints = r.prints;
      wires = keeps_wires r.events;
      promise = λ are. promised setting.codec items pdus setting.answer in_range keep plain nothing_is_read r.events fits are;
    }
      where
        fits : AllByRecursion InRange r.events
        fits = events_in_range (rest_of before.source after.source) r.split r.events r.script

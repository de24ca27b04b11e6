-- The module is taken, and the input ends after it.
use Rattle.std.proofs.Common.{◌≡◌, ℕ, ◌+◌, List, [], ◌++◌, Option, None, Result, Ok, Err, refl, sym, ap, ◌∙◌, subst, append-nil}
use Rattle.gnb_base.specs.Outside.{SourceAt}
use Rattle.gnb_base.specs.Reading.{Reading, fresh, NextMeets}
use Rattle.command_defs.specs.declared.input_defs.InputEnd.{InputEnd}
use Rattle.command_defs.specs.declared.input_defs.InputEnd.TheVariants as inputs
use Rattle.command_defs.specs.input_defs.Ends.{EndsReading, IsReadToEnd}
use Rattle.command_defs.specs.input_defs.Split.{InputSplit, input_split, rest_of}
use Rattle.command_defs.specs.input_defs.Standing.{split_of}
use Rattle.commands.proofs.input_lines.Sources.{none_then_none}
use Rattle.commands.proofs.input_lines.Standing.{stands_first, takes_of, comes_next, ends_at, both_nil}
use Rattle.commands.proofs.input_lines.Stopped.{stops_at, going_at, takes_on}
use Rattle.profile.specs.declared.version.Version.TheVariants.{Two}
use Rattle.commands.specs.declared.input_module.module.GivenModule.{GivenModule}
use Rattle.commands.specs.declared.input_module.stop.ModuleStop.{ModuleStop}
use Rattle.commands.specs.declared.input_module.stop.ModuleStop.TheVariants.{NoModule, Script, Input}
use Rattle.commands.specs.input_module.Module.{StopsModule}
use Rattle.commands.specs.input_module.Taking.{HasModule, StopsTaking}
use Rattle.commands.proofs.input_module.Given.{gives_at_end}
use Rattle.commands.specs.declared.command_check.input.CheckedModule.{CheckedModule}
use Rattle.commands.specs.command_check.Check.{Summarises, CheckAnswers, ChecksInput, Passes, Within, After, NotGiven, Further}
use Rattle.commands.specs.command_check.inside.Steps.{EndStops, EndUnread, OneMore}

-- ---- no module was taken

stops_so : (left : Option (List ℕ)) (split : InputSplit) (stop : ModuleStop) → StopsModule Two left split stop → CheckAnswers left split (Err stop)
stops_so left split (NoModule line column reason) h = h
stops_so left split (Script place reason) h = NotGiven h
stops_so left split (Input (inputs.ReadFault taken)) h = (Within h.0, h.1)
stops_so left split (Input inputs.TooLong) h = (Within h.0, h.1)
stops_so left split (Input inputs.Memory) h = tt

pub not_given : (s0 s1 : SourceAt) (stop : ModuleStop) (result : Result CheckedModule ModuleStop) → result ≡ Err stop → StopsTaking Two s0 s1 stop
    → ChecksInput s0 s1 result
not_given s0 s1 stop result e h =
    subst (λ (x : Result CheckedModule ModuleStop). ChecksInput s0 s1 x) (sym e)
    (record { split = h.split; input = h.input; answers = stops_so (rest_of s0 s1) h.split stop h.stops; reads = h.reads })

-- out of memory before the first read
pub no_reader : (s : SourceAt) (stop : ModuleStop) (result : Result CheckedModule ModuleStop) → result ≡ Err stop → stop ≡ Input inputs.Memory
    → ChecksInput s s result
no_reader s stop result e same =
    subst (λ (x : Result CheckedModule ModuleStop). ChecksInput s s x) (sym (e ∙ ap (λ (x : ModuleStop). Err x) same))
    (record { split = split_of fresh [] []; input = takes_of (stands_first s); answers = tt; reads = (stands_first s).reads })

-- ---- the end

stops_input : (left : Option (List ℕ)) (split : InputSplit) (why : InputEnd) → Passes left split → EndsReading split why
    → CheckAnswers left split (Err (Input why))
stops_input left split (inputs.ReadFault taken) passes h = (passes, h)
stops_input left split inputs.TooLong passes h = (passes, h)
stops_input left split inputs.Memory passes h = tt

module _ {s0 s1 s2 : SourceAt} {old : Reading} (new : Reading) (found : GivenModule) (h : HasModule Two s0 s1 old found) where
  further : (stop : ModuleStop) → EndStops old new s1 s2 stop → ChecksInput s0 s2 (Err stop)
  further stop (EndUnread why s e) =
      let end = stops_at h.stands why s in
      let gives = h.later (going_at h.stands s.error s.meets) (rest_of s0 s2) (input_split (h.taken ++ s.meets.taken) h.lines (old.kept ++ s.meets.taken)) s.meets.taken refl in
      subst (λ (x : ModuleStop). ChecksInput s0 s2 (Err x)) (sym e)
      (record {
        split = input_split (h.taken ++ s.meets.taken) h.lines (old.kept ++ s.meets.taken);
        input = end.takes;
        answers = stops_input (rest_of s0 s2) _ why (After found gives) end.ends;
        reads = end.reads;
      })
  further stop (OneMore line m e) =
      subst (λ (x : ModuleStop). ChecksInput s0 s2 (Err x)) (sym e)
      (record {
        split = input_split (h.taken ++ m.taken) h.lines (old.kept ++ m.taken);
        input = takes_on h.stands m.answers.going m;
        answers = Further (record {
          found = found;
          line = line.text;
          gives = h.later m.answers.going (rest_of s0 s2) (input_split (h.taken ++ m.taken) h.lines (old.kept ++ m.taken)) m.taken refl;
          next = comes_next s0 line m;
          at = m.answers.number ∙ ap (λ (n : ℕ). n + 1) h.stands.count;
          extra = refl;
        });
        reads = none_then_none h.stands.reads (record { faults = m.faults; failed = m.failed });
      })

  pub end_stops : (stop why : ModuleStop) (result : Result CheckedModule ModuleStop) → result ≡ Err stop → stop ≡ why
      → EndStops old new s1 s2 why → ChecksInput s0 s2 result
  end_stops stop why result r f s =
      subst (λ (x : Result CheckedModule ModuleStop). ChecksInput s0 s2 x) (sym (r ∙ ap (λ (x : ModuleStop). Err x) f)) (further why s)

  -- out of memory, with the end found
  pub no_summary : (m : NextMeets old new s1 s2 (Ok None)) (stop : ModuleStop) (result : Result CheckedModule ModuleStop) → result ≡ Err stop
      → stop ≡ Input inputs.Memory
      → ChecksInput s0 s2 result
  no_summary m stop result r f =
      let end = ends_at h.stands m in
      subst (λ (x : Result CheckedModule ModuleStop). ChecksInput s0 s2 x) (sym (r ∙ ap (λ (x : ModuleStop). Err x) f))
      (record {
        split = input_split (h.taken ++ m.taken) h.lines [];
        input = end.takes;
        answers = tt;
        reads = none_then_none h.stands.reads (record { faults = m.faults; failed = m.failed });
      })

  pub end_done : (m : NextMeets old new s1 s2 (Ok None)) (checked : CheckedModule) → Summarises found checked → ChecksInput s0 s2 (Ok checked)
  end_done m checked sums =
      let end = ends_at h.stands m in
      let none = both_nil old.kept m.taken m.answers.nothing in
      let all : IsReadToEnd (rest_of s0 s2) (input_split (h.taken ++ m.taken) h.lines []) = record { nothing = refl; at_end = end.at_end } in
      record {
        split = input_split (h.taken ++ m.taken) h.lines [];
        input = end.takes;
        answers = record {
          found = found;
          gives = gives_at_end Two (rest_of s0 s1) (rest_of s0 s2) (split_of old h.taken h.lines) (input_split (h.taken ++ m.taken) h.lines []) h.lines found
              (ap (λ (bytes : List ℕ). h.taken ++ bytes) none.1 ∙ append-nil h.taken) refl all h.gives;
          all = all;
          summarises = sums;
        };
        reads = none_then_none h.stands.reads (record { faults = m.faults; failed = m.failed });
      }

-- A run so far, one turn more, and each of its ends.
use Rattle.std.proofs.Common.{◌≡◌, ◌<◌, ◌≤◌, ℕ, ◌+◌, List, [], ◌∷◌, ◌++◌, length, true, Option, Some, None, Ok, refl, sym, ap, ◌∙◌, subst, inl, inr, append-nil, append_assoc, length-append, arith}
use Rattle.gnb_base.specs.declared.lines.Line.{Line}
use Rattle.gnb_base.specs.declared.lines.ReadPhase.TheVariants as phases
use Rattle.gnb_base.specs.Outside.{SourceAt, SinkAt}
use Rattle.gnb_base.specs.Reading.{Reading, fresh, input_limit, NextMeets}
use Rattle.command_defs.specs.declared.input_defs.InputEnd.{InputEnd}
use Rattle.command_defs.specs.declared.input_defs.InputEnd.TheVariants as inputs
use Rattle.command_defs.specs.input_defs.Faults.{FaultsOfEnd}
use Rattle.command_defs.specs.input_defs.Split.{InputSplit, input_split, rest_of}
use Rattle.command_defs.specs.input_defs.Ends.{EndsReading, IsReadToEnd}
use Rattle.command_defs.specs.input_defs.Standing.{StandsAfter, split_of}
use Rattle.commands.specs.input_lines.ReadsLine.{StopsReading}
use Rattle.commands.proofs.input_lines.Sources.{none_failed as no_read_failed, none_then_none as no_read_then}
use Rattle.commands.proofs.input_lines.Standing.{stands_first, takes_of, line_stands, comes_next, ends_at, both_nil}
use Rattle.commands.proofs.input_lines.Stopped.{stops_at, going_at, takes_on}
use Rattle.scenario_text.specs.declared.script_words.reason.TextReason.{TextReason}
use Rattle.scenario_text.specs.declared.event.Event.{Event}
use Rattle.scenario_text.specs.Grammar.{is_skipped}
use Rattle.run_defs.specs.States.{Stop, outstanding, spent_counter}
use Rattle.run_defs.specs.Runs.{Happened}
use Rattle.run_links.specs.Networks.{OctetState}
use Rattle.world_steps.specs.declared.cause.Cause.{Cause}
use Rattle.world_steps.specs.declared.cause.Cause.TheVariants as causes
use Rattle.world_steps.specs.Gives.{stop_by}
use Rattle.world.specs.Worlds.{WorldAt, IsNew}
use Rattle.profile.specs.declared.version.Version.{Version}
use Rattle.profile.specs.declared.version.Version.TheVariants.{One}
use Rattle.commands.specs.declared.input_module.module.GivenModule.{GivenModule}
use Rattle.commands.specs.declared.input_module.module.GivenModule.TheVariants as given
use Rattle.commands.specs.declared.input_module.stop.ModuleStop.{ModuleStop}
use Rattle.commands.specs.declared.input_module.stop.ModuleStop.TheVariants as stops
use Rattle.commands.specs.input_module.Module.{GivesModule, StopsModule, IsWrongModule, Empty, NoHeader, Unended, IsPart, Unfinished, Whole, AtHeader}
use Rattle.commands.specs.input_module.Taking.{FaultsOfStop, StillGives}
use Rattle.commands.proofs.input_module.Given.{gives_at_end}
use Rattle.command_defs.specs.declared.CommonEnd.TheVariants.{Memory}
use Rattle.command_defs.specs.Ends.{end_of_input}
use Rattle.command_defs.specs.Outside.{OutsideAt, outside}
use Rattle.command_defs.specs.Output.{Prints, PrintsFront}
use Rattle.commands.specs.command_output.Writes.{WritesAll}
use Rattle.commands.proofs.command_output.Written.{none_failed, none_then_last, all_none, all_more, front_none, front_more, front_of, front_all}
use Rattle.command_run.specs.declared.end.RunEnd.{RunEnd}
use Rattle.command_run.specs.declared.end.RunEnd.TheVariants.{Done, Common}
use Rattle.command_run.specs.Ends.{end_at}
use Rattle.command_run.specs.Run.{Setting, AreEvents, IsProfile, IsScript, GoesOn, StopsInLast, Passes, RunEndMeets, run_text}
use Rattle.command_run.specs.inside.Stops.{RunsTo, PrintsTo, ReadsUntil, WritesUntil, end_of_stop}
use Rattle.command_run.specs.inside.Turns.{WorkAt, RunAt, run_at, HasProfile, ProfileStops, Untaken, Unlike, Uncompared, IsEvent, LineStops, Refused, NoMemory, text_at, Applies, ApplyStops, Ended, Faulty, NoRoom, LineApplies, Skips, Happens, TakesLine, TakesEnd, TurnStops, Unread, Unapplied, Halted, TurnMeets}
use Rattle.command_run.proofs.Runs.{happened, Reached, reached_first, reached_goes, reached_more, reached_stops, no_text, script_skips, script_more, event_means, text-more}

-- the source and the sink at a moment of a run
abbrev pub outside_of : RunAt → OutsideAt
outside_of r = outside r.source r.work.sink

-- the lines that were handed out give the profile, and then these events, whose text was written; their run goes on, and the code has it
pub record SoFar (setting : Setting) (first : OutsideAt) (now : RunAt) (count : ℕ) : Type 0 where
  pub taken : List ℕ
  pub front : List (List ℕ)
  pub lines : List (List ℕ)
  pub events : List Event
  pub found : GivenModule
  pub done : List (Happened (List ℕ))
  pub stands : StandsAfter first.source now.source now.reading taken (front ++ lines)
  pub gives : GivesModule One (rest_of first.source now.source) (split_of now.reading taken (front ++ lines)) front found
  pub later : StillGives One now.reading taken front found
  pub profile : IsProfile found
  pub script : AreEvents lines events
  pub writes : WritesAll first.sink now.work.sink (run_text setting events)
  pub reached : Reached setting events done now.work.world.state
  pub going : now.work.world.stop ≡ None
  pub counted : count ≡ length events
  pub few : count < now.reading.lines
  pub bounded : count ≤ input_limit

writes_none : (setting : Setting) (sink : SinkAt) → WritesAll sink sink (run_text setting [])
writes_none setting sink = subst (λ (text : List ℕ). WritesAll sink sink text) (sym (no_text setting)) (all_none sink)

-- ---- the begin

some_line : (newest : Version) (left : Option (List ℕ)) (split : InputSplit) (front : List (List ℕ)) (found : GivenModule)
    → GivesModule newest left split front found → 0 < length front
some_line newest left split front (given.Text m) h = omega (arith, ap length h.has.parts)
some_line newest left split front (given.Builtin version) h = omega (arith, ap length h.parts)

pub begins : {source0 source1 : SourceAt} {reading : Reading} (setting : Setting) (sink : SinkAt) (world : WorldAt)
    → HasProfile source0 source1 reading
    → IsNew world.state world.stop
    → SoFar setting (outside source0 sink) (run_at reading source1 world sink) 0
begins {source0 = source0} {source1 = source1} {reading = reading} setting sink world p new =
    let h = p.has in
    let one = some_line One (rest_of source0 source1) (split_of reading h.taken h.lines) h.lines p.found h.gives in
    record {
      taken = h.taken;
      front = h.lines;
      lines = [];
      events = [];
      found = p.found;
      done = [];
      stands = subst (λ (ls : List (List ℕ)). StandsAfter source0 source1 reading h.taken ls) (sym (append-nil h.lines)) h.stands;
      gives = subst (λ (ls : List (List ℕ)). GivesModule One (rest_of source0 source1) (split_of reading h.taken ls) h.lines p.found) (sym (append-nil h.lines)) h.gives;
      later = h.later;
      profile = p.profile;
      script = refl;
      writes = writes_none setting sink;
      reached = subst (λ (s : OctetState). Reached setting [] [] s) (sym new.0) (reached_first setting);
      going = new.1;
      counted = refl;
      few = omega (arith, h.stands.count, one);
      bounded = omega arith;
    }

-- ---- one turn more

module _ {setting : Setting} {first : OutsideAt} {old : RunAt} {count : ℕ} (s : SoFar setting first old count) where
  -- what is taken after these lines leaves them a script
  script_on : (left : Option (List ℕ)) (more kept : List ℕ) → old.reading.phase ≡ phases.Going
      → IsScript left (input_split (s.taken ++ more) (s.front ++ s.lines) kept) s.events
  script_on left more kept going = record {
    front = s.front;
    lines = s.lines;
    found = s.found;
    parts = refl;
    gives = s.later going left (input_split (s.taken ++ more) (s.front ++ s.lines) kept) more refl;
    profile = s.profile;
    are = s.script;
  }

  text_more : (event : Event) → run_text setting (s.events ++ event ∷ []) ≡ run_text setting s.events ++ text_at setting old.work.world event
  text_more event = text-more s.reached old.work.world event refl

  module _ (new : RunAt) (line : Line) (m : NextMeets old.reading new.reading old.source new.source (Ok (Some line))) where
    stands_more : StandsAfter first.source new.source new.reading (s.taken ++ m.taken) (s.front ++ (s.lines ++ line.text ∷ []))
    stands_more =
        subst (λ (ls : List (List ℕ)). StandsAfter first.source new.source new.reading (s.taken ++ m.taken) ls) (append_assoc s.front s.lines (line.text ∷ []))
        (line_stands line s.stands m)

    gives_more : GivesModule One (rest_of first.source new.source) (split_of new.reading (s.taken ++ m.taken) (s.front ++ (s.lines ++ line.text ∷ []))) s.front s.found
    gives_more =
        s.later m.answers.going (rest_of first.source new.source) (split_of new.reading (s.taken ++ m.taken) (s.front ++ (s.lines ++ line.text ∷ []))) m.taken refl

    later_more : StillGives One new.reading (s.taken ++ m.taken) s.front s.found
    later_more going left split more e = s.later m.answers.going left split (m.taken ++ more) (e ∙ append_assoc s.taken m.taken more)

    script_after : (events : List Event) → AreEvents (s.lines ++ line.text ∷ []) events
        → IsScript (rest_of first.source new.source) (split_of new.reading (s.taken ++ m.taken) (s.front ++ (s.lines ++ line.text ∷ []))) events
    script_after events are = record {
      front = s.front;
      lines = s.lines ++ line.text ∷ [];
      found = s.found;
      parts = refl;
      gives = gives_more;
      profile = s.profile;
      are = are;
    }

    -- the line was an event
    script_with : (event : Event) → IsEvent line.text event
        → IsScript (rest_of first.source new.source) (split_of new.reading (s.taken ++ m.taken) (s.front ++ (s.lines ++ line.text ∷ []))) (s.events ++ event ∷ [])
    script_with event is = script_after (s.events ++ event ∷ []) (script_more s.lines line.text s.events event s.script is)

    skips : is_skipped line.text ≡ true → new.work ≡ old.work → SoFar setting first new count
    skips skip same = record {
      taken = s.taken ++ m.taken;
      front = s.front;
      lines = s.lines ++ line.text ∷ [];
      events = s.events;
      found = s.found;
      done = s.done;
      stands = stands_more;
      gives = gives_more;
      later = later_more;
      profile = s.profile;
      script = script_skips s.lines line.text s.events s.script skip;
      writes = subst (λ (work : WorkAt). WritesAll first.sink work.sink (run_text setting s.events)) (sym same) s.writes;
      reached = subst (λ (work : WorkAt). Reached setting s.events s.done work.world.state) (sym same) s.reached;
      going = ap (λ (work : WorkAt). work.world.stop) same ∙ s.going;
      counted = s.counted;
      few = omega (arith, s.few, m.answers.lines, m.answers.number);
      bounded = s.bounded;
    }

    happens_more : (event : Event) → IsEvent line.text event → Applies setting old.work new.work event → SoFar setting first new (count + 1)
    happens_more event is applies = record {
      taken = s.taken ++ m.taken;
      front = s.front;
      lines = s.lines ++ line.text ∷ [];
      events = s.events ++ event ∷ [];
      found = s.found;
      done = s.done ++ happened event applies.steps ∷ [];
      stands = stands_more;
      gives = gives_more;
      later = later_more;
      profile = s.profile;
      script = script_more s.lines line.text s.events event s.script is;
      writes = subst (λ (text : List ℕ). WritesAll first.sink new.work.sink text) (sym (text_more event)) (all_more s.writes applies.writes);
      reached = reached_more s.reached event applies.steps new.work.world.state applies.goes_on;
      going = applies.going;
      counted = ap (λ (n : ℕ). n + 1) s.counted ∙ sym (length-append s.events (event ∷ []));
      few = omega (arith, s.few, m.answers.lines, m.answers.number);
      bounded = omega (arith, s.few, m.answers.lines, m.answers.number, m.answers.counted, m.answers.within);
    }

by_line : {setting : Setting} {first : OutsideAt} {old : RunAt} (new : RunAt) {count : ℕ} (more : ℕ) (line : Line) → SoFar setting first old count
    → NextMeets old.reading new.reading old.source new.source (Ok (Some line)) → LineApplies setting old.work new.work line.text more
    → SoFar setting first new (count + more)
by_line {setting = setting} {first = first} new {count = count} more line s m (Skips none skip same) =
    let e : count ≡ count + more = omega (arith, none) in
    subst (λ (n : ℕ). SoFar setting first new n) e (skips s new line m skip same)
by_line {setting = setting} {first = first} new {count = count} more line s m (Happens one event is applies) =
    subst (λ (n : ℕ). SoFar setting first new (count + n)) (sym one) (happens_more s new line m event is applies)

-- ---- the end of the input

ends_done : {setting : Setting} {first : OutsideAt} {old : RunAt} (new : RunAt) {count : ℕ} → SoFar setting first old count → TakesEnd old new
    → RunsTo setting first (outside_of new) (Done count)
ends_done {setting = setting} {first = first} {old = old} new s t =
    let end = ends_at s.stands t.meets in
    let none = both_nil old.reading.kept t.meets.taken t.meets.answers.nothing in
    let all : IsReadToEnd (rest_of first.source new.source) (input_split (s.taken ++ t.meets.taken) (s.front ++ s.lines) []) = record { nothing = refl; at_end = end.at_end } in
    let writes = subst (λ (work : WorkAt). WritesAll first.sink work.sink (run_text setting s.events)) (sym t.same) s.writes in
    let script : IsScript (rest_of first.source new.source) (input_split (s.taken ++ t.meets.taken) (s.front ++ s.lines) []) s.events = record {
      front = s.front;
      lines = s.lines;
      found = s.found;
      parts = refl;
      gives = gives_at_end One (rest_of first.source old.source) (rest_of first.source new.source) (split_of old.reading s.taken (s.front ++ s.lines)) (input_split (s.taken ++ t.meets.taken) (s.front ++ s.lines) []) s.front s.found
          (ap (λ (bytes : List ℕ). s.taken ++ bytes) none.1 ∙ append-nil s.taken) refl all s.gives;
      profile = s.profile;
      are = s.script;
    } in
    record {
      split = input_split (s.taken ++ t.meets.taken) (s.front ++ s.lines) [];
      events = s.events;
      input = end.takes;
      script = inl script;
      ends = (reached_goes s.reached, record { script = script; all = all; counted = s.counted });
      prints = writes.prints;
      reads = no_read_then s.stands.reads (record { faults = t.meets.faults; failed = t.meets.failed });
      writes = writes.none;
    }

-- ---- no line could be read

reads_input : (before after : SourceAt) (why : InputEnd) → FaultsOfEnd before after why → ReadsUntil before after (Common (end_of_input why))
reads_input before after (inputs.ReadFault taken) h = h
reads_input before after inputs.TooLong h = h
reads_input before after inputs.Memory h = h

meets_input : (setting : Setting) (left : Option (List ℕ)) (split : InputSplit) (events : List Event) (why : InputEnd) → GoesOn setting events
    → Passes left split events
    → EndsReading split why
    → RunEndMeets setting left split events (Common (end_of_input why))
meets_input setting left split events (inputs.ReadFault taken) goes passes h = (goes, passes, h)
meets_input setting left split events inputs.TooLong goes passes h = (goes, passes, h)
meets_input setting left split events inputs.Memory goes passes h = tt

prints_input : {before after : SinkAt} {text : List ℕ} (why : InputEnd) → WritesAll before after text
    → PrintsTo before after text (Common (end_of_input why))
prints_input (inputs.ReadFault taken) h = h.prints
prints_input inputs.TooLong h = h.prints
prints_input inputs.Memory h = front_all h.prints

writes_input : {before after : SinkAt} {text : List ℕ} (why : InputEnd) → WritesAll before after text
    → WritesUntil before after (Common (end_of_input why))
writes_input (inputs.ReadFault taken) h = h.none
writes_input inputs.TooLong h = h.none
writes_input inputs.Memory h = h.none

unread : {setting : Setting} {first : OutsideAt} {old : RunAt} (new : Reading) (after : SourceAt) {count : ℕ} (end : RunEnd) (why : InputEnd)
    → SoFar setting first old count
    → StopsReading old.reading new old.source after why → end ≡ Common (end_of_input why)
    → RunsTo setting first (outside after old.work.sink) end
unread {setting = setting} {first = first} {old = old} new after end why s how e =
    let stop = stops_at s.stands why how in
    let script = script_on s (rest_of first.source after) how.meets.taken (old.reading.kept ++ how.meets.taken) (going_at s.stands how.error how.meets) in
    subst (λ (x : RunEnd). RunsTo setting first (outside after old.work.sink) x) (sym e)
    (record {
      split = input_split (s.taken ++ how.meets.taken) (s.front ++ s.lines) (old.reading.kept ++ how.meets.taken);
      events = s.events;
      input = stop.takes;
      script = inl script;
      ends = meets_input setting (rest_of first.source after) _ s.events why (reached_goes s.reached) (inr script) stop.ends;
      prints = prints_input why s.writes;
      reads = reads_input _ _ why stop.reads;
      writes = writes_input why s.writes;
    })

-- ---- the profile isn't given

part_of_wrong : (left : Option (List ℕ)) (split : InputSplit) (place : ℕ) (reason : TextReason) → IsWrongModule One left split place reason
    → IsPart One left split
part_of_wrong left split place reason (Empty e word) = Unfinished (AtHeader e.no_line)
part_of_wrong left split place reason (NoHeader e) = Unfinished (AtHeader e.none)
part_of_wrong left split place reason (Unended e) = Whole e.text e.has

part_of : (left : Option (List ℕ)) (split : InputSplit) (stop : ModuleStop) → StopsModule One left split stop → IsPart One left split
part_of left split (stops.NoModule line column reason) h = Whole h.text h.has
part_of left split (stops.Script place reason) h = part_of_wrong left split place reason h
part_of left split (stops.Input (inputs.ReadFault taken)) h = Unfinished h.0
part_of left split (stops.Input inputs.TooLong) h = Unfinished h.0
part_of left split (stops.Input inputs.Memory) h = h

-- no event was applied
goes_first : (setting : Setting) → GoesOn setting []
goes_first setting = reached_goes (reached_first setting)

meets_stop : (setting : Setting) (left : Option (List ℕ)) (split : InputSplit) (stop : ModuleStop) → StopsModule One left split stop
    → RunEndMeets setting left split [] (end_of_stop stop)
meets_stop setting left split (stops.NoModule line column reason) h = (refl, h)
meets_stop setting left split (stops.Script place reason) h = inl (refl, h)
meets_stop setting left split (stops.Input (inputs.ReadFault taken)) h = (goes_first setting, inl h.0, h.1)
meets_stop setting left split (stops.Input inputs.TooLong) h = (goes_first setting, inl h.0, h.1)
meets_stop setting left split (stops.Input inputs.Memory) h = tt

prints_stop : (setting : Setting) (sink : SinkAt) (stop : ModuleStop) → PrintsTo sink sink (run_text setting []) (end_of_stop stop)
prints_stop setting sink (stops.NoModule line column reason) = (writes_none setting sink).prints
prints_stop setting sink (stops.Script place reason) = (writes_none setting sink).prints
prints_stop setting sink (stops.Input end) = prints_input end (writes_none setting sink)

reads_stop : (before after : SourceAt) (stop : ModuleStop) → FaultsOfStop before after stop → ReadsUntil before after (end_of_stop stop)
reads_stop before after (stops.NoModule line column reason) h = h
reads_stop before after (stops.Script place reason) h = h
reads_stop before after (stops.Input end) h = reads_input before after end h

writes_stop : (sink : SinkAt) (stop : ModuleStop) → WritesUntil sink sink (end_of_stop stop)
writes_stop sink (stops.NoModule line column reason) = none_failed sink
writes_stop sink (stops.Script place reason) = none_failed sink
writes_stop sink (stops.Input end) = writes_input end (all_none sink)

pub no_profile : {source0 source1 : SourceAt} {reading : Reading} (setting : Setting) (sink : SinkAt) (end : RunEnd)
    → ProfileStops source0 source1 reading end
    → RunsTo setting (outside source0 sink) (outside source1 sink) end
no_profile {source0 = source0} {source1 = source1} setting sink end (Untaken stop h e) =
    subst (λ (x : RunEnd). RunsTo setting (outside source0 sink) (outside source1 sink) x) (sym e)
    (record {
      split = h.split;
      events = [];
      input = h.input;
      script = inr (refl, part_of (rest_of source0 source1) h.split stop h.stops);
      ends = meets_stop setting (rest_of source0 source1) h.split stop h.stops;
      prints = prints_stop setting sink stop;
      reads = reads_stop source0 source1 stop h.reads;
      writes = writes_stop sink stop;
    })
no_profile {source0 = source0} {source1 = source1} {reading = reading} setting sink end (Unlike m name h d e) =
    subst (λ (x : RunEnd). RunsTo setting (outside source0 sink) (outside source1 sink) x) (sym e)
    (record {
      split = split_of reading h.taken h.lines;
      events = [];
      input = takes_of h.stands;
      script = inr (refl, Whole h.gives.text h.gives.has);
      ends = (refl, record { m = m; gives = h.gives; differs = d });
      prints = (writes_none setting sink).prints;
      reads = h.stands.reads;
      writes = none_failed sink;
    })
no_profile {source0 = source0} {source1 = source1} {reading = reading} setting sink end (Uncompared m h e) =
    subst (λ (x : RunEnd). RunsTo setting (outside source0 sink) (outside source1 sink) x) (sym e)
    (record {
      split = split_of reading h.taken h.lines;
      events = [];
      input = takes_of h.stands;
      script = inr (refl, Whole h.gives.text h.gives.has);
      ends = tt;
      prints = front_all (writes_none setting sink).prints;
      reads = h.stands.reads;
      writes = none_failed sink;
    })

-- out of memory before the run begins
pub no_world : {source0 source1 : SourceAt} {reading : Reading} (setting : Setting) (sink : SinkAt) → HasProfile source0 source1 reading
    → RunsTo setting (outside source0 sink) (outside source1 sink) (Common Memory)
no_world {source0 = source0} {source1 = source1} {reading = reading} setting sink p =
    let h = p.has in
    record {
      split = split_of reading h.taken h.lines;
      events = [];
      input = takes_of h.stands;
      script = inl (record {
        front = h.lines;
        lines = [];
        found = p.found;
        parts = sym (append-nil h.lines);
        gives = h.gives;
        profile = p.profile;
        are = refl;
      });
      ends = tt;
      prints = front_all (writes_none setting sink).prints;
      reads = h.stands.reads;
      writes = none_failed sink;
    }

-- ---- a line after the module

by_stop : {setting : Setting} {first : OutsideAt} {old : RunAt} (new : RunAt) {count : ℕ} (line : Line) (end : RunEnd)
    → SoFar setting first old count
    → NextMeets old.reading new.reading old.source new.source (Ok (Some line)) → LineStops line end
    → RunsTo setting first (outside new.source old.work.sink) end
by_stop {setting = setting} {first = first} {old = old} new line end s m (Refused reason skip read e) =
    let script = script_on s (rest_of first.source new.source) m.taken (old.reading.kept ++ m.taken) m.answers.going in
    subst (λ (x : RunEnd). RunsTo setting first (outside new.source old.work.sink) x) (sym e)
    (record {
      split = input_split (s.taken ++ m.taken) (s.front ++ s.lines) (old.reading.kept ++ m.taken);
      events = s.events;
      input = takes_on s.stands m.answers.going m;
      script = inl script;
      ends = inr (
        reached_goes s.reached,
        record {
          before = script;
          line = line.text;
          next = comes_next first.source line m;
          at = m.answers.number ∙ ap (λ (n : ℕ). n + 1) s.stands.count;
          skip = skip;
          wrong = read;
        },
      );
      prints = s.writes.prints;
      reads = no_read_then s.stands.reads (record { faults = m.faults; failed = m.failed });
      writes = s.writes.none;
    })
by_stop {setting = setting} {first = first} {old = old} new line end s m (NoMemory e) =
    subst (λ (x : RunEnd). RunsTo setting first (outside new.source old.work.sink) x) (sym e)
    (record {
      split = input_split (s.taken ++ m.taken) (s.front ++ s.lines) (old.reading.kept ++ m.taken);
      events = s.events;
      input = takes_on s.stands m.answers.going m;
      script = inl (script_on s (rest_of first.source new.source) m.taken (old.reading.kept ++ m.taken) m.answers.going);
      ends = tt;
      prints = front_all s.writes.prints;
      reads = no_read_then s.stands.reads (record { faults = m.faults; failed = m.failed });
      writes = s.writes.none;
    })

-- ---- an event in which the run stops

prints_end : {before after : SinkAt} {text : List ℕ} (place : ℕ) (cause : Cause) → Prints before after text
    → PrintsTo before after text (end_at place cause)
prints_end place (causes.Outstanding o) h = h
prints_end place (causes.Spent counter) h = h
prints_end place causes.Memory h = front_all h

reads_end : {before after : SourceAt} (place : ℕ) (cause : Cause) → ReadsUntil before after (Done 0)
    → ReadsUntil before after (end_at place cause)
reads_end place (causes.Outstanding o) h = h
reads_end place (causes.Spent counter) h = h
reads_end place causes.Memory h = h

writes_end : {before after : SinkAt} (place : ℕ) (cause : Cause) → WritesUntil before after (Done 0)
    → WritesUntil before after (end_at place cause)
writes_end place (causes.Outstanding o) h = h
writes_end place (causes.Spent counter) h = h
writes_end place causes.Memory h = h

module _ (setting : Setting) (left : Option (List ℕ)) (split : InputSplit) (events : List Event) (place : ℕ) (why : Stop) where
  meets_end : (cause : Cause) → stop_by cause ≡ Some why → StopsInLast setting left split events place why
      → RunEndMeets setting left split events (end_at place cause)
  meets_end (causes.Outstanding o) e h =
      let same : why ≡ outstanding o.key o.span o.window = cc in
      subst (λ (w : Stop). StopsInLast setting left split events place w) same h
  meets_end (causes.Spent counter) e h =
      let same : why ≡ spent_counter counter = cc in
      subst (λ (w : Stop). StopsInLast setting left split events place w) same h
  meets_end causes.Memory e h = tt

by_apply : {setting : Setting} {first : OutsideAt} {old : RunAt} (new : RunAt) {count : ℕ} (line : Line) (event : Event) (end : RunEnd)
    → SoFar setting first old count
    → NextMeets old.reading new.reading old.source new.source (Ok (Some line)) → IsEvent line.text event
    → ApplyStops setting old.work new.work (line.number, event) end → RunsTo setting first (outside_of new) end
by_apply {setting = setting} {first = first} {old = old} new line event end s m is (Ended steps cause why is_why ends e w) =
    let stands = stands_more s new line m in
    let script = script_with s new line m event is in
    let split = split_of new.reading (s.taken ++ m.taken) (s.front ++ (s.lines ++ line.text ∷ [])) in
    let writes : WritesAll first.sink new.work.sink (run_text setting (s.events ++ event ∷ [])) = subst (λ (text : List ℕ). WritesAll first.sink new.work.sink text) (sym (text_more s event)) (all_more s.writes w) in
    let last : StopsInLast setting (rest_of first.source new.source) split (s.events ++ event ∷ []) line.number why = record {
      script = script;
      earlier = s.events;
      last = event;
      lines = s.front ++ s.lines;
      line = line.text;
      parts = refl;
      line_parts = sym (append_assoc s.front s.lines (line.text ∷ []));
      means = event_means line.text event is;
      goes = reached_goes s.reached;
      stops = reached_stops s.reached event steps why ends;
      at = sym m.answers.lines ∙ stands.count;
      few = stands.few;
    } in
    subst (λ (x : RunEnd). RunsTo setting first (outside_of new) x) (sym e)
    (record {
      split = split;
      events = s.events ++ event ∷ [];
      input = takes_of stands;
      script = inl script;
      ends = meets_end setting (rest_of first.source new.source) split (s.events ++ event ∷ []) line.number why cause is_why last;
      prints = prints_end line.number cause writes.prints;
      reads = reads_end line.number cause stands.reads;
      writes = writes_end line.number cause writes.none;
    })
by_apply {setting = setting} {first = first} {old = old} new line event end s m is (Faulty e cut) =
    let stands = stands_more s new line m in
    subst (λ (x : RunEnd). RunsTo setting first (outside_of new) x) (sym e)
    (record {
      split = split_of new.reading (s.taken ++ m.taken) (s.front ++ (s.lines ++ line.text ∷ []));
      events = s.events ++ event ∷ [];
      input = takes_of stands;
      script = inl (script_with s new line m event is);
      ends = tt;
      prints = subst (λ (text : List ℕ). PrintsFront first.sink new.work.sink text) (sym (text_more s event)) (front_more s.writes.prints cut.prints);
      reads = stands.reads;
      writes = none_then_last s.writes.none cut.last;
    })
by_apply {setting = setting} {first = first} {old = old} new line event end s m is (NoRoom e same) =
    let stands = stands_more s new line m in
    subst (λ (x : RunEnd). RunsTo setting first (outside_of new) x) (sym e)
    (subst (λ (sink : SinkAt). RunsTo setting first (outside new.source sink) (Common Memory)) (sym same)
    (record {
      split = split_of new.reading (s.taken ++ m.taken) (s.front ++ (s.lines ++ line.text ∷ []));
      events = s.events ++ event ∷ [];
      input = takes_of stands;
      script = inl (script_with s new line m event is);
      ends = tt;
      prints = subst (λ (text : List ℕ). PrintsFront first.sink old.work.sink text) (sym (text_more s event))
          (front_of (text_at setting old.work.world event) (front_all s.writes.prints));
      reads = stands.reads;
      writes = s.writes.none;
    }))

at_work : {setting : Setting} {first : OutsideAt} (old new : RunAt) (end : RunEnd) → new.work ≡ old.work
    → RunsTo setting first (outside new.source old.work.sink) end
    → RunsTo setting first (outside_of new) end
at_work {setting = setting} {first = first} old new end same r =
    subst (λ (work : WorkAt). RunsTo setting first (outside new.source work.sink) end) (sym same) r

-- ---- at the exits of the code

-- out of memory before the first read
pub no_reader : (setting : Setting) (source : SourceAt) (sink : SinkAt)
    → RunsTo setting (outside source sink) (outside source sink) (Common Memory)
no_reader setting source sink = record {
  split = split_of fresh [] [];
  events = [];
  input = takes_of (stands_first source);
  script = inr (refl, Unfinished (AtHeader refl));
  ends = tt;
  prints = front_none sink _;
  reads = no_read_failed source;
  writes = none_failed sink;
}

pub turns_at : {setting : Setting} {first : OutsideAt} {old : RunAt} (new : RunAt) {count : ℕ} (more : ℕ) (found : Option ℕ)
    → SoFar setting first old count
    → found ≡ Some more → TurnMeets setting old new (Ok found)
    → SoFar setting first new (count + more)
turns_at {setting = setting} {old = old} new more found s e t =
    let taken : TakesLine setting old new more = subst (λ (o : Option ℕ). TurnMeets setting old new (Ok o)) e t in
    by_line new more taken.line s taken.meets taken.applies

pub ends_at_done : {setting : Setting} {first : OutsideAt} {old : RunAt} (new : RunAt) {count : ℕ} (found : Option ℕ)
    → SoFar setting first old count → found ≡ None
    → TurnMeets setting old new (Ok found)
    → RunsTo setting first (outside_of new) (Done count)
ends_at_done {setting = setting} {old = old} new found s e t = ends_done new s (subst (λ (o : Option ℕ). TurnMeets setting old new (Ok o)) e t)

pub turn_stops : {setting : Setting} {first : OutsideAt} {old : RunAt} (new : RunAt) {count : ℕ} (end : RunEnd) → SoFar setting first old count
    → TurnStops setting old new end
    → RunsTo setting first (outside_of new) end
turn_stops {old = old} new end s (Unread why how e same) =
    at_work old new end same (unread new.reading new.source end why s how e)
turn_stops {old = old} new end s (Unapplied line m how same) = at_work old new end same (by_stop new line end s m how)
turn_stops new end s (Halted line event m is how) = by_apply new line event end s m is how

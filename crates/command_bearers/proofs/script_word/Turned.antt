-- A script so far, one turn more, and each of its ends.
use Rattle.std.proofs.Common.{◌≡◌, ◌<◌, ℕ, ◌+◌, List, [], ◌∷◌, ◌++◌, length, true, false, Option, Some, None, Result, Ok, Err, refl, sym, ap, ◌∙◌, subst, length-append, arith}
use Rattle.std.specs.Prelude.{IfOk}
use Rattle.gnb_base.specs.declared.lines.Line.{Line}
use Rattle.gnb_base.specs.Outside.{SourceAt, SinkAt}
use Rattle.gnb_base.specs.Reading.{Reading, fresh, still_to_come, NextMeets}
use Rattle.command_defs.specs.declared.input_defs.InputEnd.{InputEnd}
use Rattle.command_defs.specs.declared.input_defs.InputEnd.TheVariants as inputs
use Rattle.command_defs.specs.input_defs.Faults.{FaultsOfEnd}
use Rattle.command_defs.specs.input_defs.Split.{InputSplit, input_split, rest_of}
use Rattle.command_defs.specs.input_defs.Ends.{EndsReading, IsReadToEnd}
use Rattle.command_defs.specs.input_defs.Standing.{StandsAfter, split_of}
use Rattle.commands.specs.input_lines.ReadsLine.{StopsReading}
use Rattle.commands.proofs.input_lines.Sources.{none_failed as no_read_failed, none_then_none as no_read_then}
use Rattle.commands.proofs.input_lines.Standing.{stands_first, takes_of, line_stands, comes_next, ends_at}
use Rattle.commands.proofs.input_lines.Stopped.{stops_at, takes_on}
use Rattle.scenario_text.specs.Grammar.{is_skipped}
use Rattle.command_defs.specs.declared.CommonEnd.TheVariants.{WriteFault, Memory}
use Rattle.command_defs.specs.Ends.{end_of_input}
use Rattle.command_defs.specs.Outside.{OutsideAt, outside}
use Rattle.command_defs.specs.Output.{Prints, PrintsFront}
use Rattle.commands.specs.command_output.Writes.{WritesAll, WritesFront}
use Rattle.commands.proofs.command_output.Written.{none_failed, none_then_last, all_none, all_more, front_none, front_more, front_of, front_all}
use Rattle.command_bearers.specs.declared.script_word.end.StopCause.{StopCause}
use Rattle.command_bearers.specs.declared.script_word.end.ScriptEnd.{ScriptEnd}
use Rattle.command_bearers.specs.declared.script_word.end.ScriptEnd.TheVariants.{Done, Stopped, Common}
use Rattle.command_bearers.specs.declared.script_word.word.Happening.{Happening}
use Rattle.command_bearers.specs.script_word.Meaning.{WordMeaning, IsLawful}
use Rattle.command_bearers.specs.script_word.Run.{AreEvents, IsWrongLine, EndsInLast, EndMeets}
use Rattle.command_bearers.specs.script_word.inside.Applied.{IsApplied}
use Rattle.command_bearers.specs.script_word.inside.Stops.{RunsTo, PrintsTo, ReadsUntil, WritesUntil}
use Rattle.command_bearers.specs.script_word.inside.Turns.{RunAt, run_at, outside_of, SoFar, IsEvent, LineStops, Refused, NoMemory, TurnMeets}
use Rattle.command_bearers.proofs.script_word.Scripts.{event_means, script_skips, script_more}

-- ---- the begin

module _ {Event : Type 0} (m : WordMeaning Event) where
  pub begins : (Ran : List Event → Type 0) (source : SourceAt) (sink : SinkAt) (reading : Reading) → IsLawful m → reading ≡ fresh → Ran []
      → SoFar m Ran (outside source sink) (run_at reading source sink 0)
  begins Ran source sink reading lawful f ran = record {
    taken = [];
    lines = [];
    events = [];
    stands = subst (λ (r : Reading). StandsAfter source source r [] []) (sym f) (stands_first source);
    are = refl;
    writes = subst (λ (text : List ℕ). WritesAll sink sink text) (sym lawful.no_text) (all_none sink);
    ran = ran;
    goes = lawful.goes_first;
    counted = refl;
    few = omega arith;
    bounded = omega arith;
  }

  -- out of memory before the first read
  pub no_room : (source : SourceAt) (sink : SinkAt) → RunsTo m (outside source sink) (outside source sink) (Common Memory)
  no_room source sink = record {
    split = split_of fresh [] [];
    events = [];
    input = takes_of (stands_first source);
    are = refl;
    ends = tt;
    prints = front_none sink _;
    reads = no_read_failed source;
    writes = none_failed sink;
  }

-- ---- the reads and writes up to an end of the input

reads_input : (before after : SourceAt) (why : InputEnd) → FaultsOfEnd before after why → ReadsUntil before after (Common (end_of_input why))
reads_input before after (inputs.ReadFault taken) h = h
reads_input before after inputs.TooLong h = h
reads_input before after inputs.Memory h = h

prints_input : {before after : SinkAt} {text : List ℕ} (why : InputEnd) → WritesAll before after text
    → PrintsTo before after text (Common (end_of_input why))
prints_input (inputs.ReadFault taken) h = h.prints
prints_input inputs.TooLong h = h.prints
prints_input inputs.Memory h = front_all h.prints

writes_input : {before after : SinkAt} {text : List ℕ} (why : InputEnd) → WritesAll before after text
    → WritesUntil before after (Common (end_of_input why))
writes_input (inputs.ReadFault taken) h = h.none
writes_input inputs.TooLong h = h.none
writes_input inputs.Memory h = h.none

module _ {Event : Type 0} (m : WordMeaning Event) where
  meets_input : (left : Option (List ℕ)) (split : InputSplit) (events : List Event) (why : InputEnd) → m.stopped events ≡ None
      → EndsReading split why → EndMeets m left split events (Common (end_of_input why))
  meets_input left split events (inputs.ReadFault taken) goes h = (goes, h)
  meets_input left split events inputs.TooLong goes h = (goes, h)
  meets_input left split events inputs.Memory goes h = tt

-- ---- one turn more

module _ {Event : Type 0} {m : WordMeaning Event} {Ran : List Event → Type 0} {first : OutsideAt} {old : RunAt} (s : SoFar m Ran first old) where
  -- the input has ended
  ends_done : (new : Reading) (after : SourceAt) → NextMeets old.reading new old.source after (Ok None)
      → RunsTo m first (outside after old.sink) (Done old.count)
  ends_done new after t =
      let end = ends_at s.stands t in
      let all : IsReadToEnd (rest_of first.source after) (input_split (s.taken ++ t.taken) s.lines []) = record { nothing = refl; at_end = end.at_end } in
      record {
        split = input_split (s.taken ++ t.taken) s.lines [];
        events = s.events;
        input = end.takes;
        are = s.are;
        ends = (s.goes, all, s.counted);
        prints = s.writes.prints;
        reads = no_read_then s.stands.reads (record { faults = t.faults; failed = t.failed });
        writes = s.writes.none;
      }

  -- no line could be read
  unread : (new : Reading) (after : SourceAt) (why : InputEnd) → StopsReading old.reading new old.source after why
      → RunsTo m first (outside after old.sink) (Common (end_of_input why))
  unread new after why how =
      let stop = stops_at s.stands why how in
      record {
        split = input_split (s.taken ++ how.meets.taken) s.lines (old.reading.kept ++ how.meets.taken);
        events = s.events;
        input = stop.takes;
        are = s.are;
        ends = meets_input m (rest_of first.source after) _ s.events why s.goes stop.ends;
        prints = prints_input why s.writes;
        reads = reads_input _ _ why stop.reads;
        writes = writes_input why s.writes;
      }

  module _ (new : Reading) (after : SourceAt) (line : Line) (t : NextMeets old.reading new old.source after (Ok (Some line))) where
    stands_more : StandsAfter first.source after new (s.taken ++ t.taken) (s.lines ++ line.text ∷ [])
    stands_more = line_stands line s.stands t

    skips : is_skipped line.text ≡ true → SoFar m Ran first (run_at new after old.sink old.count)
    skips skip = record {
      taken = s.taken ++ t.taken;
      lines = s.lines ++ line.text ∷ [];
      events = s.events;
      stands = stands_more;
      are = script_skips m s.lines line.text s.events s.are skip;
      writes = s.writes;
      ran = s.ran;
      goes = s.goes;
      counted = s.counted;
      few = omega (arith, s.few, t.answers.lines, t.answers.number);
      bounded = s.bounded;
    }

    -- the line is not applied
    line_stops : (end : ScriptEnd) → LineStops m line end → RunsTo m first (outside after old.sink) end
    line_stops end (Refused reason skip read e) =
        let wrong : IsWrongLine m (rest_of first.source after) (input_split (s.taken ++ t.taken) s.lines (old.reading.kept ++ t.taken)) line.number reason = record {
          line = line.text;
          next = comes_next first.source line t;
          at = t.answers.number ∙ ap (λ (n : ℕ). n + 1) s.stands.count;
          skip = skip;
          wrong = read;
        } in
        subst (λ (x : ScriptEnd). RunsTo m first (outside after old.sink) x) (sym e)
        (record {
          split = input_split (s.taken ++ t.taken) s.lines (old.reading.kept ++ t.taken);
          events = s.events;
          input = takes_on s.stands t.answers.going t;
          are = s.are;
          ends = (s.goes, wrong);
          prints = s.writes.prints;
          reads = no_read_then s.stands.reads (record { faults = t.faults; failed = t.failed });
          writes = s.writes.none;
        })
    line_stops end (NoMemory e) =
        subst (λ (x : ScriptEnd). RunsTo m first (outside after old.sink) x) (sym e)
        (record {
          split = input_split (s.taken ++ t.taken) s.lines (old.reading.kept ++ t.taken);
          events = s.events;
          input = takes_on s.stands t.answers.going t;
          are = s.are;
          ends = tt;
          prints = front_all s.writes.prints;
          reads = no_read_then s.stands.reads (record { faults = t.faults; failed = t.failed });
          writes = s.writes.none;
        })

    -- the event was applied to the code's run, which is the second one after it
    module _ {InRange : Event → Type 0} {After : List Event → Type 0} {event : Event} {h : Happening} (is : IsEvent m InRange line.text event) (applied : IsApplied m After s.events event h) (sink : SinkAt) where
      are_more : AreEvents m (s.lines ++ line.text ∷ []) (s.events ++ event ∷ [])
      are_more = script_more m s.lines line.text s.events event s.are (event_means m InRange line.text event is)

      text_more : WritesAll old.sink sink h.text → WritesAll first.sink sink (m.text (s.events ++ event ∷ []))
      text_more w = subst (λ (text : List ℕ). WritesAll first.sink sink text) (sym applied.text) (all_more s.writes w)

      goes_more : h.cause ≡ None → WritesAll old.sink sink h.text → SoFar m After first (run_at new after sink (old.count + 1))
      goes_more none w = record {
        taken = s.taken ++ t.taken;
        lines = s.lines ++ line.text ∷ [];
        events = s.events ++ event ∷ [];
        stands = stands_more;
        are = are_more;
        writes = text_more w;
        ran = applied.goes none;
        goes = applied.stops ∙ none;
        counted = ap (λ (n : ℕ). n + 1) s.counted ∙ sym (length-append s.events (event ∷ []));
        few = omega (arith, s.few, t.answers.lines, t.answers.number);
        bounded = omega (arith, s.few, t.answers.lines, t.answers.number, t.answers.counted, t.answers.within);
      }

      stops_more : (cause : StopCause) → h.cause ≡ Some cause → WritesAll old.sink sink h.text
          → RunsTo m first (outside after sink) (Stopped line.number cause)
      stops_more cause some w =
          let last : EndsInLast m (split_of new (s.taken ++ t.taken) (s.lines ++ line.text ∷ [])) (s.events ++ event ∷ []) line.number cause = record {
            earlier = s.events;
            last = event;
            lines = s.lines;
            line = line.text;
            parts = refl;
            line_parts = refl;
            means = event_means m InRange line.text event is;
            goes = s.goes;
            stops = applied.stops ∙ some;
            at = sym t.answers.lines ∙ stands_more.count;
            few = stands_more.few;
          } in
          record {
            split = split_of new (s.taken ++ t.taken) (s.lines ++ line.text ∷ []);
            events = s.events ++ event ∷ [];
            input = takes_of stands_more;
            are = are_more;
            ends = last;
            prints = (text_more w).prints;
            reads = stands_more.reads;
            writes = (text_more w).none;
          }

      cut_in : WritesFront old.sink sink h.text → RunsTo m first (outside after sink) (Common WriteFault)
      cut_in cut = record {
        split = split_of new (s.taken ++ t.taken) (s.lines ++ line.text ∷ []);
        events = s.events ++ event ∷ [];
        input = takes_of stands_more;
        are = are_more;
        ends = tt;
        prints = subst (λ (text : List ℕ). PrintsFront first.sink sink text) (sym applied.text) (front_more s.writes.prints cut.prints);
        reads = stands_more.reads;
        writes = none_then_last s.writes.none cut.last;
      }

-- ---- at the exits of the code

module _ {Event : Type 0} (m : WordMeaning Event) (Ran : List Event → Type 0) (first : OutsideAt) (now : RunAt) where
  pub turn_on : (more : ℕ) (found : Option ℕ) → found ≡ Some more → TurnMeets m Ran first now (Ok found)
      → SoFar m Ran first (record now { count = now.count + more })
  turn_on more found e t = subst (λ (o : Option ℕ). TurnMeets m Ran first now (Ok o)) e t

  pub turn_ends : (found : Option ℕ) → found ≡ None → TurnMeets m Ran first now (Ok found) → RunsTo m first (outside_of now) (Done now.count)
  turn_ends found e t = subst (λ (o : Option ℕ). TurnMeets m Ran first now (Ok o)) e t

pub no_turn : (P : Option ℕ → Type 0) (end : ScriptEnd) (result : Result (Option ℕ) ScriptEnd) → result ≡ Err end → IfOk result P
no_turn P end result e = subst (λ (r : Result (Option ℕ) ScriptEnd). IfOk r P) (sym e) tt

module _ {old new : Reading} {before after : SourceAt} (found : Option Line) (t : NextMeets old new before after (Ok found)) (line : Line) (is : found ≡ Some line) where
  handed : NextMeets old new before after (Ok (Some line))
  handed = subst (λ (o : Option Line). NextMeets old new before after (Ok o)) is t

  pub turn_falls : still_to_come new < still_to_come old
  turn_falls = handed.answers.falls

module _ {Event : Type 0} {m : WordMeaning Event} {Ran : List Event → Type 0} {first : OutsideAt} {old : RunAt} (s : SoFar m Ran first old) (new : Reading) (after : SourceAt) where
  turn_result : (After : List Event → Type 0) (why end : ScriptEnd) (result : Result (Option ℕ) ScriptEnd) → result ≡ Err end → end ≡ why
      → RunsTo m first (outside after old.sink) why → TurnMeets m After first (run_at new after old.sink old.count) result
  turn_result After why end result e f r =
      subst (λ (x : Result (Option ℕ) ScriptEnd). TurnMeets m After first (run_at new after old.sink old.count) x)
      (sym (e ∙ ap (λ (x : ScriptEnd). Err x) f)) r

  pub turn_unread : (After : List Event → Type 0) (why : InputEnd) (end : ScriptEnd) (result : Result (Option ℕ) ScriptEnd)
      → StopsReading old.reading new old.source after why → result ≡ Err end → end ≡ Common (end_of_input why)
      → TurnMeets m After first (run_at new after old.sink old.count) result
  turn_unread After why end result how e f = turn_result After (Common (end_of_input why)) end result e f (unread s new after why how)

  module _ (found : Option Line) (t : NextMeets old.reading new old.source after (Ok found)) where
    pub turn_done : found ≡ None → RunsTo m first (outside after old.sink) (Done old.count)
    turn_done e = ends_done s new after (subst (λ (o : Option Line). NextMeets old.reading new old.source after (Ok o)) e t)

    module _ (line : Line) (is : found ≡ Some line) where
      pub turn_skips : is_skipped line.text ≡ true → SoFar m Ran first (run_at new after old.sink (old.count + 0))
      turn_skips skip =
          let e : old.count ≡ old.count + 0 = omega arith in
          subst (λ (n : ℕ). SoFar m Ran first (run_at new after old.sink n)) e (skips s new after line (handed found t line is) skip)

      pub turn_refused : (After : List Event → Type 0) (why end : ScriptEnd) (result : Result (Option ℕ) ScriptEnd) → LineStops m line why
          → result ≡ Err end → end ≡ why → TurnMeets m After first (run_at new after old.sink old.count) result
      turn_refused After why end result how e f =
          turn_result After why end result e f (line_stops s new after line (handed found t line is) why how)

      pub turn_no_memory : RunsTo m first (outside after old.sink) (Common Memory)
      turn_no_memory = line_stops s new after line (handed found t line is) (Common Memory) (NoMemory refl)

      module _ {InRange : Event → Type 0} {After : List Event → Type 0} (event : Event) (h : Happening) (reads : IsEvent m InRange line.text event) (applied : IsApplied m After s.events event h) (sink : SinkAt) (text : List ℕ) (same : text ≡ h.text) where
        pub turn_applied : h.cause ≡ None → WritesAll old.sink sink text → SoFar m After first (run_at new after sink (old.count + 1))
        turn_applied none w =
            goes_more s new after line (handed found t line is) reads applied sink none (subst (λ (x : List ℕ). WritesAll old.sink sink x) same w)

        pub turn_stopped : (cause : StopCause) → h.cause ≡ Some cause → WritesAll old.sink sink text
            → RunsTo m first (outside after sink) (Stopped line.number cause)
        turn_stopped cause some w =
            stops_more s new after line (handed found t line is) reads applied sink cause some (subst (λ (x : List ℕ). WritesAll old.sink sink x) same w)

        pub turn_cut : WritesFront old.sink sink text → RunsTo m first (outside after sink) (Common WriteFault)
        turn_cut w = cut_in s new after line (handed found t line is) reads applied sink (subst (λ (x : List ℕ). WritesFront old.sink sink x) same w)

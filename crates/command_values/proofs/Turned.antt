-- The lines so far, one turn more, and each of its ends.
use Rattle.std.proofs.Common.{◌≡◌, ℕ, ◌+◌, List, [], ◌∷◌, ◌++◌, length, Bool, true, false, Option, Some, None, Ok, refl, sym, ap, ◌∙◌, subst, inl, inr, append-nil, append_assoc}
use Rattle.gnb_base.specs.declared.lines.Line.{Line}
use Rattle.gnb_base.specs.declared.lines.ReadPhase.TheVariants as phases
use Rattle.gnb_base.specs.Outside.{SourceAt, SinkAt}
use Rattle.gnb_base.specs.Reading.{Reading, fresh, NextMeets}
use Rattle.command_defs.specs.declared.input_defs.InputEnd.{InputEnd}
use Rattle.command_defs.specs.declared.input_defs.InputEnd.TheVariants as inputs
use Rattle.command_defs.specs.input_defs.Faults.{FaultsOfEnd}
use Rattle.command_defs.specs.input_defs.Split.{InputSplit, input_split, rest_of, joined}
use Rattle.command_defs.specs.input_defs.Ends.{EndsReading, IsReadToEnd}
use Rattle.command_defs.specs.input_defs.Standing.{StandsAfter, split_of}
use Rattle.commands.specs.input_lines.ReadsLine.{StopsReading}
use Rattle.commands.proofs.input_lines.Sources.{none_failed as no_read_failed, none_then_none as no_read_then}
use Rattle.commands.proofs.input_lines.Standing.{stands_first, takes_of, line_stands, comes_next, ends_at, both_nil, joined-more}
use Rattle.commands.proofs.input_lines.Stopped.{stops_at, going_at, takes_on}
use Rattle.asn1_syntax.specs.declared.assignments.assignment.Syntax.{Syntax}
use Rattle.asn1_defs.specs.Readings.{Reads}
use Rattle.asn1_defs.specs.Targets.{find_type, type_ids}
use Rattle.asn1_tokens.specs.Words.{is_text}
use Rattle.profile.specs.declared.version.Version.{Version}
use Rattle.profile.specs.declared.version.Version.TheVariants.{Two}
use Rattle.profile.specs.Versions.{text_of}
use Rattle.message_defs.specs.profile_defs.Profile.{module_name}
use Rattle.message_defs.specs.profile_defs.Agreement.{Agrees}
use Rattle.profile.specs.profile_module.Profiles.{types_of, ProfileAt, IsBuiltin}
use Rattle.commands.specs.declared.input_module.module.GivenModule.{GivenModule}
use Rattle.commands.specs.declared.input_module.module.GivenModule.TheVariants as given
use Rattle.commands.specs.declared.input_module.stop.ModuleStop.{ModuleStop}
use Rattle.commands.specs.declared.input_module.stop.ModuleStop.TheVariants as stops
use Rattle.commands.specs.input_module.Module.{GivesModule, StopsModule, IsWrongModule, Empty, NoHeader, Unended, IsPart, Unfinished, Whole, AtHeader}
use Rattle.commands.specs.input_module.Taking.{FaultsOfStop, StillGives, StopsTaking, HasModule}
use Rattle.commands.proofs.input_module.Given.{gives_at_end}
use Rattle.commands.specs.command_check.Check.{IsModuleOf}
use Rattle.command_defs.specs.declared.CommonEnd.TheVariants.{Memory}
use Rattle.command_defs.specs.Ends.{end_of_input}
use Rattle.command_defs.specs.Outside.{OutsideAt, outside}
use Rattle.commands.specs.command_output.Writes.{WritesAll}
use Rattle.commands.proofs.command_output.Written.{none_failed, all_none, all_more, front_none, front_all}
use Rattle.scenario_text.specs.declared.script_words.reason.TextReason.{TextReason}
use Rattle.command_values.specs.declared.way.Way.{Way}
use Rattle.command_values.specs.declared.end.Stop.TheVariants.{NoType, Value}
use Rattle.command_values.specs.declared.end.ValuesEnd.{ValuesEnd}
use Rattle.command_values.specs.declared.end.ValuesEnd.TheVariants.{Done, Stopped, Common}
use Rattle.command_values.specs.declared.lines.Task.{Task}
use Rattle.command_values.specs.Answers.{IsAnswered, IsWrong, AreAnswered}
use Rattle.command_values.specs.Values.{Job, HasValues, Part, Given, Passes, ValuesEndMeets}
use Rattle.command_values.specs.inside.Stops.{RunsTo, PrintsTo, ReadsUntil, WritesUntil, end_of_stop}
use Rattle.command_values.specs.inside.Turns.{RunAt, outside_of, TaskAnswers, Writes, WriteStops, Refused, NoRoom, TakesLine, TakesEnd, TurnStops, Unread, Unanswered, TurnMeets, HasGiven, Begins, Continues, ContinuesModule, ContinuesGiven}

-- the lines that were handed out give the module, and then lines whose answers were written
pub record SoFar (job : Job) (task : Task) (first : OutsideAt) (now : RunAt) : Type 0 where
  pub taken : List ℕ
  pub front : List (List ℕ)
  pub lines : List (List ℕ)
  pub texts : List (List ℕ)
  pub found : GivenModule
  pub stands : StandsAfter first.source now.source now.reading taken (front ++ lines)
  pub gives : GivesModule Two (rest_of first.source now.source) (split_of now.reading taken (front ++ lines)) front found
  pub later : StillGives Two now.reading taken front found
  pub is : IsModuleOf found task.module.now
  pub has : find_type job.name task.module.now.assignments ≡ Some task.id
  pub way : task.way ≡ job.way
  pub are : AreAnswered job.way task.module.now task.id.number lines texts
  pub writes : WritesAll first.sink now.sink (joined texts)

-- ---- the begin

pub begins : (job : Job) (task : Task) (first : OutsideAt) (now : RunAt) → Begins job task first now → SoFar job task first now
begins job task first now b =
    let h = b.given.has in
    record {
      taken = h.taken;
      front = h.lines;
      lines = [];
      texts = [];
      found = b.found;
      stands = subst (λ (ls : List (List ℕ)). StandsAfter first.source now.source now.reading h.taken ls) (sym (append-nil h.lines)) h.stands;
      gives = subst (λ (ls : List (List ℕ)). GivesModule Two (rest_of first.source now.source) (split_of now.reading h.taken ls) h.lines b.found) (sym (append-nil h.lines)) h.gives;
      later = h.later;
      is = b.is;
      has = b.has;
      way = b.way;
      are = tt;
      writes = subst (λ (sink : SinkAt). WritesAll first.sink sink []) (sym b.given.same) (all_none first.sink);
    }

-- ---- one turn more

answers_more : (way : Way) (m : Syntax) (id : ℕ) (lines texts : List (List ℕ)) (line text : List ℕ) → AreAnswered way m id lines texts
    → IsAnswered way m id line text → AreAnswered way m id (lines ++ line ∷ []) (texts ++ text ∷ [])
answers_more way m id [] [] line text are is = (is, tt)
answers_more way m id [] (t ∷ texts) line text are is = absurd are
answers_more way m id (l ∷ lines) [] line text are is = absurd are
answers_more way m id (l ∷ lines) (t ∷ texts) line text are is = (are.0, answers_more way m id lines texts line text are.1 is)

module _ {job : Job} {task : Task} {first : OutsideAt} {old : RunAt} (s : SoFar job task first old) where
  -- what is taken after these lines leaves them and their answers
  values_on : (left : Option (List ℕ)) (more kept : List ℕ) → old.reading.phase ≡ phases.Going
      → HasValues job left (input_split (s.taken ++ more) (s.front ++ s.lines) kept) s.texts
  values_on left more kept going = record {
    front = s.front;
    lines = s.lines;
    found = s.found;
    m = task.module.now;
    id = task.id;
    parts = refl;
    gives = s.later going left (input_split (s.taken ++ more) (s.front ++ s.lines) kept) more refl;
    is = s.is;
    has = s.has;
    are = s.are;
  }

  own_way : (line text : List ℕ) → TaskAnswers task line text → IsAnswered job.way task.module.now task.id.number line text
  own_way line text h = subst (λ (way : Way). IsAnswered way task.module.now task.id.number line text) s.way h

  module _ (new : RunAt) (line : Line) (m : NextMeets old.reading new.reading old.source new.source (Ok (Some line))) where
    stands_more : StandsAfter first.source new.source new.reading (s.taken ++ m.taken) (s.front ++ (s.lines ++ line.text ∷ []))
    stands_more =
        subst (λ (ls : List (List ℕ)). StandsAfter first.source new.source new.reading (s.taken ++ m.taken) ls) (append_assoc s.front s.lines (line.text ∷ []))
        (line_stands line s.stands m)

    gives_more : GivesModule Two (rest_of first.source new.source) (split_of new.reading (s.taken ++ m.taken) (s.front ++ (s.lines ++ line.text ∷ []))) s.front s.found
    gives_more =
        s.later m.answers.going (rest_of first.source new.source) (split_of new.reading (s.taken ++ m.taken) (s.front ++ (s.lines ++ line.text ∷ []))) m.taken refl

    later_more : StillGives Two new.reading (s.taken ++ m.taken) s.front s.found
    later_more going left split more e = s.later m.answers.going left split (m.taken ++ more) (e ∙ append_assoc s.taken m.taken more)

    values_more : (text : List ℕ) → TaskAnswers task line.text text
        → HasValues job (rest_of first.source new.source) (split_of new.reading (s.taken ++ m.taken) (s.front ++ (s.lines ++ line.text ∷ []))) (s.texts ++ text ∷ [])
    values_more text is = record {
      front = s.front;
      lines = s.lines ++ line.text ∷ [];
      found = s.found;
      m = task.module.now;
      id = task.id;
      parts = refl;
      gives = gives_more;
      is = s.is;
      has = s.has;
      are = answers_more job.way task.module.now task.id.number s.lines s.texts line.text text s.are (own_way line.text text is);
    }

    answered : Writes task old.sink new.sink line.text → SoFar job task first new
    answered w = record {
      taken = s.taken ++ m.taken;
      front = s.front;
      lines = s.lines ++ line.text ∷ [];
      texts = s.texts ++ w.text ∷ [];
      found = s.found;
      stands = stands_more;
      gives = gives_more;
      later = later_more;
      is = s.is;
      has = s.has;
      way = s.way;
      are = answers_more job.way task.module.now task.id.number s.lines s.texts line.text w.text s.are (own_way line.text w.text w.answers);
      writes = subst (λ (text : List ℕ). WritesAll first.sink new.sink text) (sym (joined-more s.texts w.text)) (all_more s.writes w.all);
    }

-- ---- the end of the input

ends_done : {job : Job} {task : Task} {first : OutsideAt} {old : RunAt} (new : RunAt) → SoFar job task first old → TakesEnd old new
    → RunsTo job first (outside_of new) Done
ends_done {job = job} {task = task} {first = first} {old = old} new s t =
    let end = ends_at s.stands t.meets in
    let none = both_nil old.reading.kept t.meets.taken t.meets.answers.nothing in
    let split : InputSplit = input_split (s.taken ++ t.meets.taken) (s.front ++ s.lines) [] in
    let all : IsReadToEnd (rest_of first.source new.source) split = record { nothing = refl; at_end = end.at_end } in
    let writes = subst (λ (sink : SinkAt). WritesAll first.sink sink (joined s.texts)) (sym t.same) s.writes in
    let values : HasValues job (rest_of first.source new.source) split s.texts = record {
      front = s.front;
      lines = s.lines;
      found = s.found;
      m = task.module.now;
      id = task.id;
      parts = refl;
      gives = gives_at_end Two (rest_of first.source old.source) (rest_of first.source new.source) (split_of old.reading s.taken (s.front ++ s.lines)) split s.front s.found
          (ap (λ (bytes : List ℕ). s.taken ++ bytes) none.1 ∙ append-nil s.taken) refl all s.gives;
      is = s.is;
      has = s.has;
      are = s.are;
    } in
    record {
      split = split;
      texts = s.texts;
      input = end.takes;
      values = inl values;
      ends = (values, all);
      prints = writes.prints;
      reads = no_read_then s.stands.reads (record { faults = t.meets.faults; failed = t.meets.failed });
      writes = writes.none;
    }

-- ---- no line could be read

reads_input : (before after : SourceAt) (why : InputEnd) → FaultsOfEnd before after why → ReadsUntil before after (Common (end_of_input why))
reads_input before after (inputs.ReadFault taken) h = h
reads_input before after inputs.TooLong h = h
reads_input before after inputs.Memory h = h

meets_input : (job : Job) (left : Option (List ℕ)) (split : InputSplit) (texts : List (List ℕ)) (why : InputEnd)
    → Passes job left split texts → EndsReading split why → ValuesEndMeets job left split texts (Common (end_of_input why))
meets_input job left split texts (inputs.ReadFault taken) passes h = (passes, h)
meets_input job left split texts inputs.TooLong passes h = (passes, h)
meets_input job left split texts inputs.Memory passes h = tt

prints_input : {before after : SinkAt} {text : List ℕ} (why : InputEnd) → WritesAll before after text
    → PrintsTo before after text (Common (end_of_input why))
prints_input (inputs.ReadFault taken) h = h.prints
prints_input inputs.TooLong h = h.prints
prints_input inputs.Memory h = front_all h.prints

writes_input : {before after : SinkAt} {text : List ℕ} (why : InputEnd) → WritesAll before after text
    → WritesUntil before after (Common (end_of_input why))
writes_input (inputs.ReadFault taken) h = h.none
writes_input inputs.TooLong h = h.none
writes_input inputs.Memory h = h.none

unread : {job : Job} {task : Task} {first : OutsideAt} {old : RunAt} (new : Reading) (after : SourceAt) (end : ValuesEnd) (why : InputEnd)
    → SoFar job task first old → StopsReading old.reading new old.source after why → end ≡ Common (end_of_input why)
    → RunsTo job first (outside after old.sink) end
unread {job = job} {first = first} {old = old} new after end why s how e =
    let stop = stops_at s.stands why how in
    let values = values_on s (rest_of first.source after) how.meets.taken (old.reading.kept ++ how.meets.taken) (going_at s.stands how.error how.meets) in
    subst (λ (x : ValuesEnd). RunsTo job first (outside after old.sink) x) (sym e)
    (record {
      split = input_split (s.taken ++ how.meets.taken) (s.front ++ s.lines) (old.reading.kept ++ how.meets.taken);
      texts = s.texts;
      input = stop.takes;
      values = inl values;
      ends = meets_input job (rest_of first.source after) _ s.texts why (inr values) stop.ends;
      prints = prints_input why s.writes;
      reads = reads_input _ _ why stop.reads;
      writes = writes_input why s.writes;
    })

-- ---- a line that has no answer, or whose answer wasn't written

module _ {job : Job} {task : Task} {first : OutsideAt} {old : RunAt} (new : RunAt) (s : SoFar job task first old) (line : Line) (m : NextMeets old.reading new.reading old.source new.source (Ok (Some line))) where
  -- the line is looked at, and nothing more was written
  at_line : (end : ValuesEnd)
      → ValuesEndMeets job (rest_of first.source new.source) (input_split (s.taken ++ m.taken) (s.front ++ s.lines) (old.reading.kept ++ m.taken)) s.texts end
      → PrintsTo first.sink old.sink (joined s.texts) end → ReadsUntil first.source new.source end → WritesUntil first.sink old.sink end
      → RunsTo job first (outside new.source old.sink) end
  at_line end ends prints reads writes = record {
    split = input_split (s.taken ++ m.taken) (s.front ++ s.lines) (old.reading.kept ++ m.taken);
    texts = s.texts;
    input = takes_on s.stands m.answers.going m;
    values = inl (values_on s (rest_of first.source new.source) m.taken (old.reading.kept ++ m.taken) m.answers.going);
    ends = ends;
    prints = prints;
    reads = reads;
    writes = writes;
  }

  write_stops : (end : ValuesEnd) → WriteStops task old.sink new.sink line end → RunsTo job first (outside_of new) end
  unfolding values_on
  write_stops end (Refused wrong is e same) =
      let refused : IsWrong job.way task.module.now task.id.number line.text wrong =
      subst (λ (way : Way). IsWrong way task.module.now task.id.number line.text wrong) s.way is in
      subst (λ (x : ValuesEnd). RunsTo job first (outside_of new) x) (sym e)
      (subst (λ (sink : SinkAt). RunsTo job first (outside new.source sink) (Stopped (Value line.number wrong))) (sym same)
      (at_line (Stopped (Value line.number wrong))
      (record {
        before = values_on s (rest_of first.source new.source) m.taken (old.reading.kept ++ m.taken) m.answers.going;
        line = line.text;
        next = comes_next first.source line m;
        at = m.answers.number ∙ ap (λ (n : ℕ). n + 1) s.stands.count;
        wrong = refused;
      })
      s.writes.prints (no_read_then s.stands.reads (record { faults = m.faults; failed = m.failed })) s.writes.none))
  write_stops end (NoRoom e same) =
      subst (λ (x : ValuesEnd). RunsTo job first (outside_of new) x) (sym e)
      (subst (λ (sink : SinkAt). RunsTo job first (outside new.source sink) (Common Memory)) (sym same)
      (at_line (Common Memory) tt (front_all s.writes.prints) (no_read_then s.stands.reads (record { faults = m.faults; failed = m.failed })) s.writes.none))

at_sink : {job : Job} {first : OutsideAt} (old new : RunAt) (end : ValuesEnd) → new.sink ≡ old.sink
    → RunsTo job first (outside new.source old.sink) end → RunsTo job first (outside_of new) end
at_sink {job = job} {first = first} old new end same r =
    subst (λ (sink : SinkAt). RunsTo job first (outside new.source sink) end) (sym same) r

-- ---- at the exits of the loop

-- what the lines so far are, wherever the module was given
abbrev pub SoFarFrom : Task → RunAt → RunAt → Type 0
SoFarFrom task start now = (job : Job) (first : OutsideAt) → Begins job task first start → SoFar job task first now

pub turns_at : (task : Task) (start old new : RunAt) (found : Bool) → found ≡ true → SoFarFrom task start old
    → TurnMeets task old new (Ok found) → SoFarFrom task start new
turns_at task start old new found e so_far t job first b =
    let taken : TakesLine task old new = subst (λ (o : Bool). TurnMeets task old new (Ok o)) e t in
    answered (so_far job first b) new taken.line taken.meets taken.writes

pub ends_at_done : (task : Task) (start old new : RunAt) (found : Bool) → found ≡ false → SoFarFrom task start old
    → TurnMeets task old new (Ok found) → Continues task start new Done
ends_at_done task start old new found e so_far t job first b =
    ends_done new (so_far job first b) (subst (λ (o : Bool). TurnMeets task old new (Ok o)) e t)

pub turn_stops : (task : Task) (start old new : RunAt) (end : ValuesEnd) → SoFarFrom task start old → TurnStops task old new end
    → Continues task start new end
turn_stops task start old new end so_far (Unread why how e same) job first b =
    at_sink old new end same (unread new.reading new.source end why (so_far job first b) how e)
turn_stops task start old new end so_far (Unanswered line m how) job first b = write_stops new (so_far job first b) line m end how

-- ---- the module isn't given, or has no such type

part_of_wrong : (left : Option (List ℕ)) (split : InputSplit) (place : ℕ) (reason : TextReason) → IsWrongModule Two left split place reason
    → IsPart Two left split
part_of_wrong left split place reason (Empty e word) = Unfinished (AtHeader e.no_line)
part_of_wrong left split place reason (NoHeader e) = Unfinished (AtHeader e.none)
part_of_wrong left split place reason (Unended e) = Whole e.text e.has

part_of : (left : Option (List ℕ)) (split : InputSplit) (stop : ModuleStop) → StopsModule Two left split stop → IsPart Two left split
part_of left split (stops.NoModule line column reason) h = Whole h.text h.has
part_of left split (stops.Script place reason) h = part_of_wrong left split place reason h
part_of left split (stops.Input (inputs.ReadFault taken)) h = Unfinished h.0
part_of left split (stops.Input inputs.TooLong) h = Unfinished h.0
part_of left split (stops.Input inputs.Memory) h = h

meets_stop : (job : Job) (left : Option (List ℕ)) (split : InputSplit) (stop : ModuleStop) → StopsModule Two left split stop
    → ValuesEndMeets job left split [] (end_of_stop stop)
meets_stop job left split (stops.NoModule line column reason) h = (refl, h)
meets_stop job left split (stops.Script place reason) h = (refl, h)
meets_stop job left split (stops.Input (inputs.ReadFault taken)) h = (inl h.0, h.1)
meets_stop job left split (stops.Input inputs.TooLong) h = (inl h.0, h.1)
meets_stop job left split (stops.Input inputs.Memory) h = tt

prints_stop : (sink : SinkAt) (stop : ModuleStop) → PrintsTo sink sink [] (end_of_stop stop)
prints_stop sink (stops.NoModule line column reason) = (all_none sink).prints
prints_stop sink (stops.Script place reason) = (all_none sink).prints
prints_stop sink (stops.Input end) = prints_input end (all_none sink)

reads_stop : (before after : SourceAt) (stop : ModuleStop) → FaultsOfStop before after stop → ReadsUntil before after (end_of_stop stop)
reads_stop before after (stops.NoModule line column reason) h = h
reads_stop before after (stops.Script place reason) h = h
reads_stop before after (stops.Input end) h = reads_input before after end h

writes_stop : (sink : SinkAt) (stop : ModuleStop) → WritesUntil sink sink (end_of_stop stop)
writes_stop sink (stops.NoModule line column reason) = none_failed sink
writes_stop sink (stops.Script place reason) = none_failed sink
writes_stop sink (stops.Input end) = writes_input end (all_none sink)

pub no_module : (job : Job) {source0 source1 : SourceAt} (sink : SinkAt) (stop : ModuleStop) (end : ValuesEnd) → StopsTaking Two source0 source1 stop
    → end ≡ end_of_stop stop → RunsTo job (outside source0 sink) (outside source1 sink) end
no_module job {source0 = source0} {source1 = source1} sink stop end h e =
    subst (λ (x : ValuesEnd). RunsTo job (outside source0 sink) (outside source1 sink) x) (sym e)
    (record {
      split = h.split;
      texts = [];
      input = h.input;
      values = inr (refl, Part (part_of (rest_of source0 source1) h.split stop h.stops));
      ends = meets_stop job (rest_of source0 source1) h.split stop h.stops;
      prints = prints_stop sink stop;
      reads = reads_stop source0 source1 stop h.reads;
      writes = writes_stop sink stop;
    })

-- out of memory before the first read
pub no_reader : (job : Job) (source : SourceAt) (sink : SinkAt) → RunsTo job (outside source sink) (outside source sink) (Common Memory)
no_reader job source sink = record {
  split = split_of fresh [] [];
  texts = [];
  input = takes_of (stands_first source);
  values = inr (refl, Part (Unfinished (AtHeader refl)));
  ends = tt;
  prints = front_none sink _;
  reads = no_read_failed source;
  writes = none_failed sink;
}

-- with the module given nothing was answered yet
before_lines : (job : Job) (first : OutsideAt) (now : RunAt) (found : GivenModule) (end : ValuesEnd) → (h : HasGiven first now found)
    → ValuesEndMeets job (rest_of first.source now.source) (split_of now.reading h.has.taken h.has.lines) [] end
    → PrintsTo first.sink first.sink [] end → ReadsUntil first.source now.source end → WritesUntil first.sink first.sink end
    → RunsTo job first (outside_of now) end
before_lines job first now found end h ends prints reads writes =
    subst (λ (sink : SinkAt). RunsTo job first (outside now.source sink) end) (sym h.same)
    (record {
      split = split_of now.reading h.has.taken h.has.lines;
      texts = [];
      input = takes_of h.has.stands;
      values = inr (refl, Given found h.has.gives);
      ends = ends;
      prints = prints;
      reads = reads;
      writes = writes;
    })

pub no_type : (job : Job) (m : Syntax) (now : RunAt) → find_type job.name m.assignments ≡ None
    → ContinuesModule job m now now (Stopped NoType)
no_type job m now none first found h is =
    before_lines job first now found (Stopped NoType) h
    (refl, record { found = found; m = m; gives = h.has.gives; is = is; none = none })
    (all_none first.sink).prints h.has.stands.reads (none_failed first.sink)

pub no_profile : (job : Job) (found : GivenModule) (now : RunAt) → ContinuesGiven job found now now (Common Memory)
no_profile job found now first h =
    before_lines job first now found (Common Memory) h tt (front_all (all_none first.sink).prints) h.has.stands.reads (none_failed first.sink)

pub typed : (job : Job) (task : Task) (m : Syntax) (old new : RunAt) (end : ValuesEnd) → task.module.now ≡ m → task.way ≡ job.way
    → find_type job.name m.assignments ≡ Some task.id → Continues task old new end → ContinuesModule job m old new end
typed job task m old new end same way has c first found h is = c job first (record {
  found = found;
  given = h;
  is = subst (λ (x : Syntax). IsModuleOf found x) (sym same) is;
  has = subst (λ (x : Syntax). find_type job.name x.assignments ≡ Some task.id) (sym same) has;
  way = way;
})

pub ran : (job : Job) (source0 : SourceAt) (sink0 : SinkAt) (old new : RunAt) (found : GivenModule) (end : ValuesEnd)
    → HasModule Two source0 old.source old.reading found → old.sink ≡ sink0 → ContinuesGiven job found old new end
    → RunsTo job (outside source0 sink0) (outside_of new) end
ran job source0 sink0 old new found end has same c = c (outside source0 sink0) (record { has = has; same = same })

-- the module of a text
pub given_text : (job : Job) (found : GivenModule) (m k : Syntax) (old new : RunAt) (end : ValuesEnd) → found ≡ given.Text m → k ≡ m
    → ContinuesModule job k old new end → ContinuesGiven job found old new end
given_text job found m k old new end e same c first h =
    c first found h (subst (λ (x : GivenModule). IsModuleOf x k) (sym e) same)

-- the profile in a version
pub given_profile : (job : Job) (found : GivenModule) (version : Version) (read : ProfileAt) (k : Syntax) (old new : RunAt) (end : ValuesEnd)
    → found ≡ given.Builtin version → IsBuiltin version read → k ≡ read.syntax
    → ContinuesModule job k old new end → ContinuesGiven job found old new end
given_profile job found version read k old new end e is same c first h =
    let of_version : IsBuiltin version (record { syntax = k; version = version }) = record {
      version-is = refl;
      octets = is.octets;
      reads = subst (λ (x : Syntax). Reads (text_of version) is.octets x) (sym same) is.reads;
      agrees = subst (λ (x : Syntax). Agrees (types_of version) x) (sym same) is.agrees;
      name = subst (λ (x : Syntax). is_text x.name module_name ≡ true) (sym same) is.name;
      count = subst (λ (x : Syntax). length (type_ids x.assignments) ≡ 53) (sym same) is.count;
    } in
    c first found h (subst (λ (x : GivenModule). IsModuleOf x k) (sym e) of_version)

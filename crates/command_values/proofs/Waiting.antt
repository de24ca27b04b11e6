-- Answers that wait: they are written before a read, and at an end.
use Rattle.std.proofs.Common.{◌≡◌, ◌==◌, ◌<◌, ℕ, Bool, true, false, Ok, Err, List, [], ◌∷◌, ◌++◌, length, Option, Some, None, refl, sym, ap, ◌∙◌, subst, inl, inr, ◌⊎◌, append-nil, append_assoc, option_map, arith}
use Rattle.std.proofs.lemmas.Bool.Decides.{nat_tests}
use Rattle.std.proofs.lemmas.List.{append_cancel_left}
use Rattle.std.specs.Io.KnownBytes.{Appends}
use Rattle.gnb_base.specs.Outside.{SourceAt, SinkAt}
use Rattle.gnb_base.specs.declared.lines.ReadError.{ReadError}
use Rattle.gnb_base.specs.declared.lines.ReadError.TheVariants as errors
use Rattle.gnb_base.specs.Lines.{HasNoLf}
use Rattle.gnb_base.specs.Reading.{Reading, NextMeets, still_to_come}
use Rattle.command_defs.specs.declared.input_defs.InputEnd.{InputEnd}
use Rattle.command_defs.specs.declared.input_defs.InputEnd.TheVariants as inputs
use Rattle.command_defs.specs.input_defs.Faults.{NoReadFailed, LastReadFailed}
use Rattle.command_defs.specs.input_defs.Split.{joined}
use Rattle.command_defs.specs.input_defs.Standing.{split_of}
use Rattle.commands.proofs.input_lines.Standing.{takes_of}
use Rattle.command_defs.specs.declared.CommonEnd.TheVariants.{ReadFault, TooLong, WriteFault, Memory}
use Rattle.command_defs.specs.Ends.{end_of_input}
use Rattle.command_defs.specs.Outside.{OutsideAt, outside, NoWriteFailed, LastWriteFailed}
use Rattle.command_defs.specs.Output.{Prints, PrintsFront}
use Rattle.commands.specs.command_output.Writes.{WritesAll, WritesFront}
use Rattle.commands.proofs.command_output.Written.{none_then_none, none_then_last, prints_none, prints_more, front_of, all_more}
use Rattle.commands.specs.input_lines.ReadsLine.{StopsReading, end_of_read}
use Rattle.command_values.specs.declared.end.ValuesEnd.{ValuesEnd}
use Rattle.command_values.specs.declared.end.ValuesEnd.TheVariants.{Done, Stopped, Common}
use Rattle.command_values.specs.declared.lines.Task.{Task}
use Rattle.command_values.specs.Values.{Job}
use Rattle.command_values.specs.inside.Stops.{RunsTo, PrintsTo, ReadsUntil, WritesUntil}
use Rattle.command_values.specs.inside.Turns.{RunAt, run_at, once_written, TakesLine, TurnMeets, TurnStops, Unread, Unanswered, Refused, NoRoom, Begins, Continues, Waits, Keeping, Written, Finishing, Whole, Cut}
use Rattle.command_values.proofs.Turned.{SoFar, SoFarFrom, begins}

-- ---- sinks

-- some text was written since then
abbrev pub Grew : SinkAt → SinkAt → Type 0
Grew before after = (text : List ℕ) × Prints before after text

pub grew_none : (sink : SinkAt) → Grew sink sink
grew_none sink = ([], prints_none sink)

pub grew_more : {a b c : SinkAt} {text : List ℕ} → Grew a b → WritesAll b c text → Grew a c
grew_more {text = text} g w = (g.0 ++ text, prints_more g.1 w.prints)

same_bytes : (held : Option (List ℕ)) → Appends held (option_map (λ (bs : List ℕ). bs ++ []) held) []
same_bytes None = tt
same_bytes (Some bs) = refl

-- nothing waits
pub none_waits : (sink : SinkAt) → WritesAll sink (once_written sink []) []
none_waits sink = record { prints = record { appends = same_bytes sink.held }; none = record { faults = refl; failed = λ h. h } }

caught_up : (before after : Option (List ℕ)) (text : List ℕ) → Appends before after text
    → Appends (option_map (λ (bs : List ℕ). bs ++ text) before) after []
caught_up None after text h = tt
caught_up (Some xs) None text h = absurd h
caught_up (Some xs) (Some ys) text h = h ∙ sym (append-nil (xs ++ text))

-- what waited was written
pub written_out : (a b : SinkAt) (text : List ℕ) → WritesAll a b text → WritesAll (once_written a text) b []
written_out a b text w =
    record {
      prints = record { appends = caught_up a.held b.held text w.prints.appends };
      none = record { faults = w.none.faults; failed = w.none.failed };
    }

without : {a b : SinkAt} {text : List ℕ} → Prints a b (text ++ []) → Prints a b text
without {a = a} {b = b} {text = text} h = subst (λ (t : List ℕ). Prints a b t) (append-nil text) h

prints_on : {a b c : SinkAt} {text : List ℕ} → Prints a b text → WritesAll b c [] → Prints a c text
prints_on h w = without (prints_more h w.prints)

front_on : {a b c : SinkAt} {text : List ℕ} → PrintsFront a b text → WritesAll b c [] → PrintsFront a c text
front_on h w = record { part = h.part; rest = h.rest; parts = h.parts; prints = prints_on h.prints w }

-- of known bytes: those at first, those written then, and a front of those that waited
cut_bytes : (first held last : Option (List ℕ)) (waiting part rest grown text : List ℕ) → waiting ≡ part ++ rest → Appends first held grown
    → Appends first (option_map (λ (bs : List ℕ). bs ++ waiting) held) text → Appends held last part
    → (front : List ℕ) × (back : List ℕ) × (text ≡ front ++ back) × Appends first last front
cut_bytes None held last waiting part rest grown text e g p c = ([], text, refl, tt)
cut_bytes (Some f) None last waiting part rest grown text e g p c = absurd g
cut_bytes (Some f) (Some h) None waiting part rest grown text e g p c = absurd c
cut_bytes (Some f) (Some h) (Some l) waiting part rest grown text e g p c =
    let all : f ++ text ≡ f ++ ((grown ++ part) ++ rest) =
    sym p ∙ ap (λ (bs : List ℕ). bs ++ waiting) g ∙ append_assoc f grown waiting
    ∙ ap (λ (bs : List ℕ). f ++ (grown ++ bs)) e ∙ ap (λ (bs : List ℕ). f ++ bs) (sym (append_assoc grown part rest)) in (
      grown ++ part,
      rest,
      append_cancel_left f text ((grown ++ part) ++ rest) all,
      c ∙ ap (λ (bs : List ℕ). bs ++ part) g ∙ append_assoc f grown part,
    )

-- a front of what waited was written
pub cut_prints : (a b c : SinkAt) (waiting text : List ℕ) → Grew a b → Prints a (once_written b waiting) text → WritesFront b c waiting
    → PrintsFront a c text
cut_prints a b c waiting text g p w =
    let found = cut_bytes a.held b.held c.held waiting w.prints.part w.prints.rest g.0 text w.prints.parts g.1.appends p.appends
    w.prints.prints.appends in
    record { part = found.0; rest = found.1; parts = found.2; prints = record { appends = found.3 } }

cut_last : {a b c : SinkAt} {waiting : List ℕ} → NoWriteFailed a (once_written b waiting) → WritesFront b c waiting → LastWriteFailed a c
cut_last {a = a} {b = b} h w =
    let none : NoWriteFailed a b = record { faults = h.faults; failed = h.failed } in
    none_then_last none w.last

-- ---- the lines so far

-- with nothing more to write
pub moved : {job : Job} {task : Task} {first : OutsideAt} {old : RunAt} (sink : SinkAt) → SoFar job task first old
    → WritesAll old.sink sink [] → SoFar job task first (run_at old.reading old.source sink)
moved {first = first} sink s w = record {
  taken = s.taken;
  front = s.front;
  lines = s.lines;
  texts = s.texts;
  found = s.found;
  stands = s.stands;
  gives = s.gives;
  later = s.later;
  is = s.is;
  has = s.has;
  way = s.way;
  are = s.are;
  writes = subst (λ (text : List ℕ). WritesAll first.sink sink text) (append-nil (joined s.texts)) (all_more s.writes w);
}

-- what waited was written, and nothing waits
from_written : (task : Task) (start old : RunAt) (sink : SinkAt) (waiting : List ℕ)
    → SoFarFrom task start (run_at old.reading old.source (once_written old.sink waiting)) → WritesAll old.sink sink waiting
    → SoFarFrom task start (run_at old.reading old.source (once_written sink []))
from_written task start old sink waiting so_far w job first b =
    moved (once_written sink []) (moved sink (so_far job first b) (written_out old.sink sink waiting w)) (none_waits sink)

-- what was answered so far, once what waits is written
abbrev pub WaitingFrom : Task → RunAt → RunAt → List ℕ → Type 0
WaitingFrom task start now waiting =
    SoFarFrom task start (run_at now.reading now.source (once_written now.sink waiting)) × Grew start.sink now.sink

pub from_begin : (task : Task) (now : RunAt) (waiting : List ℕ) → waiting ≡ [] → WaitingFrom task now now waiting
from_begin task now waiting e = (
  λ job first b.
      subst (λ (text : List ℕ). SoFar job task first (run_at now.reading now.source (once_written now.sink text))) (sym e)
      (moved (once_written now.sink []) (begins job task first now b) (none_waits now.sink)),
  grew_none now.sink,
)

pub before_read : (task : Task) (start old : RunAt) (sink : SinkAt) (waiting : List ℕ × List ℕ) → WaitingFrom task start old waiting.0
    → Waits old.reading.kept old.sink sink waiting → WaitingFrom task start (run_at old.reading old.source sink) waiting.1
before_read task start old sink waiting h (Keeping some same e) = (
  λ job first b.
      subst (λ (text : List ℕ). SoFar job task first (run_at old.reading old.source (once_written sink text))) (sym e)
      (subst (λ (out : SinkAt). SoFar job task first (run_at old.reading old.source (once_written out waiting.0))) (sym same)
      (h.0 job first b)),
  subst (λ (out : SinkAt). Grew start.sink out) (sym same) h.1,
)
before_read task start old sink waiting h (Written w e) = (
  λ job first b.
      subst (λ (text : List ℕ). SoFar job task first (run_at old.reading old.source (once_written sink text))) (sym e)
      (from_written task start old sink waiting.0 h.0 w job first b),
  grew_more h.1 w,
)

grew_from : (job : Job) (task : Task) (first : OutsideAt) (start : RunAt) (sink : SinkAt) → Begins job task first start → Grew start.sink sink
    → Grew first.sink sink
grew_from job task first start sink b g = subst (λ (a : SinkAt). Grew a sink) b.given.same g

-- a write failed before a read
pub cut_before_read : (task : Task) (start old : RunAt) (sink : SinkAt) (waiting : List ℕ)
    → WaitingFrom task start old waiting → WritesFront old.sink sink waiting
    → Continues task start (run_at old.reading old.source sink) (Common WriteFault)
cut_before_read task start old sink waiting h w job first b =
    let s = h.0 job first b in
    record {
      split = split_of old.reading s.taken (s.front ++ s.lines);
      texts = s.texts;
      input = takes_of s.stands;
      values = inl (record {
        front = s.front;
        lines = s.lines;
        found = s.found;
        m = task.module.now;
        id = task.id;
        parts = refl;
        gives = s.gives;
        is = s.is;
        has = s.has;
        are = s.are;
      });
      ends = tt;
      prints = cut_prints first.sink old.sink sink waiting (joined s.texts) (grew_from job task first start old.sink b h.1) s.writes.prints w;
      reads = s.stands.reads;
      writes = cut_last s.writes.none w;
    }

-- ---- an end

abbrev pub IsFaultless : ValuesEnd → Type 0
IsFaultless end = end ≡ Common WriteFault → ⊥

pub done_faultless : IsFaultless Done
done_faultless f = cc

-- a line that was taken is no longer to come
pub turn_falls : (task : Task) (old new : RunAt) (found : Bool) → found ≡ true → TurnMeets task old new (Ok found)
    → still_to_come new.reading < still_to_come old.reading
turn_falls task old new found e t =
    let taken : TakesLine task old new = subst (λ (o : Bool). TurnMeets task old new (Ok o)) e t in
    taken.meets.answers.falls

-- no turn ends by a write that failed
pub turn_faultless : (task : Task) (old new : RunAt) (end : ValuesEnd) → TurnStops task old new end → IsFaultless end
turn_faultless task old new end (Unread (inputs.ReadFault taken) h e same) f = (let clash = sym e ∙ f in cc)
turn_faultless task old new end (Unread inputs.TooLong h e same) f = (let clash = sym e ∙ f in cc)
turn_faultless task old new end (Unread inputs.Memory h e same) f = (let clash = sym e ∙ f in cc)
turn_faultless task old new end (Unanswered line m (Refused wrong is e same)) f = (let clash = sym e ∙ f in cc)
turn_faultless task old new end (Unanswered line m (NoRoom e same)) f = (let clash = sym e ∙ f in cc)

prints_to_on : (a b c : SinkAt) (text : List ℕ) (end : ValuesEnd) → PrintsTo a b text end → WritesAll b c [] → PrintsTo a c text end
prints_to_on a b c text Done h w = prints_on h w
prints_to_on a b c text (Stopped stop) h w = prints_on h w
prints_to_on a b c text (Common (ReadFault taken)) h w = prints_on h w
prints_to_on a b c text (Common TooLong) h w = prints_on h w
prints_to_on a b c text (Common WriteFault) h w = front_on h w
prints_to_on a b c text (Common Memory) h w = front_on h w

writes_on : (a b c : SinkAt) (end : ValuesEnd) → IsFaultless end → WritesUntil a b end → NoWriteFailed b c → WritesUntil a c end
writes_on a b c Done f h n = none_then_none h n
writes_on a b c (Stopped stop) f h n = none_then_none h n
writes_on a b c (Common (ReadFault taken)) f h n = none_then_none h n
writes_on a b c (Common TooLong) f h n = none_then_none h n
writes_on a b c (Common WriteFault) f h n = absurd (f refl)
writes_on a b c (Common Memory) f h n = none_then_none h n

cut_front : (a b c : SinkAt) (waiting text : List ℕ) → Grew a b → PrintsFront a (once_written b waiting) text → WritesFront b c waiting
    → PrintsFront a c text
cut_front a b c waiting text g p w =
    subst (λ (t : List ℕ). PrintsFront a c t) (sym p.parts) (front_of p.rest (cut_prints a b c waiting p.part g p.prints w))

cut_to : (a b c : SinkAt) (waiting text : List ℕ) (end : ValuesEnd) → Grew a b → PrintsTo a (once_written b waiting) text end
    → WritesFront b c waiting → PrintsFront a c text
cut_to a b c waiting text Done g p w = cut_prints a b c waiting text g p w
cut_to a b c waiting text (Stopped stop) g p w = cut_prints a b c waiting text g p w
cut_to a b c waiting text (Common (ReadFault taken)) g p w = cut_prints a b c waiting text g p w
cut_to a b c waiting text (Common TooLong) g p w = cut_prints a b c waiting text g p w
cut_to a b c waiting text (Common WriteFault) g p w = cut_front a b c waiting text g p w
cut_to a b c waiting text (Common Memory) g p w = cut_front a b c waiting text g p w

none_read : (a b : SourceAt) (end : ValuesEnd) → ((taken : ℕ) → end ≡ Common (ReadFault taken) → ⊥) → ReadsUntil a b end → NoReadFailed a b
none_read a b Done f h = h
none_read a b (Stopped stop) f h = h
none_read a b (Common (ReadFault taken)) f h = absurd (f taken refl)
none_read a b (Common TooLong) f h = h
none_read a b (Common WriteFault) f h = h
none_read a b (Common Memory) f h = h

none_until : (a b : SinkAt) (end : ValuesEnd) → IsFaultless end → WritesUntil a b end → NoWriteFailed a b
none_until a b Done f h = h
none_until a b (Stopped stop) f h = h
none_until a b (Common (ReadFault taken)) f h = h
none_until a b (Common TooLong) f h = h
none_until a b (Common WriteFault) f h = absurd (f refl)
none_until a b (Common Memory) f h = h

pub is_nothing : (xs : List ℕ) → (length xs == 0) ≡ true → xs ≡ []
is_nothing [] e = refl
is_nothing (x ∷ xs) e = absurd (grind (arith, nat_tests))

pub is_something : (xs : List ℕ) → (length xs == 0) ≡ false → xs ≡ [] → ⊥
is_something xs e none = (let clash : false ≡ true = sym e ∙ ap (λ (ys : List ℕ). length ys == 0) none in absurd cc)

-- where a read failed none waits
abbrev pub WaitsNoRead : List ℕ → ValuesEnd → Type 0
WaitsNoRead waiting end = (taken : ℕ) → end ≡ Common (ReadFault taken) → waiting ≡ []

pub done_waits : (waiting : List ℕ) → WaitsNoRead waiting Done
done_waits waiting taken is = absurd cc

-- a read that fails is made where no whole line is kept
no_line_kept : (old new : Reading) (before after : SourceAt) (taken : ℕ) → StopsReading old new before after (inputs.ReadFault taken) → HasNoLf old.kept
no_line_kept old new before after taken h = by h.error h.meets h.same
  where
    by : (error : ReadError) → NextMeets old new before after (Err error) → inputs.ReadFault taken ≡ end_of_read error new.taken → HasNoLf old.kept
    by errors.ReadFault m same = lazy m.lazy
      where
        lazy : ((m.taken ≡ []) × (after ≡ before)) ⊎ HasNoLf old.kept → HasNoLf old.kept
        lazy (inl none) =
            subst HasNoLf (m.answers.kept ∙ ap (λ (bs : List ℕ). old.kept ++ bs) none.0 ∙ append-nil old.kept) m.answers.without_lf
        lazy (inr without_lf) = without_lf
    by errors.TooLong m same = absurd cc
    by errors.Memory m same = absurd cc

nothing_held : SinkAt
nothing_held = record { held = Some []; faults = 0; failed = false }

-- so that all answers were written before it
pub turn_waits : (task : Task) (old new : Reading) (before after : SourceAt) (sink0 sink : SinkAt) (waiting : List ℕ × List ℕ) (then_waiting : List ℕ)
    (end : ValuesEnd) → Waits old.kept sink0 sink waiting
    → ((s : SinkAt) → TurnStops task (run_at old before (once_written s waiting.1)) (run_at new after (once_written s then_waiting)) end)
    → WaitsNoRead then_waiting end
unfolding nothing_held
turn_waits task old new before after sink0 sink waiting then_waiting end waits stops taken is = by (stops nothing_held)
  where
    none : HasNoLf old.kept → Waits old.kept sink0 sink waiting → waiting.1 ≡ []
    none without_lf (Keeping some same e) = absurd (some without_lf)
    none without_lf (Written w e) = e

    on : (why : InputEnd) → StopsReading old new before after why → Common (end_of_input why) ≡ Common (ReadFault taken) → HasNoLf old.kept
    on (inputs.ReadFault n) h e = no_line_kept old new before after n h
    on inputs.TooLong h e = absurd cc
    on inputs.Memory h e = absurd cc

    by : TurnStops task (run_at old before (once_written nothing_held waiting.1)) (run_at new after (once_written nothing_held then_waiting)) end
        → then_waiting ≡ []
    by (Unread why h e same) =
        let held : Some then_waiting ≡ Some waiting.1 = ap (λ (s : SinkAt). s.held) same in
        let still : then_waiting ≡ waiting.1 = cc in
        still ∙ none (on why h (sym e ∙ is)) waits
    by (Unanswered line m (Refused wrong w e same)) = (let clash = sym e ∙ is in absurd cc)
    by (Unanswered line m (NoRoom e same)) = (let clash = sym e ∙ is in absurd cc)

-- the answers that wait at an end are written, or a front of them
pub finished : (task : Task) (start now : RunAt) (sink : SinkAt) (waiting : List ℕ) (end result : ValuesEnd) → IsFaultless end
    → WaitsNoRead waiting end
    → Continues task start (run_at now.reading now.source (once_written now.sink waiting)) end → Grew start.sink now.sink
    → Finishing now.sink sink waiting end result → Continues task start (run_at now.reading now.source sink) result
finished task start now sink waiting end result f quiet c g (Whole w e) job first b =
    let r = c job first b in
    let out = written_out now.sink sink waiting w in
    subst (λ (x : ValuesEnd). RunsTo job first (outside now.source sink) x) (sym e)
    (record {
      split = r.split;
      texts = r.texts;
      input = r.input;
      values = r.values;
      ends = r.ends;
      prints = prints_to_on first.sink (once_written now.sink waiting) sink (joined r.texts) end r.prints out;
      reads = r.reads;
      writes = writes_on first.sink (once_written now.sink waiting) sink end f r.writes out.none;
    })
finished task start now sink waiting end result f quiet c g (Cut some w e) job first b =
    let r = c job first b in
    subst (λ (x : ValuesEnd). RunsTo job first (outside now.source sink) x) (sym e)
    (record {
      split = r.split;
      texts = r.texts;
      input = r.input;
      values = r.values;
      ends = tt;
      prints = cut_to first.sink now.sink sink waiting (joined r.texts) end (grew_from job task first start now.sink b g) r.prints w;
      reads = none_read first.source now.source end (λ taken is. some (quiet taken is)) r.reads;
      writes = cut_last (none_until first.sink (once_written now.sink waiting) end f r.writes) w;
    })

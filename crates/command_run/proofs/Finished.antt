-- The last line after a run, and the status.
use Rattle.std.proofs.Common.{◌≡◌, ℕ, List, [], ◌∷◌, ◌++◌, Option, Some, None, refl, sym, ap, ◌∙◌, subst, inl, inr, arith}
use Rattle.gnb_base.specs.Outside.{SourceAt, SinkAt}
use Rattle.scenario_text.specs.declared.line.OutLine.{OutLine}
use Rattle.scenario_text.specs.Print.{print}
use Rattle.std.specs.Option.{option_to_list}
use Rattle.command_defs.specs.declared.CommonEnd.TheVariants.{ReadFault, TooLong, WriteFault, Memory}
use Rattle.command_defs.specs.Outside.{OutsideAt, outside, ReadsTo, AllRead, ReadStopped, WritesTo, AllWritten, WriteStopped}
use Rattle.command_defs.specs.Output.{Prints, WritesBeforeReads}
use Rattle.commands.specs.command_output.Writes.{WritesAll, WritesFront}
use Rattle.commands.proofs.command_output.Written.{none_then_none, none_then_last, prints_none, prints_more, front_more, front_all, at_least, no_read_failed}
use Rattle.command_run.specs.declared.end.RunEnd.{RunEnd}
use Rattle.command_run.specs.declared.end.RunEnd.TheVariants.{Done, NoModule, Differs, Script, Outstanding, Spent, Common}
use Rattle.command_run.specs.Ends.{run_status, report_of, run_last_lines, end_text}
use Rattle.command_run.specs.Run.{Setting, run_text, PrintsRun, RunMeets}
use Rattle.command_run.specs.inside.Stops.{RunsTo, PrintsTo, ReadsUntil, WritesUntil, Finishes, Silent, Written, Cut, Unwritten}
use Rattle.command_run.proofs.Turned.{no_reader}

-- ---- the status of the reads

reads_end : (a b : SourceAt) (end : RunEnd) → ReadsUntil a b end → ReadsTo a b (run_status end).code
reads_end a b (Done n) h = AllRead h (λ (e : 0 ≡ 6). omega arith)
reads_end a b (NoModule line column reason) h = AllRead h (λ (e : 3 ≡ 6). omega arith)
reads_end a b (Differs name) h = AllRead h (λ (e : 3 ≡ 6). omega arith)
reads_end a b (Script place reason) h = AllRead h (λ (e : 4 ≡ 6). omega arith)
reads_end a b (Outstanding place span) h = AllRead h (λ (e : 5 ≡ 6). omega arith)
reads_end a b (Spent place counter) h = AllRead h (λ (e : 10 ≡ 6). omega arith)
reads_end a b (Common (ReadFault taken)) h = ReadStopped h (inl refl)
reads_end a b (Common TooLong) h = AllRead h (λ (e : 11 ≡ 6). omega arith)
reads_end a b (Common WriteFault) h = AllRead h (λ (e : 7 ≡ 6). omega arith)
reads_end a b (Common Memory) h = AllRead h (λ (e : 9 ≡ 6). omega arith)

-- the last line was not written
reads_cut : (a b : SourceAt) (end : RunEnd) → ReadsUntil a b end → ReadsTo a b 7
reads_cut a b (Done n) h = AllRead h (λ (e : 7 ≡ 6). omega arith)
reads_cut a b (NoModule line column reason) h = AllRead h (λ (e : 7 ≡ 6). omega arith)
reads_cut a b (Differs name) h = AllRead h (λ (e : 7 ≡ 6). omega arith)
reads_cut a b (Script place reason) h = AllRead h (λ (e : 7 ≡ 6). omega arith)
reads_cut a b (Outstanding place span) h = AllRead h (λ (e : 7 ≡ 6). omega arith)
reads_cut a b (Spent place counter) h = AllRead h (λ (e : 7 ≡ 6). omega arith)
reads_cut a b (Common (ReadFault taken)) h = ReadStopped h (inr (inl refl))
reads_cut a b (Common TooLong) h = AllRead h (λ (e : 7 ≡ 6). omega arith)
reads_cut a b (Common WriteFault) h = AllRead h (λ (e : 7 ≡ 6). omega arith)
reads_cut a b (Common Memory) h = AllRead h (λ (e : 7 ≡ 6). omega arith)

reads_out : (a b : SourceAt) (end : RunEnd) → ReadsUntil a b end → ReadsTo a b 9
reads_out a b (Done n) h = AllRead h (λ (e : 9 ≡ 6). omega arith)
reads_out a b (NoModule line column reason) h = AllRead h (λ (e : 9 ≡ 6). omega arith)
reads_out a b (Differs name) h = AllRead h (λ (e : 9 ≡ 6). omega arith)
reads_out a b (Script place reason) h = AllRead h (λ (e : 9 ≡ 6). omega arith)
reads_out a b (Outstanding place span) h = AllRead h (λ (e : 9 ≡ 6). omega arith)
reads_out a b (Spent place counter) h = AllRead h (λ (e : 9 ≡ 6). omega arith)
reads_out a b (Common (ReadFault taken)) h = ReadStopped h (inr (inr refl))
reads_out a b (Common TooLong) h = AllRead h (λ (e : 9 ≡ 6). omega arith)
reads_out a b (Common WriteFault) h = AllRead h (λ (e : 9 ≡ 6). omega arith)
reads_out a b (Common Memory) h = AllRead h (λ (e : 9 ≡ 6). omega arith)

-- ---- the status of the writes, and what was written

-- there is no last line
silent_writes : (a b : SinkAt) (end : RunEnd) → run_last_lines end ≡ [] → WritesUntil a b end → WritesTo a b (run_status end).code
silent_writes a b (Done n) e h = absurd (cc)
silent_writes a b (NoModule line column reason) e h = absurd (cc)
silent_writes a b (Differs name) e h = absurd (cc)
silent_writes a b (Script place reason) e h = absurd (cc)
silent_writes a b (Outstanding place span) e h = absurd (cc)
silent_writes a b (Spent place counter) e h = absurd (cc)
silent_writes a b (Common (ReadFault taken)) e h = absurd (cc)
silent_writes a b (Common TooLong) e h = absurd (cc)
silent_writes a b (Common WriteFault) e h = WriteStopped h refl
silent_writes a b (Common Memory) e h = AllWritten h (λ (f : 9 ≡ 7). omega arith)

silent_prints : (a b : SinkAt) (Meets : RunEnd → Type 0) (text : List ℕ) (end : RunEnd) → run_last_lines end ≡ []
    → PrintsTo a b text end → PrintsRun a b Meets text end
silent_prints a b Meets text (Done n) e h = absurd (cc)
silent_prints a b Meets text (NoModule line column reason) e h = absurd (cc)
silent_prints a b Meets text (Differs name) e h = absurd (cc)
silent_prints a b Meets text (Script place reason) e h = absurd (cc)
silent_prints a b Meets text (Outstanding place span) e h = absurd (cc)
silent_prints a b Meets text (Spent place counter) e h = absurd (cc)
silent_prints a b Meets text (Common (ReadFault taken)) e h = absurd (cc)
silent_prints a b Meets text (Common TooLong) e h = absurd (cc)
silent_prints a b Meets text (Common WriteFault) e h = (None, tt, h)
silent_prints a b Meets text (Common Memory) e h = h

-- the text before the last line
text_before : (a b : SinkAt) (text : List ℕ) (end : RunEnd) (line : OutLine) → run_last_lines end ≡ line ∷ []
    → PrintsTo a b text end → Prints a b text
text_before a b text (Done n) line e h = h
text_before a b text (NoModule at column reason) line e h = h
text_before a b text (Differs name) line e h = h
text_before a b text (Script place reason) line e h = h
text_before a b text (Outstanding place span) line e h = h
text_before a b text (Spent place counter) line e h = h
text_before a b text (Common (ReadFault taken)) line e h = h
text_before a b text (Common TooLong) line e h = h
text_before a b text (Common WriteFault) line e h = absurd (cc)
text_before a b text (Common Memory) line e h = absurd (cc)

none_before : (a b : SinkAt) (end : RunEnd) (line : OutLine) → run_last_lines end ≡ line ∷ [] → WritesUntil a b end
    → WritesUntil a b (Done 0)
none_before a b (Done n) line e h = h
none_before a b (NoModule at column reason) line e h = h
none_before a b (Differs name) line e h = h
none_before a b (Script place reason) line e h = h
none_before a b (Outstanding place span) line e h = h
none_before a b (Spent place counter) line e h = h
none_before a b (Common (ReadFault taken)) line e h = h
none_before a b (Common TooLong) line e h = h
none_before a b (Common WriteFault) line e h = absurd (cc)
none_before a b (Common Memory) line e h = h

not_seven : (end : RunEnd) (line : OutLine) → run_last_lines end ≡ line ∷ [] → (run_status end).code ≡ 7 → ⊥
not_seven (Done n) line e f = omega arith
not_seven (NoModule at column reason) line e f = omega arith
not_seven (Differs name) line e f = omega arith
not_seven (Script place reason) line e f = omega arith
not_seven (Outstanding place span) line e f = omega arith
not_seven (Spent place counter) line e f = omega arith
not_seven (Common (ReadFault taken)) line e f = omega arith
not_seven (Common TooLong) line e f = omega arith
not_seven (Common WriteFault) line e f = cc
not_seven (Common Memory) line e f = omega arith

written_prints : (a b : SinkAt) (Meets : RunEnd → Type 0) (text : List ℕ) (end : RunEnd) (line : OutLine)
    → run_last_lines end ≡ line ∷ []
    → Prints a b (text ++ end_text end) → PrintsRun a b Meets text end
written_prints a b Meets text (Done n) line e h = h
written_prints a b Meets text (NoModule at column reason) line e h = h
written_prints a b Meets text (Differs name) line e h = h
written_prints a b Meets text (Script place reason) line e h = h
written_prints a b Meets text (Outstanding place span) line e h = h
written_prints a b Meets text (Spent place counter) line e h = h
written_prints a b Meets text (Common (ReadFault taken)) line e h = h
written_prints a b Meets text (Common TooLong) line e h = h
written_prints a b Meets text (Common WriteFault) line e h = absurd (cc)
written_prints a b Meets text (Common Memory) line e h = absurd (cc)

-- ---- what was written at each read

-- the text was written before a read that failed
answered : (first : OutsideAt) (source : SourceAt) (sink last : SinkAt) (text : List ℕ) (end : RunEnd) → ReadsUntil first.source source end
    → PrintsTo first.sink sink text end → (more : List ℕ) × Prints sink last more → WritesBeforeReads first (outside source last) text
answered first source sink last text (Done n) h prints more = no_read_failed first (outside source last) text h
answered first source sink last text (NoModule line column reason) h prints more = no_read_failed first (outside source last) text h
answered first source sink last text (Differs name) h prints more = no_read_failed first (outside source last) text h
answered first source sink last text (Script place reason) h prints more = no_read_failed first (outside source last) text h
answered first source sink last text (Outstanding place span) h prints more = no_read_failed first (outside source last) text h
answered first source sink last text (Spent place counter) h prints more = no_read_failed first (outside source last) text h
answered first source sink last text (Common (ReadFault taken)) h prints more = λ fresh failed. at_least prints more
answered first source sink last text (Common TooLong) h prints more = no_read_failed first (outside source last) text h
answered first source sink last text (Common WriteFault) h prints more = no_read_failed first (outside source last) text h
answered first source sink last text (Common Memory) h prints more = no_read_failed first (outside source last) text h

-- ---- with the word `run`

pub run_meets : {setting : Setting} {first : OutsideAt} {source : SourceAt} {sink last : SinkAt} (end result : RunEnd) → RunsTo setting first (outside source sink) end
    → Finishes sink last end result
    → RunMeets setting first (outside source last) result
run_meets {setting = setting} {first = first} {source = source} {sink = sink} {last = last} end result r (Silent none same kept) =
    subst (λ (e : RunEnd). RunMeets setting first (outside source last) e) (sym same)
    (subst (λ (s : SinkAt). RunMeets setting first (outside source s) end) (sym kept)
    (record {
      split = r.split;
      events = r.events;
      input = r.input;
      script = r.script;
      ends = r.ends;
      prints = silent_prints first.sink sink _ _ end none r.prints;
      answered = answered first source sink sink (run_text setting r.events) end r.reads r.prints ([], prints_none sink);
      calls = record { reads = reads_end _ _ end r.reads; writes = silent_writes first.sink sink end none r.writes };
    }))
run_meets {setting = setting} {first = first} {source = source} {sink = sink} {last = last} end result r (Written line some same written) =
    subst (λ (e : RunEnd). RunMeets setting first (outside source last) e) (sym same)
    (record {
      split = r.split;
      events = r.events;
      input = r.input;
      script = r.script;
      ends = r.ends;
      prints = written_prints first.sink last _ _ end line some
          (prints_more (text_before first.sink sink _ end line some r.prints) written.prints);
      answered = answered first source sink last (run_text setting r.events) end r.reads r.prints (end_text end, written.prints);
      calls = record {
        reads = reads_end _ _ end r.reads;
        writes = AllWritten (none_then_none (none_before first.sink sink end line some r.writes) written.none) (not_seven end line some);
      };
    })
run_meets {setting = setting} {first = first} {source = source} {sink = sink} {last = last} end result r (Cut line some same cut) =
    subst (λ (e : RunEnd). RunMeets setting first (outside source last) e) (sym same)
    (record {
      split = r.split;
      events = r.events;
      input = r.input;
      script = r.script;
      ends = tt;
      prints = (
        Some end,
        r.ends,
        front_more (text_before first.sink sink _ end line some r.prints) cut.prints,
      );
      answered = answered first source sink last (run_text setting r.events) end r.reads r.prints (cut.prints.part, cut.prints.prints);
      calls = record {
        reads = reads_cut _ _ end r.reads;
        writes = WriteStopped (none_then_last (none_before first.sink sink end line some r.writes) cut.last) refl;
      };
    })
run_meets {setting = setting} {first = first} {source = source} {sink = sink} {last = last} end result r (Unwritten line some same kept) =
    subst (λ (e : RunEnd). RunMeets setting first (outside source last) e) (sym same)
    (subst (λ (s : SinkAt). RunMeets setting first (outside source s) (Common Memory)) (sym kept)
    (record {
      split = r.split;
      events = r.events;
      input = r.input;
      script = r.script;
      ends = tt;
      prints = front_all (text_before first.sink sink _ end line some r.prints);
      answered = answered first source sink sink (run_text setting r.events) end r.reads r.prints ([], prints_none sink);
      calls = record {
        reads = reads_out _ _ end r.reads;
        writes = AllWritten (none_before first.sink sink end line some r.writes) (λ (e : 9 ≡ 7). omega arith);
      };
    }))

-- ---- at the exits of the code

one_line : (end : RunEnd) (line : OutLine) (found : Option OutLine) → found ≡ Some line → option_to_list found ≡ run_last_lines end
    → run_last_lines end ≡ line ∷ []
one_line end line found e f = sym f ∙ ap (λ (o : Option OutLine). option_to_list o) e

-- what was made to be written is all that is to be
same_text : (end : RunEnd) (line : OutLine) (text : List ℕ) → run_last_lines end ≡ line ∷ [] → text ≡ report_of end ++ print (line ∷ [])
    → text ≡ end_text end
same_text end line text e f = f ∙ ap (λ (ls : List OutLine). report_of end ++ print ls) (sym e)

module _ {a b : SinkAt} (end : RunEnd) (line : OutLine) (found : Option OutLine) (some : found ≡ Some line) (lines : option_to_list found ≡ run_last_lines end) where
  pub finishes : (bytes text : List ℕ) → bytes ≡ text → text ≡ report_of end ++ print (line ∷ []) → WritesAll a b bytes → Finishes a b end end
  finishes bytes text e f w =
      let is = one_line end line found some lines in
      Written line is refl (subst (λ (t : List ℕ). WritesAll a b t) (e ∙ same_text end line text is f) w)

  pub finish_cut : (bytes text : List ℕ) → bytes ≡ text → text ≡ report_of end ++ print (line ∷ []) → WritesFront a b bytes
      → Finishes a b end (Common WriteFault)
  finish_cut bytes text e f w =
      let is = one_line end line found some lines in
      Cut line is refl (subst (λ (t : List ℕ). WritesFront a b t) (e ∙ same_text end line text is f) w)

pub finish_out : {a : SinkAt} (end : RunEnd) (line : OutLine) (found : Option OutLine) → found ≡ Some line
    → option_to_list found ≡ run_last_lines end → Finishes a a end (Common Memory)
finish_out end line found some lines = Unwritten line (one_line end line found some lines) refl refl

-- out of memory before the first read, as where the codec can't be made
pub out_of_memory : (setting : Setting) (source : SourceAt) (sink : SinkAt)
    → RunMeets setting (outside source sink) (outside source sink) (Common Memory)
out_of_memory setting source sink = run_meets (Common Memory) (Common Memory) (no_reader setting source sink) (Silent refl refl refl)

-- The last line, and the status.
use Rattle.std.proofs.Common.{◌≡◌, ℕ, List, [], ◌∷◌, ◌++◌, Option, Some, None, refl, sym, ap, ◌∙◌, subst, inl, inr, arith, append-nil}
use Rattle.std.specs.Option.{option_to_list}
use Rattle.gnb_base.specs.Outside.{SourceAt, SinkAt}
use Rattle.command_defs.specs.input_defs.Split.{joined}
use Rattle.scenario_text.specs.declared.line.OutLine.{OutLine}
use Rattle.scenario_text.specs.Print.{print}
use Rattle.command_defs.specs.declared.CommonEnd.TheVariants.{ReadFault, TooLong, WriteFault, Memory}
use Rattle.command_defs.specs.Outside.{OutsideAt, outside, ReadsTo, AllRead, ReadStopped, WritesTo, AllWritten, WriteStopped}
use Rattle.command_defs.specs.Output.{Prints, WritesBeforeReads}
use Rattle.commands.specs.command_output.Writes.{WritesAll, WritesFront}
use Rattle.commands.proofs.command_output.Written.{none_then_none, none_then_last, prints_none, prints_more, front_more, front_all, at_least, no_read_failed}
use Rattle.command_values.specs.declared.end.Stop.{Stop}
use Rattle.command_values.specs.declared.end.Stop.TheVariants.{NoModule, NoType, Script, Value}
use Rattle.command_values.specs.declared.end.ValuesEnd.{ValuesEnd}
use Rattle.command_values.specs.declared.end.ValuesEnd.TheVariants.{Done, Stopped, Common}
use Rattle.command_values.specs.Ends.{stop_status, values_status, values_last_lines, values_report, end_text}
use Rattle.command_values.specs.Values.{Job, PrintsValues, ValuesMeet}
use Rattle.command_values.specs.inside.Stops.{RunsTo, PrintsTo, ReadsUntil, WritesUntil, Finishes, Silent, Written, Cut, Unwritten}

-- ---- the status of the reads

-- a stop has none of these statuses
stop_code : (stop : Stop) (n : ℕ) → (stop_status stop).code ≡ n → (n ≡ 3 → ⊥) → (n ≡ 4 → ⊥) → (n ≡ 8 → ⊥) → ⊥
stop_code (NoModule line column reason) n e a b c = a (sym e)
stop_code NoType n e a b c = a (sym e)
stop_code (Script place reason) n e a b c = b (sym e)
stop_code (Value place wrong) n e a b c = c (sym e)

not_six : (stop : Stop) → (stop_status stop).code ≡ 6 → ⊥
not_six stop e = stop_code stop 6 e (λ (f : 6 ≡ 3). omega arith) (λ (f : 6 ≡ 4). omega arith) (λ (f : 6 ≡ 8). omega arith)

not_seven : (stop : Stop) → (stop_status stop).code ≡ 7 → ⊥
not_seven stop e = stop_code stop 7 e (λ (f : 7 ≡ 3). omega arith) (λ (f : 7 ≡ 4). omega arith) (λ (f : 7 ≡ 8). omega arith)

reads_end : (a b : SourceAt) (end : ValuesEnd) → ReadsUntil a b end → ReadsTo a b (values_status end).code
reads_end a b Done h = AllRead h (λ (e : 0 ≡ 6). omega arith)
reads_end a b (Stopped stop) h = AllRead h (not_six stop)
reads_end a b (Common (ReadFault taken)) h = ReadStopped h (inl refl)
reads_end a b (Common TooLong) h = AllRead h (λ (e : 11 ≡ 6). omega arith)
reads_end a b (Common WriteFault) h = AllRead h (λ (e : 7 ≡ 6). omega arith)
reads_end a b (Common Memory) h = AllRead h (λ (e : 9 ≡ 6). omega arith)

-- the last line was not written
reads_cut : (a b : SourceAt) (end : ValuesEnd) → ReadsUntil a b end → ReadsTo a b 7
reads_cut a b Done h = AllRead h (λ (e : 7 ≡ 6). omega arith)
reads_cut a b (Stopped stop) h = AllRead h (λ (e : 7 ≡ 6). omega arith)
reads_cut a b (Common (ReadFault taken)) h = ReadStopped h (inr (inl refl))
reads_cut a b (Common TooLong) h = AllRead h (λ (e : 7 ≡ 6). omega arith)
reads_cut a b (Common WriteFault) h = AllRead h (λ (e : 7 ≡ 6). omega arith)
reads_cut a b (Common Memory) h = AllRead h (λ (e : 7 ≡ 6). omega arith)

reads_out : (a b : SourceAt) (end : ValuesEnd) → ReadsUntil a b end → ReadsTo a b 9
reads_out a b Done h = AllRead h (λ (e : 9 ≡ 6). omega arith)
reads_out a b (Stopped stop) h = AllRead h (λ (e : 9 ≡ 6). omega arith)
reads_out a b (Common (ReadFault taken)) h = ReadStopped h (inr (inr refl))
reads_out a b (Common TooLong) h = AllRead h (λ (e : 9 ≡ 6). omega arith)
reads_out a b (Common WriteFault) h = AllRead h (λ (e : 9 ≡ 6). omega arith)
reads_out a b (Common Memory) h = AllRead h (λ (e : 9 ≡ 6). omega arith)

-- ---- the status of the writes, and what was written

-- there is no last line
silent_writes : (a b : SinkAt) (end : ValuesEnd) → values_last_lines end ≡ [] → WritesUntil a b end → WritesTo a b (values_status end).code
silent_writes a b Done e h = AllWritten h (λ (f : 0 ≡ 7). omega arith)
silent_writes a b (Stopped stop) e h = absurd (cc)
silent_writes a b (Common (ReadFault taken)) e h = absurd (cc)
silent_writes a b (Common TooLong) e h = absurd (cc)
silent_writes a b (Common WriteFault) e h = WriteStopped h refl
silent_writes a b (Common Memory) e h = AllWritten h (λ (f : 9 ≡ 7). omega arith)

silent_prints : (a b : SinkAt) (Meets : ValuesEnd → Type 0) (texts : List (List ℕ)) (end : ValuesEnd) → values_last_lines end ≡ []
    → PrintsTo a b (joined texts) end → PrintsValues a b Meets texts end
silent_prints a b Meets texts Done e h = subst (λ (text : List ℕ). Prints a b text) (sym (append-nil (joined texts))) h
silent_prints a b Meets texts (Stopped stop) e h = absurd (cc)
silent_prints a b Meets texts (Common (ReadFault taken)) e h = absurd (cc)
silent_prints a b Meets texts (Common TooLong) e h = absurd (cc)
silent_prints a b Meets texts (Common WriteFault) e h = (None, tt, h)
silent_prints a b Meets texts (Common Memory) e h = h

-- the answers before the last line
text_before : (a b : SinkAt) (text : List ℕ) (end : ValuesEnd) (line : OutLine) → values_last_lines end ≡ line ∷ []
    → PrintsTo a b text end → Prints a b text
text_before a b text Done line e h = absurd (cc)
text_before a b text (Stopped stop) line e h = h
text_before a b text (Common (ReadFault taken)) line e h = h
text_before a b text (Common TooLong) line e h = h
text_before a b text (Common WriteFault) line e h = absurd (cc)
text_before a b text (Common Memory) line e h = absurd (cc)

none_before : (a b : SinkAt) (end : ValuesEnd) (line : OutLine) → values_last_lines end ≡ line ∷ [] → WritesUntil a b end
    → WritesUntil a b Done
none_before a b Done line e h = h
none_before a b (Stopped stop) line e h = h
none_before a b (Common (ReadFault taken)) line e h = h
none_before a b (Common TooLong) line e h = h
none_before a b (Common WriteFault) line e h = absurd (cc)
none_before a b (Common Memory) line e h = h

no_fault : (end : ValuesEnd) (line : OutLine) → values_last_lines end ≡ line ∷ [] → (values_status end).code ≡ 7 → ⊥
no_fault Done line e f = omega arith
no_fault (Stopped stop) line e f = not_seven stop f
no_fault (Common (ReadFault taken)) line e f = omega arith
no_fault (Common TooLong) line e f = omega arith
no_fault (Common WriteFault) line e f = cc
no_fault (Common Memory) line e f = omega arith

written_prints : (a b : SinkAt) (Meets : ValuesEnd → Type 0) (texts : List (List ℕ)) (end : ValuesEnd) (line : OutLine)
    → values_last_lines end ≡ line ∷ [] → Prints a b (joined texts ++ end_text end) → PrintsValues a b Meets texts end
written_prints a b Meets texts Done line e h = h
written_prints a b Meets texts (Stopped stop) line e h = h
written_prints a b Meets texts (Common (ReadFault taken)) line e h = h
written_prints a b Meets texts (Common TooLong) line e h = h
written_prints a b Meets texts (Common WriteFault) line e h = absurd (cc)
written_prints a b Meets texts (Common Memory) line e h = absurd (cc)

-- ---- what was written at each read

-- the text was written before a read that failed
answered : (first : OutsideAt) (source : SourceAt) (sink last : SinkAt) (text : List ℕ) (end : ValuesEnd) → ReadsUntil first.source source end
    → PrintsTo first.sink sink text end → (more : List ℕ) × Prints sink last more → WritesBeforeReads first (outside source last) text
answered first source sink last text Done h prints more = no_read_failed first (outside source last) text h
answered first source sink last text (Stopped stop) h prints more = no_read_failed first (outside source last) text h
answered first source sink last text (Common (ReadFault taken)) h prints more = λ fresh failed. at_least prints more
answered first source sink last text (Common TooLong) h prints more = no_read_failed first (outside source last) text h
answered first source sink last text (Common WriteFault) h prints more = no_read_failed first (outside source last) text h
answered first source sink last text (Common Memory) h prints more = no_read_failed first (outside source last) text h

-- ---- with the last line

pub values_meet : (job : Job) {first : OutsideAt} {source : SourceAt} {sink last : SinkAt} (end result : ValuesEnd)
    → RunsTo job first (outside source sink) end → Finishes sink last end result → ValuesMeet job first (outside source last) result
values_meet job {first = first} {source = source} {sink = sink} {last = last} end result r (Silent none same kept) =
    subst (λ (e : ValuesEnd). ValuesMeet job first (outside source last) e) (sym same)
    (subst (λ (s : SinkAt). ValuesMeet job first (outside source s) end) (sym kept)
    (record {
      split = r.split;
      texts = r.texts;
      input = r.input;
      values = r.values;
      ends = r.ends;
      prints = silent_prints first.sink sink _ r.texts end none r.prints;
      answered = answered first source sink sink (joined r.texts) end r.reads r.prints ([], prints_none sink);
      calls = record { reads = reads_end _ _ end r.reads; writes = silent_writes first.sink sink end none r.writes };
    }))
values_meet job {first = first} {source = source} {sink = sink} {last = last} end result r (Written line some same written) =
    subst (λ (e : ValuesEnd). ValuesMeet job first (outside source last) e) (sym same)
    (record {
      split = r.split;
      texts = r.texts;
      input = r.input;
      values = r.values;
      ends = r.ends;
      prints = written_prints first.sink last _ r.texts end line some
          (prints_more (text_before first.sink sink (joined r.texts) end line some r.prints) written.prints);
      answered = answered first source sink last (joined r.texts) end r.reads r.prints (end_text end, written.prints);
      calls = record {
        reads = reads_end _ _ end r.reads;
        writes = AllWritten (none_then_none (none_before first.sink sink end line some r.writes) written.none) (no_fault end line some);
      };
    })
values_meet job {first = first} {source = source} {sink = sink} {last = last} end result r (Cut line some same cut) =
    subst (λ (e : ValuesEnd). ValuesMeet job first (outside source last) e) (sym same)
    (record {
      split = r.split;
      texts = r.texts;
      input = r.input;
      values = r.values;
      ends = tt;
      prints = (
        Some end,
        r.ends,
        front_more (text_before first.sink sink (joined r.texts) end line some r.prints) cut.prints,
      );
      answered = answered first source sink last (joined r.texts) end r.reads r.prints (cut.prints.part, cut.prints.prints);
      calls = record {
        reads = reads_cut _ _ end r.reads;
        writes = WriteStopped (none_then_last (none_before first.sink sink end line some r.writes) cut.last) refl;
      };
    })
values_meet job {first = first} {source = source} {sink = sink} {last = last} end result r (Unwritten line some same kept) =
    subst (λ (e : ValuesEnd). ValuesMeet job first (outside source last) e) (sym same)
    (subst (λ (s : SinkAt). ValuesMeet job first (outside source s) (Common Memory)) (sym kept)
    (record {
      split = r.split;
      texts = r.texts;
      input = r.input;
      values = r.values;
      ends = tt;
      prints = front_all (text_before first.sink sink (joined r.texts) end line some r.prints);
      answered = answered first source sink sink (joined r.texts) end r.reads r.prints ([], prints_none sink);
      calls = record {
        reads = reads_out _ _ end r.reads;
        writes = AllWritten (none_before first.sink sink end line some r.writes) (λ (e : 9 ≡ 7). omega arith);
      };
    }))

-- ---- at the exits of the code

one_line : (end : ValuesEnd) (line : OutLine) (found : Option OutLine) → found ≡ Some line → option_to_list found ≡ values_last_lines end
    → values_last_lines end ≡ line ∷ []
one_line end line found e f = sym f ∙ ap (λ (o : Option OutLine). option_to_list o) e

-- what was made to be written is all that is to be
same_text : (end : ValuesEnd) (line : OutLine) (text : List ℕ) → values_last_lines end ≡ line ∷ []
    → text ≡ values_report end ++ print (line ∷ []) → text ≡ end_text end
same_text end line text e f = f ∙ ap (λ (ls : List OutLine). values_report end ++ print ls) (sym e)

module _ {a b : SinkAt} (end : ValuesEnd) (line : OutLine) (found : Option OutLine) (some : found ≡ Some line) (lines : option_to_list found ≡ values_last_lines end) where
  pub finishes : (bytes text : List ℕ) → bytes ≡ text → text ≡ values_report end ++ print (line ∷ []) → WritesAll a b bytes
      → Finishes a b end end
  finishes bytes text e f w =
      let is = one_line end line found some lines in
      Written line is refl (subst (λ (t : List ℕ). WritesAll a b t) (e ∙ same_text end line text is f) w)

  pub finish_cut : (bytes text : List ℕ) → bytes ≡ text → text ≡ values_report end ++ print (line ∷ []) → WritesFront a b bytes
      → Finishes a b end (Common WriteFault)
  finish_cut bytes text e f w =
      let is = one_line end line found some lines in
      Cut line is refl (subst (λ (t : List ℕ). WritesFront a b t) (e ∙ same_text end line text is f) w)

pub finish_out : {a : SinkAt} (end : ValuesEnd) (line : OutLine) (found : Option OutLine) → found ≡ Some line
    → option_to_list found ≡ values_last_lines end → Finishes a a end (Common Memory)
finish_out end line found some lines = Unwritten line (one_line end line found some lines) refl refl

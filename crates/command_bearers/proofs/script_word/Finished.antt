-- The last line after a script, and the status.
use Rattle.std.proofs.Common.{◌≡◌, ◌⊎◌, ℕ, List, [], ◌∷◌, ◌++◌, Option, Some, None, Err, refl, sym, ap, ◌∙◌, subst, inl, inr, arith}
use Rattle.gnb_base.specs.Outside.{SourceAt, SinkAt}
use Rattle.scenario_text.specs.declared.line.OutLine.{OutLine}
use Rattle.scenario_text.specs.Print.{print}
use Rattle.std.specs.Option.{option_to_list}
use Rattle.command_defs.specs.declared.CommonEnd.{CommonEnd}
use Rattle.command_defs.specs.declared.CommonEnd.TheVariants.{ReadFault, TooLong, WriteFault, Memory}
use Rattle.command_defs.specs.Outside.{OutsideAt, outside, ReadsTo, AllRead, ReadStopped, WritesTo, AllWritten, WriteStopped}
use Rattle.command_defs.specs.Output.{Prints, WritesBeforeReads}
use Rattle.commands.specs.command_output.Writes.{WritesAll, WritesFront, WritesLines}
use Rattle.commands.proofs.command_output.Written.{none_then_none, none_then_last, prints_none, prints_more, front_more, front_all, at_least, no_read_failed}
use Rattle.command_bearers.specs.declared.script_word.end.ScriptEnd.{ScriptEnd}
use Rattle.command_bearers.specs.declared.script_word.end.ScriptEnd.TheVariants.{Done, Script, Stopped, Common}
use Rattle.command_bearers.specs.declared.script_word.end.StopCause.TheVariants.{Outstanding, Spent}
use Rattle.command_bearers.specs.script_word.Meaning.{WordMeaning}
use Rattle.command_bearers.specs.script_word.Ends.{script_status, script_last_lines, end_text}
use Rattle.command_bearers.specs.script_word.Run.{PrintsScript, ScriptMeets}
use Rattle.command_bearers.specs.script_word.inside.Stops.{RunsTo, PrintsTo, ReadsUntil, WritesUntil, Finishes, Silent, Written, Cut, Unwritten}

-- ---- the status of the reads

reads_end : (a b : SourceAt) (end : ScriptEnd) → ReadsUntil a b end → ReadsTo a b (script_status end).code
reads_end a b (Done n) h = AllRead h (λ (e : 0 ≡ 6). omega arith)
reads_end a b (Script place reason) h = AllRead h (λ (e : 4 ≡ 6). omega arith)
reads_end a b (Stopped place Outstanding) h = AllRead h (λ (e : 5 ≡ 6). omega arith)
reads_end a b (Stopped place (Spent counter)) h = AllRead h (λ (e : 10 ≡ 6). omega arith)
reads_end a b (Common (ReadFault taken)) h = ReadStopped h (inl refl)
reads_end a b (Common TooLong) h = AllRead h (λ (e : 11 ≡ 6). omega arith)
reads_end a b (Common WriteFault) h = AllRead h (λ (e : 7 ≡ 6). omega arith)
reads_end a b (Common Memory) h = AllRead h (λ (e : 9 ≡ 6). omega arith)

-- the last line was not written, and the code says so
reads_unwritten : (a b : SourceAt) (end : ScriptEnd) (code : ℕ) → (code ≡ 6 → ⊥) → (code ≡ 6) ⊎ ((code ≡ 7) ⊎ (code ≡ 9)) → ReadsUntil a b end
    → ReadsTo a b code
reads_unwritten a b (Done n) code other either h = AllRead h other
reads_unwritten a b (Script place reason) code other either h = AllRead h other
reads_unwritten a b (Stopped place cause) code other either h = AllRead h other
reads_unwritten a b (Common (ReadFault taken)) code other either h = ReadStopped h either
reads_unwritten a b (Common TooLong) code other either h = AllRead h other
reads_unwritten a b (Common WriteFault) code other either h = AllRead h other
reads_unwritten a b (Common Memory) code other either h = AllRead h other

-- ---- the status of the writes, and what was written

-- there is no last line
silent_writes : (a b : SinkAt) (end : ScriptEnd) → script_last_lines end ≡ [] → WritesUntil a b end → WritesTo a b (script_status end).code
silent_writes a b (Done n) e h = absurd (cc)
silent_writes a b (Script place reason) e h = absurd (cc)
silent_writes a b (Stopped place cause) e h = absurd (cc)
silent_writes a b (Common (ReadFault taken)) e h = absurd (cc)
silent_writes a b (Common TooLong) e h = absurd (cc)
silent_writes a b (Common WriteFault) e h = WriteStopped h refl
silent_writes a b (Common Memory) e h = AllWritten h (λ (f : 9 ≡ 7). omega arith)

silent_prints : (a b : SinkAt) (Meets : ScriptEnd → Type 0) (text : List ℕ) (end : ScriptEnd) → script_last_lines end ≡ []
    → PrintsTo a b text end → PrintsScript a b Meets text end
silent_prints a b Meets text (Done n) e h = absurd (cc)
silent_prints a b Meets text (Script place reason) e h = absurd (cc)
silent_prints a b Meets text (Stopped place cause) e h = absurd (cc)
silent_prints a b Meets text (Common (ReadFault taken)) e h = absurd (cc)
silent_prints a b Meets text (Common TooLong) e h = absurd (cc)
silent_prints a b Meets text (Common WriteFault) e h = (None, tt, h)
silent_prints a b Meets text (Common Memory) e h = h

-- the text before the last line
text_before : (a b : SinkAt) (text : List ℕ) (end : ScriptEnd) (line : OutLine) → script_last_lines end ≡ line ∷ []
    → PrintsTo a b text end → Prints a b text
text_before a b text (Done n) line e h = h
text_before a b text (Script place reason) line e h = h
text_before a b text (Stopped place cause) line e h = h
text_before a b text (Common (ReadFault taken)) line e h = h
text_before a b text (Common TooLong) line e h = h
text_before a b text (Common WriteFault) line e h = absurd (cc)
text_before a b text (Common Memory) line e h = absurd (cc)

none_before : (a b : SinkAt) (end : ScriptEnd) (line : OutLine) → script_last_lines end ≡ line ∷ [] → WritesUntil a b end
    → WritesUntil a b (Done 0)
none_before a b (Done n) line e h = h
none_before a b (Script place reason) line e h = h
none_before a b (Stopped place cause) line e h = h
none_before a b (Common (ReadFault taken)) line e h = h
none_before a b (Common TooLong) line e h = h
none_before a b (Common WriteFault) line e h = absurd (cc)
none_before a b (Common Memory) line e h = h

not_seven : (end : ScriptEnd) (line : OutLine) → script_last_lines end ≡ line ∷ [] → (script_status end).code ≡ 7 → ⊥
not_seven (Done n) line e f = omega arith
not_seven (Script place reason) line e f = omega arith
not_seven (Stopped place Outstanding) line e f = omega arith
not_seven (Stopped place (Spent counter)) line e f = omega arith
not_seven (Common (ReadFault taken)) line e f = omega arith
not_seven (Common TooLong) line e f = omega arith
not_seven (Common WriteFault) line e f = cc
not_seven (Common Memory) line e f = omega arith

written_prints : (a b : SinkAt) (Meets : ScriptEnd → Type 0) (text : List ℕ) (end : ScriptEnd) (line : OutLine)
    → script_last_lines end ≡ line ∷ []
    → Prints a b (text ++ end_text end) → PrintsScript a b Meets text end
written_prints a b Meets text (Done n) line e h = h
written_prints a b Meets text (Script place reason) line e h = h
written_prints a b Meets text (Stopped place cause) line e h = h
written_prints a b Meets text (Common (ReadFault taken)) line e h = h
written_prints a b Meets text (Common TooLong) line e h = h
written_prints a b Meets text (Common WriteFault) line e h = absurd (cc)
written_prints a b Meets text (Common Memory) line e h = absurd (cc)

-- ---- what was written at each read

-- the text was written before a read that failed
answered : (first : OutsideAt) (source : SourceAt) (sink last : SinkAt) (text : List ℕ) (end : ScriptEnd) → ReadsUntil first.source source end
    → PrintsTo first.sink sink text end → (more : List ℕ) × Prints sink last more → WritesBeforeReads first (outside source last) text
answered first source sink last text (Done n) h prints more = no_read_failed first (outside source last) text h
answered first source sink last text (Script place reason) h prints more = no_read_failed first (outside source last) text h
answered first source sink last text (Stopped place cause) h prints more = no_read_failed first (outside source last) text h
answered first source sink last text (Common (ReadFault taken)) h prints more = λ fresh failed. at_least prints more
answered first source sink last text (Common TooLong) h prints more = no_read_failed first (outside source last) text h
answered first source sink last text (Common WriteFault) h prints more = no_read_failed first (outside source last) text h
answered first source sink last text (Common Memory) h prints more = no_read_failed first (outside source last) text h

-- ---- with the word

pub meets : {Event : Type 0} {m : WordMeaning Event} {first : OutsideAt} {source : SourceAt} {sink last : SinkAt} (end result : ScriptEnd)
    → RunsTo m first (outside source sink) end
    → Finishes sink last end result
    → ScriptMeets m first (outside source last) result
meets {m = m} {first = first} {source = source} {sink = sink} {last = last} end result r (Silent none same kept) =
    subst (λ (e : ScriptEnd). ScriptMeets m first (outside source last) e) (sym same)
    (subst (λ (s : SinkAt). ScriptMeets m first (outside source s) end) (sym kept)
    (record {
      split = r.split;
      events = r.events;
      input = r.input;
      are = r.are;
      ends = r.ends;
      prints = silent_prints first.sink sink _ _ end none r.prints;
      answered = answered first source sink sink (m.text r.events) end r.reads r.prints ([], prints_none sink);
      calls = record { reads = reads_end _ _ end r.reads; writes = silent_writes first.sink sink end none r.writes };
    }))
meets {m = m} {first = first} {source = source} {sink = sink} {last = last} end result r (Written line some same written) =
    subst (λ (e : ScriptEnd). ScriptMeets m first (outside source last) e) (sym same)
    (record {
      split = r.split;
      events = r.events;
      input = r.input;
      are = r.are;
      ends = r.ends;
      prints = written_prints first.sink last _ _ end line some
          (prints_more (text_before first.sink sink _ end line some r.prints) written.prints);
      answered = answered first source sink last (m.text r.events) end r.reads r.prints (end_text end, written.prints);
      calls = record {
        reads = reads_end _ _ end r.reads;
        writes = AllWritten (none_then_none (none_before first.sink sink end line some r.writes) written.none) (not_seven end line some);
      };
    })
meets {m = m} {first = first} {source = source} {sink = sink} {last = last} end result r (Cut line some same cut) =
    subst (λ (e : ScriptEnd). ScriptMeets m first (outside source last) e) (sym same)
    (record {
      split = r.split;
      events = r.events;
      input = r.input;
      are = r.are;
      ends = tt;
      prints = (
        Some end,
        r.ends,
        front_more (text_before first.sink sink _ end line some r.prints) cut.prints,
      );
      answered = answered first source sink last (m.text r.events) end r.reads r.prints (cut.prints.part, cut.prints.prints);
      calls = record {
        reads = reads_unwritten _ _ end 7 (λ (e : 7 ≡ 6). omega arith) (inr (inl refl)) r.reads;
        writes = WriteStopped (none_then_last (none_before first.sink sink end line some r.writes) cut.last) refl;
      };
    })
meets {m = m} {first = first} {source = source} {sink = sink} {last = last} end result r (Unwritten line some same kept) =
    subst (λ (e : ScriptEnd). ScriptMeets m first (outside source last) e) (sym same)
    (subst (λ (s : SinkAt). ScriptMeets m first (outside source s) (Common Memory)) (sym kept)
    (record {
      split = r.split;
      events = r.events;
      input = r.input;
      are = r.are;
      ends = tt;
      prints = front_all (text_before first.sink sink _ end line some r.prints);
      answered = answered first source sink sink (m.text r.events) end r.reads r.prints ([], prints_none sink);
      calls = record {
        reads = reads_unwritten _ _ end 9 (λ (e : 9 ≡ 6). omega arith) (inr (inr refl)) r.reads;
        writes = AllWritten (none_before first.sink sink end line some r.writes) (λ (e : 9 ≡ 7). omega arith);
      };
    }))

-- ---- at the exits of the code

one_line : (end : ScriptEnd) (line : OutLine) (found : Option OutLine) → found ≡ Some line → option_to_list found ≡ script_last_lines end
    → script_last_lines end ≡ line ∷ []
one_line end line found e f = sym f ∙ ap (λ (o : Option OutLine). option_to_list o) e

module _ {a b : SinkAt} (end : ScriptEnd) (line : OutLine) (found : Option OutLine) (some : found ≡ Some line) (lines : option_to_list found ≡ script_last_lines end) where
  pub finishes : WritesAll a b (print (line ∷ [])) → Finishes a b end end
  finishes w =
      let is = one_line end line found some lines in
      Written line is refl (subst (λ (ls : List OutLine). WritesAll a b (print ls)) (sym is) w)

  pub finish_stopped : (error : CommonEnd) → WritesLines a b (line ∷ []) (Err error) → Finishes a b end (Common error)
  finish_stopped (ReadFault taken) w = absurd w
  finish_stopped TooLong w = absurd w
  finish_stopped WriteFault w =
      let is = one_line end line found some lines in
      Cut line is refl (subst (λ (ls : List OutLine). WritesFront a b (print ls)) (sym is) w)
  finish_stopped Memory w = Unwritten line (one_line end line found some lines) refl w

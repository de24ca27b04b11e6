-- The lines so far, one turn more, and each end of judging.
use Rattle.std.proofs.Common.{◌≡◌, ◌<◌, ℕ, ◌+◌, List, [], ◌∷◌, ◌++◌, length, Option, Some, None, Result, Ok, Err, refl, sym, ap, ◌∙◌, subst, arith}
use Rattle.std.specs.Prelude.{IfOk}
use Rattle.gnb_base.specs.declared.lines.Line.{Line}
use Rattle.gnb_base.specs.Outside.{SourceAt}
use Rattle.gnb_base.specs.Reading.{Reading, fresh, still_to_come, NextMeets}
use Rattle.transcript_defs.specs.declared.line.TextLine.{TextLine}
use Rattle.transcript_defs.specs.Rules.{Spelling}
use Rattle.transcript_check.specs.declared.checker.CheckError.{CheckError}
use Rattle.transcript_check.specs.declared.checker.CheckError.TheVariants as errors
use Rattle.transcript_check.specs.Steps.{Progress, going, LineMeets}
use Rattle.command_defs.specs.declared.CommonEnd.TheVariants.{ReadFault, TooLong, WriteFault, Memory}
use Rattle.command_defs.specs.declared.input_defs.InputEnd.{InputEnd}
use Rattle.command_defs.specs.declared.input_defs.InputEnd.TheVariants as inputs
use Rattle.command_defs.specs.Ends.{end_of_input}
use Rattle.command_defs.specs.input_defs.Ends.{EndsReading}
use Rattle.command_defs.specs.input_defs.Faults.{NoReadFailed, FaultsOfEnd}
use Rattle.command_defs.specs.input_defs.Split.{InputSplit, input_split, rest_of}
use Rattle.command_defs.specs.input_defs.Standing.{StandsAfter, split_of}
use Rattle.commands.specs.input_lines.ReadsLine.{StopsReading}
use Rattle.commands.proofs.input_lines.Sources.{none_failed, none_then_none}
use Rattle.commands.proofs.input_lines.Standing.{stands_first, takes_of, line_stands, comes_next, ends_at}
use Rattle.commands.proofs.input_lines.Stopped.{stops_at, takes_on}
use Rattle.command_verify.specs.declared.end.VerifyEnd.{VerifyEnd}
use Rattle.command_verify.specs.declared.end.VerifyEnd.TheVariants.{Sound, Unsound, Common}
use Rattle.command_verify.specs.Verify.{AreKept, AtNext, AtEnd, VerdictMeets, FaultsOfVerdict, Judges}
use Rattle.command_verify.specs.inside.Turns.{end_of_check, JudgedAt, judged_at, SoFar, EndsThere, TurnMeets, Finishes}
use Rattle.command_verify.proofs.Lines.{lines-length, kept_more, broken_next, sound_there, broken_end}

-- ---- the begin

module _ (encode : Spelling) (source : SourceAt) where
  pub begins : (reading : Reading) (progress : Progress) → reading ≡ fresh → progress ≡ going []
      → SoFar encode source (judged_at reading source progress 0)
  begins reading progress is goes = record {
    taken = [];
    lines = [];
    past = [];
    stands = subst (λ (r : Reading). StandsAfter source source r [] []) (sym is) (stands_first source);
    kept = record { texts_are = refl; proper = tt; sound = tt };
    goes = goes;
    counted = refl;
    bounded = omega arith;
  }

  -- out of memory before the first read
  pub no_room : Judges encode source source (Common Memory)
  no_room = record { split = split_of fresh [] []; input = takes_of (stands_first source); meets = tt; reads = none_failed source }

-- ---- one turn more

reads_input : (before after : SourceAt) (why : InputEnd) → FaultsOfEnd before after why
    → FaultsOfVerdict before after (Common (end_of_input why))
reads_input before after (inputs.ReadFault taken) h = h
reads_input before after inputs.TooLong h = h
reads_input before after inputs.Memory h = h

meets_input : (encode : Spelling) (left : Option (List ℕ)) (split : InputSplit) (past : List TextLine) (why : InputEnd)
    → AreKept encode past split.lines → EndsReading split why → VerdictMeets encode left split (Common (end_of_input why))
meets_input encode left split past (inputs.ReadFault taken) kept h = ((past, kept), h)
meets_input encode left split past inputs.TooLong kept h = ((past, kept), h)
meets_input encode left split past inputs.Memory kept h = tt

module _ {encode : Spelling} {first : SourceAt} {old : JudgedAt} (s : SoFar encode first old) (new : Reading) (after : SourceAt) where
  ends_there : NextMeets old.reading new old.source after (Ok None) → EndsThere encode first (judged_at new after old.progress old.count)
  ends_there t =
      let end = ends_at s.stands t in
      record {
        taken = s.taken ++ t.taken;
        lines = s.lines;
        past = s.past;
        takes = end.takes;
        at_end = end.at_end;
        reads = none_then_none s.stands.reads (record { faults = t.faults; failed = t.failed });
        kept = s.kept;
        goes = s.goes;
        counted = s.counted;
      }

  unread : (why : InputEnd) → StopsReading old.reading new old.source after why → Judges encode first after (Common (end_of_input why))
  unread why how =
      let stop = stops_at s.stands why how in
      record {
        split = input_split (s.taken ++ how.meets.taken) s.lines (old.reading.kept ++ how.meets.taken);
        input = stop.takes;
        meets = meets_input encode (rest_of first after) _ s.past why s.kept stop.ends;
        reads = reads_input _ _ why stop.reads;
      }

  module _ (line : Line) (t : NextMeets old.reading new old.source after (Ok (Some line))) where
    none_more : NoReadFailed first after
    none_more = none_then_none s.stands.reads (record { faults = t.faults; failed = t.failed })

    goes_on : (progress : Progress) → LineMeets encode line.text (going s.past) progress (Ok tt)
        → SoFar encode first (judged_at new after progress line.number)
    goes_on progress h =
        let more = line_stands line s.stands t in
        record {
          taken = s.taken ++ t.taken;
          lines = s.lines ++ line.text ∷ [];
          past = h.0 ∷ s.past;
          stands = more;
          kept = kept_more encode s.past s.lines s.kept line.text h.0 h.1;
          goes = h.2;
          counted = sym t.answers.lines ∙ more.count;
          bounded = omega (arith, t.answers.counted, t.answers.within);
        }

    line_stops : (error : CheckError) (progress : Progress) → LineMeets encode line.text (going s.past) progress (Err error)
        → Judges encode first after (end_of_check error line.number)
    line_stops (errors.Unsound rule) progress h =
        let at : line.number ≡ length s.lines + 1 = t.answers.number ∙ ap (λ (n : ℕ). n + 1) s.stands.count in
        record {
          split = input_split (s.taken ++ t.taken) s.lines (old.reading.kept ++ t.taken);
          input = takes_on s.stands t.answers.going t;
          meets = AtNext (record {
            line = line.text;
            next = comes_next first line t;
            at = at;
            unsound = broken_next encode s.past s.lines s.kept line.text rule h.0 line.number at;
          });
          reads = none_more;
        }
    line_stops errors.Memory progress h = record {
      split = input_split (s.taken ++ t.taken) s.lines (old.reading.kept ++ t.taken);
      input = takes_on s.stands t.answers.going t;
      meets = tt;
      reads = none_more;
    }

-- ---- the end of the text

module _ {encode : Spelling} {first : SourceAt} {now : JudgedAt} (e : EndsThere encode first now) where
  finished_so : (end : VerifyEnd) → Finishes (going e.past) now.count end → Judges encode first now.source end
  finished_so (Sound lines) h = record {
    split = input_split e.taken e.lines [];
    input = e.takes;
    meets = record {
      all = record { nothing = refl; at_end = e.at_end };
      sound = sound_there encode e.past e.lines e.kept h.0;
      counted = h.1 ∙ sym (lines-length encode e.past e.lines e.kept);
    };
    reads = e.reads;
  }
  finished_so (Unsound place rule) h =
      let at : place ≡ length e.lines + 1 = h.1 ∙ ap (λ (n : ℕ). n + 1) e.counted in
      record {
        split = input_split e.taken e.lines [];
        input = e.takes;
        meets = AtEnd (record {
          all = record { nothing = refl; at_end = e.at_end };
          at = at;
          unsound = broken_end encode e.past e.lines e.kept rule h.0.0 h.0.1 place at;
        });
        reads = e.reads;
      }
  finished_so (Common (ReadFault taken)) h = absurd h
  finished_so (Common TooLong) h = absurd h
  finished_so (Common WriteFault) h = absurd h
  finished_so (Common Memory) h = absurd h

  pub finished : (count : ℕ) (end : VerifyEnd) → count ≡ now.count → Finishes now.progress count end → Judges encode first now.source end
  finished count end same h =
      finished_so end (subst (λ (n : ℕ). Finishes (going e.past) n end) same (subst (λ (p : Progress). Finishes p count end) e.goes h))

-- ---- at the exits of the code

module _ (encode : Spelling) (first : SourceAt) (now : JudgedAt) where
  pub turn_on : (number : ℕ) (found : Option ℕ) → found ≡ Some number → TurnMeets encode first now (Ok found)
      → SoFar encode first (record now { count = number })
  turn_on number found e t = subst (λ (o : Option ℕ). TurnMeets encode first now (Ok o)) e t

  pub turn_ends : (found : Option ℕ) → found ≡ None → TurnMeets encode first now (Ok found) → EndsThere encode first now
  turn_ends found e t = subst (λ (o : Option ℕ). TurnMeets encode first now (Ok o)) e t

pub no_turn : (P : Option ℕ → Type 0) (end : VerifyEnd) (result : Result (Option ℕ) VerifyEnd) → result ≡ Err end → IfOk result P
no_turn P end result e = subst (λ (r : Result (Option ℕ) VerifyEnd). IfOk r P) (sym e) tt

module _ {old new : Reading} {before after : SourceAt} (found : Option Line) (t : NextMeets old new before after (Ok found)) (line : Line) (is : found ≡ Some line) where
  handed : NextMeets old new before after (Ok (Some line))
  handed = subst (λ (o : Option Line). NextMeets old new before after (Ok o)) is t

  pub turn_falls : still_to_come new < still_to_come old
  turn_falls = handed.answers.falls

module _ {encode : Spelling} {first : SourceAt} {old : JudgedAt} (s : SoFar encode first old) (new : Reading) (after : SourceAt) where
  pub turn_unread : (progress : Progress) (why : InputEnd) (end : VerifyEnd) (result : Result (Option ℕ) VerifyEnd)
      → StopsReading old.reading new old.source after why → result ≡ Err end → end ≡ Common (end_of_input why)
      → TurnMeets encode first (judged_at new after progress old.count) result
  turn_unread progress why end result how e f =
      subst (λ (r : Result (Option ℕ) VerifyEnd). TurnMeets encode first (judged_at new after progress old.count) r)
      (sym (e ∙ ap (λ (x : VerifyEnd). Err x) f)) (unread s new after why how)

  module _ (found : Option Line) (t : NextMeets old.reading new old.source after (Ok found)) where
    pub turn_done : found ≡ None → EndsThere encode first (judged_at new after old.progress old.count)
    turn_done e = ends_there s new after (subst (λ (o : Option Line). NextMeets old.reading new old.source after (Ok o)) e t)

    module _ (line : Line) (is : found ≡ Some line) (text : List ℕ) (same : text ≡ line.text) (progress : Progress) where
      judged : (result : Result (Unit {0}) CheckError) → LineMeets encode text old.progress progress result
          → LineMeets encode line.text (going s.past) progress result
      judged result h =
          subst (λ (p : Progress). LineMeets encode line.text p progress result) s.goes
          (subst (λ (x : List ℕ). LineMeets encode x old.progress progress result) same h)

      pub turn_judged : LineMeets encode text old.progress progress (Ok tt) → SoFar encode first (judged_at new after progress line.number)
      turn_judged h = goes_on s new after line (handed found t line is) progress (judged (Ok tt) h)

      pub turn_refused : (error : CheckError) (end : VerifyEnd) → LineMeets encode text old.progress progress (Err error)
          → end ≡ end_of_check error line.number → Judges encode first after end
      turn_refused error end h e =
          subst (λ (x : VerifyEnd). Judges encode first after x) (sym e)
          (line_stops s new after line (handed found t line is) error progress (judged (Err error) h))

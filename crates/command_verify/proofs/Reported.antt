-- What judging came to is written; a whole input is reported; and a stop at a line is near it.
use Rattle.std.proofs.Common.{◌≡◌, ◌≤◌, ◌<◌, ◌⊎◌, ℕ, ◌+◌, suc, zero, List, [], ◌∷◌, ◌++◌, length, take, Option, Some, None, refl, sym, ap, ◌∙◌, subst, inl, inr, length-append, arith}
use Rattle.std.specs.Io.KnownBytes.{Consumes}
use Rattle.gnb_base.specs.Lines.{lines_of}
use Rattle.gnb_base.specs.Outside.{SourceAt, SinkAt}
use Rattle.gnb_base.specs.Reading.{input_limit, piece_size}
use Rattle.transcript_defs.specs.declared.rule.Rule.{Rule}
use Rattle.transcript_defs.specs.Rules.{Spelling}
use Rattle.transcript_defs.specs.Sound.{IsUnsound}
use Rattle.transcript_defs.specs.Sound as sounds
use Rattle.proof_sound_transcripts.proofs.Apart.{not_both, one_unsound}
use Rattle.command_defs.specs.declared.Status.{Status}
use Rattle.command_defs.specs.declared.CommonEnd.TheVariants.{ReadFault, TooLong, WriteFault, Memory}
use Rattle.command_defs.specs.input_defs.Split.{InputSplit, rest_of, joined, TakesInput}
use Rattle.command_defs.specs.input_defs.Ends.{IsTooLong}
use Rattle.command_defs.specs.input_defs.Near.{StopsNear}
use Rattle.command_defs.specs.Outside.{OutsideAt, outside, ReadsTo, AllRead, ReadStopped, AllWritten, WriteStopped}
use Rattle.command_defs.specs.Output.{Prints, PrintsFront}
use Rattle.commands.specs.command_output.Writes.{WritesAll, WritesFront}
use Rattle.commands.proofs.command_output.Faults.{no_read_fault, no_write_fault}
use Rattle.commands.proofs.command_output.Written.{none_failed}
use Rattle.commands.proofs.input_lines.Near.{near_handed, near_next}
use Rattle.commands.proofs.input_lines.Sources.{rest_known}
use Rattle.commands.proofs.input_lines.Wholes.{TakesOf, takes_known, all_lines, next_of}
use Rattle.command_verify.specs.declared.end.VerifyEnd.{VerifyEnd}
use Rattle.command_verify.specs.declared.end.VerifyEnd.TheVariants.{Sound, Unsound, Common}
use Rattle.command_verify.specs.Ends.{verify_status, verdict_text, StopsAtVerdict}
use Rattle.command_verify.specs.Verify.{IsUnsoundInput, AtNext, AtEnd, VerdictMeets, FaultsOfVerdict, Judges, PrintsVerdict, Written, Cut, Unwritten, VerifyMeets}
use Rattle.command_verify.specs.Whole.{Reports, ReportsLines, VerifiesWholly}

-- ---- the status of the reads and of the writes

reads_end : (a b : SourceAt) (verdict : VerifyEnd) → FaultsOfVerdict a b verdict → ReadsTo a b (verify_status verdict).code
reads_end a b (Sound lines) h = AllRead h (λ (e : 0 ≡ 6). omega arith)
reads_end a b (Unsound place rule) h = AllRead h (λ (e : 12 ≡ 6). omega arith)
reads_end a b (Common (ReadFault taken)) h = ReadStopped h (inl refl)
reads_end a b (Common TooLong) h = AllRead h (λ (e : 11 ≡ 6). omega arith)
reads_end a b (Common WriteFault) h = AllRead h (λ (e : 7 ≡ 6). omega arith)
reads_end a b (Common Memory) h = AllRead h (λ (e : 9 ≡ 6). omega arith)

-- the text of the verdict was not written, and the code says so
reads_unwritten : (a b : SourceAt) (verdict : VerifyEnd) (code : ℕ) → (code ≡ 6 → ⊥) → (code ≡ 6) ⊎ ((code ≡ 7) ⊎ (code ≡ 9))
    → FaultsOfVerdict a b verdict → ReadsTo a b code
reads_unwritten a b (Sound lines) code other either h = AllRead h other
reads_unwritten a b (Unsound place rule) code other either h = AllRead h other
reads_unwritten a b (Common (ReadFault taken)) code other either h = ReadStopped h either
reads_unwritten a b (Common TooLong) code other either h = AllRead h other
reads_unwritten a b (Common WriteFault) code other either h = AllRead h other
reads_unwritten a b (Common Memory) code other either h = AllRead h other

-- judging itself ends in no write fault
not_seven : (encode : Spelling) (left : Option (List ℕ)) (split : InputSplit) (verdict : VerifyEnd) → VerdictMeets encode left split verdict
    → (verify_status verdict).code ≡ 7 → ⊥
not_seven encode left split (Sound lines) h e = omega arith
not_seven encode left split (Unsound place rule) h e = omega arith
not_seven encode left split (Common (ReadFault taken)) h e = omega arith
not_seven encode left split (Common TooLong) h e = omega arith
not_seven encode left split (Common WriteFault) h e = h
not_seven encode left split (Common Memory) h e = omega arith

-- ---- the three ends of the output

module _ (encode : Spelling) {a b : SourceAt} (verdict : VerifyEnd) (h : Judges encode a b verdict) where
  pub unwritten : (sink : SinkAt) → VerifyMeets encode (outside a sink) (outside b sink) (Common Memory)
  unwritten sink = record {
    verdict = verdict;
    judges = h;
    prints = Unwritten refl refl;
    calls = record {
      reads = reads_unwritten a b verdict 9 (λ (e : 9 ≡ 6). omega arith) (inr (inr refl)) h.reads;
      writes = AllWritten (none_failed sink) (λ (e : 9 ≡ 7). omega arith);
    };
  }

  module _ {c d : SinkAt} (text : List ℕ) (same : text ≡ verdict_text verdict) where
    pub cut : WritesFront c d text → VerifyMeets encode (outside a c) (outside b d) (Common WriteFault)
    cut w = record {
      verdict = verdict;
      judges = h;
      prints = Cut refl (subst (λ (t : List ℕ). PrintsFront c d t) same w.prints);
      calls = record {
        reads = reads_unwritten a b verdict 7 (λ (e : 7 ≡ 6). omega arith) (inr (inl refl)) h.reads;
        writes = WriteStopped w.last refl;
      };
    }

    pub written : WritesAll c d text → VerifyMeets encode (outside a c) (outside b d) verdict
    written w = record {
      verdict = verdict;
      judges = h;
      prints = Written refl (subst (λ (t : List ℕ). Prints c d t) same w.prints);
      calls = record { reads = reads_end a b verdict h.reads; writes = AllWritten w.none (not_seven encode _ _ verdict h.meets) };
    }

-- ---- a whole input

long_by : (input : List ℕ) (left : Option (List ℕ)) (split : InputSplit) → length input ≤ input_limit
    → Consumes (Some input) left split.taken → IsTooLong split → ⊥
long_by input None split within h e = h
long_by input (Some ys) split within h e = omega (arith, within, ap length h, length-append split.taken ys, e.at)

module _ (encode : Spelling) (before after : SinkAt) (lines : List (List ℕ)) where
  reports_sound : sounds.Sound encode lines → Prints before after (verdict_text (Sound (length lines)))
      → ReportsLines encode before after lines (verify_status (Sound (length lines)))
  reports_sound s w = record { sound = λ _. inl (refl, w); unsound = λ place rule u. absurd (not_both encode lines place rule s u) }

  reports_unsound : (place : ℕ) (rule : Rule) → IsUnsound encode lines place rule → Prints before after (verdict_text (Unsound place rule))
      → ReportsLines encode before after lines (verify_status (Unsound place rule))
  reports_unsound place rule u w = record {
    sound = λ s. absurd (not_both encode lines place rule s u);
    unsound = λ other next v.
        let one = one_unsound encode lines place other rule next u v in
        subst (λ (r : Rule). Reports before after (Unsound other r) (verify_status (Unsound place rule))) one.1
        (subst (λ (p : ℕ). Reports before after (Unsound p rule) (verify_status (Unsound place rule))) one.0 (inl (refl, w)));
  }

  out_of_memory : (status : Status) → status.code ≡ 9 → ReportsLines encode before after lines status
  out_of_memory status e = record { sound = λ s. inr e; unsound = λ place rule u. inr e }

module _ (encode : Spelling) (c d : SinkAt) {input : List ℕ} {left : Option (List ℕ)} {split : InputSplit} (t : TakesOf input left split) where
  by_unsound : (place : ℕ) (rule : Rule) → IsUnsoundInput encode left split place rule → Prints c d (verdict_text (Unsound place rule))
      → ReportsLines encode c d (lines_of input) (verify_status (Unsound place rule))
  by_unsound place rule (AtNext b) w =
      let next = next_of t b.next in
      reports_unsound encode c d (lines_of input) place rule
      (subst (λ (ls : List (List ℕ)). IsUnsound encode ls place rule) (sym next.split) (b.unsound next.more)) w
  by_unsound place rule (AtEnd b) w =
      reports_unsound encode c d (lines_of input) place rule
      (subst (λ (ls : List (List ℕ)). IsUnsound encode ls place rule) (sym (all_lines t b.all.nothing b.all.at_end)) b.unsound) w

  by_verdict : (verdict : VerifyEnd) → VerdictMeets encode left split verdict → length input ≤ input_limit
      → ((verify_status verdict).code ≡ 6 → ⊥) → Prints c d (verdict_text verdict)
      → ReportsLines encode c d (lines_of input) (verify_status verdict)
  by_verdict (Sound n) h within unfailed w =
      let same = all_lines t h.all.nothing h.all.at_end in
      let count : n ≡ length (lines_of input) = h.counted ∙ ap (λ (ls : List (List ℕ)). length ls) (sym same) in
      subst (λ (k : ℕ). ReportsLines encode c d (lines_of input) (verify_status (Sound k))) (sym count)
      (reports_sound encode c d (lines_of input) (subst (λ (ls : List (List ℕ)). sounds.Sound encode ls) (sym same) h.sound)
      (subst (λ (k : ℕ). Prints c d (verdict_text (Sound k))) count w))
  by_verdict (Unsound place rule) h within unfailed w = by_unsound place rule h w
  by_verdict (Common (ReadFault taken)) h within unfailed w = absurd (unfailed refl)
  by_verdict (Common TooLong) h within unfailed w = absurd (long_by input left split within t.consumes h.1)
  by_verdict (Common WriteFault) h within unfailed w = absurd h
  by_verdict (Common Memory) h within unfailed w = out_of_memory encode c d (lines_of input) (verify_status (Common Memory)) refl

module _ (encode : Spelling) (before after : OutsideAt) where
  by_prints : (end : VerifyEnd) (m : VerifyMeets encode before after end) → PrintsVerdict before.sink after.sink m.verdict end
      → VerifiesWholly encode before after (verify_status end)
  by_prints end m (Written same w) input known within none =
      let met = subst (λ (left : Option (List ℕ)). VerdictMeets encode left m.judges.split m.verdict)
      (rest_known before.source after.source input known) m.judges.meets in
      subst (λ (x : VerifyEnd). ReportsLines encode before.sink after.sink (lines_of input) (verify_status x)) (sym same)
      (by_verdict encode before.sink after.sink (takes_known input known m.judges.input) m.verdict met within
      (λ (e : (verify_status m.verdict).code ≡ 6).
      no_read_fault (ap (λ (x : VerifyEnd). (verify_status x).code) same ∙ e) none.reads m.calls.reads) w)
  by_prints end m (Cut same front) input known within none =
      absurd (no_write_fault (ap (λ (x : VerifyEnd). (verify_status x).code) same) none.writes m.calls.writes)
  by_prints end m (Unwritten same kept) input known within none =
      out_of_memory encode before.sink after.sink (lines_of input) (verify_status end) (ap (λ (x : VerifyEnd). (verify_status x).code) same)

  pub complete : (end : VerifyEnd) → VerifyMeets encode before after end → VerifiesWholly encode before after (verify_status end)
  complete end m = by_prints end m m.prints

-- ---- a stop at a line

-- the lines up to a place are no longer than those up to the next
one_more_line : (place : ℕ) (lines : List (List ℕ)) → length (joined (take place lines)) ≤ length (joined (take (suc place) lines))
one_more_line zero lines = omega arith
one_more_line (suc place) [] = omega arith
one_more_line (suc place) (line ∷ lines) =
    let rest = one_more_line place lines in
    omega (arith, rest, length-append (line ++ 10 ∷ []) (joined (take place lines)), length-append (line ++ 10 ∷ []) (joined (take (suc place) lines)))

near_past : (bytes : List ℕ) (left : Option (List ℕ)) (place : ℕ) → StopsNear bytes left place → StopsNear bytes left (suc place)
near_past bytes left place n =
    let more = one_more_line place (lines_of bytes) in
    record { taken = n.taken; consumes = n.consumes; near = omega (arith, n.near, more) }

module _ (encode : Spelling) (before after : SourceAt) (split : InputSplit) (t : TakesInput before after split) where
  near_unsound : (place : ℕ) (rule : Rule) → IsUnsoundInput encode (rest_of before after) split place rule
      → (bytes : List ℕ) → before.left ≡ Some bytes → StopsNear bytes after.left place
  near_unsound place rule (AtNext b) bytes known = near_next b.line place t b.next b.at bytes known
  near_unsound place rule (AtEnd b) bytes known =
      let few : length split.kept < piece_size = subst (λ (kept : List ℕ). length kept < piece_size) (sym b.all.nothing) (omega arith) in
      let one : suc (length split.lines) ≡ place = omega (arith, b.at) in
      subst (λ (p : ℕ). StopsNear bytes after.left p) one
      (near_past bytes after.left (length split.lines) (near_handed (length split.lines) t few refl bytes known))

by_stop : (encode : Spelling) (before after : SourceAt) (verdict : VerifyEnd) → Judges encode before after verdict
    → StopsAtVerdict before after (verify_status verdict)
by_stop encode before after (Sound lines) j bytes known stop = absurd (omega arith)
by_stop encode before after (Unsound place rule) j bytes known stop = near_unsound encode before after j.split j.input place rule j.meets bytes known
by_stop encode before after (Common (ReadFault taken)) j bytes known stop = absurd (omega arith)
by_stop encode before after (Common TooLong) j bytes known stop = absurd (omega arith)
by_stop encode before after (Common WriteFault) j bytes known stop = absurd (omega arith)
by_stop encode before after (Common Memory) j bytes known stop = absurd (omega arith)

two_codes : (code n : ℕ) → code ≡ n → code ≡ 12 → (n ≡ 12 → ⊥) → ⊥
two_codes code n e f other = other (sym e ∙ f)

module _ (encode : Spelling) (before after : OutsideAt) where
  near_by : (end : VerifyEnd) (m : VerifyMeets encode before after end) → PrintsVerdict before.sink after.sink m.verdict end
      → StopsAtVerdict before.source after.source (verify_status end)
  near_by end m (Written same w) bytes known stop =
      subst (λ (x : VerifyEnd). StopsAtVerdict before.source after.source (verify_status x)) (sym same)
      (by_stop encode before.source after.source m.verdict m.judges) bytes known stop
  near_by end m (Cut same front) bytes known stop =
      absurd (two_codes _ 7 (ap (λ (x : VerifyEnd). (verify_status x).code) same) stop (λ (e : 7 ≡ 12). omega arith))
  near_by end m (Unwritten same kept) bytes known stop =
      absurd (two_codes _ 9 (ap (λ (x : VerifyEnd). (verify_status x).code) same) stop (λ (e : 9 ≡ 12). omega arith))

  pub near : (end : VerifyEnd) → VerifyMeets encode before after end → StopsAtVerdict before.source after.source (verify_status end)
  near end m = near_by end m m.prints

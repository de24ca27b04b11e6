-- A module was checked, and what it came to is written.
use Rattle.std.proofs.Common.{◌≡◌, ◌+◌, ℕ, List, length, Some, Result, Ok, Err, refl, sym, ap, ◌∙◌, subst, inl, inr, append-nil, arith}
use Rattle.commands.proofs.command_output.Faults.{no_read_fault, no_write_fault}
use Rattle.gnb_base.specs.Outside.{SourceAt, SinkAt}
use Rattle.command_defs.specs.declared.input_defs.InputEnd.TheVariants as inputs
use Rattle.command_defs.specs.input_defs.Split.{InputSplit, rest_of, TakesInput}
use Rattle.command_defs.specs.input_defs.Near.{StopsNear}
use Rattle.commands.proofs.input_lines.Near.{near_handed, near_empty, near_next}
use Rattle.scenario_text.specs.declared.script_words.reason.TextReason.{TextReason}
use Rattle.command_defs.specs.declared.CommonEnd.TheVariants.{WriteFault, Memory}
use Rattle.command_defs.specs.Ends.{StopsAtLine}
use Rattle.command_defs.specs.Outside.{OutsideAt, outside, NoneFailed, ReadsTo, AllRead, ReadStopped, AllWritten, WriteStopped}
use Rattle.command_defs.specs.Output.{Prints, PrintsFront}
use Rattle.commands.specs.command_output.Writes.{WritesAll, WritesFront}
use Rattle.commands.proofs.command_output.Written.{none_failed}
use Rattle.commands.specs.declared.command_check.end.CheckEnd.{CheckEnd}
use Rattle.commands.specs.declared.command_check.end.CheckEnd.TheVariants.{Common}
use Rattle.commands.specs.declared.command_check.input.CheckedModule.{CheckedModule}
use Rattle.profile.specs.declared.version.Version.TheVariants.{Two}
use Rattle.commands.specs.declared.input_module.stop.ModuleStop.{ModuleStop}
use Rattle.commands.specs.declared.input_module.stop.ModuleStop.TheVariants.{NoModule, Script, Input}
use Rattle.commands.specs.input_module.Module.{IsWrongModule, Empty, NoHeader, Unended}
use Rattle.commands.specs.command_check.Check.{ChecksInput, FaultsOfAnswer, IsWrongInput, NotGiven, Further}
use Rattle.commands.specs.command_check.Report.{end_of, check_status, module_line, report_of, check_text, PrintsAnswer, Written, Cut, Unwritten, CheckMeets}
use Rattle.commands.specs.command_check.Whole.{IsWhole, FindsModule, ReportsModule, ChecksWholly}
use Rattle.commands.proofs.command_check.Whole.{finds_module}

-- ---- the status of the reads and of the writes

reads_end : (a b : SourceAt) (answer : Result CheckedModule ModuleStop) → FaultsOfAnswer a b answer
    → ReadsTo a b (check_status (end_of answer)).code
reads_end a b (Ok checked) h = AllRead h (λ (e : 0 ≡ 6). omega arith)
reads_end a b (Err (NoModule line column reason)) h = AllRead h (λ (e : 3 ≡ 6). omega arith)
reads_end a b (Err (Script place reason)) h = AllRead h (λ (e : 4 ≡ 6). omega arith)
reads_end a b (Err (Input (inputs.ReadFault taken))) h = ReadStopped h (inl refl)
reads_end a b (Err (Input inputs.TooLong)) h = AllRead h (λ (e : 11 ≡ 6). omega arith)
reads_end a b (Err (Input inputs.Memory)) h = AllRead h (λ (e : 9 ≡ 6). omega arith)

reads_cut : (a b : SourceAt) (answer : Result CheckedModule ModuleStop) → FaultsOfAnswer a b answer → ReadsTo a b 7
reads_cut a b (Ok checked) h = AllRead h (λ (e : 7 ≡ 6). omega arith)
reads_cut a b (Err (NoModule line column reason)) h = AllRead h (λ (e : 7 ≡ 6). omega arith)
reads_cut a b (Err (Script place reason)) h = AllRead h (λ (e : 7 ≡ 6). omega arith)
reads_cut a b (Err (Input (inputs.ReadFault taken))) h = ReadStopped h (inr (inl refl))
reads_cut a b (Err (Input inputs.TooLong)) h = AllRead h (λ (e : 7 ≡ 6). omega arith)
reads_cut a b (Err (Input inputs.Memory)) h = AllRead h (λ (e : 7 ≡ 6). omega arith)

reads_out : (a b : SourceAt) (answer : Result CheckedModule ModuleStop) → FaultsOfAnswer a b answer → ReadsTo a b 9
reads_out a b (Ok checked) h = AllRead h (λ (e : 9 ≡ 6). omega arith)
reads_out a b (Err (NoModule line column reason)) h = AllRead h (λ (e : 9 ≡ 6). omega arith)
reads_out a b (Err (Script place reason)) h = AllRead h (λ (e : 9 ≡ 6). omega arith)
reads_out a b (Err (Input (inputs.ReadFault taken))) h = ReadStopped h (inr (inr refl))
reads_out a b (Err (Input inputs.TooLong)) h = AllRead h (λ (e : 9 ≡ 6). omega arith)
reads_out a b (Err (Input inputs.Memory)) h = AllRead h (λ (e : 9 ≡ 6). omega arith)

not_seven : (answer : Result CheckedModule ModuleStop) → (check_status (end_of answer)).code ≡ 7 → ⊥
not_seven (Ok checked) e = omega arith
not_seven (Err (NoModule line column reason)) e = omega arith
not_seven (Err (Script place reason)) e = omega arith
not_seven (Err (Input (inputs.ReadFault taken))) e = omega arith
not_seven (Err (Input inputs.TooLong)) e = omega arith
not_seven (Err (Input inputs.Memory)) e = omega arith

-- ---- the three ends of the output

pub unwritten : {a b : SourceAt} (sink : SinkAt) (answer : Result CheckedModule ModuleStop) → ChecksInput a b answer
    → CheckMeets (outside a sink) (outside b sink) (Common Memory)
unwritten sink answer h = record {
  answer = answer;
  checks = h;
  prints = Unwritten refl refl;
  calls = record { reads = reads_out _ _ answer h.reads; writes = AllWritten (none_failed sink) (λ (e : 9 ≡ 7). omega arith) };
}

pub cut : {a b : SourceAt} {c d : SinkAt} (answer : Result CheckedModule ModuleStop) (text : List ℕ) → ChecksInput a b answer
    → text ≡ check_text answer → WritesFront c d text
    → CheckMeets (outside a c) (outside b d) (Common WriteFault)
cut {c = c} {d = d} answer text h e w = record {
  answer = answer;
  checks = h;
  prints = Cut refl (subst (λ (t : List ℕ). PrintsFront c d t) e w.prints);
  calls = record { reads = reads_cut _ _ answer h.reads; writes = WriteStopped w.last refl };
}

pub written : {a b : SourceAt} {c d : SinkAt} (answer : Result CheckedModule ModuleStop) (text : List ℕ) (end : CheckEnd)
    → ChecksInput a b answer → text ≡ check_text answer → WritesAll c d text
    → end ≡ end_of answer → CheckMeets (outside a c) (outside b d) end
written {a = a} {b = b} {c = c} {d = d} answer text end h e w same =
    subst (λ (x : CheckEnd). CheckMeets (outside a c) (outside b d) x) (sym same)
    (record {
      answer = answer;
      checks = h;
      prints = Written refl (subst (λ (t : List ℕ). Prints c d t) e w.prints);
      calls = record { reads = reads_end _ _ answer h.reads; writes = AllWritten w.none (not_seven answer) };
    })

-- ---- a whole module

found_reported : (c d : SinkAt) (name : List ℕ) (types : ℕ) (answer : Result CheckedModule ModuleStop) → Prints c d (check_text answer)
    → FindsModule name types answer → ReportsModule c d name types (check_status (end_of answer))
unfolding report_of
found_reported c d name types (Ok checked) all found =
    inl (
      refl,
      subst (λ (text : List ℕ). Prints c d text)
          (append-nil (module_line checked.name checked.types) ∙ ap (λ (n : List ℕ). module_line n checked.types) found.0 ∙ ap (λ (k : ℕ). module_line name k) found.1) all,
    )
found_reported c d name types (Err stop) all found = inr (ap (λ (x : ModuleStop). (check_status (end_of (Err x))).code) found)

by_prints : (before after : OutsideAt) (end : CheckEnd) (c : CheckMeets before after end) → PrintsAnswer before.sink after.sink c.answer end
    → (input name : List ℕ) (types : ℕ)
    → before.source.left ≡ Some input → IsWhole input name types → NoneFailed before after
    → ReportsModule before.sink after.sink name types (check_status end)
by_prints before after end c (Written same all) input name types known w none =
    subst (λ (x : CheckEnd). ReportsModule before.sink after.sink name types (check_status x)) (sym same)
    (found_reported before.sink after.sink name types c.answer all
    (finds_module before.source after.source c.answer c.checks input name types known w
    (λ (taken : ℕ) (e : c.answer ≡ Err (Input (inputs.ReadFault taken))).
    no_read_fault (ap (λ (x : CheckEnd). (check_status x).code) (same ∙ ap end_of e)) none.reads c.calls.reads)))
by_prints before after end c (Cut same part) input name types known w none =
    absurd (no_write_fault (ap (λ (x : CheckEnd). (check_status x).code) same) none.writes c.calls.writes)
by_prints before after end c (Unwritten same kept) input name types known w none = inr (ap (λ (x : CheckEnd). (check_status x).code) same)

pub complete : (before after : OutsideAt) (end : CheckEnd) → CheckMeets before after end → ChecksWholly before after (check_status end)
complete before after end c input name types known w none = by_prints before after end c c.prints input name types known w none

-- ---- a stop at a line

by_module : (before after : SourceAt) (split : InputSplit) (place : ℕ) (reason : TextReason) → TakesInput before after split
    → IsWrongModule Two (rest_of before after) split place reason
    → (bytes : List ℕ) → before.left ≡ Some bytes → StopsNear bytes after.left place
by_module before after split place reason t (Empty e word) bytes known = near_empty place t e bytes known
by_module before after split place reason t (NoHeader e) bytes known =
    let at : place ≡ length split.lines + 1 = e.at ∙ ap (λ (ls : List (List ℕ)). length ls + 1) (sym e.none) in
    near_next e.line place t e.next at bytes known
by_module before after split place reason t (Unended e) bytes known = near_handed place t e.few (sym e.at) bytes known

by_wrong : (before after : SourceAt) (split : InputSplit) (place : ℕ) (reason : TextReason) → TakesInput before after split
    → IsWrongInput (rest_of before after) split place reason
    → (bytes : List ℕ) → before.left ≡ Some bytes → StopsNear bytes after.left place
by_wrong before after split place reason t (NotGiven e) bytes known = by_module before after split place reason t e bytes known
by_wrong before after split place reason t (Further e) bytes known = near_next e.line place t e.next e.at bytes known

by_answer : (before after : SourceAt) (answer : Result CheckedModule ModuleStop) → ChecksInput before after answer
    → StopsAtLine before after (check_status (end_of answer))
by_answer before after (Ok checked) c bytes known stop = absurd (omega arith)
by_answer before after (Err (NoModule line column reason)) c bytes known stop = absurd (omega arith)
by_answer before after (Err (Script place reason)) c bytes known stop =
    by_wrong before after c.split place reason c.input c.answers bytes known
by_answer before after (Err (Input (inputs.ReadFault taken))) c bytes known stop = absurd (omega arith)
by_answer before after (Err (Input inputs.TooLong)) c bytes known stop = absurd (omega arith)
by_answer before after (Err (Input inputs.Memory)) c bytes known stop = absurd (omega arith)

two_codes : (code n : ℕ) → code ≡ n → code ≡ 4 → (n ≡ 4 → ⊥) → ⊥
two_codes code n e f other = other (sym e ∙ f)

near_by : (before after : OutsideAt) (end : CheckEnd) (c : CheckMeets before after end) → PrintsAnswer before.sink after.sink c.answer end
    → StopsAtLine before.source after.source (check_status end)
near_by before after end c (Written same all) bytes known stop =
    subst (λ (x : CheckEnd). StopsAtLine before.source after.source (check_status x)) (sym same) (by_answer before.source after.source c.answer c.checks) bytes known stop
near_by before after end c (Cut same part) bytes known stop =
    absurd (two_codes _ 7 (ap (λ (x : CheckEnd). (check_status x).code) same) stop (λ (e : 7 ≡ 4). omega arith))
near_by before after end c (Unwritten same kept) bytes known stop =
    absurd (two_codes _ 9 (ap (λ (x : CheckEnd). (check_status x).code) same) stop (λ (e : 9 ≡ 4). omega arith))

pub near : (before after : OutsideAt) (end : CheckEnd) → CheckMeets before after end
    → StopsAtLine before.source after.source (check_status end)
near before after end c = near_by before after end c c.prints

-- What each word promises, joined to what the program does.
use Rattle.std.proofs.Common.{◌≡◌, ◌≤◌, ◌⊎◌, ℕ, List, [], ◌∷◌, refl, sym, ap, ◌∙◌, subst, inl, inr, arith, Err}
use Rattle.gnb_base.specs.Outside.{SourceAt, SinkAt, Rose}
use Rattle.commands.proofs.input_lines.Sources.{none_failed as no_read_failed}
use Rattle.scenario_text.specs.declared.line.OutLine.{OutLine}
use Rattle.scenario_text.specs.Print.{print}
use Rattle.command_defs.specs.declared.CommonEnd.{CommonEnd}
use Rattle.command_defs.specs.declared.CommonEnd.TheVariants.{ReadFault, TooLong, WriteFault, Memory}
use Rattle.command_defs.specs.declared.Status.{Status}
use Rattle.command_defs.specs.Ends.{StopsAtLine, UsagePrints, Written, Cut, Unwritten, UsageMeets}
use Rattle.command_defs.specs.Outside.{OutsideAt, outside, ReadsTo, AllRead, ReadStopped, WritesTo, AllWritten, WriteStopped, CallsTo, NoWriteFailed}
use Rattle.command_defs.specs.Statuses.{usage_status, common_status, stop_line}
use Rattle.commands.specs.command_output.Writes.{WritesAll, WritesLines}
use Rattle.commands.proofs.command_output.Written.{none_failed}
use Rattle.command_run.specs.declared.end.RunEnd.{RunEnd}
use Rattle.command_run.specs.declared.end.RunEnd.TheVariants.{Common}
use Rattle.command_run.specs.Ends.{run_status, StopsAtEvent as StopsAtStep}
use Rattle.command_run.specs.Run.{Setting, run_of, RunMeets}
use Rattle.command_run.specs.Whole.{RunsWholly}
use Rattle.command_run.proofs.Finished.{out_of_memory}
use Rattle.command_run.proofs.Whole.{complete, near}
use Rattle.run_defs.specs.Runs.{Transcript}
use Rattle.command_run.specs.declared.generate.end.GenerateEnd.{GenerateEnd}
use Rattle.command_run.specs.declared.generate.end.GenerateEnd.TheVariants as ends
use Rattle.command_run.specs.generate.Script.{script}
use Rattle.command_run.specs.generate.Ends.{generate_status}
use Rattle.command_run.specs.generate.Generate.{PrintsEnd, GenerateMeets, GeneratesWholly}
use Rattle.command_run.specs.generate.Generate as generated
use Rattle.commands.specs.declared.command_check.end.CheckEnd.{CheckEnd}
use Rattle.commands.specs.command_check.Report.{check_status, CheckMeets}
use Rattle.commands.specs.command_check.Whole.{ChecksWholly}
use Rattle.profile.specs.declared.version.Version.{Version}
use Rattle.commands.specs.command_profile.Written.{PrintsProfile, ProfileMeets, WritesWholly}
use Rattle.commands.specs.command_profile.Written as written
use Rattle.scenario_cli.specs.declared.top.Form.{Form}
use Rattle.command_bearers.specs.declared.command_um.config.UmConfig.{UmConfig}
use Rattle.command_bearers.specs.declared.script_word.end.ScriptEnd.{ScriptEnd}
use Rattle.command_bearers.specs.script_word.Ends.{script_status, StopsAtEvent}
use Rattle.command_bearers.specs.command_um.Run.{UmMeets, RunsUm}
use Rattle.command_bearers.specs.declared.command_dup.config.DupConfig.{DupConfig}
use Rattle.command_bearers.specs.command_dup.Run.{DupMeets, RunsDup}
use Rattle.command_values.specs.declared.way.Way.{Way}
use Rattle.command_values.specs.declared.end.ValuesEnd.{ValuesEnd}
use Rattle.command_values.specs.Ends.{values_status, StopsAtValue}
use Rattle.command_values.specs.Values.{Job, job_of, ValuesMeet}
use Rattle.command_values.specs.Whole.{AnswersWholly}
use Rattle.message_codec_defs.specs.Codecs.{octets_of_message}
use Rattle.command_verify.specs.declared.end.VerifyEnd.{VerifyEnd}
use Rattle.command_verify.specs.declared.end.VerifyEnd.TheVariants as verdicts
use Rattle.command_verify.specs.Ends.{verify_status, StopsAtVerdict}
use Rattle.command_verify.specs.Verify.{VerifyMeets}
use Rattle.command_verify.specs.Whole.{VerifiesWholly}
use Rattle.command_verify.proofs.Judged.{no_room}
use Rattle.command_verify.proofs.Reported as verified
use Rattle.scenario_cli.specs.declared.top.Form.TheVariants.{Run, Generate, Check, Profile, Um, Dup, Values, Verify, Other}
use Rattle.scenario_cli.specs.Gnb.{FormMeets, WritesProfile, ConvertsValues}
use Rattle.scenario_cli.specs.inside.Timed.{IsTimed}
use Rattle.scenario_cli.specs.inside.Over.{RunsOver}
use Rattle.scenario_cli.specs.inside.Verified.{VerifiesAll}

-- ---- with words that are no form

pub usage_reported : (source : SourceAt) (a b : SinkAt) (line : OutLine) → line ≡ stop_line usage_status → WritesAll a b (print (line ∷ []))
    → UsageMeets (outside source a) (outside source b) usage_status
usage_reported source a b line e w =
    let all = subst (λ (l : OutLine). WritesAll a b (print (l ∷ []))) e w in
    record { unread = refl; prints = Written refl all.prints all.none }

by_end : (source : SourceAt) (a b : SinkAt) (end : CommonEnd) → WritesLines a b (stop_line usage_status ∷ []) (Err end)
    → UsageMeets (outside source a) (outside source b) (common_status end)
by_end source a b (ReadFault taken) w = absurd w
by_end source a b TooLong w = absurd w
by_end source a b WriteFault w = record { unread = refl; prints = Cut refl w.prints w.last }
by_end source a b Memory w = record { unread = refl; prints = Unwritten refl w }

pub usage_stopped : (source : SourceAt) (a b : SinkAt) (line : OutLine) (end : CommonEnd) (status : Status) → line ≡ stop_line usage_status
    → WritesLines a b (line ∷ []) (Err end)
    → status ≡ common_status end → UsageMeets (outside source a) (outside source b) status
usage_stopped source a b line end status e w same =
    subst (λ (s : Status). UsageMeets (outside source a) (outside source b) s) (sym same) (by_end source a b end (subst (λ (l : OutLine). WritesLines a b (l ∷ []) (Err end)) e w))

usage_writes : (a b : SinkAt) (status : Status) → UsagePrints a b status → WritesTo a b status.code
usage_writes a b status (Written same all none) =
    AllWritten none (λ (e : status.code ≡ 7). (let clash : 2 ≡ 7 = sym (ap (λ (s : Status). s.code) same) ∙ e in omega arith))
usage_writes a b status (Cut same part last) = WriteStopped last (ap (λ (s : Status). s.code) same)
usage_writes a b status (Unwritten same kept) =
    AllWritten (subst (λ (s : SinkAt). NoWriteFailed a s) (sym kept) (none_failed a)) (λ (e : status.code ≡ 7). (let clash : 9 ≡ 7 = sym (ap (λ (s : Status). s.code) same) ∙ e in omega arith))

usage_code : (a b : SinkAt) (status : Status) → UsagePrints a b status → (status.code ≡ 2) ⊎ ((status.code ≡ 7) ⊎ (status.code ≡ 9))
usage_code a b status (Written same all none) = inl (ap (λ (s : Status). s.code) same)
usage_code a b status (Cut same part last) = inr (inl (ap (λ (s : Status). s.code) same))
usage_code a b status (Unwritten same kept) = inr (inr (ap (λ (s : Status). s.code) same))

other_code : (code n : ℕ) → (code ≡ 2) ⊎ ((code ≡ 7) ⊎ (code ≡ 9)) → (n ≡ 4) ⊎ (n ≡ 6) → code ≡ n → ⊥
other_code code n (inl e) (inl f) g = omega arith
other_code code n (inl e) (inr f) g = omega arith
other_code code n (inr (inl e)) (inl f) g = omega arith
other_code code n (inr (inl e)) (inr f) g = omega arith
other_code code n (inr (inr e)) (inl f) g = omega arith
other_code code n (inr (inr e)) (inr f) g = omega arith

usage_calls : (before after : OutsideAt) (status : Status) → UsageMeets before after status → CallsTo before after status.code
usage_calls before after status u = record {
  reads = subst (λ (s : SourceAt). ReadsTo before.source s status.code) (sym u.unread)
      (AllRead (no_read_failed before.source) (other_code status.code 6 (usage_code _ _ status u.prints) (inr refl)));
  writes = usage_writes _ _ status u.prints;
}

-- ---- all that is promised

-- of values of a type
pub record ValuesHold (job : Job) (before after : OutsideAt) (status : Status) : Type 0 where
  pub meets : ConvertsValues job before after status
  pub near : StopsAtValue before.source after.source status
  pub wholly : AnswersWholly job before after status

pub record Holds (setting : Setting) (form : Form) (before after : OutsideAt) (status : Status) : Type 0 where
  pub headline : FormMeets setting form before after status
  pub read : status.code ≡ 6 → Rose before.source.faults after.source.faults
  pub write : status.code ≡ 7 → Rose before.sink.faults after.sink.faults
  pub calls : CallsTo before after status.code
  pub near : StopsAtLine before.source after.source status
  pub complete : form ≡ Run → RunsWholly setting before after status
  pub near_step : form ≡ Run → StopsAtStep before.source after.source status
  pub generates : (packets : ℕ) → form ≡ Generate packets → GeneratesWholly (run_of setting (script packets)) packets before after status
  pub bearer : (config : UmConfig) → form ≡ Um config → RunsUm config before after status
  pub near_event : (config : UmConfig) → form ≡ Um config → StopsAtEvent before.source after.source status
  pub legs : (config : DupConfig) → form ≡ Dup config → RunsDup config before after status
  pub near_leg_event : (config : DupConfig) → form ≡ Dup config → StopsAtEvent before.source after.source status
  pub checks : form ≡ Check → ChecksWholly before after status
  pub verifies : form ≡ Verify → VerifiesWholly octets_of_message before after status
  pub near_verdict : form ≡ Verify → StopsAtVerdict before.source after.source status
  pub writes : WritesProfile form before after status

read_rose : {before after : SourceAt} {code : ℕ} → ReadsTo before after code → code ≡ 6 → Rose before.faults after.faults
read_rose (AllRead h other) e = absurd (other e)
read_rose (ReadStopped h is) e = h.faults

write_rose : {before after : SinkAt} {code : ℕ} → WritesTo before after code → code ≡ 7 → Rose before.faults after.faults
write_rose (AllWritten h other) e = absurd (other e)
write_rose (WriteStopped h is) e = h.faults

run_holds : (setting : Setting) (before after : OutsideAt) (status : Status) → RunsOver setting before after status
    → Holds setting Run before after status
run_holds setting before after status o =
    let calls : CallsTo before after status.code =
    subst (λ (s : Status). CallsTo before after s.code) (sym o.script.status_is) o.script.meets.calls in
    record {
      headline = o.script;
      read = read_rose calls.reads;
      write = write_rose calls.writes;
      calls = calls;
      near = λ bytes known (stop : status.code ≡ 4). o.near bytes known (inl stop);
      complete = λ (e : Run ≡ Run). o.wholly;
      near_step = λ (e : Run ≡ Run). o.near;
      generates = λ packets (e : Run ≡ Generate packets). absurd (cc);
      bearer = λ config (e : Run ≡ Um config). absurd (cc);
      near_event = λ config (e : Run ≡ Um config). absurd (cc);
      legs = λ config (e : Run ≡ Dup config). absurd (cc);
      near_leg_event = λ config (e : Run ≡ Dup config). absurd (cc);
      checks = λ (e : Run ≡ Check). absurd (cc);
      verifies = λ (e : Run ≡ Verify). absurd (cc);
      near_verdict = λ (e : Run ≡ Verify). absurd (cc);
      writes = tt;
    }

-- a script that was run, or out of memory before that
pub ran : (setting : Setting) (before after : OutsideAt) (end : RunEnd) (status : Status) → status ≡ run_status end
    → RunMeets setting before after end → StopsAtStep before.source after.source (run_status end)
    → RunsWholly setting before after (run_status end) → RunsOver setting before after status
ran setting before after end status same meets near_it wholly =
    subst (λ (s : Status). RunsOver setting before after s) (sym same)
    (record { script = record { end = end; status_is = refl; meets = meets }; near = near_it; wholly = wholly })

pub not_run : (setting : Setting) (source : SourceAt) (sink : SinkAt) (status : Status) → status ≡ common_status Memory
    → RunsOver setting (outside source sink) (outside source sink) status
not_run setting source sink status same =
    let meets = out_of_memory setting source sink in
    ran setting (outside source sink) (outside source sink) (Common Memory) status same meets
    (near setting (outside source sink) (outside source sink) (Common Memory) meets)
    (complete setting (outside source sink) (outside source sink) (Common Memory) meets)

check_holds : (setting : Setting) (before after : OutsideAt) (end : CheckEnd) → CheckMeets before after end
    → StopsAtLine before.source after.source (check_status end) → ChecksWholly before after (check_status end)
    → Holds setting Check before after (check_status end)
check_holds setting before after end meets near complete = record {
  headline = record { end = end; status_is = refl; meets = meets };
  read = read_rose meets.calls.reads;
  write = write_rose meets.calls.writes;
  calls = meets.calls;
  near = near;
  complete = λ (e : Check ≡ Run). absurd (cc);
  near_step = λ (e : Check ≡ Run). absurd (cc);
  generates = λ packets (e : Check ≡ Generate packets). absurd (cc);
  bearer = λ config (e : Check ≡ Um config). absurd (cc);
  near_event = λ config (e : Check ≡ Um config). absurd (cc);
  legs = λ config (e : Check ≡ Dup config). absurd (cc);
  near_leg_event = λ config (e : Check ≡ Dup config). absurd (cc);
  checks = λ (e : Check ≡ Check). complete;
  verifies = λ (e : Check ≡ Verify). absurd (cc);
  near_verdict = λ (e : Check ≡ Verify). absurd (cc);
  writes = tt;
}

usage_holds : (setting : Setting) (before after : OutsideAt) (status : Status) → UsageMeets before after status → Holds setting Other before after status
usage_holds setting before after status u =
    let calls = usage_calls before after status u in
    record {
      headline = u;
      read = read_rose calls.reads;
      write = write_rose calls.writes;
      calls = calls;
      near = λ bytes known stop. absurd (other_code status.code 4 (usage_code _ _ status u.prints) (inl refl) stop);
      complete = λ (e : Other ≡ Run). absurd (cc);
      near_step = λ (e : Other ≡ Run). absurd (cc);
      generates = λ packets (e : Other ≡ Generate packets). absurd (cc);
      bearer = λ config (e : Other ≡ Um config). absurd (cc);
      near_event = λ config (e : Other ≡ Um config). absurd (cc);
      legs = λ config (e : Other ≡ Dup config). absurd (cc);
      near_leg_event = λ config (e : Other ≡ Dup config). absurd (cc);
      checks = λ (e : Other ≡ Check). absurd (cc);
      verifies = λ (e : Other ≡ Verify). absurd (cc);
      near_verdict = λ (e : Other ≡ Verify). absurd (cc);
      writes = tt;
    }

-- ---- with the word `profile`

code_of : {status is : Status} → status ≡ is → status.code ≡ is.code
code_of e = ap (λ (s : Status). s.code) e

profile_writes : (a b : SinkAt) (version : Version) (status : Status) → PrintsProfile a b version status → WritesTo a b status.code
profile_writes a b version status (written.Written same all none) = AllWritten none (λ (e : status.code ≡ 7). (let clash : 0 ≡ 7 = sym (code_of same) ∙ e in omega arith))
profile_writes a b version status (written.Cut same part last) = WriteStopped last (code_of same)

profile_code : (a b : SinkAt) (version : Version) (status : Status) → PrintsProfile a b version status → (status.code ≡ 0) ⊎ (status.code ≡ 7)
profile_code a b version status (written.Written same all none) = inl (code_of same)
profile_code a b version status (written.Cut same part last) = inr (code_of same)

no_code : (code n : ℕ) → (code ≡ 0) ⊎ (code ≡ 7) → (n ≡ 4) ⊎ (n ≡ 6) → code ≡ n → ⊥
no_code code n (inl e) (inl f) g = omega arith
no_code code n (inl e) (inr f) g = omega arith
no_code code n (inr e) (inl f) g = omega arith
no_code code n (inr e) (inr f) g = omega arith

profile_holds : (setting : Setting) (version : Version) (before after : OutsideAt) (status : Status) → ProfileMeets version before after status
    → WritesWholly version before after status
    → Holds setting (Profile version) before after status
profile_holds setting version before after status p complete =
    let other = profile_code _ _ version status p.prints in
    let calls : CallsTo before after status.code = record {
      reads = subst (λ (s : SourceAt). ReadsTo before.source s status.code) (sym p.unread)
          (AllRead (no_read_failed before.source) (no_code status.code 6 other (inr refl)));
      writes = profile_writes _ _ version status p.prints;
    } in
    record {
      headline = p;
      read = read_rose calls.reads;
      write = write_rose calls.writes;
      calls = calls;
      near = λ bytes known stop. absurd (no_code status.code 4 other (inl refl) stop);
      complete = λ (e : Profile version ≡ Run). absurd (cc);
      near_step = λ (e : Profile version ≡ Run). absurd (cc);
      generates = λ packets (e : Profile version ≡ Generate packets). absurd (cc);
      bearer = λ config (e : Profile version ≡ Um config). absurd (cc);
      near_event = λ config (e : Profile version ≡ Um config). absurd (cc);
      legs = λ config (e : Profile version ≡ Dup config). absurd (cc);
      near_leg_event = λ config (e : Profile version ≡ Dup config). absurd (cc);
      checks = λ (e : Profile version ≡ Check). absurd (cc);
      verifies = λ (e : Profile version ≡ Verify). absurd (cc);
      near_verdict = λ (e : Profile version ≡ Verify). absurd (cc);
      writes = complete;
    }

-- ---- with the word `generate`

same_code : (status is : Status) (n : ℕ) → status ≡ is → status.code ≡ n → is.code ≡ n
same_code status is n same e = sym (code_of {status = status} {is = is} same) ∙ e

not_seven : (end : GenerateEnd) → (generate_status end).code ≡ 7 → ⊥
not_seven (ends.Done count) e = omega arith
not_seven (ends.Outstanding place o) e = omega arith
not_seven (ends.Spent place counter) e = omega arith

status_writes : (run : Transcript (List ℕ)) (packets : ℕ) (a b : SinkAt) (status : Status) → PrintsEnd run packets a b status
    → WritesTo a b status.code
status_writes run packets a b status (generated.Written end m same all none) =
    AllWritten none (λ (e : status.code ≡ 7). not_seven end (same_code status (generate_status end) 7 same e))
status_writes run packets a b status (generated.Cut end m same part last) = WriteStopped last (code_of same)
status_writes run packets a b status (generated.Unwritten same kept) =
    AllWritten (subst (λ (s : SinkAt). NoWriteFailed a s) (sym kept) (none_failed a))
    (λ (e : status.code ≡ 7). (let clash : 9 ≡ 7 = same_code status (common_status Memory) 7 same e in omega arith))

-- it isn't that of a line, or of a read
not_code : (n : ℕ) → (n ≡ 4) ⊎ (n ≡ 6) → (end : GenerateEnd) → (generate_status end).code ≡ n → ⊥
not_code n (inl f) (ends.Done count) e = omega arith
not_code n (inr f) (ends.Done count) e = omega arith
not_code n (inl f) (ends.Outstanding place o) e = omega arith
not_code n (inr f) (ends.Outstanding place o) e = omega arith
not_code n (inl f) (ends.Spent place counter) e = omega arith
not_code n (inr f) (ends.Spent place counter) e = omega arith

generate_code : (run : Transcript (List ℕ)) (packets : ℕ) (a b : SinkAt) (status : Status) (n : ℕ) → PrintsEnd run packets a b status
    → (n ≡ 4) ⊎ (n ≡ 6) → status.code ≡ n → ⊥
generate_code run packets a b status n (generated.Written end m same all none) f e = not_code n f end (same_code status (generate_status end) n same e)
generate_code run packets a b status n (generated.Cut end m same part last) (inl f) e =
    let clash : 7 ≡ n = same_code status (common_status WriteFault) n same e in omega arith
generate_code run packets a b status n (generated.Cut end m same part last) (inr f) e =
    let clash : 7 ≡ n = same_code status (common_status WriteFault) n same e in omega arith
generate_code run packets a b status n (generated.Unwritten same kept) (inl f) e =
    let clash : 9 ≡ n = same_code status (common_status Memory) n same e in omega arith
generate_code run packets a b status n (generated.Unwritten same kept) (inr f) e =
    let clash : 9 ≡ n = same_code status (common_status Memory) n same e in omega arith

same_packets : {packets other : ℕ} → Generate packets ≡ Generate other → packets ≡ other
same_packets e = cc

generate_holds : (setting : Setting) (packets : ℕ) (before after : OutsideAt) (status : Status)
    → GenerateMeets (run_of setting (script packets)) packets before after status
    → GeneratesWholly (run_of setting (script packets)) packets before after status
    → Holds setting (Generate packets) before after status
generate_holds setting packets before after status m wholly =
    let run = run_of setting (script packets) in
    let calls : CallsTo before after status.code = record {
      reads = subst (λ (s : SourceAt). ReadsTo before.source s status.code) (sym m.unread)
          (AllRead (no_read_failed before.source) (generate_code run packets before.sink after.sink status 6 m.prints (inr refl)));
      writes = status_writes run packets before.sink after.sink status m.prints;
    } in
    record {
      headline = m;
      read = read_rose calls.reads;
      write = write_rose calls.writes;
      calls = calls;
      near = λ bytes known stop. absurd (generate_code run packets before.sink after.sink status 4 m.prints (inl refl) stop);
      complete = λ (e : Generate packets ≡ Run). absurd (cc);
      near_step = λ (e : Generate packets ≡ Run). absurd (cc);
      generates = λ other (e : Generate packets ≡ Generate other).
          subst (λ (n : ℕ). GeneratesWholly (run_of setting (script n)) n before after status) (same_packets e) wholly;
      bearer = λ config (e : Generate packets ≡ Um config). absurd (cc);
      near_event = λ config (e : Generate packets ≡ Um config). absurd (cc);
      legs = λ config (e : Generate packets ≡ Dup config). absurd (cc);
      near_leg_event = λ config (e : Generate packets ≡ Dup config). absurd (cc);
      checks = λ (e : Generate packets ≡ Check). absurd (cc);
      verifies = λ (e : Generate packets ≡ Verify). absurd (cc);
      near_verdict = λ (e : Generate packets ≡ Verify). absurd (cc);
      writes = tt;
    }

-- ---- with the word `um`

same_config : {config other : UmConfig} → Um config ≡ Um other → config ≡ other
same_config e = cc

um_holds : (setting : Setting) (config : UmConfig) (before after : OutsideAt) (end : ScriptEnd) → UmMeets config before after end
    → StopsAtEvent before.source after.source (script_status end) → RunsUm config before after (script_status end)
    → Holds setting (Um config) before after (script_status end)
um_holds setting config before after end meets near complete = record {
  headline = record { end = end; status_is = refl; meets = meets };
  read = read_rose meets.calls.reads;
  write = write_rose meets.calls.writes;
  calls = meets.calls;
  near = λ bytes known (stop : (script_status end).code ≡ 4). near bytes known (inl stop);
  complete = λ (e : Um config ≡ Run). absurd (cc);
  near_step = λ (e : Um config ≡ Run). absurd (cc);
  generates = λ packets (e : Um config ≡ Generate packets). absurd (cc);
  bearer = λ other (e : Um config ≡ Um other). subst (λ (c : UmConfig). RunsUm c before after (script_status end)) (same_config e) complete;
  near_event = λ other (e : Um config ≡ Um other). near;
  legs = λ other (e : Um config ≡ Dup other). absurd (cc);
  near_leg_event = λ other (e : Um config ≡ Dup other). absurd (cc);
  checks = λ (e : Um config ≡ Check). absurd (cc);
  verifies = λ (e : Um config ≡ Verify). absurd (cc);
  near_verdict = λ (e : Um config ≡ Verify). absurd (cc);
  writes = tt;
}

-- ---- with the word `duplicate`

same_legs : {config other : DupConfig} → Dup config ≡ Dup other → config ≡ other
same_legs e = cc

dup_holds : (setting : Setting) (config : DupConfig) (before after : OutsideAt) (end : ScriptEnd) → DupMeets config before after end
    → StopsAtEvent before.source after.source (script_status end) → RunsDup config before after (script_status end)
    → Holds setting (Dup config) before after (script_status end)
dup_holds setting config before after end meets near complete = record {
  headline = record { end = end; status_is = refl; meets = meets };
  read = read_rose meets.calls.reads;
  write = write_rose meets.calls.writes;
  calls = meets.calls;
  near = λ bytes known (stop : (script_status end).code ≡ 4). near bytes known (inl stop);
  complete = λ (e : Dup config ≡ Run). absurd (cc);
  near_step = λ (e : Dup config ≡ Run). absurd (cc);
  generates = λ packets (e : Dup config ≡ Generate packets). absurd (cc);
  bearer = λ other (e : Dup config ≡ Um other). absurd (cc);
  near_event = λ other (e : Dup config ≡ Um other). absurd (cc);
  legs = λ other (e : Dup config ≡ Dup other). subst (λ (c : DupConfig). RunsDup c before after (script_status end)) (same_legs e) complete;
  near_leg_event = λ other (e : Dup config ≡ Dup other). near;
  checks = λ (e : Dup config ≡ Check). absurd (cc);
  verifies = λ (e : Dup config ≡ Verify). absurd (cc);
  near_verdict = λ (e : Dup config ≡ Verify). absurd (cc);
  writes = tt;
}

-- ---- with the word `verify`

-- no verdict is a wrong line
not_four : (end : VerifyEnd) → (verify_status end).code ≡ 4 → ⊥
not_four (verdicts.Sound lines) e = omega arith
not_four (verdicts.Unsound place rule) e = omega arith
not_four (verdicts.Common (ReadFault taken)) e = omega arith
not_four (verdicts.Common TooLong) e = omega arith
not_four (verdicts.Common WriteFault) e = omega arith
not_four (verdicts.Common Memory) e = omega arith

-- a text that was judged, or out of memory before that
judged : (before after : OutsideAt) (end : VerifyEnd) (status : Status) → status ≡ verify_status end
    → VerifyMeets octets_of_message before after end → StopsAtVerdict before.source after.source (verify_status end)
    → VerifiesWholly octets_of_message before after (verify_status end) → VerifiesAll before after status
judged before after end status same meets near_it wholly =
    subst (λ (s : Status). VerifiesAll before after s) (sym same)
    (record { text = record { end = end; status_is = refl; meets = meets }; near = near_it; wholly = wholly })

pub not_judged : (source : SourceAt) (sink : SinkAt) (status : Status) → status ≡ common_status Memory
    → VerifiesAll (outside source sink) (outside source sink) status
not_judged source sink status same =
    let end : VerifyEnd = verdicts.Common Memory in
    let meets = verified.unwritten octets_of_message end (no_room octets_of_message source) sink in
    judged (outside source sink) (outside source sink) end status same meets
    (verified.near octets_of_message (outside source sink) (outside source sink) end meets)
    (verified.complete octets_of_message (outside source sink) (outside source sink) end meets)

verify_holds : (setting : Setting) (before after : OutsideAt) (status : Status) → VerifiesAll before after status
    → Holds setting Verify before after status
verify_holds setting before after status v =
    let calls : CallsTo before after status.code =
    subst (λ (s : Status). CallsTo before after s.code) (sym v.text.status_is) v.text.meets.calls in
    record {
      headline = v.text;
      read = read_rose calls.reads;
      write = write_rose calls.writes;
      calls = calls;
      near = λ bytes known (stop : status.code ≡ 4). absurd (not_four v.text.end (sym (code_of v.text.status_is) ∙ stop));
      complete = λ (e : Verify ≡ Run). absurd (cc);
      near_step = λ (e : Verify ≡ Run). absurd (cc);
      generates = λ packets (e : Verify ≡ Generate packets). absurd (cc);
      bearer = λ config (e : Verify ≡ Um config). absurd (cc);
      near_event = λ config (e : Verify ≡ Um config). absurd (cc);
      legs = λ config (e : Verify ≡ Dup config). absurd (cc);
      near_leg_event = λ config (e : Verify ≡ Dup config). absurd (cc);
      checks = λ (e : Verify ≡ Check). absurd (cc);
      verifies = λ (e : Verify ≡ Verify). v.wholly;
      near_verdict = λ (e : Verify ≡ Verify). v.near;
      writes = tt;
    }

-- ---- by the form of the words

holds_at : {before after : OutsideAt} (setting : Setting) (form found kind : Form) (status is : Status) → found ≡ form → found ≡ kind → status ≡ is
    → Holds setting kind before after is → Holds setting form before after status
holds_at {before = before} {after = after} setting form found kind status is e f same h =
    subst (λ (s : Status). Holds setting form before after s) (sym same) (subst (λ (x : Form). Holds setting x before after is) (sym f ∙ e) h)

pub runs : {before after : OutsideAt} (setting : Setting) (form found : Form) (status : Status) → found ≡ form → found ≡ Run
    → RunsOver setting before after status → Holds setting form before after status
runs {before = before} {after = after} setting form found status e f o =
    holds_at setting form found Run status status e f refl (run_holds setting before after status o)

pub generates_at : {before after : OutsideAt} (setting : Setting) (form found : Form) (packets : ℕ) (status : Status) → found ≡ form
    → found ≡ Generate packets → GenerateMeets (run_of setting (script packets)) packets before after status
    → GeneratesWholly (run_of setting (script packets)) packets before after status → Holds setting form before after status
generates_at {before = before} {after = after} setting form found packets status e f m wholly =
    holds_at setting form found (Generate packets) status status e f refl (generate_holds setting packets before after status m wholly)

pub checks_at : {before after : OutsideAt} (setting : Setting) (form found : Form) (end : CheckEnd) (status : Status) → found ≡ form → found ≡ Check
    → status ≡ check_status end → CheckMeets before after end
    → StopsAtLine before.source after.source (check_status end) → ChecksWholly before after (check_status end)
    → Holds setting form before after status
checks_at {before = before} {after = after} setting form found end status e f same meets near complete =
    holds_at setting form found Check status (check_status end) e f same (check_holds setting before after end meets near complete)

pub verifies_at : {before after : OutsideAt} (setting : Setting) (form found : Form) (status : Status) → found ≡ form → found ≡ Verify
    → VerifiesAll before after status → Holds setting form before after status
verifies_at {before = before} {after = after} setting form found status e f v =
    holds_at setting form found Verify status status e f refl (verify_holds setting before after status v)

pub reports : {before after : OutsideAt} (setting : Setting) (form found : Form) (status : Status) → found ≡ form → found ≡ Other
    → UsageMeets before after status → Holds setting form before after status
reports {before = before} {after = after} setting form found status e f u =
    holds_at setting form found Other status status e f refl (usage_holds setting before after status u)

pub prints_at : {before after : OutsideAt} (setting : Setting) (form found : Form) (version : Version) (status : Status) → found ≡ form → found ≡ Profile version
    → ProfileMeets version before after status → WritesWholly version before after status → Holds setting form before after status
prints_at {before = before} {after = after} setting form found version status e f p complete =
    holds_at setting form found (Profile version) status status e f refl (profile_holds setting version before after status p complete)

pub runs_bearer : {before after : OutsideAt} (setting : Setting) (form found : Form) (config : UmConfig) (end : ScriptEnd) (status : Status) → found ≡ form
    → found ≡ Um config → status ≡ script_status end → UmMeets config before after end
    → StopsAtEvent before.source after.source (script_status end) → RunsUm config before after (script_status end)
    → Holds setting form before after status
runs_bearer {before = before} {after = after} setting form found config end status e f same meets near complete =
    holds_at setting form found (Um config) status (script_status end) e f same (um_holds setting config before after end meets near complete)

pub runs_legs : {before after : OutsideAt} (setting : Setting) (form found : Form) (config : DupConfig) (end : ScriptEnd) (status : Status) → found ≡ form
    → found ≡ Dup config → status ≡ script_status end → DupMeets config before after end
    → StopsAtEvent before.source after.source (script_status end) → RunsDup config before after (script_status end)
    → Holds setting form before after status
runs_legs {before = before} {after = after} setting form found config end status e f same meets near complete =
    holds_at setting form found (Dup config) status (script_status end) e f same (dup_holds setting config before after end meets near complete)

-- ---- with the words `encode` and `decode`

values_hold : (job : Job) (before after : OutsideAt) (end : ValuesEnd) → ValuesMeet job before after end
    → StopsAtValue before.source after.source (values_status end) → AnswersWholly job before after (values_status end)
    → ValuesHold job before after (values_status end)
values_hold job before after end meets near wholly =
    record { meets = record { end = end; status_is = refl; meets = meets }; near = near; wholly = wholly }

values_holds : (setting : Setting) (way : Way) (name : List ℕ) (before after : OutsideAt) (end : ValuesEnd) → ValuesMeet (job_of way name) before after end
    → StopsAtValue before.source after.source (values_status end)
    → Holds setting (Values way) before after (values_status end)
values_holds setting way name before after end meets near = record {
  headline = (name, record { end = end; status_is = refl; meets = meets });
  read = read_rose meets.calls.reads;
  write = write_rose meets.calls.writes;
  calls = meets.calls;
  near = λ bytes known (stop : (values_status end).code ≡ 4). near bytes known (inl stop);
  complete = λ (e : Values way ≡ Run). absurd (cc);
  near_step = λ (e : Values way ≡ Run). absurd (cc);
  generates = λ packets (e : Values way ≡ Generate packets). absurd (cc);
  bearer = λ config (e : Values way ≡ Um config). absurd (cc);
  near_event = λ config (e : Values way ≡ Um config). absurd (cc);
  legs = λ config (e : Values way ≡ Dup config). absurd (cc);
  near_leg_event = λ config (e : Values way ≡ Dup config). absurd (cc);
  checks = λ (e : Values way ≡ Check). absurd (cc);
  verifies = λ (e : Values way ≡ Verify). absurd (cc);
  near_verdict = λ (e : Values way ≡ Verify). absurd (cc);
  writes = tt;
}

same_way : {way other : Way} → Values way ≡ Values other → way ≡ other
same_way e = cc

pub converts : {before after : OutsideAt} (setting : Setting) (form found : Form) (way : Way) (name : List ℕ) (end : ValuesEnd) (status : Status) → found ≡ form
    → found ≡ Values way → status ≡ values_status end → ValuesMeet (job_of way name) before after end
    → StopsAtValue before.source after.source (values_status end) → AnswersWholly (job_of way name) before after (values_status end)
    → Holds setting form before after status
converts {before = before} {after = after} setting form found way name end status e f same meets near wholly =
    holds_at setting form found (Values way) status (values_status end) e f same (values_holds setting way name before after end meets near)

-- what is promised of the type that was named, by the name that the code took
pub named : {before after : OutsideAt} (form found : Form) (way : Way) (name taken : List ℕ) (end : ValuesEnd) (status : Status)
    → taken ≡ name → found ≡ form
    → found ≡ Values way → status ≡ values_status end → ValuesMeet (job_of way taken) before after end
    → StopsAtValue before.source after.source (values_status end) → AnswersWholly (job_of way taken) before after (values_status end)
    → (other : Way) → form ≡ Values other → ValuesHold (job_of other name) before after status
named {before = before} {after = after} form found way name taken end status is e f same meets near wholly other g =
    let ways : way ≡ other = same_way (sym f ∙ e ∙ g) in
    subst (λ (w : Way). ValuesHold (job_of w name) before after status) ways
    (subst (λ (n : List ℕ). ValuesHold (job_of way n) before after status) is
    (subst (λ (s : Status). ValuesHold (job_of way taken) before after s) (sym same)
    (values_hold (job_of way taken) before after end meets near wholly)))

-- another form is none of these words
abbrev pub IsNone : Form → Type 0
IsNone form = (way : Way) → form ≡ Values way → ⊥

pub not_values : (form found kind : Form) → found ≡ form → found ≡ kind → IsNone kind → IsNone form
not_values form found kind e f other way g = other way (sym f ∙ e ∙ g)

pub run_is_none : IsNone Run
run_is_none way e = cc

pub check_is_none : IsNone Check
check_is_none way e = cc

pub profile_is_none : (version : Version) → IsNone (Profile version)
profile_is_none version way e = cc

pub um_is_none : (config : UmConfig) → IsNone (Um config)
um_is_none config way e = cc

pub dup_is_none : (config : DupConfig) → IsNone (Dup config)
dup_is_none config way e = cc

pub generate_is_none : (packets : ℕ) → IsNone (Generate packets)
generate_is_none packets way e = cc

pub verify_is_none : IsNone Verify
verify_is_none way e = cc

pub other_is_none : IsNone Other
other_is_none way e = cc

-- the timer of the form that was found has ticks
pub timed : (found : Form) (config : UmConfig) → found ≡ Um config → IsTimed found → IsTimed (Um config)
timed found config e h = subst (λ (f : Form). IsTimed f) e h

-- and its quota is one that an entity takes
pub fitting : (found : Form) (config : DupConfig) → found ≡ Dup config → IsTimed found → IsTimed (Dup config)
fitting found config e h = subst (λ (f : Form). IsTimed f) e h

-- and its script isn't too long
pub few : (found : Form) (packets : ℕ) → found ≡ Generate packets → IsTimed found → packets ≤ 100000
few found packets e h = subst (λ (f : Form). IsTimed f) e h

-- A whole script runs to its end, unless memory runs out; and a stop at a line is near it.
use Rattle.std.proofs.Common.{◌≡◌, ◌⊎◌, ◌+◌, ℕ, List, [], ◌∷◌, ◌++◌, length, Option, Some, None, Result, refl, sym, ap, ◌∙◌, subst, inl, inr, append-nil, length-append, arith}
use Rattle.std.proofs.lemmas.Grind.{flat_map-append}
use Rattle.std.specs.List.{flat_map}
use Rattle.std.specs.Io.KnownBytes.{Consumes}
use Rattle.commands.proofs.command_output.Faults.{no_read_fault, no_write_fault}
use Rattle.gnb_base.specs.Lines.{lines_of}
use Rattle.gnb_base.specs.Outside.{SourceAt}
use Rattle.command_defs.specs.input_defs.Split.{InputSplit, rest_of, TakesInput}
use Rattle.command_defs.specs.input_defs.Ends.{IsTooLong}
use Rattle.command_defs.specs.input_defs.Near.{StopsNear}
use Rattle.commands.proofs.input_lines.Near.{near_handed, near_empty, near_next}
use Rattle.commands.proofs.input_lines.Sources.{rest_known}
use Rattle.commands.proofs.input_lines.Wholes.{TakesOf, takes_known, all_lines, next_of}
use Rattle.asn1_syntax.specs.declared.types.fault.ModuleReason.{ModuleReason}
use Rattle.asn1_defs.specs.Readings.{Reads}
use Rattle.proof_asn1_modules.proofs.asn1_proof_module.Faults.{never_both}
use Rattle.profile.specs.declared.version.Version.TheVariants.{One}
use Rattle.commands.specs.input_module.Module.{IsNoModule, IsWrongModule, Empty, NoHeader, Unended}
use Rattle.scenario_text.specs.declared.event.Event.{Event}
use Rattle.scenario_text.specs.declared.script_words.reason.TextReason.{TextReason}
use Rattle.run_defs.specs.States.{Stop, outstanding, spent_counter}
use Rattle.command_defs.specs.declared.CommonEnd.TheVariants.{ReadFault, TooLong, WriteFault, Memory}
use Rattle.command_defs.specs.Outside.{OutsideAt, NoneFailed}
use Rattle.command_defs.specs.Output.{Prints}
use Rattle.command_run.specs.declared.end.RunEnd.{RunEnd}
use Rattle.command_run.specs.declared.end.RunEnd.TheVariants.{Done, NoModule, Differs, Script, Outstanding, Spent, Common}
use Rattle.command_run.specs.Ends.{run_status, StopsAtEvent}
use Rattle.command_run.specs.Run.{Setting, AreEvents, meanings, IsScript, IsOther, IsWrongLine, IsDone, GoesOn, StopsInLast, RunEndMeets, run_of, run_text, text_to, RunMeets}
use Rattle.command_run.specs.Whole.{NamesScript, TextScript, IsWhole, RunsAll, RunsWholly}
use Rattle.command_run.proofs.Runs.{stopped_on}
use Rattle.command_run.proofs.Scripts.{wrong_line, same_events, front_of, lines_after, whole_text, text_rest, text_wrong, text_alike, no_text_here, names_rest, names_wrong}

module _ {setting : Setting} {input : List ℕ} {events : List Event} {left : Option (List ℕ)} {split : InputSplit} (w : IsWhole setting input events) (t : TakesOf input left split) where
  -- the lines after the module, with those that were not handed out, are the events
  rest_events : (others : List Event) (e : IsScript left split others) (more : List (List ℕ)) → lines_of input ≡ split.lines ++ more
      → AreEvents (e.lines ++ more) events
  rest_events others e more all = by w.script
    where
      by : NamesScript input events ⊎ TextScript input events → AreEvents (e.lines ++ more) events
      by (inl n) = subst (λ (ls : List (List ℕ)). AreEvents ls events) (sym (names_rest n t e.front e.lines more e.found e.gives e.parts all)) n.are
      by (inr x) = subst (λ (ls : List (List ℕ)). AreEvents ls events) (sym (text_rest x t e.front e.lines more e.found e.gives e.parts all)) x.are

  of_module : (place : ℕ) (reason : TextReason) → IsWrongModule One left split place reason → ⊥
  of_module place reason e = by w.script
    where
      by : NamesScript input events ⊎ TextScript input events → ⊥
      by (inl n) = names_wrong n t place reason e
      by (inr x) = text_wrong x t place reason e

  of_wrong : (others : List Event) (place : ℕ) (reason : TextReason) → IsWrongLine left split others place reason → ⊥
  of_wrong others place reason e =
      let next = next_of t e.next in
      wrong_line e.before.lines e.line next.more reason events e.skip e.wrong (rest_events others e.before (e.line ∷ next.more) next.split)

  of_no_module : (line column : ℕ) (reason : ModuleReason) → IsNoModule One left split line column reason → ⊥
  of_no_module line column reason e = by w.script
    where
      by : NamesScript input events ⊎ TextScript input events → ⊥
      by (inl n) = no_text_here n t e.text e.has
      by (inr x) =
          never_both e.text x.is.octets e.line_of_text column x.m reason
          (subst (λ (bytes : List ℕ). Reads bytes x.is.octets x.m) (sym (whole_text x t e.text e.has)) x.is.reads) e.wrong

  of_other : (name : List ℕ) → IsOther left split name → ⊥
  of_other name e = by w.script
    where
      by : NamesScript input events ⊎ TextScript input events → ⊥
      by (inl n) = no_text_here n t e.gives.text e.gives.has
      by (inr x) = text_alike x t name e

  of_done : (others : List Event) (count : ℕ) → IsDone left split others count → (others ≡ events) × (count ≡ length events)
  of_done others count e =
      let all : lines_of input ≡ split.lines ++ [] = all_lines t e.all.nothing e.all.at_end ∙ sym (append-nil split.lines) in
      let are = subst (λ (ls : List (List ℕ)). AreEvents ls events) (append-nil e.script.lines) (rest_events others e.script [] all) in
      let one = same_events others events (sym e.script.are ∙ are) in
      (one, e.counted ∙ ap length one)

  -- the run stops in none of the events
  of_stopped : (others : List Event) (place : ℕ) (why : Stop) → StopsInLast setting left split others place why → ⊥
  of_stopped others place why e =
      let more = lines_after input left split t t.divides in
      let front = front_of others events (flat_map meanings more.0)
      (ap (λ (ms : List (Result Event TextReason)). ms ++ flat_map meanings more.0) (sym e.script.are) ∙ sym (flat_map-append meanings e.script.lines more.0)
      ∙ rest_events others e.script more.0 more.1) in
      let clash : None ≡ Some why = sym w.goes ∙ ap (λ (es : List Event). (run_of setting es).stop) front.parts ∙ stopped_on setting others front.rest why e.stops in
      cc

long_by : (setting : Setting) (input : List ℕ) (left : Option (List ℕ)) (events : List Event) (split : InputSplit) → IsWhole setting input events
    → Consumes (Some input) left split.taken → IsTooLong split → ⊥
long_by setting input None events split w h e = h
long_by setting input (Some ys) events split w h e = omega (arith, w.within, ap length h, length-append split.taken ys, e.at)

-- what the end means, of an input whose bytes were reported
meets_known : (setting : Setting) (before after : OutsideAt) (end : RunEnd) (r : RunMeets setting before after end) (input : List ℕ)
    → before.source.left ≡ Some input
    → RunEndMeets setting after.source.left r.split r.events end
meets_known setting before after end r input known =
    subst (λ (left : Option (List ℕ)). RunEndMeets setting left r.split r.events end) (rest_known before.source after.source input known) r.ends

by_end : (setting : Setting) (before after : OutsideAt) (end : RunEnd) → RunMeets setting before after end → (input : List ℕ) (events : List Event)
    → before.source.left ≡ Some input → IsWhole setting input events
    → NoneFailed before after → RunsAll setting before.sink after.sink events (run_status end)
by_end setting before after (Done count) r input events known w none =
    let one = of_done w (takes_known input known r.input) r.events count (meets_known setting before after (Done count) r input known).1 in
    inl (
      refl,
      subst (λ (n : ℕ). Prints before.sink after.sink (text_to (run_text setting events) (Some (Done n)))) one.1
          (subst (λ (es : List Event). Prints before.sink after.sink (text_to (run_text setting es) (Some (Done count)))) one.0 r.prints),
    )
by_end setting before after (NoModule line column reason) r input events known w none =
    absurd (of_no_module w (takes_known input known r.input) line column reason (meets_known setting before after (NoModule line column reason) r input known).1)
by_end setting before after (Differs name) r input events known w none =
    absurd (of_other w (takes_known input known r.input) name (meets_known setting before after (Differs name) r input known).1)
by_end setting before after (Script place reason) r input events known w none =
    absurd (wrong (meets_known setting before after (Script place reason) r input known))
  where
    wrong : ((r.events ≡ []) × IsWrongModule One after.source.left r.split place reason) ⊎ (GoesOn setting r.events × IsWrongLine after.source.left r.split r.events place reason) → ⊥
    wrong (inl e) = of_module w (takes_known input known r.input) place reason e.1
    wrong (inr e) = of_wrong w (takes_known input known r.input) r.events place reason e.1
by_end setting before after (Outstanding place o) r input events known w none =
    absurd (of_stopped w (takes_known input known r.input) r.events place (outstanding o.key o.span o.window) (meets_known setting before after (Outstanding place o) r input known))
by_end setting before after (Spent place counter) r input events known w none =
    absurd (of_stopped w (takes_known input known r.input) r.events place (spent_counter counter) (meets_known setting before after (Spent place counter) r input known))
by_end setting before after (Common (ReadFault taken)) r input events known w none = absurd (no_read_fault refl none.reads r.calls.reads)
by_end setting before after (Common TooLong) r input events known w none =
    let t = takes_known input known r.input in
    absurd (long_by setting input after.source.left events r.split w t.consumes r.ends.2)
by_end setting before after (Common WriteFault) r input events known w none = absurd (no_write_fault refl none.writes r.calls.writes)
by_end setting before after (Common Memory) r input events known w none = inr refl

pub complete : (setting : Setting) (before after : OutsideAt) (end : RunEnd) → RunMeets setting before after end
    → RunsWholly setting before after (run_status end)
complete setting before after end r input events known w none = by_end setting before after end r input events known w none

-- ---- a stop at a line

by_module : (before after : SourceAt) (split : InputSplit) (place : ℕ) (reason : TextReason) → TakesInput before after split
    → IsWrongModule One (rest_of before after) split place reason
    → (bytes : List ℕ) → before.left ≡ Some bytes → StopsNear bytes after.left place
by_module before after split place reason t (Empty e word) bytes known = near_empty place t e bytes known
by_module before after split place reason t (NoHeader e) bytes known =
    let at : place ≡ length split.lines + 1 = e.at ∙ ap (λ (ls : List (List ℕ)). length ls + 1) (sym e.none) in
    near_next e.line place t e.next at bytes known
by_module before after split place reason t (Unended e) bytes known = near_handed place t e.few (sym e.at) bytes known

other_code : (code : ℕ) → (code ≡ 4) ⊎ ((code ≡ 5) ⊎ (code ≡ 10)) → (code ≡ 4 → ⊥) → (code ≡ 5 → ⊥) → (code ≡ 10 → ⊥) → ⊥
other_code code (inl e) f g h = f e
other_code code (inr (inl e)) f g h = g e
other_code code (inr (inr e)) f g h = h e

near_by : (setting : Setting) (before after : OutsideAt) (end : RunEnd) → RunMeets setting before after end
    → StopsAtEvent before.source after.source (run_status end)
near_by setting before after (Done count) r bytes known stop = absurd (other_code 0 stop (λ e. omega arith) (λ e. omega arith) (λ e. omega arith))
near_by setting before after (NoModule line column reason) r bytes known stop =
    absurd (other_code 3 stop (λ e. omega arith) (λ e. omega arith) (λ e. omega arith))
near_by setting before after (Differs name) r bytes known stop = absurd (other_code 3 stop (λ e. omega arith) (λ e. omega arith) (λ e. omega arith))
near_by setting before after (Script place reason) r bytes known stop = by r.ends
  where
    by : ((r.events ≡ []) × IsWrongModule One (rest_of before.source after.source) r.split place reason) ⊎ (GoesOn setting r.events × IsWrongLine (rest_of before.source after.source) r.split r.events place reason)
        → StopsNear bytes after.source.left place
    by (inl e) = by_module before.source after.source r.split place reason r.input e.1 bytes known
    by (inr e) = near_next e.1.line place r.input e.1.next e.1.at bytes known
near_by setting before after (Outstanding place o) r bytes known stop = near_handed place r.input r.ends.few (sym r.ends.at) bytes known
near_by setting before after (Spent place counter) r bytes known stop = near_handed place r.input r.ends.few (sym r.ends.at) bytes known
near_by setting before after (Common (ReadFault taken)) r bytes known stop =
    absurd (other_code 6 stop (λ e. omega arith) (λ e. omega arith) (λ e. omega arith))
near_by setting before after (Common TooLong) r bytes known stop =
    absurd (other_code 11 stop (λ e. omega arith) (λ e. omega arith) (λ e. omega arith))
near_by setting before after (Common WriteFault) r bytes known stop =
    absurd (other_code 7 stop (λ e. omega arith) (λ e. omega arith) (λ e. omega arith))
near_by setting before after (Common Memory) r bytes known stop =
    absurd (other_code 9 stop (λ e. omega arith) (λ e. omega arith) (λ e. omega arith))

pub near : (setting : Setting) (before after : OutsideAt) (end : RunEnd) → RunMeets setting before after end
    → StopsAtEvent before.source after.source (run_status end)
near setting before after end r = near_by setting before after end r

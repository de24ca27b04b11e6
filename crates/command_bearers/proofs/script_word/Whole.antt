-- A whole script runs to its end, unless memory runs out; and a stop at a line is near it.
use Rattle.std.proofs.Common.{◌≡◌, ◌≤◌, ◌⊎◌, ℕ, List, [], ◌∷◌, ◌++◌, length, map, false, Option, Some, None, Result, Ok, Err, refl, sym, ap, ◌∙◌, subst, inl, inr, append-nil, append_assoc, length-append, arith}
use Rattle.std.proofs.lemmas.Grind.{flat_map-append}
use Rattle.std.specs.List.{flat_map}
use Rattle.std.specs.Io.KnownBytes.{Consumes}
use Rattle.commands.proofs.command_output.Faults.{no_read_fault, no_write_fault}
use Rattle.gnb_base.specs.Lines.{lines_of}
use Rattle.gnb_base.specs.Reading.{input_limit}
use Rattle.command_defs.specs.input_defs.Split.{InputSplit, joined, Divides, Whole, Bare}
use Rattle.command_defs.specs.input_defs.Ends.{IsTooLong, IsReadToEnd}
use Rattle.commands.proofs.input_lines.Near.{near_handed, near_next}
use Rattle.commands.proofs.input_lines.Sources.{rest_known}
use Rattle.commands.proofs.input_lines.Wholes.{TakesOf, takes_known, lines_of-joined, all_lines, next_of}
use Rattle.scenario_text.specs.declared.script_words.reason.TextReason.{TextReason}
use Rattle.scenario_text.specs.Grammar.{is_skipped}
use Rattle.command_defs.specs.declared.CommonEnd.TheVariants.{ReadFault, TooLong, WriteFault, Memory}
use Rattle.command_defs.specs.Outside.{OutsideAt, NoneFailed}
use Rattle.command_defs.specs.Output.{Prints}
use Rattle.command_bearers.specs.declared.script_word.end.ScriptEnd.{ScriptEnd}
use Rattle.command_bearers.specs.declared.script_word.end.ScriptEnd.TheVariants.{Done, Script, Stopped, Common}
use Rattle.command_bearers.specs.declared.script_word.end.StopCause.{StopCause}
use Rattle.command_bearers.specs.declared.script_word.end.StopCause.TheVariants.{Outstanding, Spent}
use Rattle.command_bearers.specs.script_word.Meaning.{WordMeaning, IsLawful}
use Rattle.command_bearers.specs.script_word.Ends.{script_status, StopsAtEvent}
use Rattle.command_bearers.specs.script_word.Run.{AreEvents, meanings, IsWrongLine, EndsInLast, EndMeets, text_to, ScriptMeets}
use Rattle.command_bearers.specs.script_word.Whole.{IsWhole, RunsAll, RunsWholly}

abbrev all_read : {Event : Type 0} → List Event → List (Result Event TextReason)
all_read events = map (λ event. Ok event) events

-- ---- lists of readings

module _ {Event : Type 0} where
  no_error : (xs ys : List (Result Event TextReason)) (reason : TextReason) (events : List Event)
      → xs ++ Err reason ∷ ys ≡ all_read events → ⊥
  no_error [] ys reason [] e = cc
  no_error [] ys reason (event ∷ events) e = cc
  no_error (x ∷ xs) ys reason [] e = cc
  no_error (x ∷ xs) ys reason (event ∷ events) e = no_error xs ys reason events (cc)

record IsFront {Event : Type 0} (some all : List Event) : Type 0 where
  rest : List Event
  parts : all ≡ some ++ rest

module _ {Event : Type 0} where
  front_of : (some all : List Event) (more : List (Result Event TextReason)) → all_read some ++ more ≡ all_read all → IsFront some all
  front_of [] all more e = record { rest = all; parts = refl }
  front_of (x ∷ some) [] more e = absurd (cc)
  front_of (x ∷ some) (y ∷ all) more e =
      let same : x ≡ y = cc in
      let later = front_of some all more (cc) in
      record { rest = later.rest; parts = ap (λ (z : Event). z ∷ all) (sym same) ∙ ap (λ (zs : List Event). x ∷ zs) later.parts }

  same_events : (xs ys : List Event) → all_read xs ≡ all_read ys → xs ≡ ys
  same_events [] [] e = refl
  same_events [] (y ∷ ys) e = absurd (cc)
  same_events (x ∷ xs) [] e = absurd (cc)
  same_events (x ∷ xs) (y ∷ ys) e = let rest = same_events xs ys (cc) in cc

lines_after : (input : List ℕ) (left : Option (List ℕ)) (split : InputSplit) → TakesOf input left split → Divides left split
    → (more : List (List ℕ)) × (lines_of input ≡ split.lines ++ more)
lines_after input None split t d = absurd t.consumes
lines_after input (Some ys) split t (Whole f) = (
  lines_of (split.kept ++ ys),
  ap lines_of (t.consumes ∙ ap (λ (bytes : List ℕ). bytes ++ ys) f ∙ append_assoc (joined split.lines) split.kept ys) ∙ lines_of-joined split.lines (split.kept ++ ys) t.each,
)
lines_after input (Some ys) split t (Bare front last p some bytes none at_end) = ([], all_lines t none at_end ∙ sym (append-nil split.lines))

module _ {Event : Type 0} (m : WordMeaning Event) where
  -- ---- a wrong line is in no script

  wrong_means : (line : List ℕ) (reason : TextReason) → is_skipped line ≡ false → m.event_of line ≡ Err reason
      → meanings m line ≡ Err reason ∷ []
  wrong_means line reason skip read = rw (skip, read) refl

  wrong_line : (lines : List (List ℕ)) (line : List ℕ) (more : List (List ℕ)) (reason : TextReason) (events : List Event)
      → meanings m line ≡ Err reason ∷ []
      → AreEvents m (lines ++ line ∷ more) events → ⊥
  wrong_line lines line more reason events wrong script =
      no_error (flat_map (meanings m) lines) (flat_map (meanings m) more) reason events
      (ap (λ (ms : List (Result Event TextReason)). flat_map (meanings m) lines ++ ms) (ap (λ (ms : List (Result Event TextReason)). ms ++ flat_map (meanings m) more) (sym wrong))
      ∙ sym (flat_map-append (meanings m) lines (line ∷ more)) ∙ script)

  -- a run that has stopped stays so
  stopped_on : IsLawful m → (events more : List Event) (cause : StopCause) → m.stopped events ≡ Some cause
      → m.stopped (events ++ more) ≡ Some cause
  stopped_on lawful events [] cause h = ap (λ (es : List Event). m.stopped es) (append-nil events) ∙ h
  stopped_on lawful events (event ∷ more) cause h =
      ap (λ (es : List Event). m.stopped es) (sym (append_assoc events (event ∷ []) more))
      ∙ stopped_on lawful (events ++ event ∷ []) more cause (lawful.stays events event cause h)

-- ---- of a whole script

module _ {Event : Type 0} {m : WordMeaning Event} {input : List ℕ} {events : List Event} {left : Option (List ℕ)} {split : InputSplit} (w : IsWhole m input events) (t : TakesOf input left split) where
  of_wrong : (place : ℕ) (reason : TextReason) → IsWrongLine m left split place reason → ⊥
  of_wrong place reason e =
      let next = next_of t e.next in
      wrong_line m split.lines e.line next.more reason events (wrong_means m e.line reason e.skip e.wrong) (subst (λ (ls : List (List ℕ)). AreEvents m ls events) next.split w.are)

  of_stopped : IsLawful m → (some : List Event) (cause : StopCause) → AreEvents m split.lines some → m.stopped some ≡ Some cause → ⊥
  of_stopped lawful some cause are stops =
      let more = lines_after input left split t t.divides in
      let front = front_of some events (flat_map (meanings m) more.0)
      (ap (λ (ms : List (Result Event TextReason)). ms ++ flat_map (meanings m) more.0) (sym are) ∙ sym (flat_map-append (meanings m) split.lines more.0)
      ∙ ap (λ (ls : List (List ℕ)). flat_map (meanings m) ls) (sym more.1) ∙ w.are) in
      let clash : None ≡ Some cause = sym w.goes ∙ ap (λ (es : List Event). m.stopped es) front.parts ∙ stopped_on m lawful some front.rest cause stops in
      cc

  of_done : (some : List Event) → AreEvents m split.lines some → IsReadToEnd left split → some ≡ events
  of_done some are all =
      same_events some events (sym are ∙ ap (λ (ls : List (List ℕ)). flat_map (meanings m) ls) (sym (all_lines t all.nothing all.at_end)) ∙ w.are)

long_by : (input : List ℕ) (left : Option (List ℕ)) (split : InputSplit) → length input ≤ input_limit
    → Consumes (Some input) left split.taken → IsTooLong split → ⊥
long_by input None split within h e = h
long_by input (Some ys) split within h e = omega (arith, within, ap length h, length-append split.taken ys, e.at)

module _ {Event : Type 0} (m : WordMeaning Event) (before after : OutsideAt) where
  -- what the end means, of an input whose bytes were reported
  meets_known : (end : ScriptEnd) (r : ScriptMeets m before after end) (input : List ℕ) → before.source.left ≡ Some input
      → EndMeets m after.source.left r.split r.events end
  meets_known end r input known =
      subst (λ (left : Option (List ℕ)). EndMeets m left r.split r.events end) (rest_known before.source after.source input known) r.ends

  by_end : IsLawful m → (end : ScriptEnd) → ScriptMeets m before after end → (input : List ℕ) (events : List Event)
      → before.source.left ≡ Some input → IsWhole m input events
      → NoneFailed before after → RunsAll m before.sink after.sink events (script_status end)
  by_end lawful (Done count) r input events known w none =
      let e = meets_known (Done count) r input known in
      let same = of_done w (takes_known input known r.input) r.events r.are e.1 in
      inl (
        refl,
        subst (λ (n : ℕ). Prints before.sink after.sink (text_to (m.text events) (Some (Done n)))) (e.2 ∙ ap length same)
            (subst (λ (es : List Event). Prints before.sink after.sink (text_to (m.text es) (Some (Done count)))) same r.prints),
      )
  by_end lawful (Script place reason) r input events known w none =
      absurd (of_wrong w (takes_known input known r.input) place reason (meets_known (Script place reason) r input known).1)
  by_end lawful (Stopped place cause) r input events known w none =
      absurd (of_stopped w (takes_known input known r.input) lawful r.events cause r.are r.ends.stops)
  by_end lawful (Common (ReadFault taken)) r input events known w none = absurd (no_read_fault refl none.reads r.calls.reads)
  by_end lawful (Common TooLong) r input events known w none =
      let t = takes_known input known r.input in
      absurd (long_by input after.source.left r.split w.within t.consumes r.ends.1)
  by_end lawful (Common WriteFault) r input events known w none = absurd (no_write_fault refl none.writes r.calls.writes)
  by_end lawful (Common Memory) r input events known w none = inr refl

  pub complete : IsLawful m → (end : ScriptEnd) → ScriptMeets m before after end → RunsWholly m before after (script_status end)
  complete lawful end r input events known w none = by_end lawful end r input events known w none

-- ---- a stop at a line

other_code : (code : ℕ) → (code ≡ 4) ⊎ ((code ≡ 5) ⊎ (code ≡ 10)) → (code ≡ 4 → ⊥) → (code ≡ 5 → ⊥) → (code ≡ 10 → ⊥) → ⊥
other_code code (inl e) f g h = f e
other_code code (inr (inl e)) f g h = g e
other_code code (inr (inr e)) f g h = h e

module _ {Event : Type 0} (m : WordMeaning Event) (before after : OutsideAt) where
  near_by : (end : ScriptEnd) → ScriptMeets m before after end → StopsAtEvent before.source after.source (script_status end)
  near_by (Done count) r bytes known stop = absurd (other_code 0 stop (λ e. omega arith) (λ e. omega arith) (λ e. omega arith))
  near_by (Script place reason) r bytes known stop = near_next r.ends.1.line place r.input r.ends.1.next r.ends.1.at bytes known
  near_by (Stopped place Outstanding) r bytes known stop = near_handed place r.input r.ends.few (sym r.ends.at) bytes known
  near_by (Stopped place (Spent counter)) r bytes known stop = near_handed place r.input r.ends.few (sym r.ends.at) bytes known
  near_by (Common (ReadFault taken)) r bytes known stop = absurd (other_code 6 stop (λ e. omega arith) (λ e. omega arith) (λ e. omega arith))
  near_by (Common TooLong) r bytes known stop = absurd (other_code 11 stop (λ e. omega arith) (λ e. omega arith) (λ e. omega arith))
  near_by (Common WriteFault) r bytes known stop = absurd (other_code 7 stop (λ e. omega arith) (λ e. omega arith) (λ e. omega arith))
  near_by (Common Memory) r bytes known stop = absurd (other_code 9 stop (λ e. omega arith) (λ e. omega arith) (λ e. omega arith))

  pub near : (end : ScriptEnd) → ScriptMeets m before after end → StopsAtEvent before.source after.source (script_status end)
  near end r = near_by end r

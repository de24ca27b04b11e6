-- One turn of a run: what the calls in it give together.
use Rattle.std.proofs.Common.{◌≡◌, ℕ, List, [], ◌∷◌, ◌++◌, false, Option, Some, None, Result, Ok, Err, refl, sym, ap, ◌∙◌, subst}
use Rattle.gnb_base.specs.declared.lines.Line.{Line}
use Rattle.gnb_base.specs.Outside.{SourceAt}
use Rattle.gnb_base.specs.Reading.{Reading, NextMeets}
use Rattle.command_defs.specs.declared.input_defs.InputEnd.{InputEnd}
use Rattle.commands.specs.input_lines.ReadsLine.{StopsReading}
use Rattle.scenario_text.specs.declared.script_words.reason.TextReason.{TextReason}
use Rattle.scenario_text.specs.declared.script_words.reason.TextError.{TextError}
use Rattle.scenario_text.specs.declared.script_words.reason.TextError.TheVariants as texts
use Rattle.scenario_text.specs.script_words.Answers.{GivesOrMemory}
use Rattle.scenario_text.specs.declared.event.Event.{Event}
use Rattle.scenario_text.specs.declared.line.OutLine.{OutLine}
use Rattle.scenario_text.specs.declared.line.OutLine.TheVariants as lines
use Rattle.scenario_text.specs.Grammar.{is_skipped, event_of}
use Rattle.scenario_text.specs.Print.{print}
use Rattle.asn1_syntax.specs.declared.assignments.assignment.Syntax.{Syntax}
use Rattle.profile.specs.declared.version.Version.TheVariants.{One}
use Rattle.profile.specs.declared.profile_module.agreement.AgreeError.{AgreeError}
use Rattle.profile.specs.declared.profile_module.agreement.AgreeError.TheVariants as errors
use Rattle.profile.specs.profile_module.Profiles.{IsAgreementOf}
use Rattle.commands.specs.declared.input_module.module.GivenModule.{GivenModule}
use Rattle.commands.specs.declared.input_module.module.GivenModule.TheVariants as given
use Rattle.commands.specs.declared.input_module.stop.ModuleStop.{ModuleStop}
use Rattle.commands.specs.input_module.Taking.{HasModule, StopsTaking}
use Rattle.run_defs.specs.States.{RunStep, Stop, outstanding, spent_counter, goes, stops}
use Rattle.run_defs.specs.UnitRuns.{unit_world}
use Rattle.run_links.specs.declared.spans.Outstanding.{Outstanding as Span}
use Rattle.run_links.specs.Networks.{OctetState, OctetOutcome}
use Rattle.run_links.specs.Told.{EndsAt}
use Rattle.world_steps.specs.declared.cause.Cause.{Cause}
use Rattle.world_steps.specs.declared.cause.Cause.TheVariants as causes
use Rattle.world_steps.specs.Gives.{stop_by, EventStops}
use Rattle.world.specs.declared.stop.Stop.{Stop as WorldStop}
use Rattle.world.specs.declared.stop.Stop.TheVariants as world_stops
use Rattle.world.specs.Worlds.{WorldAt, IsUsable, stopped, AppliesTo, AppliesAt, Applies as WorldApplies}
use Rattle.command_defs.specs.declared.CommonEnd.TheVariants.{WriteFault, Memory}
use Rattle.command_defs.specs.Ends.{end_of_input}
use Rattle.commands.specs.command_output.Writes.{WritesAll, WritesFront}
use Rattle.command_run.specs.declared.end.RunEnd.{RunEnd}
use Rattle.command_run.specs.declared.end.RunEnd.TheVariants.{Differs, Script, Common}
use Rattle.command_run.specs.declared.script.Meaning.{Meaning}
use Rattle.command_run.specs.declared.script.Meaning.TheVariants as meanings
use Rattle.command_run.specs.declared.script.Happening.{Happening}
use Rattle.command_run.specs.Ends.{end_at}
use Rattle.command_run.specs.Run.{Setting}
use Rattle.command_run.specs.inside.Stops.{end_of_stop}
use Rattle.command_run.specs.inside.Turns.{WorkAt, RunAt, ProfileStops, Untaken, Unlike, Uncompared, ProfileMeets, LineStops, Refused, IsEvent, Means, outcome_at, told_by, text_at, Comes, IsHappening, Applies, ApplyStops, Ended, Faulty, TakesLine, Happens, TurnStops, Unread, Unapplied, Halted, TurnMeets}
use Rattle.command_run.proofs.Runs.{print-cons}

-- ---- the profile

pub untaken : {before after : SourceAt} (reading : Reading) (stop : ModuleStop) (end : RunEnd) (result : Result (Unit {0}) RunEnd)
    → result ≡ Err end → end ≡ end_of_stop stop → StopsTaking One before after stop
    → ProfileMeets before after reading result
untaken {before = before} {after = after} reading stop end result e f h =
    subst (λ (r : Result (Unit {0}) RunEnd). ProfileMeets before after reading r) (sym e) (Untaken stop h f)

-- the module of the text that was taken
text_module : {before after : SourceAt} {reading : Reading} (found : GivenModule) (m : Syntax) → found ≡ given.Text m
    → HasModule One before after reading found
    → HasModule One before after reading (given.Text m)
text_module {before = before} {after = after} {reading = reading} found m e h =
    subst (λ (x : GivenModule). HasModule One before after reading x) e h

pub unlike : {before after : SourceAt} {reading : Reading} (found : GivenModule) (m : Syntax) (error : AgreeError) (name : List ℕ)
    → found ≡ given.Text m → HasModule One before after reading found → error ≡ errors.Differs name → IsAgreementOf m (Err error)
    → ProfileStops before after reading (Differs name)
unlike found m error name e h same d =
    Unlike m name (text_module found m e h) (subst (λ (x : AgreeError). IsAgreementOf m (Err x)) same d) refl

pub uncompared : {before after : SourceAt} {reading : Reading} (found : GivenModule) (m : Syntax) → found ≡ given.Text m
    → HasModule One before after reading found
    → ProfileStops before after reading (Common Memory)
uncompared found m e h = Uncompared m (text_module found m e h) refl

-- ---- a line

pub is_refused : (line : Line) (text : List ℕ) (error : TextError) (reason : TextReason) → error ≡ texts.Refused reason → text ≡ line.text
    → is_skipped text ≡ false → GivesOrMemory {X = Event} (λ x. x) (Err error) (event_of text) → LineStops line (Script line.number reason)
is_refused line text error reason e same skip gives =
    let read = subst (λ (t : TextError). GivesOrMemory {X = Event} (λ x. x) (Err t) (event_of text)) e gives in
    Refused reason (ap is_skipped (sym same) ∙ skip) (ap event_of (sym same) ∙ read) refl

-- ---- whether the units can be used

pub usable_goes : {U : Type 0} (ready : U → Type 0) (units : U) (stop : Option Cause) → stop ≡ None → IsUsable ready units stop → ready units
usable_goes ready units stop e h = subst (λ (s : Option Cause). IsUsable ready units s) e h

pub still_usable : {U : Type 0} (ready : U → Type 0) (units : U) (stop : Option Cause) → stop ≡ None → ready units → IsUsable ready units stop
still_usable ready units stop e h = subst (λ (s : Option Cause). IsUsable ready units s) (sym e) h

-- ---- an event is applied to a run that goes on

module _ (setting : Setting) (event : Event) (old new : WorldAt) where
  applied_now : (result : Result (List OutLine) WorldStop) → old.stop ≡ None
      → WorldApplies (unit_world setting.codec setting.answer) event old new result → AppliesTo (outcome_at setting old event) new result
  applied_now result going h = subst (λ (s : Option Cause). AppliesAt (outcome_at setting old event) s old new result) going h

  pub goes_now : (printed : List OutLine) → old.stop ≡ None
      → WorldApplies (unit_world setting.codec setting.answer) event old new (Ok printed)
      → Comes (outcome_at setting old event) new printed None
  goes_now printed going h = applied_now (Ok printed) going h

  pub outstanding_now : (stop : WorldStop) (o : Span) (printed : List OutLine) → stop ≡ world_stops.Outstanding o printed → old.stop ≡ None
      → WorldApplies (unit_world setting.codec setting.answer) event old new (Err stop)
      → Comes (outcome_at setting old event) new printed (Some (causes.Outstanding o))
  outstanding_now stop o printed e going h =
      let a = applied_now (Err stop) going h in
      (outstanding o.key o.span o.window, refl, by a.0 a.1 (sym e ∙ a.2) a.4)
    where
      by : (cause : Cause) (others : List OutLine) → world_stops.Outstanding o printed ≡ stopped cause others
          → EventStops [] (outcome_at setting old event) others (stop_by cause)
          → EventStops [] (outcome_at setting old event) printed (Some (outstanding o.key o.span o.window))
      by (causes.Outstanding p) others f k =
          let same : p ≡ o = cc in
          let alike : others ≡ printed = cc in
          subst (λ (ls : List OutLine). EventStops [] (outcome_at setting old event) ls (Some (outstanding o.key o.span o.window))) alike
          (subst (λ (x : Span). EventStops [] (outcome_at setting old event) others (Some (outstanding x.key x.span x.window))) same k)
      by (causes.Spent counter) others f k = absurd (cc)
      by causes.Memory others f k = absurd (cc)

  pub spent_now : (stop : WorldStop) (counter : ℕ) (printed : List OutLine) → stop ≡ world_stops.Spent counter printed → old.stop ≡ None
      → WorldApplies (unit_world setting.codec setting.answer) event old new (Err stop)
      → Comes (outcome_at setting old event) new printed (Some (causes.Spent counter))
  spent_now stop counter printed e going h =
      let a = applied_now (Err stop) going h in
      (spent_counter counter, refl, by a.0 a.1 (sym e ∙ a.2) a.4)
    where
      by : (cause : Cause) (others : List OutLine) → world_stops.Spent counter printed ≡ stopped cause others
          → EventStops [] (outcome_at setting old event) others (stop_by cause)
          → EventStops [] (outcome_at setting old event) printed (Some (spent_counter counter))
      by (causes.Outstanding p) others f k = absurd (cc)
      by (causes.Spent number) others f k =
          let same : number ≡ counter = cc in
          let alike : others ≡ printed = cc in
          subst (λ (ls : List OutLine). EventStops [] (outcome_at setting old event) ls (Some (spent_counter counter))) alike
          (subst (λ (n : ℕ). EventStops [] (outcome_at setting old event) others (Some (spent_counter n))) same k)
      by causes.Memory others f k = absurd (cc)

-- ---- what it comes to, and what is written of it

record GoesWith (outcome : OctetOutcome) (printed : List OutLine) (after : OctetState) : Type 0 where
  steps : List (RunStep (List ℕ))
  goes_on : outcome ≡ goes steps after
  same : printed ≡ told_by outcome

goes_with : (outcome : OctetOutcome) (printed : List OutLine) (s : OctetState) → EndsAt [] outcome printed s → GoesWith outcome printed s
goes_with (goes steps after) printed s h = record { steps = steps; goes_on = ap (λ (t : OctetState). goes steps t) h.1; same = h.0 }
goes_with (stops steps why) printed s h = absurd h

record StopsWith (outcome : OctetOutcome) (printed : List OutLine) (why : Stop) : Type 0 where
  steps : List (RunStep (List ℕ))
  stops_so : outcome ≡ stops steps why
  same : printed ≡ told_by outcome

stops_with : (outcome : OctetOutcome) (printed : List OutLine) (why : Stop) → EventStops [] outcome printed (Some why)
    → StopsWith outcome printed why
stops_with (goes steps after) printed why h = absurd h
stops_with (stops steps cause) printed why h = record { steps = steps; stops_so = ap (λ (s : Stop). stops steps s) h.1; same = h.0 }

told_is : (outcome : OctetOutcome) (new : WorldAt) (printed : List OutLine) (cause : Option Cause) → Comes outcome new printed cause
    → printed ≡ told_by outcome
told_is outcome new printed None c = (goes_with outcome printed new.state c.0).same
told_is outcome new printed (Some cause) c = (stops_with outcome printed c.0 c.2).same

-- the text of an event: its own line, and the lines after it
pub text_of_event : (event : Event) (printed : List OutLine) (first more text : List ℕ) → first ≡ print (lines.Happens event ∷ [])
    → more ≡ print printed → text ≡ first ++ more
    → text ≡ print (lines.Happens event ∷ printed)
text_of_event event printed first more text e f g =
    g ∙ ap (λ (bytes : List ℕ). bytes ++ more) e ∙ ap (λ (bytes : List ℕ). print (lines.Happens event ∷ []) ++ bytes) f
    ∙ sym (print-cons (lines.Happens event) printed)

module _ (setting : Setting) (old new : WorkAt) (event : Event) (h : Happening) (is : IsHappening setting event old.world new.world h) (text : List ℕ) (shows : text ≡ print (lines.Happens event ∷ h.lines)) where
  text_is : text ≡ text_at setting old.world event
  text_is =
      shows ∙ ap (λ (ls : List OutLine). print (lines.Happens event ∷ ls)) (told_is (outcome_at setting old.world event) new.world h.lines h.cause is)

  pub event_written : h.cause ≡ None → WritesAll old.sink new.sink text → Applies setting old new event
  event_written none w =
      let c : Comes (outcome_at setting old.world event) new.world h.lines None = subst (λ (o : Option Cause). Comes (outcome_at setting old.world event) new.world h.lines o) none is in
      let g = goes_with (outcome_at setting old.world event) h.lines new.world.state c.0 in
      record {
        steps = g.steps;
        goes_on = g.goes_on;
        going = c.1;
        writes = subst (λ (t : List ℕ). WritesAll old.sink new.sink t) text_is w;
      }

  pub event_ends : (place : ℕ) (cause : Cause) (end : RunEnd) → h.cause ≡ Some cause → end ≡ end_at place cause → WritesAll old.sink new.sink text
      → ApplyStops setting old new (place, event) end
  event_ends place cause end some e w =
      let c : Comes (outcome_at setting old.world event) new.world h.lines (Some cause) = subst (λ (o : Option Cause). Comes (outcome_at setting old.world event) new.world h.lines o) some is in
      let s = stops_with (outcome_at setting old.world event) h.lines c.0 c.2 in
      Ended s.steps cause c.0 c.1 s.stops_so e (subst (λ (t : List ℕ). WritesAll old.sink new.sink t) text_is w)

  pub event_cut : (place : ℕ) → WritesFront old.sink new.sink text → ApplyStops setting old new (place, event) (Common WriteFault)
  event_cut place w = Faulty refl (subst (λ (t : List ℕ). WritesFront old.sink new.sink t) text_is w)

-- ---- a turn

module _ (setting : Setting) (old new : RunAt) where
  turn_result : (end : RunEnd) (result : Result (Option ℕ) RunEnd) → result ≡ Err end → TurnStops setting old new end
      → TurnMeets setting old new result
  turn_result end result e how = subst (λ (r : Result (Option ℕ) RunEnd). TurnMeets setting old new r) (sym e) how

  pub turn_unread : (why : InputEnd) (end : RunEnd) (result : Result (Option ℕ) RunEnd)
      → StopsReading old.reading new.reading old.source new.source why
      → result ≡ Err end → end ≡ Common (end_of_input why) → new.work ≡ old.work → TurnMeets setting old new result
  turn_unread why end result s e f same = turn_result end result e (Unread why s f same)

  pub unapplied : (found : Option Line) (line : Line) (why end : RunEnd) (result : Result (Option ℕ) RunEnd)
      → found ≡ Some line
      → NextMeets old.reading new.reading old.source new.source (Ok found) → LineStops line why → result ≡ Err end → end ≡ why
      → new.work ≡ old.work → TurnMeets setting old new result
  unapplied found line why end result e m how r f same =
      turn_result why result (r ∙ ap (λ (x : RunEnd). Err x) f)
      (Unapplied line (subst (λ (o : Option Line). NextMeets old.reading new.reading old.source new.source (Ok o)) e m) how same)

  pub halted : (found : Option Line) (line : Line) (event : Event) (why end : RunEnd) (result : Result (Option ℕ) RunEnd)
      → found ≡ Some line
      → NextMeets old.reading new.reading old.source new.source (Ok found) → IsEvent line.text event
      → ApplyStops setting old.work new.work (line.number, event) why
      → result ≡ Err end → end ≡ why
      → TurnMeets setting old new result
  halted found line event why end result e m is how r f =
      turn_result why result (r ∙ ap (λ (x : RunEnd). Err x) f)
      (Halted line event (subst (λ (o : Option Line). NextMeets old.reading new.reading old.source new.source (Ok o)) e m) is how)

  pub applied : (found : Option Line) (line : Line) (event : Event) → found ≡ Some line
      → NextMeets old.reading new.reading old.source new.source (Ok found)
      → IsEvent line.text event → Applies setting old.work new.work event → TakesLine setting old new 1
  applied found line event e m is applies = record {
    line = line;
    meets = subst (λ (o : Option Line). NextMeets old.reading new.reading old.source new.source (Ok o)) e m;
    applies = Happens refl event is applies;
  }

pub is_event_at : (line : Line) (meaning : Meaning) (event : Event) → meaning ≡ meanings.Event event → Means line (Ok meaning)
    → IsEvent line.text event
is_event_at line meaning event e h = subst (λ (m : Meaning). Means line (Ok m)) e h

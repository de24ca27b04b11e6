-- One turn: what the calls in it give together.
use Rattle.std.proofs.Common.{◌≡◌, ℕ, List, Bool, ◌++◌, Option, Some, None, option_map, Result, Ok, Err, refl, sym, ap, ◌∙◌, subst, append_assoc}
use Rattle.gnb_base.specs.declared.lines.Line.{Line}
use Rattle.gnb_base.specs.Outside.{SinkAt}
use Rattle.gnb_base.specs.Reading.{NextMeets}
use Rattle.command_defs.specs.declared.input_defs.InputEnd.{InputEnd}
use Rattle.commands.specs.input_lines.ReadsLine.{StopsReading}
use Rattle.command_defs.specs.Ends.{end_of_input}
use Rattle.std.specs.Io.KnownBytes.{Appends}
use Rattle.commands.specs.command_output.Writes.{WritesAll}
use Rattle.command_values.specs.declared.answer.Wrong.{Wrong}
use Rattle.command_values.specs.declared.answer.Unanswered.{Unanswered}
use Rattle.command_values.specs.declared.answer.Unanswered.TheVariants as unanswered
use Rattle.command_values.specs.declared.end.Stop.TheVariants.{Value}
use Rattle.command_values.specs.declared.end.ValuesEnd.{ValuesEnd}
use Rattle.command_values.specs.declared.end.ValuesEnd.TheVariants.{Stopped, Common}
use Rattle.command_values.specs.declared.lines.Task.{Task}
use Rattle.command_values.specs.inside.Answered.{AnswerMeets}
use Rattle.command_values.specs.inside.Turns.{RunAt, with_feed, once_written, TaskAnswers, WriteMeets, WriteStops, Refused, TurnMeets, Unread, Unanswered as NotAnswered}

appends_after : (held : Option (List ℕ)) (old text : List ℕ)
    → Appends (option_map (λ (bs : List ℕ). bs ++ old) held) (option_map (λ (bs : List ℕ). bs ++ (old ++ text)) held) text
appends_after None old text = tt
appends_after (Some bs) old text = sym (append_assoc bs old text)

-- a text that waits after another one
pub waits : (sink : SinkAt) (old text : List ℕ) → WritesAll (once_written sink old) (once_written sink (old ++ text)) text
waits sink old text = record { prints = record { appends = appends_after sink.held old text }; none = record { faults = refl; failed = λ h. h } }

module _ (task : Task) (line : Line) (bytes : List ℕ) (same : bytes ≡ line.text) where
  pub refused_line : (sink : SinkAt) (u : Unanswered) (wrong : Wrong) → u ≡ unanswered.Wrong wrong
      → AnswerMeets task.way task.module.now task.id.number bytes (Err u) → WriteStops task sink sink line (Stopped (Value line.number wrong))
  refused_line sink u wrong e h =
      let of_text : AnswerMeets task.way task.module.now task.id.number line.text (Err u) =
      subst (λ (b : List ℕ). AnswerMeets task.way task.module.now task.id.number b (Err u)) same h in
      Refused wrong (subst (λ (x : Unanswered). AnswerMeets task.way task.module.now task.id.number line.text (Err x)) e of_text) refl refl

  pub answered_line : (sink : SinkAt) (old new text fed : List ℕ) → AnswerMeets task.way task.module.now task.id.number bytes (Ok text)
      → fed ≡ with_feed text → new ≡ old ++ fed → WriteMeets task (once_written sink old) (once_written sink new) line (Ok tt)
  answered_line sink old new text fed h e f = record {
    text = text;
    answers = subst (λ (bs : List ℕ). TaskAnswers task bs text) same h;
    all = subst (λ (w : List ℕ). WritesAll (once_written sink old) (once_written sink w) (with_feed text))
        (sym (f ∙ ap (λ (t : List ℕ). old ++ t) e)) (waits sink old (with_feed text));
  }

turn_result : (task : Task) (old new : RunAt) (end : ValuesEnd) (result : Result Bool ValuesEnd) → result ≡ Err end
    → TurnMeets task old new (Err end) → TurnMeets task old new result
turn_result task old new end result e how = subst (λ (r : Result Bool ValuesEnd). TurnMeets task old new r) (sym e) how

pub turn_unread : (task : Task) (old new : RunAt) (why : InputEnd) (end : ValuesEnd) (result : Result Bool ValuesEnd)
    → StopsReading old.reading new.reading old.source new.source why → result ≡ Err end → end ≡ Common (end_of_input why)
    → new.sink ≡ old.sink → TurnMeets task old new result
turn_unread task old new why end result s e f same = turn_result task old new end result e (Unread why s f same)

pub turn_unwritten : (task : Task) (old new : RunAt) (found : Option Line) (line : Line) (why end : ValuesEnd) (result : Result Bool ValuesEnd)
    → found ≡ Some line → NextMeets old.reading new.reading old.source new.source (Ok found)
    → WriteStops task old.sink new.sink line why → result ≡ Err end → end ≡ why → TurnMeets task old new result
turn_unwritten task old new found line why end result e m how r f =
    turn_result task old new why result (r ∙ ap (λ (x : ValuesEnd). Err x) f)
    (NotAnswered line (subst (λ (o : Option Line). NextMeets old.reading new.reading old.source new.source (Ok o)) e m) how)

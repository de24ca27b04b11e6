use Rattle.std.proofs.Common.{◌≡◌, ◌∙◌, ap, Result, Ok}
use Rattle.dup_defs.specs.declared.types.event.DupEvent.{DupEvent}
use Rattle.scenario_text.specs.declared.script_words.reason.TextReason.{TextReason}
use Rattle.dup.specs.text.Grammar.{event_of}
use Rattle.dup.proofs.text.EventLaws.{event_of-event_text}
use Rattle.law_dup.proofs.text.texts_tell_events_apart.Goals as goal

same_event : (a b : DupEvent) (read : Result DupEvent TextReason) → read ≡ Ok a → read ≡ Ok b → a ≡ b
same_event a b read p q = cc

pub returns : goal.returns
returns c = λ a b in_a in_b same. same_event a b _ (event_of-event_text a in_a) (ap event_of same ∙ event_of-event_text b in_b)

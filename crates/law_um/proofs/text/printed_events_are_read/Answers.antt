use Rattle.um.proofs.text.EventLaws.{event_of-event_text}
use Rattle.law_um.proofs.text.printed_events_are_read.Goals as goal

pub returns : goal.returns
returns c = event_of-event_text

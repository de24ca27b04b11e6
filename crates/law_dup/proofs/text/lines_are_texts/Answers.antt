use Rattle.dup.proofs.text.EventLaws.{event_sound, text_is_read}
use Rattle.law_dup.proofs.text.lines_are_texts.Goals as goal

pub returns : goal.returns
returns c = λ line event. (event_sound line event, text_is_read line event)

use Rattle.scenario_text.proofs.script_words.WordLemmas.{line_end-words}
use Rattle.scenario_text.proofs.script_words.words.Words.end.Goals as goal

pub returns-in-Some : goal.returns-in-Some
returns-in-Some c = rw c.in-Some.is (line_end-words c.in-Some.field-0.now)

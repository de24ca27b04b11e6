use Rattle.scenario_text.proofs.script_words.WordLemmas.{next_word-cut}
use Rattle.scenario_text.proofs.script_words.words.Words.next.Goals as goal

pub returns : goal.returns
returns c = next_word-cut c.args.self.rest c.in_ok-line.line c.cut.result.0.now c.cut.result.1 c.in_ok-line.ensures.ok_part c.cut.ensures.front c.cut.ensures.rest

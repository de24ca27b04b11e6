use Rattle.aper_cursor.specs.Questions.{question_of}
use Rattle.aper_cursor.proofs.asking.Bounds.{answer_so}
use Rattle.aper_cursor.proofs.asking.Onward.{asked_limit}
use Rattle.aper_cursor.proofs.asking.steps.ask_one.Goals as goal

pub returns-clause-limit : goal.returns-clause-limit
returns-clause-limit c =
    let right = c.in_ok-ask.ensures {u = tt} in
    asked_limit (question_of c.args.question) c.args.cursor.now c.ask.new.self c.in_ok-ask.field-0 right.0 right.1

pub returns-clause-answer : goal.returns-clause-answer
returns-clause-answer c =
    let right = c.in_ok-ask.ensures {u = tt} in answer_so c.args.question c.args.cursor.now c.in_ok-ask.field-0 right.0

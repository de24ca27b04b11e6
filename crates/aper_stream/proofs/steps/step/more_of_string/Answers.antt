use Rattle.aper_stream.proofs.steps.step.more_of_string.Goals as goal

pub returns-in-Nothing-clause-asked : goal.returns-in-Nothing-clause-asked
returns-in-Nothing-clause-asked c = λ of fs. c.made.ensures.asked of fs c.args.cursor.now

pub returns-in-Nothing-clause-bounded : goal.returns-in-Nothing-clause-bounded
returns-in-Nothing-clause-bounded c = c.made.ensures.bounded c.args.cursor.now.place

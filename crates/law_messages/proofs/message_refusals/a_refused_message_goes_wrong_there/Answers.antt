use Rattle.proof_messages.proofs.message_refusals.Types.{f1, e1, xn1, xn2, core, token}
use Rattle.law_messages.proofs.message_refusals.a_refused_message_goes_wrong_there.Goals as goal

pub returns-clause-f1 : goal.returns-clause-f1
returns-clause-f1 c = f1

pub returns-clause-e1 : goal.returns-clause-e1
returns-clause-e1 c = e1

pub returns-clause-first_xn : goal.returns-clause-first_xn
returns-clause-first_xn c = xn1

pub returns-clause-second_xn : goal.returns-clause-second_xn
returns-clause-second_xn c = xn2

pub returns-clause-core : goal.returns-clause-core
returns-clause-core c = core

pub returns-clause-token : goal.returns-clause-token
returns-clause-token c = token

use Rattle.law_terminals_are_isolated.proofs.run_ticks.Runs.{terminals_on, requests_on}
use Rattle.law_terminals_are_isolated.proofs.run_ticks.units_keep_their_order.Goals as goal

pub returns-clause-terminals : goal.returns-clause-terminals
returns-clause-terminals c = λ reading t after gnb. terminals_on reading t after gnb

pub returns-clause-requests : goal.returns-clause-requests
returns-clause-requests c = λ reading t after node. requests_on reading t after node

use Rattle.message_types.specs.declared.rrc.Token.{Token}
use Rattle.unit_defs.specs.Ways.{Message, Pdu, Load}
use Rattle.run_defs.specs.Written.{Written}
use Rattle.run_defs.specs.States.{new_state}
use Rattle.proof_run_steps.proofs.law_run_links.Links.{few_in_run, first_few}
use Rattle.proof_run_steps.proofs.law_run_links.control_messages_are_few.Goals as goal

pub returns-clause-run : goal.returns-clause-run
returns-clause-run c = λ reading events t is.
    few_in_run reading events new_state t (first_few (Message Token) Token (Written (Load Pdu)) (Written Pdu)) is

pub returns-clause-on : goal.returns-clause-on
returns-clause-on c = λ reading events s t few is. few_in_run reading events s t few is

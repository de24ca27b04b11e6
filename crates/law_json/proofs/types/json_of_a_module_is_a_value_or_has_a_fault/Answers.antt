use Rattle.law_json.proofs.types.Law.{exact_of_module, value_or_fault_of_module}
use Rattle.law_json.proofs.types.json_of_a_module_is_a_value_or_has_a_fault.Goals as goal

pub returns-clause-exact : goal.returns-clause-exact
returns-clause-exact c = exact_of_module

pub returns-clause-always : goal.returns-clause-always
returns-clause-always c = value_or_fault_of_module

use Rattle.proof_json.proofs.lawful.Law.{value_or_fault, not_both}
use Rattle.law_json.proofs.json_is_a_value_or_has_a_fault.Goals as goal

pub returns-clause-always : goal.returns-clause-always
returns-clause-always c = value_or_fault

pub returns-clause-never : goal.returns-clause-never
returns-clause-never c = not_both

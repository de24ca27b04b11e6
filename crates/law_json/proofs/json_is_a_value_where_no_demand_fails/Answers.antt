use Rattle.proof_json.proofs.lawful.Law.{exact}
use Rattle.law_json.proofs.json_is_a_value_where_no_demand_fails.Goals as goal

pub returns : goal.returns
returns c = exact

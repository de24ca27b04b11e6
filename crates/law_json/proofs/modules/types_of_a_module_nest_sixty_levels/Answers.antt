use Rattle.proof_json.proofs.again.Nesting.{low}
use Rattle.proof_json.proofs.again.Law.{shallow, readable}
use Rattle.law_json.proofs.modules.types_of_a_module_nest_sixty_levels.Goals as goal

pub returns-clause-levels : goal.returns-clause-levels
returns-clause-levels c = low

pub returns-clause-depth : goal.returns-clause-depth
returns-clause-depth c = shallow

pub returns-clause-read : goal.returns-clause-read
returns-clause-read c = readable

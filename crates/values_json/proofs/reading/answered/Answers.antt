use Rattle.std.proofs.Common.{Result, subst}
use Rattle.aper_values.specs.declared.value.Value.{Value}
use Rattle.json_fields.specs.declared.simple.refusal.Refusal.{Refusal}
use Rattle.json_read.specs.wholes.Reads.{ReadsAs}
use Rattle.values_json.proofs.reading.answered.Goals as goal

pub returns-in-Err : goal.returns-in-Err
returns-in-Err c = λ of v h. c.refused.ensures of (subst (λ (r : Result Value Refusal). ReadsAs of v r) c.in-Err.is h)

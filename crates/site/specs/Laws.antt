-- Why a site's units are plain, and keep all records in range: they do what the tables say.
use Rattle.std.specs.Prelude.{refl}
use Rattle.unit_defs.specs.octet_defs.Codec.{Codec}
use Rattle.run_defs.specs.UnitRuns.{Meaning, tables}
use Rattle.run_defs.specs.plain_defs.Plain.{KeepRange, IsPlain}

-- all records are in range
pub all_in_range : (answer : Meaning) → KeepRange answer (λ _. Unit {0})
all_in_range answer = record {
  begins = tt;
  comes = λ r plan planned there. tt;
  places = λ r plan planned new room teids there. tt;
  answers = λ r after node input outputs there given is. tt;
}

pub tables_alike : (codec : Codec) → IsPlain codec (tables codec) (λ _. Unit {0})
tables_alike codec = λ r node input there given. refl

-- Questions after others.
use Rattle.std.specs.Prelude.{◌≡◌, Result, Ok, Err}
use Rattle.aper_defs.specs.Values.{Value}
use Rattle.aper_defs.specs.Fields.{Path}
use Rattle.aper_defs.specs.Questions.{Prog, done, ask, never}
use Rattle.aper_defs.specs.Questions as questions
use Rattle.aper_defs.specs.Reading.{Cursor, Fault, run}

-- what is asked, and after its value what is asked then
unfoldable pub followed : Prog → (Value → Prog) → Prog
followed (done v) K = K v
followed (ask p question next) K = ask p question (λ n. followed (next n) K)
followed (questions.take p unit count next) K = questions.take p unit count (λ units. followed (next units) K)
followed never K = never

-- on from a value, at the place after it
abbrev pub onward : Result (Value × Cursor) Fault → (Value → Prog) → Result (Value × Cursor) Fault
onward (Ok (v, c)) K = run (K v) c
onward (Err fault) K = Err fault

-- It is the same whether something is asked inside what comes after a question, or after all of that.
abbrev pub IsPlain : {A : Type 0} → (Path → (A → Prog) → Prog) → Type 0
IsPlain {A} question = (p : Path) (J : A → Prog) (K : Value → Prog) → followed (question p J) K ≡ question p (λ x. followed (J x) K)

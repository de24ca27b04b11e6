-- Fields that stand at a place, one after another.
use Rattle.std.proofs.Common.{◌≡◌, ℕ, ◌*◌, cond, List, [], ◌∷◌, ◌++◌, length, Bool, true, false, Ok, refl, sym, ap, ◌∙◌}
use Rattle.aper_defs.specs.Fields.{Path, Ask, RunUnit, Field, asked, run as run_field}
use Rattle.aper_defs.specs.Bits.{unit_width}
use Rattle.aper_defs.specs.Questions.{Prog, ask, take}
use Rattle.aper_defs.specs.Reading.{Cursor, read, read_units, run, goes_on, answered_at, moved_by, after_field}

-- the field stands at the place
abbrev pub Stands : Field → Cursor → Type 0
Stands (asked p question n) c = read question c ≡ Ok n
Stands (run_field p unit units) c = read_units unit (length units) c ≡ Ok units

abbrev pub after_all : List Field → Cursor → Cursor
after_all [] c = c
after_all (f ∷ fs) c = after_all fs (after_field f c)

abbrev pub StandAll : List Field → Cursor → Type 0
StandAll [] c = Unit {0}
StandAll (f ∷ fs) c = Stands f c × StandAll fs (after_field f c)

pub StandAll-append : (a b : List Field) (c : Cursor) → StandAll (a ++ b) c → StandAll a c × StandAll b (after_all a c)
StandAll-append [] b c s = (tt, s)
StandAll-append (f ∷ a) b c s = let rest = StandAll-append a b (after_field f c) s.1 in ((s.0, rest.0), rest.1)

pub after_all-append : (a b : List Field) (c : Cursor) → after_all (a ++ b) c ≡ after_all b (after_all a c)
after_all-append [] b c = refl
after_all-append (f ∷ a) b c = after_all-append a b (after_field f c)

-- a question whose answer stands there
pub answered : (p : Path) (question : Ask) (next : ℕ → Prog) (c : Cursor) (n : ℕ) → read question c ≡ Ok n
    → run (ask p question next) c ≡ run (next n) (answered_at question n c)
unfolding run
answered p question next c n e = ap (λ r. goes_on p c r (λ m. run (next m) (answered_at question m c))) e

pub taken : (p : Path) (unit : RunUnit) (next : List ℕ → Prog) (c : Cursor) (units : List ℕ) → read_units unit (length units) c ≡ Ok units
    → run (take p unit (length units) next) c ≡ run (next units) (after_field (run_field p unit units) c)
unfolding run
taken p unit next c units e =
    ap (λ r. goes_on p c r (λ xs. run (next xs) (moved_by (unit_width unit * length units) c))) e

-- these fields lead from what is asked to what is asked after them
abbrev pub Leads : List Field → Prog → Prog → Cursor → Type 0
Leads fs P Q c = StandAll fs c → run P c ≡ run Q (after_all fs c)

pub both : (a b : List Field) (P Q R : Prog) (c : Cursor) → Leads a P Q c → Leads b Q R (after_all a c) → Leads (a ++ b) P R c
both a b P Q R c first second s =
    let parts = StandAll-append a b c s in
    first parts.0 ∙ second parts.1 ∙ ap (run R) (sym (after_all-append a b c))

-- nothing is asked, and no field stands there
pub nothing : (P Q : Prog) (c : Cursor) → P ≡ Q → Leads [] P Q c
nothing P Q c e s = ap (λ R. run R c) e

-- what is asked is another one
pub asked_so : (fs : List Field) (P P' Q : Prog) (c : Cursor) → P ≡ P' → Leads fs P' Q c → Leads fs P Q c
asked_so fs P P' Q c e leads s = ap (λ R. run R c) e ∙ leads s

pub asks_on : (fs : List Field) (P Q Q' : Prog) (c : Cursor) → Leads fs P Q c → Q ≡ Q' → Leads fs P Q' c
asks_on fs P Q Q' c leads e s = leads s ∙ ap (λ R. run R (after_all fs c)) e

-- one question, and a question after a pad
pub one : (p : Path) (question : Ask) (n : ℕ) (K : ℕ → Prog) (c : Cursor) → Leads (asked p question n ∷ []) (ask p question K) (K n) c
one p question n K c s = answered p question K c n s.0

-- the fields of the branch that a test takes
pub by_test : (b : Bool) (x y : List Field) (P Q R : Prog) (c : Cursor) → Leads x P R c → Leads y Q R c
    → Leads (cond b x y) (cond b P Q) R c
by_test true x y P Q R c first second = first
by_test false x y P Q R c first second = second

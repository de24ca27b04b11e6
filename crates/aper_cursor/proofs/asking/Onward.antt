-- What is asked goes on after an answer that stands there.
use Rattle.std.proofs.Common.{◌≡◌, ℕ, ◌+◌, ◌*◌, ◌≤◌, List, [], ◌∷◌, ◌++◌, length, Bool, true, Option, None, Some, Result, Ok, Err, refl, sym, ap, subst, ◌∙◌, arith, length-append}
use Rattle.std.specs.Prelude.{ℤ, pos, ◌+ℤ◌}
use Rattle.std.specs.Int.Signed.{le_z}
use Rattle.std.proofs.lemmas.Int.{ints}
use Rattle.aper_defs.specs.Numbers.{above}
use Rattle.asn1_syntax.specs.declared.types.definition.Size.{Size}
use Rattle.aper_defs.specs.declared.reason.Reason.{Reason}
use Rattle.aper_defs.specs.Fields.{Path, Ask, RunUnit, bit, octet, pad, opening}
use Rattle.aper_defs.specs.Bits.{unit_width}
use Rattle.aper_defs.specs.Questions.{Prog, ask, take, ask_aligned, ask_extension, ask_index, ask_index_by, ask_integer, ask_integer_by, ask_count, ask_count_by}
use Rattle.aper_defs.specs.Reading.{Cursor, Fault, passes, bit_limit, read, read_units, units_within, run, goes_on, answered_at, moved_by}
use Rattle.proof_aper.proofs.answers.Standing.{answered}
use Rattle.proof_aper.proofs.values.Found.{Answered, answer_read, taken_limit}
use Rattle.proof_aper.proofs.values.FoundBits.{written}
use Rattle.aper_cursor.specs.declared.error.Unanswered.{Unanswered}
use Rattle.aper_cursor.specs.declared.error.Unanswered.TheVariants.{Wrong, Memory}
use Rattle.aper_cursor.specs.Answers.{AnswersOrMemory, TakesRun, ReadsRun}
use Rattle.aper_cursor.specs.asking.Going.{fault_at, GoesOn, GoesOnOrMemory, PutsOn}

pub asked_on : (question : Ask) (old new : Cursor) (n : ℕ) → read question old ≡ Ok n → new ≡ answered_at question n old
    → (p : Path) (K : ℕ → Prog) → run (ask p question K) old ≡ run (K n) new
asked_on question old new n e moves p K = answered p question K old n e ∙ ap (run (K n)) (sym moves)

pub asked_wrong : (question : Ask) (old new : Cursor) (reason : Reason) → read question old ≡ Err reason → new ≡ old
    → (p : Path) (K : ℕ → Prog) → run (ask p question K) old ≡ Err (fault_at new reason p)
unfolding run
asked_wrong question old new reason e stays p K =
    ap (λ r. goes_on p old r (λ n. run (K n) (answered_at question n old))) e
    ∙ ap (λ (c : Cursor). Err (fault_at c reason p)) (sym stays)

pub asked_later : (question : Ask) (old new : Cursor) (n : ℕ) → new ≡ answered_at question n old → old.place ≤ new.place
asked_later question old new n moves = omega (arith, ap (λ (c : Cursor). c.place) moves)

pub asked_limit : (question : Ask) (old new : Cursor) (n : ℕ) → read question old ≡ Ok n → new ≡ answered_at question n old
    → new.place ≤ bit_limit
asked_limit question old new n e moves =
    let a : Answered question old n = answer_read question old n e in
    omega (arith, ap (λ (c : Cursor). c.place) moves, (written question old n a).0, taken_limit old _ a.room)

-- ---- runs
pub run_on : (unit : RunUnit) (count : ℕ) (old new : Cursor) (before after : List ℕ) → TakesRun unit count old new before after
    → (p : Path) (K : List ℕ → Prog) → run (take p unit count (λ units. K (before ++ units))) old ≡ run (K after) new
unfolding run
run_on unit count old new before after t p K =
    ap (λ r. goes_on p old r (λ units. run (K (before ++ units)) (moved_by (unit_width unit * count) old))) t.stand
    ∙ ap (λ (units : List ℕ). run (K units) (moved_by (unit_width unit * count) old)) (sym t.put)
    ∙ ap (run (K after)) (sym t.moves)

pub run_wrong : (unit : RunUnit) (count : ℕ) (old new : Cursor) (reason : Reason) → read_units unit count old ≡ Err reason → new ≡ old
    → (p : Path) (K : List ℕ → Prog) → run (take p unit count K) old ≡ Err (fault_at new reason p)
unfolding run
run_wrong unit count old new reason e stays p K =
    ap (λ r. goes_on p old r (λ units. run (K units) (moved_by (unit_width unit * count) old))) e
    ∙ ap (λ (c : Cursor). Err (fault_at c reason p)) (sym stays)

pub run_size : (unit : RunUnit) (count : ℕ) (old new : Cursor) (before after : List ℕ) → TakesRun unit count old new before after
    → length after ≡ length before + count
run_size unit count old new before after t = omega (arith, ap length t.put, length-append before t.units, t.size)

pub run_later : (unit : RunUnit) (count : ℕ) (old new : Cursor) (before after : List ℕ) → TakesRun unit count old new before after
    → old.place + count ≤ new.place
run_later bit count old new before after t = omega (arith, ap (λ (c : Cursor). c.place) t.moves)
run_later octet count old new before after t = omega (arith, ap (λ (c : Cursor). c.place) t.moves)

pub run_limit : (unit : RunUnit) (count : ℕ) (old new : Cursor) (before after : List ℕ) → TakesRun unit count old new before after
    → new.place ≤ bit_limit
unfolding read_units
run_limit unit count old new before after t =
    omega (arith, ap (λ (c : Cursor). c.place) t.moves, go (passes old (unit_width unit * count)) refl t.stand)
  where
    go : (r : Option Reason) → passes old (unit_width unit * count) ≡ r → units_within unit count old r ≡ Ok t.units
        → old.place + unit_width unit * count ≤ bit_limit
    go None is h = taken_limit old (unit_width unit * count) is
    go (Some reason) is h = cc

-- ---- what isn't answered
pub run_refused : (unit : RunUnit) (count : ℕ) (old new : Cursor) (before after : List ℕ) (e : Unanswered)
    → ReadsRun unit count old new before after (Err e) → PutsOn (λ p. take p unit count) old new before after (Err e)
run_refused unit count old new before after (Wrong reason) h =
    λ p K. run_wrong unit count old new reason h.0 h.1 p (λ units. K (before ++ units))
run_refused unit count old new before after Memory h = tt

pub opening_refused : (old mid new : Cursor) (z : ℕ) (e : Unanswered) → ((p : Path) (J : ℕ → Prog) → run (ask p pad J) old ≡ run (J z) mid)
    → AnswersOrMemory opening mid new (Err e) → GoesOnOrMemory (λ p. ask_aligned p opening) old new (Err e)
opening_refused old mid new z (Wrong reason) asked h =
    λ p K. asked p (λ y. ask p opening K) ∙ asked_wrong opening mid new reason h.0 h.1 p K
opening_refused old mid new z Memory asked h = tt

-- ---- after an extension bit
pub extension_as : (P : Prog) (p : Path) (extensible : Bool) (by : Bool → Prog) (old mid : Cursor) (b d : Bool)
    → P ≡ ask_extension p extensible by
    → ((q : Path) (J : Bool → Prog) → run (ask_extension q extensible J) old ≡ run (J b) mid) → b ≡ d
    → run P old ≡ run (by d) mid
extension_as P p extensible by old mid b d e asked h =
    ap (λ Q. run Q old) e ∙ asked p by ∙ ap (λ (x : Bool). run (by x) mid) h

pub index_as : (p : Path) (count : ℕ) (extensible : Bool) (K : ℕ → Prog)
    → ask_index p count extensible K ≡ ask_extension p extensible (ask_index_by p count K)
unfolding ask_index
index_as p count extensible K = refl

pub integer_as : (p : Path) (low high : ℤ) (extensible : Bool) (K : ℤ → Prog)
    → ask_integer p low high extensible K ≡ ask_extension p extensible (ask_integer_by p low high K)
unfolding ask_integer
integer_as p low high extensible K = refl

pub count_as : (p : Path) (size : Size) (K : ℕ → Prog)
    → ask_count p (Some size) K ≡ ask_extension p size.extensible (ask_count_by p size K)
unfolding ask_count
count_as p size K = refl

-- what is asked after others
pub goes_after : {A : Type 0} (r : Result A Reason) (P Q : Path → (A → Prog) → Prog) (old mid new : Cursor)
    → ((p : Path) (K : A → Prog) → run (P p K) old ≡ run (Q p K) mid) → GoesOn Q mid new r → GoesOn P old new r
goes_after (Ok x) P Q old mid new e h = λ p K. e p K ∙ h p K
goes_after (Err reason) P Q old mid new e h = λ p K. e p K ∙ h p K

-- a number of a range isn't past its end
pub low_fits : (low high : ℤ) (n : ℕ) → le_z low high ≡ true → n ≤ above low high → le_z (low +ℤ pos n) high ≡ true
low_fits low high n h k = grind (arith, ints)

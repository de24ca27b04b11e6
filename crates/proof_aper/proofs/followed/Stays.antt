-- What is asked goes on with the same answer when more octets come.
use Rattle.std.proofs.Common.{◌≡◌, ℕ, ◌*◌, List, Result, Ok, Err, refl, sym, ap, ◌∙◌}
use mathlib.Core.Path.{fun_ext}
use Rattle.aper_defs.specs.declared.reason.Reason.{Reason}
use Rattle.aper_defs.specs.Values.{Value}
use Rattle.aper_defs.specs.Fields.{Path}
use Rattle.aper_defs.specs.Questions.{Prog, done, ask, never}
use Rattle.aper_defs.specs.Questions as questions
use Rattle.aper_defs.specs.Bits.{unit_width}
use Rattle.aper_defs.specs.Reading.{Cursor, run, goes_on, read, read_units, answered_at, moved_by}
use Rattle.proof_aper.specs.pieces.Onto.{onto}
use Rattle.proof_aper.proofs.pieces.Onward.{run_ok}
use Rattle.proof_aper.specs.followed.Followed.{followed, onward, IsPlain}

pub run_followed : (P : Prog) (K : Value → Prog) (c : Cursor) → run (followed P K) c ≡ onward (run P c) K
unfolding run followed
run_followed (done v) K c = refl
run_followed (ask p q next) K c = go (read q c) (λ n. run_followed (next n) K (answered_at q n c))
  where
    go : (r : Result ℕ Reason)
        → ((n : ℕ) → run (followed (next n) K) (answered_at q n c) ≡ onward (run (next n) (answered_at q n c)) K)
        → goes_on p c r (λ n. run (followed (next n) K) (answered_at q n c))
        ≡ onward (goes_on p c r (λ n. run (next n) (answered_at q n c))) K
    go (Ok n) inner = inner n
    go (Err reason) inner = refl
run_followed (questions.take p unit count next) K c =
    go (read_units unit count c) (λ us. run_followed (next us) K (moved_by (unit_width unit * count) c))
  where
    go : (r : Result (List ℕ) Reason)
        → ((us : List ℕ) → run (followed (next us) K) (moved_by (unit_width unit * count) c)
        ≡ onward (run (next us) (moved_by (unit_width unit * count) c)) K)
        → goes_on p c r (λ us. run (followed (next us) K) (moved_by (unit_width unit * count) c))
        ≡ onward (goes_on p c r (λ us. run (next us) (moved_by (unit_width unit * count) c))) K
    go (Ok us) inner = inner us
    go (Err reason) inner = refl
run_followed never K c = refl

-- a question whose answer can be told as a value, and heard again
pub record Told {A : Type 0} (question : Path → (A → Prog) → Prog) : Type 0 where
  pub plain : IsPlain question
  pub tell : A → Value
  pub heard : Value → A
  pub same : (x : A) → heard (tell x) ≡ x

module _ {A : Type 0} (question : Path → (A → Prog) → Prog) (t : Told question) where
  through : (p : Path) (K : A → Prog) → question p K ≡ followed (question p (λ x. done (t.tell x))) (λ v. K (t.heard v))
  unfolding followed
  through p K =
      ap (question p) (fun_ext (λ (x : A). ap K (sym (t.same x))))
      ∙ sym (t.plain p (λ x. done (t.tell x)) (λ v. K (t.heard v)))

  -- An answer that goes on, whatever is asked then, does so when more octets come.
  pub stays : (old new : Cursor) (x : A) → ((p : Path) (K : A → Prog) → run (question p K) old ≡ run (K x) new)
      → (more : List ℕ) (p : Path) (K : A → Prog) → run (question p K) (onto more old) ≡ run (K x) (onto more new)
  unfolding run
  stays old new x asked more p K =
      let later = run_ok (question p (λ y. done (t.tell y))) old more (t.tell x) new (asked p (λ y. done (t.tell y))) in
      ap (λ (P : Prog). run P (onto more old)) (through p K)
      ∙ run_followed (question p (λ y. done (t.tell y))) (λ v. K (t.heard v)) (onto more old)
      ∙ ap (λ r. onward r (λ v. K (t.heard v))) later
      ∙ ap (λ (y : A). run (K y) (onto more new)) (t.same x)

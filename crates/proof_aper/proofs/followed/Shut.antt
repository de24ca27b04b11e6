-- What is asked leaves the octets as they are.
use Rattle.std.proofs.Common.{◌≡◌, ℕ, ◌*◌, List, [], Result, Ok, Err, sym, ap}
use Rattle.aper_defs.specs.declared.reason.Reason.{Reason}
use Rattle.aper_defs.specs.Values.{Value}
use Rattle.aper_defs.specs.Fields.{Path}
use Rattle.aper_defs.specs.Questions.{Prog, done, ask, never}
use Rattle.aper_defs.specs.Questions as questions
use Rattle.aper_defs.specs.Bits.{unit_width}
use Rattle.aper_defs.specs.Reading.{Cursor, Fault, run, goes_on, read, read_units, answered_at, moved_by}
use Rattle.proof_aper.proofs.followed.Stays.{Told}

pub octets_kept : (P : Prog) (c : Cursor) (v : Value) (d : Cursor) → run P c ≡ Ok (v, d) → d.octets ≡ c.octets
unfolding run
octets_kept (done x) c v d e =
    let g : (let a : Value × Cursor = (x, c) in a) ≡ (v, d) = cc in sym (ap (λ (z : Value × Cursor). z.1.octets) g)
octets_kept (ask p q next) c v d e = go (read q c) e (λ n h. octets_kept (next n) (answered_at q n c) v d h)
  where
    go : (r : Result ℕ Reason) → goes_on p c r (λ n. run (next n) (answered_at q n c)) ≡ Ok (v, d)
        → ((n : ℕ) → run (next n) (answered_at q n c) ≡ Ok (v, d) → d.octets ≡ c.octets) → d.octets ≡ c.octets
    go (Ok n) h inner = inner n h
    go (Err reason) h inner = cc
octets_kept (questions.take p unit count next) c v d e =
    go (read_units unit count c) e (λ us h. octets_kept (next us) (moved_by (unit_width unit * count) c) v d h)
  where
    go : (r : Result (List ℕ) Reason) → goes_on p c r (λ us. run (next us) (moved_by (unit_width unit * count) c)) ≡ Ok (v, d)
        → ((us : List ℕ) → run (next us) (moved_by (unit_width unit * count) c) ≡ Ok (v, d) → d.octets ≡ c.octets) → d.octets ≡ c.octets
    go (Ok us) h inner = inner us h
    go (Err reason) h inner = cc
octets_kept never c v d e = cc

pub keeps : {A : Type 0} (question : Path → (A → Prog) → Prog) (t : Told question) (old new : Cursor) (x : A)
    → ((p : Path) (K : A → Prog) → run (question p K) old ≡ run (K x) new) → new.octets ≡ old.octets
unfolding run
keeps question t old new x asked =
    octets_kept (question [] (λ y. done (t.tell y))) old (t.tell x) new (asked [] (λ y. done (t.tell y)))

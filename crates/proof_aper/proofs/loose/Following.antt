-- Fields that answer what is asked, one after another, as far as they agree with the octets from a place on.
use Rattle.std.proofs.Common.{◌≡◌, ℕ, ◌≤◌, cond, List, [], ◌∷◌, ◌++◌, length, Bool, true, false, refl, sym, subst}
use Rattle.aper_defs.specs.Fields.{Path, Ask, RunUnit, Field, asked, run as run_field}
use Rattle.aper_defs.specs.Questions.{Prog, ask, take}
use Rattle.aper_defs.specs.Reading.{Cursor, bit_limit, after_field}
use Rattle.aper_defs.specs.loose_defs.Wrong.{Agrees, AllAgree, place_after}

-- this field is an answer to what is asked first, and this is so of what is asked then
abbrev pub IsAnswer : Field → Prog → (Prog → Type 0) → Type 0
IsAnswer (asked p question n) P Then = (next : ℕ → Prog) × (P ≡ ask p question next) × Then (next n)
IsAnswer (run_field p unit units) P Then = (next : List ℕ → Prog) × (P ≡ take p unit (length units) next) × Then (next units)

-- These fields answer what is asked, and lead to what is asked after them; past the greatest length of an encoding they are free.
unfoldable pub Follow : List Field → Prog → Prog → Cursor → Type 0
Follow [] P Q c = P ≡ Q
Follow (f ∷ fs) P Q c = c.place ≤ bit_limit → IsAnswer f P (λ R. Agrees f c → Follow fs R Q (after_field f c))

-- ---- of fields that agree
pub agree-append : (a b : List Field) (c : Cursor) → AllAgree (a ++ b) c → AllAgree a c × AllAgree b (place_after a c)
agree-append [] b c s = (tt, s)
agree-append (f ∷ a) b c s = let rest = agree-append a b (after_field f c) s.1 in ((s.0, rest.0), rest.1)

pub agree_both : (a b : List Field) (c : Cursor) → AllAgree a c → AllAgree b (place_after a c) → AllAgree (a ++ b) c
agree_both [] b c s r = r
agree_both (f ∷ a) b c s r = (s.0, agree_both a b (after_field f c) s.1 r)

pub place_after-append : (a b : List Field) (c : Cursor) → place_after (a ++ b) c ≡ place_after b (place_after a c)
place_after-append [] b c = refl
place_after-append (f ∷ a) b c = place_after-append a b (after_field f c)

-- ---- one after another
answer_then : (f : Field) (P : Prog) (T U : Prog → Type 0) → ((R : Prog) → T R → U R) → IsAnswer f P T → IsAnswer f P U
answer_then (asked p question n) P T U h a = (a.0, a.1, h (a.0 n) a.2)
answer_then (run_field p unit units) P T U h a = (a.0, a.1, h (a.0 units) a.2)

pub both : (a b : List Field) (P Q R : Prog) (c : Cursor) → Follow a P Q c → Follow b Q R (place_after a c) → Follow (a ++ b) P R c
unfolding Follow
both [] b P Q R c first second = subst (λ (S : Prog). Follow b S R c) (sym first) second
both (f ∷ a) b P Q R c first second = λ here. answer_then f P (λ S. Agrees f c → Follow a S Q (after_field f c))
    (λ S. Agrees f c → Follow (a ++ b) S R (after_field f c)) (λ S then agrees. both a b S Q R (after_field f c) (then agrees) second) (first here)

pub nothing : (P Q : Prog) (c : Cursor) → P ≡ Q → Follow [] P Q c
unfolding Follow
nothing P Q c e = e

pub asked_so : (fs : List Field) (P P' Q : Prog) (c : Cursor) → P ≡ P' → Follow fs P' Q c → Follow fs P Q c
asked_so fs P P' Q c e leads = subst (λ (S : Prog). Follow fs S Q c) (sym e) leads

pub asks_on : (fs : List Field) (P Q Q' : Prog) (c : Cursor) → Follow fs P Q c → Q ≡ Q' → Follow fs P Q' c
asks_on fs P Q Q' c leads e = subst (λ (S : Prog). Follow fs P S c) e leads

pub fields_so : (fs gs : List Field) (P Q : Prog) (c : Cursor) → fs ≡ gs → Follow gs P Q c → Follow fs P Q c
fields_so fs gs P Q c e leads = subst (λ (xs : List Field). Follow xs P Q c) (sym e) leads

-- ---- one question, a run, and a question after a pad
pub one : (p : Path) (question : Ask) (n : ℕ) (K : ℕ → Prog) (c : Cursor) → Follow (asked p question n ∷ []) (ask p question K) (K n) c
unfolding Follow
one p question n K c = λ here. (K, refl, λ agrees. refl)

-- a question, and what comes after it
pub then_on : (p : Path) (question : Ask) (n : ℕ) (fs : List Field) (K : ℕ → Prog) (Q : Prog) (c : Cursor)
    → Follow fs (K n) Q (after_field (asked p question n) c) → Follow (asked p question n ∷ fs) (ask p question K) Q c
unfolding Follow
then_on p question n fs K Q c leads = λ here. (K, refl, λ agrees. leads)

pub taken : (p : Path) (unit : RunUnit) (units : List ℕ) (K : List ℕ → Prog) (c : Cursor)
    → Follow (run_field p unit units ∷ []) (take p unit (length units) K) (K units) c
unfolding Follow
taken p unit units K c = λ here. (K, refl, λ agrees. refl)

-- the fields of the branch that a test takes
pub by_test : (b : Bool) (x y : List Field) (P Q R : Prog) (c : Cursor) → Follow x P R c → Follow y Q R c
    → Follow (cond b x y) (cond b P Q) R c
by_test true x y P Q R c first second = first
by_test false x y P Q R c first second = second

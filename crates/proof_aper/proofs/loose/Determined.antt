-- What loose layouts that agree as far have next, and what the questions find there.
use Rattle.std.proofs.Common.{◌≡◌, ℕ, ◌*◌, ◌≤◌, List, [], ◌∷◌, ◌++◌, length, None, Some, Option, Ok, Err, refl, sym, ap, subst, ◌∙◌, arith}
use Rattle.aper_defs.specs.declared.reason.Reason.{Reason}
use Rattle.aper_defs.specs.Fields.{Path, Ask, RunUnit, Field, flag, bit, asked, run as run_field}
use Rattle.aper_defs.specs.Bits.{unit_width}
use Rattle.aper_defs.specs.Questions.{Prog, done, ask, take, never}
use Rattle.aper_defs.specs.Reading.{Cursor, bit_limit, passes, asked_width, answered_at, moved_by, after_field, goes_on, read, read_units, units_within, run}
use Rattle.proof_aper.proofs.answers.Standing.{answered, taken}
use Rattle.proof_aper.proofs.values.Found.{Answered, answer_read, taken_limit}
use Rattle.proof_aper.proofs.values.FoundBits.{written}
use Rattle.aper_defs.specs.loose_defs.Wrong.{Agrees, AllAgree, place_after, IsWrongFor, way_of, AreOfKind}
use Rattle.proof_aper.proofs.loose.Following.{IsAnswer, Follow}

-- ---- a field that agrees ends within the limit
units_room : (unit : RunUnit) (count : ℕ) (c : Cursor) (units : List ℕ) → read_units unit count c ≡ Ok units
    → passes c (unit_width unit * count) ≡ None
unfolding read_units
units_room unit count c units e = go (passes c (unit_width unit * count)) refl e
  where
    go : (r : Option Reason) → passes c (unit_width unit * count) ≡ r → units_within unit count c r ≡ Ok units
        → passes c (unit_width unit * count) ≡ None
    go None is h = is
    go (Some reason) is h = cc

pub limit_after : (f : Field) (c : Cursor) → Agrees f c → (after_field f c).place ≤ bit_limit
limit_after (asked p question n) c s =
    let a : Answered question c n = answer_read question c n s in
    let wide = written question c n a in
    omega (arith, taken_limit c (asked_width question c) a.room, wide.0)
limit_after (run_field p unit units) c s = taken_limit c (unit_width unit * length units) (units_room unit (length units) c units s)

-- ---- two answers to one question
abbrev pub question_in : Prog → Ask
question_in (done v) = flag
question_in (ask p question next) = question
question_in (take p unit count next) = flag
question_in never = flag

abbrev pub way_in : Prog → Path
way_in (done v) = []
way_in (ask p question next) = p
way_in (take p unit count next) = p
way_in never = []

abbrev pub answer_in : Prog → ℕ → Prog
answer_in (done v) = λ n. never
answer_in (ask p question next) = next
answer_in (take p unit count next) = λ n. never
answer_in never = λ n. never

abbrev pub unit_in : Prog → RunUnit
unit_in (done v) = bit
unit_in (ask p question next) = bit
unit_in (take p unit count next) = unit
unit_in never = bit

abbrev pub count_in : Prog → ℕ
count_in (done v) = 0
count_in (ask p question next) = 0
count_in (take p unit count next) = count
count_in never = 0

abbrev pub units_in : Prog → List ℕ → Prog
units_in (done v) = λ us. never
units_in (ask p question next) = λ us. never
units_in (take p unit count next) = next
units_in never = λ us. never

abbrev pub is_ask : Prog → ℕ
is_ask (done v) = 0
is_ask (ask p question next) = 1
is_ask (take p unit count next) = 2
is_ask never = 3

pub not_both : (p p' : Path) (question : Ask) (next : ℕ → Prog) (unit : RunUnit) (count : ℕ) (more : List ℕ → Prog)
    → ask p question next ≡ take p' unit count more → ⊥
not_both p p' question next unit count more e = let g : is_ask (ask p question next) ≡ is_ask (take p' unit count more) = ap is_ask e in absurd (omega (arith, g))

of_kind : (f g : Field) (P : Prog) (T U : Prog → Type 0) → IsAnswer f P T → IsAnswer g P U → AreOfKind f g
of_kind (asked p question n) (asked p' question' n') P T U a b =
    let e = sym a.1 ∙ b.1 in (ap way_in e, ap question_in e)
of_kind (asked p question n) (run_field p' unit units) P T U a b =
    absurd (not_both p p' question a.0 unit (length units) b.0 (sym a.1 ∙ b.1))
of_kind (run_field p unit units) (asked p' question n) P T U a b =
    absurd (not_both p' p question b.0 unit (length units) a.0 (sym b.1 ∙ a.1))
of_kind (run_field p unit units) (run_field p' unit' units') P T U a b =
    let e = sym a.1 ∙ b.1 in (ap way_in e, ap unit_in e, ap count_in e)

same_number : (question question' : Ask) (c : Cursor) (n n' : ℕ) → question ≡ question' → read question c ≡ Ok n → read question' c ≡ Ok n'
    → n ≡ n'
same_number question question' c n n' e r s = cc

same_units : (unit unit' : RunUnit) (count count' : ℕ) (c : Cursor) (us vs : List ℕ) → unit ≡ unit' → count ≡ count'
    → read_units unit count c ≡ Ok us → read_units unit' count' c ≡ Ok vs → us ≡ vs
same_units unit unit' count count' c us vs e f r s = cc

one_field : (f g : Field) (c : Cursor) → AreOfKind f g → Agrees f c → Agrees g c → f ≡ g
one_field (asked p question n) (asked p' question' n') c k r s =
    let e : n ≡ n' = same_number question question' c n n' k.1 r s in
    ap (λ (x : Path). asked x question n) k.0 ∙ ap (λ (x : Ask). asked p' x n) k.1 ∙ ap (λ (x : ℕ). asked p' question' x) e
one_field (asked p question n) (run_field p' unit units) c k r s = absurd k
one_field (run_field p unit units) (asked p' question n) c k r s = absurd k
one_field (run_field p unit units) (run_field p' unit' units') c k r s =
    let e : units ≡ units' = same_units unit unit' (length units) (length units') c units units' k.1 k.2 r s in
    ap (λ (x : Path). run_field x unit units) k.0 ∙ ap (λ (x : RunUnit). run_field p' x units) k.1
    ∙ ap (λ (x : List ℕ). run_field p' unit' x) e

-- a right answer, and a wrong one
not_wrong_too : (f g : Field) (c : Cursor) (reason : Reason) → AreOfKind f g → IsWrongFor f c reason → Agrees g c → ⊥
not_wrong_too (asked p question n) (asked p' question' n') c reason k r s = clash question question' k.1 r s
  where
    clash : (q q' : Ask) → q ≡ q' → read q c ≡ Err reason → read q' c ≡ Ok n' → ⊥
    clash q q' e r s = cc
not_wrong_too (asked p question n) (run_field p' unit units) c reason k r s = absurd k
not_wrong_too (run_field p unit units) (asked p' question n) c reason k r s = absurd k
not_wrong_too (run_field p unit units) (run_field p' unit' units') c reason k r s = clash unit unit' (length units) (length units') k.1 k.2 r s
  where
    clash : (u u' : RunUnit) (m m' : ℕ) → u ≡ u' → m ≡ m' → read_units u m c ≡ Err reason → read_units u' m' c ≡ Ok units' → ⊥
    clash u u' m m' e f r s = cc

-- what is asked after one field, by two ways to it
meet : (f : Field) (P : Prog) (T U : Prog → Type 0) → IsAnswer f P T → IsAnswer f P U → (R : Prog) × T R × U R
meet (asked p question n) P T U a b = (a.0 n, a.2, subst (λ (next : ℕ → Prog). U (next n)) (ap answer_in (sym b.1 ∙ a.1)) b.2)
meet (run_field p unit units) P T U a b =
    (a.0 units, a.2, subst (λ (next : List ℕ → Prog). U (next units)) (ap units_in (sym b.1 ∙ a.1)) b.2)

-- ---- loose layouts that agree as far
-- two lists of fields that follow the same questions from a place within the limit
pub record Together (fs gs : List Field) (P Q Q' : Prog) (c : Cursor) : Type 0 where
  pub limit : c.place ≤ bit_limit
  pub one : Follow fs P Q c
  pub other : Follow gs P Q' c

further : (f g : Field) (fs gs : List Field) (P Q Q' : Prog) (c : Cursor) → Together (f ∷ fs) (g ∷ gs) P Q Q' c → Agrees f c → Agrees g c
    → (f ≡ g) × (R : Prog) × Together fs gs R Q Q' (after_field f c)
unfolding Follow
further f g fs gs P Q Q' c h r s =
    let k : AreOfKind f g = of_kind f g P _ _ (h.one h.limit) (h.other h.limit) in
    let e : f ≡ g = one_field f g c k r s in
    let other : Follow (f ∷ gs) P Q' c = subst (λ (x : Field). Follow (x ∷ gs) P Q' c) (sym e) h.other in
    let m = meet f P (λ R. Agrees f c → Follow fs R Q (after_field f c)) (λ R. Agrees f c → Follow gs R Q' (after_field f c))
    (h.one h.limit) (other h.limit) in
    (e, m.0, record { limit = limit_after f c r; one = m.1 r; other = m.2 r })

pub next_is : (fs gs : List Field) (x y : Field) (xs ys : List Field) (P Q Q' : Prog) (c : Cursor)
    → Together (fs ++ x ∷ xs) (gs ++ y ∷ ys) P Q Q' c → AllAgree fs c → AllAgree gs c → length fs ≡ length gs
    → (fs ≡ gs) × AreOfKind x y
unfolding Follow
next_is [] [] x y xs ys P Q Q' c h r s e = (refl, of_kind x y P _ _ (h.one h.limit) (h.other h.limit))
next_is [] (g ∷ gs) x y xs ys P Q Q' c h r s e = absurd (omega (arith, e))
next_is (f ∷ fs) [] x y xs ys P Q Q' c h r s e = absurd (omega (arith, e))
next_is (f ∷ fs) (g ∷ gs) x y xs ys P Q Q' c h r s e =
    let m = further f g (fs ++ x ∷ xs) (gs ++ y ∷ ys) P Q Q' c h r.0 s.0 in
    let size : length fs ≡ length gs = omega (arith, e) in
    let others : AllAgree gs (after_field f c) = subst (λ (z : Field). AllAgree gs (after_field z c)) (sym m.0) s.1 in
    let n = next_is fs gs x y xs ys m.1 Q Q' (after_field f c) m.2 r.1 others size in
    (ap (λ (z : Field). z ∷ fs) m.0 ∙ ap (λ (zs : List Field). g ∷ zs) n.0, n.1)

pub no_further : (fs gs : List Field) (x : Field) (xs more : List Field) (P Q Q' : Prog) (c : Cursor) (reason : Reason)
    → Together (fs ++ x ∷ xs) (gs ++ more) P Q Q' c → AllAgree fs c → IsWrongFor x (place_after fs c) reason → AllAgree gs c
    → length gs ≤ length fs
unfolding Follow
no_further fs [] x xs more P Q Q' c reason h r w s = omega arith
no_further [] (g ∷ gs) x xs more P Q Q' c reason h r w s =
    absurd (not_wrong_too x g c reason (of_kind x g P _ _ (h.one h.limit) (h.other h.limit)) w s.0)
no_further (f ∷ fs) (g ∷ gs) x xs more P Q Q' c reason h r w s =
    let m = further f g (fs ++ x ∷ xs) (gs ++ more) P Q Q' c h r.0 s.0 in
    let others : AllAgree gs (after_field f c) = subst (λ (z : Field). AllAgree gs (after_field z c)) (sym m.0) s.1 in
    omega (arith, no_further fs gs x xs more m.1 Q Q' (after_field f c) reason m.2 r.1 w others)

-- ---- what the questions find
pub reached : (fs rest : List Field) (P Q : Prog) (c : Cursor) → c.place ≤ bit_limit → Follow (fs ++ rest) P Q c → AllAgree fs c
    → (R : Prog) × ((place_after fs c).place ≤ bit_limit) × Follow rest R Q (place_after fs c) × (run P c ≡ run R (place_after fs c))
unfolding Follow
reached [] rest P Q c h leads s = (P, h, leads, refl)
reached (asked p question n ∷ fs) rest P Q c h leads s =
    let a = leads h in
    let r = reached fs rest (a.0 n) Q (answered_at question n c) (limit_after (asked p question n) c s.0) (a.2 s.0) s.1 in
    (r.0, r.1, r.2, ap (λ (S : Prog). run S c) a.1 ∙ answered p question a.0 c n s.0 ∙ r.3)
reached (run_field p unit units ∷ fs) rest P Q c h leads s =
    let f : Field = run_field p unit units in
    let a = leads h in
    let r = reached fs rest (a.0 units) Q (after_field f c) (limit_after f c s.0) (a.2 s.0) s.1 in
    (r.0, r.1, r.2, ap (λ (S : Prog). run S c) a.1 ∙ taken p unit a.0 c units s.0 ∙ r.3)

pub refused : (f : Field) (P : Prog) (T : Prog → Type 0) (c : Cursor) (reason : Reason) → IsAnswer f P T → IsWrongFor f c reason
    → run P c ≡ Err (record { bit = c.place; reason = reason; path = way_of f })
unfolding run
refused (asked p question n) P T c reason a w =
    ap (λ (S : Prog). run S c) a.1 ∙ ap (λ r. goes_on p c r (λ m. run (a.0 m) (answered_at question m c))) w
refused (run_field p unit units) P T c reason a w =
    ap (λ (S : Prog). run S c) a.1 ∙ ap (λ r. goes_on p c r (λ us. run (a.0 us) (moved_by (unit_width unit * length units) c))) w

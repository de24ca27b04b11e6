-- Fields that answer what is asked up to its end, whatever octets they stand in.
use Rattle.std.proofs.Common.{◌≡◌, ℕ, ◌^◌, cond, Bool, true, false, List, [], ◌∷◌, ◌++◌, length, refl, sym, ap, subst, ◌∙◌, arith, append_assoc}
use Rattle.aper_defs.specs.Values.{Value}
use Rattle.aper_defs.specs.Fields.{Path, Ask, RunUnit, Field, pad, asked, run as run_field}
use Rattle.aper_defs.specs.Bits.{unit_width}
use Rattle.aper_defs.specs.Questions.{Prog, done, ask, take, ask_aligned}
use Rattle.proof_aper.proofs.places.Placed.{AreBelow}
use Rattle.proof_aper.proofs.loose.Following.{IsAnswer}
use Rattle.proof_aper.proofs.loose.Determined.{question_in, way_in, answer_in, unit_in, count_in, units_in, is_ask, not_both}
use Rattle.proof_aper.proofs.alive.Allowed.{Allowed}

-- ---- fields that lead from what is asked to what is asked after them
abbrev pub IsFit : Field → Type 0
IsFit (asked p question n) = Allowed question n
IsFit (run_field p unit units) = AreBelow (2 ^ unit_width unit) units

unfoldable pub Steps : List Field → Prog → Prog → Type 0
Steps [] P Q = P ≡ Q
Steps (f ∷ fs) P Q = IsFit f × IsAnswer f P (λ R. Steps fs R Q)

answer_then : (f : Field) (P : Prog) (T U : Prog → Type 0) → ((R : Prog) → T R → U R) → IsAnswer f P T → IsAnswer f P U
answer_then (asked p question n) P T U h a = (a.0, a.1, h (a.0 n) a.2)
answer_then (run_field p unit units) P T U h a = (a.0, a.1, h (a.0 units) a.2)

pub steps_both : (a b : List Field) (P Q R : Prog) → Steps a P Q → Steps b Q R → Steps (a ++ b) P R
unfolding Steps
steps_both [] b P Q R first second = subst (λ (S : Prog). Steps b S R) (sym first) second
steps_both (f ∷ a) b P Q R first second =
    (first.0, answer_then f P (λ S. Steps a S Q) (λ S. Steps (a ++ b) S R) (λ S then. steps_both a b S Q R then second) first.1)

-- ---- the first of fields that lead to a value
-- something of a kind was answered, and then the other fields follow
pub record Parted {X : Type 0} (P : X → List Field → Type 0) (K : X → Prog) (fs : List Field) (w : Value) : Type 0 where
  pub made : X
  pub front : List Field
  pub others : List Field
  pub is : fs ≡ front ++ others
  pub has : P made front
  pub rest : Steps others (K made) (done w)

pub parted_none : {X : Type 0} (P : X → List Field → Type 0) (K : X → Prog) (fs : List Field) (w : Value) (x : X) → P x []
    → Steps fs (K x) (done w) → Parted P K fs w
parted_none P K fs w x h s = record { made = x; front = []; others = fs; is = refl; has = h; rest = s }

-- the same, said otherwise
pub parted_as : {X Z : Type 0} (P : X → List Field → Type 0) (Q : Z → List Field → Type 0) (K : X → Prog) (L : Z → Prog) (fs : List Field)
    (w : Value) (h : X → Z)
    → ((x : X) (gs : List Field) → P x gs → Q (h x) gs) → ((x : X) (gs : List Field) → P x gs → K x ≡ L (h x))
    → Parted P K fs w → Parted Q L fs w
parted_as P Q K L fs w h is on a = record {
  made = h a.made;
  front = a.front;
  others = a.others;
  is = a.is;
  has = is a.made a.front a.has;
  rest = subst (λ (R : Prog). Steps a.others R (done w)) (on a.made a.front a.has) a.rest;
}

-- one after another
pub parted_then : {X Z : Type 0} (P : X → List Field → Type 0) (Q : Z → List Field → Type 0) (K : X → Prog) (L : Z → Prog)
    (fs : List Field) (w : Value)
    → Parted P K fs w
    → ((x : X) (front gs : List Field) → P x front → Steps gs (K x) (done w) → Parted (λ z hs. Q z (front ++ hs)) L gs w)
    → Parted Q L fs w
parted_then P Q K L fs w a more =
    let b = more a.made a.front a.others a.has a.rest in record {
      made = b.made;
      front = a.front ++ b.front;
      others = b.others;
      is = a.is ∙ ap (λ (xs : List Field). a.front ++ xs) b.is ∙ sym (append_assoc a.front b.front b.others);
      has = b.has;
      rest = b.rest;
    }

-- the branch that a test takes
pub parted_by : {X : Type 0} (N : X → Type 0) (b : Bool) (f g : X → List Field) (A B : Prog) (K : X → Prog) (fs : List Field) (w : Value)
    → (Steps fs A (done w) → Parted (λ x gs. N x × (gs ≡ f x)) K fs w) → (Steps fs B (done w) → Parted (λ x gs. N x × (gs ≡ g x)) K fs w)
    → Steps fs (cond b A B) (done w) → Parted (λ x gs. N x × (gs ≡ cond b (f x) (g x))) K fs w
parted_by N true f g A B K fs w first second s = first s
parted_by N false f g A B K fs w first second s = second s

pub joined_is : (a b c d : List Field) → a ≡ c → b ≡ d → a ++ b ≡ c ++ d
joined_is a b c d e f = ap (λ (xs : List Field). xs ++ b) e ∙ ap (λ (ys : List Field). c ++ ys) f

-- ---- one question, and a run
not_done : (v : Value) (p : Path) (question : Ask) (next : ℕ → Prog) → ask p question next ≡ done v → ⊥
not_done v p question next e =
    let g : is_ask (ask p question next) ≡ is_ask (done v) = ap is_ask e in absurd (omega (arith, g))

not_ended : (v : Value) (p : Path) (unit : RunUnit) (count : ℕ) (next : List ℕ → Prog) → take p unit count next ≡ done v → ⊥
not_ended v p unit count next e =
    let g : is_ask (take p unit count next) ≡ is_ask (done v) = ap is_ask e in absurd (omega (arith, g))

pub parted_ask : (p : Path) (question : Ask) (K : ℕ → Prog) (fs : List Field) (w : Value) → Steps fs (ask p question K) (done w)
    → Parted (λ n gs. Allowed question n × (gs ≡ asked p question n ∷ [])) K fs w
unfolding Steps
parted_ask p question K [] w s = absurd (not_done w p question K s)
parted_ask p question K (asked p' question' n ∷ fs) w s =
    let a = s.1 in
    let e = a.1 in record {
      made = n;
      front = asked p question n ∷ [];
      others = fs;
      is = ap (λ (x : Path). asked x question' n ∷ fs) (sym (ap way_in e)) ∙ ap (λ (x : Ask). asked p x n ∷ fs) (sym (ap question_in e));
      has = (subst (λ (x : Ask). Allowed x n) (sym (ap question_in e)) s.0, refl);
      rest = subst (λ (next : ℕ → Prog). Steps fs (next n) (done w)) (sym (ap answer_in e)) a.2;
    }
parted_ask p question K (run_field p' unit units ∷ fs) w s =
    let a = s.1 in absurd (not_both p p' question K unit (length units) a.0 a.1)

pub parted_take : (p : Path) (unit : RunUnit) (count : ℕ) (K : List ℕ → Prog) (fs : List Field) (w : Value)
    → Steps fs (take p unit count K) (done w)
    → Parted (λ us gs. (length us ≡ count) × AreBelow (2 ^ unit_width unit) us × (gs ≡ run_field p unit us ∷ [])) K fs w
unfolding Steps
parted_take p unit count K [] w s = absurd (not_ended w p unit count K s)
parted_take p unit count K (asked p' question n ∷ fs) w s =
    let a = s.1 in absurd (not_both p' p question a.0 unit count K (sym a.1))
parted_take p unit count K (run_field p' unit' us ∷ fs) w s =
    let a = s.1 in
    let e = a.1 in record {
      made = us;
      front = run_field p unit us ∷ [];
      others = fs;
      is = ap (λ (x : Path). run_field x unit' us ∷ fs) (sym (ap way_in e)) ∙ ap (λ (x : RunUnit). run_field p x us ∷ fs) (sym (ap unit_in e));
      has = (
        sym (ap count_in e),
        subst (λ (x : RunUnit). AreBelow (2 ^ unit_width x) us) (sym (ap unit_in e)) s.0,
        refl,
      );
      rest = subst (λ (next : List ℕ → Prog). Steps fs (next us) (done w)) (sym (ap units_in e)) a.2;
    }

-- a question after a pad
pub parted_aligned : (p : Path) (question : Ask) (K : ℕ → Prog) (fs : List Field) (w : Value)
    → Steps fs (ask_aligned p question K) (done w)
    → Parted (λ n gs. Allowed question n × (gs ≡ asked p pad 0 ∷ asked p question n ∷ [])) K fs w
parted_aligned p question K fs w s =
    let Q = λ (n : ℕ) (gs : List Field). Allowed question n × (gs ≡ asked p pad 0 ∷ asked p question n ∷ []) in
    parted_then (λ z gs. Allowed pad z × (gs ≡ asked p pad z ∷ [])) Q (λ z. ask p question K) K fs w
    (parted_ask p pad (λ z. ask p question K) fs w s)
    (λ z front gs h s2. parted_as (λ n hs. Allowed question n × (hs ≡ asked p question n ∷ [])) (λ n hs. Q n (front ++ hs)) K K gs w
    (λ n. n)
    (λ n hs g. (
      g.0,
      joined_is front hs (asked p pad z ∷ []) (asked p question n ∷ []) h.1 g.1
          ∙ ap (λ (x : ℕ). asked p pad x ∷ asked p question n ∷ []) h.0,
    ))
    (λ n hs g. refl) (parted_ask p question K gs w s2))

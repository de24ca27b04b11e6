-- By numbers that no step raises, all vertices of a loop have one number.
use Rattle.std.proofs.Common.{◌≡◌, ◌≢◌, ℕ, ◌+◌, ◌-◌, ◌<◌, ◌≤◌, List, [], ◌++◌, length, take, drop, get_or, set, Bool, true, eqb, refl, sym, ap, ◌∙◌, subst, inl, inr, arith, replicate, get_or-set_same, get_or-set_other}
use Rattle.std.specs.Prelude.{◌⊎◌, Some}
use Rattle.std.proofs.lemmas.List.{get_or-replicate}
use Rattle.std.proofs.Math.Seq.{take-append_seam}
use Rattle.std.proofs.lemmas.Bool.{cases_lt}
use Rattle.gnb_types.proofs.Choices.{by_test, by_choice, clash}
use Rattle.asn1_defs.specs.declared.graph.Edge.{Edge}
use Rattle.asn1_defs.specs.Graph.{edge}
use Rattle.asn1_defs.specs.Paths.{IsStep, Leads, first, further, IsFirst}
use Rattle.asn1_module.specs.graph.Walks.{raised, MarksLoops}
use Rattle.asn1_module.specs.graph.Tables.{Falls, MarksLevel, level_step}
use Rattle.asn1_module.proofs.graph.PathLemmas.{at_or_not, raised_cases, raised_fair, raised_false}
use Rattle.asn1_module.proofs.graph.AmongLemmas.{each_more, each_of_all}

-- the first step of a path, and what follows it
first_step : (count : ℕ) (edges : List Edge) (a c : ℕ) → Leads count edges a c → (b : ℕ) × IsStep count edges a b × ((b ≡ c) ⊎ Leads count edges b c)
first_step count edges a c (first step) = (c, step, inl refl)
first_step count edges a c (further {b = b} path step) = on (first_step count edges a b path)
  where
    on : (d : ℕ) × IsStep count edges a d × ((d ≡ b) ⊎ Leads count edges d b) → (d : ℕ) × IsStep count edges a d × ((d ≡ c) ⊎ Leads count edges d c)
    on (d, start, inl is) = (d, start, inr (first (subst (λ (n : ℕ). IsStep count edges n c) (sym is) step)))
    on (d, start, inr rest) = (d, start, inr (further rest step))

-- a path doesn't rise either
path_falls : (count : ℕ) (edges : List Edge) (ranks : List ℕ) → Falls ranks edges → (a c : ℕ) → Leads count edges a c → get_or ranks c 0 ≤ get_or ranks a 0
path_falls count edges ranks falls a c (first step) = falls (edge a c) step.among
path_falls count edges ranks falls a c (further {b = b} path step) =
    omega (arith, path_falls count edges ranks falls a b path, falls (edge b c) step.among)

pub loops_marked : (count : ℕ) (edges : List Edge) (ranks table : List ℕ) → length table ≡ count → Falls ranks edges → MarksLevel ranks edges table → MarksLoops count edges table
loops_marked count edges ranks table size falls level v path = on (first_step count edges v v path)
  where
    on : (b : ℕ) × IsStep count edges v b × ((b ≡ v) ⊎ Leads count edges b v) → 0 < get_or table v 0
    on (b, step, inl is) =
        level (edge v b) step.among (ap (λ (n : ℕ). get_or ranks n 0) is) (omega (arith, step.from, size))
    on (b, step, inr rest) =
        level (edge v b) step.among
        (omega (arith, falls (edge v b) step.among, path_falls count edges ranks falls b v rest))
        (omega (arith, step.from, size))

last_inner : (count : ℕ) (edges : List Edge) (a b : ℕ) → Leads count edges a b → b < count
last_inner count edges a b (first step) = step.to
last_inner count edges a b (further path step) = step.to

-- where all are marked
pub all_marks : (count : ℕ) (edges : List Edge) → MarksLoops count edges (replicate count 1)
all_marks count edges v path = omega (arith, get_or-replicate {A = ℕ} count v 1 0 (last_inner count edges v v path))

-- ---- the numbers are looked at one step after another

pub falls_more : (ranks : List ℕ) (es : List Edge) (i : ℕ) (d : Edge) → i < length es → get_or ranks (get_or es i d).to 0 ≤ get_or ranks (get_or es i d).from 0 → Falls ranks (take i es) → Falls ranks (take (i + 1) es)
falls_more ranks es i d lt here so_far = each_more (λ e. get_or ranks e.to 0 ≤ get_or ranks e.from 0) es i d lt so_far here

-- a greater value at a place takes none away
raised_length : (t : List ℕ) (at v : ℕ) → length (raised t at v).1 ≡ length t
raised_length t at v = (raised_fair v t at v (omega arith)).size

raised_keeps : (t : List ℕ) (at v w : ℕ) → get_or t w 0 ≤ get_or (raised t at v).1 w 0
raised_keeps t at v w = raised_cases (λ r. get_or t w 0 ≤ get_or r.1 w 0) t at v
    (λ h less. at_or_not (λ w. get_or t w 0 ≤ get_or (set t at v) w 0) at w
    (omega (arith, less, get_or-set_same t at v 0 h))
    (λ other. omega (arith, get_or-set_other t at w v 0 other)))
    (omega arith)

raised_reaches : (t : List ℕ) (at v : ℕ) → at < length t → v ≤ get_or (raised t at v).1 at 0
raised_reaches t at v h = by_test (v ≤ get_or (raised t at v).1 at 0) (raised t at v).0
    (λ yes. raised_cases (λ r. r.0 ≡ true → v ≤ get_or r.1 at 0) t at v (λ lt less _. omega (arith, get_or-set_same t at v 0 lt)) (λ e. cc) yes)
    (λ no. omega (arith, raised_false t at v no h, raised_keeps t at v at))

-- one more step, whose end has an equal number
level_marked : (ranks : List ℕ) (es : List Edge) (i : ℕ) (d : Edge) (t new : List ℕ) (changed : Bool) → i < length es → (changed, new) ≡ raised t (get_or es i d).from 1 → MarksLevel ranks (take i es) t → MarksLevel ranks (take (i + 1) es) new
level_marked ranks es i d t new changed lt is so_far =
    subst (λ (r : Bool × List ℕ). MarksLevel ranks (take (i + 1) es) r.1) (sym is)
    (each_more (λ e. get_or ranks e.to 0 ≡ get_or ranks e.from 0 → e.from < length (raised t (get_or es i d).from 1).1 → 0 < get_or (raised t (get_or es i d).from 1).1 e.from 0) es i d lt
    (λ e among same inner.
    omega (arith, so_far e among same (omega (arith, inner, raised_length t (get_or es i d).from 1)), raised_keeps t (get_or es i d).from 1 e.from))
    (λ same inner. omega (arith, raised_reaches t (get_or es i d).from 1 (omega (arith, inner, raised_length t (get_or es i d).from 1)))))

-- one more step, whose end has another number
level_passed : (ranks : List ℕ) (es : List Edge) (i : ℕ) (d : Edge) (t : List ℕ) → i < length es → get_or ranks (get_or es i d).to 0 ≢ get_or ranks (get_or es i d).from 0 → MarksLevel ranks (take i es) t → MarksLevel ranks (take (i + 1) es) t
level_passed ranks es i d t lt other so_far =
    each_more (λ e. get_or ranks e.to 0 ≡ get_or ranks e.from 0 → e.from < length t → 0 < get_or t e.from 0) es i d lt so_far (λ same inner. absurd (other same))

pub level_more : (ranks : List ℕ) (es : List Edge) (i : ℕ) (d : Edge) (t new : List ℕ) → i < length es → new ≡ level_step ranks t (get_or es i d) → MarksLevel ranks (take i es) t → MarksLevel ranks (take (i + 1) es) new
level_more ranks es i d t new lt is so_far =
    subst (MarksLevel ranks (take (i + 1) es)) (sym is)
    (by_choice (MarksLevel ranks (take (i + 1) es)) (eqb (get_or ranks (get_or es i d).to 0) (get_or ranks (get_or es i d).from 0)) (raised t (get_or es i d).from 1).1 t
    (λ same. level_marked ranks es i d t (raised t (get_or es i d).from 1).1 (raised t (get_or es i d).from 1).0 lt refl so_far)
    (λ other. level_passed ranks es i d t lt (λ same. clash (eqb (get_or ranks (get_or es i d).to 0) (get_or ranks (get_or es i d).from 0)) (equal _ _ same) other) so_far))
  where
    equal : (a b : ℕ) → a ≡ b → eqb a b ≡ true
    equal a b same = ap (λ (n : ℕ). eqb a n) (sym same) ∙ by_test (eqb a a ≡ true) (eqb a a) (λ h. h) (λ h. grind arith)

-- no step so far, and all steps
pub none_level : (ranks table : List ℕ) → MarksLevel ranks [] table
none_level ranks table e among = elim among [ ]

pub all_level : (ranks : List ℕ) (es : List Edge) (i : ℕ) (t : List ℕ) → length es ≤ i → MarksLevel ranks (take i es) t → MarksLevel ranks es t
all_level ranks es i t past so_far =
    each_of_all (λ e. get_or ranks e.to 0 ≡ get_or ranks e.from 0 → e.from < length t → 0 < get_or t e.from 0) es i past so_far

pub none_falls : (ranks : List ℕ) → Falls ranks []
none_falls ranks e among = elim among [ ]

pub all_fall : (ranks : List ℕ) (es : List Edge) (i : ℕ) → length es ≤ i → Falls ranks (take i es) → Falls ranks es
all_fall ranks es i past so_far = each_of_all (λ e. get_or ranks e.to 0 ≤ get_or ranks e.from 0) es i past so_far

-- ---- the first vertex that leads to itself

pub first_here : (count base vertex : ℕ) (edges : List Edge) → base ≤ vertex → vertex < count → Leads count edges vertex vertex
    → ((k : ℕ) → base + k < vertex → Leads count edges (base + k) (base + k) → ⊥)
    → IsFirst (λ k. Leads count edges (base + k) (base + k)) (count - base) (Some (vertex - base))
first_here count base vertex edges least most loops before =
    let same : vertex ≡ base + (vertex - base) = omega arith in
    (omega arith, subst (λ (v : ℕ). Leads count edges v v) same loops, λ j lt. before j (omega arith))

pub none_here : (count base vertex : ℕ) (edges : List Edge) → (Leads count edges vertex vertex → ⊥)
    → ((k : ℕ) → base + k < vertex → Leads count edges (base + k) (base + k) → ⊥)
    → (k : ℕ) → base + k < vertex + 1 → Leads count edges (base + k) (base + k) → ⊥
none_here count base vertex edges not before k lt loops = elim (cases_lt (base + k) vertex) [
  | inl earlier ↦ before k earlier loops
  | inr past ↦ not (subst (λ (v : ℕ). Leads count edges v v) (omega arith) loops)
]

-- what was written to the whole of a list
pub written : (P : List ℕ → Type 0) (new old : List ℕ) (len : ℕ) → length new ≡ len → P new → P (take len (new ++ drop (length new) old))
written P new old len long p =
    subst P (sym (ap (λ (n : ℕ). take n (new ++ drop (length new) old)) (sym long) ∙ take-append_seam new (drop (length new) old))) p

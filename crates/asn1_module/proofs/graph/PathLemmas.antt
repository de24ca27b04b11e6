-- Rounds over all steps until nothing changes: what the table then says.
use Rattle.std.proofs.Common.{◌≡◌, ◌≢◌, ℕ, ◌+◌, ◌-◌, ◌<◌, ◌≤◌, List, [], ◌∷◌, length, get_or, set, Bool, true, false, cond, ◌||◌, ◌&&◌, ltb, eqb, refl, sym, ap, ◌∙◌, subst, inl, inr, arith, min, replicate, get_or-set_same, get_or-set_other}
use Rattle.std.specs.Prelude.{◌⊎◌, sum_by}
use Rattle.std.proofs.lemmas.List.{length-set, length-replicate, get_or-replicate, get_or_past}
use Rattle.std.proofs.lemmas.List.Sums.{sum_by-set}
use Rattle.std.proofs.lemmas.Bool.{ltb-true, ltb-false, lt-ltb, eqb-true, cases_lt}
use Rattle.gnb_types.proofs.Choices.{by_choice, by_test}
use Rattle.asn1_defs.specs.declared.graph.Edge.{Edge}
use Rattle.asn1_defs.specs.Graph.{edge}
use Rattle.asn1_defs.specs.Paths.{IsAmong, Leads, first, further, Nests, alone, around}
use Rattle.asn1_module.specs.graph.Walks.{raised, mark_step, depth_step, depth_cap, round_of, AreAmong, IsReach, IsDepth}
use Rattle.asn1_module.specs.graph.Tables.{MarksWell, TellsWell}

or_cases : (a b : Bool) → a || b ≡ true → (a ≡ true) ⊎ (b ≡ true)
or_cases true b h = inl refl
or_cases false b h = inr h

or_left : (a b : Bool) → a ≡ true → a || b ≡ true
or_left true b h = refl
or_left false b h = cc

or_right : (a b : Bool) → b ≡ true → a || b ≡ true
or_right true b h = refl
or_right false b h = h

neither : (a b : Bool) → a || b ≡ false → (a ≡ false) × (b ≡ false)
neither true b h = cc
neither false b h = (refl, h)

eqb-refl : (n : ℕ) → eqb n n ≡ true
eqb-refl n = by_test (eqb n n ≡ true) (eqb n n) (λ h. h) (λ h. grind arith)

-- a value above 0 stands inside its table
pub inside : (t : List ℕ) (v : ℕ) → 0 < get_or t v 0 → v < length t
inside t v h = elim (cases_lt v (length t)) [ inl lt ↦ lt | inr past ↦ absurd (omega (arith, get_or_past t v 0 past)) ]

-- how far a table is from one that is full
abbrev pub slack : ℕ → List ℕ → ℕ
slack cap t = sum_by (λ x. cap - x) t

slack_set : (cap : ℕ) (t : List ℕ) (at v : ℕ) → at < length t → get_or t at 0 < v → v ≤ cap → slack cap (set t at v) < slack cap t
slack_set cap t at v h less most = omega (arith, sum_by-set (λ x. cap - x) t at v 0 h)

-- what a change of a table owes
pub record Fair (cap : ℕ) (t : List ℕ) (r : Bool × List ℕ) : Type 0 where
  pub still : r.0 ≡ false → r.1 ≡ t
  pub less : r.0 ≡ true → slack cap r.1 < slack cap t
  pub size : length r.1 ≡ length t

pub raised_cases : (P : Bool × List ℕ → Type 0) (t : List ℕ) (at v : ℕ) → (at < length t → get_or t at 0 < v → P (true, set t at v)) → P (false, t) → P (raised t at v)
raised_cases P t at v p q =
    by_choice P (ltb at (length t) && ltb (get_or t at 0) v) (true, set t at v) (false, t) (λ h. p (ltb-true _ _ (both_left _ _ h)) (ltb-true _ _ (both_right _ _ h))) (λ _. q)
  where
    both_left : (a b : Bool) → a && b ≡ true → a ≡ true
    both_left true b h = refl
    both_left false b h = cc

    both_right : (a b : Bool) → a && b ≡ true → b ≡ true
    both_right true b h = h
    both_right false b h = cc

pub raised_fair : (cap : ℕ) (t : List ℕ) (at v : ℕ) → v ≤ cap → Fair cap t (raised t at v)
raised_fair cap t at v most = raised_cases (Fair cap t) t at v
    (λ h less. record { still = λ e. cc; less = λ _. slack_set cap t at v h less most; size = length-set t at v })
    (record { still = λ _. refl; less = λ e. cc; size = refl })

-- where it didn't change, the value was as great before
pub raised_false : (t : List ℕ) (at v : ℕ) → (raised t at v).0 ≡ false → at < length t → v ≤ get_or t at 0
raised_false t at v h lt =
    by_test (v ≤ get_or t at 0) (ltb (get_or t at 0) v)
    (λ less. absurd (clash (ltb at (length t)) (ltb (get_or t at 0) v) (lt-ltb _ _ lt) less h))
    (λ more. ltb-false _ _ more)
  where
    clash : (a b : Bool) → a ≡ true → b ≡ true → (cond {A = Bool × List ℕ} (a && b) (true, set t at v) (false, t)).0 ≡ false → ⊥
    clash true true p q e = cc
    clash true false p q e = cc
    clash false b p q e = cc

abbrev Act : Type 0
Act = List ℕ → Edge → Bool × List ℕ

-- a round that changed nothing
record Still (act : Act) (t new : List ℕ) (es : List Edge) : Type 0 where
  same : new ≡ t
  each : (e : Edge) → IsAmong e es → (act t e).0 ≡ false

round_still : (cap : ℕ) (act : Act) → ((t : List ℕ) (e : Edge) → Fair cap t (act t e)) → (c : Bool) (t : List ℕ) (es : List Edge) → (round_of act c t es).0 ≡ false → (c ≡ false) × Still act t (round_of act c t es).1 es
unfolding round_of
round_still cap act fair c t [] h = (h, record { same = refl; each = λ e a. elim a [ ] })
round_still cap act fair c t (e ∷ es) h = joined (round_still cap act fair (c || (act t e).0) (act t e).1 es h)
  where
    joined : ((c || (act t e).0) ≡ false) × Still act (act t e).1 (round_of act (c || (act t e).0) (act t e).1 es).1 es → (c ≡ false) × Still act t (round_of act (c || (act t e).0) (act t e).1 es).1 (e ∷ es)
    joined rest =
        let none = neither c (act t e).0 rest.0 in
        let same = (fair t e).still none.1 in (
          none.0,
          record {
            same = rest.1.same ∙ same;
            each = λ f among. each_of f among none.1 (λ later. subst (λ (u : List ℕ). (act u f).0 ≡ false) same (rest.1.each f later));
          },
        )
      where
        each_of : (f : Edge) → (e ≡ f) ⊎ IsAmong f es → (act t e).0 ≡ false → (IsAmong f es → (act t f).0 ≡ false) → (act t f).0 ≡ false
        each_of f (inl is) here later = subst (λ (g : Edge). (act t g).0 ≡ false) is here
        each_of f (inr among) here later = later among

round_slack : (cap : ℕ) (act : Act) → ((t : List ℕ) (e : Edge) → Fair cap t (act t e)) → (c : Bool) (t : List ℕ) (es : List Edge) → (slack cap (round_of act c t es).1 ≤ slack cap t) × (c ≡ false → (round_of act c t es).0 ≡ true → slack cap (round_of act c t es).1 < slack cap t)
unfolding round_of
round_slack cap act fair c t [] = (omega arith, λ p q. cc)
round_slack cap act fair c t (e ∷ es) =
    let rest = round_slack cap act fair (c || (act t e).0) (act t e).1 es in
    by_test ((slack cap (round_of act (c || (act t e).0) (act t e).1 es).1 ≤ slack cap t) × (c ≡ false → (round_of act (c || (act t e).0) (act t e).1 es).0 ≡ true → slack cap (round_of act (c || (act t e).0) (act t e).1 es).1 < slack cap t)) (act t e).0
    (λ yes. (omega (arith, rest.0, (fair t e).less yes), λ _ _. omega (arith, rest.0, (fair t e).less yes)))
    (λ no.
    let same : slack cap (act t e).1 ≡ slack cap t = ap (slack cap) ((fair t e).still no) in
    (omega (arith, rest.0, same), λ p q. omega (arith, rest.1 (ap (λ (b : Bool). b || (act t e).0) p ∙ no) q, same)))

-- what each step keeps, a round keeps
round_keeps : (act : Act) (Q : List ℕ → Type 0) (c : Bool) (t : List ℕ) (es : List Edge) → ((u : List ℕ) (e : Edge) → IsAmong e es → Q u → Q (act u e).1) → Q t → Q (round_of act c t es).1
unfolding round_of
round_keeps act Q c t [] keeps q = q
round_keeps act Q c t (e ∷ es) keeps q = round_keeps act Q (c || (act t e).0) (act t e).1 es (λ u f among. keeps u f (inr among)) (keeps t e (inl refl) q)

-- Marks

mark_fair : (start : ℕ) (t : List ℕ) (e : Edge) → Fair 1 t (mark_step start t e)
unfolding mark_step
mark_fair start t e = by_choice (Fair 1 t) (eqb e.from start || ltb 0 (get_or t e.from 0)) (raised t e.to 1) (false, t)
    (λ _. raised_fair 1 t e.to 1 (omega arith))
    (λ _. record { still = λ _. refl; less = λ h. cc; size = refl })

pub at_or_not : (P : ℕ → Type 0) (at v : ℕ) → P at → (v ≢ at → P v) → P v
at_or_not P at v here there = by_test (P v) (eqb v at) (λ h. subst P (sym (eqb-true v at h)) here) (λ h. there (λ same. clash (eqb v at) (ap (λ (n : ℕ). eqb n at) same ∙ eqb-refl at) h))
  where
    clash : (b : Bool) → b ≡ true → b ≡ false → ⊥
    clash true p q = cc
    clash false p q = cc

pub mark_keeps : (count : ℕ) (edges : List Edge) (start : ℕ) → start < count → (t : List ℕ) (e : Edge) → IsAmong e edges → MarksWell count edges start t → MarksWell count edges start (mark_step start t e).1
unfolding mark_step
mark_keeps count edges start inner t e among well =
    by_choice (λ r. MarksWell count edges start r.1) (eqb e.from start || ltb 0 (get_or t e.from 0)) (raised t e.to 1) (false, t)
    (λ test. raised_cases (λ r. MarksWell count edges start r.1) t e.to 1
    (λ h less. record {
      size = length-set t e.to 1 ∙ well.size;
      marked = λ v. at_or_not (λ v. 0 < get_or (set t e.to 1) v 0 → Leads count edges start v) e.to v
          (λ _. led (or_cases (eqb e.from start) (ltb 0 (get_or t e.from 0)) test) (omega (arith, h, well.size)))
          (λ other above. well.marked v (subst (λ (n : ℕ). 0 < n) (get_or-set_other t e.to v 1 0 other) above));
    })
    well)
    (λ _. well)
  where
    led : (eqb e.from start ≡ true) ⊎ (ltb 0 (get_or t e.from 0) ≡ true) → e.to < count → Leads count edges start e.to
    led (inl same) lt =
        let is : e.from ≡ start = eqb-true e.from start same in
        first (record { among = subst (λ (n : ℕ). IsAmong (edge n e.to) edges) is among; from = inner; to = lt })
    led (inr above) lt =
        let marked : 0 < get_or t e.from 0 = ltb-true _ _ above in
        further (well.marked e.from marked) (record { among = among; from = omega (arith, inside t e.from marked, well.size); to = lt })

mark_false : (start : ℕ) (t : List ℕ) (e : Edge) → (mark_step start t e).0 ≡ false → (e.from ≡ start) ⊎ (0 < get_or t e.from 0) → e.to < length t → 0 < get_or t e.to 0
unfolding mark_step
mark_false start t e h led lt =
    omega (arith, raised_false t e.to 1 (subst (λ (b : Bool). (cond {A = Bool × List ℕ} b (raised t e.to 1) (false, t)).0 ≡ false) (passes led) h) lt)
  where
    passes : (e.from ≡ start) ⊎ (0 < get_or t e.from 0) → eqb e.from start || ltb 0 (get_or t e.from 0) ≡ true
    passes (inl is) = or_left _ _ (ap (λ (n : ℕ). eqb n start) is ∙ eqb-refl start)
    passes (inr above) = or_right _ _ (lt-ltb _ _ above)

all_marked : (count : ℕ) (edges : List Edge) (start : ℕ) (t : List ℕ) → length t ≡ count → ((e : Edge) → IsAmong e edges → (mark_step start t e).0 ≡ false) → (v : ℕ) → Leads count edges start v → 0 < get_or t v 0
all_marked count edges start t size each v (first {b} step) = mark_false start t (edge start b) (each (edge start b) step.among) (inl refl) (omega (arith, step.to, size))
all_marked count edges start t size each v (further {b} {c} path step) = mark_false start t (edge b c) (each (edge b c) step.among) (inr (all_marked count edges start t size each b path)) (omega (arith, step.to, size))

-- the same, of what a step returned and left
pub mark_step_keeps : (count : ℕ) (edges : List Edge) (start : ℕ) (t new : List ℕ) (changed : Bool) (e : Edge) → start < count → IsAmong e edges → (changed, new) ≡ mark_step start t e → MarksWell count edges start t → MarksWell count edges start new
mark_step_keeps count edges start t new changed e inner among is well =
    subst (λ (r : Bool × List ℕ). MarksWell count edges start r.1) (sym is) (mark_keeps count edges start inner t e among well)

-- a round goes on, or the marks are done
pub mark_round_keeps : (count : ℕ) (edges : List Edge) (start : ℕ) (t : List ℕ) → start < count → MarksWell count edges start t → MarksWell count edges start (round_of (mark_step start) false t edges).1
mark_round_keeps count edges start t inner well = round_keeps (mark_step start) (MarksWell count edges start) false t edges (λ u e among. mark_keeps count edges start inner u e among) well

pub mark_round_less : (start : ℕ) (t : List ℕ) (edges : List Edge) → (round_of (mark_step start) false t edges).0 ≡ true → slack 1 (round_of (mark_step start) false t edges).1 < slack 1 t
mark_round_less start t edges h = (round_slack 1 (mark_step start) (mark_fair start) false t edges).1 refl h

pub mark_round_done : (count : ℕ) (edges : List Edge) (start : ℕ) (t : List ℕ) → MarksWell count edges start t → (round_of (mark_step start) false t edges).0 ≡ false → IsReach count edges start (round_of (mark_step start) false t edges).1
mark_round_done count edges start t well h =
    let still = (round_still 1 (mark_step start) (mark_fair start) false t edges h).1 in
    subst (IsReach count edges start) (sym still.same) (record { marked = well.marked; all = all_marked count edges start t well.size still.each })

pub no_marks : (count : ℕ) (edges : List Edge) (start : ℕ) → MarksWell count edges start (replicate count 0)
no_marks count edges start = record {
  size = length-replicate {A = ℕ} count 0;
  marked = λ v above. absurd (omega (arith, get_or-replicate {A = ℕ} count v 0 0 (omega (arith, inside (replicate count 0) v above, length-replicate {A = ℕ} count 0)), above));
}

-- Depths

depth_fair : (weights t : List ℕ) (e : Edge) → Fair depth_cap t (depth_step weights t e)
unfolding depth_step
depth_fair weights t e = by_choice (Fair depth_cap t) (ltb e.to (length t)) (raised t e.from (min depth_cap (get_or weights e.from 0 + get_or t e.to 0))) (false, t)
    (λ _. raised_fair depth_cap t e.from (min depth_cap (get_or weights e.from 0 + get_or t e.to 0)) (omega arith))
    (λ _. record { still = λ _. refl; less = λ h. cc; size = refl })

pub depth_keeps : (count : ℕ) (edges : List Edge) (weights t : List ℕ) (e : Edge) → IsAmong e edges → TellsWell count edges weights t → TellsWell count edges weights (depth_step weights t e).1
unfolding depth_step
depth_keeps count edges weights t e among well =
    let value : ℕ = min depth_cap (get_or weights e.from 0 + get_or t e.to 0) in
    by_choice (λ r. TellsWell count edges weights r.1) (ltb e.to (length t)) (raised t e.from value) (false, t)
    (λ test. raised_cases (λ r. TellsWell count edges weights r.1) t e.from value
    (λ h less. record {
      size = length-set t e.from value ∙ well.size;
      reached = λ v. at_or_not (λ v. v < count → (d : ℕ) × Nests count edges weights v d × (get_or (set t e.from value) v 0 ≤ d)) e.from v
          (λ lt. nested lt (omega (arith, ltb-true _ _ test, well.size)) h value (omega arith))
          (λ other lt. let old = well.reached v lt in (old.0, old.1, subst (λ (n : ℕ). n ≤ old.0) (sym (get_or-set_other t e.from v value 0 other)) old.2));
      own = λ v. at_or_not (λ v. get_or weights v 0 ≤ get_or (set t e.from value) v 0) e.from v
          (omega (arith, well.own e.from, less, get_or-set_same t e.from value 0 h))
          (λ other. subst (λ (n : ℕ). get_or weights v 0 ≤ n) (sym (get_or-set_other t e.from v value 0 other)) (well.own v));
    })
    well)
    (λ _. well)
  where
    nested : e.from < count → e.to < count → e.from < length t → (value : ℕ) → value ≤ get_or weights e.from 0 + get_or t e.to 0 → (d : ℕ) × Nests count edges weights e.from d × (get_or (set t e.from value) e.from 0 ≤ d)
    nested from to h value most =
        let inner = well.reached e.to to in
        (get_or weights e.from 0 + inner.0, around (record { among = among; from = from; to = to }) inner.1, omega (arith, inner.2, get_or-set_same t e.from value 0 h))

depth_false : (weights t : List ℕ) (e : Edge) → (depth_step weights t e).0 ≡ false → e.from < length t → e.to < length t → min depth_cap (get_or weights e.from 0 + get_or t e.to 0) ≤ get_or t e.from 0
unfolding depth_step
depth_false weights t e h from to =
    raised_false t e.from (min depth_cap (get_or weights e.from 0 + get_or t e.to 0))
    (subst (λ (b : Bool). (cond {A = Bool × List ℕ} b (raised t e.from (min depth_cap (get_or weights e.from 0 + get_or t e.to 0))) (false, t)).0 ≡ false) (lt-ltb _ _ to) h) from

none_deeper : (count : ℕ) (edges : List Edge) (weights t : List ℕ) → TellsWell count edges weights t → ((e : Edge) → IsAmong e edges → (depth_step weights t e).0 ≡ false) → (v d : ℕ) → Nests count edges weights v d → min depth_cap d ≤ get_or t v 0
none_deeper count edges weights t well each v d (alone {a} lt) = omega (arith, well.own a)
none_deeper count edges weights t well each v d (around {a} {b} {d = c} step inner) =
    omega (arith, none_deeper count edges weights t well each b c inner, depth_false weights t (edge a b) (each (edge a b) step.among) (omega (arith, step.from, well.size)) (omega (arith, step.to, well.size)))

pub depth_round_keeps : (count : ℕ) (edges : List Edge) (weights t : List ℕ) → TellsWell count edges weights t → TellsWell count edges weights (round_of (depth_step weights) false t edges).1
depth_round_keeps count edges weights t well = round_keeps (depth_step weights) (TellsWell count edges weights) false t edges (λ u e among. depth_keeps count edges weights u e among) well

-- the same by some of the steps
pub depth_some_keep : (count : ℕ) (edges some : List Edge) (weights t new : List ℕ) (changed : Bool) → AreAmong some edges → (changed, new) ≡ round_of (depth_step weights) false t some → TellsWell count edges weights t → TellsWell count edges weights new
depth_some_keep count edges some weights t new changed among is well =
    subst (λ (r : Bool × List ℕ). TellsWell count edges weights r.1) (sym is)
    (round_keeps (depth_step weights) (TellsWell count edges weights) false t some (λ u e here. depth_keeps count edges weights u e (among e here)) well)

pub depth_round_less : (weights t : List ℕ) (edges : List Edge) → (round_of (depth_step weights) false t edges).0 ≡ true → slack depth_cap (round_of (depth_step weights) false t edges).1 < slack depth_cap t
depth_round_less weights t edges h = (round_slack depth_cap (depth_step weights) (depth_fair weights) false t edges).1 refl h

pub depth_round_done : (count : ℕ) (edges : List Edge) (weights t : List ℕ) → TellsWell count edges weights t → (round_of (depth_step weights) false t edges).0 ≡ false → IsDepth count edges weights (round_of (depth_step weights) false t edges).1
depth_round_done count edges weights t well h =
    let still = (round_still depth_cap (depth_step weights) (depth_fair weights) false t edges h).1 in
    subst (IsDepth count edges weights) (sym still.same) (record { reached = well.reached; most = none_deeper count edges weights t well still.each })

pub own_weights : (count : ℕ) (edges : List Edge) (weights : List ℕ) → length weights ≡ count → TellsWell count edges weights weights
own_weights count edges weights size = record {
  size = size;
  reached = λ v lt. (get_or weights v 0, alone lt, omega arith);
  own = λ v. omega arith;
}

-- the same, of what a round returned and left
pub mark_keeps_on : (count : ℕ) (edges : List Edge) (start : ℕ) (t new : List ℕ) (changed : Bool) → start < count → (changed, new) ≡ round_of (mark_step start) false t edges → MarksWell count edges start t → MarksWell count edges start new
mark_keeps_on count edges start t new changed inner is well = subst (λ (r : Bool × List ℕ). MarksWell count edges start r.1) (sym is) (mark_round_keeps count edges start t inner well)

pub mark_lessens : (start : ℕ) (t new : List ℕ) (changed : Bool) (edges : List Edge) → (changed, new) ≡ round_of (mark_step start) false t edges → changed ≡ true → slack 1 new < slack 1 t
mark_lessens start t new changed edges is happened = subst (λ (r : Bool × List ℕ). r.0 ≡ true → slack 1 r.1 < slack 1 t) (sym is) (mark_round_less start t edges) happened

pub mark_done : (count : ℕ) (edges : List Edge) (start : ℕ) (t new : List ℕ) (changed : Bool) → (changed, new) ≡ round_of (mark_step start) false t edges → changed ≡ false → MarksWell count edges start t → IsReach count edges start new
mark_done count edges start t new changed is ended well = subst (λ (r : Bool × List ℕ). r.0 ≡ false → IsReach count edges start r.1) (sym is) (mark_round_done count edges start t well) ended

pub depth_keeps_on : (count : ℕ) (edges : List Edge) (weights t new : List ℕ) (changed : Bool) → (changed, new) ≡ round_of (depth_step weights) false t edges → TellsWell count edges weights t → TellsWell count edges weights new
depth_keeps_on count edges weights t new changed is well = subst (λ (r : Bool × List ℕ). TellsWell count edges weights r.1) (sym is) (depth_round_keeps count edges weights t well)

pub depth_lessens : (weights t new : List ℕ) (changed : Bool) (edges : List Edge) → (changed, new) ≡ round_of (depth_step weights) false t edges → changed ≡ true → slack depth_cap new < slack depth_cap t
depth_lessens weights t new changed edges is happened = subst (λ (r : Bool × List ℕ). r.0 ≡ true → slack depth_cap r.1 < slack depth_cap t) (sym is) (depth_round_less weights t edges) happened

pub depth_done : (count : ℕ) (edges : List Edge) (weights t new : List ℕ) (changed : Bool) → (changed, new) ≡ round_of (depth_step weights) false t edges → changed ≡ false → TellsWell count edges weights t → IsDepth count edges weights new
depth_done count edges weights t new changed is ended well = subst (λ (r : Bool × List ℕ). r.0 ≡ false → IsDepth count edges weights r.1) (sym is) (depth_round_done count edges weights t well) ended

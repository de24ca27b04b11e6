-- Which TEIDs are open after outputs, and in a table that entries are put into and taken out of.
use Rattle.std.proofs.Common.{◌≡◌, ◌==◌, ℕ, Bool, true, false, cond, not, ◌&&◌, ◌||◌, List, [], ◌∷◌, ◌++◌, map, Option, Some, None, refl, sym, ap, ◌∙◌, eqb-true, eq-eqb}
use Rattle.std.specs.Prelude.{is_some}
use Rattle.std.specs.Ordering.{nat_cmp, eq_by_cmp, is_eq}
use Rattle.std.specs.Cmp.{nat_cmp_total, tied_itself, Equal-is}
use Rattle.std.proofs.lemmas.Map.Lookups.{exact_unsigned}
use Rattle.tables.specs.Tables.{find, put, without}
use Rattle.tables.proofs.TableLaws.{find-put, find-without}
use Rattle.unit_defs.specs.Ways.{Put, Output, control, packet, radio, deliver, dropped, held, opened, closed, failed, no}
use Rattle.unit_defs.specs.Teids.{without_each}
use Rattle.proof_run_steps.specs.teids.Given.{opened_by}
use Rattle.proof_run_steps.proofs.teids.Bearers.{closed_by}
use Rattle.law_tunnels_are_owned.specs.open_tunnels.Open.{open_after, is_open_in}

pub open_append : {M L P : Type 0} (q : ℕ) (xs ys : List (Put M L P)) (x : Bool) → open_after q (xs ++ ys) x ≡ open_after q ys (open_after q xs x)
open_append q [] ys x = refl
open_append q (control to ue message ∷ xs) ys x = open_append q xs ys x
open_append q (packet to teid ue bearer dir tag load ∷ xs) ys x = open_append q xs ys x
open_append q (radio ue bearer dir epoch tag pdu ∷ xs) ys x = open_append q xs ys x
open_append q (deliver ue bearer dir count p ∷ xs) ys x = open_append q xs ys x
open_append q (dropped reason ∷ xs) ys x = open_append q xs ys x
open_append q (held reason ∷ xs) ys x = open_append q xs ys x
open_append q (opened t ∷ xs) ys x = open_append q xs ys (t == q || x)
open_append q (closed t ∷ xs) ys x = open_append q xs ys (not (t == q) && x)
open_append q (failed ue cause ∷ xs) ys x = open_append q xs ys x
open_append q (no reason ∷ xs) ys x = open_append q xs ys x

-- with these, and without those
abbrev pub with_these : ℕ → List ℕ → Bool → Bool
with_these q [] x = x
with_these q (t ∷ ts) x = with_these q ts (t == q || x)

abbrev pub without_these : ℕ → List ℕ → Bool → Bool
without_these q [] x = x
without_these q (t ∷ ts) x = without_these q ts (not (t == q) && x)

pub with_append : (q : ℕ) (xs ys : List ℕ) (x : Bool) → with_these q (xs ++ ys) x ≡ with_these q ys (with_these q xs x)
with_append q [] ys x = refl
with_append q (t ∷ ts) ys x = with_append q ts ys (t == q || x)

-- nothing is opened: those are closed that are
pub closes_these : {M P : Type 0} (q : ℕ) (os : List (Output M P)) (x : Bool) → opened_by os ≡ [] → open_after q os x ≡ without_these q (closed_by os) x
closes_these q [] x none = refl
closes_these q (control to ue message ∷ os) x none = closes_these q os x none
closes_these q (packet to teid ue bearer dir tag load ∷ os) x none = closes_these q os x none
closes_these q (radio ue bearer dir epoch tag pdu ∷ os) x none = closes_these q os x none
closes_these q (deliver ue bearer dir count p ∷ os) x none = closes_these q os x none
closes_these q (dropped reason ∷ os) x none = closes_these q os x none
closes_these q (held reason ∷ os) x none = closes_these q os x none
closes_these q (opened t ∷ os) x none = absurd (cc none)
closes_these q (closed t ∷ os) x none = closes_these q os (not (t == q) && x) none
closes_these q (failed ue cause ∷ os) x none = closes_these q os x none
closes_these q (no reason ∷ os) x none = closes_these q os x none

module _ (M L P : Type 0) where
  pub all_closed : (q : ℕ) (ts : List ℕ) (x : Bool) → open_after {M = M} {L = L} {P = P} q (map (λ t. closed t) ts) x ≡ without_these q ts x
  all_closed q [] x = refl
  all_closed q (t ∷ ts) x = all_closed q ts (not (t == q) && x)

  pub all_opened : (q : ℕ) (ts : List ℕ) (x : Bool) → open_after {M = M} {L = L} {P = P} q (map (λ t. opened t) ts) x ≡ with_these q ts x
  all_opened q [] x = refl
  all_opened q (t ∷ ts) x = all_opened q ts (t == q || x)

-- ---- tables

same_key : (a b : ℕ) → eq_by_cmp nat_cmp a b ≡ true → a ≡ b
same_key a b h = exact_unsigned a b ((Equal-is (nat_cmp a b)).0 h)

pub key_test : (q t : ℕ) → eq_by_cmp nat_cmp q t ≡ (t == q)
key_test q t = by (eq_by_cmp nat_cmp q t) (t == q) refl refl
  where
    by : (a b : Bool) → eq_by_cmp nat_cmp q t ≡ a → (t == q) ≡ b → a ≡ b
    by true true p r = refl
    by false false p r = refl
    by true false p r = let same : q ≡ t = same_key q t p in let tie : (t == q) ≡ true = eq-eqb t q (sym same) in absurd cc
    by false true p r =
        let same : t ≡ q = eqb-true t q r in
        let tie : eq_by_cmp nat_cmp q t ≡ true = ap (λ (k : ℕ). eq_by_cmp nat_cmp q k) same ∙ ap is_eq (tied_itself nat_cmp_total q) in
        absurd cc

module _ {X : Type 0} where
  some_put : (b : Bool) (v : X) (o : Option X) → is_some (cond b (Some v) o) ≡ b || is_some o
  some_put true v o = refl
  some_put false v o = refl

  some_without : (b : Bool) (o : Option X) → is_some (cond b None o) ≡ not b && is_some o
  some_without true o = refl
  some_without false o = refl

  pub open_put : (m : List (ℕ × X)) (k : ℕ) (v : X) (q : ℕ) → is_open_in (put nat_cmp m k v) q ≡ (k == q || is_open_in m q)
  open_put m k v q =
      ap is_some (find-put nat_cmp_total m k v q) ∙ some_put (eq_by_cmp nat_cmp q k) v (find nat_cmp m q)
      ∙ ap (λ (b : Bool). b || is_open_in m q) (key_test q k)

  open_without : (m : List (ℕ × X)) (k q : ℕ) → is_open_in (without nat_cmp m k) q ≡ (not (k == q) && is_open_in m q)
  open_without m k q =
      ap is_some (find-without nat_cmp_total m k q) ∙ some_without (eq_by_cmp nat_cmp q k) (find nat_cmp m q)
      ∙ ap (λ (b : Bool). not b && is_open_in m q) (key_test q k)

  pub open_without_each : (ts : List ℕ) (m : List (ℕ × X)) (q : ℕ) → is_open_in (without_each m ts) q ≡ without_these q ts (is_open_in m q)
  open_without_each [] m q = refl
  open_without_each (t ∷ ts) m q =
      open_without_each ts (without nat_cmp m t) q ∙ ap (without_these q ts) (open_without m t q)

-- What is handed up, and what stays stored.
use Rattle.std.proofs.Common.{◌≡◌, ◌==◌, ℕ, ◌+◌, ◌<◌, ◌≤◌, Bool, true, false, cond, nat_lt, List, [], ◌∷◌, ◌++◌, refl, sym, ap, subst, arith}
use Rattle.std.specs.Cmp.{ranks}
use Rattle.std.specs.Ordering.{nat_cmp, match_ordering, MatchOrdering}
use Rattle.std.specs.declared.cmp.Ordering.{Ordering}
use Rattle.std.specs.declared.cmp.Ordering.TheVariants.{Less, Equal, Greater}
use Rattle.std.specs.BTreeMap.{insert_entry}
use Rattle.std.proofs.lemmas.Bool.Decides.{nat_tests}
use Rattle.tables.specs.Tables.{put}
use Rattle.pdcp_defs.specs.Receivers.{Delivery, deliver_from, with_packet}
use Rattle.um_defs.specs.Receivers.{up_to_reord}
use Rattle.law_um.specs.Sound.{IsWithin, IsRun, HasNone}

same_from : (a b : ℕ) → (a == b) ≡ true → a ≡ b
same_from a b h = grind (arith, nat_tests)

apart_from : (a b : ℕ) → (a == b) ≡ false → a ≡ b → ⊥
apart_from a b h e = grind (arith, nat_tests)

less_from : (a b : ℕ) → nat_lt a b ≡ true → a < b
less_from a b h = grind (arith, nat_tests)

pub least_from : (a b : ℕ) → nat_lt a b ≡ false → b ≤ a
least_from a b h = grind (arith, nat_tests)

-- ---- lists of COUNTs that rise

pub wider : {X : Type 0} (low high more : ℕ) (es : List (ℕ × X)) → high ≤ more → IsWithin low high es → IsWithin low more es
wider low high more [] h is = tt
wider low high more (e ∷ es) h is = (is.0, omega (arith, is.1, h), wider (e.0 + 1) high more es h is.2)

pub lower : {X : Type 0} (low less high : ℕ) (es : List (ℕ × X)) → less ≤ low → IsWithin low high es → IsWithin less high es
lower low less high [] h is = tt
lower low less high (e ∷ es) h is = (omega (arith, is.0, h), is.1, is.2)

pub within_put : {X : Type 0} (low high : ℕ) (es : List (ℕ × X)) (count : ℕ) (x : X) → IsWithin low high es → low ≤ count → count < high
    → IsWithin low high (put nat_cmp es count x)
unfolding put
within_put low high [] count x is from to = (from, to, tt)
within_put low high (e ∷ es) count x is from to =
    by (nat_cmp count e.0) (ranks count e.0) (λ h. within_put (e.0 + 1) high es count x is.2 h to)
  where
    by : (r : Ordering) → MatchOrdering r (count < e.0) (count ≡ e.0) (e.0 < count)
        → (e.0 + 1 ≤ count → IsWithin (e.0 + 1) high (insert_entry nat_cmp es count x))
        → IsWithin low high (match_ordering r ((count, x) ∷ e ∷ es) ((e.0, x) ∷ es) (e ∷ insert_entry nat_cmp es count x))
    by Less h later = (from, to, (omega (arith, h), is.1, is.2))
    by Equal h later = (is.0, is.1, is.2)
    by Greater h later = (is.0, is.1, later (omega (arith, h)))

-- ---- packets without a gap

pub record IsDelivered {X : Type 0} (low high : ℕ) (es : List (ℕ × X)) (d : Delivery X) : Type 0 where
  pub packets : IsRun low d.after.deliv d.packets
  pub stored : IsWithin (d.after.deliv + 1) high d.after.stored
  pub all : es ≡ d.packets ++ d.after.stored
  pub up : low ≤ d.after.deliv
  pub within : d.after.deliv ≤ high

pub delivered : {X : Type 0} (low high : ℕ) (es : List (ℕ × X)) → IsWithin low high es → low ≤ high → IsDelivered low high es (deliver_from low es)
delivered low high [] is h = record { packets = refl; stored = tt; all = refl; up = omega arith; within = h }
delivered low high (e ∷ es) is h =
    by (e.0 == low) refl
    (λ same. delivered (low + 1) high es (subst (λ n. IsWithin (n + 1) high es) same is.2) (omega (arith, is.1, same)))
  where
    by : (b : Bool) → (e.0 == low) ≡ b → (e.0 ≡ low → IsDelivered (low + 1) high es (deliver_from (low + 1) es))
        → IsDelivered low high (e ∷ es)
        (cond b (with_packet e (deliver_from (low + 1) es)) (record { packets = []; after = record { deliv = low; stored = e ∷ es } }))
    by true test later =
        let d = later (same_from e.0 low test) in
        record {
          packets = (same_from e.0 low test, d.packets);
          stored = d.stored;
          all = ap (λ gs. e ∷ gs) d.all;
          up = omega (arith, d.up);
          within = d.within;
        }
    by false test later =
        let apart : (e.0 ≡ low → ⊥) = apart_from e.0 low test in
        record {
          packets = refl;
          stored = (omega (arith, is.0, apart), is.1, is.2);
          all = refl;
          up = omega arith;
          within = h;
        }

-- ---- packets below RX_REORD, and those from it on without a gap

pub record IsHandedUp {X : Type 0} (low reord high : ℕ) (es : List (ℕ × X)) (d : Delivery X) : Type 0 where
  pub packets : IsWithin low d.after.deliv d.packets
  pub stored : IsWithin (d.after.deliv + 1) high d.after.stored
  pub all : es ≡ d.packets ++ d.after.stored
  pub up : reord ≤ d.after.deliv
  pub within : d.after.deliv ≤ high
  pub passed : (count : ℕ) → HasNone count es → count < d.after.deliv → count < reord

run_is_within : {X : Type 0} (low high : ℕ) (es : List (ℕ × X)) → low ≤ high → IsRun low high es → IsWithin low high es
run_is_within low high [] h is = tt
run_is_within low high (e ∷ es) h is =
    let rest = run_to (low + 1) high es is.1 in
    (omega (arith, is.0), omega (arith, is.0, rest), subst (λ n. IsWithin n high es) (ap (λ n. n + 1) (sym is.0)) (run_is_within (low + 1) high es rest is.1))
  where
    run_to : {X : Type 0} (low high : ℕ) (es : List (ℕ × X)) → IsRun low high es → low ≤ high
    run_to low high [] is = omega (arith, is)
    run_to low high (f ∷ fs) is = omega (arith, run_to (low + 1) high fs is.1)

pub run_has : {X : Type 0} (low high count : ℕ) (ps es : List (ℕ × X)) → IsRun low high ps → HasNone count (ps ++ es) → count < high → count < low
run_has low high count [] es is none h = omega (arith, is, h)
run_has low high count (p ∷ ps) es is none h =
    let later = run_has (low + 1) high count ps es is.1 none.1 h in
    let apart : (p.0 ≡ count → ⊥) = none.0 in
    omega (arith, later, apart, is.0)

pub handed : {X : Type 0} (low reord high : ℕ) (es : List (ℕ × X)) → IsWithin low high es → low ≤ reord → reord ≤ high
    → IsHandedUp low reord high es (up_to_reord reord es)
handed low reord high [] is h k = record { packets = tt; stored = tt; all = refl; up = omega arith; within = k; passed = λ count none less. less }
handed low reord high (e ∷ es) is h k =
    by (nat_lt e.0 reord) refl (λ less. handed (e.0 + 1) reord high es is.2 (omega (arith, less)) k)
  where
    by : (b : Bool) → nat_lt e.0 reord ≡ b → (e.0 < reord → IsHandedUp (e.0 + 1) reord high es (up_to_reord reord es))
        → IsHandedUp low reord high (e ∷ es) (cond b (with_packet e (up_to_reord reord es)) (deliver_from reord (e ∷ es)))
    by true test later =
        let d = later (less_from e.0 reord test) in
        record {
          packets = (is.0, omega (arith, less_from e.0 reord test, d.up), d.packets);
          stored = d.stored;
          all = ap (λ gs. e ∷ gs) d.all;
          up = d.up;
          within = d.within;
          passed = λ count none less. d.passed count none.1 less;
        }
    by false test later =
        let above = least_from e.0 reord test in
        let d = delivered reord high (e ∷ es) (above, is.1, is.2) k in
        let got = deliver_from reord (e ∷ es) in
        record {
          packets = lower reord low got.after.deliv got.packets h (run_is_within reord got.after.deliv got.packets d.up d.packets);
          stored = d.stored;
          all = d.all;
          up = d.up;
          within = d.within;
          passed = λ count none less. run_has reord got.after.deliv count got.packets got.after.stored d.packets (subst (HasNone count) d.all none) less;
        }

pub run_within : {X : Type 0} (low high : ℕ) (es : List (ℕ × X)) → low ≤ high → IsRun low high es → IsWithin low high es
run_within = run_is_within

-- ---- COUNTs that no packet has

pub none_past : {X : Type 0} (low high count : ℕ) (es : List (ℕ × X)) → IsWithin low high es → high ≤ count → HasNone count es
none_past low high count [] is h = tt
none_past low high count (e ∷ es) is h =
    ((λ same. let no : e.0 < high = is.1 in absurd (omega (arith, no, same, h))), none_past (e.0 + 1) high count es is.2 h)

pub none_both : {X : Type 0} (count : ℕ) (ps es : List (ℕ × X)) → HasNone count ps → HasNone count es → HasNone count (ps ++ es)
none_both count [] es none rest = rest
none_both count (p ∷ ps) es none rest = (none.0, none_both count ps es none.1 rest)

pub none_put : {X : Type 0} (count : ℕ) (es : List (ℕ × X)) (k : ℕ) (x : X) → HasNone count (put nat_cmp es k x) → HasNone count es
unfolding put
none_put count [] k x none = tt
none_put count (e ∷ es) k x none = by (nat_cmp k e.0) none (none_put count es k x)
  where
    by : (r : Ordering) → HasNone count (match_ordering r ((k, x) ∷ e ∷ es) ((e.0, x) ∷ es) (e ∷ insert_entry nat_cmp es k x))
        → (HasNone count (insert_entry nat_cmp es k x) → HasNone count es) → HasNone count (e ∷ es)
    by Less none later = none.1
    by Equal none later = (none.0, none.1)
    by Greater none later = (none.0, later none.1)

pub put_has : {X : Type 0} (es : List (ℕ × X)) (k : ℕ) (x : X) → HasNone k (put nat_cmp es k x) → ⊥
unfolding put
put_has [] k x none = none.0 refl
put_has (e ∷ es) k x none = by (nat_cmp k e.0) (ranks k e.0) none (put_has es k x)
  where
    by : (r : Ordering) → MatchOrdering r (k < e.0) (k ≡ e.0) (e.0 < k)
        → HasNone k (match_ordering r ((k, x) ∷ e ∷ es) ((e.0, x) ∷ es) (e ∷ insert_entry nat_cmp es k x))
        → (HasNone k (insert_entry nat_cmp es k x) → ⊥) → ⊥
    by Less is none later = none.0 refl
    by Equal is none later = none.0 (sym is)
    by Greater is none later = later none.1

pub none_put_other : {X : Type 0} (count : ℕ) (es : List (ℕ × X)) (k : ℕ) (x : X) → (k ≡ count → ⊥) → HasNone count es
    → HasNone count (put nat_cmp es k x)
unfolding put
none_put_other count [] k x other none = (other, tt)
none_put_other count (e ∷ es) k x other none = by (nat_cmp k e.0) (none_put_other count es k x other none.1)
  where
    by : (r : Ordering) → HasNone count (insert_entry nat_cmp es k x)
        → HasNone count (match_ordering r ((k, x) ∷ e ∷ es) ((e.0, x) ∷ es) (e ∷ insert_entry nat_cmp es k x))
    by Less later = (other, (none.0, none.1))
    by Equal later = (none.0, none.1)
    by Greater later = (none.0, later)

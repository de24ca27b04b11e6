-- What is stored, from its first packet on.
use Rattle.std.proofs.Common.{◌≡◌, ◌==◌, ℕ, ◌+◌, ◌≤◌, Bool, true, false, cond, not, nat_lt, List, [], ◌∷◌, ◌++◌, drop, Option, Some, None, refl, sym, ap, ◌∙◌, length, arith, subst, ◌<◌, ◌-◌, append_assoc}
use Rattle.std.specs.Option.{option_map}
use Rattle.std.specs.Ordering.{nat_cmp, is_eq, match_ordering, MatchOrdering}
use Rattle.std.specs.declared.cmp.Ordering.{Ordering}
use Rattle.std.specs.declared.cmp.Ordering.TheVariants.{Less, Equal, Greater}
use Rattle.std.specs.Cmp.{tied_itself, ranks}
use Rattle.std.specs.List.{filter, AllByRecursion}
use Rattle.std.specs.Map.{lookup, keys_of}
use Rattle.std.specs.BTreeMap.{is_at, insert_entry}
use Rattle.std.proofs.lemmas.Map.Keys.{sorted_head, sorted_tail}
use Rattle.std.proofs.lemmas.Cmp.{nat_cmp_total}
use Rattle.std.proofs.lemmas.List.{map-append}
use Rattle.std.proofs.lemmas.Bool.Decides.{nat_tests}
use Rattle.tables.specs.Tables.{find, put, without, first_entry, IsSorted}
use Rattle.pdcp.specs.Near.{last_count}
use Rattle.pdcp_defs.specs.Receivers.{deliver_from, with_packet}
use Rattle.um_defs.specs.declared.types.out.Out.{Out}
use Rattle.um_defs.specs.Receivers.{up_to_reord, entry, entries}
use Rattle.um.specs.um_pdcp.inside.Stored.{first_count, first_at, first_below, left_by, below, from}
use Rattle.um.specs.um_pdcp.Stored.{AreGiven}

abbrev pub key_in : {X : Type 0} → Option (ℕ × X) → Option ℕ
key_in None = None
key_in (Some e) = Some e.0

pub first_is : {X : Type 0} (es : List (ℕ × X)) → first_count es ≡ key_in (first_entry es)
unfolding first_entry
first_is [] = refl
first_is (e ∷ es) = refl

-- ---- the first packet is taken out

kept_all : {X : Type 0} (k : ℕ) (es : List (ℕ × X)) → AllByRecursion (λ y. nat_cmp k y ≡ Less) (keys_of es)
    → filter (λ e. not (is_at (nat_cmp k) e.0)) es ≡ es
kept_all k [] all = refl
kept_all k (e ∷ es) all =
    ap (λ (r : Ordering). cond (not (is_eq r)) (e ∷ filter (λ f. not (is_at (nat_cmp k) f.0)) es) (filter (λ f. not (is_at (nat_cmp k) f.0)) es)) all.0
    ∙ ap (λ (fs : List (_ × _)). e ∷ fs) (kept_all k es all.1)

pub without_first : {X : Type 0} (e : ℕ × X) (es : List (ℕ × X)) → IsSorted nat_cmp (e ∷ es) → without nat_cmp (e ∷ es) e.0 ≡ es
unfolding without
without_first e es sorted =
    ap (λ (r : Ordering). cond (not (is_eq r)) (e ∷ filter (λ f. not (is_at (nat_cmp e.0) f.0)) es) (filter (λ f. not (is_at (nat_cmp e.0) f.0)) es))
    (tied_itself nat_cmp_total e.0)
    ∙ kept_all e.0 es (sorted_head nat_cmp e.0 (keys_of es) sorted)

pub find_first : {X : Type 0} (e : ℕ × X) (es : List (ℕ × X)) → find nat_cmp (e ∷ es) e.0 ≡ Some e.1
unfolding find
find_first e es = ap (λ (r : Ordering). cond (is_eq r) (Some e.1) (lookup (is_at (nat_cmp e.0)) es)) (tied_itself nat_cmp_total e.0)

-- no packet is stored, or the first is found under its COUNT, and the others are left without it
pub none_first : {X : Type 0} (es : List (ℕ × X)) → first_count es ≡ None → first_entry es ≡ None
unfolding first_entry
none_first [] e = refl
none_first (x ∷ es) e = absurd (cc)

pub none_left : {X : Type 0} (es : List (ℕ × X)) → first_count es ≡ None → es ≡ drop 1 es
none_left [] e = refl
none_left (x ∷ es) e = absurd (cc)

pub found_first : {X : Type 0} (es : List (ℕ × X)) (count : ℕ) (x : Option X) → first_count es ≡ Some count
    → x ≡ find nat_cmp es count → option_map (λ p. (count, p)) x ≡ first_entry es
unfolding first_entry
found_first [] count x e h = absurd (cc)
found_first (f ∷ es) count x e h =
    let at : f.0 ≡ count = cc in
    ap (option_map (λ p. (count, p))) (h ∙ (ap (find nat_cmp (f ∷ es)) (sym at) ∙ find_first f es)) ∙ ap (λ (c : ℕ). Some (c, f.1)) (sym at)

pub left_first : {X : Type 0} (es : List (ℕ × X)) (count : ℕ) → IsSorted nat_cmp es → first_count es ≡ Some count
    → without nat_cmp es count ≡ drop 1 es
left_first [] count sorted e = absurd (cc)
left_first (f ∷ es) count sorted e =
    let at : f.0 ≡ count = cc in
    ap (without nat_cmp (f ∷ es)) (sym at) ∙ without_first f es sorted

-- ---- the first packet, where its COUNT is the one that is asked for

pub nothing_at : {X : Type 0} (count : ℕ) (es : List (ℕ × X)) → None ≡ first_count es → None ≡ first_at count es
nothing_at count [] e = refl
nothing_at count (f ∷ es) e = absurd (cc)

pub nothing_below : {X : Type 0} (count : ℕ) (es : List (ℕ × X)) → None ≡ first_count es → None ≡ first_below count es
nothing_below count [] e = refl
nothing_below count (f ∷ es) e = absurd (cc)

is_same : (a b : ℕ) → a ≡ b → (a == b) ≡ true
is_same a b h = grind (arith, nat_tests)

is_less : (a b : ℕ) → a < b → nat_lt a b ≡ true
is_less a b h = grind (arith, nat_tests)

pub same_first : {X : Type 0} (count first : ℕ) (es : List (ℕ × X)) → Some first ≡ first_count es → first ≡ count
    → first_entry es ≡ first_at count es
unfolding first_entry
same_first count first [] e same = absurd (cc)
same_first count first (f ∷ es) e same =
    let at : f.0 ≡ count = cc in
    sym (ap (λ b. cond b (Some f) None) (is_same f.0 count at))

pub is_below : {X : Type 0} (count first : ℕ) (es : List (ℕ × X)) → Some first ≡ first_count es → first < count
    → first_entry es ≡ first_below count es
unfolding first_entry
is_below count first [] e less = absurd (cc)
is_below count first (f ∷ es) e less =
    let at : f.0 < count = subst (λ n. n < count) (cc) less in
    sym (ap (λ b. cond b (Some f) None) (is_less f.0 count at))

-- ---- COUNTs that are given

pub given_left : {X : Type 0} (o : Option (ℕ × X)) (es : List (ℕ × X)) → AreGiven es → AreGiven (left_by o es)
given_left None es given = given
given_left (Some e) [] given = given
given_left (Some e) (f ∷ es) given = given.1

same_from : (a b : ℕ) → (a == b) ≡ true → a ≡ b
same_from a b h = grind (arith, nat_tests)

pub given_at : {X : Type 0} (count : ℕ) (es : List (ℕ × X)) (e : ℕ × X) → Some e ≡ first_at count es → AreGiven es → count ≤ last_count
given_at count [] e is given = absurd (cc)
given_at count (f ∷ es) e is given = by (f.0 == count) refl is
  where
    by : (b : Bool) → (f.0 == count) ≡ b → Some e ≡ cond b (Some f) None → count ≤ last_count
    by true same is = subst (λ n. n ≤ last_count) (same_from f.0 count same) given.0
    by false same is = absurd (cc)

pub given_put : {X : Type 0} (es : List (ℕ × X)) (count : ℕ) (x : X) → AreGiven es → count ≤ last_count → AreGiven (put nat_cmp es count x)
unfolding put
given_put [] count x given fits = (fits, tt)
given_put (e ∷ es) count x given fits = by (nat_cmp count e.0) (given_put es count x given.1 fits)
  where
    by : (r : Ordering) → AreGiven (insert_entry nat_cmp es count x) → AreGiven (match_ordering r ((count, x) ∷ e ∷ es) ((e.0, x) ∷ es) (e ∷ insert_entry nat_cmp es count x))
    by Less later = (fits, given)
    by Equal later = (given.0, given.1)
    by Greater later = (given.0, later)

-- ---- what is handed up

-- one packet is handed up, and then the others
pub one_up : {X : Type 0} (next : ℕ) (es fs : List (ℕ × X)) (e : ℕ × X) → Some e ≡ first_at next es → fs ≡ left_by (first_at next es) es
    → deliver_from next es ≡ with_packet e (deliver_from (next + 1) fs)
one_up next [] fs e is left = absurd (cc)
one_up next (f ∷ es) fs e is left = by (f.0 == next) refl is (left ∙ ap (λ o. left_by o (f ∷ es)) (sym is))
  where
    by : (b : Bool) → (f.0 == next) ≡ b → Some e ≡ cond b (Some f) None → fs ≡ es
        → cond b (with_packet f (deliver_from (next + 1) es)) (record { packets = []; after = record { deliv = next; stored = f ∷ es } })
        ≡ with_packet e (deliver_from (next + 1) fs)
    by true same is left =
        let first : f ≡ e = cc in
        ap (λ (g : ℕ × _). with_packet g (deliver_from (next + 1) es)) first ∙ ap (λ (gs : List (ℕ × _)). with_packet e (deliver_from (next + 1) gs)) (sym left)
    by false same is left = absurd (cc)

pub none_up : {X : Type 0} (next : ℕ) (es : List (ℕ × X)) → None ≡ first_at next es
    → deliver_from next es ≡ record { packets = []; after = record { deliv = next; stored = es } }
none_up next [] is = refl
none_up next (f ∷ es) is = by (f.0 == next) is
  where
    by : (b : Bool) → None ≡ cond b (Some f) None
        → cond b (with_packet f (deliver_from (next + 1) es)) (record { packets = []; after = record { deliv = next; stored = f ∷ es } })
        ≡ record { packets = []; after = record { deliv = next; stored = f ∷ es } }
    by true is = absurd (cc)
    by false is = refl

-- one packet below a COUNT is handed up, and then the others
pub one_below : {X : Type 0} (count : ℕ) (es fs : List (ℕ × X)) (e : ℕ × X) → Some e ≡ first_below count es → fs ≡ left_by (first_below count es) es
    → (below count es ≡ e ∷ below count fs) × (from count es ≡ from count fs)
one_below count [] fs e is left = absurd (cc)
one_below count (f ∷ es) fs e is left = by (nat_lt f.0 count) is (left ∙ ap (λ o. left_by o (f ∷ es)) (sym is))
  where
    by : (b : Bool) → Some e ≡ cond b (Some f) None → fs ≡ es
        → (cond b (f ∷ below count es) [] ≡ e ∷ below count fs) × (cond b (from count es) (f ∷ es) ≡ from count fs)
    by true is left =
        let first : f ≡ e = cc in
        (ap (λ (g : ℕ × _). g ∷ below count es) first ∙ ap (λ (gs : List (ℕ × _)). e ∷ below count gs) (sym left), ap (from count) (sym left))
    by false is left = absurd (cc)

pub none_below : {X : Type 0} (count : ℕ) (es : List (ℕ × X)) → None ≡ first_below count es → (below count es ≡ []) × (from count es ≡ es)
none_below count [] is = (refl, refl)
none_below count (f ∷ es) is = by (nat_lt f.0 count) is
  where
    by : (b : Bool) → None ≡ cond b (Some f) None → (cond b (f ∷ below count es) [] ≡ []) × (cond b (from count es) (f ∷ es) ≡ f ∷ es)
    by true is = absurd (cc)
    by false is = (refl, refl)

-- what the timer hands up is what is below, and then what follows without a gap
pub below_and_up : {X : Type 0} (reord : ℕ) (es : List (ℕ × X))
    → (up_to_reord reord es).packets ≡ below reord es ++ (deliver_from reord (from reord es)).packets
below_and_up reord [] = refl
below_and_up reord (e ∷ es) = by (nat_lt e.0 reord) (below_and_up reord es)
  where
    by : (b : Bool) → (up_to_reord reord es).packets ≡ below reord es ++ (deliver_from reord (from reord es)).packets → (cond b (with_packet e (up_to_reord reord es)) (deliver_from reord (e ∷ es))).packets
        ≡ cond b (e ∷ below reord es) [] ++ (deliver_from reord (cond b (from reord es) (e ∷ es))).packets
    by true later = ap (λ (gs : List (ℕ × _)). e ∷ gs) later
    by false later = refl

pub after_reord : {X : Type 0} (reord : ℕ) (es : List (ℕ × X)) → (up_to_reord reord es).after ≡ (deliver_from reord (from reord es)).after
after_reord reord [] = refl
after_reord reord (e ∷ es) = by (nat_lt e.0 reord) (after_reord reord es)
  where
    by : (b : Bool) → (up_to_reord reord es).after ≡ (deliver_from reord (from reord es)).after → (cond b (with_packet e (up_to_reord reord es)) (deliver_from reord (e ∷ es))).after
        ≡ (deliver_from reord (cond b (from reord es) (e ∷ es))).after
    by true later = later
    by false later = refl

-- one more entry
pub one_more : (xs : List Out) (x : Out) (es : List (ℕ × List ℕ)) → entries (xs ++ x ∷ []) ++ es ≡ entries xs ++ entry x ∷ es
one_more xs x es = ap (λ gs. gs ++ es) (map-append entry xs (x ∷ [])) ∙ append_assoc (entries xs) (entry x ∷ []) es

-- ---- how many COUNTs there are

above_head : (k y : ℕ) → nat_cmp k y ≡ Less → k < y
above_head k y h = by (nat_cmp k y) (ranks k y) h
  where
    by : (r : Ordering) → MatchOrdering r (k < y) (k ≡ y) (y < k) → r ≡ Less → k < y
    by Less is h = is
    by Equal is h = absurd (cc)
    by Greater is h = absurd (cc)

raised : {X : Type 0} (k : ℕ) (es : List (ℕ × X)) → AllByRecursion (λ y. nat_cmp k y ≡ Less) (keys_of es) → AllByRecursion (λ y. k + 1 ≤ y) (keys_of es)
raised k [] all = tt
raised k (f ∷ fs) all = (omega (arith, above_head k f.0 all.0), raised k fs all.1)

few_from : {X : Type 0} (low : ℕ) (es : List (ℕ × X)) → AllByRecursion (λ y. low ≤ y) (keys_of es) → IsSorted nat_cmp es → AreGiven es
    → length es ≤ last_count + 1 - low
few_from low [] all sorted given = omega arith
few_from low (e ∷ es) all sorted given =
    let rest = few_from (e.0 + 1) es (raised e.0 es (sorted_head nat_cmp e.0 (keys_of es) sorted)) (sorted_tail nat_cmp e.0 (keys_of es) sorted) given.1 in
    omega (arith, rest, all.0, given.0)

all_from_zero : {X : Type 0} (es : List (ℕ × X)) → AllByRecursion (λ y. 0 ≤ y) (keys_of es)
all_from_zero [] = tt
all_from_zero (e ∷ es) = (omega arith, all_from_zero es)

pub few : {X : Type 0} (es : List (ℕ × X)) → IsSorted nat_cmp es → AreGiven es → length es ≤ last_count + 1
few es sorted given = let most = few_from 0 es (all_from_zero es) sorted given in omega (arith, most)

-- What a receiver stores: COUNTs that rise from RX_DELIV on; and what it hands up.
use Rattle.std.proofs.Common.{inl, inr, ◌≡◌, ◌⊎◌, ℕ, ◌+◌, ◌<◌, ◌≤◌, max, Bool, true, false, ◌==◌, ◌||◌, nat_lt, cond, List, [], ◌∷◌, Option, Some, refl, sym, ap, ◌∙◌, eqb-true, arith}
use Rattle.std.specs.Prelude.{⊤, is_some}
use Rattle.std.specs.List.{AllByRecursion}
use Rattle.std.specs.declared.cmp.Ordering.TheVariants.{Less, Equal, Greater}
use Rattle.std.specs.Ordering.{nat_cmp, is_eq, match_ordering, eq_by_cmp}
use Rattle.std.proofs.lemmas.Cmp.{nat_cmp_total}
use Rattle.tables.specs.Tables.{find, put}
use Rattle.tables.proofs.TableLaws.{find-put, find-put-same}
use Rattle.intervals.specs.Intervals.{upto}
use Rattle.intervals.proofs.Intervals.{upto-nil, upto-cons}
use Rattle.pdcp_defs.specs.Receivers.{Receiver, Delivery, is_duplicate, deliver, deliver_from, with_packet}
use Rattle.law_downlink_order.proofs.chain.Facts.{pairs}
use Rattle.bearer_defs.specs.uplink_defs.Places.{has}
use Rattle.law_uplink_order.proofs.facts.Items.{IsRight, at_is}

unfoldable pub Rises : ℕ → List (ℕ × List ℕ) → Type 0
Rises n [] = ⊤
Rises n (e ∷ es) = (n ≤ e.0) × Rises (e.0 + 1) es

pub rises_less : (m n : ℕ) (es : List (ℕ × List ℕ)) → m ≤ n → Rises n es → Rises m es
unfolding Rises
rises_less m n [] l h = tt
rises_less m n (e ∷ es) l h = ((let k = h.0 in omega arith), h.1)

-- ---- one is stored

ordered : (i k : ℕ) (a b : Bool) → nat_lt i k ≡ a → (i == k) ≡ b → nat_cmp i k ≡ cond a Less (cond b Equal Greater)
ordered i k a b h e = rw (h, e)

pub rises_put : (n i : ℕ) (x : List ℕ) (es : List (ℕ × List ℕ)) → n ≤ i → Rises n es → Rises n (put nat_cmp es i x)
unfolding Rises put
rises_put n i x [] l h = (l, tt)
rises_put n i x (e ∷ es) l h = by (λ o. rises_put (e.0 + 1) i x es o h.1) (nat_lt i e.0) (i == e.0) refl refl
  where
    by : (e.0 + 1 ≤ i → Rises (e.0 + 1) (put nat_cmp es i x)) → (a b : Bool) → nat_lt i e.0 ≡ a → (i == e.0) ≡ b
        → Rises n (match_ordering (cond a Less (cond b Equal Greater)) ((i, x) ∷ e ∷ es) ((e.0, x) ∷ es) (e ∷ put nat_cmp es i x))
    by more true b less tie = (l, ((let k : i < e.0 = grind arith in omega arith), h.1))
    by more false true less tie = h
    by more false false less tie = (h.0, more (let k : e.0 < i = grind arith in omega arith))

pub right_put : (p : ℕ → List ℕ) (n i : ℕ) (x : List ℕ) (es : List (ℕ × List ℕ)) → (i < n) × (x ≡ p i)
    → AllByRecursion (IsRight p n) es → AllByRecursion (IsRight p n) (put nat_cmp es i x)
unfolding put
right_put p n i x [] r h = (r, tt)
right_put p n i x (e ∷ es) r h = by (right_put p n i x es r h.1) (nat_lt i e.0) (i == e.0) refl
  where
    by : AllByRecursion (IsRight p n) (put nat_cmp es i x) → (a b : Bool) → (i == e.0) ≡ b
        → AllByRecursion (IsRight p n) (match_ordering (cond a Less (cond b Equal Greater)) ((i, x) ∷ e ∷ es) ((e.0, x) ∷ es)
        (e ∷ put nat_cmp es i x))
    by more true b tie = (r, h)
    by more false true tie = ((h.0.0, (let k : i ≡ e.0 = eqb-true i e.0 tie in r.1 ∙ ap p k)), h.1)
    by more false false tie = (h.0, more)

-- ---- which COUNTs are stored then

has_cond : (t : Bool) (o : Option (List ℕ)) (x : List ℕ) → is_some (cond t (Some x) o) ≡ (t || is_some o)
has_cond true o x = refl
has_cond false o x = refl

pub has_put : (i j : ℕ) (x : List ℕ) (es : List (ℕ × List ℕ)) → has (put nat_cmp es i x) j ≡ (eq_by_cmp nat_cmp j i || has es j)
has_put i j x es = ap is_some (find-put nat_cmp_total es i x j) ∙ has_cond (eq_by_cmp nat_cmp j i) (find nat_cmp es j) x

pub has_more : (i j : ℕ) (x : List ℕ) (es : List (ℕ × List ℕ)) → has es j ≡ true → has (put nat_cmp es i x) j ≡ true
has_more i j x es h = has_put i j x es ∙ by (eq_by_cmp nat_cmp j i)
  where
    by : (t : Bool) → (t || has es j) ≡ true
    by true = refl
    by false = h

pub has_new : (i : ℕ) (x : List ℕ) (es : List (ℕ × List ℕ)) → has (put nat_cmp es i x) i ≡ true
has_new i x es = ap is_some (find-put-same nat_cmp_total es i x)

pub has_either : (i j : ℕ) (x : List ℕ) (es : List (ℕ × List ℕ)) → has (put nat_cmp es i x) j ≡ true → (j ≡ i) ⊎ (has es j ≡ true)
has_either i j x es h = by (eq_by_cmp nat_cmp j i) refl (sym (has_put i j x es) ∙ h)
  where
    by : (t : Bool) → eq_by_cmp nat_cmp j i ≡ t → (t || has es j) ≡ true → (j ≡ i) ⊎ (has es j ≡ true)
    by true t h = inl (at_is j i t)
    by false t h = inr h

-- a stored COUNT isn't below where they rise from
pub rises_has : (n i : ℕ) (es : List (ℕ × List ℕ)) → Rises n es → has es i ≡ true → n ≤ i
unfolding Rises find
rises_has n i [] h k = absurd cc
rises_has n i (e ∷ es) h k = by (rises_has (e.0 + 1) i es h.1) (is_eq (nat_cmp i e.0)) refl k
  where
    by : (has es i ≡ true → e.0 + 1 ≤ i) → (t : Bool) → is_eq (nat_cmp i e.0) ≡ t → is_some (cond t (Some e.1) (find nat_cmp es i)) ≡ true → n ≤ i
    by more true t k = let tie : i ≡ e.0 = at_is i e.0 t in let l = h.0 in omega arith
    by more false t k = let l = more k in let o = h.0 in omega arith

-- one that is no duplicate is new, and not below RX_DELIV
pub is_new : (r : Receiver (List ℕ)) (i : ℕ) → is_duplicate r i ≡ false → (r.deliv ≤ i) × (has r.stored i ≡ false)
unfolding is_duplicate
is_new r i h = by (nat_lt i r.deliv) refl h
  where
    by : (t : Bool) → nat_lt i r.deliv ≡ t → (t || has r.stored i) ≡ false → (r.deliv ≤ i) × (has r.stored i ≡ false)
    by true t h = absurd cc
    by false t h = (grind arith, h)

pub is_old : (r : Receiver (List ℕ)) (i : ℕ) → is_duplicate r i ≡ true → (i < r.deliv) ⊎ (has r.stored i ≡ true)
unfolding is_duplicate
is_old r i h = by (nat_lt i r.deliv) refl h
  where
    by : (t : Bool) → nat_lt i r.deliv ≡ t → (t || has r.stored i) ≡ true → (i < r.deliv) ⊎ (has r.stored i ≡ true)
    by true t h = inl (grind arith)
    by false t h = inr h

-- ---- what is handed up: all from RX_DELIV on without a gap

pub record Hands (p : ℕ → List ℕ) (reached n : ℕ) (es : List (ℕ × List ℕ)) (d : Delivery (List ℕ)) : Type 0 where
  pub packets_are : d.packets ≡ upto (pairs p) n d.after.deliv
  pub more : n ≤ d.after.deliv
  pub most : d.after.deliv ≤ max n reached
  pub rises : Rises (d.after.deliv + 1) d.after.stored
  pub right : AllByRecursion (IsRight p reached) d.after.stored
  pub keeps : (i : ℕ) → has es i ≡ true → (i < d.after.deliv) ⊎ (has d.after.stored i ≡ true)

hands_more : (p : ℕ → List ℕ) (reached n : ℕ) (e : ℕ × List ℕ) (es : List (ℕ × List ℕ)) (d : Delivery (List ℕ)) → e.0 ≡ n
    → IsRight p reached e → Hands p reached (n + 1) es d → Hands p reached n (e ∷ es) (with_packet e d)
unfolding find
hands_more p reached n e es d is r h = record {
  packets_are =
      (let k : n < d.after.deliv = (let l = h.more in omega arith) in
      let first : e ≡ (n, p n) = (λ i. (is i, (r.1 ∙ ap p is) i)) in
      rw (h.packets_are, first) (sym (upto-cons (pairs p) n d.after.deliv k)));
  more = (let l = h.more in omega arith);
  most = (let l = h.most in let k = r.0 in omega arith);
  rises = h.rises;
  right = h.right;
  keeps = λ i k. by i (is_eq (nat_cmp i e.0)) refl k;
}
  where
    by : (i : ℕ) (t : Bool) → is_eq (nat_cmp i e.0) ≡ t → is_some (cond t (Some e.1) (find nat_cmp es i)) ≡ true
        → (i < d.after.deliv) ⊎ (has d.after.stored i ≡ true)
    by i true t k = inl (let a = at_is i e.0 t in let l = h.more in omega arith)
    by i false t k = h.keeps i k

pub hands_from : (p : ℕ → List ℕ) (reached n : ℕ) (es : List (ℕ × List ℕ)) → Rises n es → AllByRecursion (IsRight p reached) es
    → Hands p reached n es (deliver_from n es)
unfolding Rises
hands_from p reached n [] h r = record {
  packets_are = sym (upto-nil (pairs p) n n (omega arith));
  more = omega arith;
  most = omega arith;
  rises = tt;
  right = tt;
  keeps = λ i k. inr k;
}
hands_from p reached n (e ∷ es) h r = by (λ o. hands_from p reached (n + 1) es (rises_less (n + 1) (e.0 + 1) es o h.1) r.1) (e.0 == n) refl
  where
    by : (n + 1 ≤ e.0 + 1 → Hands p reached (n + 1) es (deliver_from (n + 1) es)) → (t : Bool) → (e.0 == n) ≡ t
        → Hands p reached n (e ∷ es)
        (cond t (with_packet e (deliver_from (n + 1) es)) (record { packets = []; after = record { deliv = n; stored = e ∷ es } }))
    by rest true t =
        let is : e.0 ≡ n = eqb-true e.0 n t in
        hands_more p reached n e es (deliver_from (n + 1) es) is r.0 (rest (omega arith))
    by rest false t = record {
      packets_are = sym (upto-nil (pairs p) n n (omega arith));
      more = omega arith;
      most = omega arith;
      rises = ((let l = h.0 in let k : n < e.0 = grind arith in omega arith), h.1);
      right = r;
      keeps = λ i k. inr k;
    }

pub hands : (p : ℕ → List ℕ) (reached : ℕ) (r : Receiver (List ℕ)) → Rises r.deliv r.stored → AllByRecursion (IsRight p reached) r.stored
    → Hands p reached r.deliv r.stored (deliver r)
unfolding deliver
hands p reached r h k = hands_from p reached r.deliv r.stored h k

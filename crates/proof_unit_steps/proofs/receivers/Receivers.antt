-- What a receiver stores: a packet is put among the others, and those that are next are handed up.
use Rattle.std.proofs.Common.{◌≡◌, ◌≤◌, ◌<◌, ◌==◌, ℕ, ◌+◌, Bool, true, false, ◌&&◌, List, [], ◌∷◌, refl, sym, ap, subst, arith, eqb-true, eq-eqb}
use Rattle.std.specs.Prelude.{if◌then◌else◌}
use Rattle.std.specs.declared.cmp.Ordering.{Ordering}
use Rattle.std.specs.declared.cmp.Ordering.TheVariants.{Less, Equal, Greater}
use Rattle.std.specs.Ordering.{nat_cmp, match_ordering, MatchOrdering}
use Rattle.std.specs.Cmp.{ranks}
use Rattle.std.specs.BTreeMap.{insert_entry}
use Rattle.std.specs.List.{AllByRecursion}
use Rattle.tables.specs.Tables.{put}
use Rattle.pdcp_defs.specs.Receivers.{Receiver, with_packet, deliver_from, deliver}
use Rattle.unit_defs.specs.CuUpRecords.{CuUpFlags}
use Rattle.proof_unit_steps.specs.receivers.Ready.{Ascends, StoresAbove, CuUpStores}

abbrev Store : Type 0
Store = List (ℕ × List ℕ)

pub lower : (a b : ℕ) (es : Store) → a ≤ b → Ascends b es → Ascends a es
lower a b [] h p = tt
lower a b (e ∷ es) h p = (omega (arith, h, p.0), p.1)

pub put_ascends : (low : ℕ) (es : Store) (count : ℕ) (x : List ℕ) → Ascends low es → low ≤ count → Ascends low (put nat_cmp es count x)
unfolding put
put_ascends low [] count x p h = (h, tt)
put_ascends low (e ∷ es) count x p h = by (nat_cmp count e.0) (ranks count e.0) (put_ascends (e.0 + 1) es count x p.1)
  where
    by : (r : Ordering) → MatchOrdering r (count < e.0) (count ≡ e.0) (e.0 < count)
        → (e.0 + 1 ≤ count → Ascends (e.0 + 1) (insert_entry nat_cmp es count x))
        → Ascends low (match_ordering r ((count, x) ∷ e ∷ es) ((e.0, x) ∷ es) (e ∷ insert_entry nat_cmp es count x))
    by Less is more = (h, (omega (arith, is), p.1))
    by Equal is more = p
    by Greater is more = (p.0, more (omega (arith, is)))

apart_above : (d n : ℕ) → d ≤ n → (n == d) ≡ false → d + 1 ≤ n
apart_above d n h e = by (nat_cmp d n) (ranks d n)
  where
    by : (r : Ordering) → MatchOrdering r (d < n) (d ≡ n) (n < d) → d + 1 ≤ n
    by Less is = omega (arith, is)
    by Equal is = let tie : (n == d) ≡ true = eq-eqb n d (sym is) in absurd cc
    by Greater is = absurd (omega (arith, h, is))

delivered_above : (d : ℕ) (es : Store) → Ascends d es → StoresAbove (deliver_from d es).after
delivered_above d [] p = tt
delivered_above d (e ∷ es) p = by (e.0 == d) refl (delivered_above (d + 1) es)
  where
    by : (t : Bool) → (e.0 == d) ≡ t → (Ascends (d + 1) es → StoresAbove (deliver_from (d + 1) es).after)
        → StoresAbove (if t then with_packet e (deliver_from (d + 1) es) else record { packets = []; after = record { deliv = d; stored = e ∷ es } }).after
    by true at more = more (subst (λ (n : ℕ). Ascends (n + 1) es) (eqb-true e.0 d at) p.1)
    by false apart more = (apart_above d e.0 p.0 apart, p.1)

pub above_after : (r : Receiver (List ℕ)) → Ascends r.deliv r.stored → StoresAbove (deliver r).after
unfolding deliver
above_after r p = delivered_above r.deliv r.stored p

pub none_after : (r : Receiver (List ℕ)) → r.stored ≡ [] → (deliver r).after.stored ≡ []
unfolding deliver
none_after r none = ap (λ (es : Store). (deliver_from r.deliv es).after.stored) none

-- what is above a COUNT, one by one
pub each_above : (low : ℕ) (es : Store) → Ascends low es → AllByRecursion (λ (e : ℕ × List ℕ). low ≤ e.0) es
each_above low [] p = tt
each_above low (e ∷ es) p = let first : low ≤ e.0 = p.0 in (first, each_above low es (lower low (e.0 + 1) es (omega (arith, first)) p.1))

-- ---- at a CU-UP

pub with_none : (flags : CuUpFlags) (r : Receiver (List ℕ)) → r.stored ≡ [] → CuUpStores flags r
with_none flags r none = record {
  from = subst (λ (es : Store). Ascends r.deliv es) (sym none) tt;
  above = λ frozen. subst (λ (es : Store). Ascends (r.deliv + 1) es) (sym none) tt;
  none = λ without. none;
}

pub when_delivered : (old new : CuUpFlags) (r : Receiver (List ℕ)) → CuUpStores old r
    → (new.may_serve && new.arrived ≡ false → old.may_serve && old.arrived ≡ false) → CuUpStores new (deliver r).after
when_delivered old new r p before =
    let above : StoresAbove (deliver r).after = above_after r p.from in record {
      from = lower (deliver r).after.deliv ((deliver r).after.deliv + 1) (deliver r).after.stored (omega arith) above;
      above = λ frozen. above;
      none = λ without. none_after r (p.none (before without));
    }

pub when_frozen : (old new : CuUpFlags) (r : Receiver (List ℕ)) → CuUpStores old r → new.frozen ≡ true
    → (new.may_serve && new.arrived ≡ false → old.may_serve && old.arrived ≡ false) → CuUpStores new r
when_frozen old new r p frozen before = record { from = p.from; above = λ thawed. absurd cc; none = λ without. p.none (before without) }

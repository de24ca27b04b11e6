-- A receiver delivers the packet of the COUNT that it awaits, first of all.
use Rattle.std.proofs.Common.{◌≡◌, ◌≤◌, ◌<◌, ℕ, ◌+◌, Bool, true, false, cond, ◌||◌, List, [], ◌∷◌, Some, None, refl, sym, ap, ◌∙◌, subst, arith, eq-eqb}
use Rattle.std.specs.Prelude.{if◌then◌else◌, nat_lt, is_some}
use Rattle.std.specs.declared.cmp.Ordering.{Ordering}
use Rattle.std.specs.declared.cmp.Ordering.TheVariants.{Less}
use Rattle.std.specs.Ordering.{nat_cmp, match_ordering}
use Rattle.std.specs.Cmp.{nat_cmp_is, Equal-is}
use Rattle.std.specs.Map.{lookup}
use Rattle.std.specs.BTreeMap.{is_at, insert_entry}
use Rattle.std.specs.List.{AllByRecursion}
use Rattle.std.proofs.lemmas.Map.Lookups.{exact_unsigned}
use Rattle.tables.specs.Tables.{find, put}
use Rattle.pdcp_defs.specs.Receivers.{Receiver, is_duplicate, stored, with_packet, deliver_from, deliver}
use Rattle.law_downlink_scripts.specs.delivers.Awaited.{Awaits}

abbrev AreAbove : ℕ → List (ℕ × List ℕ) → Type 0
AreAbove count es = AllByRecursion (λ (e : ℕ × List ℕ). count + 1 ≤ e.0) es

is_less : (a b : ℕ) → a < b → nat_cmp a b ≡ Less
is_less a b h = sym (nat_cmp_is a b Less h)

comes_first : (count : ℕ) (p : List ℕ) (es : List (ℕ × List ℕ)) → AreAbove count es → put nat_cmp es count p ≡ (count, p) ∷ es
unfolding put
comes_first count p [] above = refl
comes_first count p (e ∷ es) above =
    ap (λ (r : Ordering). match_ordering r ((count, p) ∷ e ∷ es) ((e.0, p) ∷ es) (e ∷ insert_entry nat_cmp es count p))
    (is_less count e.0 (omega (arith, above.0)))

stands_nowhere : (count : ℕ) (es : List (ℕ × List ℕ)) → AreAbove count es → find nat_cmp es count ≡ None
unfolding find
stands_nowhere count [] above = refl
stands_nowhere count (e ∷ es) above = by (is_at (nat_cmp count) e.0) refl (stands_nowhere count es above.1)
  where
    by : (t : Bool) → is_at (nat_cmp count) e.0 ≡ t → lookup (is_at (nat_cmp count)) es ≡ None
        → cond t (Some e.1) (lookup (is_at (nat_cmp count)) es) ≡ None
    by true tie rest =
        let same : count ≡ e.0 = exact_unsigned count e.0 ((Equal-is (nat_cmp count e.0)).0 tie) in absurd (omega (arith, above.0))
    by false apart rest = rest

module _ (r : Receiver (List ℕ)) (count : ℕ) (awaits : Awaits r count) (p : List ℕ) where
  above : AreAbove count r.stored
  above = subst (λ (n : ℕ). AreAbove n r.stored) (sym awaits.0) awaits.1

  not_below : nat_lt count r.deliv ≡ false
  not_below = let same : count ≡ r.deliv = awaits.0 in grind arith

  pub no_duplicate : is_duplicate r count ≡ false
  unfolding is_duplicate
  no_duplicate =
      ap (λ (t : Bool). t || is_some (find nat_cmp r.stored count)) not_below ∙ ap is_some (stands_nowhere count r.stored above)

  pub is_delivered : (more : List (ℕ × List ℕ)) × ((deliver (stored r count p)).packets ≡ (count, p) ∷ more)
  unfolding deliver stored
  is_delivered = (
    (deliver_from (r.deliv + 1) r.stored).packets,
    ap (λ (es : List (ℕ × List ℕ)). (deliver_from r.deliv es).packets) (comes_first count p r.stored above)
        ∙ ap (λ (t : Bool). (if t then with_packet (count, p) (deliver_from (r.deliv + 1) r.stored)
        else record { packets = []; after = record { deliv = r.deliv; stored = (count, p) ∷ r.stored } }).packets) (eq-eqb count r.deliv awaits.0),
  )

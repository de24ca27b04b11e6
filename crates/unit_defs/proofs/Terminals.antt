-- What a CU-CP keeps of its terminals: all that is so of the table as it was and of the table with the entry is so of what is kept.
use Rattle.std.proofs.Common.{◌≡◌, ℕ, Bool, true, false, ◌&&◌, List, Option, Some, None, refl, sym, ap, ◌∙◌}
use Rattle.std.specs.Prelude.{is_none, is_some, not, if◌then◌else◌}
use Rattle.std.specs.Ordering.{eq_by_cmp}
use Rattle.gnb_types.specs.declared.names.UeId.{UeId}
use Rattle.gnb_types.specs.Orders.{ue_cmp}
use Rattle.gnb_types.proofs.OrderLemmas.{ue_total}
use Rattle.tables.specs.Tables.{find, put, IsSorted}
use Rattle.tables.proofs.TableLaws.{find-put-same, find-put-other, sorted-put}
use Rattle.unit_defs.specs.CuCpRecords.{CuCpContext, CuCpTerminal, no_terminal, terminal_in, is_blank, kept_terminals}

abbrev Terminals : Type 0
Terminals = List (UeId × CuCpTerminal)

both_none : (c : Option CuCpContext) (k : Option ℕ) → is_none c && is_none k ≡ true → ◌≡◌ {A = CuCpTerminal} (record { context = c; taken = k }) no_terminal
both_none None None h = refl
both_none None (Some k) h = absurd cc
both_none (Some c) k h = absurd cc

blank_is : (t : CuCpTerminal) → is_blank t ≡ true → t ≡ no_terminal
blank_is t h = both_none t.context t.taken h

-- where nothing is to be kept of a terminal that has no entry the table is as it was; else it has the entry
pub kept_so : (P : Terminals → Type 0) (ts : Terminals) (ue : UeId) (t : CuCpTerminal) → (t ≡ no_terminal → find ue_cmp ts ue ≡ None → P ts)
    → P (put ue_cmp ts ue t) → P (kept_terminals ts ue t)
kept_so P ts ue t stays puts = by (is_blank t) (find ue_cmp ts ue) refl refl
  where
    by : (b : Bool) (o : Option CuCpTerminal) → is_blank t ≡ b → find ue_cmp ts ue ≡ o → P (if b && not (is_some o) then ts else put ue_cmp ts ue t)
    by true None blank none = stays (blank_is t blank) none
    by true (Some x) blank there = puts
    by false o more there = puts

pub kept_here : (ts : Terminals) (ue : UeId) (t : CuCpTerminal) → terminal_in (find ue_cmp (kept_terminals ts ue t) ue) ≡ t
kept_here ts ue t =
    kept_so (λ (es : Terminals). terminal_in (find ue_cmp es ue) ≡ t) ts ue t (λ blank none. ap terminal_in none ∙ sym blank)
    (ap terminal_in (find-put-same ue_total ts ue t))

pub kept_apart : (ts : Terminals) (ue v : UeId) (t : CuCpTerminal) → eq_by_cmp ue_cmp v ue ≡ false → find ue_cmp (kept_terminals ts ue t) v ≡ find ue_cmp ts v
kept_apart ts ue v t apart =
    kept_so (λ (es : Terminals). find ue_cmp es v ≡ find ue_cmp ts v) ts ue t (λ blank none. refl) (find-put-other ue_total ts ue t v apart)

pub kept_sorted : (ts : Terminals) (ue : UeId) (t : CuCpTerminal) → IsSorted ue_cmp ts → IsSorted ue_cmp (kept_terminals ts ue t)
kept_sorted ts ue t sorted = kept_so (λ (es : Terminals). IsSorted ue_cmp es) ts ue t (λ blank none. sorted) (sorted-put ue_total ts ue t sorted)

-- A leg fails or is mended, or the mode changes.
use Rattle.std.proofs.Common.{◌≡◌, ℕ, Bool, true, false, cond, ◌&&◌, List, [], ◌++◌, refl, sym, ap, ◌∙◌, subst, arith}
use Rattle.std.specs.List.{AllByRecursion}
use Rattle.gnb_types.specs.declared.names.SnBits.{SnBits}
use Rattle.pdcp_defs.specs.Senders.{Sender}
use Rattle.pdcp_defs.specs.Receivers.{Receiver, is_duplicate}
use Rattle.dup_defs.specs.declared.types.leg.Leg.{Leg}
use Rattle.dup_defs.specs.declared.types.leg.Leg.TheVariants as legs
use Rattle.dup_defs.specs.declared.types.leg.Mode.{Mode}
use Rattle.dup_defs.specs.declared.types.line.DupLine.{DupLine}
use Rattle.dup_defs.specs.declared.types.line.DupRefusal.TheVariants as refusals
use Rattle.dup_defs.specs.Senders.{DupSender, gives, serves, in_mode, is_up, all_on, with_leg, leg_is, brings_up, with_mode, enters, mode_is}
use Rattle.dup_defs.specs.dup_run_defs.Run.{LegItems, DupRun, DupOutcome, goes_on, no_items, items_of, with_items, with_puts, puts_out, lost_lines, size_of, lose_all, refused, lines_first, and_then, fails, mends, leaves, same_mode, changes_mode}
use Rattle.law_dup.specs.events.Counted.{AreOf, AreCounted, delivered_in}
use Rattle.law_dup.specs.events.Kept.{IsCarried, IsLeg, KeepsLeg, IsKept}
use Rattle.law_dup.proofs.events.Lists.{of_added}
use Rattle.law_dup.proofs.events.Numbering.{over, puts_append, NumbersGood}
use Rattle.law_dup.proofs.events.Outcomes.{lost_nothing, delivered_append, puts_all, Good, puts_good, no_lines, refused_good, same_receiver}
use Rattle.law_dup.proofs.events.Legs.{up_good}

-- ---- a leg by whether it serves

-- one that is down holds nothing
none_kept : (r : Receiver (List ℕ)) (low next : ℕ) (b : Bool) → KeepsLeg r low next (b && false) no_items
none_kept r low next true = (refl, refl)
none_kept r low next false = (refl, refl)

down_empty : (r : Receiver (List ℕ)) (low next : ℕ) (b u : Bool) (items : LegItems) → u ≡ false → KeepsLeg r low next (b && u) items
    → (items.carried ≡ []) × (items.coming ≡ [])
down_empty r low next true false items down keeps = keeps
down_empty r low next false false items down keeps = keeps
down_empty r low next b true items down keeps = cc

-- all that is unconfirmed is put on it
abbrev grow : LegItems → List (ℕ × List ℕ) → LegItems
grow items es = record items { coming = items.coming ++ es }

filled : (r : Receiver (List ℕ)) (low next : ℕ) (items : LegItems) (es : List (ℕ × List ℕ)) → (items.carried ≡ []) × (items.coming ≡ [])
    → AreCounted low next es → IsLeg r low next (grow items es)
filled r low next items es empty counted = record {
  high = low;
  above = omega arith;
  carried = subst (λ (cs : List ℕ). IsCarried low low cs) (sym empty.0) (omega arith);
  came = subst (λ (cs : List ℕ). AllByRecursion (λ c. is_duplicate r c ≡ true) cs) (sym empty.0) tt;
  coming = subst (λ (xs : List (ℕ × List ℕ)). AreCounted low next (xs ++ es)) (sym empty.1) counted;
}

of_filled : (packets : List (List ℕ)) (items : LegItems) (es : List (ℕ × List ℕ)) → AreOf packets items.coming → AreOf packets es
    → AreOf packets (grow items es).coming
of_filled packets items es all more = of_added packets items.coming es all more

-- what a leg holds after the mode has changed: whether the old mode had it, whether the new one has it, and whether it is up
abbrev stays : Bool → LegItems → LegItems
stays b items = cond b items no_items

abbrev entered : Bool → Bool → Bool → List (ℕ × List ℕ) → LegItems → LegItems
entered a b u es items = cond a (stays b items) (cond (b && u) (grow (stays b items) es) (stays b items))

entered_kept : (r : Receiver (List ℕ)) (low next : ℕ) (a b u : Bool) (es : List (ℕ × List ℕ)) (items : LegItems) → KeepsLeg r low next (a && u) items
    → AreCounted low next es → KeepsLeg r low next (b && u) (entered a b u es items)
entered_kept r low next true true u es items keeps counted = keeps
entered_kept r low next true false u es items keeps counted = (refl, refl)
entered_kept r low next false true true es items keeps counted = filled r low next items es keeps counted
entered_kept r low next false true false es items keeps counted = keeps
entered_kept r low next false false u es items keeps counted = (refl, refl)

of_entered : (packets : List (List ℕ)) (a b u : Bool) (es : List (ℕ × List ℕ)) (items : LegItems) → AreOf packets items.coming → AreOf packets es
    → AreOf packets (entered a b u es items).coming
of_entered packets true true u es items all more = all
of_entered packets true false u es items all more = tt
of_entered packets false true true es items all more = of_filled packets items es all more
of_entered packets false true false es items all more = all
of_entered packets false false true es items all more = tt
of_entered packets false false false es items all more = tt

-- where nothing is put on a leg it stays as it is
abbrev grown_if : Bool → Bool → List (ℕ × List ℕ) → LegItems → LegItems
grown_if a c es items = cond a items (cond c (grow items es) items)

puts_first_leg : (a c : Bool) (es : List (ℕ × List ℕ)) (t : DupRun)
    → with_puts (cond a [] (cond c (all_on legs.First es) [])) t ≡ record t { first = grown_if a c es t.first }
puts_first_leg true c es t = refl
puts_first_leg false true es t = puts_all legs.First es t
puts_first_leg false false es t = refl

puts_second_leg : (a c : Bool) (es : List (ℕ × List ℕ)) (t : DupRun)
    → with_puts (cond a [] (cond c (all_on legs.Second es) [])) t ≡ record t { second = grown_if a c es t.second }
puts_second_leg true c es t = refl
puts_second_leg false true es t = puts_all legs.Second es t
puts_second_leg false false es t = refl

-- a leg that the new mode lacks loses what it has
abbrev lines_if : Bool → Leg → DupRun → List DupLine
lines_if b leg s = cond b [] (lost_lines leg (size_of (items_of leg s)))

leaves_first : (b : Bool) (s : DupRun) → cond b (goes_on [] s) (lose_all legs.First s) ≡ goes_on (lines_if b legs.First s) (record s { first = stays b s.first })
leaves_first true s = refl
leaves_first false s = refl

leaves_second : (b : Bool) (s : DupRun)
    → cond b (goes_on [] s) (lose_all legs.Second s) ≡ goes_on (lines_if b legs.Second s) (record s { second = stays b s.second })
leaves_second true s = refl
leaves_second false s = refl

lines_nothing : (b : Bool) (leg : Leg) (s : DupRun) → delivered_in (lines_if b leg s) ≡ []
lines_nothing true leg s = refl
lines_nothing false leg s = lost_nothing leg (size_of (items_of leg s))

module _ (sn : SnBits) (quota : ℕ) (packets : List (List ℕ)) (s : DupRun) (kept : IsKept sn quota packets s) where
  abbrev Kept : DupRun → Type 0
  Kept t = IsKept sn quota packets t

  abbrev next : ℕ
  next = s.entity.sender.next

  abbrev held : List (ℕ × List ℕ)
  held = s.entity.sender.unconfirmed

  abbrev r : Receiver (List ℕ)
  r = s.receiver

  -- the same run with other legs and another entity that has numbered the same
  legs_kept : (e : DupSender) (first second : LegItems) → e.sender ≡ s.entity.sender → e.waiting ≡ s.entity.waiting
      → KeepsLeg r kept.base.low next (serves e legs.First) first → AreOf packets first.coming
      → KeepsLeg r kept.base.low next (serves e legs.Second) second → AreOf packets second.coming
      → Kept (record { entity = e; first = first; second = second; receiver = s.receiver })
  legs_kept e first second sender waiting keeps_first of_first keeps_second of_second =
      let base = kept.base in
      let now : DupSender = record e { sender = s.entity.sender; waiting = s.entity.waiting } in
      let same : now ≡ e =
      ap (λ (x : Sender (List ℕ)). record e { sender = x; waiting = s.entity.waiting }) (sym sender)
      ∙ ap (λ (w : List (List ℕ)). record e { waiting = w }) (sym waiting) in
      subst (λ (x : DupSender). Kept (record { entity = x; first = first; second = second; receiver = s.receiver })) same
      (record {
        base = record {
          low = base.low;
          numbered = base.numbered;
          waiting = base.waiting;
          counts = base.counts;
          unconfirmed = base.unconfirmed;
          held = base.held;
          near = base.near;
          first = keeps_first;
          first_of = of_first;
          second = keeps_second;
          second_of = of_second;
          confirmed = base.confirmed;
          given = base.given;
          above = base.above;
          below = base.below;
          stored = base.stored;
        };
        full = kept.full;
      })

  -- ---- a leg fails

  failed : (leg : Leg) → Kept (over (with_items leg no_items s) (with_leg leg false s.entity))
  failed legs.First =
      legs_kept (with_leg legs.First false s.entity) no_items s.second refl refl (none_kept r kept.base.low next (in_mode s.entity.mode legs.First)) tt
      kept.base.second kept.base.second_of
  failed legs.Second =
      legs_kept (with_leg legs.Second false s.entity) s.first no_items refl refl kept.base.first kept.base.first_of
      (none_kept r kept.base.low next (in_mode s.entity.mode legs.Second)) tt

  entity_kept : (leg : Leg) (items : LegItems) → (with_items leg items s).entity ≡ s.entity
  entity_kept legs.First items = refl
  entity_kept legs.Second items = refl

  pub fail_good : (leg : Leg) → Good sn quota packets s.receiver.deliv (fails sn leg s)
  unfolding fails leg_is
  fail_good leg =
      up_good sn quota packets s kept leg (and_then (lose_all leg s) (λ t. puts_out sn t (leg_is leg false t.entity)))
      (λ up. puts_good sn quota packets (lost_lines leg (size_of (items_of leg s))) s (with_items leg no_items s)
      (gives [] (with_leg leg false (with_items leg no_items s).entity)) (lost_nothing leg (size_of (items_of leg s))) (same_receiver sn quota leg no_items s)
      (subst (λ (e : DupSender). Kept (over (with_items leg no_items s) (with_leg leg false e))) (sym (entity_kept leg no_items)) (failed leg)))

  -- ---- a leg is mended

  mended : (leg : Leg) → is_up s.entity leg ≡ false → NumbersGood sn quota packets s (brings_up leg s.entity)
  mended legs.First down = by (in_mode s.entity.mode legs.First) refl
    where
      on : DupSender
      on = with_leg legs.First true s.entity

      empty : (s.first.carried ≡ []) × (s.first.coming ≡ [])
      empty = down_empty r kept.base.low next (in_mode s.entity.mode legs.First) s.entity.first_up s.first down kept.base.first

      by : (b : Bool) → in_mode s.entity.mode legs.First ≡ b → Kept (with_puts (cond (b && true) (all_on legs.First held) []) (over s on))
      by true is =
          subst (λ (t : DupRun). Kept t) (sym (puts_all legs.First held (over s on)))
          (legs_kept on (grow s.first held) s.second refl refl
          (subst (λ (b : Bool). KeepsLeg r kept.base.low next (b && true) (grow s.first held)) (sym is)
          (filled r kept.base.low next s.first held empty kept.base.unconfirmed))
          (of_filled packets s.first held kept.base.first_of kept.base.held) kept.base.second kept.base.second_of)
      by false is =
          legs_kept on s.first s.second refl refl
          (subst (λ (b : Bool). KeepsLeg r kept.base.low next (b && true) s.first) (sym is) empty) kept.base.first_of kept.base.second kept.base.second_of
  mended legs.Second down = by (in_mode s.entity.mode legs.Second) refl
    where
      on : DupSender
      on = with_leg legs.Second true s.entity

      empty : (s.second.carried ≡ []) × (s.second.coming ≡ [])
      empty = down_empty r kept.base.low next (in_mode s.entity.mode legs.Second) s.entity.second_up s.second down kept.base.second

      by : (b : Bool) → in_mode s.entity.mode legs.Second ≡ b → Kept (with_puts (cond (b && true) (all_on legs.Second held) []) (over s on))
      by true is =
          subst (λ (t : DupRun). Kept t) (sym (puts_all legs.Second held (over s on)))
          (legs_kept on s.first (grow s.second held) refl refl kept.base.first kept.base.first_of
          (subst (λ (b : Bool). KeepsLeg r kept.base.low next (b && true) (grow s.second held)) (sym is)
          (filled r kept.base.low next s.second held empty kept.base.unconfirmed))
          (of_filled packets s.second held kept.base.second_of kept.base.held))
      by false is =
          legs_kept on s.first s.second refl refl kept.base.first kept.base.first_of
          (subst (λ (b : Bool). KeepsLeg r kept.base.low next (b && true) s.second) (sym is) empty) kept.base.second_of

  pub mend_good : (leg : Leg) → Good sn quota packets s.receiver.deliv (mends sn leg s)
  unfolding mends leg_is
  mend_good leg = by (is_up s.entity leg) refl
    where
      by : (b : Bool) → is_up s.entity leg ≡ b
          → Good sn quota packets s.receiver.deliv
          (cond b (refused refusals.Up s) (puts_out sn s (cond b (gives [] s.entity) (brings_up leg s.entity))))
      by true up = refused_good sn quota packets refusals.Up s kept
      by false down =
          subst (λ (o : DupOutcome). Good sn quota packets s.receiver.deliv o) (no_lines sn quota (puts_out sn s (brings_up leg s.entity)))
          (puts_good sn quota packets [] s s (brings_up leg s.entity) refl refl (mended leg down))

  -- ---- the mode changes

  module _ (mode : Mode) where
    abbrev on : DupSender
    on = with_mode mode s.entity

    abbrev left : DupRun
    left = record s { first = stays (in_mode mode legs.First) s.first; second = stays (in_mode mode legs.Second) s.second }

    mode_numbers : NumbersGood sn quota packets left
        (gives (enters s.entity.mode on legs.First ++ enters s.entity.mode on legs.Second) on)
    mode_numbers =
        let a = in_mode s.entity.mode legs.First in
        let b = in_mode mode legs.First in
        let c = in_mode s.entity.mode legs.Second in
        let d = in_mode mode legs.Second in
        let t : DupRun = over left on in
        let u : DupRun = record t { first = grown_if a (b && s.entity.first_up) held t.first } in
        subst (λ (x : DupRun). Kept x)
        (sym
        (puts_append (enters s.entity.mode on legs.First) (enters s.entity.mode on legs.Second) t
        ∙ (ap (with_puts (enters s.entity.mode on legs.Second)) (puts_first_leg a (b && s.entity.first_up) held t)
        ∙ puts_second_leg c (d && s.entity.second_up) held u)))
        (legs_kept on (entered a b s.entity.first_up held s.first) (entered c d s.entity.second_up held s.second) refl refl
        (entered_kept r kept.base.low next a b s.entity.first_up held s.first kept.base.first kept.base.unconfirmed)
        (of_entered packets a b s.entity.first_up held s.first kept.base.first_of kept.base.held)
        (entered_kept r kept.base.low next c d s.entity.second_up held s.second kept.base.second kept.base.unconfirmed)
        (of_entered packets c d s.entity.second_up held s.second kept.base.second_of kept.base.held))

    changed_good : Good sn quota packets s.receiver.deliv
        (and_then (and_then (leaves mode legs.First s) (leaves mode legs.Second)) (λ t. puts_out sn t (mode_is mode t.entity)))
    unfolding mode_is
    changed_good =
        let first : DupRun = record s { first = stays (in_mode mode legs.First) s.first } in
        let lines = lines_if (in_mode mode legs.First) legs.First s ++ lines_if (in_mode mode legs.Second) legs.Second first in
        subst
        (λ (o : DupOutcome). Good sn quota packets s.receiver.deliv (and_then (and_then o (leaves mode legs.Second)) (λ t. puts_out sn t (mode_is mode t.entity))))
        (sym (leaves_first (in_mode mode legs.First) s))
        (subst
        (λ (o : DupOutcome). Good sn quota packets s.receiver.deliv
        (and_then (lines_first (lines_if (in_mode mode legs.First) legs.First s) o) (λ t. puts_out sn t (mode_is mode t.entity))))
        (sym (leaves_second (in_mode mode legs.Second) first))
        (puts_good sn quota packets lines s left
        (gives (enters s.entity.mode on legs.First ++ enters s.entity.mode on legs.Second) on)
        (delivered_append (lines_if (in_mode mode legs.First) legs.First s) (lines_if (in_mode mode legs.Second) legs.Second first)
        ∙ (ap (λ es. es ++ delivered_in (lines_if (in_mode mode legs.Second) legs.Second first)) (lines_nothing (in_mode mode legs.First) legs.First s)
        ∙ lines_nothing (in_mode mode legs.Second) legs.Second first)) refl mode_numbers))

    pub mode_good : Good sn quota packets s.receiver.deliv (changes_mode sn mode s)
    unfolding changes_mode
    mode_good = by (same_mode mode s.entity.mode)
      where
        by : (b : Bool) → Good sn quota packets s.receiver.deliv
            (cond b (refused refusals.Same s)
            (and_then (and_then (leaves mode legs.First s) (leaves mode legs.Second)) (λ t. puts_out sn t (mode_is mode t.entity))))
        by true = refused_good sn quota packets refusals.Same s kept
        by false = changed_good

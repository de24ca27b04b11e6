-- What events of legs leave of a run: an item is carried, confirmed or lost, a leg fails or is mended, the mode changes.
use Rattle.std.proofs.Common.{◌≡◌, ℕ, ◌+◌, ◌-◌, ◌%◌, ◌<◌, ◌≤◌, Bool, true, false, cond, max, List, [], ◌∷◌, ◌++◌, length, Option, Some, refl, sym, ap, ◌∙◌, subst, arith}
use Rattle.std.specs.List.{AllByRecursion}
use Rattle.gnb_types.specs.declared.names.SnBits.{SnBits}
use Rattle.gnb_types.specs.declared.names.SnBits.TheVariants.{Len12, Len18}
use Rattle.pdcp.specs.Numbers.{space, half}
use Rattle.pdcp_defs.specs.Counts.{near_count, count_below}
use Rattle.pdcp_defs.specs.Senders.{confirmed_to}
use Rattle.pdcp_defs.specs.Receivers.{Receiver, is_duplicate, stored, deliver}
use Rattle.pdcp_entities.proofs.NearLemmas.{found_from}
use Rattle.dup_defs.specs.declared.types.leg.Leg.{Leg}
use Rattle.dup_defs.specs.declared.types.leg.Leg.TheVariants as legs
use Rattle.dup_defs.specs.declared.types.line.DupLine.TheVariants as lines
use Rattle.dup_defs.specs.declared.types.line.DupRefusal.TheVariants as refusals
use Rattle.dup_defs.specs.Senders.{DupSender, serves, is_up, confirmed, confirmed_at}
use Rattle.dup_defs.specs.dup_run_defs.Run.{LegItems, DupRun, DupOutcome, goes_on, items_of, with_items, other, puts_out, lost_lines, refused, lines_first, and_then, got, handed_up, received, carried_one, carry, loses_up_to, confirmed_one, confirm, where_up, asked, is_quiet}
use Rattle.law_dup.specs.events.Counted.{AreOf, AreCounted}
use Rattle.law_dup.specs.events.Kept.{IsCarried, KeepsLeg, IsOpen, IsKept, AreNear}
use Rattle.law_dup.proofs.events.Lists.{of_above, counted_up, counted_one, above, above_counted, carried_raised}
use Rattle.law_dup.proofs.events.Numbering.{over, NumbersGood, waiting_good}
use Rattle.law_dup.proofs.events.Deliveries.{had_now, had_below}
use Rattle.law_dup.proofs.events.Outcomes.{lost_nothing, delivers_all, Good, quiet_good, puts_good, refused_good, found, leg_of, with_leg_kept, taken_kept, taken_lines, leg_carried, items_receiver, same_receiver, remainder_again}

module _ (sn : SnBits) (quota : ℕ) (packets : List (List ℕ)) (s : DupRun) (kept : IsKept sn quota packets s) where
  items_kept : (leg : Leg) (r : Receiver (List ℕ)) → items_of leg (record s { receiver = r }) ≡ items_of leg s
  items_kept legs.First r = refl
  items_kept legs.Second r = refl

  -- ---- an item is carried

  module _ (leg : Leg) (e : ℕ × List ℕ) (es : List (ℕ × List ℕ)) (coming : (items_of leg s).coming ≡ e ∷ es) where
    abbrev moved : LegItems
    moved = record { carried = (items_of leg s).carried ++ e.0 ∷ []; coming = es }

    all_now : AreOf packets (e ∷ es)
    all_now = subst (λ (xs : List (ℕ × List ℕ)). AreOf packets xs) coming (leg_of sn quota leg packets s kept.base).1

    -- the leg then, whatever the receiver is that had the item
    keeps_moved : (r : Receiver (List ℕ)) (low : ℕ) (b : Bool) → KeepsLeg r low s.entity.sender.next b (items_of leg s) → is_duplicate r e.0 ≡ true
        → KeepsLeg r low s.entity.sender.next b moved
    keeps_moved r low true keeps had = leg_carried sn quota r low s.entity.sender.next (items_of leg s) e es keeps coming had
    keeps_moved r low false keeps had = absurd (nothing (sym coming ∙ keeps.1))
      where
        nothing : e ∷ es ≡ [] → ⊥
        nothing is = cc

    -- the item is numbered, and not below what is confirmed
    placed : (b : Bool) → KeepsLeg s.receiver kept.base.low s.entity.sender.next b (items_of leg s)
        → (kept.base.low ≤ e.0) × (e.0 < s.entity.sender.next)
    placed true keeps =
        let counted = subst (λ (xs : List (ℕ × List ℕ)). AreCounted keeps.high s.entity.sender.next xs) coming keeps.coming in
        let one = counted_one keeps.high s.entity.sender.next e es counted in
        let up = keeps.above in
        let is : e.0 ≡ keeps.high = counted.0 in
        (omega (arith, up, is), omega (arith, one, is))
    placed false keeps = absurd (nothing (sym coming ∙ keeps.1))
      where
        nothing : e ∷ es ≡ [] → ⊥
        nothing is = cc

    keeps_now : KeepsLeg s.receiver kept.base.low s.entity.sender.next (serves s.entity leg) (items_of leg s)
    keeps_now = (leg_of sn quota leg packets s kept.base).0

    place : (kept.base.low ≤ e.0) × (e.0 < s.entity.sender.next)
    place = placed (serves s.entity leg) keeps_now

    carried_good : Good sn quota packets s.receiver.deliv
        (lines_first (got sn leg e ∷ []) (received e.1 (with_items leg moved s) (near_count sn s.receiver.deliv (e.0 % space sn))))
    carried_good =
        subst
        (λ (o : Option ℕ). Good sn quota packets s.receiver.deliv (lines_first (got sn leg e ∷ []) (received e.1 (with_items leg moved s) o)))
        (sym (found sn quota packets s kept.base e.0 place.0 place.1))
        (subst
        (λ (r : Receiver (List ℕ)). Good sn quota packets s.receiver.deliv (lines_first (got sn leg e ∷ [])
        (cond (is_duplicate r e.0) (goes_on (lines.DropDuplicate ∷ []) (with_items leg moved s)) (handed_up (with_items leg moved s) (deliver (stored r e.0 e.1))))))
        (sym (same_receiver sn quota leg moved s)) (by (is_duplicate s.receiver e.0) refl))
      where
        taken : Receiver (List ℕ)
        taken = (deliver (stored s.receiver e.0 e.1)).after

        by : (b : Bool) → is_duplicate s.receiver e.0 ≡ b
            → Good sn quota packets s.receiver.deliv (lines_first (got sn leg e ∷ [])
            (cond b (goes_on (lines.DropDuplicate ∷ []) (with_items leg moved s)) (handed_up (with_items leg moved s) (deliver (stored s.receiver e.0 e.1)))))
        by true had =
            quiet_good sn quota packets (got sn leg e ∷ lines.DropDuplicate ∷ []) s (with_items leg moved s) refl (same_receiver sn quota leg moved s)
            (with_leg_kept sn quota leg moved packets s kept (keeps_moved s.receiver kept.base.low (serves s.entity leg) keeps_now had) all_now.1)
        by false new =
            let now = taken_kept sn quota packets s kept e.0 e.1 all_now.0 place.1 new in
            let lines = taken_lines sn quota packets s kept e.0 e.1 all_now.0 in
            let all = delivers_all (deliver (stored s.receiver e.0 e.1)).packets in (
              subst (λ (t : DupRun). IsKept sn quota packets t) (sym (items_receiver sn quota leg moved s taken))
                  (with_leg_kept sn quota leg moved packets (record s { receiver = taken }) now
                  (keeps_moved taken now.base.low (serves s.entity leg)
                  (subst (λ (i : LegItems). KeepsLeg taken now.base.low s.entity.sender.next (serves s.entity leg) i) (items_kept leg taken)
                  (leg_of sn quota leg packets (record s { receiver = taken }) now.base).0)
                  (had_now s.receiver e.0 e.1)) all_now.1),
              subst (λ (xs : List (ℕ × List ℕ)). AreCounted s.receiver.deliv taken.deliv xs) (sym all) lines.0,
              subst (λ (xs : List (ℕ × List ℕ)). AreOf packets xs) (sym all) lines.1,
            )

  pub carry_good : (leg : Leg) → Good sn quota packets s.receiver.deliv (carry sn leg s)
  carry_good leg = by (items_of leg s).coming refl
    where
      by : (es : List (ℕ × List ℕ)) → (items_of leg s).coming ≡ es → Good sn quota packets s.receiver.deliv (carried_one sn leg s (items_of leg s) es)
      by [] coming = refused_good sn quota packets refusals.Empty s kept
      by (e ∷ es) coming = carried_good leg e es coming

  -- ---- the oldest carried item is confirmed

  module _ (near : AreNear sn s) (leg : Leg) (c : ℕ) (cs : List ℕ) (carried : (items_of leg s).carried ≡ c ∷ cs) where
    abbrev left : LegItems
    left = record (items_of leg s) { carried = cs }

    -- what is known of it
    pub record IsOldest : Type 0 where
      pub low : c ≤ kept.base.low
      pub numbered : c < s.entity.sender.next
      pub within : s.entity.sender.next ≤ c + half sn
      pub had : is_duplicate s.receiver c ≡ true

    near_of : (l : Leg) → AllByRecursion (λ x. s.entity.sender.next ≤ x + half sn) (items_of l s).carried
    near_of legs.First = near.first
    near_of legs.Second = near.second

    oldest_at : (b : Bool) → KeepsLeg s.receiver kept.base.low s.entity.sender.next b (items_of leg s) → IsOldest
    oldest_at true keeps =
        let steps = subst (λ (xs : List ℕ). IsCarried kept.base.low keeps.high xs) carried keeps.carried in
        let came = subst (λ (xs : List ℕ). AllByRecursion (λ x. is_duplicate s.receiver x ≡ true) xs) carried keeps.came in
        let nears = subst (λ (xs : List ℕ). AllByRecursion (λ x. s.entity.sender.next ≤ x + half sn) xs) carried (near_of leg) in
        let up = counted_up keeps.high s.entity.sender.next (items_of leg s).coming keeps.coming in
        let under : c < keeps.high = steps.1 in
        record { low = steps.0; numbered = omega (arith, under, up); within = nears.0; had = came.0 }
    oldest_at false keeps = absurd (nothing (sym carried ∙ keeps.0))
      where
        nothing : c ∷ cs ≡ [] → ⊥
        nothing is = cc

    oldest : IsOldest
    oldest = oldest_at (serves s.entity leg) (leg_of sn quota leg packets s kept.base).0

    -- its COUNT is found from its number
    half_space : (t : SnBits) → half t ≤ space t
    half_space Len12 = omega arith
    half_space Len18 = omega arith

    confirms : count_below sn s.entity.sender.next (c % space sn) ≡ Some c
    unfolding count_below
    confirms =
        let short = half_space sn in
        let within = oldest.within in
        let numbered = oldest.numbered in
        let counts = kept.base.counts in
        found_from sn s.entity.sender.next (c % space sn) c (omega (arith, short, within)) (omega (arith, numbered)) (sym (remainder_again sn quota sn c))
        (omega (arith, counts, numbered))

    abbrev raised : ℕ
    raised = max kept.base.low (c + 1)

    -- it was delivered, and so may be forgotten
    delivered : raised ≤ s.receiver.deliv
    delivered =
        let low = oldest.low in
        let confirmed = kept.base.confirmed in
        let under = had_below s.receiver c kept.base.above oldest.had (omega (arith, low, confirmed)) in
        omega (arith, under, confirmed)

    -- the leg without it
    own_leg : (b : Bool) → KeepsLeg s.receiver kept.base.low s.entity.sender.next b (items_of leg s) → KeepsLeg s.receiver raised s.entity.sender.next b left
    own_leg true keeps =
        let steps = subst (λ (xs : List ℕ). IsCarried kept.base.low keeps.high xs) carried keeps.carried in
        let came = subst (λ (xs : List ℕ). AllByRecursion (λ x. is_duplicate s.receiver x ≡ true) xs) carried keeps.came in
        let under : c < keeps.high = steps.1 in
        let above = keeps.above in
        record { high = keeps.high; above = omega (arith, under, above); carried = steps.2; came = came.1; coming = keeps.coming }
    own_leg false keeps = absurd (nothing (sym carried ∙ keeps.0))
      where
        nothing : c ∷ cs ≡ [] → ⊥
        nothing is = cc

    -- the other leg without what it has no more to carry
    other_leg : (b : Bool) (items : LegItems) → KeepsLeg s.receiver kept.base.low s.entity.sender.next b items
        → KeepsLeg s.receiver raised s.entity.sender.next b (record items { coming = above c items.coming })
    other_leg true items keeps =
        let low = oldest.low in
        record {
          high = max keeps.high (c + 1);
          above = (let up = keeps.above in omega (arith, up));
          carried = carried_raised kept.base.low raised keeps.high (max keeps.high (c + 1)) items.carried (omega arith) (omega arith) (omega (arith, low)) keeps.carried;
          came = keeps.came;
          coming = above_counted c keeps.high s.entity.sender.next items.coming keeps.coming oldest.numbered;
        }
    other_leg false items keeps = (keeps.0, ap (above c) keeps.1)

    abbrev after : DupSender
    after = record s.entity { sender = confirmed_to s.entity.sender c }

    confirmed_base : (l : Leg) (mine others : LegItems) → KeepsLeg s.receiver raised s.entity.sender.next (serves s.entity l) mine
        → KeepsLeg s.receiver raised s.entity.sender.next (serves s.entity (other l)) others
        → AreOf packets mine.coming → AreOf packets others.coming
        → IsOpen sn quota packets (over (with_items (other l) others (with_items l mine s)) after)
    unfolding confirmed_to
    confirmed_base legs.First mine others keeps_mine keeps_others of_mine of_others = let base = kept.base in record {
      low = raised;
      numbered = base.numbered;
      waiting = base.waiting;
      counts = base.counts;
      unconfirmed = above_counted c base.low s.entity.sender.next s.entity.sender.unconfirmed base.unconfirmed oldest.numbered;
      held = of_above packets c s.entity.sender.unconfirmed base.held;
      near = (let near = base.near in omega (arith, near));
      first = keeps_mine;
      first_of = of_mine;
      second = keeps_others;
      second_of = of_others;
      confirmed = delivered;
      given = base.given;
      above = base.above;
      below = base.below;
      stored = base.stored;
    }
    confirmed_base legs.Second mine others keeps_mine keeps_others of_mine of_others = let base = kept.base in record {
      low = raised;
      numbered = base.numbered;
      waiting = base.waiting;
      counts = base.counts;
      unconfirmed = above_counted c base.low s.entity.sender.next s.entity.sender.unconfirmed base.unconfirmed oldest.numbered;
      held = of_above packets c s.entity.sender.unconfirmed base.held;
      near = (let near = base.near in omega (arith, near));
      first = keeps_others;
      first_of = of_others;
      second = keeps_mine;
      second_of = of_mine;
      confirmed = delivered;
      given = base.given;
      above = base.above;
      below = base.below;
      stored = base.stored;
    }

    others_same : (l : Leg) (items : LegItems) → items_of (other l) (with_items l items s) ≡ items_of (other l) s
    others_same legs.First items = refl
    others_same legs.Second items = refl

    entity_same : (l : Leg) (mine others : LegItems) → (with_items (other l) others (with_items l mine s)).entity ≡ s.entity
    entity_same legs.First mine others = refl
    entity_same legs.Second mine others = refl

    receiver_same : (l : Leg) (mine others : LegItems) → (with_items (other l) others (with_items l mine s)).receiver ≡ s.receiver
    receiver_same legs.First mine others = refl
    receiver_same legs.Second mine others = refl

    abbrev right : LegItems → LegItems
    right items = record items { coming = above c items.coming }

    abbrev lost : LegItems → DupRun
    lost items = with_items (other leg) (right items) (with_items leg left s)

    numbers : NumbersGood sn quota packets (lost (items_of (other leg) s)) (confirmed sn quota (c % space sn) (lost (items_of (other leg) s)).entity)
    unfolding confirmed
    numbers =
        let mine = leg_of sn quota leg packets s kept.base in
        let others = leg_of sn quota (other leg) packets s kept.base in
        subst
        (λ (e : DupSender). NumbersGood sn quota packets (lost (items_of (other leg) s)) (confirmed_at sn quota e (count_below sn e.sender.next (c % space sn))))
        (sym (entity_same leg left (right (items_of (other leg) s))))
        (subst (λ (o : Option ℕ). NumbersGood sn quota packets (lost (items_of (other leg) s)) (confirmed_at sn quota s.entity o)) (sym confirms)
        (waiting_good sn quota packets after (lost (items_of (other leg) s))
        (confirmed_base leg left (right (items_of (other leg) s)) (own_leg (serves s.entity leg) mine.0)
        (other_leg (serves s.entity (other leg)) (items_of (other leg) s) others.0) mine.1 (of_above packets c (items_of (other leg) s).coming others.1))))

    pub confirmed_good : Good sn quota packets s.receiver.deliv (confirmed_one sn quota leg s (items_of leg s) (c ∷ cs))
    confirmed_good =
        subst
        (λ (o : Option ℕ). Good sn quota packets s.receiver.deliv
        (and_then (loses_up_to (other leg) o (with_items leg left s)) (λ t. puts_out sn t (confirmed sn quota (c % space sn) t.entity))))
        (sym confirms)
        (subst
        (λ (items : LegItems). Good sn quota packets s.receiver.deliv
        (lines_first (lost_lines (other leg) (length items.coming - length (above c items.coming)))
        (puts_out sn (lost items) (confirmed sn quota (c % space sn) (lost items).entity))))
        (sym (others_same leg left))
        (puts_good sn quota packets
        (lost_lines (other leg) (length (items_of (other leg) s).coming - length (above c (items_of (other leg) s).coming))) s
        (lost (items_of (other leg) s)) (confirmed sn quota (c % space sn) (lost (items_of (other leg) s)).entity)
        (lost_nothing (other leg) (length (items_of (other leg) s).coming - length (above c (items_of (other leg) s).coming)))
        (receiver_same leg left (right (items_of (other leg) s))) numbers))

  pub confirm_good : AreNear sn s → (leg : Leg) → Good sn quota packets s.receiver.deliv (confirm sn quota leg s)
  confirm_good near leg = by (items_of leg s).carried refl
    where
      by : (cs : List ℕ) → (items_of leg s).carried ≡ cs → Good sn quota packets s.receiver.deliv (confirmed_one sn quota leg s (items_of leg s) cs)
      by [] carried = refused_good sn quota packets refusals.Empty s kept
      by (c ∷ cs) carried = confirmed_good near leg c cs carried

  -- ---- the question, and what is refused where a leg is down

  pub ask_good : Good sn quota packets s.receiver.deliv (asked s)
  ask_good = by (is_quiet s)
    where
      by : (b : Bool) → Good sn quota packets s.receiver.deliv (goes_on (cond b (lines.Quiet s.receiver.deliv) lines.Busy ∷ []) s)
      by true = quiet_good sn quota packets (lines.Quiet s.receiver.deliv ∷ []) s s refl refl kept
      by false = quiet_good sn quota packets (lines.Busy ∷ []) s s refl refl kept

  pub up_good : (leg : Leg) (does : DupOutcome) → (is_up s.entity leg ≡ true → Good sn quota packets s.receiver.deliv does)
      → Good sn quota packets s.receiver.deliv (where_up leg s does)
  up_good leg does good = by (is_up s.entity leg) refl
    where
      by : (b : Bool) → is_up s.entity leg ≡ b → Good sn quota packets s.receiver.deliv (cond b does (refused refusals.Down s))
      by true up = good up
      by false up = refused_good sn quota packets refusals.Down s kept

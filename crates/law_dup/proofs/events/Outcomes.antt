-- What each event leaves of a run, and what it delivers.
use Rattle.std.proofs.Common.{◌≡◌, ◌==◌, ℕ, ◌+◌, ◌%◌, ◌<◌, ◌≤◌, Bool, true, false, cond, ◌||◌, nat_lt, List, [], ◌∷◌, ◌++◌, map, Some, refl, sym, ap, ◌∙◌, subst, arith, append-nil, length-append}
use Rattle.std.specs.Prelude.{slice_get, is_some}
use Rattle.std.specs.Ordering.{nat_cmp}
use Rattle.tables.specs.Tables.{find, put}
use Rattle.std.proofs.lemmas.Bool.Decides.{nat_tests}
use Rattle.std.proofs.lemmas.List.{drop-append-le}
use Rattle.gnb_types.specs.declared.names.SnBits.{SnBits}
use Rattle.gnb_types.specs.declared.names.SnBits.TheVariants.{Len12, Len18}
use Rattle.pdcp.specs.Numbers.{space, half}
use Rattle.pdcp_defs.specs.Counts.{near_count}
use Rattle.pdcp_defs.specs.Senders.{window}
use Rattle.pdcp_defs.specs.Receivers.{Receiver, is_duplicate, stored, deliver}
use Rattle.pdcp_entities.proofs.NearLemmas.{near_is}
use Rattle.dup_defs.specs.declared.types.leg.Leg.{Leg}
use Rattle.dup_defs.specs.declared.types.leg.Leg.TheVariants as legs
use Rattle.dup_defs.specs.declared.types.line.DupLine.{DupLine}
use Rattle.dup_defs.specs.declared.types.line.DupLine.TheVariants as lines
use Rattle.dup_defs.specs.declared.types.line.DupRefusal.{DupRefusal}
use Rattle.dup_defs.specs.Senders.{DupSender, DupPut, DupNumbers, gives, spends, serves, all_on, number_waiting, offered}
use Rattle.dup_defs.specs.dup_run_defs.Run.{LegItems, DupRun, DupOutcome, goes_on, counts_spent, items_of, with_items, added, with_put, with_puts, put_line, puts_out, lost_lines, refused, lines_first}
use Rattle.law_dup.specs.events.Counted.{AreOf, AreCounted, delivered_by, delivered_in}
use Rattle.law_dup.specs.events.Kept.{IsCarried, IsLeg, KeepsLeg, IsOpen, IsKept}
use Rattle.law_dup.proofs.events.Lists.{of_more, carried_more, all_more, all_as, all_put, from_put}
use Rattle.law_dup.proofs.events.Numbering.{over, NumbersGood, waiting_good}
use Rattle.law_dup.proofs.events.Deliveries.{delivers_counted, delivers_of, delivers_above, delivers_below, delivers_up, still_had}

-- ---- lines that deliver nothing

pub puts_deliver_nothing : (sn : SnBits) (puts : List DupPut) → delivered_in (map (put_line sn) puts) ≡ []
puts_deliver_nothing sn [] = refl
puts_deliver_nothing sn (p ∷ ps) = puts_deliver_nothing sn ps

pub delivered_append : (xs ys : List DupLine) → delivered_in (xs ++ ys) ≡ delivered_in xs ++ delivered_in ys
delivered_append [] ys = refl
delivered_append (x ∷ xs) ys = ap (λ es. delivered_by x ++ es) (delivered_append xs ys) ∙ sym (append_three (delivered_by x) (delivered_in xs) (delivered_in ys))
  where
    append_three : (ks bs cs : List (ℕ × List ℕ)) → (ks ++ bs) ++ cs ≡ ks ++ (bs ++ cs)
    append_three [] bs cs = refl
    append_three (a ∷ ks) bs cs = ap (λ xs. a ∷ xs) (append_three ks bs cs)

pub lost_nothing : (leg : Leg) (items : ℕ) → delivered_in (lost_lines leg items) ≡ []
lost_nothing leg items = by (items == 0)
  where
    by : (b : Bool) → delivered_in (cond b [] (lines.Lost leg items ∷ [])) ≡ []
    by true = refl
    by false = refl

pub delivers_all : (es : List (ℕ × List ℕ)) → delivered_in (map (λ e. lines.Deliver e.0 e.1) es) ≡ es
delivers_all [] = refl
delivers_all (e ∷ es) = ap (λ xs. e ∷ xs) (delivers_all es)

-- ---- the receiver of a run where packets are put

put_receiver : (x : DupPut) (s : DupRun) → (with_put s x).receiver ≡ s.receiver
put_receiver x s = by x.leg
  where
    by : (leg : Leg) → (with_items leg (added (items_of leg s) x.count x.packet) s).receiver ≡ s.receiver
    by legs.First = refl
    by legs.Second = refl

pub puts_receiver : (xs : List DupPut) (s : DupRun) → (with_puts xs s).receiver ≡ s.receiver
puts_receiver [] s = refl
puts_receiver (x ∷ xs) s = puts_receiver xs (with_put s x) ∙ put_receiver x s

-- all of a list, on one leg
abbrev pub all_added : Leg → List (ℕ × List ℕ) → DupRun → DupRun
all_added legs.First es s = record s { first = record s.first { coming = s.first.coming ++ es } }
all_added legs.Second es s = record s { second = record s.second { coming = s.second.coming ++ es } }

more_after : (ks : List (ℕ × List ℕ)) (e : ℕ × List ℕ) (es : List (ℕ × List ℕ)) → (ks ++ e ∷ []) ++ es ≡ ks ++ e ∷ es
more_after [] e es = refl
more_after (a ∷ ks) e es = ap (λ xs. a ∷ xs) (more_after ks e es)

pub puts_all : (leg : Leg) (es : List (ℕ × List ℕ)) (s : DupRun) → with_puts (all_on leg es) s ≡ all_added leg es s
puts_all legs.First [] s = ap (λ (xs : List (ℕ × List ℕ)). record s { first = record s.first { coming = xs } }) (sym (append-nil s.first.coming))
puts_all legs.Second [] s = ap (λ (xs : List (ℕ × List ℕ)). record s { second = record s.second { coming = xs } }) (sym (append-nil s.second.coming))
puts_all legs.First (e ∷ es) s =
    puts_all legs.First es (with_items legs.First (added s.first e.0 e.1) s)
    ∙ ap (λ (xs : List (ℕ × List ℕ)). record s { first = record s.first { coming = xs } }) (more_after s.first.coming e es)
puts_all legs.Second (e ∷ es) s =
    puts_all legs.Second es (with_items legs.Second (added s.second e.0 e.1) s)
    ∙ ap (λ (xs : List (ℕ × List ℕ)). record s { second = record s.second { coming = xs } }) (more_after s.second.coming e es)

module _ (sn : SnBits) (quota : ℕ) where
  -- an outcome is good where these packets were accepted, and this COUNT was awaited before
  abbrev pub Good : List (List ℕ) → ℕ → DupOutcome → Type 0
  Good packets deliv counts_spent = Unit {0}
  Good packets deliv (goes_on printed s) =
      IsKept sn quota packets s × AreCounted deliv s.receiver.deliv (delivered_in printed) × AreOf packets (delivered_in printed)

  -- nothing is delivered
  pub quiet_good : (packets : List (List ℕ)) (printed : List DupLine) (s t : DupRun) → delivered_in printed ≡ [] → t.receiver ≡ s.receiver
      → IsKept sn quota packets t → Good packets s.receiver.deliv (goes_on printed t)
  quiet_good packets printed s t none same kept = (
    kept,
    subst (λ (es : List (ℕ × List ℕ)). AreCounted s.receiver.deliv t.receiver.deliv es) (sym none) (ap (λ (r : Receiver (List ℕ)). r.deliv) (sym same)),
    subst (λ (es : List (ℕ × List ℕ)). AreOf packets es) (sym none) tt,
  )

  pub puts_good : (packets : List (List ℕ)) (before : List DupLine) (s t : DupRun) (r : DupNumbers) → delivered_in before ≡ [] → t.receiver ≡ s.receiver
      → NumbersGood sn quota packets t r → Good packets s.receiver.deliv (lines_first before (puts_out sn t r))
  puts_good packets before s t spends none same good = tt
  puts_good packets before s t (gives puts after) none same good =
      quiet_good packets (before ++ map (put_line sn) puts) s (with_puts puts (over t after))
      (delivered_append before (map (put_line sn) puts) ∙ (ap (λ es. es ++ delivered_in (map (put_line sn) puts)) none ∙ puts_deliver_nothing sn puts))
      (puts_receiver puts (over t after) ∙ same) good

  pub no_lines : (o : DupOutcome) → lines_first [] o ≡ o
  no_lines (goes_on printed s) = refl
  no_lines counts_spent = refl

  pub refused_good : (packets : List (List ℕ)) (reason : DupRefusal) (s : DupRun) → IsKept sn quota packets s → Good packets s.receiver.deliv (refused reason s)
  refused_good packets reason s kept = quiet_good packets (lines.Refused reason ∷ []) s s refl refl kept

  -- ---- a packet is offered

  leg_offered : (r : Receiver (List ℕ)) (low next : ℕ) (b : Bool) (items : LegItems) → KeepsLeg r low next b items → KeepsLeg r low next b items
  leg_offered r low next b items leg = leg

  offered_base : (packets : List (List ℕ)) (packet : List ℕ) (s : DupRun) → IsOpen sn quota packets s
      → IsOpen sn quota (packets ++ packet ∷ []) (over s (record s.entity { waiting = s.entity.waiting ++ packet ∷ [] }))
  offered_base packets packet s base =
      let n = s.entity.sender.next in
      let size = length-append packets (packet ∷ []) in
      let within = base.numbered in
      record {
        low = base.low;
        numbered = omega (arith, size, within);
        waiting = drop-append-le n packets (packet ∷ []) within ∙ ap (λ ws. ws ++ packet ∷ []) base.waiting;
        counts = base.counts;
        unconfirmed = base.unconfirmed;
        held = of_more packets (packet ∷ []) s.entity.sender.unconfirmed base.held;
        near = base.near;
        first = base.first;
        first_of = of_more packets (packet ∷ []) s.first.coming base.first_of;
        second = base.second;
        second_of = of_more packets (packet ∷ []) s.second.coming base.second_of;
        confirmed = base.confirmed;
        given = base.given;
        above = base.above;
        below = base.below;
        stored = of_more packets (packet ∷ []) s.receiver.stored base.stored;
      }

  pub accepted_good : (packets : List (List ℕ)) (packet : List ℕ) (s : DupRun) → IsKept sn quota packets s
      → Good (packets ++ packet ∷ []) s.receiver.deliv (puts_out sn s (offered sn quota packet s.entity))
  unfolding offered
  accepted_good packets packet s kept =
      let e : DupSender = record s.entity { waiting = s.entity.waiting ++ packet ∷ [] } in
      subst (λ (o : DupOutcome). Good (packets ++ packet ∷ []) s.receiver.deliv o) (no_lines (puts_out sn s (number_waiting sn quota e)))
      (puts_good (packets ++ packet ∷ []) [] s s (number_waiting sn quota e) refl refl
      (waiting_good sn quota (packets ++ packet ∷ []) e s (offered_base packets packet s kept.base)))

  -- ---- an item is carried

  pub remainder_again : (t : SnBits) (count : ℕ) → count % space t % space t ≡ count % space t
  remainder_again Len12 count = omega arith
  remainder_again Len18 count = omega arith

  pub window_short : (t : SnBits) → window t quota + 1 ≤ half t
  window_short Len12 = omega arith
  window_short Len18 = omega arith

  -- the COUNT of an item that is carried is found
  pub found : (packets : List (List ℕ)) (s : DupRun) (base : IsOpen sn quota packets s) (high : ℕ) → base.low ≤ high → high < s.entity.sender.next
      → near_count sn s.receiver.deliv (high % space sn) ≡ Some high
  found packets s base high up under =
      let short = window_short sn in
      let near = base.near in
      let confirmed = base.confirmed in
      let given = base.given in
      let counts = base.counts in
      near_is sn s.receiver.deliv (high % space sn) high
      (record {
        same = sym (remainder_again sn high);
        low = omega (arith, short, near, confirmed, given, up);
        high = omega (arith, short, near, confirmed, under);
        given = omega (arith, counts, under);
      })

  -- ---- a run with other items on a leg, or another receiver

  pub leg_of : (leg : Leg) (packets : List (List ℕ)) (s : DupRun) (base : IsOpen sn quota packets s)
      → KeepsLeg s.receiver base.low s.entity.sender.next (serves s.entity leg) (items_of leg s) × AreOf packets (items_of leg s).coming
  leg_of legs.First packets s base = (base.first, base.first_of)
  leg_of legs.Second packets s base = (base.second, base.second_of)

  pub with_leg_kept : (leg : Leg) (items : LegItems) (packets : List (List ℕ)) (s : DupRun) (kept : IsKept sn quota packets s)
      → KeepsLeg s.receiver kept.base.low s.entity.sender.next (serves s.entity leg) items → AreOf packets items.coming
      → IsKept sn quota packets (with_items leg items s)
  with_leg_kept legs.First items packets s kept keeps all = let base = kept.base in record {
    base = record {
      low = base.low;
      numbered = base.numbered;
      waiting = base.waiting;
      counts = base.counts;
      unconfirmed = base.unconfirmed;
      held = base.held;
      near = base.near;
      first = keeps;
      first_of = all;
      second = base.second;
      second_of = base.second_of;
      confirmed = base.confirmed;
      given = base.given;
      above = base.above;
      below = base.below;
      stored = base.stored;
    };
    full = kept.full;
  }
  with_leg_kept legs.Second items packets s kept keeps all = let base = kept.base in record {
    base = record {
      low = base.low;
      numbered = base.numbered;
      waiting = base.waiting;
      counts = base.counts;
      unconfirmed = base.unconfirmed;
      held = base.held;
      near = base.near;
      first = base.first;
      first_of = base.first_of;
      second = keeps;
      second_of = all;
      confirmed = base.confirmed;
      given = base.given;
      above = base.above;
      below = base.below;
      stored = base.stored;
    };
    full = kept.full;
  }

  pub leg_had : (r t : Receiver (List ℕ)) (low next : ℕ) → ((c : ℕ) → is_duplicate r c ≡ true → is_duplicate t c ≡ true) → (b : Bool) (items : LegItems)
      → KeepsLeg r low next b items → KeepsLeg t low next b items
  leg_had r t low next more true items leg = record {
    high = leg.high;
    above = leg.above;
    carried = leg.carried;
    came = all_as (λ c. is_duplicate r c ≡ true) (λ c. is_duplicate t c ≡ true) more items.carried leg.came;
    coming = leg.coming;
  }
  leg_had r t low next more false items leg = leg

  -- a packet is taken, and what can be is delivered
  pub taken_kept : (packets : List (List ℕ)) (s : DupRun) (kept : IsKept sn quota packets s) (count : ℕ) (packet : List ℕ)
      → slice_get packets count ≡ Some packet → count < s.entity.sender.next → is_duplicate s.receiver count ≡ false
      → IsKept sn quota packets (record s { receiver = (deliver (stored s.receiver count packet)).after })
  unfolding deliver stored is_duplicate
  taken_kept packets s kept count packet here under new =
      let base = kept.base in
      let r = s.receiver in
      let n = s.entity.sender.next in
      let es = put nat_cmp r.stored count packet in
      let up = delivers_up r.deliv es in
      let confirmed = base.confirmed in
      let from : r.deliv ≤ count = not_below r count new in
      let below = delivers_below n r.deliv es base.given (all_put (λ e. e.0 < n) r.stored count packet base.below under) in
      let had = still_had r count packet in
      record {
        base = record {
          low = base.low;
          numbered = base.numbered;
          waiting = base.waiting;
          counts = base.counts;
          unconfirmed = base.unconfirmed;
          held = base.held;
          near = base.near;
          first = leg_had r (deliver (stored r count packet)).after base.low n had (serves s.entity legs.First) s.first base.first;
          first_of = base.first_of;
          second = leg_had r (deliver (stored r count packet)).after base.low n had (serves s.entity legs.Second) s.second base.second;
          second_of = base.second_of;
          confirmed = omega (arith, up, confirmed);
          given = below.0;
          above = delivers_above r.deliv es (from_put r.deliv r.stored count packet base.above from);
          below = below.1;
          stored = (delivers_of packets r.deliv es (all_put (λ e. slice_get packets e.0 ≡ Some e.1) r.stored count packet base.stored here)).1;
        };
        full = kept.full;
      }
    where
      not_below : (r : Receiver (List ℕ)) (c : ℕ) → (nat_lt c r.deliv || is_some (find nat_cmp r.stored c)) ≡ false → r.deliv ≤ c
      not_below r c e = by (nat_lt c r.deliv) refl e
        where
          by : (b : Bool) → nat_lt c r.deliv ≡ b → (b || is_some (find nat_cmp r.stored c)) ≡ false → r.deliv ≤ c
          by true is e = cc
          by false is e = grind (arith, nat_tests)

  -- what it delivers
  pub taken_lines : (packets : List (List ℕ)) (s : DupRun) (kept : IsKept sn quota packets s) (count : ℕ) (packet : List ℕ)
      → slice_get packets count ≡ Some packet
      → AreCounted s.receiver.deliv (deliver (stored s.receiver count packet)).after.deliv (deliver (stored s.receiver count packet)).packets
      × AreOf packets (deliver (stored s.receiver count packet)).packets
  unfolding deliver stored
  taken_lines packets s kept count packet here =
      let r = s.receiver in
      let es = put nat_cmp r.stored count packet in (
        delivers_counted r.deliv es,
        (delivers_of packets r.deliv es (all_put (λ e. slice_get packets e.0 ≡ Some e.1) r.stored count packet kept.base.stored here)).0,
      )

  -- ---- an item of a leg comes

  -- the leg then
  pub leg_carried : (r : Receiver (List ℕ)) (low next : ℕ) (items : LegItems) (e : ℕ × List ℕ) (es : List (ℕ × List ℕ)) (leg : IsLeg r low next items)
      → items.coming ≡ e ∷ es → is_duplicate r e.0 ≡ true → IsLeg r low next (record { carried = items.carried ++ e.0 ∷ []; coming = es })
  leg_carried r low next items e es leg is had =
      let counted = subst (λ (xs : List (ℕ × List ℕ)). AreCounted leg.high next xs) is leg.coming in
      let above = leg.above in
      record {
        high = leg.high + 1;
        above = omega (arith, above);
        carried = subst (λ (n : ℕ). IsCarried low (leg.high + 1) (items.carried ++ n ∷ [])) (sym counted.0) (carried_more low leg.high items.carried leg.above leg.carried);
        came = all_more (λ c. is_duplicate r c ≡ true) items.carried e.0 leg.came had;
        coming = counted.1;
      }

  pub items_receiver : (leg : Leg) (items : LegItems) (s : DupRun) (r : Receiver (List ℕ))
      → record (with_items leg items s) { receiver = r } ≡ with_items leg items (record s { receiver = r })
  items_receiver legs.First items s r = refl
  items_receiver legs.Second items s r = refl

  pub same_receiver : (leg : Leg) (items : LegItems) (s : DupRun) → (with_items leg items s).receiver ≡ s.receiver
  same_receiver legs.First items s = refl
  same_receiver legs.Second items s = refl

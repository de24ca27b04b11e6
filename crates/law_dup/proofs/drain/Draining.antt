-- Draining: each round leaves less to do, so that the legs hold nothing in the end.
use Rattle.std.proofs.Common.{◌≡◌, ℕ, ◌+◌, ◌*◌, ◌%◌, ◌≤◌, Bool, true, false, cond, not, nat_lt, List, [], ◌∷◌, ◌++◌, length, Option, Some, None, refl, sym, ap, ◌∙◌, subst, arith, length-append}
use Rattle.std.specs.List.{filter}
use Rattle.gnb_types.specs.declared.names.SnBits.{SnBits}
use Rattle.pdcp.specs.Near.{last_count}
use Rattle.pdcp.specs.Numbers.{half, space}
use Rattle.pdcp_defs.specs.Counts.{near_count, count_below}
use Rattle.pdcp_defs.specs.Senders.{has_room, numbered, confirmed_to}
use Rattle.pdcp_defs.specs.Receivers.{Receiver, is_duplicate, stored, deliver}
use Rattle.dup_defs.specs.declared.types.leg.Leg.{Leg}
use Rattle.dup_defs.specs.declared.types.leg.Leg.TheVariants as legs
use Rattle.dup_defs.specs.declared.types.line.DupLine.{DupLine}
use Rattle.dup_defs.specs.declared.types.line.DupLine.TheVariants as lines
use Rattle.dup_defs.specs.declared.types.stop.DupEnd.TheVariants as ends
use Rattle.dup_defs.specs.Senders.{DupSender, DupPut, DupNumbers, gives, spends, serves, is_up, all_on, puts_of, puts_first, number_each, number_waiting, confirmed, confirmed_at}
use Rattle.dup_defs.specs.dup_run_defs.Run.{LegItems, DupRun, DupOutcome, goes_on, counts_spent, items_of, with_items, other, added, with_put, with_puts, puts_out, size_of, lines_first, and_then, got, handed_up, received, carried_one, carry, loses_up_to, confirmed_one, confirm, span}
use Rattle.dup_defs.specs.dup_run_defs.Steps.{DupStep, passes, stops, step_of, printed_first, ◌and◌, for_each, carry_all, confirm_all, turn, work}
use Rattle.law_dup.proofs.events.Numbering.{over}

-- ---- what is put grows the legs by as many items

sizes : DupRun → ℕ
sizes s = size_of s.first + size_of s.second

put_size : (x : DupPut) (s : DupRun) → size_of (with_put s x).first + size_of (with_put s x).second ≡ size_of s.first + size_of s.second + 1
put_size x s = by x.leg
  where
    by : (leg : Leg)
        → size_of (with_items leg (added (items_of leg s) x.count x.packet) s).first + size_of (with_items leg (added (items_of leg s) x.count x.packet) s).second
        ≡ size_of s.first + size_of s.second + 1
    by legs.First = omega (arith, length-append s.first.coming ((x.count, x.packet) ∷ []))
    by legs.Second = omega (arith, length-append s.second.coming ((x.count, x.packet) ∷ []))

puts_size : (xs : List DupPut) (s : DupRun)
    → size_of (with_puts xs s).first + size_of (with_puts xs s).second ≡ size_of s.first + size_of s.second + length xs
puts_size [] s = omega arith
puts_size (x ∷ xs) s = omega (arith, puts_size xs (with_put s x), put_size x s)

put_entity : (x : DupPut) (s : DupRun) → (with_put s x).entity ≡ s.entity
put_entity x s = by x.leg
  where
    by : (leg : Leg) → (with_items leg (added (items_of leg s) x.count x.packet) s).entity ≡ s.entity
    by legs.First = refl
    by legs.Second = refl

puts_entity : (xs : List DupPut) (s : DupRun) → (with_puts xs s).entity ≡ s.entity
puts_entity [] s = refl
puts_entity (x ∷ xs) s = puts_entity xs (with_put s x) ∙ put_entity x s

-- a packet comes to be two items at most
two_puts : (e : DupSender) (count : ℕ) (packet : List ℕ) → length (puts_of e ((count, packet) ∷ [])) ≤ 2
two_puts e count packet = by (serves e legs.First) (serves e legs.Second)
  where
    by : (b c : Bool) → length (cond b (all_on legs.First ((count, packet) ∷ [])) [] ++ cond c (all_on legs.Second ((count, packet) ∷ [])) []) ≤ 2
    by true true = omega arith
    by true false = omega arith
    by false true = omega arith
    by false false = omega arith

module _ (sn : SnBits) (quota : ℕ) where
  -- numbering leaves less to do
  abbrev LessWaits : List (List ℕ) → DupNumbers → Type 0
  LessWaits ws spends = Unit {0}
  LessWaits ws (gives puts after) = 5 * length after.waiting + 2 * length puts ≤ 5 * length ws

  numbers_less : (ws : List (List ℕ)) (e : DupSender) → e.waiting ≡ ws → LessWaits ws (number_each sn quota ws e)
  numbers_less [] e is = let size : length e.waiting ≡ 0 = ap (λ (x : List (List ℕ)). length x) is in omega (arith, size)
  numbers_less (p ∷ ps) e is =
      by (has_room sn quota e.sender) (nat_lt last_count e.sender.next)
      (chain (number_each sn quota ps now) (numbers_less ps now refl))
    where
      now : DupSender
      now = record e { sender = numbered e.sender p; waiting = ps }

      puts : List DupPut
      puts = puts_of e ((e.sender.next, p) ∷ [])

      chain : (r : DupNumbers) → LessWaits ps r → LessWaits (p ∷ ps) (puts_first puts r)
      chain spends less = tt
      chain (gives more after) less = omega (arith, less, two_puts e e.sender.next p, length-append puts more)

      by : (b c : Bool) → LessWaits (p ∷ ps) (puts_first puts (number_each sn quota ps now))
          → LessWaits (p ∷ ps) (cond (not b) (gives [] e) (cond c spends (puts_first puts (number_each sn quota ps now))))
      by false c rest = let size : length e.waiting ≡ length (p ∷ ps) = ap (λ (x : List (List ℕ)). length x) is in omega (arith, size)
      by true true rest = tt
      by true false rest = rest

  -- an outcome, or a step, that leaves so much less to do
  abbrev LessAfter : ℕ → ℕ → DupOutcome → Type 0
  LessAfter less before (goes_on printed s) = work sn quota s + less ≤ before
  LessAfter less before counts_spent = Unit {0}

  abbrev pub LessThen : ℕ → ℕ → DupStep → Type 0
  LessThen less before (passes printed s) = work sn quota s + less ≤ before
  LessThen less before (stops printed end) = Unit {0}

  step_less : (less before : ℕ) (o : DupOutcome) → LessAfter less before o → LessThen less before (step_of sn o)
  step_less less before counts_spent l = tt
  step_less less before (goes_on printed s) l = by (nat_lt (half sn) (span s))
    where
      by : (b : Bool) → LessThen less before
          (cond b (stops (printed ++ lines.Outstanding (span s) (half sn) ∷ []) (ends.Outstanding (span s) (half sn))) (passes printed s))
      by true = tt
      by false = l

  lines_less : (less before : ℕ) (printed : List DupLine) (o : DupOutcome) → LessAfter less before o → LessAfter less before (lines_first printed o)
  lines_less less before printed counts_spent l = tt
  lines_less less before printed (goes_on more s) l = l

  pub and_less : (one two before : ℕ) (a : DupStep) (more : DupRun → DupStep) → LessThen one before a
      → ((s : DupRun) → LessThen two (work sn quota s) (more s)) → LessThen (one + two) before (a and more)
  and_less one two before (stops printed end) more l next = tt
  and_less one two before (passes printed s) more l next = by (more s) (next s)
    where
      by : (b : DupStep) → LessThen two (work sn quota s) b → LessThen (one + two) before (printed_first printed b)
      by (passes again t) m = omega (arith, l, m)
      by (stops again end) m = tt

  -- ---- an item is carried: as much is left

  received_less : (packet : List ℕ) (s : DupRun) (o : Option ℕ) → LessAfter 0 (work sn quota s) (received packet s o)
  received_less packet s None = omega arith
  received_less packet s (Some count) = by (is_duplicate s.receiver count)
    where
      by : (b : Bool) → LessAfter 0 (work sn quota s)
          (cond b (goes_on (lines.DropDuplicate ∷ []) s) (handed_up s (deliver (stored s.receiver count packet))))
      by true = omega arith
      by false = omega arith

  moved_work : (leg : Leg) (s : DupRun) (e : ℕ × List ℕ) (es : List (ℕ × List ℕ)) → (items_of leg s).coming ≡ e ∷ es
      → work sn quota (with_items leg (record { carried = (items_of leg s).carried ++ e.0 ∷ []; coming = es }) s) ≡ work sn quota s
  moved_work legs.First s e es is =
      let size : length s.first.coming ≡ length (e ∷ es) = ap (λ (x : List (ℕ × List ℕ)). length x) is in
      omega (arith, size, length-append s.first.carried (e.0 ∷ []))
  moved_work legs.Second s e es is =
      let size : length s.second.coming ≡ length (e ∷ es) = ap (λ (x : List (ℕ × List ℕ)). length x) is in
      omega (arith, size, length-append s.second.carried (e.0 ∷ []))

  carry_less : (leg : Leg) (s : DupRun) → LessAfter 0 (work sn quota s) (carry sn leg s)
  carry_less leg s = by (items_of leg s).coming refl
    where
      by : (es : List (ℕ × List ℕ)) → (items_of leg s).coming ≡ es → LessAfter 0 (work sn quota s) (carried_one sn leg s (items_of leg s) es)
      by [] is = omega arith
      by (e ∷ es) is =
          let t : DupRun = with_items leg (record { carried = (items_of leg s).carried ++ e.0 ∷ []; coming = es }) s in
          lines_less 0 (work sn quota s) (got sn leg e ∷ [])
          (received e.1 t (near_count sn s.receiver.deliv (e.0 % space sn)))
          (subst (λ (n : ℕ). LessAfter 0 n (received e.1 t (near_count sn s.receiver.deliv (e.0 % space sn)))) (moved_work leg s e es is)
          (received_less e.1 t (near_count sn s.receiver.deliv (e.0 % space sn))))

  -- ---- an item is confirmed: one is less

  puts_less : (t : DupRun) (r : DupNumbers) → LessWaits t.entity.waiting r → LessAfter 0 (work sn quota t) (puts_out sn t r)
  puts_less t spends less = tt
  puts_less t (gives puts after) less =
      let size = puts_size puts (over t after) in
      let waits : length (with_puts puts (over t after)).entity.waiting ≡ length after.waiting =
      ap (λ (e : DupSender). length e.waiting) (puts_entity puts (over t after)) in
      omega (arith, less, size, waits)

  confirmed_less : (t : DupRun) (o : Option ℕ) → LessAfter 0 (work sn quota t) (puts_out sn t (confirmed_at sn quota t.entity o))
  unfolding number_waiting
  confirmed_less t None = omega arith
  confirmed_less t (Some count) =
      let e : DupSender = record t.entity { sender = confirmed_to t.entity.sender count } in
      puts_less t (number_each sn quota e.waiting e) (numbers_less e.waiting e refl)

  filter_short : (t : ℕ × List ℕ → Bool) (es : List (ℕ × List ℕ)) → length (filter t es) ≤ length es
  filter_short t [] = omega arith
  filter_short t (e ∷ es) = by (t e) (filter_short t es)
    where
      by : (b : Bool) → length (filter t es) ≤ length es → length (cond b (e ∷ filter t es) (filter t es)) ≤ length (e ∷ es)
      by true l = omega (arith, l)
      by false l = omega (arith, l)

  and_after : (less before : ℕ) (o : DupOutcome) (more : DupRun → DupOutcome) → LessAfter less before o
      → ((s : DupRun) → LessAfter 0 (work sn quota s) (more s)) → LessAfter less before (and_then o more)
  and_after less before counts_spent more l next = tt
  and_after less before (goes_on printed s) more l next = by (more s) (next s)
    where
      by : (o : DupOutcome) → LessAfter 0 (work sn quota s) o → LessAfter less before (lines_first printed o)
      by counts_spent m = tt
      by (goes_on again t) m = omega (arith, l, m)

  losing_less : (leg : Leg) (o : Option ℕ) (s : DupRun) → LessAfter 0 (work sn quota s) (loses_up_to leg o s)
  losing_less leg None s = omega arith
  losing_less legs.First (Some count) s = omega (arith, filter_short (λ e. nat_lt count e.0) s.first.coming)
  losing_less legs.Second (Some count) s = omega (arith, filter_short (λ e. nat_lt count e.0) s.second.coming)

  left_work : (leg : Leg) (s : DupRun) (c : ℕ) (cs : List ℕ) → (items_of leg s).carried ≡ c ∷ cs
      → work sn quota (with_items leg (record (items_of leg s) { carried = cs }) s) + 2 ≡ work sn quota s
  left_work legs.First s c cs is = let size : length s.first.carried ≡ length (c ∷ cs) = ap (λ (x : List ℕ). length x) is in omega (arith, size)
  left_work legs.Second s c cs is = let size : length s.second.carried ≡ length (c ∷ cs) = ap (λ (x : List ℕ). length x) is in omega (arith, size)

  one_confirmed : (leg : Leg) (s : DupRun) (c : ℕ) (cs : List ℕ) → (items_of leg s).carried ≡ c ∷ cs
      → LessAfter 2 (work sn quota s) (confirmed_one sn quota leg s (items_of leg s) (c ∷ cs))
  unfolding confirmed
  one_confirmed leg s c cs is =
      let t : DupRun = with_items leg (record (items_of leg s) { carried = cs }) s in
      let o = count_below sn s.entity.sender.next (c % space sn) in
      and_after 2 (work sn quota s) (loses_up_to (other leg) o t) (λ u. puts_out sn u (confirmed sn quota (c % space sn) u.entity))
      (weaker (loses_up_to (other leg) o t) (losing_less (other leg) o t))
      (λ u. confirmed_less u (count_below sn u.entity.sender.next (c % space sn)))
    where
      weaker : (x : DupOutcome) → LessAfter 0 (work sn quota (with_items leg (record (items_of leg s) { carried = cs }) s)) x → LessAfter 2 (work sn quota s) x
      weaker counts_spent l = tt
      weaker (goes_on printed u) l = omega (arith, l, left_work leg s c cs is)

  confirm_less : (leg : Leg) (s : DupRun) → LessAfter 0 (work sn quota s) (confirm sn quota leg s)
  confirm_less leg s = by (items_of leg s).carried refl
    where
      weaker : (x : DupOutcome) → LessAfter 2 (work sn quota s) x → LessAfter 0 (work sn quota s) x
      weaker counts_spent l = tt
      weaker (goes_on printed u) l = omega (arith, l)

      by : (cs : List ℕ) → (items_of leg s).carried ≡ cs → LessAfter 0 (work sn quota s) (confirmed_one sn quota leg s (items_of leg s) cs)
      by [] is = omega arith
      by (c ∷ cs) is = weaker (confirmed_one sn quota leg s (items_of leg s) (c ∷ cs)) (one_confirmed leg s c cs is)

  -- ---- a step for each item

  each_less : {X : Type 0} (step : DupRun → DupStep) → ((s : DupRun) → LessThen 0 (work sn quota s) (step s)) → (xs : List X) (s : DupRun)
      → LessThen 0 (work sn quota s) (for_each step xs s)
  each_less step less [] s = omega arith
  each_less step less (x ∷ xs) s = and_less 0 0 (work sn quota s) (step s) (for_each step xs) (less s) (each_less step less xs)

  confirms_less : (leg : Leg) (s : DupRun) → 1 ≤ length (items_of leg s).carried → LessThen 2 (work sn quota s) (confirm_all sn quota leg s)
  confirms_less leg s some = by (items_of leg s).carried refl some
    where
      step : DupRun → DupStep
      step t = step_of sn (confirm sn quota leg t)

      first : (c : ℕ) (cs : List ℕ) → (items_of leg s).carried ≡ c ∷ cs → LessThen 2 (work sn quota s) (step s)
      first c cs is =
          step_less 2 (work sn quota s) (confirm sn quota leg s)
          (subst (λ (xs : List ℕ). LessAfter 2 (work sn quota s) (confirmed_one sn quota leg s (items_of leg s) xs)) (sym is) (one_confirmed leg s c cs is))

      by : (cs : List ℕ) → (items_of leg s).carried ≡ cs → 1 ≤ length cs → LessThen 2 (work sn quota s) (for_each step cs s)
      by [] is some = absurd (omega (arith, some))
      by (c ∷ cs) is some =
          and_less 2 0 (work sn quota s) (step s) (for_each step cs) (first c cs is)
          (each_less step (λ t. step_less 0 (work sn quota t) (confirm sn quota leg t) (confirm_less leg t)) cs)

  -- ---- what is carried on a leg stays there until it is confirmed

  abbrev CarriedThen : ℕ → Leg → DupStep → Type 0
  CarriedThen least leg (passes printed s) = least ≤ length (items_of leg s).carried
  CarriedThen least leg (stops printed end) = Unit {0}

  abbrev CarriedAfter : ℕ → Leg → DupOutcome → Type 0
  CarriedAfter least leg (goes_on printed s) = least ≤ length (items_of leg s).carried
  CarriedAfter least leg counts_spent = Unit {0}

  step_carried : (least : ℕ) (leg : Leg) (o : DupOutcome) → CarriedAfter least leg o → CarriedThen least leg (step_of sn o)
  step_carried least leg counts_spent l = tt
  step_carried least leg (goes_on printed s) l = by (nat_lt (half sn) (span s))
    where
      by : (b : Bool) → CarriedThen least leg
          (cond b (stops (printed ++ lines.Outstanding (span s) (half sn) ∷ []) (ends.Outstanding (span s) (half sn))) (passes printed s))
      by true = tt
      by false = l

  items_again : (leg : Leg) (items : LegItems) (s : DupRun) → items_of leg (with_items leg items s) ≡ items
  items_again legs.First items s = refl
  items_again legs.Second items s = refl

  items_received : (leg : Leg) (s : DupRun) (r : Receiver (List ℕ)) → items_of leg (record s { receiver = r }) ≡ items_of leg s
  items_received legs.First s r = refl
  items_received legs.Second s r = refl

  received_carried : (least : ℕ) (leg : Leg) (packet : List ℕ) (s : DupRun) (o : Option ℕ) → least ≤ length (items_of leg s).carried
      → CarriedAfter least leg (received packet s o)
  received_carried least leg packet s None l = l
  received_carried least leg packet s (Some count) l = by (is_duplicate s.receiver count)
    where
      by : (b : Bool) → CarriedAfter least leg
          (cond b (goes_on (lines.DropDuplicate ∷ []) s) (handed_up s (deliver (stored s.receiver count packet))))
      by true = l
      by false = subst (λ (i : LegItems). least ≤ length i.carried) (sym (items_received leg s (deliver (stored s.receiver count packet)).after)) l

  lines_carried : (least : ℕ) (leg : Leg) (printed : List DupLine) (o : DupOutcome) → CarriedAfter least leg o → CarriedAfter least leg (lines_first printed o)
  lines_carried least leg printed counts_spent l = tt
  lines_carried least leg printed (goes_on more s) l = l

  -- one more than before, where an item was to come
  one_carried : (leg : Leg) (s : DupRun) (e : ℕ × List ℕ) (es : List (ℕ × List ℕ))
      → CarriedAfter (length (items_of leg s).carried + 1) leg (carried_one sn leg s (items_of leg s) (e ∷ es))
  one_carried leg s e es =
      let items : LegItems = record { carried = (items_of leg s).carried ++ e.0 ∷ []; coming = es } in
      let t : DupRun = with_items leg items s in
      lines_carried (length (items_of leg s).carried + 1) leg (got sn leg e ∷ []) (received e.1 t (near_count sn s.receiver.deliv (e.0 % space sn)))
      (received_carried (length (items_of leg s).carried + 1) leg e.1 t (near_count sn s.receiver.deliv (e.0 % space sn))
      (subst (λ (i : LegItems). length (items_of leg s).carried + 1 ≤ length i.carried) (sym (items_again leg items s))
      (omega (arith, length-append (items_of leg s).carried (e.0 ∷ [])))))

  carry_carried : (leg : Leg) (s : DupRun) → CarriedAfter (length (items_of leg s).carried) leg (carry sn leg s)
  carry_carried leg s = by (items_of leg s).coming
    where
      weaker : (o : DupOutcome) → CarriedAfter (length (items_of leg s).carried + 1) leg o → CarriedAfter (length (items_of leg s).carried) leg o
      weaker counts_spent l = tt
      weaker (goes_on printed t) l = omega (arith, l)

      by : (es : List (ℕ × List ℕ)) → CarriedAfter (length (items_of leg s).carried) leg (carried_one sn leg s (items_of leg s) es)
      by [] = omega arith
      by (e ∷ es) = weaker (carried_one sn leg s (items_of leg s) (e ∷ es)) (one_carried leg s e es)

  and_carried : (least : ℕ) (leg : Leg) (a : DupStep) (more : DupRun → DupStep) → CarriedThen least leg a
      → ((s : DupRun) → CarriedThen (length (items_of leg s).carried) leg (more s)) → CarriedThen least leg (a and more)
  and_carried least leg (stops printed end) more l next = tt
  and_carried least leg (passes printed s) more l next = by (more s) (next s)
    where
      by : (b : DupStep) → CarriedThen (length (items_of leg s).carried) leg b → CarriedThen least leg (printed_first printed b)
      by (stops again end) m = tt
      by (passes again t) m = omega (arith, l, m)

  each_carried : {X : Type 0} (leg : Leg) (xs : List X) (s : DupRun)
      → CarriedThen (length (items_of leg s).carried) leg (for_each (λ t. step_of sn (carry sn leg t)) xs s)
  each_carried leg [] s = omega arith
  each_carried leg (x ∷ xs) s =
      and_carried (length (items_of leg s).carried) leg (step_of sn (carry sn leg s)) (for_each (λ t. step_of sn (carry sn leg t)) xs)
      (step_carried (length (items_of leg s).carried) leg (carry sn leg s) (carry_carried leg s)) (each_carried leg xs)

  -- after all was carried there is an item to confirm, where the leg had one
  all_carried : (leg : Leg) (s : DupRun) → 1 ≤ size_of (items_of leg s) → CarriedThen 1 leg (carry_all sn quota leg s)
  all_carried leg s some = by (items_of leg s).coming refl
    where
      step : DupRun → DupStep
      step t = step_of sn (carry sn leg t)

      weaker : (n : ℕ) → 1 ≤ n → (b : DupStep) → CarriedThen n leg b → CarriedThen 1 leg b
      weaker n l (stops printed end) m = tt
      weaker n l (passes printed t) m = omega (arith, l, m)

      first : (e : ℕ × List ℕ) (es : List (ℕ × List ℕ)) → (items_of leg s).coming ≡ e ∷ es → CarriedThen (length (items_of leg s).carried + 1) leg (step s)
      first e es is =
          step_carried (length (items_of leg s).carried + 1) leg (carry sn leg s)
          (subst (λ (xs : List (ℕ × List ℕ)). CarriedAfter (length (items_of leg s).carried + 1) leg (carried_one sn leg s (items_of leg s) xs)) (sym is)
          (one_carried leg s e es))

      by : (es : List (ℕ × List ℕ)) → (items_of leg s).coming ≡ es → CarriedThen 1 leg (for_each step es s)
      by [] is =
          let none : length (items_of leg s).coming ≡ 0 = ap (λ (x : List (ℕ × List ℕ)). length x) is in
          omega (arith, some, none)
      by (e ∷ es) is =
          weaker (length (items_of leg s).carried + 1) (omega arith) (step s and for_each step es)
          (and_carried (length (items_of leg s).carried + 1) leg (step s) (for_each step es) (first e es is) (each_carried leg es))

  -- ---- a turn, and a round

  carries_less : (leg : Leg) (s : DupRun) → LessThen 0 (work sn quota s) (carry_all sn quota leg s)
  carries_less leg s = each_less (λ t. step_of sn (carry sn leg t)) (λ t. step_less 0 (work sn quota t) (carry sn leg t) (carry_less leg t)) (items_of leg s).coming s

  confirms_no_more : (leg : Leg) (s : DupRun) → LessThen 0 (work sn quota s) (confirm_all sn quota leg s)
  confirms_no_more leg s =
      each_less (λ t. step_of sn (confirm sn quota leg t)) (λ t. step_less 0 (work sn quota t) (confirm sn quota leg t) (confirm_less leg t)) (items_of leg s).carried s

  pub turn_no_more : (leg : Leg) (s : DupRun) → LessThen 0 (work sn quota s) (turn sn quota leg s)
  turn_no_more leg s = by (is_up s.entity leg)
    where
      by : (b : Bool) → LessThen 0 (work sn quota s) (cond b (carry_all sn quota leg s and confirm_all sn quota leg) (passes [] s))
      by true = and_less 0 0 (work sn quota s) (carry_all sn quota leg s) (confirm_all sn quota leg) (carries_less leg s) (confirms_no_more leg)
      by false = omega arith

  -- a leg that is up and holds something holds less
  pub turn_less : (leg : Leg) (s : DupRun) → is_up s.entity leg ≡ true → 1 ≤ size_of (items_of leg s) → LessThen 2 (work sn quota s) (turn sn quota leg s)
  turn_less leg s up some =
      subst (λ (b : Bool). LessThen 2 (work sn quota s) (cond b (carry_all sn quota leg s and confirm_all sn quota leg) (passes [] s))) (sym up)
      (by (carry_all sn quota leg s) (carries_less leg s) (all_carried leg s some))
    where
      by : (a : DupStep) → LessThen 0 (work sn quota s) a → CarriedThen 1 leg a → LessThen 2 (work sn quota s) (a and confirm_all sn quota leg)
      by (stops printed end) l more = tt
      by (passes printed t) l more = then_ (confirm_all sn quota leg t) (confirms_less leg t more)
        where
          then_ : (b : DupStep) → LessThen 2 (work sn quota t) b → LessThen 2 (work sn quota s) (printed_first printed b)
          then_ (stops again end) m = tt
          then_ (passes again u) m = omega (arith, l, m)

  -- where a leg holds nothing its turn does nothing
  pub turn_nothing : (leg : Leg) (s : DupRun) → size_of (items_of leg s) ≡ 0 → turn sn quota leg s ≡ passes [] s
  turn_nothing leg s none = by (is_up s.entity leg) (no_coming (items_of leg s).coming refl) (no_carried (items_of leg s).carried refl)
    where
      no_coming : (es : List (ℕ × List ℕ)) → (items_of leg s).coming ≡ es → (items_of leg s).coming ≡ []
      no_coming [] is = is
      no_coming (e ∷ es) is = let size : length (items_of leg s).coming ≡ length (e ∷ es) = ap (λ (x : List (ℕ × List ℕ)). length x) is in absurd (omega (arith, size, none))

      no_carried : (cs : List ℕ) → (items_of leg s).carried ≡ cs → (items_of leg s).carried ≡ []
      no_carried [] is = is
      no_carried (c ∷ cs) is = let size : length (items_of leg s).carried ≡ length (c ∷ cs) = ap (λ (x : List ℕ). length x) is in absurd (omega (arith, size, none))

      by : (b : Bool) → (items_of leg s).coming ≡ [] → (items_of leg s).carried ≡ []
          → cond b (carry_all sn quota leg s and confirm_all sn quota leg) (passes [] s) ≡ passes [] s
      by false coming carried = refl
      by true coming carried =
          ap (λ (es : List (ℕ × List ℕ)). for_each (λ t. step_of sn (carry sn leg t)) es s and confirm_all sn quota leg) coming
          ∙ ap (λ (cs : List ℕ). printed_first [] (for_each (λ t. step_of sn (confirm sn quota leg t)) cs s)) carried

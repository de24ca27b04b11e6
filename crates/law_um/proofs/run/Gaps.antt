-- How long a COUNT that is missing was awaited, event by event.
use Rattle.std.proofs.Common.{◌≡◌, ◌==◌, ℕ, zero, suc, ◌+◌, ◌-◌, ◌<◌, ◌≤◌, Bool, true, false, cond, nat_lt, nat_le, List, [], ◌∷◌, length, Option, Some, None, refl, sym, ap, ◌∙◌, subst, arith, inl, inr}
use Rattle.std.specs.Ordering.{nat_cmp}
use Rattle.std.proofs.lemmas.Bool.Decides.{nat_tests}
use Rattle.gnb_types.specs.declared.names.SnBits.{SnBits}
use Rattle.gnb_types.specs.declared.reasons.RefuseReason.TheVariants.{Size, NoSuch, Empty}
use Rattle.tables.specs.Tables.{find, put, without}
use Rattle.pdcp.specs.Near.{last_count}
use Rattle.pdcp.specs.declared.pdu.TheConstants.{PACKET_LIMIT}
use Rattle.um_defs.specs.declared.types.error.UmError.{UmError}
use Rattle.um_defs.specs.declared.types.error.UmError.TheVariants as errors
use Rattle.um_defs.specs.declared.types.event.UmEvent.{UmEvent}
use Rattle.um_defs.specs.declared.types.event.UmEvent.TheVariants as events
use Rattle.um_defs.specs.declared.types.line.UmLine.{UmLine}
use Rattle.um_defs.specs.declared.types.line.UmLine.TheVariants as lines
use Rattle.um_defs.specs.Receivers.{UmReceiver, refuses, received, received_unless, takes, ticked}
use Rattle.um_defs.specs.um_run_defs.Run.{UmRun, UmOutcome, goes_on, spends, does_event, offered, sent, of_message, on_link, landed, lost, taken, taken_as, ticks_by, most_messages, counts_spent, messages_spent}
use Rattle.law_um.specs.Sound.{HasNone}
use Rattle.law_um.specs.Histories.{Step, arrival, a_tick, arrives_unless, state, TakenAgo}
use Rattle.law_um.proofs.Deliveries.{none_put_other, run_has}
use Rattle.law_um.proofs.Steps.{received_so, received_run}
use Rattle.law_um.proofs.Histories.{gap}
use Rattle.law_um.specs.run.Reached.{GoesOn, IsReached}
use Rattle.law_um.specs.run.Gaps.{Gives, ticks_of, GotAgo, Passes}
use Rattle.law_um.proofs.run.Lists.{each_find, within_each}
use Rattle.law_um.proofs.run.Kept.{IsKept, found, always_kept}

apart_from : (a b : ℕ) → (a == b) ≡ false → a ≡ b → ⊥
apart_from a b h e = grind (arith, nat_tests)

module _ (sn : SnBits) (ticks : ℕ) where
  -- the entity is the one after these packets and ticks, and each packet was got so many ticks ago
  pub record IsTraced (all : List UmEvent) (s : UmRun) : Type 0 where
    pub steps : List (Step (List ℕ))
    pub entity : s.entity ≡ state ticks steps
    pub gots : (n count : ℕ) → TakenAgo ticks n count steps → GotAgo sn ticks n count all

  abbrev Traced : List UmEvent → UmEvent → UmRun → UmOutcome → Type 0
  Traced earlier event s (spends counter) = Unit {0}
  Traced earlier event s (goes_on printed after) =
      IsTraced (event ∷ earlier) after
      × ((count : ℕ) → s.entity.receiver.deliv ≤ count → HasNone count s.entity.receiver.stored → count < after.entity.receiver.deliv
      → Passes sn ticks event earlier count)

  module _ (earlier : List UmEvent) (event : UmEvent) (s : UmRun) (reached : IsReached sn ticks earlier s) (kept : IsKept sn ticks earlier s)
      (traced : IsTraced earlier s) where
    -- nothing came to the entity
    nothing_came : ticks_of event ≡ 0 → (after : UmRun) → after.entity ≡ s.entity → Traced earlier event s (goes_on [] after)
    nothing_came quiet after same = (
      record {
        steps = traced.steps;
        entity = same ∙ traced.entity;
        gots = λ n count h. inr (n, omega (arith, quiet), traced.gots n count h);
      },
      λ count from none less. absurd (
          let no : count < s.entity.receiver.deliv = subst (λ (u : UmReceiver (List ℕ)). count < u.receiver.deliv) same less in omega (arith, no, from)),
    )

    said : (printed : List UmLine) → ticks_of event ≡ 0 → (after : UmRun) → after.entity ≡ s.entity → Traced earlier event s (goes_on printed after)
    said printed quiet after same = nothing_came quiet after same

    pub offer_traced : (packet : List ℕ) → ticks_of event ≡ 0 → Traced earlier event s (offered sn packet s)
    offer_traced packet quiet = by (nat_lt PACKET_LIMIT (length packet)) (nat_lt last_count s.puts) (nat_le most_messages s.puts)
      where
        by : (a b c : Bool) → Traced earlier event s (cond a (goes_on (lines.Refused Size ∷ []) s) (cond b (spends counts_spent) (cond c (spends messages_spent) (sent sn packet s))))
        by true b c = said (lines.Refused Size ∷ []) quiet s refl
        by false true c = tt
        by false false true = tt
        by false false false = nothing_came quiet (record s { puts = s.puts + 1; flight = put nat_cmp s.flight (s.puts + 1) packet }) refl

    message_traced : (number : ℕ) (go : List ℕ → UmOutcome) → ticks_of event ≡ 0
        → ((packet : List ℕ) → find nat_cmp s.flight number ≡ Some packet → Traced earlier event s (go packet)) → Traced earlier event s (of_message number s go)
    message_traced number go quiet good = by (nat_lt s.puts number) (find nat_cmp s.flight number) refl
      where
        on : (o : Option (List ℕ)) → find nat_cmp s.flight number ≡ o → Traced earlier event s (on_link number s go o)
        on None is = said (lines.Refused Empty ∷ []) quiet s refl
        on (Some packet) is = good packet is

        by : (b : Bool) (o : Option (List ℕ)) → find nat_cmp s.flight number ≡ o
            → Traced earlier event s (cond b (goes_on (lines.Refused NoSuch ∷ []) s) (on_link number s go o))
        by true o is = said (lines.Refused NoSuch ∷ []) quiet s refl
        by false o is = on o is

    pub lose_traced : (number : ℕ) → ticks_of event ≡ 0 → Traced earlier event s (lost number s)
    lose_traced number quiet = message_traced number (λ packet. goes_on (lines.Lost number ∷ []) (landed number s)) quiet
        (λ packet is. said (lines.Lost number ∷ []) quiet (landed number s) refl)

    module _ (number : ℕ) (packet : List ℕ) (here : find nat_cmp s.flight number ≡ Some packet) (quiet : ticks_of event ≡ 0)
        (gives : (count : ℕ) → number ≡ count + 1 → Gives event count) where
      bounds : (1 ≤ number) × (number < s.puts + 1)
      bounds = each_find (λ k x. (1 ≤ k) × (k < s.puts + 1)) s.flight number packet (within_each 1 (s.puts + 1) s.flight kept.flight) here

      number_is : number ≡ number - 1 + 1
      number_is = omega (arith, bounds.0)

      received_traced : (after : UmRun) → after.entity ≡ (received ticks s.entity (number - 1) packet).after → refuses s.entity (Some (number - 1)) ≡ None
          → Traced earlier event s (goes_on [] after)
      received_traced after same none = (
        record {
          steps = arrival (number - 1) packet ∷ traced.steps;
          entity = same ∙ (ap (λ (u : UmReceiver (List ℕ)). (arrives_unless ticks u (number - 1) packet None).after) traced.entity
              ∙ sym (ap (λ o. (arrives_unless ticks (state ticks traced.steps) (number - 1) packet o).after)
              (subst (λ (u : UmReceiver (List ℕ)). refuses u (Some (number - 1)) ≡ None) traced.entity none)));
          gots = now;
        },
        passed,
      )
        where
          now : (n count : ℕ) → TakenAgo ticks n count (arrival (number - 1) packet ∷ traced.steps) → GotAgo sn ticks n count (event ∷ earlier)
          now n count (inl (zero_ticks, same, taken)) =
              let one : number ≡ count + 1 = omega (arith, number_is, same) in
              inl (
                zero_ticks,
                (
                  gives count one,
                  s,
                  reached,
                  packet,
                  subst (λ k. find nat_cmp s.flight k ≡ Some packet) one here,
                  subst (λ (u : UmReceiver (List ℕ)). refuses u (Some count) ≡ None) (sym traced.entity) taken,
                ),
              )
          now n count (inr old) = inr (n, omega (arith, quiet), traced.gots n count old)

          passed : (count : ℕ) → s.entity.receiver.deliv ≤ count → HasNone count s.entity.receiver.stored → count < after.entity.receiver.deliv
              → Passes sn ticks event earlier count
          passed count from without less = by (number == count + 1) refl
            where
              by : (b : Bool) → (number == count + 1) ≡ b → Passes sn ticks event earlier count
              by true test = let one : number ≡ count + 1 = grind (arith, nat_tests) in inl (gives count one)
              by false test =
                  let apart : (number ≡ count + 1 → ⊥) = apart_from number (count + 1) test in
                  let other : (number - 1 ≡ count → ⊥) = λ is. apart (omega (arith, number_is, is)) in
                  let d = received ticks s.entity (number - 1) packet in
                  let step = received_so ticks s.entity (number - 1) packet kept.sound none in
                  let all = subst (HasNone count) step.all (none_put_other count s.entity.receiver.stored (number - 1) packet other without) in
                  let low = run_has s.entity.receiver.deliv d.after.receiver.deliv count d.packets d.after.receiver.stored
                  (received_run ticks s.entity (number - 1) packet kept.sound none) all
                  (subst (λ (u : UmReceiver (List ℕ)). count < u.receiver.deliv) same less) in
                  absurd (omega (arith, low, from))

      pub taken_traced : (flight : List (ℕ × List ℕ)) → Traced earlier event s (taken sn ticks number s (record s { flight = flight }) packet)
      unfolding takes
      taken_traced flight =
          subst (λ (o : Option ℕ). Traced earlier event s (taken_as sn number packet s (record s { flight = flight }) (received_unless ticks s.entity o packet (refuses s.entity o))))
          (sym (found sn ticks earlier s kept number packet here)) (by (refuses s.entity (Some (number - 1))) refl)
        where
          by : (o : Option UmError) → refuses s.entity (Some (number - 1)) ≡ o
              → Traced earlier event s (taken_as sn number packet s (record s { flight = flight }) (received_unless ticks s.entity (Some (number - 1)) packet o))
          by None none = received_traced (record s { flight = flight; entity = (received ticks s.entity (number - 1) packet).after }) refl none
          by (Some (errors.Late count)) is = nothing_came quiet (record s { flight = flight }) refl
          by (Some (errors.Duplicate count)) is = nothing_came quiet (record s { flight = flight }) refl
          by (Some (errors.Ahead count)) is = nothing_came quiet s refl
          by (Some errors.NoCount) is = nothing_came quiet s refl
          by (Some errors.Memory) is = nothing_came quiet s refl

    pub tick_traced : event ≡ events.Tick → Traced earlier event s (ticks_by s (ticked ticks s.entity))
    tick_traced is = (
      record {
        steps = a_tick ∷ traced.steps;
        entity = ap (λ (u : UmReceiver (List ℕ)). (ticked ticks u).after) traced.entity;
        gots = later;
      },
      passed,
    )
      where
        later : (n count : ℕ) → TakenAgo ticks n count (a_tick ∷ traced.steps) → GotAgo sn ticks n count (event ∷ earlier)
        later zero count h = absurd h
        later (suc n) count h = inr (n, (let one : ticks_of event ≡ 1 = ap ticks_of is in omega (arith, one)), traced.gots n count h)

        passed : (count : ℕ) → s.entity.receiver.deliv ≤ count → HasNone count s.entity.receiver.stored
            → count < (ticked ticks s.entity).after.receiver.deliv → Passes sn ticks event earlier count
        passed count from none less =
            let w = gap ticks traced.steps count (subst (λ (u : UmReceiver (List ℕ)). u.receiver.deliv ≤ count) traced.entity from)
            (subst (λ (u : UmReceiver (List ℕ)). HasNone count u.receiver.stored) traced.entity none)
            (subst (λ (u : UmReceiver (List ℕ)). count < (ticked ticks u).after.receiver.deliv) traced.entity less) in
            inr (is, w.0, w.1, w.2, traced.gots w.0 w.1 w.3, w.4)

  pub event_traced : (earlier : List UmEvent) (event : UmEvent) (s : UmRun) → IsReached sn ticks earlier s → IsKept sn ticks earlier s
      → IsTraced earlier s → Traced earlier event s (does_event sn ticks event s)
  unfolding does_event
  event_traced earlier (events.Offer packet) s reached kept traced = offer_traced earlier (events.Offer packet) s reached kept traced packet refl
  event_traced earlier (events.Give number) s reached kept traced =
      message_traced earlier (events.Give number) s reached kept traced number (taken sn ticks number s (landed number s)) refl
      (λ packet here. taken_traced earlier (events.Give number) s reached kept traced number packet here refl
      (λ count one. inl (ap events.Give one)) (without nat_cmp s.flight number))
  event_traced earlier (events.Again number) s reached kept traced =
      message_traced earlier (events.Again number) s reached kept traced number (taken sn ticks number s s) refl
      (λ packet here. taken_traced earlier (events.Again number) s reached kept traced number packet here refl
      (λ count one. inr (ap events.Again one)) s.flight)
  event_traced earlier (events.Lose number) s reached kept traced = lose_traced earlier (events.Lose number) s reached kept traced number refl
  event_traced earlier events.Tick s reached kept traced = tick_traced earlier events.Tick s reached kept traced refl
  event_traced earlier events.Ask s reached kept traced = nothing_came earlier events.Ask s reached kept traced refl s refl

  goes_traced : (earlier : List UmEvent) (event : UmEvent) (before : UmRun) (printed : List UmLine) (after : UmRun)
      → IsReached sn ticks earlier before → IsTraced earlier before → GoesOn sn ticks event before printed after
      → Traced earlier event before (goes_on printed after)
  goes_traced earlier event before printed after reached traced goes =
      subst (Traced earlier event before) goes.outcome
      (event_traced earlier event before reached (always_kept sn ticks earlier before reached) traced)

  always_traced : (all : List UmEvent) (s : UmRun) → IsReached sn ticks all s → IsTraced all s
  always_traced [] s is = record { steps = []; entity = ap (λ (r : UmRun). r.entity) is; gots = λ n count h. absurd h }
  always_traced (event ∷ earlier) s (before, printed, reached, goes) =
      (goes_traced earlier event before printed s reached (always_traced earlier before reached) goes).0

  pub passes : (earlier : List UmEvent) (event : UmEvent) (before : UmRun) (printed : List UmLine) (after : UmRun)
      → IsReached sn ticks earlier before → GoesOn sn ticks event before printed after
      → (count : ℕ) → before.entity.receiver.deliv ≤ count → HasNone count before.entity.receiver.stored → count < after.entity.receiver.deliv
      → Passes sn ticks event earlier count
  passes earlier event before printed after reached goes =
      (goes_traced earlier event before printed after reached (always_traced earlier before reached) goes).1

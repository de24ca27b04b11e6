-- The COUNTs that an event delivers rise.
use Rattle.std.proofs.Common.{◌≡◌, ℕ, ◌+◌, ◌-◌, ◌≤◌, Bool, true, false, cond, nat_lt, nat_le, List, [], ◌∷◌, length, Option, Some, None, refl, sym, subst, arith}
use Rattle.std.specs.Ordering.{nat_cmp}
use Rattle.gnb_types.specs.declared.names.SnBits.{SnBits}
use Rattle.gnb_types.specs.declared.reasons.RefuseReason.TheVariants.{Size, NoSuch}
use Rattle.tables.specs.Tables.{find, without}
use Rattle.pdcp.specs.Near.{last_count}
use Rattle.pdcp.specs.declared.pdu.TheConstants.{PACKET_LIMIT}
use Rattle.um_defs.specs.declared.types.error.UmError.{UmError}
use Rattle.um_defs.specs.declared.types.error.UmError.TheVariants as errors
use Rattle.um_defs.specs.declared.types.event.UmEvent.{UmEvent}
use Rattle.um_defs.specs.declared.types.event.UmEvent.TheVariants as events
use Rattle.um_defs.specs.declared.types.line.UmLine.{UmLine}
use Rattle.um_defs.specs.declared.types.line.UmLine.TheVariants as lines
use Rattle.um_defs.specs.Receivers.{refuses, received, received_unless, takes, ticked}
use Rattle.um_defs.specs.um_run_defs.Run.{UmRun, UmOutcome, goes_on, spends, does_event, offered, sent, of_message, on_link, landed, taken, taken_as, ticks_by, delivered, most_messages, counts_spent, messages_spent}
use Rattle.law_um.specs.Sound.{IsWithin}
use Rattle.law_um.proofs.Steps.{received_so, ticked_so}
use Rattle.law_um.specs.run.Reached.{GoesOn, IsReached, Rises}
use Rattle.law_um.proofs.run.Kept.{IsKept, found, always_kept}

within_rises : (low high : ℕ) (ps : List (ℕ × List ℕ)) → low ≤ high → IsWithin low high ps → Rises low high (delivered ps)
within_rises low high [] h is = h
within_rises low high (p ∷ ps) h is = (is.0, within_rises (p.0 + 1) high ps (omega (arith, is.1)) is.2)

module _ (sn : SnBits) (ticks : ℕ) where
  abbrev Rise : UmRun → UmOutcome → Type 0
  Rise s (spends counter) = Unit {0}
  Rise s (goes_on printed after) = Rises s.entity.receiver.deliv after.entity.receiver.deliv printed

  module _ (earlier : List UmEvent) (s : UmRun) (kept : IsKept sn ticks earlier s) where
    offer_rises : (packet : List ℕ) → Rise s (offered sn packet s)
    offer_rises packet = by (nat_lt PACKET_LIMIT (length packet)) (nat_lt last_count s.puts) (nat_le most_messages s.puts)
      where
        by : (a b c : Bool) → Rise s (cond a (goes_on (lines.Refused Size ∷ []) s) (cond b (spends counts_spent) (cond c (spends messages_spent) (sent sn packet s))))
        by true b c = omega arith
        by false true c = tt
        by false false true = tt
        by false false false = omega arith

    message_rises : (number : ℕ) (go : List ℕ → UmOutcome) → ((packet : List ℕ) → find nat_cmp s.flight number ≡ Some packet → Rise s (go packet))
        → Rise s (of_message number s go)
    message_rises number go good = by (nat_lt s.puts number) (find nat_cmp s.flight number) refl
      where
        on : (o : Option (List ℕ)) → find nat_cmp s.flight number ≡ o → Rise s (on_link number s go o)
        on None is = omega arith
        on (Some packet) is = good packet is

        by : (b : Bool) (o : Option (List ℕ)) → find nat_cmp s.flight number ≡ o → Rise s (cond b (goes_on (lines.Refused NoSuch ∷ []) s) (on_link number s go o))
        by true o is = omega arith
        by false o is = on o is

    taken_rises : (number : ℕ) (packet : List ℕ) → find nat_cmp s.flight number ≡ Some packet → (flight : List (ℕ × List ℕ))
        → Rise s (taken sn ticks number s (record s { flight = flight }) packet)
    unfolding takes
    taken_rises number packet here flight =
        subst (λ (o : Option ℕ). Rise s (taken_as sn number packet s (record s { flight = flight }) (received_unless ticks s.entity o packet (refuses s.entity o))))
        (sym (found sn ticks earlier s kept number packet here)) (by (refuses s.entity (Some (number - 1))) refl)
      where
        by : (o : Option UmError) → refuses s.entity (Some (number - 1)) ≡ o
            → Rise s (taken_as sn number packet s (record s { flight = flight }) (received_unless ticks s.entity (Some (number - 1)) packet o))
        by None none =
            let step = received_so ticks s.entity (number - 1) packet kept.sound none in
            let d = received ticks s.entity (number - 1) packet in
            within_rises s.entity.receiver.deliv d.after.receiver.deliv d.packets step.up step.packets
        by (Some (errors.Late count)) is = omega arith
        by (Some (errors.Duplicate count)) is = omega arith
        by (Some (errors.Ahead count)) is = omega arith
        by (Some errors.NoCount) is = omega arith
        by (Some errors.Memory) is = omega arith

    tick_rises : Rise s (ticks_by s (ticked ticks s.entity))
    tick_rises =
        let step = ticked_so ticks s.entity kept.sound in
        let d = ticked ticks s.entity in
        within_rises s.entity.receiver.deliv d.after.receiver.deliv d.packets step.up step.packets

    event_rises : (event : UmEvent) → Rise s (does_event sn ticks event s)
    unfolding does_event
    event_rises (events.Offer packet) = offer_rises packet
    event_rises (events.Give number) =
        message_rises number (taken sn ticks number s (landed number s)) (λ packet here. taken_rises number packet here (without nat_cmp s.flight number))
    event_rises (events.Again number) = message_rises number (taken sn ticks number s s) (λ packet here. taken_rises number packet here s.flight)
    event_rises (events.Lose number) = message_rises number (λ packet. goes_on (lines.Lost number ∷ []) (landed number s)) (λ packet here. omega arith)
    event_rises events.Tick = tick_rises
    event_rises events.Ask = omega arith

  pub rises : (earlier : List UmEvent) (event : UmEvent) (before : UmRun) (printed : List UmLine) (after : UmRun)
      → IsReached sn ticks earlier before → GoesOn sn ticks event before printed after
      → Rises before.entity.receiver.deliv after.entity.receiver.deliv printed
  rises earlier event before printed after reached goes =
      subst (Rise before) goes.outcome (event_rises earlier before (always_kept sn ticks earlier before reached) event)

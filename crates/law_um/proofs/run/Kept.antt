-- What each event keeps in a run.
use Rattle.std.proofs.Common.{◌≡◌, ◌==◌, ℕ, ◌+◌, ◌-◌, ◌%◌, ◌<◌, ◌≤◌, Bool, true, false, cond, nat_lt, nat_le, List, [], ◌∷◌, length, Option, Some, None, refl, sym, subst, arith, inl, inr}
use Rattle.std.specs.Ordering.{nat_cmp}
use Rattle.std.proofs.lemmas.Bool.Decides.{nat_tests}
use Rattle.gnb_types.specs.declared.names.SnBits.{SnBits}
use Rattle.gnb_types.specs.declared.names.SnBits.TheVariants.{Len12, Len18}
use Rattle.gnb_types.specs.declared.reasons.RefuseReason.TheVariants.{Size, NoSuch}
use Rattle.tables.specs.Tables.{find, put, without}
use Rattle.pdcp.specs.Near.{last_count}
use Rattle.pdcp.specs.Numbers.{space, half}
use Rattle.pdcp_defs.specs.Counts.{near_count}
use Rattle.pdcp.specs.declared.pdu.TheConstants.{PACKET_LIMIT}
use Rattle.pdcp_entities.proofs.NearLemmas.{near_is}
use Rattle.um_defs.specs.declared.types.error.UmError.{UmError}
use Rattle.um_defs.specs.declared.types.error.UmError.TheVariants as errors
use Rattle.um_defs.specs.declared.types.event.UmEvent.{UmEvent}
use Rattle.um_defs.specs.declared.types.event.UmEvent.TheVariants as events
use Rattle.um_defs.specs.declared.types.line.UmLine.{UmLine}
use Rattle.um_defs.specs.declared.types.line.UmLine.TheVariants as lines
use Rattle.um_defs.specs.Receivers.{refuses, received, received_unless, takes, ticked}
use Rattle.um_defs.specs.um_run_defs.Run.{UmRun, UmOutcome, new_run, goes_on, spends, does_event, offered, sent, of_message, on_link, landed, lost, taken, taken_as, ticks_by, asked, delivered, span, least_on_link, most_messages, counts_spent, messages_spent}
use Rattle.law_um.specs.Sound.{IsSound, IsWithin}
use Rattle.law_um.proofs.Deliveries.{within_put, wider}
use Rattle.law_um.proofs.Steps.{is_sound, received_so, received_next, ticked_so, ticked_next}
use Rattle.law_um.specs.run.Reached.{GoesOn, IsReached, WasOffered, EachDelivered}
use Rattle.law_um.proofs.run.Lists.{Each, each_as, each_put, each_without, each_find, each_front, each_rest, within_each, within_without, least_each, least_low}

module _ (sn : SnBits) (ticks : ℕ) where
  abbrev pub Offered : List UmEvent → ℕ → List ℕ → Type 0
  Offered events count packet = WasOffered sn ticks events count packet

  abbrev pub Sent : List UmEvent → ℕ → List ℕ → Type 0
  Sent events number packet = WasOffered sn ticks events (number - 1) packet

  pub record IsKept (events : List UmEvent) (s : UmRun) : Type 0 where
    pub sound : IsSound s.entity
    pub next : s.entity.next ≤ s.puts
    pub flight : IsWithin 1 (s.puts + 1) s.flight
    pub puts : s.puts ≤ last_count + 1
    pub window : s.puts ≤ least_on_link s.entity.receiver.deliv s.flight + half sn
    pub sent : Each (Sent events) s.flight
    pub stored : Each (Offered events) s.entity.receiver.stored

  remainder_again : (t : SnBits) (count : ℕ) → count % space t % space t ≡ count % space t
  remainder_again Len12 count = omega arith
  remainder_again Len18 count = omega arith

  -- the COUNT of a message on the link is found
  pub found : (events : List UmEvent) (s : UmRun) → IsKept events s → (number : ℕ) (packet : List ℕ) → find nat_cmp s.flight number ≡ Some packet
      → near_count sn s.entity.receiver.deliv ((number - 1) % space sn) ≡ Some (number - 1)
  found events s kept number packet h =
      let within = each_find (λ k x. (1 ≤ k) × (k < s.puts + 1)) s.flight number packet (within_each 1 (s.puts + 1) s.flight kept.flight) h in
      let least = each_find (λ k x. least_on_link s.entity.receiver.deliv s.flight ≤ k - 1) s.flight number packet
      (least_each s.entity.receiver.deliv 1 (s.puts + 1) s.flight kept.flight) h in
      let low = least_low s.entity.receiver.deliv s.flight in
      near_is sn s.entity.receiver.deliv ((number - 1) % space sn) (number - 1)
      (record {
        same = sym (remainder_again sn (number - 1));
        low = omega (arith, least, kept.window, kept.sound.deliv, kept.next);
        high = omega (arith, within, low, kept.window);
        given = omega (arith, within, kept.puts);
      })

  -- the run has stopped, or goes on as it should while few COUNTs are outstanding
  abbrev pub Good : List UmEvent → UmEvent → UmOutcome → Type 0
  Good earlier event (spends counter) = Unit {0}
  Good earlier event (goes_on printed s) =
      (s.puts ≤ least_on_link s.entity.receiver.deliv s.flight + half sn → IsKept (event ∷ earlier) s) × EachDelivered (Offered earlier) printed

  -- ---- packets that are delivered

  each_delivered : (P : ℕ → List ℕ → Type 0) (ps : List (ℕ × List ℕ)) → Each P ps → EachDelivered P (delivered ps)
  each_delivered P [] each = tt
  each_delivered P (p ∷ ps) each = (each.0, each_delivered P ps each.1)

  module _ (earlier : List UmEvent) (event : UmEvent) (s : UmRun) (reached : IsReached sn ticks earlier s) (kept : IsKept earlier s) where
    later_sent : (es : List (ℕ × List ℕ)) → Each (Sent earlier) es → Each (Sent (event ∷ earlier)) es
    later_sent es each = each_as (Sent earlier) (Sent (event ∷ earlier)) (λ k x h. inr h) es each

    later_offered : (es : List (ℕ × List ℕ)) → Each (Offered earlier) es → Each (Offered (event ∷ earlier)) es
    later_offered es each = each_as (Offered earlier) (Offered (event ∷ earlier)) (λ k x h. inr h) es each

    -- the same run after one event more
    still : s.puts ≤ least_on_link s.entity.receiver.deliv s.flight + half sn → IsKept (event ∷ earlier) s
    still window = record {
      sound = kept.sound;
      next = kept.next;
      flight = kept.flight;
      puts = kept.puts;
      window = window;
      sent = later_sent s.flight kept.sent;
      stored = later_offered s.entity.receiver.stored kept.stored;
    }

    -- and after a message has left the link
    left : (number : ℕ)
        → s.puts ≤ least_on_link s.entity.receiver.deliv (without nat_cmp s.flight number) + half sn → IsKept (event ∷ earlier) (landed number s)
    left number window = record {
      sound = kept.sound;
      next = kept.next;
      flight = within_without 1 (s.puts + 1) s.flight number kept.flight;
      puts = kept.puts;
      window = window;
      sent = later_sent (without nat_cmp s.flight number) (each_without (Sent earlier) s.flight number kept.sent);
      stored = later_offered s.entity.receiver.stored kept.stored;
    }

    not_less : (a b : ℕ) → nat_lt a b ≡ false → b ≤ a
    not_less a b h = grind (arith, nat_tests)

    pub offer_good : (packet : List ℕ) → event ≡ events.Offer packet → Good earlier event (offered sn packet s)
    offer_good packet is = by (nat_lt PACKET_LIMIT (length packet)) (nat_lt last_count s.puts) refl (nat_le most_messages s.puts)
      where
        by : (a b : Bool) → nat_lt last_count s.puts ≡ b → (c : Bool)
            → Good earlier event (cond a (goes_on (lines.Refused Size ∷ []) s)
            (cond b (spends counts_spent) (cond c (spends messages_spent) (sent sn packet s))))
        by true b test c = (still, tt)
        by false true test c = tt
        by false false test true = tt
        by false false test false = (
          (λ window. record {
            sound = kept.sound;
            next = omega (arith, kept.next);
            flight = within_put 1 (s.puts + 1 + 1) s.flight (s.puts + 1) packet (wider 1 (s.puts + 1) (s.puts + 1 + 1) s.flight (omega arith) kept.flight) (omega arith) (omega arith);
            puts = omega (arith, not_less last_count s.puts test);
            window = window;
            sent = each_put (Sent (event ∷ earlier)) s.flight (s.puts + 1) packet (later_sent s.flight kept.sent)
                (inl (is, s, reached, omega arith));
            stored = later_offered s.entity.receiver.stored kept.stored;
          }),
          tt,
        )

    -- ---- a message that is named

    message_good : (number : ℕ) (go : List ℕ → UmOutcome)
        → ((packet : List ℕ) → find nat_cmp s.flight number ≡ Some packet → Good earlier event (go packet)) → Good earlier event (of_message number s go)
    message_good number go good = by (nat_lt s.puts number) (find nat_cmp s.flight number) refl
      where
        on : (o : Option (List ℕ)) → find nat_cmp s.flight number ≡ o → Good earlier event (on_link number s go o)
        on None is = (still, tt)
        on (Some packet) is = good packet is

        by : (b : Bool) (o : Option (List ℕ)) → find nat_cmp s.flight number ≡ o
            → Good earlier event (cond b (goes_on (lines.Refused NoSuch ∷ []) s) (on_link number s go o))
        by true o is = (still, tt)
        by false o is = on o is

    pub lose_good : (number : ℕ) → Good earlier event (lost number s)
    lose_good number = message_good number (λ packet. goes_on (lines.Lost number ∷ []) (landed number s))
        (λ packet is. (left number, tt))

    -- ---- a message is taken

    module _ (number : ℕ) (packet : List ℕ) (here : find nat_cmp s.flight number ≡ Some packet) where
      bounds : (1 ≤ number) × (number < s.puts + 1)
      bounds = each_find (λ k x. (1 ≤ k) × (k < s.puts + 1)) s.flight number packet (within_each 1 (s.puts + 1) s.flight kept.flight) here

      was : Offered earlier (number - 1) packet
      was = each_find (Sent earlier) s.flight number packet kept.sent here

      -- an entity that has received it, over what is on the link then
      received_kept : (flight : List (ℕ × List ℕ)) → IsWithin 1 (s.puts + 1) flight → Each (Sent earlier) flight
          → refuses s.entity (Some (number - 1)) ≡ None
          → s.puts ≤ least_on_link (received ticks s.entity (number - 1) packet).after.receiver.deliv flight + half sn
          → IsKept (event ∷ earlier) (record { puts = s.puts; flight = flight; entity = (received ticks s.entity (number - 1) packet).after })
      received_kept flight within each none window =
          let step = received_so ticks s.entity (number - 1) packet kept.sound none in
          let next = received_next ticks s.entity (number - 1) packet kept.sound none in
          let all = subst (Each (Offered earlier)) step.all
          (each_put (Offered earlier) s.entity.receiver.stored (number - 1) packet kept.stored was) in
          let d = received ticks s.entity (number - 1) packet in
          record {
            sound = is_sound ticks s.entity (put nat_cmp s.entity.receiver.stored (number - 1) packet) d step;
            next = omega (arith, next, kept.next, bounds);
            flight = within;
            puts = kept.puts;
            window = window;
            sent = later_sent flight each;
            stored = later_offered d.after.receiver.stored (each_rest (Offered earlier) d.packets d.after.receiver.stored all);
          }

      received_lines : refuses s.entity (Some (number - 1)) ≡ None
          → EachDelivered (Offered earlier) (delivered (received ticks s.entity (number - 1) packet).packets)
      received_lines none =
          let step = received_so ticks s.entity (number - 1) packet kept.sound none in
          let d = received ticks s.entity (number - 1) packet in
          let all = subst (Each (Offered earlier)) step.all
          (each_put (Offered earlier) s.entity.receiver.stored (number - 1) packet kept.stored was) in
          each_delivered (Offered earlier) d.packets (each_front (Offered earlier) d.packets d.after.receiver.stored all)

      -- what the entity says of the number, which is that of the COUNT
      pub taken_good : (flight : List (ℕ × List ℕ)) → IsWithin 1 (s.puts + 1) flight → Each (Sent earlier) flight
          → Good earlier event (taken sn ticks number s (record s { flight = flight }) packet)
      unfolding takes
      taken_good flight within each =
          subst (λ (o : Option ℕ). Good earlier event (taken_as sn number packet s (record s { flight = flight }) (received_unless ticks s.entity o packet (refuses s.entity o))))
          (sym (found earlier s kept number packet here)) (by (refuses s.entity (Some (number - 1))) refl)
        where
          over : s.puts ≤ least_on_link s.entity.receiver.deliv flight + half sn → IsKept (event ∷ earlier) (record s { flight = flight })
          over window = record {
            sound = kept.sound;
            next = kept.next;
            flight = within;
            puts = kept.puts;
            window = window;
            sent = later_sent flight each;
            stored = later_offered s.entity.receiver.stored kept.stored;
          }

          by : (o : Option UmError) → refuses s.entity (Some (number - 1)) ≡ o
              → Good earlier event (taken_as sn number packet s (record s { flight = flight }) (received_unless ticks s.entity (Some (number - 1)) packet o))
          by None none = (received_kept flight within each none, received_lines none)
          by (Some (errors.Late count)) is = (over, tt)
          by (Some (errors.Duplicate count)) is = (over, tt)
          by (Some (errors.Ahead count)) is = (still, tt)
          by (Some errors.NoCount) is = (still, tt)
          by (Some errors.Memory) is = (still, tt)

    pub give_good : (number : ℕ) → Good earlier event (of_message number s (taken sn ticks number s (landed number s)))
    give_good number = message_good number (taken sn ticks number s (landed number s)) (λ packet here.
        taken_good number packet here (without nat_cmp s.flight number) (within_without 1 (s.puts + 1) s.flight number kept.flight)
        (each_without (Sent earlier) s.flight number kept.sent))

    pub again_good : (number : ℕ) → Good earlier event (of_message number s (taken sn ticks number s s))
    again_good number = message_good number (taken sn ticks number s s) (λ packet here. taken_good number packet here s.flight kept.flight kept.sent)

    -- ---- ticks and questions

    pub tick_good : Good earlier event (ticks_by s (ticked ticks s.entity))
    tick_good =
        let step = ticked_so ticks s.entity kept.sound in
        let d = ticked ticks s.entity in
        let all = subst (Each (Offered earlier)) step.all kept.stored in (
          (λ window. record {
            sound = is_sound ticks s.entity s.entity.receiver.stored d step;
            next = omega (arith, ticked_next ticks s.entity kept.sound, kept.next);
            flight = kept.flight;
            puts = kept.puts;
            window = window;
            sent = later_sent s.flight kept.sent;
            stored = later_offered d.after.receiver.stored (each_rest (Offered earlier) d.packets d.after.receiver.stored all);
          }),
          each_delivered (Offered earlier) d.packets (each_front (Offered earlier) d.packets d.after.receiver.stored all),
        )

    pub ask_good : Good earlier event (asked s)
    ask_good = (still, tt)

  pub event_good : (earlier : List UmEvent) (event : UmEvent) (s : UmRun) → IsReached sn ticks earlier s → IsKept earlier s
      → Good earlier event (does_event sn ticks event s)
  unfolding does_event
  event_good earlier (events.Offer packet) s reached kept = offer_good earlier (events.Offer packet) s reached kept packet refl
  event_good earlier (events.Give number) s reached kept = give_good earlier (events.Give number) s reached kept number
  event_good earlier (events.Again number) s reached kept = again_good earlier (events.Again number) s reached kept number
  event_good earlier (events.Lose number) s reached kept = lose_good earlier (events.Lose number) s reached kept number
  event_good earlier events.Tick s reached kept = tick_good earlier events.Tick s reached kept
  event_good earlier events.Ask s reached kept = ask_good earlier events.Ask s reached kept

  -- ---- every run

  window_of : (s : UmRun) → span s ≤ half sn → s.puts ≤ least_on_link s.entity.receiver.deliv s.flight + half sn
  unfolding span
  window_of s h = by (s.puts == 0) refl h
    where
      by : (b : Bool) → (s.puts == 0) ≡ b → cond b 0 (s.puts - least_on_link s.entity.receiver.deliv s.flight) ≤ half sn
          → s.puts ≤ least_on_link s.entity.receiver.deliv s.flight + half sn
      by true test h = let none : s.puts ≡ 0 = grind (arith, nat_tests) in omega (arith, none)
      by false test h = omega (arith, h)

  pub kept_new : IsKept [] new_run
  kept_new = record {
    sound = record { deliv = omega arith; stored = tt; reord = omega arith; runs = refl; awaits = tt };
    next = omega arith;
    flight = tt;
    puts = omega arith;
    window = omega arith;
    sent = tt;
    stored = tt;
  }

  goes_good : (earlier : List UmEvent) (event : UmEvent) (before : UmRun) (printed : List UmLine) (after : UmRun)
      → IsReached sn ticks earlier before → IsKept earlier before → GoesOn sn ticks event before printed after → Good earlier event (goes_on printed after)
  goes_good earlier event before printed after reached kept goes =
      subst (Good earlier event) goes.outcome (event_good earlier event before reached kept)

  pub always_kept : (all : List UmEvent) (s : UmRun) → IsReached sn ticks all s → IsKept all s
  always_kept [] s is = subst (IsKept []) (sym is) kept_new
  always_kept (event ∷ earlier) s (before, printed, reached, goes) =
      (goes_good earlier event before printed s reached (always_kept earlier before reached) goes).0 (window_of s goes.within)

  pub lines_offered : (earlier : List UmEvent) (event : UmEvent) (before : UmRun) (printed : List UmLine) (after : UmRun)
      → IsReached sn ticks earlier before → GoesOn sn ticks event before printed after → EachDelivered (Offered earlier) printed
  lines_offered earlier event before printed after reached goes =
      (goes_good earlier event before printed after reached (always_kept earlier before reached) goes).1

-- The run of one unacknowledged bearer (TS 38.323, 5.2.1, 5.2.2): a sender that numbers each packet at once and keeps none, a link that
-- loses, repeats and reorders messages, and a receiving entity with a reordering timer.
use Rattle.std.specs.Prelude.{◌==◌, ℕ, ◌+◌, ◌-◌, ◌%◌, nat_lt, nat_le, min, if◌then◌else◌, List, [], ◌∷◌, ◌++◌, length, map, Option, Some, None, Result, Ok, Err}
use Rattle.std.specs.Ordering.{nat_cmp}
use Rattle.gnb_types.specs.declared.names.SnBits.{SnBits}
use Rattle.gnb_types.specs.declared.reasons.RefuseReason.{RefuseReason}
use Rattle.gnb_types.specs.declared.reasons.RefuseReason.TheVariants.{Size, NoSuch, Empty}
use Rattle.tables.specs.Tables.{find, put, without}
use Rattle.pdcp.specs.Near.{last_count}
use Rattle.pdcp.specs.Numbers.{space, half}
use Rattle.pdcp.specs.Pdus.{radio_data}
use Rattle.pdcp.specs.declared.pdu.TheConstants.{PACKET_LIMIT}
use Rattle.um_defs.specs.declared.types.error.UmError.{UmError}
use Rattle.um_defs.specs.declared.types.error.UmError.TheVariants as errors
use Rattle.um_defs.specs.declared.types.event.UmEvent.{UmEvent}
use Rattle.um_defs.specs.declared.types.event.UmEvent.TheVariants as events
use Rattle.um_defs.specs.declared.types.line.UmLine.{UmLine}
use Rattle.um_defs.specs.declared.types.line.UmLine.TheVariants as lines
use Rattle.um_defs.specs.Receivers.{UmReceiver, UmDelivery, new_um_receiver, takes, ticked}

-- How many messages were put, the packets of those on the link under the numbers of their messages, and the receiving entity. Message
-- number n has COUNT n - 1.
pub record UmRun : Type 0 where
  pub puts : ℕ
  pub flight : List (ℕ × List ℕ)
  pub entity : UmReceiver (List ℕ)

abbrev pub new_run : UmRun
new_run = record { puts = 0; flight = []; entity = new_um_receiver }

-- lines and the run after them; or a counter would pass its last value
pub data UmOutcome : Type 0 where
  goes_on : List UmLine → UmRun → UmOutcome
  spends : (counter : ℕ) → UmOutcome

abbrev pub refused : RefuseReason → UmRun → UmOutcome
refused reason s = goes_on (lines.Refused reason ∷ []) s

abbrev pub delivered : List (ℕ × List ℕ) → List UmLine
delivered packets = map (λ e. lines.Deliver e.0 e.1) packets

-- ---- a packet is offered: 1,000,000 messages are put at most, and no COUNT is above the last

abbrev pub most_messages : ℕ
most_messages = 1000000

abbrev pub counts_spent : ℕ
counts_spent = 4

abbrev pub messages_spent : ℕ
messages_spent = 1

abbrev pub sent : SnBits → List ℕ → UmRun → UmOutcome
sent sn packet s =
    goes_on (lines.Put (s.puts + 1) s.puts (radio_data sn s.puts packet) ∷ [])
    (record s { puts = s.puts + 1; flight = put nat_cmp s.flight (s.puts + 1) packet })

abbrev pub offered : SnBits → List ℕ → UmRun → UmOutcome
offered sn packet s =
    if nat_lt PACKET_LIMIT (length packet) then refused Size s else
    (if nat_lt last_count s.puts then spends counts_spent else
    (if nat_le most_messages s.puts then spends messages_spent else sent sn packet s))

-- ---- a message on the link

abbrev pub on_link : ℕ → UmRun → (List ℕ → UmOutcome) → Option (List ℕ) → UmOutcome
on_link number s go None = refused Empty s
on_link number s go (Some packet) = go packet

abbrev pub of_message : ℕ → UmRun → (List ℕ → UmOutcome) → UmOutcome
of_message number s go = if nat_lt s.puts number then refused NoSuch s else on_link number s go (find nat_cmp s.flight number)

abbrev pub landed : ℕ → UmRun → UmRun
landed number s = record s { flight = without nat_cmp s.flight number }

abbrev pub lost : ℕ → UmRun → UmOutcome
lost number s = of_message number s (λ packet. goes_on (lines.Lost number ∷ []) (landed number s))

-- it is taken: what the entity says of the number on the wire
abbrev pub got : SnBits → ℕ → List ℕ → UmLine
got sn number packet = lines.Got number (number - 1) (radio_data sn (number - 1) packet)

abbrev pub taken_as : SnBits → ℕ → List ℕ → UmRun → UmRun → Result (UmDelivery (List ℕ)) UmError → UmOutcome
taken_as sn number packet s after (Ok d) = goes_on (got sn number packet ∷ delivered d.packets) (record after { entity = d.after })
taken_as sn number packet s after (Err (errors.Late count)) = goes_on (got sn number packet ∷ lines.DropLate ∷ []) after
taken_as sn number packet s after (Err (errors.Duplicate count)) = goes_on (got sn number packet ∷ lines.DropDuplicate ∷ []) after
taken_as sn number packet s after (Err error) = goes_on (lines.Held number ∷ []) s

abbrev pub taken : SnBits → ℕ → ℕ → UmRun → UmRun → List ℕ → UmOutcome
taken sn ticks number s after packet =
    taken_as sn number packet s after (takes sn ticks s.entity ((number - 1) % space sn) packet)

-- ---- each event

abbrev pub ticks_by : UmRun → UmDelivery (List ℕ) → UmOutcome
ticks_by s d = goes_on (delivered d.packets) (record s { entity = d.after })

abbrev pub asked : UmRun → UmOutcome
asked s = goes_on (lines.Waiting s.entity.receiver.deliv s.entity.next (length s.entity.receiver.stored) ∷ []) s

unfoldable pub does_event : SnBits → ℕ → UmEvent → UmRun → UmOutcome
does_event sn ticks (events.Offer packet) s = offered sn packet s
does_event sn ticks (events.Give number) s = of_message number s (taken sn ticks number s (landed number s))
does_event sn ticks (events.Again number) s = of_message number s (taken sn ticks number s s)
does_event sn ticks (events.Lose number) s = lost number s
does_event sn ticks events.Tick s = ticks_by s (ticked ticks s.entity)
does_event sn ticks events.Ask s = asked s

-- ---- the run stops after the first event that leaves more than half a space of COUNTs outstanding

abbrev pub least_on_link : ℕ → List (ℕ × List ℕ) → ℕ
least_on_link deliv [] = deliv
least_on_link deliv (e ∷ es) = min deliv (e.0 - 1)

-- from the least COUNT that is awaited or on the link up to the last that was put
unfoldable pub span : UmRun → ℕ
span s = if s.puts == 0 then 0 else s.puts - least_on_link s.entity.receiver.deliv s.flight

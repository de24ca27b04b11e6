-- A run of packets, over octets, and what is printed of it.
use Rattle.std.proofs.Common.{◌≡◌, ℕ, List, [], ◌∷◌, map, refl, ap, ◌∙◌}
use Rattle.std.specs.List.{AllByRecursion}
use Rattle.gnb_types.specs.declared.names.Dir.TheVariants.{Dl, Ul}
use Rattle.message_types.specs.declared.rrc.Token.{Token}
use Rattle.tables.specs.Tables.{map_values}
use Rattle.unit_defs.specs.Ways.{Message}
use Rattle.unit_defs.specs.octet_defs.Codec.{Codec}
use Rattle.scenario_text.specs.declared.event.Event.{Event}
use Rattle.scenario_text.specs.declared.event.Event.TheVariants as events
use Rattle.run_defs.specs.Lines.{put_item, got_item, put_message, got_message, delivers, lost_items, lost_message, drops_input, held_at, procedure_failed, is_quiet, is_busy, has_settled, has_not_settled, was_refused}
use Rattle.run_defs.specs.Printing.{out_line, out_lines}
use Rattle.run_defs.specs.States.{RunStep, new_state, goes, stops, entity}
use Rattle.run_defs.specs.Runs.{Reading, Happened, Transcript, event_before, tunnel_end, happens, run_on, run_from, run, Run}
use Rattle.run_defs.specs.UnitRuns.{UnitRun, tables}
use Rattle.law_octets_say_the_same.specs.octet_runs.Again.{PlainState}
use Rattle.law_octets_say_the_same.specs.octet_runs.Printed.{printed_step, printed_event, printed}
use Rattle.law_octets_say_the_same.specs.octet_runs.Faithful.{IsOfPackets, IsFaithful}
use Rattle.law_octets_say_the_same.proofs.octet_runs.Endings.{PlainLine, PlainOutcome, encode, over, line_again, step_again, outcome_again}
use Rattle.law_octets_say_the_same.proofs.octet_runs.Puts.{plain, octet}
use Rattle.law_octets_say_the_same.proofs.octet_runs.Events.{offer_again, get_again, air_again, ack_again, ask_again}
use Rattle.law_octets_say_the_same.proofs.octet_runs.Statics.{static_again}

module _ (codec : Codec) where
  abbrev happened_again : Happened (Message Token) → Happened (List ℕ)
  happened_again h = record { event = h.event; steps = map (step_again codec) h.steps }

  abbrev transcript_again : Transcript (Message Token) → Transcript (List ℕ)
  transcript_again t = record { events = map happened_again t.events; stop = t.stop }

  -- ---- it is printed as the other one

  as_it_is : List ℕ → List ℕ
  as_it_is octets = octets

  line_printed : (line : PlainLine) → out_line as_it_is (line_again codec line) ≡ out_line (encode codec) line
  unfolding as_it_is
  line_printed (put_item link item) = refl
  line_printed (got_item link item) = refl
  line_printed (put_message number control_message) = refl
  line_printed (got_message number control_message) = refl
  line_printed (delivers key count packet) = refl
  line_printed (lost_items link items) = refl
  line_printed (lost_message number) = refl
  line_printed (drops_input node reason) = refl
  line_printed (held_at link reason) = refl
  line_printed (procedure_failed node ue cause) = refl
  line_printed (is_quiet ue bearer downlink uplink) = refl
  line_printed (is_busy ue bearer) = refl
  line_printed (has_settled rounds) = refl
  line_printed (has_not_settled rounds) = refl
  line_printed (was_refused reason) = refl

  lines_printed : (lines : List PlainLine) → out_lines as_it_is (map (line_again codec) lines) ≡ out_lines (encode codec) lines
  lines_printed [] = refl
  lines_printed (line ∷ lines) = λ i. line_printed line i ∷ lines_printed lines i

  steps_printed : (steps : List (RunStep (Message Token))) → map (printed_step as_it_is) (map (step_again codec) steps) ≡ map (printed_step (encode codec)) steps
  steps_printed [] = refl
  steps_printed (step ∷ steps) = λ i. record { actor = step.actor; lines = lines_printed step.lines i } ∷ steps_printed steps i

  events_printed : (hs : List (Happened (Message Token))) → map (printed_event as_it_is) (map happened_again hs) ≡ map (printed_event (encode codec)) hs
  events_printed [] = refl
  events_printed (h ∷ hs) = λ i. record { event = h.event; steps = steps_printed h.steps i } ∷ events_printed hs i

  pub transcript_printed : (t : Transcript (Message Token)) → printed (λ octets. octets) (transcript_again t) ≡ printed (encode codec) t
  unfolding as_it_is
  transcript_printed t = ap (λ es. record { events = es; stop = t.stop }) (events_printed t.events)

  -- ---- the run

  module _ (reading : Reading) (IsOne : Event → Type 0) (Holds : PlainState → Type 0) (faithful : IsFaithful codec reading IsOne Holds) where
    happens_again : (event : Event) → IsOne event → IsOfPackets event → (s : PlainState) → Holds s
        → happens (octet codec reading) event (over codec s) ≡ outcome_again codec (happens (plain codec reading) event s)
    unfolding happens
    happens_again (events.Static plan) one is s holds = static_again codec reading plan s
    happens_again (events.Offer ue bearer Dl p) one is s holds = offer_again codec reading ue bearer p s
    happens_again (events.Offer ue bearer Ul p) one is s holds = absurd is
    happens_again (events.Get node teid) one is s holds =
        get_again codec reading (tunnel_end (plain codec reading) node teid) s (λ item rest found. faithful.got s node teid item rest one holds found)
    happens_again (events.Air ue bearer dir) one is s holds =
        air_again codec reading (entity ue bearer dir) s (λ home item ready found. faithful.carried s ue bearer dir home item one holds ready found)
    happens_again (events.Ack ue bearer dir) one is s holds =
        ack_again codec reading (entity ue bearer dir) s (λ home item rest ready found. faithful.confirmed s ue bearer dir home item rest one holds ready found)
    happens_again events.Start one is s holds = absurd is
    happens_again (events.Attach plan) one is s holds = absurd is
    happens_again (events.Give message) one is s holds = absurd is
    happens_again (events.LoseMessage message) one is s holds = absurd is
    happens_again (events.LoseItem end teid) one is s holds = absurd is
    happens_again (events.Poll ue bearer) one is s holds = absurd is
    happens_again events.Pump one is s holds = absurd is
    happens_again events.Tick one is s holds = absurd is
    happens_again (events.Fail ue) one is s holds = absurd is
    happens_again (events.Arrive ue) one is s holds = absurd is
    happens_again (events.Return ue) one is s holds = absurd is
    happens_again (events.Handover ue gnb up du) one is s holds = absurd is
    happens_again (events.Cancel ue) one is s holds = absurd is
    happens_again (events.Release ue) one is s holds = absurd is
    happens_again (events.Ask ue bearer) one is s holds = ask_again codec reading ue bearer s (faithful.asked s ue bearer one holds)
    happens_again events.Settle one is s holds = absurd is
    happens_again (events.InjectMessage from to octets) one is s holds = absurd is
    happens_again (events.InjectItem end teid octets) one is s holds = absurd is

    run_again : (script : List Event) → AllByRecursion IsOne script → (s : PlainState) → Holds s
        → run_from (octet codec reading) script (over codec s) ≡ transcript_again (run_from (plain codec reading) script s)
    unfolding run_from
    run_again [] are s holds = refl
    run_again (event ∷ script) are s holds =
        ap (run_on (octet codec reading) event (run_from (octet codec reading) script)) (happens_again event are.0 (faithful.packets event are.0) s holds)
        ∙ by (happens (plain codec reading) event s) (λ after steps is. run_again script are.1 after (faithful.goes_on event s after steps are.0 holds is)) refl
      where
        by : (e : PlainOutcome)
            → ((after : PlainState) (steps : List (RunStep (Message Token))) → happens (plain codec reading) event s ≡ goes steps after
            → run_from (octet codec reading) script (over codec after) ≡ transcript_again (run_from (plain codec reading) script after))
            → happens (plain codec reading) event s ≡ e
            → run_on (octet codec reading) event (run_from (octet codec reading) script) (outcome_again codec e)
            ≡ transcript_again (run_on (plain codec reading) event (run_from (plain codec reading) script) e)
        by (goes steps after) more is = ap (event_before event (map (step_again codec) steps)) (more after steps is)
        by (stops steps why) more is = refl

    pub runs_print : (script : List Event) → AllByRecursion IsOne script
        → printed (λ octets. octets) (UnitRun codec (tables codec) script) ≡ printed (encode codec) (Run reading script)
    unfolding UnitRun Run run map_values
    runs_print script are =
        ap (printed (λ octets. octets)) (run_again script are new_state faithful.begins)
        ∙ transcript_printed (run_from (plain codec reading) script new_state)

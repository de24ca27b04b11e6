-- Every run comes to the same in both worlds.
use Rattle.std.proofs.Common.{◌≡◌, List, [], ◌∷◌, refl, ap, subst}
use Rattle.std.specs.List.{AllByRecursion}
use Rattle.scenario_text.specs.declared.event.Event.{Event}
use Rattle.scenario_text.specs.declared.event.Event.TheVariants as events
use Rattle.run_defs.specs.States.{State, new_state, goes, stops, Outcome, entity}
use Rattle.run_defs.specs.Runs.{Transcript, event_before, happens, tunnel_end, run_on, run_from, run}
use Rattle.proof_run_steps.specs.facts.Facts.{Hold}
use Rattle.proof_run_steps.proofs.facts.Within.{HoldsWith}
use Rattle.law_octets_say_the_same.specs.units_follow.Ranges.{IsScripted}
use Rattle.law_octets_say_the_same.proofs.units_follow.Steps.{Two, SameThere, first, second, Both, BothKeep}
use Rattle.law_octets_say_the_same.proofs.units_follow.Events.{both_static, both_start, both_attach, both_offer, both_get, both_air, both_ack, both_give, both_lose_message, both_lose_item, both_pump, both_tick, both_poll, both_fail, both_arrive, both_come_back, both_handover, both_cancel, both_release, both_ask, both_inject_message, both_inject_item}
use Rattle.law_octets_say_the_same.proofs.units_follow.Settling.{both_settle}

module _ {M C L P : Type 0} (two : Two M C L P) (there : SameThere two) where
  both_happen : (event : Event) → IsScripted two.input two.packet two.plan event → BothKeep two (happens (first two) event) (happens (second two) event)
  unfolding happens
  both_happen (events.Static plan) fits s h = both_static two there (events.Static plan) fits plan refl s h
  both_happen events.Start fits s h = both_start two there events.Start fits s h
  both_happen (events.Attach plan) fits s h = both_attach two there (events.Attach plan) fits plan refl s h
  both_happen (events.Offer ue bearer dir packet) fits s h = both_offer two there (events.Offer ue bearer dir packet) fits ue bearer dir packet refl fits s h
  both_happen (events.Get end teid) fits s h = both_get two there (events.Get end teid) fits (tunnel_end (first two) end teid) s h
  both_happen (events.Air ue bearer dir) fits s h = both_air two there (events.Air ue bearer dir) fits (entity ue bearer dir) s h
  both_happen (events.Ack ue bearer dir) fits s h = both_ack two there (events.Ack ue bearer dir) fits (entity ue bearer dir) s h
  both_happen (events.Give message) fits s h = both_give two there (events.Give message) fits message s h
  both_happen (events.LoseMessage message) fits s h = both_lose_message two there (events.LoseMessage message) fits message s h
  both_happen (events.LoseItem end teid) fits s h = both_lose_item two there (events.LoseItem end teid) fits (tunnel_end (first two) end teid) s h
  both_happen (events.Poll ue bearer) fits s h = both_poll two there (events.Poll ue bearer) fits ue bearer s h
  both_happen events.Pump fits s h = both_pump two there events.Pump fits s h
  both_happen events.Tick fits s h = both_tick two there events.Tick fits s h
  both_happen (events.Fail ue) fits s h = both_fail two there (events.Fail ue) fits ue s h
  both_happen (events.Arrive ue) fits s h = both_arrive two there (events.Arrive ue) fits ue s h
  both_happen (events.Return ue) fits s h = both_come_back two there (events.Return ue) fits ue s h
  both_happen (events.Handover ue gnb up du) fits s h = both_handover two there (events.Handover ue gnb up du) fits ue gnb up du s h
  both_happen (events.Cancel ue) fits s h = both_cancel two there (events.Cancel ue) fits ue s h
  both_happen (events.Release ue) fits s h = both_release two there (events.Release ue) fits ue refl s h
  both_happen (events.Ask ue bearer) fits s h = both_ask two there (events.Ask ue bearer) fits ue bearer s h
  both_happen events.Settle fits s h = both_settle two there events.Settle fits s h
  both_happen (events.InjectMessage from to octets) fits s h =
      both_inject_message two there (events.InjectMessage from to octets) fits from to octets fits s h
  both_happen (events.InjectItem end teid octets) fits s h =
      both_inject_item two there (events.InjectItem end teid octets) fits (tunnel_end (first two) end teid) octets fits s h

  both_go_on : (event : Event) (events : List Event) (e d : Outcome M C L P) → Both two e d
      → ((s : State M C L P) → Hold two.facts s → run_from (first two) events s ≡ run_from (second two) events s)
      → run_on (first two) event (run_from (first two) events) e ≡ run_on (second two) event (run_from (second two) events) d
  both_go_on event events e d p more =
      subst (λ (x : Outcome M C L P). run_on (first two) event (run_from (first two) events) e ≡ run_on (second two) event (run_from (second two) events) x) p.0
      (by e p.1)
    where
      by : (x : Outcome M C L P) → HoldsWith (first two) two.facts 0 x
          → run_on (first two) event (run_from (first two) events) x ≡ run_on (second two) event (run_from (second two) events) x
      by (goes steps t) h = ap (λ (t : Transcript M). event_before event steps t) (more t h)
      by (stops steps why) h = refl

  both_run_from : (events : List Event) → AllByRecursion (IsScripted two.input two.packet two.plan) events → (s : State M C L P) → Hold two.facts s
      → run_from (first two) events s ≡ run_from (second two) events s
  unfolding run_from
  both_run_from [] fits s h = refl
  both_run_from (event ∷ events) fits s h =
      both_go_on event events (happens (first two) event s) (happens (second two) event s) (both_happen event fits.0 s h) (both_run_from events fits.1)

  pub both_run : (events : List Event) → AllByRecursion (IsScripted two.input two.packet two.plan) events → Hold two.facts new_state
      → run (first two) events ≡ run (second two) events
  unfolding run
  both_run events fits h = both_run_from events fits new_state h

-- Every run keeps to the links.
use Rattle.std.proofs.Common.{List, [], ◌∷◌, refl, arith}
use Rattle.tables.specs.Tables.{find, at}
use Rattle.scenario_text.specs.declared.event.Event.{Event}
use Rattle.scenario_text.specs.declared.event.Event.TheVariants as events
use Rattle.run_defs.specs.Said.{OnLinks, no_items, WiresFrom, Wires, all_lines, lines_in}
use Rattle.run_defs.specs.States.{State, new_state, World, goes, stops, Outcome, entity}
use Rattle.run_defs.specs.Runs.{Transcript, happens, tunnel_end, run_on, run_from, run}
use Rattle.law_downlink_scripts.proofs.wires.Endings.{GoesBySteps, wires_append}
use Rattle.law_downlink_scripts.proofs.wires.Kept.{Kept}
use Rattle.law_downlink_scripts.proofs.wires.Steps.{Keeps}
use Rattle.law_downlink_scripts.proofs.wires.Events.{goes_static, goes_start, goes_attach, goes_offer, goes_get, goes_air, goes_ack, goes_give, goes_lose_message, goes_lose_item, goes_poll, goes_pump, goes_tick, goes_fail, goes_arrive, goes_come_back, goes_handover, goes_cancel, goes_release, goes_ask, goes_inject_message, goes_inject_item}
use Rattle.law_downlink_scripts.proofs.wires.Settling.{goes_settle}

module _ {M C L P : Type 0} (world : World M C L P) where
  goes_happens : (event : Event) → Keeps world (happens world event)
  unfolding happens
  goes_happens (events.Static plan) on s k = goes_static world plan on s k
  goes_happens events.Start on s k = goes_start world on s k
  goes_happens (events.Attach plan) on s k = goes_attach world plan on s k
  goes_happens (events.Offer ue bearer dir packet) on s k = goes_offer world ue bearer dir packet on s k
  goes_happens (events.Get end teid) on s k = goes_get world (tunnel_end world end teid) on s k
  goes_happens (events.Air ue bearer dir) on s k = goes_air world (entity ue bearer dir) on s k
  goes_happens (events.Ack ue bearer dir) on s k = goes_ack world (entity ue bearer dir) on s k
  goes_happens (events.Give message) on s k = goes_give world message on s k
  goes_happens (events.LoseMessage message) on s k = goes_lose_message world message on s k
  goes_happens (events.LoseItem end teid) on s k = goes_lose_item world (tunnel_end world end teid) on s k
  goes_happens (events.Poll ue bearer) on s k = goes_poll world ue bearer on s k
  goes_happens events.Pump on s k = goes_pump world on s k
  goes_happens events.Tick on s k = goes_tick world on s k
  goes_happens (events.Fail ue) on s k = goes_fail world ue on s k
  goes_happens (events.Arrive ue) on s k = goes_arrive world ue on s k
  goes_happens (events.Return ue) on s k = goes_come_back world ue on s k
  goes_happens (events.Handover ue gnb up du) on s k = goes_handover world ue gnb up du on s k
  goes_happens (events.Cancel ue) on s k = goes_cancel world ue on s k
  goes_happens (events.Release ue) on s k = goes_release world ue on s k
  goes_happens (events.Ask ue bearer) on s k = goes_ask world ue bearer on s k
  goes_happens events.Settle on s k = goes_settle world on s k
  goes_happens (events.InjectMessage from to octets) on s k = goes_inject_message world from to octets on s k
  goes_happens (events.InjectItem end teid octets) on s k = goes_inject_item world (tunnel_end world end teid) octets on s k

  run_goes_on : (event : Event) (more : State M C L P → Transcript M) (on : OnLinks M) (e : Outcome M C L P) → GoesBySteps (Kept world) on e
      → ((l : OnLinks M) (t : State M C L P) → Kept world l t → WiresFrom l (all_lines (more t).events))
      → WiresFrom on (all_lines (run_on world event more e).events)
  run_goes_on event more on (goes steps after) p q = wires_append on (lines_in steps) (all_lines (more after).events) p.0 (q _ after p.1)
  run_goes_on event more on (stops steps why) p q = wires_append on (lines_in steps) [] p tt

  goes_run : (events : List Event) (on : OnLinks M) (s : State M C L P) → Kept world on s → WiresFrom on (all_lines (run_from world events s).events)
  unfolding run_from
  goes_run [] on s k = tt
  goes_run (event ∷ events) on s k =
      run_goes_on event (run_from world events) on (happens world event s) (goes_happens event on s k).it (goes_run events)

  kept_at_first : Kept world no_items new_state
  unfolding at find
  kept_at_first = (λ q. refl, record { stands = λ q e. refl; carried = λ q. omega arith; idle = λ q none. refl }, refl, λ ue none. refl)

  pub wires : (events : List Event) → Wires (all_lines (run world events).events)
  unfolding run
  wires events = goes_run events no_items new_state kept_at_first

-- Every event is made of steps.
use Rattle.std.proofs.Common.{refl}
use Rattle.scenario_text.specs.declared.event.Event.{Event}
use Rattle.scenario_text.specs.declared.event.Event.TheVariants as events
use Rattle.run_defs.specs.States.{State, World, entity}
use Rattle.run_defs.specs.Runs.{happens, tunnel_end}
use Rattle.proof_run_steps.specs.steps.IsOutcome.{IsOutcome}
use Rattle.proof_run_steps.proofs.steps.Events.{goes_static, goes_start, goes_attach, goes_offer, goes_get, goes_air, goes_ack, goes_give, goes_lose_message, goes_lose_item, goes_poll, goes_pump, goes_tick, goes_fail, goes_arrive, goes_come_back, goes_handover, goes_cancel, goes_release, goes_ask, goes_inject_message, goes_inject_item}
use Rattle.proof_run_steps.proofs.steps.Settling.{goes_settle}

module _ {M C L P : Type 0} (world : World M C L P) where
  pub made_of_steps : (event : Event) (s : State M C L P) → IsOutcome world event s (happens world event s)
  unfolding happens
  made_of_steps (events.Static plan) s = goes_static world (events.Static plan) plan refl s
  made_of_steps events.Start s = goes_start world events.Start s
  made_of_steps (events.Attach plan) s = goes_attach world (events.Attach plan) plan refl s
  made_of_steps (events.Offer ue bearer dir packet) s = goes_offer world (events.Offer ue bearer dir packet) ue bearer dir packet refl s
  made_of_steps (events.Get end teid) s = goes_get world (events.Get end teid) (tunnel_end world end teid) s
  made_of_steps (events.Air ue bearer dir) s = goes_air world (events.Air ue bearer dir) (entity ue bearer dir) s
  made_of_steps (events.Ack ue bearer dir) s = goes_ack world (events.Ack ue bearer dir) (entity ue bearer dir) s
  made_of_steps (events.Give message) s = goes_give world (events.Give message) message s
  made_of_steps (events.LoseMessage message) s = goes_lose_message world (events.LoseMessage message) message s
  made_of_steps (events.LoseItem end teid) s = goes_lose_item world (events.LoseItem end teid) (tunnel_end world end teid) s
  made_of_steps (events.Poll ue bearer) s = goes_poll world (events.Poll ue bearer) ue bearer s
  made_of_steps events.Pump s = goes_pump world events.Pump s
  made_of_steps events.Tick s = goes_tick world events.Tick s
  made_of_steps (events.Fail ue) s = goes_fail world (events.Fail ue) ue s
  made_of_steps (events.Arrive ue) s = goes_arrive world (events.Arrive ue) ue s
  made_of_steps (events.Return ue) s = goes_come_back world (events.Return ue) ue s
  made_of_steps (events.Handover ue gnb up du) s = goes_handover world (events.Handover ue gnb up du) ue gnb up du s
  made_of_steps (events.Cancel ue) s = goes_cancel world (events.Cancel ue) ue s
  made_of_steps (events.Release ue) s = goes_release world (events.Release ue) ue refl s
  made_of_steps (events.Ask ue bearer) s = goes_ask world (events.Ask ue bearer) ue bearer s
  made_of_steps events.Settle s = goes_settle world events.Settle s
  made_of_steps (events.InjectMessage from to octets) s = goes_inject_message world (events.InjectMessage from to octets) from to octets s
  made_of_steps (events.InjectItem end teid octets) s = goes_inject_item world (events.InjectItem end teid octets) (tunnel_end world end teid) octets s

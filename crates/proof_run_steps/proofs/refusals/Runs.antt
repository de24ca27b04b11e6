-- Each event leaves the state as it was where it is refused.
use Rattle.std.proofs.Common.{◌≡◌, Bool, true, false, not, ◌&&◌, ◌||◌, [], refl, ap}
use Rattle.std.specs.Prelude.{if◌then◌else◌}
use Rattle.std.specs.List.{list_all}
use Rattle.gnb_types.specs.declared.plans.Plan.{Plan}
use Rattle.gnb_types.specs.declared.inputs.Order.TheVariants as orders
use Rattle.gnb_types.specs.declared.reasons.RefuseReason.{RefuseReason}
use Rattle.gnb_types.specs.declared.reasons.RefuseReason.TheVariants.{Attached, Quota, Busy}
use Rattle.unit_defs.specs.Ways.{teids_spent}
use Rattle.unit_defs.specs.Static.{cu_up_has_room, cu_up_has_teids, du_has_teids}
use Rattle.scenario_text.specs.declared.event.Event.{Event}
use Rattle.scenario_text.specs.declared.event.Event.TheVariants as events
use Rattle.run_defs.specs.Units.{starting_nodes, cu_up_of, du_of}
use Rattle.run_defs.specs.States.{State, World, goes, stops, goes_on, Outcome, entity, was_attached, spent_counter, refused, order_for}
use Rattle.run_defs.specs.Steps.{step}
use Rattle.run_defs.specs.Conditions.{statically, is_held_by_units}
use Rattle.run_defs.specs.Events.{static, start, order_each}
use Rattle.run_defs.specs.Runs.{happens, tunnel_end}
use Rattle.proof_run_steps.specs.refusals.Refusals.{StaysWhereRefused}
use Rattle.proof_run_steps.proofs.refusals.Steps.{is_refusal_step, Stays}
use Rattle.proof_run_steps.proofs.refusals.Events.{goes_attach, goes_offer, goes_get, goes_air, goes_ack, goes_give, goes_lose_message, goes_lose_item, goes_poll, goes_pump, goes_tick, goes_fail, goes_arrive, goes_come_back, goes_handover, goes_cancel, goes_release, goes_ask, goes_inject_message, goes_inject_item}
use Rattle.proof_run_steps.proofs.refusals.Settling.{goes_settle}

module _ {M C L P : Type 0} (world : World M C L P) where
  back_by : (s : State M C L P) (e : Outcome M C L P) → Stays world s e → StaysWhereRefused s e
  back_by s (goes steps after) p = λ w. p.it (ap (list_all is_refusal_step) w.1)
  back_by s (stops steps why) p = tt

  pub record Back (s : State M C L P) (e : Outcome M C L P) : Type 0 where
    pub it : StaysWhereRefused s e

  from_stays : {s : State M C L P} {e : Outcome M C L P} → Stays world s e → Back s e
  from_stays {s = s} {e = e} p = record { it = back_by s e p }

  pub either : (s : State M C L P) (t : Bool) (a b : Outcome M C L P) → (t ≡ true → Back s a) → (t ≡ false → Back s b) → Back s (if t then a else b)
  either s true a b p q = p refl
  either s false a b p q = q refl

  pub refused_back : (reason : RefuseReason) (s : State M C L P) → Back s (refused reason s)
  refused_back reason s = record { it = λ w. refl }

  static_back : (plan : Plan) (s : State M C L P) → Back s (static world plan s)
  unfolding static
  static_back plan s =
      either s (was_attached s plan.ue || is_held_by_units plan s.units) (refused Attached s) _ (λ h. refused_back Attached s)
      (λ h. either s (not (cu_up_has_room (cu_up_of s.units plan.gnb plan.up) plan)) (refused Quota s) _ (λ h. refused_back Quota s)
      (λ h. either s (cu_up_has_teids (cu_up_of s.units plan.gnb plan.up) plan && du_has_teids (du_of s.units plan.gnb plan.du) plan)
      (goes_on (statically plan s)) (stops [] (spent_counter teids_spent)) (λ h. record { it = λ w. absurd (cc w.1) }) (λ h. record { it = tt })))

  pub start_back : (s : State M C L P) → s.started ≡ true → Back s (start world s)
  unfolding start
  start_back s started =
      either s s.started (refused Busy s)
      (order_each world (λ node. step world node (order_for orders.Start)) starting_nodes (record s { started = true }))
      (λ h. refused_back Busy s) (λ h. absurd cc)

  pub refused_stays : (event : Event) (s : State M C L P) → (event ≡ events.Start → Back s (start world s)) → Back s (happens world event s)
  unfolding happens
  refused_stays (events.Static plan) s started = static_back plan s
  refused_stays events.Start s started = started refl
  refused_stays (events.Attach plan) s started = from_stays (goes_attach world plan s)
  refused_stays (events.Offer ue bearer dir packet) s started = from_stays (goes_offer world ue bearer dir packet s)
  refused_stays (events.Get end teid) s started = from_stays (goes_get world (tunnel_end world end teid) s)
  refused_stays (events.Air ue bearer dir) s started = from_stays (goes_air world (entity ue bearer dir) s)
  refused_stays (events.Ack ue bearer dir) s started = from_stays (goes_ack world (entity ue bearer dir) s)
  refused_stays (events.Give message) s started = from_stays (goes_give world message s)
  refused_stays (events.LoseMessage message) s started = from_stays (goes_lose_message world message s)
  refused_stays (events.LoseItem end teid) s started = from_stays (goes_lose_item world (tunnel_end world end teid) s)
  refused_stays (events.Poll ue bearer) s started = from_stays (goes_poll world ue bearer s)
  refused_stays events.Pump s started = from_stays (goes_pump world s)
  refused_stays events.Tick s started = from_stays (goes_tick world s)
  refused_stays (events.Fail ue) s started = from_stays (goes_fail world ue s)
  refused_stays (events.Arrive ue) s started = from_stays (goes_arrive world ue s)
  refused_stays (events.Return ue) s started = from_stays (goes_come_back world ue s)
  refused_stays (events.Handover ue gnb up du) s started = from_stays (goes_handover world ue gnb up du s)
  refused_stays (events.Cancel ue) s started = from_stays (goes_cancel world ue s)
  refused_stays (events.Release ue) s started = from_stays (goes_release world ue s)
  refused_stays (events.Ask ue bearer) s started = from_stays (goes_ask world ue bearer s)
  refused_stays events.Settle s started = from_stays (goes_settle world s)
  refused_stays (events.InjectMessage from to octets) s started = from_stays (goes_inject_message world from to octets s)
  refused_stays (events.InjectItem end teid octets) s started = from_stays (goes_inject_item world (tunnel_end world end teid) octets s)

-- Two runs in which a terminal's acts are the same have its whole projection in common: each act keeps it so, and steps of others leave it.
use Rattle.std.proofs.Common.{◌≡◌, ℕ, ◌*◌, Bool, List, [], ◌∷◌, Some, None, refl, sym, ap, ◌∙◌, subst}
use Rattle.std.proofs.lemmas.Bool.{or_parts}
use Rattle.gnb_types.specs.declared.names.NodeId.{NodeId}
use Rattle.gnb_types.specs.declared.names.NodeId.TheVariants.{CuUp as up_id, Du as du_id}
use Rattle.gnb_types.specs.declared.names.UeId.{UeId}
use Rattle.gnb_types.specs.declared.names.Dir.TheVariants.{Dl}
use Rattle.gnb_types.specs.declared.keys.TunnelEnd.{TunnelEnd}
use Rattle.gnb_types.specs.declared.plans.Plan.{Plan}
use Rattle.gnb_types.specs.Orders.{ue_cmp, tunnel_cmp}
use Rattle.gnb_types.proofs.OrderLemmas.{ue_total}
use Rattle.tables.specs.Tables.{find, put, at}
use Rattle.tables.proofs.TableLaws.{find-put-same}
use Rattle.scenario_text.specs.declared.event.Event.TheVariants as events
use Rattle.unit_defs.specs.Ways.{Pdu, Load, dropped}
use Rattle.unit_defs.specs.Core.{CorePath}
use Rattle.unit_defs.specs.Ue.{UeNode, new_ue}
use Rattle.transport_defs.specs.declared.Item.{Item}
use Rattle.transport_defs.specs.Links.{items_of}
use Rattle.run_defs.specs.Lines.{lost_items, tunnel_link}
use Rattle.run_defs.specs.Units.{cu_up_of, du_of}
use Rattle.run_defs.specs.Written.{Written, WrittenStepped}
use Rattle.run_defs.specs.States.{Lengths, sn_in, sn_of, goes, step_of, as_step, stepped, was_attached}
use Rattle.run_defs.specs.Steps.{carried_out}
use Rattle.run_defs.specs.Conditions.{all_set_up, units_placed, n3_from, tunnels_from, statically}
use Rattle.run_defs.specs.Runs.{Reading, fault_of, plain_world}
use Rattle.proof_run_steps.specs.steps.Causes.{by_order, by_tick, by_octets, by_octets_on, by_attach, by_release, by_offer as by_own_offer, by_item, by_air, by_ack, by_control_message, node_of, given_of, count_of, first_of}
use Rattle.proof_run_steps.specs.steps.IsOutcome.{IsOutcome, acts as acts_so, sets_up, loses_item}
use Rattle.proof_run_steps.proofs.steps.Frames.{units_by}
use Rattle.law_tunnels_are_owned.specs.owner_facts.Owned.{AreOwned}
use Rattle.law_tunnels_are_owned.proofs.tunnel_owners.Placed.{placed_owned}
use Rattle.law_terminals_are_isolated.specs.projections.Projections.{core_projection}
use Rattle.law_terminals_are_isolated.specs.run_projections.Units.{given_ue}
use Rattle.law_terminals_are_isolated.specs.frame_of_steps.Others.{IsNodeFor, IsCauseFor, IsStepFor}
use Rattle.law_terminals_are_isolated.proofs.own_steps.Steps.{Sound, step_for}
use Rattle.law_terminals_are_isolated.proofs.own_steps.Leaves.{same_core, same_units}
use Rattle.law_terminals_are_isolated.specs.own_events.Events.{RunState, RunOutcome}
use Rattle.law_terminals_are_isolated.specs.all_steps.Projections.{ShareProjection}
use Rattle.law_terminals_are_isolated.specs.all_steps.Steps.{AfterSteps, none_yet, one_more}
use Rattle.law_terminals_are_isolated.proofs.all_steps.Statics.{from_same}
use Rattle.law_terminals_are_isolated.proofs.all_steps.Paths.{step_gives, sound_on}
use Rattle.law_terminals_are_isolated.specs.step_consistency.Places.{shared_at, RunCause, Place, in_place}
use Rattle.law_terminals_are_isolated.specs.step_consistency.EqualStates.{EqualStates, EqualFrom, Agree, Together}
use Rattle.law_terminals_are_isolated.specs.equal_projections.States.{shared_but_room, IsTicked, Ticked}
use Rattle.law_terminals_are_isolated.specs.two_runs.Acts.{TerminalAct, ActsItself, IsLost, IsPlaced, Received, received_from, received_on, received_cause, IsReceived, HasActed, not_yet, by_others, by_itself, by_offer, by_core, by_loss, by_ticking, by_static, by_hearing}
use Rattle.law_terminals_are_isolated.proofs.step_consistency.Steps.{same_in_place, carried_equal}
use Rattle.law_terminals_are_isolated.proofs.step_consistency.Firsts.{firsts_equal}
use Rattle.law_terminals_are_isolated.proofs.step_consistency.Units.{RunUnits, RunPuts, together}
use Rattle.law_terminals_are_isolated.specs.equal_projections.Cores.{RunWithin}
use Rattle.law_terminals_are_isolated.proofs.equal_projections.Shares.{agree_of, begin, finish, offer_made, core_made}
use Rattle.law_terminals_are_isolated.proofs.equal_projections.Ticks.{unit_for, ticked_equal, units_tick}
use Rattle.law_terminals_are_isolated.proofs.equal_projections.Placed.{there, next_up, placed_agree}
use Rattle.law_terminals_are_isolated.proofs.equal_projections.Opens.{opens_at}

module _ (reading : Reading) (ue : UeId) where
  abbrev After : RunState → Type 0
  After s = AfterSteps reading s

  abbrev Share : RunState → RunState → Type 0
  Share s t = ShareProjection ue s t

  -- ---- an act is a step

  itself_made : (cause : RunCause) (place : Place) (s t : RunState) (a : ActsItself reading ue cause place s t)
      → IsOutcome (plain_world reading) a.event s (goes (step_of (Some (node_of (in_place place cause))) a.lines ∷ []) t)
  itself_made cause place s t a =
      subst (λ (w : RunWithin). IsOutcome (plain_world reading) a.event s (as_step (Some (node_of (in_place place cause))) w)) a.goes_so
      (acts_so s (in_place place cause) a.outputs a.units a.acted.stands a.acted.answers a.done a.acted.few)

  loss_made : (end : TunnelEnd) (item : Item (Written (Load Pdu))) (s t : RunState) (a : IsLost ue end item s t)
      → IsOutcome (plain_world reading) events.Pump s (goes (step_of None (lost_items (tunnel_link end) 1 ∷ []) ∷ []) t)
  loss_made end item s t a =
      subst (λ (x : RunState). IsOutcome (plain_world reading) events.Pump s (goes (step_of None (lost_items (tunnel_link end) 1 ∷ []) ∷ []) x)) (sym a.loses)
      (loses_item s end item a.rest a.found)

  -- ---- a unit's step

  agree_by : (place other : Place) (cause : RunCause) (s : RunState) (a b : RunUnits) → Agree ue a b → IsCauseFor ue s (in_place place cause)
      → Agree ue (units_by (plain_world reading) (in_place place cause) a) (units_by (plain_world reading) (in_place other cause) b)
  agree_by place other (by_attach plan) s a b h is = record {
    units = λ i. record (h.units i) { node = (comes a.ues ∙ sym (comes b.ues)) i };
    tunnels = h.tunnels;
  }
    where
      comes : (es : List (UeId × UeNode)) → find ue_cmp (put ue_cmp es plan.ue (new_ue plan)) ue ≡ Some (new_ue plan)
      comes es = ap (λ (w : UeId). find ue_cmp (put ue_cmp es w (new_ue plan)) ue) is ∙ find-put-same ue_total es ue (new_ue plan)
  agree_by place other (by_order node order) s a b h is = h
  agree_by place other (by_tick node) s a b h is = h
  agree_by place other (by_octets from to octets) s a b h is = h
  agree_by place other (by_octets_on end octets) s a b h is = h
  agree_by place other (by_release gnb who) s a b h is = h
  agree_by place other (by_own_offer who bearer p) s a b h is = h
  agree_by place other (by_item end item rest) s a b h is = h
  agree_by place other (by_air key home item) s a b h is = h
  agree_by place other (by_ack key home item rest) s a b h is = h
  agree_by place other (by_control_message number l to) s a b h is = h

  pub itself_shares : (cause : RunCause) (place other : Place) (s x t y : RunState) → After s → After t → Share s t → (a : ActsItself reading ue cause place s x)
      → (b : ActsItself reading ue cause other t y)
      → shared_at s.units (node_of (in_place place cause)) ≡ shared_at t.units (node_of (in_place other cause)) → Share x y
  itself_shares cause place other s x t y p q h a b shared =
      let world = plain_world reading in
      let c : RunCause = in_place place cause in
      let d : RunCause = in_place other cause in
      let mine = same_in_place place cause in
      let its = same_in_place other cause in
      let nodes : node_of c ≡ node_of d = mine.0 ∙ sym its.0 in
      let givens : given_of c ≡ given_of d = mine.1 ∙ sym its.1 in
      let counts : count_of c ≡ count_of d = mine.2 ∙ sym its.2 in
      let sound : Sound s = sound_on reading s p in
      let later : After x = one_more a.event s x _ p (itself_made cause place s x a) in
      let too : After y = one_more b.event t y _ q (itself_made cause other t y b) in
      let both : Together ue a.outputs b.outputs a.units b.units =
      together ue reading s t sound (sound_on reading t q) (agree_of reading ue s t h) (sn_of s) (sn_of t) (ap sn_in h.plan) (node_of c) (given_of c) a.outputs b.outputs
      a.units b.units a.its ((λ i. given_ue reading t.units (nodes i) (givens i)) ∙ b.its) (shared ∙ sym (ap (shared_at t.units) nodes))
      a.acted.answers ((λ i. world.answer (sn_of t) t.units (nodes i) (givens i)) ∙ b.acted.answers) in
      let step : IsStepFor ue s c = step_for reading s sound ue a.event c a.acted.stands a.its in
      let first : x.units ≡ units_by world c a.units = same_units world a.event c a.outputs a.units s x a.lines a.acted a.goes_so in
      let second : y.units ≡ units_by world d b.units = same_units world b.event d b.outputs b.units t y b.lines b.acted b.goes_so in
      let agree : Agree ue x.units y.units = subst (λ (u : RunUnits). Agree ue u y.units) (sym first)
      (subst (λ (v : RunUnits). Agree ue (units_by world c a.units) v) (sym second) (agree_by place other cause s a.units b.units both.units step.1)) in
      let base = begin reading ue s t x y p q later too h (step_gives reading a.event s x _ (itself_made cause place s x a))
      (step_gives reading b.event t y _ (itself_made cause other t y b)) agree a.units b.units both.units in
      let carried : EqualFrom ue (opens_at ue x.units)
      (carried_out world (node_of c) (count_of c) (first_of world c) a.outputs a.units s)
      (carried_out world (node_of d) (count_of d) (first_of world d) a.outputs b.units t) =
      carried_equal world ue (opens_at ue x.units) (node_of c) (node_of d) nodes (count_of c) (count_of d) counts step.0 a.outputs both.its
      (first_of world c) (first_of world d) a.units b.units s t
      (firsts_equal reading ue (opens_at ue x.units) a.event b.event place other cause s t a.units b.units base a.acted.stands b.acted.stands step.1) in
      finish reading ue x y later too agree
      (ap (core_projection ue) (same_core world a.event c a.outputs a.units s x a.lines a.acted a.goes_so)
      ∙ h.core
      ∙ sym (ap (core_projection ue) (same_core world b.event d b.outputs b.units t y b.lines b.acted b.goes_so)))
      (subst (λ (w : RunWithin). EqualFrom ue (opens_at ue x.units) (goes a.lines x) w) b.goes_so
      (subst (λ (w : RunWithin). EqualFrom ue (opens_at ue x.units) w
      (carried_out world (node_of d) (count_of d) (first_of world d) b.outputs b.units t)) a.goes_so
      (subst (λ (os : RunPuts). EqualFrom ue (opens_at ue x.units) (carried_out world (node_of c) (count_of c) (first_of world c) a.outputs a.units s)
      (carried_out world (node_of d) (count_of d) (first_of world d) os b.units t)) both.outputs carried)))

  -- ---- an item is lost

  pub loss_shares : (end : TunnelEnd) (item : Item (Written (Load Pdu))) (s x t y : RunState) → After s → After t → Share s t → IsLost ue end item s x
      → IsLost ue end item t y → Share x y
  loss_shares end item s x t y p q h a b =
      let world = plain_world reading in
      let later : After x = one_more events.Pump s x _ p (loss_made end item s x a) in
      let too : After y = one_more events.Pump t y _ q (loss_made end item t y b) in
      let agree : Agree ue x.units y.units = subst (λ (u : RunUnits). Agree ue u y.units) (sym (ap (λ (z : RunState). z.units) a.loses))
      (subst (λ (v : RunUnits). Agree ue s.units v) (sym (ap (λ (z : RunState). z.units) b.loses)) (agree_of reading ue s t h)) in
      let base = begin reading ue s t x y p q later too h (step_gives reading events.Pump s x _ (loss_made end item s x a))
      (step_gives reading events.Pump t y _ (loss_made end item t y b)) agree s.units t.units (agree_of reading ue s t h) in
      let done : EqualStates ue (opens_at ue x.units) (record s { tunnels = put tunnel_cmp s.tunnels end a.rest })
      (record t { tunnels = put tunnel_cmp t.tunnels end b.rest }) =
      firsts_equal reading ue (opens_at ue x.units) events.Pump events.Pump (record { items = a.rest; pdus = []; number = 0 })
      (record { items = b.rest; pdus = []; number = 0 }) (by_item end item []) s t s.units t.units base a.found b.found (a.its, a.found) in
      finish reading ue x y later too agree
      (ap (λ (z : RunState). core_projection ue z.core) a.loses ∙ h.core ∙ sym (ap (λ (z : RunState). core_projection ue z.core) b.loses))
      (subst (λ (z : RunState). EqualStates ue (opens_at ue x.units) z y) (sym a.loses)
      (subst (λ (z : RunState). EqualStates ue (opens_at ue x.units) (record s { tunnels = put tunnel_cmp s.tunnels end a.rest }) z) (sym b.loses) done))

  -- ---- a unit has a tick

  tick_made : (node : NodeId) (s t : RunState) (a : IsTicked reading node s t)
      → IsOutcome (plain_world reading) a.event s (goes (step_of (Some node) a.lines ∷ []) t)
  tick_made node s t a =
      subst (λ (w : RunWithin). IsOutcome (plain_world reading) a.event s (as_step (Some node) w)) a.goes_so
      (acts_so s (by_tick node) a.outputs a.units a.acted.stands a.acted.answers a.done a.acted.few)

  pub tick_shares : (node : NodeId) (s x t y : RunState) → After s → After t → Share s t → (a : IsTicked reading node s x) (b : IsTicked reading node t y)
      → shared_but_room s.units node ≡ shared_but_room t.units node → Share x y
  tick_shares node s x t y p q h a b shared =
      let world = plain_world reading in
      let later : After x = one_more a.event s x _ p (tick_made node s x a) in
      let too : After y = one_more b.event t y _ q (tick_made node t y b) in
      let both : Ticked ue a.outputs b.outputs a.units b.units = units_tick reading ue node s x t y p q (agree_of reading ue s t h) (ap sn_in h.plan) a b shared in
      let first : x.units ≡ a.units = same_units world a.event (by_tick node) a.outputs a.units s x a.lines a.acted a.goes_so in
      let second : y.units ≡ b.units = same_units world b.event (by_tick node) b.outputs b.units t y b.lines b.acted b.goes_so in
      let agree : Agree ue x.units y.units = subst (λ (u : RunUnits). Agree ue u y.units) (sym first)
      (subst (λ (v : RunUnits). Agree ue a.units v) (sym second) both.units) in
      let base = begin reading ue s t x y p q later too h (step_gives reading a.event s x _ (tick_made node s x a))
      (step_gives reading b.event t y _ (tick_made node t y b)) agree a.units b.units both.units in
      finish reading ue x y later too agree
      (ap (core_projection ue) (same_core world a.event (by_tick node) a.outputs a.units s x a.lines a.acted a.goes_so)
      ∙ h.core
      ∙ sym (ap (core_projection ue) (same_core world b.event (by_tick node) b.outputs b.units t y b.lines b.acted b.goes_so)))
      (subst (λ (w : RunWithin). EqualFrom ue (opens_at ue x.units) (goes a.lines x) w) b.goes_so
      (subst (λ (w : RunWithin). EqualFrom ue (opens_at ue x.units) w (carried_out world node None (first_of world (by_tick node)) b.outputs b.units t)) a.goes_so
      (ticked_equal world ue node None (opens_at ue x.units) (unit_for ue node a.unit) a.outputs b.outputs both.first both.second both.same a.units b.units s t base)))

  -- ---- the terminal is set up without messages

  placed_made : (plan : Plan) (s t : RunState) (a : IsPlaced ue plan s t) → IsOutcome (plain_world reading) (events.Static plan) s (goes [] t)
  placed_made plan s t a =
      subst (λ (x : RunState). IsOutcome (plain_world reading) (events.Static plan) s (goes [] x)) (sym a.sets_up) (sets_up s plan refl a.free a.room a.teids)

  static_owned : (plan : Plan) (s x : RunState) → After s → IsPlaced ue plan s x → AreOwned (all_set_up (units_placed plan s.units))
  static_owned plan s x p a =
      placed_owned s.units plan (or_parts (was_attached s plan.ue) _ a.free).1 a.teids (sound_on reading s p).owned

  pub placed_shares : (plan : Plan) (s x t y : RunState) → After s → After t → Share s t → IsPlaced ue plan s x → IsPlaced ue plan t y
      → shared_but_room s.units (up_id plan.gnb plan.up) ≡ shared_but_room t.units (up_id plan.gnb plan.up)
      → shared_but_room s.units (du_id plan.gnb plan.du) ≡ shared_but_room t.units (du_id plan.gnb plan.du) → Share x y
  placed_shares plan s x t y p q h a b up du =
      let owned = static_owned plan s x p a in
      let also = static_owned plan t y q b in
      let agree : Agree ue (all_set_up (units_placed plan s.units)) (all_set_up (units_placed plan t.units)) =
      placed_agree plan ue a.its s.units t.units (agree_of reading ue s t h) up du owned also in
      let first : ℕ = (cu_up_of s.units plan.gnb plan.up).next_teid in
      let path : ℕ → CorePath = λ n. record { up = up_id plan.gnb plan.up; n3 = n3_from 1 n plan.bearers } in
      subst (λ (z : RunState). Share z y) (sym a.sets_up) (subst (λ (z : RunState). Share (statically plan s) z) (sym b.sets_up) (record {
        units = agree.units;
        tunnels = agree.tunnels;
        core = λ i. record {
          path = (there plan ue a.its s.core.paths (path first)
              ∙ ap (λ (n : ℕ). Some (path n)) (next_up plan ue a.its s.units t.units (agree_of reading ue s t h) up du owned also)
              ∙ sym (there plan ue a.its t.core.paths (path (cu_up_of t.units plan.gnb plan.up).next_teid))) i;
          requests = (h.core i).requests;
        };
        control_messages = h.control_messages;
        items = λ end key is. ap (items_of key) (tunnels_at s end) ∙ h.items end key is ∙ sym (ap (items_of key) (tunnels_at t end));
        radios = h.radios;
        books = h.books;
        connected = there plan ue a.its s.connected 1 ∙ sym (there plan ue a.its t.connected 1);
        plan = there plan ue a.its s.plans plan ∙ sym (there plan ue a.its t.plans plan);
      }))
    where
      tunnels_at : (z : RunState) (end : TunnelEnd) → at tunnel_cmp [] (statically plan z).tunnels end ≡ at tunnel_cmp [] z.tunnels end
      tunnels_at z end =
          let up : ℕ = (cu_up_of z.units plan.gnb plan.up).next_teid in
          let du : ℕ = (du_of z.units plan.gnb plan.du).next_teid in
          from_same (du_id plan.gnb plan.du) du plan.bearers (tunnels_from (up_id plan.gnb plan.up) up (2 * plan.bearers) z.tunnels) end
          ∙ from_same (up_id plan.gnb plan.up) up (2 * plan.bearers) z.tunnels end

  -- ---- octets that the terminal's own node drops

  received_made : (received : Received) (s t : RunState) (a : IsReceived reading ue received s t)
      → IsOutcome (plain_world reading) a.event s (goes (step_of (Some (node_of (received_cause ue received))) a.lines ∷ []) t)
  received_made received s t a =
      subst (λ (w : RunWithin). IsOutcome (plain_world reading) a.event s (as_step (Some (node_of (received_cause ue received))) w)) a.goes_so
      (acts_so s (received_cause ue received) a.outputs a.units a.acted.stands a.acted.answers a.done a.acted.few)

  abbrev drops_so : Received → RunPuts
  drops_so received = dropped (fault_of reading (node_of (received_cause ue received)) (given_of (received_cause ue received))) ∷ []

  received_answer : (received : Received) (lengths : Lengths) (u : RunUnits)
      → (plain_world reading).answer lengths u (node_of (received_cause ue received)) (given_of (received_cause ue received)) ≡ stepped (drops_so received) u
  received_answer (received_from from octets) lengths u = refl
  received_answer (received_on teid octets) lengths u = refl

  received_units : (received : Received) (u : RunUnits) → units_by (plain_world reading) (received_cause ue received) u ≡ u
  received_units (received_from from octets) u = refl
  received_units (received_on teid octets) u = refl

  received_node : (received : Received) → IsNodeFor ue (node_of (received_cause ue received))
  received_node (received_from from octets) = refl
  received_node (received_on teid octets) = refl

  received_first : (received : Received) (Shows : TunnelEnd → Bool) (s t : RunState) → EqualStates ue Shows s t
      → EqualFrom ue Shows (first_of (plain_world reading) (received_cause ue received) s) (first_of (plain_world reading) (received_cause ue received) t)
  received_first (received_from from octets) Shows s t h = h
  received_first (received_on teid octets) Shows s t h = h

  both_same : (xs ys : RunPuts) (u v : RunUnits) → ◌≡◌ {A = WrittenStepped} (stepped xs u) (stepped ys v) → (xs ≡ ys) × (u ≡ v)
  both_same xs ys u v e = (cc, cc)

  pub received_shares : (received : Received) (s x t y : RunState) → After s → After t → Share s t → IsReceived reading ue received s x → IsReceived reading ue received t y → Share x y
  received_shares received s x t y p q h a b =
      let world = plain_world reading in
      let c : RunCause = received_cause ue received in
      let one = both_same (drops_so received) a.outputs s.units a.units (sym (received_answer received (sn_of s) s.units) ∙ a.acted.answers) in
      let two = both_same (drops_so received) b.outputs t.units b.units (sym (received_answer received (sn_of t) t.units) ∙ b.acted.answers) in
      let later : After x = one_more a.event s x _ p (received_made received s x a) in
      let too : After y = one_more b.event t y _ q (received_made received t y b) in
      let middle : Agree ue a.units b.units = subst (λ (u : RunUnits). Agree ue u b.units) one.1
      (subst (λ (v : RunUnits). Agree ue s.units v) two.1 (agree_of reading ue s t h)) in
      let first : x.units ≡ a.units = same_units world a.event c a.outputs a.units s x a.lines a.acted a.goes_so ∙ received_units received a.units in
      let second : y.units ≡ b.units = same_units world b.event c b.outputs b.units t y b.lines b.acted b.goes_so ∙ received_units received b.units in
      let agree : Agree ue x.units y.units = subst (λ (u : RunUnits). Agree ue u y.units) (sym first)
      (subst (λ (v : RunUnits). Agree ue a.units v) (sym second) middle) in
      let base = begin reading ue s t x y p q later too h (step_gives reading a.event s x _ (received_made received s x a))
      (step_gives reading b.event t y _ (received_made received t y b)) agree a.units b.units middle in
      let carried : EqualFrom ue (opens_at ue x.units) (carried_out world (node_of c) (count_of c) (first_of world c) (drops_so received) a.units s)
      (carried_out world (node_of c) (count_of c) (first_of world c) (drops_so received) b.units t) =
      carried_equal world ue (opens_at ue x.units) (node_of c) (node_of c) refl (count_of c) (count_of c) refl (received_node received) (drops_so received) (tt, tt)
      (first_of world c) (first_of world c) a.units b.units s t
      (received_first received (opens_at ue x.units) (record s { units = a.units }) (record t { units = b.units }) base) in
      finish reading ue x y later too agree
      (ap (core_projection ue) (same_core world a.event c a.outputs a.units s x a.lines a.acted a.goes_so)
      ∙ h.core
      ∙ sym (ap (core_projection ue) (same_core world b.event c b.outputs b.units t y b.lines b.acted b.goes_so)))
      (subst (λ (w : RunWithin). EqualFrom ue (opens_at ue x.units) (goes a.lines x) w) b.goes_so
      (subst (λ (w : RunWithin). EqualFrom ue (opens_at ue x.units) w (carried_out world (node_of c) (count_of c) (first_of world c) b.outputs b.units t)) a.goes_so
      (subst (λ (os : RunPuts). EqualFrom ue (opens_at ue x.units) (carried_out world (node_of c) (count_of c) (first_of world c) os a.units s)
      (carried_out world (node_of c) (count_of c) (first_of world c) b.outputs b.units t)) one.0
      (subst (λ (os : RunPuts). EqualFrom ue (opens_at ue x.units) (carried_out world (node_of c) (count_of c) (first_of world c) (drops_so received) a.units s)
      (carried_out world (node_of c) (count_of c) (first_of world c) os b.units t)) two.0 carried))))

  -- ---- a state after acts comes after steps

  pub acted_after : (acts : List TerminalAct) (s : RunState) → HasActed reading ue acts s → After s
  acted_after acts s (not_yet list x none first) = subst (λ (y : RunState). After y) (sym first) none_yet
  acted_after acts s (by_others list event x y e told p made none goes_so) =
      one_more event x y told (acted_after list x p) (subst (λ (o : RunOutcome). IsOutcome (plain_world reading) event x o) goes_so made)
  acted_after acts s (by_itself list more cause place x y p a is) = one_more a.event x y _ (acted_after more x p) (itself_made cause place x y a)
  acted_after acts s (by_offer list more bearer packet x y p a is) =
      one_more (events.Offer ue bearer Dl packet) x y _ (acted_after more x p) (offer_made reading ue bearer packet x y a)
  acted_after acts s (by_core list more from message x y p a is) = one_more events.Pump x y _ (acted_after more x p) (core_made reading ue from message x y a)
  acted_after acts s (by_loss list more end item x y p a is) = one_more events.Pump x y _ (acted_after more x p) (loss_made end item x y a)
  acted_after acts s (by_ticking list more node x y p a is) = one_more a.event x y _ (acted_after more x p) (tick_made node x y a)
  acted_after acts s (by_static list more plan x y p a is) = one_more (events.Static plan) x y _ (acted_after more x p) (placed_made plan x y a)
  acted_after acts s (by_hearing list more received x y p a is) = one_more a.event x y _ (acted_after more x p) (received_made received x y a)

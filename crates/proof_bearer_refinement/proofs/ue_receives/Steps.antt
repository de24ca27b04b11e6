-- A packet that a terminal takes is its orders, whatever was lost before it; other inputs are as `ue_step` has them.
use Rattle.std.proofs.Common.{◌≡◌, ℕ, ◌+◌, ◌==◌, ◌<◌, ◌≤◌, Bool, true, false, ◌&&◌, List, [], ◌∷◌, map, Option, Some, None, refl, sym, ap, subst, ◌∙◌}
use Rattle.std.specs.Prelude.{not, if◌then◌else◌}
use Rattle.std.specs.List.{AllByRecursion}
use Rattle.std.specs.Ordering.{eq_by_cmp}
use Rattle.gnb_types.specs.declared.names.SnBits.{SnBits}
use Rattle.gnb_types.specs.declared.names.UeId.{UeId}
use Rattle.gnb_types.specs.declared.names.BearerId.{BearerId}
use Rattle.gnb_types.specs.declared.names.Dir.TheVariants.{Dl, Ul}
use Rattle.gnb_types.specs.Orders.{bearer_cmp}
use Rattle.message_types.specs.declared.rrc.Token.{Token}
use Rattle.scenario_text.specs.declared.event.Event.{Event}
use Rattle.pdcp_defs.specs.Receivers.{Delivery, is_duplicate, is_ahead, stored, deliver}
use Rattle.unit_defs.specs.Ways.{Message, Pdu, packet_content, report_content, Input, control_input, packet_input, radio_input, confirm_input, offer_input, tick_input, order_input, Output}
use Rattle.unit_defs.specs.Ue.{UeNode}
use Rattle.run_defs.specs.Units.{with_ue}
use Rattle.run_defs.specs.Written.{written_put}
use Rattle.run_defs.specs.States.{sn_of}
use Rattle.run_defs.specs.Runs.{Reading, plain_world, plain_way}
use Rattle.bearer_defs.specs.chain_defs.Models as down_models
use Rattle.bearer_defs.specs.chain_defs.Orders as down
use Rattle.bearer_defs.specs.chain_defs.Assumptions as down_assumptions
use Rattle.bearer_defs.specs.uplink_defs.Orders as up
use Rattle.bearer_defs.specs.uplink_defs.Assumptions as up_assumptions
use Rattle.proof_bearer_refinement.specs.run_bearers.Bearers.{Numbering}
use Rattle.proof_node_orders.specs.terminal_inputs.Inputs.{Models, Orders, none, carried_out, rest_of, orders_by}
use Rattle.law_terminals_are_isolated.specs.own_steps.Own.{IsActed}
use Rattle.proof_run_steps.specs.law_run_links.Own.{HoldTheirOwn}
use Rattle.proof_bearer_refinement.specs.runs.Steps.{Point, IsOfRadio, LeavesBearer, StaysInFrame}
use Rattle.proof_bearer_refinement.specs.frame_cp_and_ue.Nodes.{PutsNoItem}
use Rattle.proof_bearer_refinement.proofs.frame_cp_and_ue.Rest.{bearer_is_left}
use Rattle.proof_bearer_refinement.specs.uplink_radio.Radio.{RunCause, RunState, IsAtTerminal, IsUeStep}
use Rattle.proof_bearer_refinement.proofs.uplink_radio.Terminals.{terminal_then}
use Rattle.proof_bearer_refinement.specs.ue_step.Assumed.{both, AssumedStill}
use Rattle.proof_bearer_refinement.proofs.ue_step.Steps.{stays, refined}
use Rattle.law_downlink_order.specs.received_packets.Received.{WasPut, carried_to, receives, taken}
use Rattle.law_downlink_order.proofs.received_packets.Received.{was_received, first_is}
use Rattle.proof_run_steps.specs.radio_steps.Radios.{on_air}
use Rattle.proof_bearer_refinement.specs.downlink_radio.Received.{received_by, AssumedPacket, AssumedReceived, AssumedRest, IsKept}
use Rattle.proof_bearer_refinement.specs.downlink_radio.Down.{down_key, IsDown}
use Rattle.proof_bearer_refinement.specs.runs.Fair.{IsFair}
use Rattle.proof_bearer_refinement.proofs.downlink_radio.Terminals.{assumes_rest, down_then}

-- ---- the orders of a packet are those of the radio

own_carried : (count : ℕ) (air : List (ℕ × List ℕ)) → AllByRecursion IsOfRadio (carried_to count air)
unfolding carried_to
own_carried count [] = tt
own_carried count ((other, packet) ∷ more) = (tt, by (other == count) (own_carried count more))
  where
    by : (t : Bool) → AllByRecursion IsOfRadio (carried_to count more) → AllByRecursion IsOfRadio (if t then [] else carried_to count more)
    by true all = tt
    by false all = all

own_receives : (s : down_models.Model) (count : ℕ) → AllByRecursion IsOfRadio (receives s count)
unfolding receives
own_receives s count = by (is_duplicate s.terminal count)
  where
    by : (t : Bool) → AllByRecursion IsOfRadio (if t then [] else carried_to count s.air)
    by true = tt
    by false = own_carried count s.air

-- ---- the terminal shows any models with this receiver

record Looks (s t : down_models.Model) : Type 0 where
  receiver : s.terminal ≡ t.terminal
  epoch : s.epoch ≡ t.epoch

looks_on : (reading : Reading) (ue : UeId) (bearer : BearerId) (t : RunState) (b c : Models) → b.up ≡ c.up → Looks b.down c.down
    → IsAtTerminal reading ue bearer t b → IsAtTerminal reading ue bearer t c
looks_on reading ue bearer t b c up_is looks refinement =
    subst (λ u. IsAtTerminal reading ue bearer t (record { up = u; down = c.down })) up_is
    (record {
      terminal = refinement.terminal;
      there = refinement.there;
      itself = refinement.itself;
      attached = refinement.attached;
      shown = record {
        seen = record {
          there = refinement.shown.seen.there ∙ ap (λ r. Some (record b.up.terminal { receiver = r })) looks.receiver;
          connected = refinement.shown.seen.connected;
          epoch = refinement.shown.seen.epoch ∙ ap (λ e. e + 1) looks.epoch;
        };
        sorted = refinement.shown.sorted;
      };
      epoch = refinement.epoch;
      radio = refinement.radio;
    })

handed_looks : (s r : down_models.Model) (known : Bool) (d : Delivery (List ℕ)) → s.terminal ≡ r.terminal → s.epoch ≡ r.epoch
    → Looks (down.handed s known d) (down.handed r known d)
handed_looks s r true d receiver epoch = record { receiver = receiver; epoch = epoch }
handed_looks s r false d receiver epoch = record { receiver = refl; epoch = epoch }

-- one order that carries, and the orders by which the packet is heard, leave the terminal alike
carried_looks : (s : down_models.Model) (count : ℕ) (packet : List ℕ) → down.run s (receives s count) ≡ taken s count packet
    → Looks (down.run s (down.carries count packet (rest_of s.air) ∷ [])) (down.run s (receives s count))
unfolding down.run down.after
carried_looks s count packet is =
    subst (λ t. Looks (down.run s (down.carries count packet (rest_of s.air) ∷ [])) t) (sym is)
    (handed_looks (record s { air = rest_of s.air }) _ (is_duplicate s.terminal count) (deliver (stored s.terminal count packet)) refl refl)

-- ---- a packet

module _ (sn : SnBits) (quota : ℕ) (s : down_models.Model) (kept : IsKept sn quota s) (count : ℕ) (packet : List ℕ) where
  is_received : count ≤ s.terminal.deliv → WasPut s count packet
      → down_assumptions.AreKept sn quota s (receives s count) × (down.run s (receives s count) ≡ taken s count packet)
  is_received low put =
      subst (λ r. count ≤ r.terminal.deliv → WasPut r count packet
      → down_assumptions.AreKept sn quota r (receives r count) × (down.run r (receives r count) ≡ taken r count packet)) (sym kept.is)
      (was_received sn quota kept.first kept.teid kept.orders kept.kept count packet) low put

  first_was_put : (rest : List (ℕ × List ℕ)) → s.air ≡ (count, packet) ∷ rest → (count ≤ s.terminal.deliv) × WasPut s count packet
  first_was_put rest =
      subst (λ r. r.air ≡ (count, packet) ∷ rest → (count ≤ r.terminal.deliv) × WasPut r count packet) (sym kept.is)
      (first_is sn quota kept.first kept.teid kept.orders kept.kept count packet rest)

pub assumes_less : (sn : SnBits) (quota : ℕ) (u : UeNode) (p : Point) (bearer : BearerId) (to : Option ℕ) (input : Input Token Pdu)
    → IsKept sn quota p.down → AssumedStill u (both p) bearer to input → AssumedReceived u (both p) bearer to input
assumes_less sn quota u p bearer to (radio_input ue other Dl pdu (packet_content None packet)) kept assumed = λ here. tt
assumes_less sn quota u p bearer to (radio_input ue other Dl pdu (packet_content (Some count) packet)) kept assumed =
    λ here. first_was_put sn quota p.down kept count packet (rest_of p.down.air) (assumed here)
assumes_less sn quota u p bearer to (radio_input ue other Dl pdu (report_content fmc bits)) kept assumed = assumed
assumes_less sn quota u p bearer to (radio_input ue other Ul pdu content) kept assumed = tt
assumes_less sn quota u p bearer to (order_input order) kept assumed = assumed
assumes_less sn quota u p bearer to (control_input from message) kept assumed = tt
assumes_less sn quota u p bearer to (packet_input teid item) kept assumed = tt
assumes_less sn quota u p bearer to (confirm_input ue other dir pdu content) kept assumed = tt
assumes_less sn quota u p bearer to (offer_input ue other packet) kept assumed = tt
assumes_less sn quota u p bearer to tick_input kept assumed = tt

module _ (reading : Reading) (n : Numbering) (ue : UeId) (bearer : BearerId) (sn : SnBits) (quota : ℕ) (p q : Point) (event : Event)
    (refinement : IsAtTerminal reading ue bearer p.state (both p)) (v : UeNode) (cause : RunCause)
    (outputs : List (Output (Message Token) Pdu)) (to : Option ℕ) (fair : IsFair p.state) (kept : IsKept sn quota p.down) where
  abbrev u : UeNode
  u = refinement.terminal

  own : HoldTheirOwn p.state
  own = fair.sound.radios

  abbrev Step : Input Token Pdu → Type 0
  Step input = IsUeStep reading event p.state q.state ue u v cause input outputs

  abbrev Acted : Type 0
  Acted = IsActed (plain_world reading) event p.state cause (map (written_put (sn_of p.state)) outputs) (with_ue p.state.units ue v)

  abbrev Done : Type 0
  Done = StaysInFrame reading n ue bearer sn quota p q × IsAtTerminal reading ue bearer q.state (both q)

  -- with these orders
  abbrev By : Orders → Type 0
  By o = q.down ≡ down.run p.down o.down → q.up ≡ up.run p.up o.up → Done

  left : (input : Input Token Pdu) → Step input → Acted → LeavesBearer n ue bearer p.state q.state
  left input step acted =
      bearer_is_left reading n ue bearer p.state q.state event cause (map (written_put (sn_of p.state)) outputs) (with_ue p.state.units ue v) step.lines fair
      acted (subst (λ node. PutsNoItem node) (sym step.node) tt) step.goes_on

  -- as for every input
  as_before : (input : Input Token Pdu) → Step input → Acted → AssumedStill u (both p) bearer to input → By (orders_by plain_way u (both p) bearer to input)
  as_before input step acted assumed down_is up_is = (
    stays reading n ue bearer sn quota p q event refinement v cause input outputs to fair step acted assumed down_is up_is,
    refined reading n ue bearer sn quota p q event refinement v cause input outputs to fair step acted assumed down_is up_is,
  )

  module _ (who : UeId) (other : BearerId) (pdu : Pdu) (count : ℕ) (packet : List ℕ) where
    abbrev input : Input Token Pdu
    input = radio_input who other Dl pdu (packet_content (Some count) packet)

    abbrev carry : Orders
    carry = record { up = []; down = down.carries count packet (rest_of p.down.air) ∷ [] }

    abbrev receive : Orders
    receive = record { up = []; down = receives p.down count }

    -- the orders, by whether the packet is of this bearer, and ahead of what the terminal has room for
    abbrev carry_if : (here held : Bool) → Orders
    carry_if here held = if here then (if held then none else carry) else none

    abbrev receive_if : (here held : Bool) → Orders
    receive_if here held = if here then (if held then none else receive) else none

    module _ (step : Step input) (acted : Acted) where
      -- the models after what `orders_by` says
      shown_by : (o : Orders) → orders_by plain_way u (both p) bearer to input ≡ o → IsAtTerminal reading ue bearer q.state (carried_out (both p) o)
      shown_by o is =
          subst (λ o. IsAtTerminal reading ue bearer q.state (carried_out (both p) o)) is
          (terminal_then reading event p.state q.state ue bearer (both p) refinement v cause input outputs step own to)

      beside : (o : Orders) → o.up ≡ [] → AllByRecursion IsOfRadio o.down → down_assumptions.AreKept sn quota p.down o.down → q.down ≡ down.run p.down o.down
          → q.up ≡ up.run p.up o.up → StaysInFrame reading n ue bearer sn quota p q
      unfolding up_assumptions.AreKept
      beside o none_up of_radio asks down_is up_is = record {
        rest = left input step acted;
        radio = o.down;
        terminal = [];
        of_radio = of_radio;
        of_terminal = tt;
        radio_asks = asks;
        terminal_asks = tt;
        down = down_is;
        up = up_is ∙ ap (λ os. up.run p.up os) none_up;
      }

      then_refined : (o : Orders) → q.down ≡ down.run p.down o.down → q.up ≡ up.run p.up o.up → IsAtTerminal reading ue bearer q.state (carried_out (both p) o)
          → IsAtTerminal reading ue bearer q.state (both q)
      then_refined o down_is up_is refinement = subst (λ (b : Models). IsAtTerminal reading ue bearer q.state b) (λ i. record { up = sym up_is i; down = sym down_is i }) refinement

      by : (here held : Bool) → orders_by plain_way u (both p) bearer to input ≡ carry_if here held
          → (here ≡ true → AssumedPacket u (both p) (packet_content (Some count) packet)) → By (receive_if here held)
      unfolding down_assumptions.AreKept
      by false held is assumed down_is up_is = (beside none refl tt tt down_is up_is, then_refined none down_is up_is (shown_by none is))
      by true true is assumed down_is up_is = (beside none refl tt tt down_is up_is, then_refined none down_is up_is (shown_by none is))
      by true false is assumed down_is up_is =
          let h = is_received sn quota p.down kept count packet (assumed refl).0 (assumed refl).1 in (
            beside receive refl (own_receives p.down count) h.0 down_is up_is,
            then_refined receive down_is up_is
                (looks_on reading ue bearer q.state (carried_out (both p) carry) (carried_out (both p) receive) refl (carried_looks p.down count packet h.1) (shown_by carry is)),
          )

    packet_is : Step input → Acted → AssumedReceived u (both p) bearer to input → By (received_by u (both p) bearer to input)
    unfolding orders_by received_by
    packet_is step acted assumed =
        by step acted (eq_by_cmp bearer_cmp bearer other) (not (is_duplicate p.down.terminal count) && is_ahead u.plan.quota p.down.terminal count) refl assumed

  pub step_is : (input : Input Token Pdu) → Step input → Acted → AssumedReceived u (both p) bearer to input → By (received_by u (both p) bearer to input)
  unfolding received_by orders_by
  step_is (radio_input who other Dl pdu (packet_content (Some count) packet)) step acted assumed = packet_is who other pdu count packet step acted assumed
  step_is (radio_input who other Dl pdu (packet_content None packet)) step acted assumed =
      as_before (radio_input who other Dl pdu (packet_content None packet)) step acted (λ here. tt)
  step_is (radio_input who other Dl pdu (report_content fmc bits)) step acted assumed =
      as_before (radio_input who other Dl pdu (report_content fmc bits)) step acted assumed
  step_is (radio_input who other Ul pdu content) step acted assumed = as_before (radio_input who other Ul pdu content) step acted tt
  step_is (order_input order) step acted assumed = as_before (order_input order) step acted assumed
  step_is (control_input from message) step acted assumed = as_before (control_input from message) step acted tt
  step_is (packet_input teid item) step acted assumed = as_before (packet_input teid item) step acted tt
  step_is (confirm_input who other dir pdu content) step acted assumed = as_before (confirm_input who other dir pdu content) step acted tt
  step_is (offer_input who other packet) step acted assumed = as_before (offer_input who other packet) step acted tt
  step_is tick_input step acted assumed = as_before tick_input step acted tt

  -- where the radio down is the model's
  pub first_there : (input : Input Token Pdu) → Step input → Acted → IsDown (on_air p.state (down_key ue bearer)) p.down → 0 < u.plan.quota
      → AssumedRest u (both p) bearer to input → q.down ≡ down.run p.down (received_by u (both p) bearer to input).down
      → q.up ≡ up.run p.up (received_by u (both p) bearer to input).up
      → StaysInFrame reading n ue bearer sn quota p q × IsAtTerminal reading ue bearer q.state (both q)
      × IsDown (on_air q.state (down_key ue bearer)) q.down
  first_there input step acted on_radio some assumed down_is up_is =
      let done = step_is input step acted
      (assumes_rest reading event p.state q.state ue bearer (both p) refinement sn quota kept on_radio some v cause input outputs step own to assumed) down_is up_is in (
        done.0,
        done.1,
        subst (λ d. IsDown (on_air q.state (down_key ue bearer)) d) (sym down_is)
            (down_then reading event p.state q.state ue bearer (both p) refinement sn quota kept on_radio some v cause input outputs step own to),
      )

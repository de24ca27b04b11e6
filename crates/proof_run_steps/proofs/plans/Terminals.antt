-- A terminal keeps its plan: what holds of it holds after any input.
use Rattle.std.proofs.Common.{◌==◌, ℕ, ◌+◌, Bool, not, ◌&&◌, List, length, Option, Some, None}
use Rattle.std.specs.Prelude.{if◌then◌else◌, nat_lt, nat_le}
use Rattle.gnb_types.specs.declared.names.NodeId.{NodeId}
use Rattle.gnb_types.specs.declared.names.NodeId.TheVariants.{Du as du_id}
use Rattle.gnb_types.specs.declared.names.BearerId.{BearerId}
use Rattle.gnb_types.specs.declared.names.Dir.TheVariants.{Dl, Ul}
use Rattle.gnb_types.specs.declared.plans.Plan.{Plan}
use Rattle.gnb_types.specs.declared.inputs.Order.TheVariants as orders
use Rattle.gnb_types.specs.declared.reasons.DropReason.TheVariants.{Stale, Unexpected}
use Rattle.gnb_types.specs.declared.reasons.RefuseReason.TheVariants.{NotAccessing, Busy, NoRadio, Size, Quota}
use Rattle.gnb_types.specs.Orders.{bearer_cmp}
use Rattle.tables.specs.Tables.{find}
use Rattle.message_types.specs.declared.rrc.Token.{Token}
use Rattle.message_types.specs.declared.rrc.Token.TheVariants as tokens
use Rattle.unit_defs.specs.declared.UeState.{UeState}
use Rattle.unit_defs.specs.declared.UeState.TheVariants as states
use Rattle.unit_defs.specs.Ways.{Message, rrc, Input, control_input, packet_input, radio_input, confirm_input, offer_input, tick_input, order_input, no, Way, Answer, spent, ◌then◌, nothing, puts, drops, epochs_spent}
use Rattle.unit_defs.specs.Ue.{UeBearer, UeNode, last_epoch, largest_packet, is_connected, is_accessing, may_return, number_waiting, with_bearer, with_bearers, connect_each, connect, of_bearer, at_bearer, says_it, may_obey, obey, arrived, arrive, returned, return_to, come_back, accepted_in, accept, fail, used_uplink, offered, offer, took, take, confirmed, confirm, told, told_by, ue_acts}
use Rattle.proof_unit_steps.specs.answers.After.{HoldsAfter}
use Rattle.proof_unit_steps.proofs.answers.Answers.{holds_if, holds_then, any_then}

module _ {M C P : Type 0} (way : Way M C P) (Q : Plan → Type 0) where
  abbrev IsOf : UeNode → Type 0
  IsOf u = Q u.plan

  abbrev Stays : Answer M P UeNode → Type 0
  Stays a = HoldsAfter IsOf a

  stays_if : (t : Bool) (x y : Answer M P UeNode) → Stays x → Stays y → Stays (if t then x else y)
  stays_if t x y p q = holds_if IsOf t x y p q

  connect_stays : (u : UeNode) → IsOf u → Stays (connect way u)
  connect_stays u p = any_then IsOf (connect_each way u u.bearers) (λ bearers. nothing (with_bearers way u bearers)) (λ bearers. p)

  obey_stays : (epoch : ℕ) (goal : NodeId) (u : UeNode) → IsOf u → Stays (obey way epoch goal u)
  unfolding obey
  obey_stays epoch goal u p = stays_if (may_obey way u.state && epoch == u.epoch + 1) _ (drops Stale u) p p

  arrive_stays : (u : UeNode) → IsOf u → Stays (arrive way u)
  unfolding arrive
  arrive_stays u p =
      stays_if (not (is_accessing u.state)) (puts (no NotAccessing) u) _ p
      (holds_then IsOf IsOf (if nat_le last_epoch u.epoch then spent epochs_spent else says_it way (arrived way u)) (connect way)
      (stays_if (nat_le last_epoch u.epoch) (spent epochs_spent) (says_it way (arrived way u)) tt p) (λ x q. connect_stays x q))

  return_stays : (u : UeNode) → IsOf u → Stays (come_back way u)
  unfolding come_back
  return_stays u p = by u.home
    where
      by : (home : Option NodeId) → Stays (return_to way u home)
      by None = p
      by (Some home) =
          stays_if (not (may_return u.state)) (puts (no Busy) u) _ p
          (stays_if (nat_le last_epoch u.epoch) (spent epochs_spent) (says_it way (returned way u)) tt p)

  accept_stays : (epoch : ℕ) (u : UeNode) → IsOf u → Stays (accept way epoch u)
  unfolding accept
  accept_stays epoch u p = stays_if (epoch == u.epoch) (accepted_in way u u.state) (drops Stale u) (by u.state) p
    where
      by : (s : UeState) → Stays (accepted_in way u s)
      by states.Returning = connect_stays (record u { token = None; state = states.Connected }) p
      by states.Idle = p
      by states.Accessing = p
      by states.Connected = p
      by states.Lost = p

  fail_stays : (u : UeNode) → IsOf u → Stays (fail way u)
  unfolding fail
  fail_stays u p = stays_if (is_connected u.state) (nothing (record u { state = states.Lost })) (puts (no NoRadio) u) p p

  offer_stays : (bearer : BearerId) (x : List ℕ) (u : UeNode) → IsOf u → Stays (offer way bearer x u)
  unfolding offer
  offer_stays bearer x u p = by (find bearer_cmp u.bearers bearer)
    where
      by : (b : Option UeBearer) → Stays (offered way u bearer x b)
      by None = p
      by (Some b) =
          stays_if (nat_lt largest_packet (length x)) (puts (no Size) u) _ p
          (stays_if (nat_le u.plan.quota (used_uplink way b)) (puts (no Quota) u) _ p
          (any_then IsOf (number_waiting way u bearer _) (λ c. nothing (with_bearer way u bearer c)) (λ c. p)))

  bearer_stays : (u : UeNode) (bearer : BearerId) (row : UeBearer → Answer M P UeBearer) → IsOf u → Stays (at_bearer way u bearer row)
  bearer_stays u bearer row p = by (find bearer_cmp u.bearers bearer)
    where
      by : (b : Option UeBearer) → Stays (of_bearer way u bearer row b)
      by None = p
      by (Some b) = any_then IsOf (row b) (λ c. nothing (with_bearer way u bearer c)) (λ c. p)

  told_stays : (token : Token) (u : UeNode) → IsOf u → Stays (told way token u)
  told_stays (tokens.Command to epoch gnb du) u p =
      stays_if (to.0 == u.plan.ue.0) (obey way epoch (du_id gnb du) u) (drops Unexpected u) (obey_stays epoch (du_id gnb du) u p) p
  told_stays (tokens.Accepted to epoch) u p =
      stays_if (to.0 == u.plan.ue.0) (accept way epoch u) (drops Unexpected u) (accept_stays epoch u p) p
  told_stays (tokens.Complete to epoch) u p = p
  told_stays (tokens.Reestablish to epoch) u p = p

  control_stays : (from : NodeId) (message : Message C) (u : UeNode) → IsOf u → Stays (told_by way from message u)
  control_stays (du_id gnb number) (rrc token) u p = told_stays token u p
  control_stays from message u p = p

  pub terminal_stays : (u : UeNode) (input : Input C P) → IsOf u → HoldsAfter IsOf (ue_acts way u input)
  unfolding ue_acts take confirm
  terminal_stays u (control_input from message) p = control_stays from message u p
  terminal_stays u (packet_input teid item) p = p
  terminal_stays u (radio_input who bearer Dl pdu content) p = bearer_stays u bearer (took way u bearer content) p
  terminal_stays u (radio_input who bearer Ul pdu content) p = p
  terminal_stays u (confirm_input who bearer Dl pdu content) p = p
  terminal_stays u (confirm_input who bearer Ul pdu content) p = bearer_stays u bearer (confirmed way u bearer content) p
  terminal_stays u (offer_input who bearer x) p = offer_stays bearer x u p
  terminal_stays u tick_input p = p
  terminal_stays u (order_input (orders.Arrive who)) p = arrive_stays u p
  terminal_stays u (order_input (orders.Return who)) p = return_stays u p
  terminal_stays u (order_input (orders.Fail who)) p = fail_stays u p
  terminal_stays u (order_input order) p = p

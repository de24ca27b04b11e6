-- Each row of a terminal puts out what is the terminal's alone.
use Rattle.std.proofs.Common.{◌≡◌, ℕ, ◌+◌, ◌==◌, not, ◌&&◌, nat_lt, nat_le, List, [], ◌∷◌, ◌++◌, length, map, Option, Some, None, refl, subst}
use Rattle.std.specs.Prelude.{if◌then◌else◌}
use Rattle.std.specs.List.{AllByRecursion}
use Rattle.gnb_types.specs.declared.names.NodeId.{NodeId}
use Rattle.gnb_types.specs.declared.names.NodeId.TheVariants.{Du}
use Rattle.gnb_types.specs.declared.names.BearerId.{BearerId}
use Rattle.gnb_types.specs.declared.names.Dir.TheVariants.{Dl, Ul}
use Rattle.gnb_types.specs.declared.outputs.Tag.TheVariants.{Absent}
use Rattle.gnb_types.specs.declared.plans.Plan.{Plan}
use Rattle.gnb_types.specs.declared.inputs.Order.{Order}
use Rattle.gnb_types.specs.declared.inputs.Order.TheVariants as orders
use Rattle.gnb_types.specs.Orders.{bearer_cmp}
use Rattle.tables.specs.Tables.{find}
use Rattle.message_types.specs.declared.rrc.Token.{Token}
use Rattle.message_types.specs.declared.rrc.Token.TheVariants as tokens
use Rattle.pdcp.specs.Near.{last_count}
use Rattle.pdcp_defs.specs.Senders.{has_room, numbered, confirmed_by}
use Rattle.pdcp_defs.specs.Receivers.{is_duplicate, is_ahead, stored, deliver as handed_up, received_bits}
use Rattle.unit_defs.specs.declared.UeState.{UeState}
use Rattle.unit_defs.specs.declared.UeState.TheVariants as states
use Rattle.unit_defs.specs.declared.TokenKind.{TokenKind}
use Rattle.unit_defs.specs.Ways.{Message, rrc, report_pdu, Content, packet_content, report_content, Input, control_input, radio_input, confirm_input, offer_input, tick_input, order_input, Load, deliver, Way, Answer, gives, spent, ◌then◌, nothing, puts, counts_spent, epochs_spent}
use Rattle.unit_defs.specs.Ue.{UeBearer, UeNode, last_epoch, largest_packet, is_connected, is_accessing, may_return, on_air, data_output, unconfirmed_outputs, number_each, number_waiting, connect_bearer, with_bearer, with_bearers, connect_each, connect, of_bearer, said, says_it, may_obey, obey, arrived, arrive, returned, return_to, come_back, accepted_in, accept, fail, used_uplink, offered, offer, took_data, took, take, confirmed_if, confirmed, confirm, told, told_by, ordered, ue_acts}
use Rattle.law_terminals_are_isolated.specs.projections.Steps.{IsFor, PutsFor}
use Rattle.law_terminals_are_isolated.proofs.projections.Answers.{puts_then, puts_if}

module _ {M C P : Type 0} (way : Way M C P) where
  abbrev Own : UeNode → Answer M P UeNode → Type 0
  Own u a = PutsFor u.plan.ue.0 (λ (after : UeNode). after.plan ≡ u.plan) a

  abbrev Puts : {R : Type 0} → UeNode → Answer M P R → Type 0
  Puts u a = PutsFor u.plan.ue.0 (λ after. Unit {0}) a

  -- the same terminal's
  own_as : (u v : UeNode) (a : Answer M P UeNode) → v.plan ≡ u.plan → Own v a → Own u a
  own_as u v a same own = subst (λ (p : Plan). PutsFor p.ue.0 (λ (after : UeNode). after.plan ≡ p) a) same own

  -- ---- one bearer

  number_puts : (u : UeNode) (bearer : BearerId) (ps : List (List ℕ)) (b : UeBearer) → Puts u (number_each way u bearer ps b)
  unfolding number_each
  number_puts u bearer [] b = (tt, tt)
  number_puts u bearer (p ∷ ps) b =
      puts_if u.plan.ue.0 _ (not (has_room u.plan.sn u.plan.quota b.sender)) _ _ (tt, tt)
      (puts_then u.plan.ue.0 (λ after. Unit {0}) (λ after. Unit {0})
      (if nat_lt last_count b.sender.next then spent counts_spent else
      puts (data_output way u bearer b.sender.next p) (record b { sender = numbered b.sender p; waiting = ps })) (number_each way u bearer ps)
      (puts_if u.plan.ue.0 (λ after. Unit {0}) (nat_lt last_count b.sender.next) (spent counts_spent)
      (puts (data_output way u bearer b.sender.next p) (record b { sender = numbered b.sender p; waiting = ps })) tt ((refl, tt), tt))
      (λ c h. number_puts u bearer ps c))

  waiting_puts : (u : UeNode) (bearer : BearerId) (b : UeBearer) → Puts u (number_waiting way u bearer b)
  unfolding number_waiting
  waiting_puts u bearer b = puts_if u.plan.ue.0 _ (is_connected u.state) _ _ (number_puts u bearer b.waiting b) (tt, tt)

  again_for : (u : UeNode) (bearer : BearerId) (es : List (ℕ × List ℕ))
      → AllByRecursion (IsFor {M = M} {L = Load P} {P = P} u.plan.ue.0) (map (λ e. data_output way u bearer e.0 e.1) es)
  again_for u bearer [] = tt
  again_for u bearer (e ∷ es) = (refl, again_for u bearer es)

  connect_puts : (u : UeNode) (bearer : BearerId) (b : UeBearer) → Puts u (connect_bearer way u bearer b)
  unfolding connect_bearer
  connect_puts u bearer b =
      puts_then u.plan.ue.0 (λ after. Unit {0}) (λ after. Unit {0})
      (gives (on_air way u bearer Absent (way.write u.plan.sn (report_pdu b.receiver.deliv (received_bits b.receiver))) ∷ unconfirmed_outputs way u bearer b) b)
      (number_waiting way u bearer)
      ((refl, again_for u bearer b.sender.unconfirmed), tt) (λ c h. waiting_puts u bearer c)

  -- ---- the bearers of the terminal

  each_puts : (u : UeNode) (es : List (BearerId × UeBearer)) → Puts u (connect_each way u es)
  each_puts u [] = (tt, tt)
  each_puts u (e ∷ es) =
      puts_then u.plan.ue.0 (λ after. Unit {0}) (λ after. Unit {0}) (connect_bearer way u e.0 e.1) _ (connect_puts u e.0 e.1)
      (λ b h. puts_then u.plan.ue.0 (λ after. Unit {0}) (λ after. Unit {0}) (connect_each way u es) (λ bearers. nothing ((e.0, b) ∷ bearers))
      (each_puts u es) (λ bearers i. (tt, tt)))

  connect_own : (u : UeNode) → Own u (connect way u)
  connect_own u =
      puts_then u.plan.ue.0 (λ after. Unit {0}) _ (connect_each way u u.bearers) (λ bearers. nothing (with_bearers way u bearers)) (each_puts u u.bearers)
      (λ bearers h. (tt, refl))

  bearer_own : (u : UeNode) (bearer : BearerId) (row : UeBearer → Answer M P UeBearer) → ((b : UeBearer) → Puts u (row b))
      → (o : Option UeBearer) → Own u (of_bearer way u bearer row o)
  bearer_own u bearer row rows None = ((tt, tt), refl)
  bearer_own u bearer row rows (Some b) =
      puts_then u.plan.ue.0 (λ after. Unit {0}) _ (row b) (λ c. nothing (with_bearer way u bearer c)) (rows b) (λ c h. (tt, refl))

  -- ---- what it says, and where it goes

  said_for : (u : UeNode) (token : Option TokenKind) (home : Option NodeId) → AllByRecursion (IsFor u.plan.ue.0) (said way u token home)
  said_for u None home = tt
  said_for u (Some kind) None = tt
  said_for u (Some kind) (Some home) = (refl, tt)

  says_own : (u : UeNode) → Own u (says_it way u)
  says_own u = (said_for u u.token u.home, refl)

  obey_own : (epoch : ℕ) (goal : NodeId) (u : UeNode) → Own u (obey way epoch goal u)
  unfolding obey
  obey_own epoch goal u = puts_if u.plan.ue.0 _ (may_obey way u.state && epoch == u.epoch + 1) _ _ (tt, refl) ((tt, tt), refl)

  arrive_own : (u : UeNode) → Own u (arrive way u)
  unfolding arrive
  arrive_own u =
      puts_if u.plan.ue.0 _ (not (is_accessing u.state)) _ _ ((tt, tt), refl)
      (puts_then u.plan.ue.0 (λ (after : UeNode). after.plan ≡ u.plan) (λ (after : UeNode). after.plan ≡ u.plan)
      (if nat_le last_epoch u.epoch then spent epochs_spent else says_it way (arrived way u)) (connect way)
      (puts_if u.plan.ue.0 (λ (after : UeNode). after.plan ≡ u.plan) (nat_le last_epoch u.epoch) (spent epochs_spent) (says_it way (arrived way u)) tt
      (says_own (arrived way u)))
      (λ s same. own_as u s (connect way s) same (connect_own s)))

  return_own : (u : UeNode) (home : Option NodeId) → Own u (return_to way u home)
  return_own u None = ((tt, tt), refl)
  return_own u (Some home) =
      puts_if u.plan.ue.0 _ (not (may_return u.state)) _ _ ((tt, tt), refl)
      (puts_if u.plan.ue.0 _ (nat_le last_epoch u.epoch) (spent epochs_spent) _ tt (says_own (returned way u)))

  accepted_own : (u : UeNode) (state : UeState) → Own u (accepted_in way u state)
  accepted_own u states.Returning = connect_own (record u { token = None; state = states.Connected })
  accepted_own u states.Idle = (tt, refl)
  accepted_own u states.Accessing = (tt, refl)
  accepted_own u states.Connected = (tt, refl)
  accepted_own u states.Lost = (tt, refl)

  accept_own : (epoch : ℕ) (u : UeNode) → Own u (accept way epoch u)
  unfolding accept
  accept_own epoch u = puts_if u.plan.ue.0 _ (epoch == u.epoch) _ _ (accepted_own u u.state) ((tt, tt), refl)

  fail_own : (u : UeNode) → Own u (fail way u)
  unfolding fail
  fail_own u = puts_if u.plan.ue.0 _ (is_connected u.state) _ _ (tt, refl) ((tt, tt), refl)

  -- ---- packets

  offered_own : (u : UeNode) (bearer : BearerId) (p : List ℕ) (o : Option UeBearer) → Own u (offered way u bearer p o)
  offered_own u bearer p None = ((tt, tt), refl)
  offered_own u bearer p (Some b) =
      puts_if u.plan.ue.0 _ (nat_lt largest_packet (length p)) _ _ ((tt, tt), refl)
      (puts_if u.plan.ue.0 _ (nat_le u.plan.quota (used_uplink way b)) _ _ ((tt, tt), refl)
      (puts_then u.plan.ue.0 (λ after. Unit {0}) _ (number_waiting way u bearer (record b { waiting = b.waiting ++ p ∷ [] }))
      (λ c. nothing (with_bearer way u bearer c)) (waiting_puts u bearer (record b { waiting = b.waiting ++ p ∷ [] })) (λ c h. (tt, refl))))

  delivered_for : (u : UeNode) (bearer : BearerId) (es : List (ℕ × List ℕ))
      → AllByRecursion (IsFor {M = M} {L = Load P} {P = P} u.plan.ue.0) (map (λ e. deliver u.plan.ue bearer Dl e.0 e.1) es)
  delivered_for u bearer [] = tt
  delivered_for u bearer (e ∷ es) = (refl, delivered_for u bearer es)

  data_puts : (u : UeNode) (bearer : BearerId) (o : Option ℕ) (p : List ℕ) (b : UeBearer) → Puts u (took_data way u bearer o p b)
  data_puts u bearer None p b = ((tt, tt), tt)
  data_puts u bearer (Some count) p b =
      puts_if u.plan.ue.0 _ (is_duplicate b.receiver count) _ _ ((tt, tt), tt)
      (puts_if u.plan.ue.0 _ (is_ahead u.plan.quota b.receiver count) _ _ ((tt, tt), tt)
      (delivered_for u bearer (handed_up (stored b.receiver count p)).packets, tt))

  took_puts : (u : UeNode) (bearer : BearerId) (content : Content) (b : UeBearer) → Puts u (took way u bearer content b)
  took_puts u bearer (packet_content count p) b = data_puts u bearer count p b
  took_puts u bearer (report_content fmc bits) b = waiting_puts u bearer (record b { sender = confirmed_by b.sender fmc bits })

  confirmed_puts : (u : UeNode) (bearer : BearerId) (content : Content) (b : UeBearer) → Puts u (confirmed way u bearer content b)
  confirmed_puts u bearer (packet_content count p) b = waiting_puts u bearer (confirmed_if way count b)
  confirmed_puts u bearer (report_content fmc bits) b = (tt, tt)

  -- ---- tokens, and the table

  told_own : (token : Token) (u : UeNode) → Own u (told way token u)
  told_own (tokens.Command ue epoch gnb du) u =
      puts_if u.plan.ue.0 _ (ue.0 == u.plan.ue.0) _ _ (obey_own epoch (Du gnb du) u) ((tt, tt), refl)
  told_own (tokens.Accepted ue epoch) u = puts_if u.plan.ue.0 _ (ue.0 == u.plan.ue.0) _ _ (accept_own epoch u) ((tt, tt), refl)
  told_own (tokens.Complete ue epoch) u = ((tt, tt), refl)
  told_own (tokens.Reestablish ue epoch) u = ((tt, tt), refl)

  by_own : (from : NodeId) (m : Message C) (u : UeNode) → Own u (told_by way from m u)
  by_own (Du gnb number) (rrc token) u = told_own token u
  by_own from m u = ((tt, tt), refl)

  ordered_own : (order : Order) (u : UeNode) → Own u (ordered way order u)
  unfolding come_back
  ordered_own (orders.Arrive ue) u = arrive_own u
  ordered_own (orders.Return ue) u = return_own u u.home
  ordered_own (orders.Fail ue) u = fail_own u
  ordered_own order u = ((tt, tt), refl)

  pub acts_own : (u : UeNode) (input : Input C P) → Own u (ue_acts way u input)
  unfolding ue_acts take confirm offer
  acts_own u (control_input from m) = by_own from m u
  acts_own u (radio_input ue bearer Dl pdu content) = bearer_own u bearer (took way u bearer content) (took_puts u bearer content) (find bearer_cmp u.bearers bearer)
  acts_own u (confirm_input ue bearer Ul pdu content) =
      bearer_own u bearer (confirmed way u bearer content) (confirmed_puts u bearer content) (find bearer_cmp u.bearers bearer)
  acts_own u (offer_input ue bearer p) = offered_own u bearer p (find bearer_cmp u.bearers bearer)
  acts_own u tick_input = says_own u
  acts_own u (order_input order) = ordered_own order u
  acts_own u input = ((tt, tt), refl)

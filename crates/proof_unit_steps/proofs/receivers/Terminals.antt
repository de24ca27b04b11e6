-- A terminal keeps what its receivers store above what they await.
use Rattle.std.proofs.Common.{◌≡◌, ◌==◌, ℕ, zero, suc, ◌+◌, Bool, true, false, not, ◌&&◌, List, [], ◌∷◌, ◌++◌, length, Option, Some, None, refl, sym, subst, arith}
use Rattle.std.specs.Prelude.{if◌then◌else◌, nat_lt, nat_le}
use Rattle.gnb_types.specs.declared.names.NodeId.{NodeId}
use Rattle.gnb_types.specs.declared.names.NodeId.TheVariants.{Du}
use Rattle.gnb_types.specs.declared.names.BearerId.{BearerId}
use Rattle.gnb_types.specs.declared.names.Dir.TheVariants.{Dl, Ul}
use Rattle.gnb_types.specs.declared.inputs.Order.TheVariants as orders
use Rattle.gnb_types.specs.declared.outputs.Tag.TheVariants.{Absent}
use Rattle.gnb_types.specs.declared.reasons.DropReason.TheVariants.{Stale, Duplicate, Unexpected}
use Rattle.gnb_types.specs.declared.reasons.HeldReason.TheVariants.{Ahead}
use Rattle.gnb_types.specs.declared.reasons.RefuseReason.TheVariants.{NotAccessing, Busy, NoRadio, Size, Quota}
use Rattle.gnb_types.specs.Orders.{bearer_cmp}
use Rattle.tables.specs.Tables.{find}
use Rattle.message_types.specs.declared.rrc.Token.{Token}
use Rattle.message_types.specs.declared.rrc.Token.TheVariants as tokens
use Rattle.pdcp.specs.Near.{last_count}
use Rattle.pdcp_defs.specs.Senders.{numbered, has_room, confirmed_to, confirmed_by}
use Rattle.pdcp_defs.specs.Receivers.{is_duplicate, is_ahead, stored, deliver as handed_up, received_bits}
use Rattle.unit_defs.specs.declared.UeState.{UeState}
use Rattle.unit_defs.specs.declared.UeState.TheVariants as states
use Rattle.unit_defs.specs.Ways.{Message, rrc, report_pdu, Content, packet_content, report_content, Input, control_input, radio_input, confirm_input, offer_input, tick_input, order_input, held, no, Way, Answer, gives, spent, ◌then◌, nothing, puts, drops, counts_spent, epochs_spent}
use Rattle.unit_defs.specs.Ue.{UeBearer, UeNode, new_bearers, last_epoch, largest_packet, is_connected, is_accessing, may_return, on_air, data_output, unconfirmed_outputs, number_each, number_waiting, connect_bearer, with_bearer, with_bearers, connect_each, connect, of_bearer, at_bearer, says_it, may_obey, obey, arrived, arrive, returned, return_to, come_back, accepted_in, accept, fail, used_uplink, offered, offer, handed, took, take, confirmed, confirm, told, told_by, ue_acts}
use Rattle.proof_unit_steps.specs.answers.After.{HoldsAfter}
use Rattle.proof_unit_steps.proofs.answers.Answers.{holds_if, holds_then}
use Rattle.proof_unit_steps.specs.receivers.Ready.{Ascends, StoresAbove, UeReady}
use Rattle.proof_unit_steps.proofs.receivers.Receivers.{lower, put_ascends, above_after}
use Rattle.proof_unit_steps.proofs.receivers.UpBearers.{above_or_duplicate}
use Rattle.proof_unit_steps.proofs.receivers.CuUps.{Each, found_in, all_put}

abbrev Bearers : Type 0
Bearers = List (BearerId × UeBearer)

abbrev IsConsistent : UeBearer → Type 0
IsConsistent b = StoresAbove b.receiver

new_bearers_fine : (i n : ℕ) → Each IsConsistent (new_bearers i n)
new_bearers_fine i zero = tt
new_bearers_fine i (suc n) = (tt, new_bearers_fine (i + 1) n)

module _ {M C P : Type 0} (way : Way M C P) where
  -- ---- one bearer

  abbrev Fine : Answer M P UeBearer → Type 0
  Fine a = HoldsAfter IsConsistent a

  number_each_fine : (u : UeNode) (bearer : BearerId) (ps : List (List ℕ)) (b : UeBearer) → IsConsistent b → Fine (number_each way u bearer ps b)
  unfolding number_each
  number_each_fine u bearer [] b p = p
  number_each_fine u bearer (x ∷ ps) b p =
      let on : UeBearer = record b { sender = numbered b.sender x; waiting = ps } in
      holds_if IsConsistent (not (has_room u.plan.sn u.plan.quota b.sender)) (nothing b) _ p
      (holds_then IsConsistent IsConsistent (if nat_lt last_count b.sender.next then spent counts_spent else puts (data_output way u bearer b.sender.next x) on) (number_each way u bearer ps)
      (holds_if IsConsistent (nat_lt last_count b.sender.next) (spent counts_spent) (puts (data_output way u bearer b.sender.next x) on) tt p)
      (λ c q. number_each_fine u bearer ps c q))

  number_waiting_fine : (u : UeNode) (bearer : BearerId) (b : UeBearer) → IsConsistent b → Fine (number_waiting way u bearer b)
  unfolding number_waiting
  number_waiting_fine u bearer b p = holds_if IsConsistent (is_connected u.state) (number_each way u bearer b.waiting b) (nothing b) (number_each_fine u bearer b.waiting b p) p

  connect_bearer_fine : (u : UeNode) (bearer : BearerId) (b : UeBearer) → IsConsistent b → Fine (connect_bearer way u bearer b)
  unfolding connect_bearer
  connect_bearer_fine u bearer b p =
      holds_then IsConsistent IsConsistent
      (gives (on_air way u bearer Absent (way.write u.plan.sn (report_pdu b.receiver.deliv (received_bits b.receiver))) ∷ unconfirmed_outputs way u bearer b) b)
      (number_waiting way u bearer) p (λ c q. number_waiting_fine u bearer c q)

  -- ---- all bearers

  abbrev Keeps : Answer M P UeNode → Type 0
  Keeps a = HoldsAfter UeReady a

  connect_each_fine : (u : UeNode) (es : Bearers) → Each IsConsistent es → HoldsAfter (Each IsConsistent) (connect_each way u es)
  connect_each_fine u [] all = tt
  connect_each_fine u (e ∷ es) all =
      holds_then IsConsistent (Each IsConsistent) (connect_bearer way u e.0 e.1) (λ b. connect_each way u es then (λ bearers. nothing ((e.0, b) ∷ bearers)))
      (connect_bearer_fine u e.0 e.1 all.0)
      (λ b p. holds_then (Each IsConsistent) (Each IsConsistent) (connect_each way u es) (λ bearers. nothing ((e.0, b) ∷ bearers)) (connect_each_fine u es all.1) (λ bearers q. (p, q)))

  connect_keeps : (u : UeNode) → UeReady u → Keeps (connect way u)
  connect_keeps u p = holds_then (Each IsConsistent) UeReady (connect_each way u u.bearers) (λ bearers. nothing (with_bearers way u bearers)) (connect_each_fine u u.bearers p) (λ bearers q. q)

  at_bearer_keeps : (u : UeNode) (bearer : BearerId) (row : UeBearer → Answer M P UeBearer) → UeReady u → ((b : UeBearer) → IsConsistent b → Fine (row b))
      → Keeps (at_bearer way u bearer row)
  at_bearer_keeps u bearer row p each = by (find bearer_cmp u.bearers bearer) refl
    where
      by : (o : Option UeBearer) → find bearer_cmp u.bearers bearer ≡ o → Keeps (of_bearer way u bearer row o)
      by None is = p
      by (Some b) is =
          holds_then IsConsistent UeReady (row b) (λ c. nothing (with_bearer way u bearer c)) (each b (found_in IsConsistent u.bearers bearer b p is))
          (λ c q. all_put IsConsistent u.bearers bearer c p q)

  -- ---- its state

  obey_keeps : (epoch : ℕ) (goal : NodeId) (u : UeNode) → UeReady u → Keeps (obey way epoch goal u)
  unfolding obey
  obey_keeps epoch goal u p =
      holds_if UeReady (may_obey way u.state && epoch == u.epoch + 1) (nothing (record u { state = states.Accessing; goal = Some goal })) (drops Stale u) p p

  arrive_keeps : (u : UeNode) → UeReady u → Keeps (arrive way u)
  unfolding arrive
  arrive_keeps u p =
      holds_if UeReady (not (is_accessing u.state)) (puts (no NotAccessing) u) _ p
      (holds_then UeReady UeReady (if nat_le last_epoch u.epoch then spent epochs_spent else says_it way (arrived way u)) (connect way)
      (holds_if UeReady (nat_le last_epoch u.epoch) (spent epochs_spent) (says_it way (arrived way u)) tt p) connect_keeps)

  come_back_keeps : (u : UeNode) → UeReady u → Keeps (come_back way u)
  unfolding come_back
  come_back_keeps u p = by u.home
    where
      by : (o : Option NodeId) → Keeps (return_to way u o)
      by None = p
      by (Some home) =
          holds_if UeReady (not (may_return u.state)) (puts (no Busy) u) _ p
          (holds_if UeReady (nat_le last_epoch u.epoch) (spent epochs_spent) (says_it way (returned way u)) tt p)

  accept_keeps : (epoch : ℕ) (u : UeNode) → UeReady u → Keeps (accept way epoch u)
  unfolding accept
  accept_keeps epoch u p = holds_if UeReady (epoch == u.epoch) (accepted_in way u u.state) (drops Stale u) (by u.state) p
    where
      by : (s : UeState) → Keeps (accepted_in way u s)
      by states.Returning = connect_keeps (record u { token = None; state = states.Connected }) p
      by s = p

  fail_keeps : (u : UeNode) → UeReady u → Keeps (fail way u)
  unfolding fail
  fail_keeps u p = holds_if UeReady (is_connected u.state) (nothing (record u { state = states.Lost })) (puts (no NoRadio) u) p p

  -- ---- packets

  offer_keeps : (bearer : BearerId) (x : List ℕ) (u : UeNode) → UeReady u → Keeps (offer way bearer x u)
  unfolding offer
  offer_keeps bearer x u p = by (find bearer_cmp u.bearers bearer) refl
    where
      by : (o : Option UeBearer) → find bearer_cmp u.bearers bearer ≡ o → Keeps (offered way u bearer x o)
      by None is = p
      by (Some b) is =
          holds_if UeReady (nat_lt largest_packet (length x)) (puts (no Size) u) _ p
          (holds_if UeReady (nat_le u.plan.quota (used_uplink way b)) (puts (no Quota) u) _ p
          (holds_then IsConsistent UeReady (number_waiting way u bearer (record b { waiting = b.waiting ++ x ∷ [] })) (λ c. nothing (with_bearer way u bearer c))
          (number_waiting_fine u bearer (record b { waiting = b.waiting ++ x ∷ [] }) (found_in IsConsistent u.bearers bearer b p is))
          (λ c q. all_put IsConsistent u.bearers bearer c p q)))

  took_fine : (u : UeNode) (bearer : BearerId) (content : Content) (b : UeBearer) → IsConsistent b → Fine (took way u bearer content b)
  unfolding stored
  took_fine u bearer (packet_content None x) b p = p
  took_fine u bearer (packet_content (Some count) x) b p = by (is_duplicate b.receiver count) refl
    where
      from : Ascends b.receiver.deliv b.receiver.stored
      from = lower b.receiver.deliv (b.receiver.deliv + 1) b.receiver.stored (omega arith) p

      by : (t : Bool) → is_duplicate b.receiver count ≡ t
          → Fine (if t then drops Duplicate b else (if is_ahead u.plan.quota b.receiver count then puts (held Ahead) b
          else handed way u bearer b (handed_up (stored b.receiver count x))))
      by true old = p
      by false new =
          holds_if IsConsistent (is_ahead u.plan.quota b.receiver count) (puts (held Ahead) b) (handed way u bearer b (handed_up (stored b.receiver count x))) p
          (above_after (stored b.receiver count x) (put_ascends b.receiver.deliv b.receiver.stored count x from (above_or_duplicate b.receiver count new)))
  took_fine u bearer (report_content fmc bits) b p = number_waiting_fine u bearer (record b { sender = confirmed_by b.sender fmc bits }) p

  confirmed_fine : (u : UeNode) (bearer : BearerId) (content : Content) (b : UeBearer) → IsConsistent b → Fine (confirmed way u bearer content b)
  confirmed_fine u bearer (packet_content None x) b p = number_waiting_fine u bearer b p
  confirmed_fine u bearer (packet_content (Some count) x) b p = number_waiting_fine u bearer (record b { sender = confirmed_to b.sender count }) p
  confirmed_fine u bearer (report_content fmc bits) b p = p

  -- ---- tokens, orders, and the table

  told_keeps : (token : Token) (u : UeNode) → UeReady u → Keeps (told way token u)
  told_keeps (tokens.Command ue epoch gnb du) u p = holds_if UeReady (ue.0 == u.plan.ue.0) (obey way epoch (Du gnb du) u) (drops Unexpected u) (obey_keeps epoch (Du gnb du) u p) p
  told_keeps (tokens.Accepted ue epoch) u p = holds_if UeReady (ue.0 == u.plan.ue.0) (accept way epoch u) (drops Unexpected u) (accept_keeps epoch u p) p
  told_keeps token u p = p

  told_by_keeps : (from : NodeId) (m : Message C) (u : UeNode) → UeReady u → Keeps (told_by way from m u)
  told_by_keeps (Du gnb number) (rrc token) u p = told_keeps token u p
  told_by_keeps from m u p = p

  pub terminal_stores : (u : UeNode) (input : Input C P) → UeReady u → HoldsAfter UeReady (ue_acts way u input)
  unfolding ue_acts take confirm
  terminal_stores u (control_input from m) p = told_by_keeps from m u p
  terminal_stores u (radio_input ue bearer Dl pdu content) p = at_bearer_keeps u bearer (took way u bearer content) p (took_fine u bearer content)
  terminal_stores u (confirm_input ue bearer Ul pdu content) p = at_bearer_keeps u bearer (confirmed way u bearer content) p (confirmed_fine u bearer content)
  terminal_stores u (offer_input ue bearer x) p = offer_keeps bearer x u p
  terminal_stores u tick_input p = p
  terminal_stores u (order_input (orders.Arrive ue)) p = arrive_keeps u p
  terminal_stores u (order_input (orders.Return ue)) p = come_back_keeps u p
  terminal_stores u (order_input (orders.Fail ue)) p = fail_keeps u p
  terminal_stores u input p = p

pub new_ready : (u : UeNode) (i n : ℕ) → u.bearers ≡ new_bearers i n → UeReady u
new_ready u i n is = subst (λ (es : Bearers). Each IsConsistent es) (sym is) (new_bearers_fine i n)

-- A terminal comes on the air in its next epoch alone.
use Rattle.std.proofs.Common.{inl, inr, ◌≡◌, ◌⊎◌, ℕ, ◌+◌, ◌==◌, Bool, true, false, not, ◌&&◌, List, [], ◌∷◌, ◌++◌, length, Option, Some, None, refl, subst}
use Rattle.std.specs.Prelude.{if◌then◌else◌, nat_lt, nat_le}
use Rattle.gnb_types.specs.declared.names.NodeId.{NodeId}
use Rattle.gnb_types.specs.declared.names.NodeId.TheVariants.{CuCp, CuUp, Du, Core, Ue}
use Rattle.gnb_types.specs.declared.names.BearerId.{BearerId}
use Rattle.gnb_types.specs.declared.names.Dir.TheVariants.{Dl, Ul}
use Rattle.gnb_types.specs.declared.inputs.Order.{Order as UeOrder}
use Rattle.gnb_types.specs.declared.inputs.Order.TheVariants as orders
use Rattle.gnb_types.specs.declared.reasons.RefuseReason.TheVariants.{Size, Quota}
use Rattle.gnb_types.specs.Orders.{bearer_cmp}
use Rattle.tables.specs.Tables.{find}
use Rattle.message_types.specs.declared.rrc.Token.{Token}
use Rattle.message_types.specs.declared.rrc.Token.TheVariants as tokens
use Rattle.unit_defs.specs.declared.UeState.{UeState}
use Rattle.unit_defs.specs.declared.UeState.TheVariants as states
use Rattle.unit_defs.specs.Ways.{Message, f1, e1, xn, core, rrc, Pdu, Input, control_input, packet_input, radio_input, confirm_input, offer_input, tick_input, order_input, Output, Answer, gives, spent, with_outputs, ◌then◌, nothing, puts, no, epochs_spent}
use Rattle.unit_defs.specs.Ue.{UeBearer, UeNode, last_epoch, largest_packet, used_uplink, is_connected, is_accessing, may_return, may_obey, obey, arrived, arrive, return_to, come_back, accepted_in, accept, fail, says_it, said, connect, connect_each, with_bearer, with_bearers, number_waiting, offered, offer, took, take, confirmed, confirm, of_bearer, told, told_by, ordered, ue_acts}
use Rattle.run_defs.specs.Steps.{is_on_air}
use Rattle.run_defs.specs.Runs.{Reading, plain_world, plain_way}

abbrev pub Row : Type 0
Row = Answer (Message Token) Pdu UeNode

module _ (reading : Reading) (u : UeNode) where
  abbrev pub on : UeState → Bool
  on x = is_on_air (plain_world reading) x

  -- it was on the air, or its next epoch begins
  abbrev pub IsUp : UeNode → Type 0
  IsUp v = on v.state ≡ true → (on u.state ≡ true) ⊎ (v.epoch ≡ u.epoch + 1)

  pub record ComesUp (a : Row) : Type 0 where
    pub comes : (outputs : List (Output (Message Token) Pdu)) (v : UeNode) → a ≡ gives outputs v → IsUp v

  gives_up : (outputs : List (Output (Message Token) Pdu)) (v : UeNode) → IsUp v → ComesUp (gives outputs v)
  gives_up outputs v up = record { comes = λ others w is. let same : v ≡ w = cc in subst IsUp same up }

  no_more : (counter : ℕ) → ComesUp (spent counter)
  no_more counter = record { comes = λ others w is. absurd cc }

  any : on u.state ≡ true → (a : Row) → ComesUp a
  any up a = record { comes = λ outputs v is on_now. inl up }

  same : (outputs : List (Output (Message Token) Pdu)) → ComesUp (gives outputs u)
  same outputs = gives_up outputs u (λ is. inl is)

  choose : (t : Bool) (a b : Row) → ComesUp a → ComesUp b → ComesUp (if t then a else b)
  choose true a b first other = first
  choose false a b first other = other

  -- one bearer changes
  of_answer : (bearer : BearerId) (a : Answer (Message Token) Pdu UeBearer)
      → ComesUp (a then (λ c. nothing (with_bearer plain_way u bearer c)))
  of_answer bearer (gives outputs c) = gives_up _ _ (λ is. inl is)
  of_answer bearer (spent counter) = no_more counter

  on_bearer : (bearer : BearerId) (row : UeBearer → Answer (Message Token) Pdu UeBearer) (o : Option UeBearer)
      → ComesUp (of_bearer plain_way u bearer row o)
  on_bearer bearer row None = same _
  on_bearer bearer row (Some b) = of_answer bearer (row b)

  -- all bearers are connected, in the next epoch
  connected : (w : UeNode) → w.epoch ≡ u.epoch + 1 → (outputs : List (Output (Message Token) Pdu))
      (a : Answer (Message Token) Pdu (List (BearerId × UeBearer)))
      → ComesUp (with_outputs outputs (a then (λ bearers. nothing (with_bearers plain_way w bearers))))
  connected w later outputs (gives more bearers) = gives_up _ _ (λ is. inr later)
  connected w later outputs (spent counter) = no_more counter

  -- that it is connected, in its next epoch
  comes_there : (t : Bool) → ComesUp ((if t then spent epochs_spent else says_it plain_way (arrived plain_way u)) then connect plain_way)
  comes_there true = no_more epochs_spent
  comes_there false =
      connected (arrived plain_way u) refl (said plain_way (arrived plain_way u) (arrived plain_way u).token (arrived plain_way u).home)
      (connect_each plain_way (arrived plain_way u) (arrived plain_way u).bearers)

  arrives : ComesUp (arrive plain_way u)
  unfolding arrive
  arrives = choose (not (is_accessing u.state)) _ _ (same _) (comes_there (nat_le last_epoch u.epoch))

  returns : (o : Option NodeId) → ComesUp (return_to plain_way u o)
  returns None = same _
  returns (Some home) =
      choose (not (may_return u.state)) _ _ (same _)
      (choose (nat_le last_epoch u.epoch) (spent epochs_spent) _ (no_more epochs_spent) (gives_up _ _ (λ is. inr refl)))

  accepts : (x : UeState) → u.state ≡ x → ComesUp (accepted_in plain_way u x)
  accepts states.Returning is = any (by u.state is) _
    where
      by : (x : UeState) → x ≡ states.Returning → on x ≡ true
      by states.Returning e = refl
      by states.Connected e = refl
      by states.Idle e = absurd cc
      by states.Accessing e = absurd cc
      by states.Lost e = absurd cc
  accepts states.Idle is = gives_up _ _ (λ up. inl up)
  accepts states.Connected is = gives_up _ _ (λ up. inl up)
  accepts states.Accessing is = gives_up _ _ (λ up. inl up)
  accepts states.Lost is = gives_up _ _ (λ up. inl up)

  by_token : (token : Token) → ComesUp (told plain_way token u)
  unfolding obey accept
  by_token (tokens.Command ue epoch gnb du) =
      choose (ue.0 == u.plan.ue.0) _ _
      (choose (may_obey plain_way u.state && epoch == u.epoch + 1) (nothing (record u { state = states.Accessing; goal = Some (Du gnb du) })) _
      (gives_up _ _ (λ up. absurd cc)) (same _)) (same _)
  by_token (tokens.Accepted ue epoch) =
      choose (ue.0 == u.plan.ue.0) _ _ (choose (epoch == u.epoch) (accepted_in plain_way u u.state) _ (accepts u.state refl) (same _)) (same _)
  by_token (tokens.Complete ue epoch) = same _
  by_token (tokens.Reestablish ue epoch) = same _

  by_control_message : (from : NodeId) (message : Message Token) → ComesUp (told_by plain_way from message u)
  by_control_message (Du gnb number) (rrc token) = by_token token
  by_control_message (Du gnb number) (f1 message) = same _
  by_control_message (Du gnb number) (e1 message) = same _
  by_control_message (Du gnb number) (xn message) = same _
  by_control_message (Du gnb number) (core message) = same _
  by_control_message (CuCp gnb) message = same _
  by_control_message (CuUp gnb number) message = same _
  by_control_message Core message = same _
  by_control_message (Ue ue) message = same _

  offers_one : (bearer : BearerId) (packet : List ℕ) (o : Option UeBearer) → ComesUp (offered plain_way u bearer packet o)
  offers_one bearer packet None = same _
  offers_one bearer packet (Some b) =
      let waits : Answer (Message Token) Pdu UeBearer = number_waiting plain_way u bearer (record b { waiting = b.waiting ++ packet ∷ [] }) in
      let last : Row = waits then (λ c. nothing (with_bearer plain_way u bearer c)) in
      choose (nat_lt largest_packet (length packet)) (puts (no Size) u) (if nat_le u.plan.quota (used_uplink plain_way b) then puts (no Quota) u else last)
      (same (no Size ∷ [])) (choose (nat_le u.plan.quota (used_uplink plain_way b)) (puts (no Quota) u) last (same (no Quota ∷ [])) (of_answer bearer waits))

  by_order : (order : UeOrder) → ComesUp (ordered plain_way order u)
  unfolding come_back fail
  by_order (orders.Arrive who) = arrives
  by_order (orders.Return who) = returns u.home
  by_order (orders.Fail who) = choose (is_connected u.state) (nothing (record u { state = states.Lost })) _ (gives_up _ _ (λ up. absurd cc)) (same _)
  by_order _ = same _

  pub comes_up : (input : Input Token Pdu) → ComesUp (ue_acts plain_way u input)
  unfolding ue_acts take confirm offer
  comes_up (control_input from message) = by_control_message from message
  comes_up (radio_input who bearer Dl pdu content) = on_bearer bearer (took plain_way u bearer content) (find bearer_cmp u.bearers bearer)
  comes_up (radio_input who bearer Ul pdu content) = same _
  comes_up (confirm_input who bearer Ul pdu content) = on_bearer bearer (confirmed plain_way u bearer content) (find bearer_cmp u.bearers bearer)
  comes_up (confirm_input who bearer Dl pdu content) = same _
  comes_up (offer_input who bearer packet) = offers_one bearer packet (find bearer_cmp u.bearers bearer)
  comes_up (packet_input teid item) = same _
  comes_up tick_input = same _
  comes_up (order_input order) = by_order order

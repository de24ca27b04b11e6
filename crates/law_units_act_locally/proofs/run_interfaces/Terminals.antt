-- A terminal says what it says to a DU: its home is one, and so is where it is told to go.
use Rattle.std.proofs.Common.{◌==◌, ℕ, ◌+◌, Bool, not, ◌&&◌, List, [], ◌∷◌, ◌++◌, map, length, Option, Some, None}
use Rattle.std.specs.Prelude.{if◌then◌else◌, nat_lt, nat_le}
use Rattle.gnb_types.specs.declared.names.NodeId.{NodeId}
use Rattle.gnb_types.specs.declared.names.NodeId.TheVariants.{Du as du_id, Ue}
use Rattle.gnb_types.specs.declared.names.BearerId.{BearerId}
use Rattle.gnb_types.specs.declared.names.Dir.TheVariants.{Dl, Ul}
use Rattle.gnb_types.specs.declared.inputs.Order.TheVariants as orders
use Rattle.gnb_types.specs.declared.outputs.Tag.TheVariants.{Absent}
use Rattle.gnb_types.specs.declared.reasons.DropReason.TheVariants.{Stale, Duplicate, Unexpected}
use Rattle.gnb_types.specs.declared.reasons.HeldReason.TheVariants.{Ahead}
use Rattle.gnb_types.specs.declared.reasons.RefuseReason.TheVariants.{NotAccessing, Busy, NoRadio, Size, Quota}
use Rattle.gnb_types.specs.Orders.{bearer_cmp}
use Rattle.tables.specs.Tables.{find}
use Rattle.message_types.specs.declared.rrc.Token.{Token}
use Rattle.message_types.specs.declared.rrc.Token.TheVariants as tokens
use Rattle.pdcp.specs.Near.{last_count}
use Rattle.pdcp_defs.specs.Senders.{numbered, has_room, confirmed_by}
use Rattle.pdcp_defs.specs.Receivers.{Delivery, is_duplicate, is_ahead, stored, deliver as handed_up, received_bits}
use Rattle.unit_defs.specs.declared.UeState.{UeState}
use Rattle.unit_defs.specs.declared.UeState.TheVariants as states
use Rattle.unit_defs.specs.declared.TokenKind.{TokenKind}
use Rattle.unit_defs.specs.Ways.{rrc, report_pdu, Content, packet_content, report_content, held, no, Pdu, Input, control_input, packet_input, radio_input, confirm_input, offer_input, tick_input, order_input, gives, spent, ◌then◌, nothing, puts, drops, counts_spent, epochs_spent}
use Rattle.unit_defs.specs.Ue.{UeBearer, UeNode, last_epoch, largest_packet, is_connected, is_accessing, may_return, on_air, data_output, unconfirmed_outputs, number_each, number_waiting, connect_bearer, with_bearer, with_bearers, connect_each, connect, of_bearer, at_bearer, said, says_it, may_obey, obey, arrived, arrive, returned, return_to, come_back, accepted_in, accept, fail, used_uplink, offered, offer, delivered, took_data, took, take, confirmed_if, confirmed, confirm, told, told_by, ue_acts}
use Rattle.run_defs.specs.Runs.{plain_way}
use Rattle.law_requests_act_once.specs.channel.Moves.{sent_by}
use Rattle.law_units_act_locally.specs.cu_cp_interfaces.Ledgers.{Said, Answered, SentOf, Gives}
use Rattle.law_units_act_locally.proofs.cu_cp_interfaces.Kept.{either, after}

abbrev pub IsDu : Option NodeId → Type 0
IsDu None = Unit {0}
IsDu (Some (du_id g n)) = Unit {0}
IsDu (Some node) = ⊥

abbrev pub IsHome : UeNode → Type 0
IsHome u = IsDu u.home × IsDu u.goal

module _ (number : ℕ) where
  -- whatever is kept of a bearer
  abbrev Quiet : {R : Type 0} → Answered R → Type 0
  Quiet {R = R} a = Gives (Ue number) (λ (r : R). Unit {0}) a

  abbrev Does : Answered UeNode → Type 0
  Does a = Gives (Ue number) IsHome a

  quiet_then : {R S : Type 0} (a : Answered R) (f : R → Answered S) → Quiet a → ((r : R) → Quiet (f r)) → Quiet (a then f)
  quiet_then {R = R} {S = S} a f p q = after (Ue number) (λ (r : R). Unit {0}) (λ (s : S). Unit {0}) a f p (λ r h. q r)

  quiet_if : {R : Type 0} (b : Bool) (x y : Answered R) → Quiet x → Quiet y → Quiet (if b then x else y)
  quiet_if {R = R} b x y p q = either (Ue number) (λ (r : R). Unit {0}) b x y p q

  -- ---- one bearer

  number_each_quiet : (u : UeNode) (bearer : BearerId) (ps : List (List ℕ)) (b : UeBearer) → Quiet (number_each plain_way u bearer ps b)
  unfolding number_each
  number_each_quiet u bearer [] b = (tt, tt)
  number_each_quiet u bearer (x ∷ xs) b =
      let on : UeBearer = record b { sender = numbered b.sender x; waiting = xs } in
      quiet_if (not (has_room u.plan.sn u.plan.quota b.sender)) (nothing b) _ (tt, tt)
      (quiet_then (if nat_lt last_count b.sender.next then spent counts_spent else puts (data_output plain_way u bearer b.sender.next x) on)
      (number_each plain_way u bearer xs)
      (quiet_if (nat_lt last_count b.sender.next) (spent counts_spent) (puts (data_output plain_way u bearer b.sender.next x) on) tt
      (tt, tt))
      (number_each_quiet u bearer xs))

  number_waiting_quiet : (u : UeNode) (bearer : BearerId) (b : UeBearer) → Quiet (number_waiting plain_way u bearer b)
  unfolding number_waiting
  number_waiting_quiet u bearer b =
      quiet_if (is_connected u.state) (number_each plain_way u bearer b.waiting b) (nothing b) (number_each_quiet u bearer b.waiting b)
      (tt, tt)

  again_sent : (u : UeNode) (bearer : BearerId) (es : List (ℕ × List ℕ))
      → SentOf (sent_by (Ue number) (map (λ e. data_output plain_way u bearer e.0 e.1) es))
  again_sent u bearer [] = tt
  again_sent u bearer (e ∷ es) = again_sent u bearer es

  connect_bearer_quiet : (u : UeNode) (bearer : BearerId) (b : UeBearer) → Quiet (connect_bearer plain_way u bearer b)
  unfolding connect_bearer
  connect_bearer_quiet u bearer b =
      quiet_then (gives (on_air plain_way u bearer Absent
      (plain_way.write u.plan.sn (report_pdu b.receiver.deliv (received_bits b.receiver)))
      ∷ unconfirmed_outputs plain_way u bearer b) b) (number_waiting plain_way u bearer) (tt, again_sent u bearer b.sender.unconfirmed)
      (number_waiting_quiet u bearer)

  connect_each_quiet : (u : UeNode) (es : List (BearerId × UeBearer)) → Quiet (connect_each plain_way u es)
  connect_each_quiet u [] = (tt, tt)
  connect_each_quiet u (e ∷ es) =
      quiet_then (connect_bearer plain_way u e.0 e.1) (λ b. connect_each plain_way u es then (λ bearers. nothing ((e.0, b) ∷ bearers)))
      (connect_bearer_quiet u e.0 e.1)
      (λ b. quiet_then (connect_each plain_way u es) (λ bearers. nothing ((e.0, b) ∷ bearers)) (connect_each_quiet u es)
      (λ bearers. (tt, tt)))

  -- ---- the terminal

  quiet_home : {R : Type 0} (a : Answered R) (f : R → UeNode) → Quiet a → ((r : R) → IsHome (f r)) → Does (a then (λ r. nothing (f r)))
  quiet_home {R = R} a f p h = after (Ue number) (λ (r : R). Unit {0}) IsHome a (λ r. nothing (f r)) p (λ r k. (h r, tt))

  connect_does : (u : UeNode) → IsHome u → Does (connect plain_way u)
  connect_does u h =
      quiet_home (connect_each plain_way u u.bearers) (λ bearers. with_bearers plain_way u bearers) (connect_each_quiet u u.bearers)
      (λ bearers. h)

  bearer_does : (u : UeNode) (bearer : BearerId) (row : UeBearer → Answered UeBearer) → ((b : UeBearer) → Quiet (row b)) → IsHome u
      → Does (at_bearer plain_way u bearer row)
  bearer_does u bearer row each h = by (find bearer_cmp u.bearers bearer)
    where
      by : (o : Option UeBearer) → Does (of_bearer plain_way u bearer row o)
      by None = (h, tt)
      by (Some b) = quiet_home (row b) (λ c. with_bearer plain_way u bearer c) (each b) (λ c. h)

  -- what it says goes to its home
  said_sent : (u : UeNode) (kind : Option TokenKind) (home : Option NodeId) → IsDu home
      → SentOf (sent_by (Ue number) (said plain_way u kind home))
  said_sent u None home h = tt
  said_sent u (Some kind) None h = tt
  said_sent u (Some kind) (Some (du_id g n)) h = (tt, tt)
  said_sent u (Some kind) (Some node) h = absurd h

  says_does : (u : UeNode) → IsHome u → Does (says_it plain_way u)
  says_does u h = (h, said_sent u u.token u.home h.0)

  does_if : (b : Bool) (x y : Answered UeNode) → Does x → Does y → Does (if b then x else y)
  does_if b x y p q = either (Ue number) IsHome b x y p q

  obey_does : (epoch : ℕ) (goal : NodeId) (u : UeNode) → IsDu (Some goal) → IsHome u → Does (obey plain_way epoch goal u)
  unfolding obey
  obey_does epoch goal u at h = does_if (may_obey plain_way u.state && epoch == u.epoch + 1) _ (drops Stale u) ((h.0, at), tt) (h, tt)

  arrive_does : (u : UeNode) → IsHome u → Does (arrive plain_way u)
  unfolding arrive
  arrive_does u h =
      does_if (not (is_accessing u.state)) (puts (no NotAccessing) u) _ (h, tt)
      (after (Ue number) IsHome IsHome (if nat_le last_epoch u.epoch then spent epochs_spent else says_it plain_way (arrived plain_way u))
      (connect plain_way)
      (does_if (nat_le last_epoch u.epoch) (spent epochs_spent) (says_it plain_way (arrived plain_way u)) tt
      (says_does (arrived plain_way u) (h.1, h.1)))
      (λ x q. connect_does x q))

  return_does : (u : UeNode) → IsHome u → Does (come_back plain_way u)
  unfolding come_back
  return_does u h = by u.home
    where
      by : (home : Option NodeId) → Does (return_to plain_way u home)
      by None = (h, tt)
      by (Some home) =
          does_if (not (may_return u.state)) (puts (no Busy) u) _ (h, tt)
          (does_if (nat_le last_epoch u.epoch) (spent epochs_spent) (says_it plain_way (returned plain_way u)) tt
          (says_does (returned plain_way u) h))

  accept_does : (epoch : ℕ) (u : UeNode) → IsHome u → Does (accept plain_way epoch u)
  unfolding accept
  accept_does epoch u h = does_if (epoch == u.epoch) (accepted_in plain_way u u.state) (drops Stale u) (by u.state) (h, tt)
    where
      by : (s : UeState) → Does (accepted_in plain_way u s)
      by states.Returning = connect_does (record u { token = None; state = states.Connected }) h
      by states.Idle = (h, tt)
      by states.Accessing = (h, tt)
      by states.Connected = (h, tt)
      by states.Lost = (h, tt)

  fail_does : (u : UeNode) → IsHome u → Does (fail plain_way u)
  unfolding fail
  fail_does u h = does_if (is_connected u.state) (nothing (record u { state = states.Lost })) (puts (no NoRadio) u) (h, tt) (h, tt)

  offer_does : (bearer : BearerId) (x : List ℕ) (u : UeNode) → IsHome u → Does (offer plain_way bearer x u)
  unfolding offer
  offer_does bearer x u h = by (find bearer_cmp u.bearers bearer)
    where
      by : (o : Option UeBearer) → Does (offered plain_way u bearer x o)
      by None = (h, tt)
      by (Some b) =
          does_if (nat_lt largest_packet (length x)) (puts (no Size) u) _ (h, tt)
          (does_if (nat_le u.plan.quota (used_uplink plain_way b)) (puts (no Quota) u) _ (h, tt)
          (quiet_home (number_waiting plain_way u bearer (record b { waiting = b.waiting ++ x ∷ [] }))
          (λ c. with_bearer plain_way u bearer c)
          (number_waiting_quiet u bearer (record b { waiting = b.waiting ++ x ∷ [] })) (λ c. h)))

  delivered_sent : (u : UeNode) (bearer : BearerId) (d : Delivery (List ℕ)) → SentOf (sent_by (Ue number) (delivered plain_way u bearer d))
  delivered_sent u bearer d = by d.packets
    where
      by : (es : List (ℕ × List ℕ)) → SentOf (sent_by (Ue number) (delivered plain_way u bearer (record d { packets = es })))
      by [] = tt
      by (e ∷ es) = by es

  data_quiet : (u : UeNode) (bearer : BearerId) (count : Option ℕ) (x : List ℕ) (b : UeBearer)
      → Quiet (took_data plain_way u bearer count x b)
  data_quiet u bearer None x b = (tt, tt)
  data_quiet u bearer (Some count) x b =
      quiet_if (is_duplicate b.receiver count) (drops Duplicate b) _ (tt, tt)
      (quiet_if (is_ahead u.plan.quota b.receiver count) (puts (held Ahead) b) _ (tt, tt)
      (tt, delivered_sent u bearer (handed_up (stored b.receiver count x))))

  took_quiet : (u : UeNode) (bearer : BearerId) (content : Content) (b : UeBearer) → Quiet (took plain_way u bearer content b)
  took_quiet u bearer (packet_content count x) b = data_quiet u bearer count x b
  took_quiet u bearer (report_content fmc bits) b = number_waiting_quiet u bearer (record b { sender = confirmed_by b.sender fmc bits })

  confirmed_quiet : (u : UeNode) (bearer : BearerId) (content : Content) (b : UeBearer) → Quiet (confirmed plain_way u bearer content b)
  confirmed_quiet u bearer (packet_content count x) b = number_waiting_quiet u bearer (confirmed_if plain_way count b)
  confirmed_quiet u bearer (report_content fmc bits) b = (tt, tt)

  told_does : (token : Token) (u : UeNode) → IsHome u → Does (told plain_way token u)
  told_does (tokens.Command to epoch g n) u h =
      does_if (to.0 == u.plan.ue.0) (obey plain_way epoch (du_id g n) u) (drops Unexpected u) (obey_does epoch (du_id g n) u tt h) (h, tt)
  told_does (tokens.Accepted to epoch) u h =
      does_if (to.0 == u.plan.ue.0) (accept plain_way epoch u) (drops Unexpected u) (accept_does epoch u h) (h, tt)
  told_does (tokens.Complete to epoch) u h = (h, tt)
  told_does (tokens.Reestablish to epoch) u h = (h, tt)

  control_does : (from : NodeId) (m : Said) (u : UeNode) → IsHome u → Does (told_by plain_way from m u)
  control_does (du_id g n) (rrc token) u h = told_does token u h
  control_does from m u h = (h, tt)

  pub terminal_does : (u : UeNode) (input : Input Token Pdu) → IsHome u → Does (ue_acts plain_way u input)
  unfolding ue_acts take confirm
  terminal_does u (control_input from m) h = control_does from m u h
  terminal_does u (packet_input teid item) h = (h, tt)
  terminal_does u (radio_input who bearer Dl pdu content) h =
      bearer_does u bearer (took plain_way u bearer content) (took_quiet u bearer content) h
  terminal_does u (radio_input who bearer Ul pdu content) h = (h, tt)
  terminal_does u (confirm_input who bearer Dl pdu content) h = (h, tt)
  terminal_does u (confirm_input who bearer Ul pdu content) h =
      bearer_does u bearer (confirmed plain_way u bearer content) (confirmed_quiet u bearer content) h
  terminal_does u (offer_input who bearer x) h = offer_does bearer x u h
  terminal_does u tick_input h = says_does u h
  terminal_does u (order_input (orders.Arrive who)) h = arrive_does u h
  terminal_does u (order_input (orders.Return who)) h = return_does u h
  terminal_does u (order_input (orders.Fail who)) h = fail_does u h
  terminal_does u (order_input order) h = (h, tt)

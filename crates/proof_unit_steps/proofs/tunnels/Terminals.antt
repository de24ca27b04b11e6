-- A terminal names no tunnel, and puts no item on one; and its numbers are as long as its plan says.
use Rattle.std.proofs.Common.{◌==◌, ℕ, ◌+◌, Bool, not, ◌&&◌, List, [], ◌∷◌, ◌++◌, length, Option, Some, None}
use Rattle.std.specs.Prelude.{if◌then◌else◌, nat_lt, nat_le}
use Rattle.gnb_types.specs.declared.names.NodeId.{NodeId}
use Rattle.gnb_types.specs.declared.names.NodeId.TheVariants.{Du as du_id}
use Rattle.gnb_types.specs.declared.names.BearerId.{BearerId}
use Rattle.gnb_types.specs.declared.names.Dir.TheVariants.{Dl, Ul}
use Rattle.gnb_types.specs.declared.inputs.Order.TheVariants as orders
use Rattle.gnb_types.specs.declared.outputs.Tag.TheVariants.{Absent}
use Rattle.gnb_types.specs.declared.reasons.DropReason.TheVariants.{Stale, Duplicate, Unexpected}
use Rattle.gnb_types.specs.declared.reasons.HeldReason.TheVariants.{Ahead}
use Rattle.gnb_types.specs.declared.reasons.RefuseReason.TheVariants.{NotAccessing, Busy, NoRadio, Size, Quota}
use Rattle.gnb_types.specs.Orders.{bearer_cmp}
use Rattle.tables.specs.Tables.{find}
use Rattle.message_types.specs.declared.rrc.Token.{Token}
use Rattle.message_types.specs.declared.rrc.Token.TheVariants as tokens
use Rattle.pdcp.specs.Near.{last_count}
use Rattle.pdcp_defs.specs.Senders.{numbered, has_room, confirmed_by}
use Rattle.pdcp_defs.specs.Receivers.{is_duplicate, is_ahead, stored, deliver as handed_up, received_bits}
use Rattle.unit_defs.specs.declared.UeState.{UeState}
use Rattle.unit_defs.specs.declared.UeState.TheVariants as states
use Rattle.unit_defs.specs.declared.TokenKind.{TokenKind}
use Rattle.unit_defs.specs.Transactions.{kind_of}
use Rattle.unit_defs.specs.Ways.{Message, rrc, report_pdu, Content, packet_content, report_content, Output, deliver, held, no, Input, control_input, radio_input, confirm_input, offer_input, tick_input, order_input, Way, Answer, gives, spent, ◌then◌, nothing, puts, drops, counts_spent, epochs_spent}
use Rattle.unit_defs.specs.Ue.{UeBearer, UeNode, last_epoch, largest_packet, is_connected, is_accessing, may_return, on_air, data_output, unconfirmed_outputs, number_each, number_waiting, connect_bearer, with_bearer, with_bearers, connect_each, connect, of_bearer, at_bearer, token_of, said, says_it, may_obey, obey, arrived, arrive, returned, return_to, come_back, accepted_in, accept, fail, used_uplink, offered, offer, handed, took_data, took, take, confirmed_if, confirmed, confirm, told, told_by, ue_acts}
use Rattle.proof_unit_steps.proofs.packets.Answers.{all_map}
use Rattle.proof_unit_steps.specs.tunnel_names.Names.{Property, OutputNames, OutputsName, AnswerNames}
use Rattle.proof_unit_steps.proofs.tunnel_names.Kept.{either as either_way, after as after_one}
use Rattle.proof_unit_steps.specs.tunnels.Units.{IsLong}

module _ {M C P : Type 0} {way : Way M C P} (is : Property way) (node : NodeId) where
  abbrev Fits : {R : Type 0} → Answer M P R → Type 0
  Fits {R = R} a = AnswerNames is (λ (r : R). Unit {0}) node a

  abbrev Put : List (Output M P) → Type 0
  Put os = OutputsName is node os

  abbrev Long : UeNode → Type 0
  Long u = IsLong is u

  either : {R : Type 0} (t : Bool) (x y : Answer M P R) → Fits x → Fits y → Fits (if t then x else y)
  either {R = R} t x y p q = either_way is node (λ (r : R). Unit {0}) t x y p q

  after : {R S : Type 0} (a : Answer M P R) (f : R → Answer M P S) → Fits a → ((r : R) → Fits (f r)) → Fits (a then f)
  after {R = R} {S = S} a f p q = after_one is node (λ (r : R). Unit {0}) (λ (s : S). Unit {0}) a f p (λ r h. q r)

  -- ---- one bearer

  number_each_fits : (u : UeNode) (bearer : BearerId) (ps : List (List ℕ)) (b : UeBearer) → Long u → Fits (number_each way u bearer ps b)
  unfolding number_each
  number_each_fits u bearer [] b l = (tt, tt)
  number_each_fits u bearer (x ∷ xs) b l =
      let on : UeBearer = record b { sender = numbered b.sender x; waiting = xs } in
      either (not (has_room u.plan.sn u.plan.quota b.sender)) (nothing b) _ (tt, tt)
      (after (if nat_lt last_count b.sender.next then spent counts_spent else puts (data_output way u bearer b.sender.next x) on) (number_each way u bearer xs)
      (either (nat_lt last_count b.sender.next) (spent counts_spent) (puts (data_output way u bearer b.sender.next x) on) tt (tt, ((u.plan.sn, l), tt)))
      (λ c. number_each_fits u bearer xs c l))

  number_waiting_fits : (u : UeNode) (bearer : BearerId) (b : UeBearer) → Long u → Fits (number_waiting way u bearer b)
  unfolding number_waiting
  number_waiting_fits u bearer b l =
      either (is_connected u.state) (number_each way u bearer b.waiting b) (nothing b) (number_each_fits u bearer b.waiting b l) (tt, tt)

  connect_bearer_fits : (u : UeNode) (bearer : BearerId) (b : UeBearer) → Long u → Fits (connect_bearer way u bearer b)
  unfolding connect_bearer
  connect_bearer_fits u bearer b l =
      after (gives (on_air way u bearer Absent (way.write u.plan.sn (report_pdu b.receiver.deliv (received_bits b.receiver))) ∷ unconfirmed_outputs way u bearer b) b)
      (number_waiting way u bearer)
      (tt, ((u.plan.sn, l), all_map (OutputNames is node) (λ (e : ℕ × List ℕ). data_output way u bearer e.0 e.1) (λ e. (u.plan.sn, l)) b.sender.unconfirmed))
      (λ c. number_waiting_fits u bearer c l)

  -- ---- all bearers

  connect_each_fits : (u : UeNode) (es : List (BearerId × UeBearer)) → Long u → Fits (connect_each way u es)
  connect_each_fits u [] l = (tt, tt)
  connect_each_fits u (e ∷ es) l =
      after (connect_bearer way u e.0 e.1) (λ b. connect_each way u es then (λ bearers. nothing ((e.0, b) ∷ bearers))) (connect_bearer_fits u e.0 e.1 l)
      (λ b. after (connect_each way u es) (λ bearers. nothing ((e.0, b) ∷ bearers)) (connect_each_fits u es l) (λ bearers. (tt, tt)))

  -- ---- the terminal: it keeps its plan

  abbrev Keeps : Answer M P UeNode → Type 0
  Keeps a = AnswerNames is Long node a

  keeps_either : (t : Bool) (x y : Answer M P UeNode) → Keeps x → Keeps y → Keeps (if t then x else y)
  keeps_either t x y p q = either_way is node Long t x y p q

  connect_keeps : (u : UeNode) → Long u → Keeps (connect way u)
  connect_keeps u l =
      after_one is node (λ (es : List (BearerId × UeBearer)). Unit {0}) Long (connect_each way u u.bearers) (λ bearers. nothing (with_bearers way u bearers))
      (connect_each_fits u u.bearers l) (λ bearers h. (l, tt))

  with_one : (u : UeNode) (bearer : BearerId) (a : Answer M P UeBearer) → Long u → Fits a → Keeps (a then (λ c. nothing (with_bearer way u bearer c)))
  with_one u bearer a l h = after_one is node (λ (b : UeBearer). Unit {0}) Long a (λ c. nothing (with_bearer way u bearer c)) h (λ c k. (l, tt))

  at_bearer_keeps : (u : UeNode) (bearer : BearerId) (row : UeBearer → Answer M P UeBearer) → Long u → ((b : UeBearer) → Fits (row b))
      → Keeps (at_bearer way u bearer row)
  at_bearer_keeps u bearer row l each = by (find bearer_cmp u.bearers bearer)
    where
      by : (o : Option UeBearer) → Keeps (of_bearer way u bearer row o)
      by None = (l, (tt, tt))
      by (Some b) = with_one u bearer (row b) l (each b)

  -- ---- its state

  said_put : (u : UeNode) (kind : Option TokenKind) (home : Option NodeId) → Put (said way u kind home)
  unfolding kind_of
  said_put u None home = tt
  said_put u (Some kind) None = tt
  said_put u (Some kind) (Some home) = (is.spells node (rrc (token_of way u kind)) tt, tt)

  says_keeps : (u : UeNode) → Long u → Keeps (says_it way u)
  says_keeps u l = (l, said_put u u.token u.home)

  obey_keeps : (epoch : ℕ) (goal : NodeId) (u : UeNode) → Long u → Keeps (obey way epoch goal u)
  unfolding obey
  obey_keeps epoch goal u l =
      keeps_either (may_obey way u.state && epoch == u.epoch + 1) (nothing (record u { state = states.Accessing; goal = Some goal })) (drops Stale u) (l, tt)
      (l, (tt, tt))

  arrive_keeps : (u : UeNode) → Long u → Keeps (arrive way u)
  unfolding arrive
  arrive_keeps u l =
      keeps_either (not (is_accessing u.state)) (puts (no NotAccessing) u) _ (l, (tt, tt))
      (after_one is node Long Long (if nat_le last_epoch u.epoch then spent epochs_spent else says_it way (arrived way u)) (connect way)
      (keeps_either (nat_le last_epoch u.epoch) (spent epochs_spent) (says_it way (arrived way u)) tt (says_keeps (arrived way u) l)) connect_keeps)

  come_back_keeps : (u : UeNode) → Long u → Keeps (come_back way u)
  unfolding come_back
  come_back_keeps u l = by u.home
    where
      by : (o : Option NodeId) → Keeps (return_to way u o)
      by None = (l, (tt, tt))
      by (Some home) =
          keeps_either (not (may_return u.state)) (puts (no Busy) u) _ (l, (tt, tt))
          (keeps_either (nat_le last_epoch u.epoch) (spent epochs_spent) (says_it way (returned way u)) tt (says_keeps (returned way u) l))

  accept_keeps : (epoch : ℕ) (u : UeNode) → Long u → Keeps (accept way epoch u)
  unfolding accept
  accept_keeps epoch u l = keeps_either (epoch == u.epoch) (accepted_in way u u.state) (drops Stale u) (by u.state) (l, (tt, tt))
    where
      by : (s : UeState) → Keeps (accepted_in way u s)
      by states.Returning = connect_keeps (record u { token = None; state = states.Connected }) l
      by s = (l, tt)

  fail_keeps : (u : UeNode) → Long u → Keeps (fail way u)
  unfolding fail
  fail_keeps u l = keeps_either (is_connected u.state) (nothing (record u { state = states.Lost })) (puts (no NoRadio) u) (l, tt) (l, (tt, tt))

  -- ---- packets

  offer_keeps : (bearer : BearerId) (x : List ℕ) (u : UeNode) → Long u → Keeps (offer way bearer x u)
  unfolding offer
  offer_keeps bearer x u l = by (find bearer_cmp u.bearers bearer)
    where
      by : (o : Option UeBearer) → Keeps (offered way u bearer x o)
      by None = (l, (tt, tt))
      by (Some b) =
          keeps_either (nat_lt largest_packet (length x)) (puts (no Size) u) _ (l, (tt, tt))
          (keeps_either (nat_le u.plan.quota (used_uplink way b)) (puts (no Quota) u) _ (l, (tt, tt))
          (with_one u bearer (number_waiting way u bearer (record b { waiting = b.waiting ++ x ∷ [] })) l
          (number_waiting_fits u bearer (record b { waiting = b.waiting ++ x ∷ [] }) l)))

  took_data_fits : (u : UeNode) (bearer : BearerId) (count : Option ℕ) (x : List ℕ) (b : UeBearer) → Fits (took_data way u bearer count x b)
  took_data_fits u bearer None x b = (tt, (tt, tt))
  took_data_fits u bearer (Some count) x b =
      either (is_duplicate b.receiver count) (drops Duplicate b) _ (tt, (tt, tt))
      (either (is_ahead u.plan.quota b.receiver count) (puts (held Ahead) b) (handed way u bearer b (handed_up (stored b.receiver count x))) (tt, (tt, tt))
      (tt, all_map (OutputNames is node) (λ (e : ℕ × List ℕ). deliver u.plan.ue bearer Dl e.0 e.1) (λ e. tt) (handed_up (stored b.receiver count x)).packets))

  took_fits : (u : UeNode) (bearer : BearerId) (content : Content) (b : UeBearer) → Long u → Fits (took way u bearer content b)
  took_fits u bearer (packet_content count x) b l = took_data_fits u bearer count x b
  took_fits u bearer (report_content fmc bits) b l = number_waiting_fits u bearer (record b { sender = confirmed_by b.sender fmc bits }) l

  confirmed_fits : (u : UeNode) (bearer : BearerId) (content : Content) (b : UeBearer) → Long u → Fits (confirmed way u bearer content b)
  confirmed_fits u bearer (packet_content count x) b l = number_waiting_fits u bearer (confirmed_if way count b) l
  confirmed_fits u bearer (report_content fmc bits) b l = (tt, tt)

  -- ---- tokens, and the table

  told_keeps : (token : Token) (u : UeNode) → Long u → Keeps (told way token u)
  told_keeps (tokens.Command to epoch gnb du) u l =
      keeps_either (to.0 == u.plan.ue.0) (obey way epoch (du_id gnb du) u) (drops Unexpected u) (obey_keeps epoch (du_id gnb du) u l) (l, (tt, tt))
  told_keeps (tokens.Accepted to epoch) u l =
      keeps_either (to.0 == u.plan.ue.0) (accept way epoch u) (drops Unexpected u) (accept_keeps epoch u l) (l, (tt, tt))
  told_keeps token u l = (l, (tt, tt))

  told_by_keeps : (from : NodeId) (m : Message C) (u : UeNode) → Long u → Keeps (told_by way from m u)
  told_by_keeps (du_id gnb number) (rrc token) u l = told_keeps token u l
  told_by_keeps from m u l = (l, (tt, tt))

  pub terminal_keeps : (u : UeNode) (input : Input C P) → Long u → Keeps (ue_acts way u input)
  unfolding ue_acts take confirm
  terminal_keeps u (control_input from m) l = told_by_keeps from m u l
  terminal_keeps u (radio_input who bearer Dl pdu content) l = at_bearer_keeps u bearer (took way u bearer content) l (λ b. took_fits u bearer content b l)
  terminal_keeps u (confirm_input who bearer Ul pdu content) l =
      at_bearer_keeps u bearer (confirmed way u bearer content) l (λ b. confirmed_fits u bearer content b l)
  terminal_keeps u (offer_input who bearer x) l = offer_keeps bearer x u l
  terminal_keeps u tick_input l = says_keeps u l
  terminal_keeps u (order_input (orders.Arrive who)) l = arrive_keeps u l
  terminal_keeps u (order_input (orders.Return who)) l = come_back_keeps u l
  terminal_keeps u (order_input (orders.Fail who)) l = fail_keeps u l
  terminal_keeps u input l = (l, (tt, tt))

-- A terminal puts no control message but tokens: on channels, messages that are neither request nor reply.
use Rattle.std.proofs.Common.{◌≡◌, ◌==◌, ℕ, ◌+◌, Bool, not, ◌&&◌, List, [], ◌∷◌, ◌++◌, length, map, true, false, Option, Some, None, refl}
use Rattle.std.specs.Prelude.{if◌then◌else◌, nat_lt, nat_le}
use Rattle.std.specs.List.{AllByRecursion}
use Rattle.gnb_types.specs.declared.names.NodeId.{NodeId}
use Rattle.gnb_types.specs.declared.names.NodeId.TheVariants.{Du as du_id}
use Rattle.gnb_types.specs.declared.names.BearerId.{BearerId}
use Rattle.gnb_types.specs.declared.names.Dir.TheVariants.{Dl, Ul}
use Rattle.gnb_types.specs.declared.inputs.Order.TheVariants as orders
use Rattle.gnb_types.specs.declared.outputs.Tag.TheVariants.{Absent}
use Rattle.gnb_types.specs.declared.reasons.DropReason.TheVariants.{Stale, Duplicate, Unexpected}
use Rattle.gnb_types.specs.declared.reasons.HeldReason.TheVariants.{Ahead}
use Rattle.gnb_types.specs.declared.reasons.RefuseReason.TheVariants.{NotAccessing, Busy, NoRadio, Size, Quota}
use Rattle.gnb_types.specs.Orders.{bearer_cmp}
use Rattle.tables.specs.Tables.{find}
use Rattle.message_types.specs.declared.rrc.Token.{Token}
use Rattle.message_types.specs.declared.rrc.Token.TheVariants as tokens
use Rattle.pdcp.specs.Near.{last_count}
use Rattle.pdcp_defs.specs.Senders.{numbered, has_room, confirmed_by}
use Rattle.pdcp_defs.specs.Receivers.{is_duplicate, is_ahead, stored, deliver as handed_up, received_bits}
use Rattle.unit_defs.specs.declared.UeState.{UeState}
use Rattle.unit_defs.specs.declared.UeState.TheVariants as states
use Rattle.unit_defs.specs.declared.TokenKind.{TokenKind}
use Rattle.unit_defs.specs.Ways.{Message, rrc, Pdu, report_pdu, Content, packet_content, report_content, Output, control, deliver, Input, control_input, packet_input, radio_input, confirm_input, offer_input, tick_input, order_input, held, no, Answer, gives, spent, with_outputs, ◌then◌, nothing, puts, drops, counts_spent, epochs_spent}
use Rattle.unit_defs.specs.Ue.{UeBearer, UeNode, last_epoch, largest_packet, is_connected, is_accessing, may_return, on_air, data_output, unconfirmed_outputs, number_each, number_waiting, connect_bearer, with_bearer, with_bearers, connect_each, connect, of_bearer, at_bearer, token_of, said, says_it, may_obey, obey, arrived, arrive, returned, return_to, come_back, accepted_in, accept, fail, used_uplink, offered, offer, handed, took_data, took, take, confirmed_if, confirmed, confirm, told, told_by, ue_acts}
use Rattle.run_defs.specs.Runs.{plain_way}

-- a control message is a token
abbrev IsTokenPut : Output (Message Token) Pdu → Type 0
IsTokenPut (control to ue message) = (token : Token) × (message ≡ rrc token)
IsTokenPut output = Unit {0}

abbrev pub TokensAlone : List (Output (Message Token) Pdu) → Type 0
TokensAlone os = AllByRecursion IsTokenPut os

abbrev pub Fits : {R : Type 0} → Answer (Message Token) Pdu R → Type 0
Fits (gives os r) = Unit {0} × TokensAlone os
Fits (spent k) = Unit {0}

abbrev Put : List (Output (Message Token) Pdu) → Type 0
Put os = TokensAlone os

both_alone : (a b : List (Output (Message Token) Pdu)) → TokensAlone a → TokensAlone b → TokensAlone (a ++ b)
both_alone [] b first second = second
both_alone (o ∷ os) b first second = (first.0, both_alone os b first.1 second)

either : {R : Type 0} (t : Bool) (x y : Answer (Message Token) Pdu R) → Fits x → Fits y → Fits (if t then x else y)
either true x y p q = p
either false x y p q = q

after : {R S : Type 0} (a : Answer (Message Token) Pdu R) (f : R → Answer (Message Token) Pdu S) → Fits a → ((r : R) → Fits (f r)) → Fits (a then f)
after {S = S} (gives os r) f p q = by (f r) (q r)
  where
    by : (b : Answer (Message Token) Pdu S) → Fits b → Fits (with_outputs os b)
    by (gives more s) next = (tt, both_alone os more p.1 next.1)
    by (spent k) next = tt
after (spent k) f p q = tt

-- ---- one bearer

-- a PDU with its own COUNT, and a report without one
data_fits : (u : UeNode) (bearer : BearerId) (count : ℕ) (x : List ℕ) → IsTokenPut (data_output plain_way u bearer count x)
data_fits u bearer count x = tt

report_fits : (u : UeNode) (bearer : BearerId) (fmc : ℕ) (bits : List Bool) → IsTokenPut (on_air plain_way u bearer Absent (plain_way.write u.plan.sn (report_pdu fmc bits)))
report_fits u bearer fmc bits = tt

number_each_fits : (u : UeNode) (bearer : BearerId) (ps : List (List ℕ)) (b : UeBearer) → Fits (number_each plain_way u bearer ps b)
unfolding number_each
number_each_fits u bearer [] b = (tt, tt)
number_each_fits u bearer (x ∷ ps) b =
    let on : UeBearer = record b { sender = numbered b.sender x; waiting = ps } in
    either (not (has_room u.plan.sn u.plan.quota b.sender)) (nothing b) _ (tt, tt)
    (after (if nat_lt last_count b.sender.next then spent counts_spent else puts (data_output plain_way u bearer b.sender.next x) on) (number_each plain_way u bearer ps)
    (either (nat_lt last_count b.sender.next) (spent counts_spent) (puts (data_output plain_way u bearer b.sender.next x) on) tt (tt, (data_fits u bearer b.sender.next x, tt)))
    (number_each_fits u bearer ps))

number_waiting_fits : (u : UeNode) (bearer : BearerId) (b : UeBearer) → Fits (number_waiting plain_way u bearer b)
unfolding number_waiting
number_waiting_fits u bearer b = either (is_connected u.state) (number_each plain_way u bearer b.waiting b) (nothing b) (number_each_fits u bearer b.waiting b) (tt, tt)

again_fit : (u : UeNode) (bearer : BearerId) (es : List (ℕ × List ℕ)) → Put (map (λ e. data_output plain_way u bearer e.0 e.1) es)
again_fit u bearer [] = tt
again_fit u bearer (e ∷ es) = (data_fits u bearer e.0 e.1, again_fit u bearer es)

connect_bearer_fits : (u : UeNode) (bearer : BearerId) (b : UeBearer) → Fits (connect_bearer plain_way u bearer b)
unfolding connect_bearer
connect_bearer_fits u bearer b =
    after (gives (on_air plain_way u bearer Absent (report_pdu b.receiver.deliv (received_bits b.receiver)) ∷ unconfirmed_outputs plain_way u bearer b) b)
    (number_waiting plain_way u bearer) (tt, (report_fits u bearer b.receiver.deliv (received_bits b.receiver), again_fit u bearer b.sender.unconfirmed)) (number_waiting_fits u bearer)

connect_each_fits : (u : UeNode) (es : List (BearerId × UeBearer)) → Fits (connect_each plain_way u es)
connect_each_fits u [] = (tt, tt)
connect_each_fits u (e ∷ es) =
    after (connect_bearer plain_way u e.0 e.1) (λ b. connect_each plain_way u es then (λ bearers. nothing ((e.0, b) ∷ bearers))) (connect_bearer_fits u e.0 e.1)
    (λ b. after (connect_each plain_way u es) (λ bearers. nothing ((e.0, b) ∷ bearers)) (connect_each_fits u es) (λ bearers. (tt, tt)))

connect_fits : (u : UeNode) → Fits (connect plain_way u)
connect_fits u =
    after (connect_each plain_way u u.bearers) (λ bearers. nothing (with_bearers plain_way u bearers)) (connect_each_fits u u.bearers) (λ bearers. (tt, tt))

bearer_fits : (u : UeNode) (bearer : BearerId) (row : UeBearer → Answer (Message Token) Pdu UeBearer) → ((b : UeBearer) → Fits (row b))
    → Fits (at_bearer plain_way u bearer row)
bearer_fits u bearer row each = by (find bearer_cmp u.bearers bearer)
  where
    by : (b : Option UeBearer) → Fits (of_bearer plain_way u bearer row b)
    by None = (tt, (tt, tt))
    by (Some b) = after (row b) (λ c. nothing (with_bearer plain_way u bearer c)) (each b) (λ c. (tt, tt))

-- ---- tokens, arrival, return, acceptance

said_fit : (u : UeNode) (kind : Option TokenKind) (home : Option NodeId) → Put (said plain_way u kind home)
said_fit u None home = tt
said_fit u (Some kind) None = tt
said_fit u (Some kind) (Some home) = ((token_of plain_way u kind, refl), tt)

says_fits : (u : UeNode) → Fits (says_it plain_way u)
says_fits u = (tt, said_fit u u.token u.home)

obey_fits : (epoch : ℕ) (goal : NodeId) (u : UeNode) → Fits (obey plain_way epoch goal u)
unfolding obey
obey_fits epoch goal u =
    either (may_obey plain_way u.state && epoch == u.epoch + 1) (nothing (record u { state = states.Accessing; goal = Some goal })) (drops Stale u) (tt, tt) (tt, (tt, tt))

arrive_fits : (u : UeNode) → Fits (arrive plain_way u)
unfolding arrive
arrive_fits u =
    either (not (is_accessing u.state)) (puts (no NotAccessing) u) _ (tt, (tt, tt))
    (after (if nat_le last_epoch u.epoch then spent epochs_spent else says_it plain_way (arrived plain_way u)) (connect plain_way)
    (either (nat_le last_epoch u.epoch) (spent epochs_spent) (says_it plain_way (arrived plain_way u)) tt (says_fits (arrived plain_way u))) connect_fits)

return_fits : (u : UeNode) → Fits (come_back plain_way u)
unfolding come_back
return_fits u = by u.home
  where
    by : (home : Option NodeId) → Fits (return_to plain_way u home)
    by None = (tt, (tt, tt))
    by (Some home) =
        either (not (may_return u.state)) (puts (no Busy) u) _ (tt, (tt, tt))
        (either (nat_le last_epoch u.epoch) (spent epochs_spent) (says_it plain_way (returned plain_way u)) tt (says_fits (returned plain_way u)))

accept_fits : (epoch : ℕ) (u : UeNode) → Fits (accept plain_way epoch u)
unfolding accept
accept_fits epoch u = either (epoch == u.epoch) (accepted_in plain_way u u.state) (drops Stale u) (by u.state) (tt, (tt, tt))
  where
    by : (s : UeState) → Fits (accepted_in plain_way u s)
    by states.Returning = connect_fits (record u { token = None; state = states.Connected })
    by states.Idle = (tt, tt)
    by states.Accessing = (tt, tt)
    by states.Connected = (tt, tt)
    by states.Lost = (tt, tt)

fail_fits : (u : UeNode) → Fits (fail plain_way u)
unfolding fail
fail_fits u = either (is_connected u.state) (nothing (record u { state = states.Lost })) (puts (no NoRadio) u) (tt, tt) (tt, (tt, tt))

-- ---- packets

offer_fits : (bearer : BearerId) (x : List ℕ) (u : UeNode) → Fits (offer plain_way bearer x u)
unfolding offer
offer_fits bearer x u = by (find bearer_cmp u.bearers bearer)
  where
    by : (b : Option UeBearer) → Fits (offered plain_way u bearer x b)
    by None = (tt, (tt, tt))
    by (Some b) =
        either (nat_lt largest_packet (length x)) (puts (no Size) u) _ (tt, (tt, tt))
        (either (nat_le u.plan.quota (used_uplink plain_way b)) (puts (no Quota) u) _ (tt, (tt, tt))
        (after (number_waiting plain_way u bearer (record b { waiting = b.waiting ++ x ∷ [] })) (λ c. nothing (with_bearer plain_way u bearer c))
        (number_waiting_fits u bearer (record b { waiting = b.waiting ++ x ∷ [] })) (λ c. (tt, tt))))

delivered_fit : (u : UeNode) (bearer : BearerId) (es : List (ℕ × List ℕ)) → Put (map (λ e. deliver u.plan.ue bearer Dl e.0 e.1) es)
delivered_fit u bearer [] = tt
delivered_fit u bearer (e ∷ es) = (tt, delivered_fit u bearer es)

took_data_fits : (u : UeNode) (bearer : BearerId) (count : Option ℕ) (x : List ℕ) (b : UeBearer) → Fits (took_data plain_way u bearer count x b)
took_data_fits u bearer None x b = (tt, (tt, tt))
took_data_fits u bearer (Some count) x b =
    either (is_duplicate b.receiver count) (drops Duplicate b) _ (tt, (tt, tt))
    (either (is_ahead u.plan.quota b.receiver count) (puts (held Ahead) b) (handed plain_way u bearer b (handed_up (stored b.receiver count x))) (tt, (tt, tt))
    (tt, delivered_fit u bearer (handed_up (stored b.receiver count x)).packets))

took_fits : (u : UeNode) (bearer : BearerId) (content : Content) (b : UeBearer) → Fits (took plain_way u bearer content b)
took_fits u bearer (packet_content count x) b = took_data_fits u bearer count x b
took_fits u bearer (report_content fmc bits) b = number_waiting_fits u bearer (record b { sender = confirmed_by b.sender fmc bits })

confirmed_fits : (u : UeNode) (bearer : BearerId) (content : Content) (b : UeBearer) → Fits (confirmed plain_way u bearer content b)
confirmed_fits u bearer (packet_content count x) b = number_waiting_fits u bearer (confirmed_if plain_way count b)
confirmed_fits u bearer (report_content fmc bits) b = (tt, tt)

-- ---- the table

told_fits : (token : Token) (u : UeNode) → Fits (told plain_way token u)
told_fits (tokens.Command to epoch gnb du) u =
    either (to.0 == u.plan.ue.0) (obey plain_way epoch (du_id gnb du) u) (drops Unexpected u) (obey_fits epoch (du_id gnb du) u) (tt, (tt, tt))
told_fits (tokens.Accepted to epoch) u =
    either (to.0 == u.plan.ue.0) (accept plain_way epoch u) (drops Unexpected u) (accept_fits epoch u) (tt, (tt, tt))
told_fits (tokens.Complete to epoch) u = (tt, (tt, tt))
told_fits (tokens.Reestablish to epoch) u = (tt, (tt, tt))

control_fits : (from : NodeId) (message : Message Token) (u : UeNode) → Fits (told_by plain_way from message u)
control_fits (du_id gnb number) (rrc token) u = told_fits token u
control_fits from message u = (tt, (tt, tt))

pub terminal_fits : (u : UeNode) (input : Input Token Pdu) → Fits (ue_acts plain_way u input)
unfolding ue_acts take confirm
terminal_fits u (control_input from message) = control_fits from message u
terminal_fits u (packet_input teid item) = (tt, (tt, tt))
terminal_fits u (radio_input who bearer Dl pdu content) = bearer_fits u bearer (took plain_way u bearer content) (took_fits u bearer content)
terminal_fits u (radio_input who bearer Ul pdu content) = (tt, (tt, tt))
terminal_fits u (confirm_input who bearer Dl pdu content) = (tt, (tt, tt))
terminal_fits u (confirm_input who bearer Ul pdu content) = bearer_fits u bearer (confirmed plain_way u bearer content) (confirmed_fits u bearer content)
terminal_fits u (offer_input who bearer x) = offer_fits bearer x u
terminal_fits u tick_input = says_fits u
terminal_fits u (order_input (orders.Arrive who)) = arrive_fits u
terminal_fits u (order_input (orders.Return who)) = return_fits u
terminal_fits u (order_input (orders.Fail who)) = fail_fits u
terminal_fits u (order_input order) = (tt, (tt, tt))

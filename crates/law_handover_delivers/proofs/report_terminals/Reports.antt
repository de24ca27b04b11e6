-- What a terminal puts on its radio: packets, and where it connects status reports that say what it received.
use Rattle.std.proofs.Common.{◌≡◌, ℕ, ◌+◌, ◌≤◌, Bool, true, false, not, ◌&&◌, ◌==◌, nat_lt, nat_le, length, List, [], ◌∷◌, ◌++◌, map, Option, Some, None}
use Rattle.std.specs.Prelude.{if◌then◌else◌}
use Rattle.std.specs.List.{AllByRecursion}
use Rattle.std.specs.Ordering.{eq_by_cmp}
use Rattle.gnb_types.specs.declared.names.NodeId.{NodeId}
use Rattle.gnb_types.specs.declared.names.NodeId.TheVariants.{CuCp, CuUp, Du, Core, Ue}
use Rattle.gnb_types.specs.declared.names.BearerId.{BearerId}
use Rattle.gnb_types.specs.declared.names.Dir.TheVariants.{Dl, Ul}
use Rattle.gnb_types.specs.declared.outputs.Tag.TheVariants.{Absent}
use Rattle.gnb_types.specs.declared.reasons.DropReason.TheVariants.{Duplicate, Stale, Unexpected}
use Rattle.gnb_types.specs.declared.reasons.HeldReason.TheVariants.{Ahead}
use Rattle.gnb_types.specs.declared.reasons.RefuseReason.TheVariants.{NotAccessing, Busy, NoRadio, Size, Quota}
use Rattle.gnb_types.specs.declared.inputs.Order.{Order as UeOrder}
use Rattle.gnb_types.specs.declared.inputs.Order.TheVariants as orders
use Rattle.gnb_types.specs.Orders.{bearer_cmp}
use Rattle.tables.specs.Tables.{find}
use Rattle.message_types.specs.declared.rrc.Token.{Token}
use Rattle.message_types.specs.declared.rrc.Token.TheVariants as tokens
use Rattle.intervals.proofs.Intervals.{all_append}
use Rattle.pdcp.specs.Near.{last_count}
use Rattle.pdcp_defs.specs.Senders.{has_room, numbered, confirmed_by}
use Rattle.pdcp_defs.specs.Receivers.{Delivery, is_duplicate, is_ahead, stored, received_bits, deliver as handed_up}
use Rattle.unit_defs.specs.declared.UeState.{UeState}
use Rattle.unit_defs.specs.declared.UeState.TheVariants as states
use Rattle.unit_defs.specs.declared.TokenKind.{TokenKind}
use Rattle.unit_defs.specs.Ways.{Message, f1, e1, xn, core, rrc, Pdu, report_pdu, Content, packet_content, report_content, Input, control_input, packet_input, radio_input, confirm_input, offer_input, tick_input, order_input, Output, packet, radio, held, no, counts_spent, epochs_spent, with_outputs, Answer, gives, spent, nothing, puts, drops, ◌then◌}
use Rattle.unit_defs.specs.Ue.{UeBearer, UeNode, largest_packet, last_epoch, is_connected, is_accessing, may_return, on_air, data_output, unconfirmed_outputs, number_each, number_waiting, connect_bearer, connect_each, connect, with_bearer, with_bearers, of_bearer, at_bearer, said, says_it, may_obey, obey, arrived, arrive, returned, return_to, come_back, accepted_in, accept, fail, used_uplink, offered, offer, delivered, handed, took, take, confirmed_if, confirmed, confirm, told, told_by, ordered, ue_acts}
use Rattle.run_defs.specs.Runs.{plain_way}
use Rattle.law_handover_delivers.specs.report_links.Reports.{PduIsTrue}

module _ (bearer : BearerId) (deliv : ℕ) where
  -- nothing is put on a tunnel
  abbrev pub Invariant : Output (Message Token) Pdu → Type 0
  Invariant (radio who q dir epoch tag pdu) = eq_by_cmp bearer_cmp bearer q ≡ true → PduIsTrue deliv pdu
  Invariant (packet to teid who q dir tag load) = ⊥
  Invariant output = Unit {0}

  abbrev pub AllInvariant : List (Output (Message Token) Pdu) → Type 0
  AllInvariant outputs = AllByRecursion Invariant outputs

  abbrev pub All : {R : Type 0} → Answer (Message Token) Pdu R → Type 0
  All (gives outputs after) = AllInvariant outputs
  All (spent counter) = Unit {0}

  with_all : {R : Type 0} (outputs : List (Output (Message Token) Pdu)) (a : Answer (Message Token) Pdu R) → AllInvariant outputs → All a
      → All (with_outputs outputs a)
  with_all outputs (gives more after) p q = all_append Invariant outputs more p q
  with_all outputs (spent counter) p q = tt

  then_all : {R S : Type 0} (a : Answer (Message Token) Pdu R) (f : R → Answer (Message Token) Pdu S) → All a → ((r : R) → All (f r)) → All (a then f)
  then_all (gives outputs after) f p q = with_all outputs (f after) p (q after)
  then_all (spent counter) f p q = tt

  -- the entry of this bearer has received all below `deliv` at most, and holds nothing
  abbrev pub EntryInvariant : BearerId × UeBearer → Type 0
  EntryInvariant e = eq_by_cmp bearer_cmp bearer e.0 ≡ true → (e.1.receiver.deliv ≤ deliv) × (received_bits e.1.receiver ≡ [])

  module _ (u : UeNode) where
    -- ---- one bearer

    each : (q : BearerId) (packets : List (List ℕ)) (b : UeBearer) → All (number_each plain_way u q packets b)
    unfolding number_each
    each q [] b = tt
    each q (sdu ∷ sdus) b = by (has_room u.plan.sn u.plan.quota b.sender) (nat_lt last_count b.sender.next) (λ c. each q sdus c)
      where
        by : (t o : Bool) → ((c : UeBearer) → All (number_each plain_way u q sdus c)) → All (if not t then nothing b else
            (if o then spent counts_spent else
            puts (data_output plain_way u q b.sender.next sdu) (record b { sender = numbered b.sender sdu; waiting = sdus })
            then number_each plain_way u q sdus))
        by false o more = tt
        by true true more = tt
        by true false more =
            then_all (puts (data_output plain_way u q b.sender.next sdu) (record b { sender = numbered b.sender sdu; waiting = sdus }))
            (number_each plain_way u q sdus) ((λ own. tt), tt) more

    waits : (q : BearerId) (b : UeBearer) → All (number_waiting plain_way u q b)
    unfolding number_waiting
    waits q b = by (is_connected u.state)
      where
        by : (t : Bool) → All (if t then number_each plain_way u q b.waiting b else nothing b)
        by true = each q b.waiting b
        by false = tt

    again : (q : BearerId) (es : List (ℕ × List ℕ)) → AllInvariant (map (λ e. data_output plain_way u q e.0 e.1) es)
    again q [] = tt
    again q (e ∷ es) = ((λ own. tt), again q es)

    connects : (e : BearerId × UeBearer) → EntryInvariant e → All (connect_bearer plain_way u e.0 e.1)
    unfolding connect_bearer
    connects e fine =
        then_all
        (gives (on_air plain_way u e.0 Absent (plain_way.write u.plan.sn (report_pdu e.1.receiver.deliv (received_bits e.1.receiver))) ∷ unconfirmed_outputs plain_way u e.0 e.1) e.1)
        (number_waiting plain_way u e.0) (fine, again e.0 e.1.sender.unconfirmed) (λ c. waits e.0 c)

    all_connect : (es : List (BearerId × UeBearer)) → AllByRecursion EntryInvariant es → All (connect_each plain_way u es)
    all_connect [] fine = tt
    all_connect (e ∷ es) fine =
        then_all (connect_bearer plain_way u e.0 e.1) (λ b. connect_each plain_way u es then (λ bearers. nothing ((e.0, b) ∷ bearers))) (connects e fine.0)
        (λ b. then_all (connect_each plain_way u es) (λ bearers. nothing ((e.0, b) ∷ bearers)) (all_connect es fine.1) (λ bearers. tt))

    delivers : (q : BearerId) (d : Delivery (List ℕ)) (es : List (ℕ × List ℕ)) → AllInvariant (delivered plain_way u q (record d { packets = es }))
    delivers q d [] = tt
    delivers q d (e ∷ es) = (tt, delivers q d es)

    takes : (q : BearerId) (content : Content) (b : UeBearer) → All (took plain_way u q content b)
    takes q (packet_content None sdu) b = (tt, tt)
    takes q (packet_content (Some count) sdu) b = by (is_duplicate b.receiver count) (is_ahead u.plan.quota b.receiver count)
      where
        by : (old ahead : Bool) → All (if old then drops Duplicate b else
            (if ahead then puts (held Ahead) b else handed plain_way u q b (handed_up (stored b.receiver count sdu))))
        by true ahead = (tt, tt)
        by false true = (tt, tt)
        by false false = let d : Delivery (List ℕ) = handed_up (stored b.receiver count sdu) in delivers q d d.packets
    takes q (report_content fmc bits) b = waits q (record b { sender = confirmed_by b.sender fmc bits })

    confirms : (q : BearerId) (content : Content) (b : UeBearer) → All (confirmed plain_way u q content b)
    confirms q (packet_content count sdu) b = waits q (confirmed_if plain_way count b)
    confirms q (report_content fmc bits) b = tt

    -- ---- the terminal

    at_fine : (q : BearerId) (row : UeBearer → Answer (Message Token) Pdu UeBearer) → ((b : UeBearer) → All (row b)) → All (at_bearer plain_way u q row)
    at_fine q row all = by (find bearer_cmp u.bearers q)
      where
        by : (o : Option UeBearer) → All (of_bearer plain_way u q row o)
        by None = (tt, tt)
        by (Some b) = then_all (row b) (λ c. nothing (with_bearer plain_way u q c)) (all b) (λ c. tt)

    take_fine : (q : BearerId) (content : Content) → All (take plain_way q content u)
    unfolding take
    take_fine q content = at_fine q (took plain_way u q content) (λ b. takes q content b)

    confirm_fine : (q : BearerId) (content : Content) → All (confirm plain_way q content u)
    unfolding confirm
    confirm_fine q content = at_fine q (confirmed plain_way u q content) (λ b. confirms q content b)

    offer_fine : (q : BearerId) (sdu : List ℕ) → All (offer plain_way q sdu u)
    unfolding offer
    offer_fine q sdu = by (find bearer_cmp u.bearers q)
      where
        by_room : (b : UeBearer) (large full : Bool) → All (if large then puts (no Size) u else
            (if full then puts (no Quota) u else
            (number_waiting plain_way u q (record b { waiting = b.waiting ++ sdu ∷ [] }) then (λ c. nothing (with_bearer plain_way u q c)))))
        by_room b true full = (tt, tt)
        by_room b false true = (tt, tt)
        by_room b false false =
            then_all (number_waiting plain_way u q (record b { waiting = b.waiting ++ sdu ∷ [] })) (λ c. nothing (with_bearer plain_way u q c))
            (waits q (record b { waiting = b.waiting ++ sdu ∷ [] })) (λ c. tt)

        by : (o : Option UeBearer) → All (offered plain_way u q sdu o)
        by None = (tt, tt)
        by (Some b) = by_room b (nat_lt largest_packet (length sdu)) (nat_le u.plan.quota (used_uplink plain_way b))

    connect_fine : AllByRecursion EntryInvariant u.bearers → All (connect plain_way u)
    connect_fine fine =
        then_all (connect_each plain_way u u.bearers) (λ bearers. nothing (with_bearers plain_way u bearers)) (all_connect u.bearers fine) (λ bearers. tt)

    said_fine : (token : Option TokenKind) (home : Option NodeId) → AllInvariant (said plain_way u token home)
    said_fine (Some kind) (Some home) = (tt, tt)
    said_fine (Some kind) None = tt
    said_fine None home = tt

    -- ---- tokens

    obeys : (epoch : ℕ) (goal : NodeId) → All (obey plain_way epoch goal u)
    unfolding obey
    obeys epoch goal = by (may_obey plain_way u.state && epoch == u.epoch + 1)
      where
        by : (t : Bool) → All (if t then nothing (record u { state = states.Accessing; goal = Some goal }) else drops Stale u)
        by true = tt
        by false = (tt, tt)

  accepts_in : (u : UeNode) → AllByRecursion EntryInvariant u.bearers → (x : UeState) → All (accepted_in plain_way u x)
  accepts_in u fine states.Returning = connect_fine (record u { token = None; state = states.Connected }) fine
  accepts_in u fine states.Idle = tt
  accepts_in u fine states.Connected = tt
  accepts_in u fine states.Accessing = tt
  accepts_in u fine states.Lost = tt

  if_fine : {R : Type 0} (t : Bool) (x y : Answer (Message Token) Pdu R) → All x → All y → All (if t then x else y)
  if_fine true x y p q = p
  if_fine false x y p q = q

  module _ (u : UeNode) (fine : AllByRecursion EntryInvariant u.bearers) where
    accepts : (epoch : ℕ) → All (accept plain_way epoch u)
    unfolding accept
    accepts epoch = if_fine (epoch == u.epoch) (accepted_in plain_way u u.state) (drops Stale u) (accepts_in u fine u.state) (tt, tt)

    told_fine : (token : Token) → All (told plain_way token u)
    told_fine (tokens.Command ue epoch gnb du) =
        if_fine (ue.0 == u.plan.ue.0) (obey plain_way epoch (Du gnb du) u) (drops Unexpected u) (obeys u epoch (Du gnb du)) (tt, tt)
    told_fine (tokens.Accepted ue epoch) = if_fine (ue.0 == u.plan.ue.0) (accept plain_way epoch u) (drops Unexpected u) (accepts epoch) (tt, tt)
    told_fine (tokens.Complete ue epoch) = (tt, tt)
    told_fine (tokens.Reestablish ue epoch) = (tt, tt)

    control_message_fine : (from : NodeId) (message : Message Token) → All (told_by plain_way from message u)
    control_message_fine (Du gnb number) (rrc token) = told_fine token
    control_message_fine (Du gnb number) (f1 message) = (tt, tt)
    control_message_fine (Du gnb number) (e1 message) = (tt, tt)
    control_message_fine (Du gnb number) (xn message) = (tt, tt)
    control_message_fine (Du gnb number) (core message) = (tt, tt)
    control_message_fine (CuCp gnb) message = (tt, tt)
    control_message_fine (CuUp gnb number) message = (tt, tt)
    control_message_fine Core message = (tt, tt)
    control_message_fine (Ue ue) message = (tt, tt)

    -- ---- orders of the script

    arrives : All (arrive plain_way u)
    unfolding arrive
    arrives = by (is_accessing u.state) (nat_le last_epoch u.epoch)
      where
        v : UeNode
        v = arrived plain_way u

        by : (t e : Bool) → All (if not t then puts (no NotAccessing) u
            else ((if e then spent epochs_spent else says_it plain_way v) then connect plain_way))
        by false e = (tt, tt)
        by true true = tt
        by true false = with_all (said plain_way v v.token v.home) (connect plain_way v) (said_fine v v.token v.home) (connect_fine v fine)

    returns : All (come_back plain_way u)
    unfolding come_back
    returns = by_home u.home
      where
        v : UeNode
        v = returned plain_way u

        by : (t e : Bool) → All (if not t then puts (no Busy) u else (if e then spent epochs_spent else says_it plain_way v))
        by false e = (tt, tt)
        by true true = tt
        by true false = said_fine v v.token v.home

        by_home : (h : Option NodeId) → All (return_to plain_way u h)
        by_home None = (tt, tt)
        by_home (Some home) = by (may_return u.state) (nat_le last_epoch u.epoch)

    fails_so : All (fail plain_way u)
    unfolding fail
    fails_so = if_fine (is_connected u.state) (nothing (record u { state = states.Lost })) (puts (no NoRadio) u) tt (tt, tt)

    order_fine : (order : UeOrder) → All (ordered plain_way order u)
    order_fine (orders.Arrive ue) = arrives
    order_fine (orders.Return ue) = returns
    order_fine (orders.Fail ue) = fails_so
    order_fine orders.Start = (tt, tt)
    order_fine (orders.Attach plan) = (tt, tt)
    order_fine (orders.Handover plan) = (tt, tt)
    order_fine (orders.Cancel ue) = (tt, tt)
    order_fine (orders.Release ue) = (tt, tt)
    order_fine (orders.Poll ue other) = (tt, tt)

    pub acts_fine : (input : Input Token Pdu) → All (ue_acts plain_way u input)
    unfolding ue_acts
    acts_fine (control_input from message) = control_message_fine from message
    acts_fine (radio_input ue other Dl pdu content) = take_fine u other content
    acts_fine (radio_input ue other Ul pdu content) = (tt, tt)
    acts_fine (confirm_input ue other Ul pdu content) = confirm_fine u other content
    acts_fine (confirm_input ue other Dl pdu content) = (tt, tt)
    acts_fine (offer_input ue other sdu) = offer_fine u other sdu
    acts_fine tick_input = said_fine u u.token u.home
    acts_fine (order_input order) = order_fine order
    acts_fine (packet_input teid item) = (tt, tt)

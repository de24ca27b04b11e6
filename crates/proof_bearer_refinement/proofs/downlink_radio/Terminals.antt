-- A terminal's own step: what it takes stands first on its radio down, and what waits there then is as before.
use Rattle.std.proofs.Common.{◌≡◌, ℕ, ◌+◌, ◌-◌, ◌<◌, ◌≤◌, max, ◌==◌, Bool, true, false, ◌&&◌, not, nat_lt, nat_le, length, List, [], ◌∷◌, ◌++◌, map, Option, Some, None, refl, sym, ap, subst, ◌∙◌, arith}
use Rattle.std.specs.Prelude.{if◌then◌else◌}
use Rattle.std.proofs.lemmas.List.{append-nil}
use Rattle.std.specs.List.{AllByRecursion}
use Rattle.std.specs.Ordering.{eq_by_cmp, is_eq}
use Rattle.std.specs.Cmp.{Equal-is, tied_itself}
use Rattle.gnb_types.specs.declared.names.NodeId.{NodeId}
use Rattle.gnb_types.specs.declared.names.NodeId.TheVariants.{CuCp, CuUp, Du, Core, Ue}
use Rattle.gnb_types.specs.declared.names.SnBits.{SnBits}
use Rattle.gnb_types.specs.declared.names.UeId.{UeId}
use Rattle.gnb_types.specs.declared.names.BearerId.{BearerId}
use Rattle.gnb_types.specs.declared.names.Dir.{Dir}
use Rattle.gnb_types.specs.declared.names.Dir.TheVariants.{Dl, Ul}
use Rattle.gnb_types.specs.declared.keys.EntityKey.{EntityKey}
use Rattle.gnb_types.specs.declared.inputs.Order.{Order as UeOrder}
use Rattle.gnb_types.specs.declared.inputs.Order.TheVariants as orders
use Rattle.gnb_types.specs.Orders.{ue_cmp, bearer_cmp, entity_cmp}
use Rattle.gnb_types.proofs.OrderLemmas.{ue_total, bearer_exact, entity_exact}
use Rattle.message_types.specs.declared.rrc.Token.{Token}
use Rattle.message_types.specs.declared.rrc.Token.TheVariants as tokens
use Rattle.scenario_text.specs.declared.event.Event.{Event}
use Rattle.pdcp_defs.specs.Receivers.{Receiver, is_duplicate, is_ahead}
use Rattle.bearer_defs.specs.chain_defs.Models.{Model}
use Rattle.bearer_defs.specs.chain_defs.Orders.{ModelStep, fails, run}
use Rattle.bearer_defs.specs.uplink_defs.Orders as up
use Rattle.unit_defs.specs.declared.UeState.{UeState}
use Rattle.unit_defs.specs.declared.UeState.TheVariants as states
use Rattle.unit_defs.specs.Ways.{Message, f1, e1, xn, core, rrc, Load, Pdu, packet_pdu, report_pdu, packet_content, report_content, Content, Input, control_input, packet_input, radio_input, confirm_input, offer_input, tick_input, order_input, Output, control, packet, radio, deliver, dropped, held, opened, closed, failed, no, Answer}
use Rattle.unit_defs.specs.Ue.{UeNode, largest_packet, is_connected, is_accessing, may_return, may_obey, used_uplink}
use Rattle.transport_defs.specs.Links.{is_epoch, nth}
use Rattle.run_defs.specs.Units.{with_ue, ue_of}
use Rattle.run_defs.specs.Written.{Written, written_put}
use Rattle.run_defs.specs.States.{Lengths, entity, sn_of, radio_of}
use Rattle.run_defs.specs.Steps.{is_on_air, epoch_now}
use Rattle.run_defs.specs.Conditions.{receiver_by, sender_by}
use Rattle.run_defs.specs.Runs.{Reading, plain_world, plain_way, input_of, taken_of, content_of}
use Rattle.proof_run_steps.specs.steps.Causes.{by_order, by_tick, by_octets, by_octets_on, by_attach, by_release, by_offer, by_item, by_air, by_ack, by_control_message, Stands, node_of, given_of, count_of}
use Rattle.proof_run_steps.specs.law_run_links.Own.{HoldTheirOwn}
use Rattle.proof_run_steps.specs.radio_steps.Radios.{on_air, after_taking, after_puts, moved_to, followed}
use Rattle.proof_run_steps.proofs.radio_steps.Tracks.{acts_so}
use Rattle.proof_node_orders.specs.terminal_rows.Shown.{numbering}
use Rattle.proof_node_orders.specs.terminal_inputs.Inputs.{Models, Orders, none, of_command, of_accepted, of_token, of_control_message, of_confirmed, offered_to, of_offer, of_arrival, of_return, of_order, if_here, orders_by}
use Rattle.proof_node_orders.specs.terminal_radios.Radios.{unknown_after, IsPutIn, IsReceived, Receives}
use Rattle.proof_node_orders.proofs.terminal_radios.Table.{was_received}
use Rattle.proof_bearer_refinement.specs.uplink_radio.Radio.{RunState, RunCause, OnRadio, IsAtTerminal, IsUeStep}
use Rattle.proof_bearer_refinement.proofs.uplink_radio.Taken.{ready_is_du}
use Rattle.proof_bearer_refinement.proofs.uplink_radio.Puts.{with_more}
use Rattle.law_downlink_order.specs.received_packets.Received.{WasPut, receives}
use Rattle.law_downlink_order.proofs.received_packets.Received.{received, others_stay}
use Rattle.proof_bearer_refinement.specs.downlink_radio.Received.{of_received, received_by, AssumedReceived, AssumedRest, IsKept}
use Rattle.proof_bearer_refinement.specs.downlink_radio.Down.{down_key, IsDown}
use Rattle.proof_bearer_refinement.proofs.downlink_radio.Waits.{Air, silent_down, moved_down, item_of, may_take, taken_down, report_down, items_put, puts_are, down_refinement}

-- ---- what it puts goes up

module _ (ue : UeId) (bearer : BearerId) (lengths : Lengths) (taken at : Option ℕ) (own : UeId) (epoch : ℕ) (on : Bool) where
  never_down : (who : UeId) (q : BearerId) (dir : Dir) → dir ≡ Ul → eq_by_cmp entity_cmp (down_key ue bearer) (entity who q dir) ≡ false
  never_down who q dir goes_up = by (eq_by_cmp entity_cmp (down_key ue bearer) (entity who q dir)) refl
    where
      by : (t : Bool) → eq_by_cmp entity_cmp (down_key ue bearer) (entity who q dir) ≡ t → t ≡ false
      by false e = refl
      by true e =
          let same : down_key ue bearer ≡ entity who q dir = entity_exact (down_key ue bearer) (entity who q dir) ((Equal-is (entity_cmp (down_key ue bearer) (entity who q dir))).0 e) in
          let never : Dl ≡ Ul = ap (λ (k : EntityKey). k.dir) same ∙ goes_up in absurd cc

  none_if : (t x : Bool) (item : OnRadio) (more : List OnRadio) → t ≡ false → (if t && x then item ∷ [] else []) ++ more ≡ more
  none_if true x item more never = absurd cc
  none_if false x item more never = refl

  none_put : (outputs : List (Output (Message Token) Pdu)) → AllByRecursion (IsPutIn own epoch on) outputs
      → items_put (down_key ue bearer) taken at (map (written_put lengths) outputs) ≡ []
  unfolding items_put
  none_put [] all = refl
  none_put (radio who q dir e tag pdu ∷ outputs) all =
      none_if (eq_by_cmp entity_cmp (down_key ue bearer) (entity who q dir)) (is_epoch at e) _ _ (never_down who q dir all.0.1) ∙ none_put outputs all.1
  none_put (control to u m ∷ outputs) all = none_put outputs all.1
  none_put (packet to teid u b dir tag load ∷ outputs) all = none_put outputs all.1
  none_put (deliver u b dir count p ∷ outputs) all = none_put outputs all.1
  none_put (dropped reason ∷ outputs) all = none_put outputs all.1
  none_put (held reason ∷ outputs) all = none_put outputs all.1
  none_put (opened teid ∷ outputs) all = none_put outputs all.1
  none_put (closed teid ∷ outputs) all = none_put outputs all.1
  none_put (failed u cause ∷ outputs) all = none_put outputs all.1
  none_put (no reason ∷ outputs) all = none_put outputs all.1

-- ---- inputs that are no packet and no order of the script do nothing down

module _ (u : UeNode) (b : Models) where
  abbrev Still : Orders → Type 0
  Still o = o.down ≡ []

  still_if : (t : Bool) (o : Orders) → Still o → Still (if t then o else none)
  still_if true o h = h
  still_if false o h = refl

  still_accepted : (x : UeState) → Still (of_accepted plain_way u b x)
  still_accepted states.Returning = refl
  still_accepted states.Idle = refl
  still_accepted states.Connected = refl
  still_accepted states.Accessing = refl
  still_accepted states.Lost = refl

  still_token : (token : Token) → Still (of_token plain_way u b token)
  still_token (tokens.Command ue epoch gnb du) =
      still_if (ue.0 == u.plan.ue.0) (of_command plain_way u b epoch)
      (still_if (may_obey plain_way u.state && epoch == u.epoch + 1) (record { up = up.leaves ∷ []; down = [] }) refl)
  still_token (tokens.Accepted ue epoch) =
      still_if (ue.0 == u.plan.ue.0) (if epoch == u.epoch then of_accepted plain_way u b u.state else none)
      (still_if (epoch == u.epoch) (of_accepted plain_way u b u.state) (still_accepted u.state))
  still_token (tokens.Complete ue epoch) = refl
  still_token (tokens.Reestablish ue epoch) = refl

  still_control_message : (from : NodeId) (message : Message Token) → Still (of_control_message plain_way u b from message)
  still_control_message (Du gnb number) (rrc token) = still_token token
  still_control_message (Du gnb number) (f1 message) = refl
  still_control_message (Du gnb number) (e1 message) = refl
  still_control_message (Du gnb number) (xn message) = refl
  still_control_message (Du gnb number) (core message) = refl
  still_control_message (CuCp gnb) message = refl
  still_control_message (CuUp gnb number) message = refl
  still_control_message Core message = refl
  still_control_message (Ue ue) message = refl

  still_confirmed : (content : Content) → Still (of_confirmed plain_way u b content)
  still_confirmed (packet_content None sdu) = refl
  still_confirmed (packet_content (Some count) sdu) = refl
  still_confirmed (report_content fmc bits) = refl

  still_offer : (large full : Bool) (os : List up.ModelStep) → Still (if large then none else (if full then none else record { up = os; down = [] }))
  still_offer true full os = refl
  still_offer false true os = refl
  still_offer false false os = refl

-- ---- a terminal that arrives or returns is on no radio

module _ (reading : Reading) where
  accesses_off : (x : UeState) (epoch : ℕ) → is_accessing x ≡ true → (if is_on_air (plain_world reading) x then Some epoch else None) ≡ None
  accesses_off states.Accessing epoch is = refl
  accesses_off states.Idle epoch is = absurd cc
  accesses_off states.Connected epoch is = absurd cc
  accesses_off states.Lost epoch is = absurd cc
  accesses_off states.Returning epoch is = absurd cc

  returns_off : (x : UeState) (epoch : ℕ) → may_return x ≡ true → (if is_on_air (plain_world reading) x then Some epoch else None) ≡ None
  returns_off states.Accessing epoch is = refl
  returns_off states.Lost epoch is = refl
  returns_off states.Idle epoch is = absurd cc
  returns_off states.Connected epoch is = absurd cc
  returns_off states.Returning epoch is = absurd cc

has_room : (r : Receiver (List ℕ)) (count quota : ℕ) → count ≤ r.deliv → 0 < quota → (not (is_duplicate r count) && is_ahead quota r count) ≡ false
unfolding is_ahead
has_room r count quota low some = let t : nat_le (r.deliv + quota) count ≡ false = grind arith in by (not (is_duplicate r count)) (nat_le (r.deliv + quota) count) t
  where
    by : (x y : Bool) → y ≡ false → (x && y) ≡ false
    by true y e = e
    by false y e = refl

-- ---- what it takes

module _ (reading : Reading) (s : RunState) (ue : UeId) (bearer : BearerId) (b : Models) (refinement : IsAtTerminal reading ue bearer s b) (sn : SnBits) (quota : ℕ)
    (kept : IsKept sn quota b.down) (h : IsDown (on_air s (down_key ue bearer)) b.down) (some : 0 < refinement.terminal.plan.quota) (to : Option ℕ) where
  abbrev u : UeNode
  u = refinement.terminal

  abbrev key : EntityKey
  key = down_key ue bearer

  abbrev air : Air
  air = on_air s key

  -- the radio fits then to the model after the input's orders
  pub record IsTaken (a : Air) (input : Input Token Pdu) : Type 0 where
    pub down : IsDown a (run b.down (received_by u b bearer to input).down)
    pub assumes : AssumedRest u b bearer to input → AssumedReceived u b bearer to input

  as_it_was : (a : Air) (o : Orders) → IsDown a b.down → o.down ≡ [] → IsDown a (run b.down o.down)
  unfolding run
  as_it_was a o is still = subst (λ (os : List ModelStep). IsDown a (run b.down os)) (sym still) is

  off_air : air.epoch ≡ None → (os : List ModelStep) → IsDown air (run b.down os)
  off_air off os = silent_down air (run b.down os) (h.off off)

  ordered : (order : UeOrder) → IsDown air (run b.down (of_order plain_way u b to order).down)
  ordered (orders.Arrive who) = by (is_accessing u.state) refl
    where
      by : (t : Bool) → is_accessing u.state ≡ t → IsDown air (run b.down (if t then of_arrival plain_way u b to else none).down)
      by true is = off_air (refinement.epoch ∙ accesses_off reading u.state u.epoch is) (of_arrival plain_way u b to).down
      by false is = as_it_was air none h refl
  ordered (orders.Return who) = home_by u.home
    where
      by : (t : Bool) → may_return u.state ≡ t → IsDown air (run b.down (if t then (record { up = []; down = fails ∷ [] }) else none).down)
      by true is = off_air (refinement.epoch ∙ returns_off reading u.state u.epoch is) (fails ∷ [])
      by false is = as_it_was air none h refl

      home_by : (home : Option NodeId) → IsDown air (run b.down (of_return plain_way u b home).down)
      home_by None = as_it_was air none h refl
      home_by (Some home) = by (may_return u.state) refl
  ordered (orders.Fail who) =
      as_it_was air (if is_connected u.state then record { up = up.leaves ∷ []; down = [] } else none) h
      (still_if u b (is_connected u.state) (record { up = up.leaves ∷ []; down = [] }) refl)
  ordered orders.Start = as_it_was air none h refl
  ordered (orders.Attach plan) = as_it_was air none h refl
  ordered (orders.Handover plan) = as_it_was air none h refl
  ordered (orders.Cancel who) = as_it_was air none h refl
  ordered (orders.Release who) = as_it_was air none h refl
  ordered (orders.Poll who other) = as_it_was air none h refl

  -- nothing of what is given came by air
  abbrev IsNoAir : Input Token Pdu → Type 0
  IsNoAir (radio_input who other dir pdu content) = ⊥
  IsNoAir input = Unit {0}

  rests : (input : Input Token Pdu) → IsNoAir input → IsTaken air input
  unfolding received_by orders_by
  rests (control_input from message) no_air =
      record { down = as_it_was air (of_control_message plain_way u b from message) h (still_control_message u b from message); assumes = λ o. o }
  rests (packet_input teid item) no_air = record { down = as_it_was air none h refl; assumes = λ o. o }
  rests (radio_input who other dir pdu content) no_air = absurd no_air
  rests (confirm_input who other Ul pdu content) no_air = record {
    down = as_it_was air (if_here plain_way u b bearer other (of_confirmed plain_way u b content)) h
        (still_if u b (eq_by_cmp bearer_cmp bearer other) (of_confirmed plain_way u b content) (still_confirmed u b content));
    assumes = λ o. o;
  }
  rests (confirm_input who other Dl pdu content) no_air = record { down = as_it_was air none h refl; assumes = λ o. o }
  rests (offer_input who other sdu) no_air = record {
    down = as_it_was air (if_here plain_way u b bearer other (of_offer plain_way u b sdu)) h
        (still_if u b (eq_by_cmp bearer_cmp bearer other) (of_offer plain_way u b sdu)
        (still_offer u b (nat_lt largest_packet (length sdu)) (nat_le u.plan.quota (used_uplink plain_way b.up.terminal))
        (up.offers sdu ∷ numbering u (offered_to plain_way u b sdu))));
    assumes = λ o. o;
  }
  rests tick_input no_air = record { down = as_it_was air none h refl; assumes = λ o. o }
  rests (order_input order) no_air = record { down = ordered order; assumes = λ o. o }

  -- ---- by air

  abbrev carried_more : Air
  carried_more = record air { radio = record air.radio { carried = air.radio.carried + 1 } }

  module _ (who : UeId) (item : OnRadio) (is : nth air.radio.items air.radio.carried ≡ Some item) where
    receives_up : (count : ℕ) (sdu : List ℕ) → count ≤ b.down.terminal.deliv → WasPut b.down count sdu
        → ((run b.down (receives b.down count)).terminal.deliv ≡ max b.down.terminal.deliv (count + 1))
        × ((other : ℕ) (one : List ℕ) → WasPut b.down other one → WasPut (run b.down (receives b.down count)) other one)
    receives_up count sdu low put =
        subst (λ (d : Model). count ≤ d.terminal.deliv → WasPut d count sdu
        → ((run d (receives d count)).terminal.deliv ≡ max d.terminal.deliv (count + 1))
        × ((other : ℕ) (one : List ℕ) → WasPut d other one → WasPut (run d (receives d count)) other one)) (sym kept.is)
        (λ l p. (
          received sn quota kept.first kept.teid kept.orders kept.kept count sdu l p,
          others_stay sn quota kept.first kept.teid kept.orders kept.kept count sdu l p,
        )) low put

    received_down : (p : Pdu) → item.content.says ≡ p
        → IsDown carried_more (run b.down (of_received u b (content_of p)).down)
    unfolding run
    received_down (packet_pdu count sdu) says =
        let may = may_take air b.down h item is count sdu says in
        let more = receives_up count sdu may.0 may.1 in
        subst (λ (t : Bool). IsDown carried_more (run b.down (if t then none else record { up = []; down = receives b.down count }).down))
        (sym (has_room b.down.terminal count u.plan.quota may.0 some))
        (taken_down air b.down h item is (run b.down (receives b.down count)) count sdu says more.0 more.1)
    received_down (report_pdu fmc bits) says = report_down air b.down h item is fmc bits says

    assumes_here : (p : Pdu) → item.content.says ≡ p
        → AssumedRest u b bearer to (radio_input who bearer Dl p (content_of p)) → AssumedReceived u b bearer to (radio_input who bearer Dl p (content_of p))
    assumes_here (packet_pdu count sdu) says assumed = λ here. may_take air b.down h item is count sdu says
    assumes_here (report_pdu fmc bits) says assumed = assumed

  -- of this bearer's radio or another one
  aired_on : (who : UeId) (q : BearerId) (item : OnRadio) (t : Bool) → eq_by_cmp bearer_cmp bearer q ≡ t
      → nth (radio_of s (down_key ue q)).items (radio_of s (down_key ue q)).carried ≡ Some item
      → IsTaken (if t then carried_more else air) (radio_input who q Dl item.content.says (content_of item.content.says))
  unfolding received_by run
  aired_on who q item false apart stands = record {
    down = subst (λ (t : Bool). IsDown air (run b.down (if t then of_received u b (content_of item.content.says) else none).down)) (sym apart) h;
    assumes = assumes_else item.content.says;
  }
    where
      assumes_else : (p : Pdu) → AssumedRest u b bearer to (radio_input who q Dl p (content_of p)) → AssumedReceived u b bearer to (radio_input who q Dl p (content_of p))
      assumes_else (packet_pdu count sdu) assumed = λ here. absurd (let never : true ≡ false = sym here ∙ apart in cc)
      assumes_else (report_pdu fmc bits) assumed = assumed
  aired_on who q item true same stands =
      let one : bearer ≡ q = bearer_exact bearer q ((Equal-is (bearer_cmp bearer q)).0 same) in
      let here : nth air.radio.items air.radio.carried ≡ Some item =
      ap (λ (k : BearerId). nth (radio_of s (down_key ue k)).items (radio_of s (down_key ue k)).carried) one ∙ stands in
      record {
        down = subst (λ (t : Bool). IsDown carried_more (run b.down (if t then of_received u b (content_of item.content.says) else none).down)) (sym same)
            (received_down who item here item.content.says refl);
        assumes = subst (λ (k : BearerId). AssumedRest u b bearer to (radio_input who k Dl item.content.says (content_of item.content.says))
            → AssumedReceived u b bearer to (radio_input who k Dl item.content.says (content_of item.content.says))) one
            (assumes_here who item here item.content.says refl);
      }

  module _ (event : Event) (own : HoldTheirOwn s) (input : Input Token Pdu) where
    abbrev Given : RunCause → Type 0
    Given c = input_of reading (given_of c) ≡ Some input

    abbrev Takes : RunCause → Type 0
    Takes c = IsTaken (after_taking key c air) input

    given_so : (i : Input Token Pdu) → Some i ≡ Some input → IsNoAir i → IsTaken air input
    given_so i same no_air = let is : i ≡ input = cc in subst (λ (j : Input Token Pdu). IsTaken air j) is (rests i no_air)

    up_key : (from : EntityKey) → from.dir ≡ Ul → eq_by_cmp entity_cmp key from ≡ false
    up_key from goes_up = by (eq_by_cmp entity_cmp key from) refl
      where
        by : (t : Bool) → eq_by_cmp entity_cmp key from ≡ t → t ≡ false
        by false e = refl
        by true e =
            let same : key ≡ from = entity_exact key from ((Equal-is (entity_cmp key from)).0 e) in
            let never : Dl ≡ Ul = ap (λ (k : EntityKey). k.dir) same ∙ goes_up in absurd cc

    aired : (from : EntityKey) (home : NodeId) (item : OnRadio) (dir : Dir) → from.dir ≡ dir → receiver_by dir from.ue home ≡ Ue ue.0
        → Stands {M = Message Token} {C = Token} {L = Written (Load Pdu)} {P = Written Pdu} event s (by_air from home item)
        → Given (by_air from home item) → Takes (by_air from home item)
    aired from home item Ul is node stands given = absurd (ready_is_du s from.ue (ue_of s.units from.ue) home stands.0 ue.0 node)
    aired from home item Dl is node stands given =
        subst (λ (i : Input Token Pdu). IsTaken (after_taking {M = Message Token} {L = Written (Load Pdu)} key (by_air from home item) air) i) input_is
        (subst (λ (k : EntityKey). IsTaken (if eq_by_cmp entity_cmp key k then carried_more else air)
        (radio_input ue from.bearer Dl item.content.says (content_of item.content.says))) (sym from_is)
        (subst (λ (t : Bool). IsTaken (if t then carried_more else air) (radio_input ue from.bearer Dl item.content.says (content_of item.content.says)))
        (sym (down_refinement ue bearer from.bearer))
        (aired_on ue from.bearer item (eq_by_cmp bearer_cmp bearer from.bearer) refl there)))
      where
        whose : from.ue ≡ ue
        whose = let same : from.ue.0 ≡ ue.0 = cc in ap (λ (n : ℕ). record { 0 = n }) same

        from_is : from ≡ down_key ue from.bearer
        from_is i = record { ue = whose i; bearer = from.bearer; dir = is i }

        item_is : item.key ≡ down_key ue from.bearer
        item_is = item_of (λ (x : OnRadio). x.key ≡ from) (radio_of s from).items (radio_of s from).carried item (own from) stands.1 ∙ from_is

        there : nth (radio_of s (down_key ue from.bearer)).items (radio_of s (down_key ue from.bearer)).carried ≡ Some item
        there = ap (λ (k : EntityKey). nth (radio_of s k).items (radio_of s k).carried) (sym from_is) ∙ stands.1

        input_is : radio_input ue from.bearer Dl item.content.says (content_of item.content.says) ≡ input
        input_is =
            let both : Some (radio_input item.key.ue item.key.bearer item.key.dir item.content.says (content_of item.content.says)) ≡ Some input = given in
            let one : radio_input item.key.ue item.key.bearer item.key.dir item.content.says (content_of item.content.says) ≡ input = cc in
            ap (λ (k : EntityKey). radio_input k.ue k.bearer k.dir item.content.says (content_of item.content.says)) (sym item_is) ∙ one

    -- it is told of what was confirmed up
    acked : (from : EntityKey) (home : NodeId) (item : OnRadio) (rest : List OnRadio) (dir : Dir) → from.dir ≡ dir → sender_by dir from.ue home ≡ Ue ue.0
        → Stands {M = Message Token} {C = Token} {L = Written (Load Pdu)} {P = Written Pdu} event s (by_ack from home item rest)
        → Given (by_ack from home item rest) → Takes (by_ack from home item rest)
    acked from home item rest Dl is node stands given = absurd (ready_is_du s from.ue (ue_of s.units from.ue) home stands.0 ue.0 node)
    acked from home item rest Ul is node stands given =
        subst (λ (t : Bool). IsTaken (if t then record air { radio = record { items = rest; carried = air.radio.carried - 1 } } else air) input) (sym (up_key from is))
        (given_so (confirm_input item.key.ue item.key.bearer item.key.dir item.content.says (content_of item.content.says)) given tt)

    pub taken : (c : RunCause) → node_of c ≡ Ue ue.0 → Given c → Stands event s c → Takes c
    taken (by_order node order) at given stands = given_so (order_input order) given tt
    taken (by_tick node) at given stands = given_so tick_input given tt
    taken (by_octets from to octets) at given stands = absurd cc
    taken (by_octets_on end octets) at given stands = absurd cc
    taken (by_attach plan) at given stands = absurd cc
    taken (by_release gnb who) at given stands = absurd cc
    taken (by_offer who q sdu) at given stands = given_so (offer_input who q sdu) given tt
    taken (by_item end item rest) at given stands = given_so (packet_input end.teid (taken_of item.content.says)) given tt
    taken (by_air from home item) at given stands = aired from home item from.dir refl at stands given
    taken (by_ack from home item rest) at given stands = acked from home item rest from.dir refl at stands given
    taken (by_control_message number l to) at given stands = given_so (control_input l.from l.message) given tt

-- ---- the step

module _ (reading : Reading) (event : Event) (s t : RunState) (ue : UeId) (bearer : BearerId) (b : Models) (refinement : IsAtTerminal reading ue bearer s b) (sn : SnBits)
    (quota : ℕ) (kept : IsKept sn quota b.down) (h : IsDown (on_air s (down_key ue bearer)) b.down) (some : 0 < refinement.terminal.plan.quota) (v : UeNode)
    (cause : RunCause) (input : Input Token Pdu) (outputs : List (Output (Message Token) Pdu))
    (step : IsUeStep reading event s t ue refinement.terminal v cause input outputs) (own : HoldTheirOwn s) (to : Option ℕ) where
  abbrev its_key : EntityKey
  its_key = down_key ue bearer

  took : IsTaken reading s ue bearer b refinement sn quota kept h some to (after_taking its_key cause (on_air s its_key)) input
  took = taken reading s ue bearer b refinement sn quota kept h some to event own input cause step.node step.given step.stands

  pub assumes_rest : AssumedRest refinement.terminal b bearer to input → AssumedReceived refinement.terminal b bearer to input
  assumes_rest = took.assumes

  receives_so : IsReceived (unknown_after bearer input b.up.carried) b (orders_by plain_way refinement.terminal b bearer to input) refinement.terminal v outputs
  unfolding Receives
  receives_so =
      subst (λ (a : Answer (Message Token) Pdu UeNode). Receives (unknown_after bearer input b.up.carried) b (orders_by plain_way refinement.terminal b bearer to input) refinement.terminal a)
      step.answers (was_received plain_way refinement.terminal b bearer to input)

  abbrev now : Option ℕ
  now = epoch_now (plain_world reading) (record s { units = with_ue s.units ue v }) ue

  abbrev moved : Air
  moved = moved_to (plain_world reading) now (after_taking its_key cause (on_air s its_key))

  then_on_air : on_air t its_key ≡ moved
  then_on_air =
      acts_so (plain_world reading) its_key cause (map (written_put (sn_of s)) outputs) (with_ue s.units ue v) s t step.lines step.goes_on
      ∙ ap (after_puts its_key (count_of cause) (map (written_put (sn_of s)) outputs)) followed_is
      ∙ puts_are its_key (count_of cause) (map (written_put (sn_of s)) outputs) moved
      ∙ ap (λ (more : List OnRadio). with_more moved more) nothing
      ∙ ap (λ (zs : List OnRadio). record moved { radio = record moved.radio { items = zs } }) (append-nil moved.radio.items)
    where
      own_key : eq_by_cmp ue_cmp ue (record { 0 = ue.0 }) ≡ true
      own_key = ap is_eq (tied_itself ue_total ue)

      followed_is : followed (plain_world reading) its_key (node_of cause) now (after_taking its_key cause (on_air s its_key)) ≡ moved
      followed_is =
          ap (λ (n : NodeId). followed (plain_world reading) its_key n now (after_taking its_key cause (on_air s its_key))) step.node
          ∙ ap (λ (e : Bool). if e then moved else after_taking its_key cause (on_air s its_key)) own_key

      nothing : items_put its_key (count_of cause) moved.epoch (map (written_put (sn_of s)) outputs) ≡ []
      nothing = none_put ue bearer (sn_of s) (count_of cause) moved.epoch v.plan.ue v.epoch (is_connected v.state) outputs receives_so.puts

  pub down_then : IsDown (on_air t its_key) (run b.down (received_by refinement.terminal b bearer to input).down)
  down_then =
      subst (λ (a : Air). IsDown a (run b.down (received_by refinement.terminal b bearer to input).down)) (sym then_on_air)
      (moved_down reading (after_taking its_key cause (on_air s its_key)) now (run b.down (received_by refinement.terminal b bearer to input).down) took.down)

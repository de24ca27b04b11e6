-- What a terminal's own step takes from its radio up: a PDU that is confirmed there.
use Rattle.std.proofs.Common.{◌≡◌, ℕ, ◌+◌, ◌-◌, ◌==◌, Bool, true, false, ◌&&◌, List, [], ◌∷◌, Option, Some, None, refl, sym, ap, subst, ◌∙◌}
use Rattle.std.specs.Prelude.{if◌then◌else◌}
use Rattle.std.specs.List.{AllByRecursion}
use Rattle.std.specs.Ordering.{eq_by_cmp}
use Rattle.std.specs.Cmp.{Equal-is}
use Rattle.gnb_types.specs.declared.names.NodeId.{NodeId}
use Rattle.gnb_types.specs.declared.names.NodeId.TheVariants.{CuCp, CuUp, Du as du_id, Core, Ue}
use Rattle.gnb_types.specs.declared.names.UeId.{UeId}
use Rattle.gnb_types.specs.declared.names.BearerId.{BearerId}
use Rattle.gnb_types.specs.declared.names.Dir.{Dir}
use Rattle.gnb_types.specs.declared.names.Dir.TheVariants.{Dl, Ul}
use Rattle.gnb_types.specs.declared.keys.EntityKey.{EntityKey}
use Rattle.gnb_types.specs.Orders.{bearer_cmp, entity_cmp}
use Rattle.gnb_types.proofs.OrderLemmas.{bearer_exact, entity_exact}
use Rattle.message_types.specs.declared.rrc.Token.{Token}
use Rattle.scenario_text.specs.declared.event.Event.{Event}
use Rattle.unit_defs.specs.Ways.{Message, Load, Pdu, packet_pdu, report_pdu, Input, control_input, packet_input, radio_input, confirm_input, offer_input, tick_input, order_input}
use Rattle.unit_defs.specs.Ue.{UeNode, is_connected}
use Rattle.transport_defs.specs.Links.{Radio, silent}
use Rattle.run_defs.specs.Units.{ue_of, epoch_at}
use Rattle.run_defs.specs.Written.{Written}
use Rattle.run_defs.specs.States.{radio_of}
use Rattle.run_defs.specs.Conditions.{same_epoch, ready_at, ready_of, ready_home, receiver_by, sender_by}
use Rattle.run_defs.specs.Runs.{Reading, input_of, taken_of, content_of}
use Rattle.proof_run_steps.specs.steps.Causes.{by_order, by_tick, by_octets, by_octets_on, by_attach, by_release, by_offer, by_item, by_air, by_ack, by_control_message, Stands, node_of, given_of}
use Rattle.proof_run_steps.specs.law_run_links.Own.{HoldTheirOwn}
use Rattle.proof_run_steps.specs.radio_steps.Radios.{OnAir, on_air, after_taking}
use Rattle.proof_node_orders.specs.terminal_inputs.Inputs.{Models, rest_of}
use Rattle.proof_node_orders.specs.terminal_radios.Radios.{unknown_after}
use Rattle.proof_bearer_refinement.specs.uplink_radio.Radio.{RunState, RunCause, OnRadio, IsRadio, IsOnAir, up_key, AssumedOnRadio}
use Rattle.proof_bearer_refinement.proofs.uplink_radio.Lists.{after_ack, IsHead, acked_one}
use Rattle.proof_bearer_refinement.proofs.uplink_radio.Puts.{key_refinement}

-- ---- a radio is ready where its home is a DU, which has the terminal's context

if_not : (t : Bool) (node home : NodeId) → (if t && false then Some node else None) ≡ Some home → ⊥
if_not true node home is = absurd cc
if_not false node home is = absurd cc

if_so : (t : Bool) (node home : NodeId) → (if t then Some node else None) ≡ Some home → node ≡ home
if_so true node home is = cc
if_so false node home is = absurd cc

home_is_du : (s : RunState) (ue : UeId) (u : UeNode) (h : Option NodeId) (home : NodeId) → ready_at s ue u h ≡ Some home → (w : ℕ) → home ≡ Ue w → ⊥
home_is_du s ue u None home is w at = absurd cc
home_is_du s ue u (Some (du_id g k)) home is w at =
    let same : du_id g k ≡ home = if_so (is_connected u.state && same_epoch (epoch_at s.units (du_id g k) ue) u.epoch) (du_id g k) home is in
    let never : du_id g k ≡ Ue w = same ∙ at in absurd cc
home_is_du s ue u (Some (CuCp g)) home is w at = if_not (is_connected u.state) (CuCp g) home is
home_is_du s ue u (Some (CuUp g k)) home is w at = if_not (is_connected u.state) (CuUp g k) home is
home_is_du s ue u (Some Core) home is w at = if_not (is_connected u.state) Core home is
home_is_du s ue u (Some (Ue k)) home is w at = if_not (is_connected u.state) (Ue k) home is

pub ready_is_du : (s : RunState) (ue : UeId) (o : Option UeNode) (home : NodeId) → ready_of s ue o ≡ Some home → (w : ℕ) → home ≡ Ue w → ⊥
ready_is_du s ue None home is w at = absurd cc
ready_is_du s ue (Some u) home is w at = home_is_du s ue u u.home home is w at

-- ---- what is confirmed is the oldest one that was carried

module _ (s : RunState) (ue : UeId) (bearer : BearerId) (b : Models) (there : IsOnAir (on_air s (up_key ue bearer)) b.up) where
  abbrev air : OnAir (Written Pdu)
  air = on_air s (up_key ue bearer)

  pub record IsTaken (a : OnAir (Written Pdu)) (input : Input Token Pdu) : Type 0 where
    pub epoch : a.epoch ≡ air.epoch
    pub radio : IsRadio a.radio (unknown_after bearer input b.up.carried) b.up.air
    pub off : air.epoch ≡ None → a.radio ≡ silent
    pub assumed : AssumedOnRadio bearer b.up input

  abbrev after_key : Bool → List OnRadio → OnAir (Written Pdu)
  after_key t rest = if t then record air { radio = record { items = rest; carried = air.radio.carried - 1 } } else air

  -- of this bearer's radio or another one
  confirmed : (q : BearerId) (item : OnRadio) (rest : List OnRadio) → (radio_of s (up_key ue q)).items ≡ item ∷ rest
      → ((radio_of s (up_key ue q)).carried == 0) ≡ false → (t : Bool) → eq_by_cmp bearer_cmp bearer q ≡ t → (who : UeId) (pdu : Pdu) → item.content.says ≡ pdu
      → IsTaken (after_key t rest) (confirm_input who q Ul pdu (content_of pdu))
  confirmed q item rest is some false apart who (packet_pdu count packet) says = record {
    epoch = refl;
    radio = subst (λ (t : Bool). IsRadio air.radio (if t then rest_of b.up.carried else b.up.carried) b.up.air) (sym apart) there.radio;
    off = there.off;
    assumed = λ refinement. absurd (let never : true ≡ false = sym refinement ∙ apart in cc);
  }
  confirmed q item rest is some false apart who (report_pdu fmc bits) says =
      record { epoch = refl; radio = there.radio; off = there.off; assumed = tt }
  confirmed q item rest is some true refinement who pdu says = by pdu (subst (λ (p : Pdu). Acked p) says (acked_one air.radio b.up.carried b.up.air there.radio item rest at_key.0 at_key.1))
    where
      same : bearer ≡ q
      same = bearer_exact bearer q ((Equal-is (bearer_cmp bearer q)).0 refinement)

      at_key : (air.radio.items ≡ item ∷ rest) × ((air.radio.carried == 0) ≡ false)
      at_key = (
        ap (λ (k : BearerId). (radio_of s (up_key ue k)).items) same ∙ is,
        ap (λ (k : BearerId). (radio_of s (up_key ue k)).carried == 0) same ∙ some,
      )

      Acked : Pdu → Type 0
      Acked p = IsRadio (record { items = rest; carried = air.radio.carried - 1 }) (after_ack p b.up.carried) b.up.air × IsHead p b.up.carried

      by : (p : Pdu) → Acked p → IsTaken (after_key true rest) (confirm_input who q Ul p (content_of p))
      by (packet_pdu count packet) h = record {
        epoch = refl;
        radio = subst (λ (t : Bool). IsRadio (record { items = rest; carried = air.radio.carried - 1 }) (if t then rest_of b.up.carried else b.up.carried) b.up.air)
            (sym refinement) h.0;
        off = λ none. absurd (let never : [] ≡ item ∷ rest = sym (ap (λ (r : Radio (Written Pdu)). r.items) (there.off none)) ∙ at_key.0 in cc);
        assumed = λ e. h.1;
      }
      by (report_pdu fmc bits) h = record {
        epoch = refl;
        radio = h.0;
        off = λ none. absurd (let never : [] ≡ item ∷ rest = sym (ap (λ (r : Radio (Written Pdu)). r.items) (there.off none)) ∙ at_key.0 in cc);
        assumed = tt;
      }

  -- ---- by the cause

  module _ (reading : Reading) (event : Event) (own : HoldTheirOwn s) (input : Input Token Pdu) where
    abbrev Given : RunCause → Type 0
    Given c = input_of reading (given_of c) ≡ Some input

    abbrev Takes : RunCause → Type 0
    Takes c = IsTaken (after_taking (up_key ue bearer) c air) input

    -- nothing is taken there, and the input confirms nothing
    rests : (i : Input Token Pdu) → Some i ≡ Some input → unknown_after bearer i b.up.carried ≡ b.up.carried → AssumedOnRadio bearer b.up i → IsTaken air input
    rests i same keeps assumed =
        let is : i ≡ input = cc in
        subst (λ (j : Input Token Pdu). IsTaken air j) is
        (record { epoch = refl; radio = subst (λ (k : List ℕ). IsRadio air.radio k b.up.air) (sym keeps) there.radio; off = there.off; assumed = assumed })

    down_key : (from : EntityKey) → from.dir ≡ Dl → eq_by_cmp entity_cmp (up_key ue bearer) from ≡ false
    down_key from down = by (eq_by_cmp entity_cmp (up_key ue bearer) from) refl
      where
        by : (t : Bool) → eq_by_cmp entity_cmp (up_key ue bearer) from ≡ t → t ≡ false
        by false e = refl
        by true e =
            let same : up_key ue bearer ≡ from = entity_exact (up_key ue bearer) from ((Equal-is (entity_cmp (up_key ue bearer) from)).0 e) in
            let never : Ul ≡ Dl = ap (λ (k : EntityKey). k.dir) same ∙ down in absurd cc

    aired : (from : EntityKey) (home : NodeId) (item : OnRadio) (dir : Dir) → from.dir ≡ dir → receiver_by dir from.ue home ≡ Ue ue.0
        → ready_home s from.ue ≡ Some home → Given (by_air from home item) → Takes (by_air from home item)
    aired from home item Ul is node ready given = absurd (ready_is_du s from.ue (ue_of s.units from.ue) home ready ue.0 node)
    aired from home item Dl is node ready given =
        subst (λ (t : Bool). IsTaken (if t then record air { radio = record air.radio { carried = air.radio.carried + 1 } } else air) input) (sym (down_key from is))
        (rests (radio_input item.key.ue item.key.bearer item.key.dir item.content.says (content_of item.content.says)) given refl tt)

    acked : (from : EntityKey) (home : NodeId) (item : OnRadio) (rest : List OnRadio) (dir : Dir) → from.dir ≡ dir → sender_by dir from.ue home ≡ Ue ue.0
        → Stands event s (by_ack from home item rest) → Given (by_ack from home item rest) → Takes (by_ack from home item rest)
    acked from home item rest Dl is node stands given = absurd (ready_is_du s from.ue (ue_of s.units from.ue) home stands.0 ue.0 node)
    acked from home item rest Ul is node stands given =
        subst (λ (i : Input Token Pdu). IsTaken (after_taking {M = Message Token} {L = Written (Load Pdu)} (up_key ue bearer) (by_ack from home item rest) air) i) input_is
        (subst (λ (k : EntityKey). IsTaken (if eq_by_cmp entity_cmp (up_key ue bearer) k then record air { radio = record { items = rest; carried = air.radio.carried - 1 } } else air)
        (confirm_input ue from.bearer Ul item.content.says (content_of item.content.says))) (sym from_is)
        (subst (λ (t : Bool). IsTaken (after_key t rest) (confirm_input ue from.bearer Ul item.content.says (content_of item.content.says))) (sym (key_refinement ue bearer from.bearer))
        (confirmed from.bearer item rest there_items there_some (eq_by_cmp bearer_cmp bearer from.bearer) refl ue item.content.says refl)))
      where
        whose : from.ue ≡ ue
        whose = let same : from.ue.0 ≡ ue.0 = cc in ap (λ (n : ℕ). record { 0 = n }) same

        from_is : from ≡ up_key ue from.bearer
        from_is i = record { ue = whose i; bearer = from.bearer; dir = is i }

        item_is : item.key ≡ up_key ue from.bearer
        item_is = (subst (λ (items : List OnRadio). AllByRecursion (λ (x : OnRadio). x.key ≡ from) items) stands.1 (own from)).0 ∙ from_is

        there_items : (radio_of s (up_key ue from.bearer)).items ≡ item ∷ rest
        there_items = ap (λ (k : EntityKey). (radio_of s k).items) (sym from_is) ∙ stands.1

        there_some : ((radio_of s (up_key ue from.bearer)).carried == 0) ≡ false
        there_some = ap (λ (k : EntityKey). (radio_of s k).carried == 0) (sym from_is) ∙ stands.2

        input_is : confirm_input ue from.bearer Ul item.content.says (content_of item.content.says) ≡ input
        input_is =
            let both : Some (confirm_input item.key.ue item.key.bearer item.key.dir item.content.says (content_of item.content.says)) ≡ Some input = given in
            let one : confirm_input item.key.ue item.key.bearer item.key.dir item.content.says (content_of item.content.says) ≡ input = cc in
            ap (λ (k : EntityKey). confirm_input k.ue k.bearer k.dir item.content.says (content_of item.content.says)) (sym item_is) ∙ one

    pub taken : (c : RunCause) → node_of c ≡ Ue ue.0 → Given c → Stands event s c → Takes c
    taken (by_order node order) at given stands = rests (order_input order) given refl tt
    taken (by_tick node) at given stands = rests tick_input given refl tt
    taken (by_octets from to octets) at given stands = absurd cc
    taken (by_octets_on end octets) at given stands = absurd cc
    taken (by_attach plan) at given stands = absurd cc
    taken (by_release gnb who) at given stands = absurd cc
    taken (by_offer who q packet) at given stands = rests (offer_input who q packet) given refl tt
    taken (by_item end item rest) at given stands = rests (packet_input end.teid (taken_of item.content.says)) given refl tt
    taken (by_air from home item) at given stands = aired from home item from.dir refl at stands.0 given
    taken (by_ack from home item rest) at given stands = acked from home item rest from.dir refl at stands given
    taken (by_control_message number l to) at given stands = rests (control_input l.from l.message) given refl tt

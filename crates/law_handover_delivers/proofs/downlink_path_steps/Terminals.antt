-- A step of the terminal's own: what waits on its radio down is taken from there, or another radio begins, to which nobody sends yet.
use Rattle.std.proofs.Common.{inl, inr, ◌≡◌, ◌⊎◌, ℕ, ◌+◌, ◌-◌, ◌<◌, ◌≤◌, ◌==◌, Bool, true, false, List, [], ◌∷◌, ◌++◌, map, Option, Some, None, refl, sym, ap, subst, ◌∙◌, arith}
use Rattle.std.specs.Prelude.{if◌then◌else◌}
use Rattle.std.specs.List.{AllByRecursion}
use Rattle.std.specs.Ordering.{eq_by_cmp, is_eq}
use Rattle.std.specs.Cmp.{Equal-is, tied_itself}
use Rattle.gnb_types.specs.declared.names.NodeId.{NodeId}
use Rattle.gnb_types.specs.declared.names.NodeId.TheVariants.{Ue}
use Rattle.gnb_types.specs.declared.names.Gnb.{Gnb}
use Rattle.gnb_types.specs.declared.names.SnBits.{SnBits}
use Rattle.gnb_types.specs.declared.names.UeId.{UeId}
use Rattle.gnb_types.specs.declared.names.BearerId.{BearerId}
use Rattle.gnb_types.specs.declared.keys.EntityKey.{EntityKey}
use Rattle.gnb_types.specs.Orders.{entity_cmp}
use Rattle.gnb_types.proofs.OrderLemmas.{ue_total, entity_exact}
use Rattle.tables.proofs.TableLaws.{find-put-same}
use Rattle.message_types.specs.declared.rrc.Token.{Token}
use Rattle.scenario_text.specs.declared.event.Event.{Event}
use Rattle.intervals.specs.Intervals.{reach}
use Rattle.intervals.proofs.Intervals.{reach-append}
use Rattle.pdcp_defs.specs.Senders.{window}
use Rattle.unit_defs.specs.Ways.{Message, Pdu, packet_pdu, report_pdu, Input, Output}
use Rattle.unit_defs.specs.Ue.{UeNode}
use Rattle.bearer_defs.specs.chain_defs.Models.{Member, Model, initial}
use Rattle.bearer_defs.specs.chain_defs.Orders.{offers_in, run}
use Rattle.law_downlink_order.proofs.chain.Facts.{Good}
use Rattle.law_downlink_order.proofs.chain.Runs.{stream, agrees, kept_run, good_start}
use Rattle.transport_defs.specs.Links.{nth}
use Rattle.run_defs.specs.Units.{Units, du_of, ue_of, with_ue}
use Rattle.run_defs.specs.Written.{written_put}
use Rattle.run_defs.specs.States.{sn_of, radio_of, World}
use Rattle.run_defs.specs.Steps.{same_epoch, epoch_now, epoch_on_air, is_on_air}
use Rattle.run_defs.specs.Runs.{Reading, plain_world}
use Rattle.proof_run_steps.specs.steps.Causes.{Cause, by_order, by_tick, by_octets, by_octets_on, by_attach, by_release, by_offer, by_item, by_air, by_ack, by_control_message, Stands, node_of, count_of}
use Rattle.proof_run_steps.proofs.steps.Frames.{units_by}
use Rattle.proof_run_steps.specs.teids.Given.{below, GiveOnce}
use Rattle.proof_node_orders.specs.du_inputs.Changes.{DuModel, model_of as du_model_of}
use Rattle.proof_bearer_refinement.specs.f1u_frames.Frames.{frames_in}
use Rattle.law_downlink_order.specs.received_packets.Received.{WasPut}
use Rattle.proof_run_steps.specs.radio_steps.Radios.{on_air, after_taking, after_puts, moved_to, followed, lost_in}
use Rattle.proof_run_steps.proofs.radio_steps.Tracks.{acts_so}
use Rattle.proof_bearer_refinement.specs.uplink_radio.Radio.{RunCause, OnRadio, IsRadio, IsAtTerminal, IsUeStep}
use Rattle.proof_bearer_refinement.proofs.uplink_radio.Lists.{counts, after_carry, carried_one}
use Rattle.proof_bearer_refinement.specs.downlink_radio.Down.{down_key, IsDown, Puts}
use Rattle.proof_bearer_refinement.specs.downlink_radio.Received.{received_by, AssumedReceived, IsKept}
use Rattle.proof_bearer_refinement.proofs.downlink_radio.Waits.{Air, items_put, puts_are}
use Rattle.proof_bearer_refinement.proofs.downlink_radio.Others.{IsLike, taken_like}
use Rattle.law_handover_delivers.proofs.report_terminals.Steps.{all_grow}
use Rattle.proof_cu_up_orders.specs.sending_contexts.Sending.{IsSending}
use Rattle.proof_cu_up_orders.proofs.sending_contexts.Lists.{reach_later}
use Rattle.proof_bearer_refinement.proofs.other_contexts.Later.{sends_later}
use Rattle.proof_node_orders.specs.terminal_inputs.Inputs.{packet_in}
use Rattle.proof_cu_up_orders.specs.context_orders.Orders.{CuUpModel}
use Rattle.proof_cu_up_orders.specs.bearer_orders.Down as downs
use Rattle.proof_cu_up_orders.specs.bearer_orders.Happenings.{Contexts}
use Rattle.proof_bearer_refinement.specs.run_bearers.Things.{PlainUnits}
use Rattle.proof_bearer_refinement.specs.run_bearers.Bearers.{Numbering, contexts_of}
use Rattle.proof_bearer_refinement.specs.refinement_facts.Refinements.{RunState, RunItem}
use Rattle.law_terminals_are_isolated.specs.own_steps.Own.{IsActed}
use Rattle.proof_bearer_refinement.specs.runs.Steps.{Point, IsRefined, StaysInFrame}
use Rattle.law_handover_delivers.specs.core_path.Paths.{CameAbout}
use Rattle.proof_bearer_refinement.specs.frame_cp_and_ue.Nodes.{PutsNoItem}
use Rattle.proof_bearer_refinement.specs.runs.Fair.{IsFair}
use Rattle.law_handover_delivers.specs.whole_runs.Whole.{both}
use Rattle.law_handover_delivers.specs.downlink_path_links.Links.{IsNoDu}
use Rattle.law_handover_delivers.proofs.downlink_path_links.Airs.{one_radio, none_put, no_more}
use Rattle.law_handover_delivers.specs.downlink_path_steps.Way.{Leads, IsDownlinkPath, IsOnDownlinkPath}
use Rattle.law_handover_delivers.proofs.downlink_path_steps.Beside.{left_sends, home_open}
use Rattle.law_handover_delivers.proofs.downlink_path_steps.Others.{fit, units_are, dus_are, frames_are}
use Rattle.law_handover_delivers.proofs.downlink_path_steps.Rows.{comes_up}
use Rattle.law_handover_delivers.proofs.downlink_path_steps.Receives.{IsAnew, radio_anew, input_says, put_on}
use Rattle.law_handover_delivers.proofs.downlink_path_links.Homes.{du_same}

abbrev Packets : Type 0
Packets = List (ℕ × List ℕ)

number_same : (a : ℕ) → (a == a) ≡ true
number_same a = grind arith

-- ---- no context was switched for a later radio

pub not_later : (sn : SnBits) (quota : ℕ) (d : Model) → CameAbout sn quota d → (x : ℕ) → (d.members x).is_there ≡ true → (d.members x).epoch ≤ d.epoch
unfolding initial
not_later sn quota d came x there =
    let good : Good (stream (offers_in came.orders)) (window sn quota) d =
    subst (λ (e : Model). Good (stream (offers_in came.orders)) (window sn quota) e) (sym came.is)
    (kept_run (stream (offers_in came.orders)) sn quota (initial came.first came.teid) came.orders
    (good_start (stream (offers_in came.orders)) (window sn quota) came.first came.teid) came.kept (agrees (offers_in came.orders))) in
    ((good.1.each x).own there).spoken.spoke

pub member_there : (n : Numbering) (ue : UeId) (bearer : BearerId) (sn : SnBits) (quota : ℕ) (units : PlainUnits) (d : Model)
    → downs.Has sn quota d (contexts_of n ue bearer units) → (x : ℕ) (part : CuUpModel) → contexts_of n ue bearer units x ≡ Some part
    → (d.members x).is_there ≡ true
member_there n ue bearer sn quota units d has x part there = (subst (λ (o : Option CuUpModel). downs.IsIn sn quota (d.members x) o) there (has x)).0.there

-- ---- what the terminal takes of what waits

-- the packets that were carried, those that are left, and the COUNTs of what was carried and isn't confirmed
record Took (a : Air) (waits : Packets) : Type 0 where
  known : List ℕ
  firsts : Packets
  rest : Packets
  radio : IsRadio a.radio known rest
  all : waits ≡ firsts ++ rest
  received : (deliv : ℕ) → AllByRecursion (λ (count : ℕ). count < deliv) known → (low : ℕ) → low ≤ deliv → reach low firsts ≤ deliv
  epoch : Option ℕ
  at : a.epoch ≡ epoch

all_right : (Q : ℕ → Type 0) (xs ys : List ℕ) → AllByRecursion Q (xs ++ ys) → AllByRecursion Q ys
all_right Q [] ys all = all
all_right Q (x ∷ xs) ys all = all_right Q xs ys all.1

first_received : (known : List ℕ) (pdu : Pdu) (deliv : ℕ) → AllByRecursion (λ (count : ℕ). count < deliv) (known ++ counts (packet_in pdu)) → (low : ℕ)
    → low ≤ deliv → reach low (packet_in pdu) ≤ deliv
unfolding reach
first_received known (packet_pdu count sdu) deliv all low less =
    let here = (all_right (λ (c : ℕ). c < deliv) known (count ∷ []) all).0 in omega (arith, here, less)
first_received known (report_pdu fmc bits) deliv all low less = less

module _ (event : Event) (s : RunState) (key : EntityKey) (d : Model) (h : IsDown (on_air s key) d) where
  abbrev air : Air
  air = on_air s key

  like_took : (b : Air) → IsLike air b d h.waits → Took b h.waits
  unfolding reach
  like_took b like = record {
    known = like.down.known;
    firsts = [];
    rest = h.waits;
    radio = subst (λ (w : Packets). IsRadio b.radio like.down.known w) like.same like.down.radio;
    all = refl;
    received = λ deliv all low less. less;
    epoch = air.epoch;
    at = like.epoch;
  }

  carried_took : (item : OnRadio) → nth air.radio.items air.radio.carried ≡ Some item
      → Took (record air { radio = record air.radio { carried = air.radio.carried + 1 } }) h.waits
  carried_took item is =
      let next = carried_one air.radio h.known h.waits h.radio item is in
      record {
        known = h.known ++ counts (packet_in item.content.says);
        firsts = packet_in item.content.says;
        rest = after_carry item.content.says h.waits;
        radio = next.0;
        all = next.1;
        received = first_received h.known item.content.says;
        epoch = air.epoch;
        at = refl;
      }

  air_took : (from : EntityKey) (home : NodeId) (item : OnRadio) → nth (radio_of s from).items (radio_of s from).carried ≡ Some item
      → Took (if eq_by_cmp entity_cmp key from then record air { radio = record air.radio { carried = air.radio.carried + 1 } } else air) h.waits
  air_took from home item is = by (eq_by_cmp entity_cmp key from) refl
    where
      by : (t : Bool) → eq_by_cmp entity_cmp key from ≡ t
          → Took (if t then record air { radio = record air.radio { carried = air.radio.carried + 1 } } else air) h.waits
      by true e =
          let same : key ≡ from = entity_exact key from ((Equal-is (entity_cmp key from)).0 e) in
          carried_took item (ap (λ (k : EntityKey). nth (radio_of s k).items (radio_of s k).carried) same ∙ is)
      by false e = like_took air (record { down = h; same = refl; epoch = refl })

  step_took : (c : RunCause) (k : ℕ) → node_of c ≡ Ue k → Stands event s c → Took (after_taking key c air) h.waits
  step_took (by_air from home item) k node stands = air_took from home item stands.1
  step_took (by_release g who) k node stands = absurd cc
  step_took (by_order at order) k node stands = like_took _ (taken_like event s key d h (by_order at order) stands tt)
  step_took (by_tick at) k node stands = like_took _ (taken_like event s key d h (by_tick at) stands tt)
  step_took (by_octets from to octets) k node stands = like_took _ (taken_like event s key d h (by_octets from to octets) stands tt)
  step_took (by_octets_on end octets) k node stands = like_took _ (taken_like event s key d h (by_octets_on end octets) stands tt)
  step_took (by_attach plan) k node stands = like_took _ (taken_like event s key d h (by_attach plan) stands tt)
  step_took (by_offer who q sdu) k node stands = like_took _ (taken_like event s key d h (by_offer who q sdu) stands tt)
  step_took (by_item end item rest) k node stands = like_took _ (taken_like event s key d h (by_item end item rest) stands tt)
  step_took (by_ack from home item rest) k node stands = like_took _ (taken_like event s key d h (by_ack from home item rest) stands tt)
  step_took (by_control_message l m to) k node stands = like_took _ (taken_like event s key d h (by_control_message l m to) stands tt)

-- a step of a terminal adds none
ues_stay : {M C L P : Type 0} (world : World M C L P) (c : Cause M L P) (k : ℕ) → node_of c ≡ Ue k → (u : Units M C) → (units_by world c u).ues ≡ u.ues
ues_stay world (by_attach plan) k node u = absurd cc
ues_stay world (by_release g w) k node u = absurd cc
ues_stay world (by_order at order) k node u = refl
ues_stay world (by_tick at) k node u = refl
ues_stay world (by_octets from to octets) k node u = refl
ues_stay world (by_octets_on e octets) k node u = refl
ues_stay world (by_offer w b q) k node u = refl
ues_stay world (by_item end item rest) k node u = refl
ues_stay world (by_air key home item) k node u = refl
ues_stay world (by_ack key home item rest) k node u = refl
ues_stay world (by_control_message l m to) k node u = refl

-- where the radio is connected in the same epoch it isn't lost
stays_on : (reading : Reading) (a : Air) (now : Option ℕ) (e : ℕ) → a.epoch ≡ Some e → (moved_to (plain_world reading) now a).epoch ≡ Some e
    → moved_to (plain_world reading) now a ≡ a
stays_on reading a now e before after = by (same_epoch (plain_world reading) a.epoch now) refl after
  where
    by : (t : Bool) → same_epoch (plain_world reading) a.epoch now ≡ t
        → (if t then a else record { epoch = now; radio = lost_in a.epoch a.radio }).epoch ≡ Some e
        → (if t then a else record { epoch = now; radio = lost_in a.epoch a.radio }) ≡ a
    by true is later = refl
    by false is later =
        let same : same_epoch (plain_world reading) (Some e) (Some e) ≡ false = sym (λ i. same_epoch (plain_world reading) (before i) (later i)) ∙ is in
        let never : true ≡ false = sym (number_same e) ∙ same in absurd cc

module _ (reading : Reading) (n : Numbering) (ue : UeId) (bearer : BearerId) (sn : SnBits) (quota : ℕ) (p q : Point) (fair : IsFair p.state)
    (comes : GiveOnce p.state.units q.state.units) (way : IsOnDownlinkPath n ue bearer p) (refinements : IsRefined reading n ue bearer sn quota p) (came : CameAbout sn quota p.down)
    (event : Event) (refinement : IsAtTerminal reading ue bearer p.state (both p)) (left : UeNode) (cause : RunCause) (input : Input Token Pdu)
    (outputs : List (Output (Message Token) Pdu)) (to : Option ℕ) (acts : IsUeStep reading event p.state q.state ue refinement.terminal left cause input outputs)
    (acted : IsActed (plain_world reading) event p.state cause (map (written_put (sn_of p.state)) outputs) (with_ue p.state.units ue left))
    (assumed : AssumedReceived refinement.terminal (both p) bearer to input) (down_is : q.down ≡ run p.down (received_by refinement.terminal (both p) bearer to input).down)
    (stays : StaysInFrame reading n ue bearer sn quota p q) (refinement_then : IsAtTerminal reading ue bearer q.state (both q))
    (down_then : IsDown (on_air q.state (down_key ue bearer)) q.down) where
  abbrev u : UeNode
  u = refinement.terminal

  abbrev key : EntityKey
  key = down_key ue bearer

  abbrev written : Puts
  written = map (written_put (sn_of p.state)) outputs

  quiet : PutsNoItem (node_of cause)
  quiet = subst (λ (node : NodeId). PutsNoItem node) (sym acts.node) tt

  kept : IsKept sn quota p.down
  kept = record { first = came.first; teid = came.teid; orders = came.orders; kept = came.kept; is = came.is }

  anew : IsAnew p.down q.down
  anew = subst (λ (d : Model). IsAnew p.down d) (sym stays.down) (radio_anew p.down stays.radio stays.of_radio)

  contexts : contexts_of n ue bearer q.state.units ≡ contexts_of n ue bearer p.state.units
  contexts = stays.rest.contexts

  -- ---- its own state

  left_there : ue_of q.state.units ue ≡ Some left
  left_there =
      ap (λ (us : PlainUnits). ue_of us ue)
      (units_are reading n ue bearer sn quota p q fair comes way event cause written (with_ue p.state.units ue left) acts.lines acted quiet acts.goes_on)
      ∙ ap (λ us. ue_of (record p.state.units { ues = us }) ue) (ues_stay (plain_world reading) cause ue.0 acts.node (with_ue p.state.units ue left))
      ∙ find-put-same ue_total p.state.units.ues ue left

  same_left : refinement_then.terminal ≡ left
  same_left = let both_are : Some refinement_then.terminal ≡ Some left = sym refinement_then.there ∙ left_there in cc

  left_epoch : left.epoch ≡ q.down.epoch + 1
  left_epoch = ap (λ (x : UeNode). x.epoch) (sym same_left) ∙ refinement_then.shown.seen.epoch

  air_then : (on_air q.state key).epoch ≡ epoch_on_air (plain_world reading) (Some left)
  air_then = refinement_then.epoch ∙ ap (λ (x : UeNode). epoch_on_air (plain_world reading) (Some x)) same_left

  -- ---- a context that was switched for the radio that is there now

  module _ (x : ℕ) (part : CuUpModel) (g : Gnb) (k teid : ℕ) (l : Leads n ue bearer q x part g k teid) where
    was_there : contexts_of n ue bearer p.state.units x ≡ Some part
    was_there = ap (λ (c : Contexts). c x) (sym contexts) ∙ l.there

    same_member : q.down.members x ≡ p.down.members x
    same_member = ap (λ (ms : ℕ → Member). ms x) anew.members

    same_radio : q.down.epoch ≡ p.down.epoch
    same_radio =
        let old = not_later sn quota p.down came x (member_there n ue bearer sn quota p.state.units p.down refinements.down x part was_there) in
        let low = anew.epoch in
        let present : (p.down.members x).epoch ≡ q.down.epoch = ap (λ (m : Member). m.epoch) (sym same_member) ∙ l.present in omega (arith, old, low, present)

    led_before : Leads n ue bearer p x part g k teid
    led_before = record {
      there = was_there;
      present = ap (λ (m : Member). m.epoch) (sym same_member) ∙ l.present ∙ same_radio;
      leads = l.leads;
    }

  given_later : (x : ℕ) (part : CuUpModel) (g : Gnb) (k teid : ℕ) → Leads n ue bearer q x part g k teid → teid + 1 ≤ below (du_of q.state.units g k).next_teid
  given_later x part g k teid l =
      let low = way.given x part g k teid (led_before x part g k teid l) in
      let more = (comes.1 g k).0 in omega (arith, low, more)

  module _ (x : ℕ) (part : CuUpModel) (g : Gnb) (k : ℕ) (home : DuModel) (items : List RunItem) (w : IsDownlinkPath n ue bearer q x part g k home items) where
    radio_same : q.down.epoch ≡ p.down.epoch
    radio_same = same_radio x part g k home.bearer.downlink w.from

    abbrev now_on : Option ℕ
    now_on = epoch_on_air (plain_world reading) (Some left)

    on_now : now_on ≡ Some home.epoch
    on_now = sym air_then ∙ w.connected

    up_now : (is_on_air (plain_world reading) left.state ≡ true) × (left.epoch ≡ home.epoch)
    up_now = by (is_on_air (plain_world reading) left.state) on_now
      where
        by : (t : Bool) → (if t then Some left.epoch else None) ≡ Some home.epoch → (t ≡ true) × (left.epoch ≡ home.epoch)
        by true is = (refl, (let same : left.epoch ≡ home.epoch = cc in same))
        by false is = absurd cc

    up_before : is_on_air (plain_world reading) u.state ≡ true
    up_before = by ((comes_up reading u input).comes outputs left acts.answers up_now.0)
      where
        by : (is_on_air (plain_world reading) u.state ≡ true) ⊎ (left.epoch ≡ u.epoch + 1) → is_on_air (plain_world reading) u.state ≡ true
        by (inl up) = up
        by (inr next) =
            let a : u.epoch ≡ p.down.epoch + 1 = refinement.shown.seen.epoch in
            let b : left.epoch ≡ q.down.epoch + 1 = left_epoch in
            let c : q.down.epoch ≡ p.down.epoch = radio_same in absurd (omega (arith, a, b, c, next))

    connected_before : (on_air p.state key).epoch ≡ Some home.epoch
    connected_before =
        refinement.epoch ∙ ap (λ (t : Bool). if t then Some u.epoch else None) up_before
        ∙ ap (λ (e : ℕ). Some e)
        (let a : u.epoch ≡ p.down.epoch + 1 = refinement.shown.seen.epoch in
        let b : left.epoch ≡ q.down.epoch + 1 = left_epoch in
        let c : q.down.epoch ≡ p.down.epoch = radio_same in
        let e : left.epoch ≡ home.epoch = up_now.1 in
        let same : u.epoch ≡ home.epoch = omega (arith, a, b, c, e) in same)

    -- what is on the radio then
    abbrev b : Air
    b = after_taking key cause (on_air p.state key)

    took : Took b way.down.waits
    took = step_took event p.state key p.down way.down cause ue.0 acts.node acts.stands

    abbrev now : Option ℕ
    now = epoch_now (plain_world reading) (record p.state { units = with_ue p.state.units ue left }) ue

    air_is : on_air q.state key ≡ moved_to (plain_world reading) now b
    air_is =
        acts_so (plain_world reading) key cause written (with_ue p.state.units ue left) p.state q.state acts.lines acts.goes_on
        ∙ ap (after_puts key (count_of cause) written) followed_is
        ∙ puts_are key (count_of cause) written (moved_to (plain_world reading) now b)
        ∙ no_more (moved_to (plain_world reading) now b) (items_put key (count_of cause) (moved_to (plain_world reading) now b).epoch written)
        (none_put ue bearer (count_of cause) (moved_to (plain_world reading) now b).epoch (node_of cause)
        (subst (λ (node : NodeId). IsNoDu node) (sym acts.node) tt) (count_of cause) written
        (fit reading n ue bearer sn quota p q fair comes way event cause written (with_ue p.state.units ue left) acts.lines acted quiet acts.goes_on))
      where
        followed_is : followed (plain_world reading) key (node_of cause) now b ≡ moved_to (plain_world reading) now b
        followed_is =
            ap (λ (z : NodeId). followed (plain_world reading) key z now b) acts.node
            ∙ ap (λ (t : Bool). if t then moved_to (plain_world reading) now b else b) (ap is_eq (tied_itself ue_total ue))

    epoch_taken : (c : RunCause) → node_of c ≡ Ue ue.0 → (after_taking key c (on_air p.state key)).epoch ≡ (on_air p.state key).epoch
    epoch_taken (by_air from at item) node = by (eq_by_cmp entity_cmp key from)
      where
        by : (t : Bool) → (if t then record (on_air p.state key) { radio = record (on_air p.state key).radio { carried = (on_air p.state key).radio.carried + 1 } }
            else on_air p.state key).epoch ≡ (on_air p.state key).epoch
        by true = refl
        by false = refl
    epoch_taken (by_ack from at item rest) node = by (eq_by_cmp entity_cmp key from)
      where
        by : (t : Bool) → (if t then record (on_air p.state key) { radio = record { items = rest; carried = (on_air p.state key).radio.carried - 1 } }
            else on_air p.state key).epoch ≡ (on_air p.state key).epoch
        by true = refl
        by false = refl
    epoch_taken (by_release gnb who) node = absurd cc
    epoch_taken (by_order at order) node = refl
    epoch_taken (by_tick at) node = refl
    epoch_taken (by_octets from at octets) node = refl
    epoch_taken (by_octets_on end octets) node = refl
    epoch_taken (by_attach plan) node = refl
    epoch_taken (by_offer who z sdu) node = refl
    epoch_taken (by_item end item rest) node = refl
    epoch_taken (by_control_message m l at) node = refl

    air_stays : on_air q.state key ≡ b
    air_stays =
        air_is ∙ stays_on reading b now home.epoch (epoch_taken cause acts.node ∙ connected_before)
        (ap (λ (a : Air). a.epoch) (sym air_is) ∙ w.connected)

    told : (took.known ≡ down_then.known) × (took.rest ≡ down_then.waits)
    told =
        one_radio b.radio took.known down_then.known took.rest down_then.waits took.radio
        (subst (λ (a : Air). IsRadio a.radio down_then.known down_then.waits) air_stays down_then.radio)

    abbrev deliv : ℕ
    deliv = p.down.terminal.deliv

    abbrev deliv_then : ℕ
    deliv_then = q.down.terminal.deliv

    more : deliv ≤ deliv_then
    more = subst (λ (d : Model). deliv ≤ d.terminal.deliv) (sym down_is) (all_grow p.down (received_by u (both p) bearer to input).down)

    far : reach deliv way.down.waits ≤ reach deliv_then took.rest
    far =
        let firsts = took.received deliv_then (subst (λ (ks : List ℕ). AllByRecursion (λ (count : ℕ). count < deliv_then) ks) (sym told.0) down_then.received)
        deliv more in
        subst (λ (ws : Packets). reach deliv ws ≤ reach deliv_then took.rest) (sym took.all)
        (subst (λ (i : ℕ). i ≤ reach deliv_then took.rest) (sym (reach-append deliv took.firsts took.rest))
        (reach_later (reach deliv took.firsts) deliv_then took.rest firsts))

    put_still : (count : ℕ) (packet : List ℕ) → WasPut p.down count packet → WasPut q.down count packet
    put_still count packet put =
        subst (λ (d : Model). WasPut d count packet) (sym down_is)
        (put_on u (both p) sn quota kept (received_by u (both p) bearer to input).down (input_says u (both p) bearer to input assumed)
        (ap (λ (d : Model). d.epoch) (sym down_is) ∙ radio_same) count packet put)

    sends_on_then : IsSending q.down x part.bearer (record { du = home.bearer; frames = frames_in items; waits = down_then.waits })
    sends_on_then =
        let dus = dus_are reading n ue bearer sn quota p q fair comes way event cause written (with_ue p.state.units ue left) acts.lines acted
        quiet acts.goes_on in
        let at : du_model_of (du_of p.state.units g k) ue bearer ≡ Some home =
        sym (ap (λ r. du_model_of r ue bearer) (du_same p.state.units q.state.units dus g k)) ∙ w.at in
        let opened = home_open reading ue bearer p.state fair g k home at in
        let was = way.sends x part g k home opened.0 (record {
          from = led_before x part g k home.bearer.downlink w.from;
          at = at;
          connected = connected_before;
          stands = opened.1;
        }) in
        let on = sends_later p.down q.down x part.bearer (record { du = home.bearer; frames = frames_in opened.0; waits = way.down.waits }) took.rest
        (ap (λ (m : Member). record m { n3 = (p.down.members x).n3; forwarded = (p.down.members x).forwarded; promised = (p.down.members x).promised })
        (same_member x part g k home.bearer.downlink w.from)) radio_same more far put_still was in
        subst (λ (ws : Packets). IsSending q.down x part.bearer (record { du = home.bearer; frames = frames_in items; waits = ws })) told.1
        (left_sends (frames_in opened.0) (frames_in items)
        (frames_are reading n ue bearer sn quota p q fair comes way event cause written (with_ue p.state.units ue left) acts.lines acted quiet acts.goes_on g k
        home.bearer.downlink opened.0 items opened.1 w.stands) q.down x part.bearer home.bearer took.rest on)

  pub terminal_way : IsOnDownlinkPath n ue bearer q
  terminal_way = record {
    down = down_then;
    sends = sends_on_then;
    given = given_later;
    alone = λ x y one other end first second leads same.
        way.alone x y one other end (ap (λ (c : Contexts). c x) (sym contexts) ∙ first) (ap (λ (c : Contexts). c y) (sym contexts) ∙ second) leads same;
  }

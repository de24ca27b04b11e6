-- What was carried on a radio and isn't confirmed was received, after a step too.
use Rattle.std.proofs.Common.{◌≡◌, ℕ, ◌+◌, ◌-◌, ◌==◌, ◌<◌, ◌≤◌, Bool, true, false, ◌&&◌, List, [], ◌∷◌, ◌++◌, Option, Some, None, refl, sym, ap, subst, ◌∙◌}
use Rattle.std.specs.Prelude.{if◌then◌else◌}
use Rattle.std.specs.List.{AllByRecursion}
use Rattle.std.specs.Ordering.{eq_by_cmp}
use Rattle.std.specs.Cmp.{Equal-is}
use Rattle.gnb_types.specs.declared.names.NodeId.{NodeId}
use Rattle.gnb_types.specs.declared.names.NodeId.TheVariants.{CuCp, CuUp, Du, Core, Ue}
use Rattle.gnb_types.specs.declared.keys.EntityKey.{EntityKey}
use Rattle.gnb_types.specs.Orders.{ue_cmp, entity_cmp}
use Rattle.gnb_types.proofs.OrderLemmas.{entity_exact}
use Rattle.message_types.specs.declared.rrc.Token.{Token}
use Rattle.scenario_text.specs.declared.event.Event.{Event}
use Rattle.intervals.proofs.Intervals.{all_append}
use Rattle.unit_defs.specs.Ways.{Message, Pdu, packet_pdu, report_pdu, Load, control, packet, radio, deliver, dropped, held, opened, closed, failed, no, Put}
use Rattle.transport_defs.specs.Links.{Radio, silent, is_epoch, nth}
use Rattle.run_defs.specs.Lines.{RunLine}
use Rattle.run_defs.specs.Units.{Units}
use Rattle.run_defs.specs.Written.{Written}
use Rattle.run_defs.specs.States.{goes, entity, radio_of, ◌next◌}
use Rattle.run_defs.specs.Steps.{carried_out, check_spans, put_out_all, count_beside, same_epoch, epoch_now}
use Rattle.run_defs.specs.Runs.{Reading, plain_world}
use Rattle.proof_run_steps.specs.steps.Causes.{by_order, by_tick, by_octets, by_octets_on, by_attach, by_release, by_offer, by_item, by_air, by_ack, by_control_message, Stands, node_of, count_of, first_of}
use Rattle.proof_run_steps.specs.radio_steps.Radios.{OnAir, on_air, lost_in, after_taking, with_item, after_put, after_puts, moved_to, followed}
use Rattle.proof_run_steps.proofs.radio_steps.Tracks.{acts_so, puts_so}
use Rattle.proof_node_orders.specs.terminal_inputs.Inputs.{packet_in}
use Rattle.proof_bearer_refinement.specs.uplink_radio.Radio.{RunState, RunCause, OnRadio, IsRadio}
use Rattle.proof_bearer_refinement.proofs.uplink_radio.Lists.{counts, after_carry, carried_one, after_ack, IsHead, acked_one, more_put, nothing_there}
use Rattle.proof_bearer_refinement.proofs.downlink_radio.Waits.{received_later}
use Rattle.proof_bearer_refinement.specs.carried_was_received.Known.{WasBelow, AreKnown, Receives}

abbrev OnRadios : Type 0
OnRadios = Radio (Written Pdu)

abbrev Air : Type 0
Air = OnAir (Written Pdu)

abbrev RunPut : Type 0
RunPut = Put (Message Token) (Written (Load Pdu)) (Written Pdu)

pub known_later : (r : OnRadios) (deliv later : ℕ) → deliv ≤ later → AreKnown r deliv → AreKnown r later
known_later r deliv later more h =
    record { known = h.known; waits = h.waits; radio = h.radio; received = received_later deliv later h.known more h.received }

module _ (deliv : ℕ) where
  pub silent_known : AreKnown silent deliv
  silent_known = record { known = []; waits = []; radio = nothing_there; received = tt }

  lost_known : (o : Option ℕ) (r : OnRadios) → AreKnown r deliv → AreKnown (lost_in o r) deliv
  lost_known None r h = h
  lost_known (Some epoch) r h = silent_known

  -- ---- the oldest one is carried, or confirmed

  all_below : (pdu : Pdu) → WasBelow deliv pdu → AllByRecursion (λ (count : ℕ). count < deliv) (counts (packet_in pdu))
  all_below (packet_pdu count sdu) below = (below, tt)
  all_below (report_pdu fmc bits) below = tt

  carried_known : (r : OnRadios) → AreKnown r deliv → (item : OnRadio) → nth r.items r.carried ≡ Some item → WasBelow deliv item.content.says
      → AreKnown (record r { carried = r.carried + 1 }) deliv
  carried_known r h item is below = record {
    known = h.known ++ counts (packet_in item.content.says);
    waits = after_carry item.content.says h.waits;
    radio = (carried_one r h.known h.waits h.radio item is).0;
    received = all_append (λ (count : ℕ). count < deliv) h.known (counts (packet_in item.content.says)) h.received (all_below item.content.says below);
  }

  pub acked_known : (r : OnRadios) → AreKnown r deliv → (item : OnRadio) (rest : List OnRadio) → r.items ≡ item ∷ rest → (r.carried == 0) ≡ false
      → AreKnown (record { items = rest; carried = r.carried - 1 }) deliv × WasBelow deliv item.content.says
  acked_known r h item rest is some = by item.content.says (acked_one r h.known h.waits h.radio item rest is some)
    where
      later : OnRadios
      later = record { items = rest; carried = r.carried - 1 }

      by : (p : Pdu) → IsRadio later (after_ack p h.known) h.waits × IsHead p h.known → AreKnown later deliv × WasBelow deliv p
      by (packet_pdu count sdu) both =
          let all : AllByRecursion (λ (c : ℕ). c < deliv) (count ∷ after_ack (packet_pdu count sdu) h.known) =
          subst (λ (k : List ℕ). AllByRecursion (λ (c : ℕ). c < deliv) k) both.1 h.received in
          (record { known = after_ack (packet_pdu count sdu) h.known; waits = h.waits; radio = both.0; received = all.1 }, all.0)
      by (report_pdu fmc bits) both = (record { known = h.known; waits = h.waits; radio = both.0; received = h.received }, tt)

  module _ (key : EntityKey) where
    abbrev Known : Air → Type 0
    Known a = AreKnown a.radio deliv

    if_known : (b : Bool) (x y : Air) → Known x → Known y → Known (if b then x else y)
    if_known true x y first other = first
    if_known false x y first other = other

    -- ---- what the step takes

    taken_known : (event : Event) (s : RunState) (cause : RunCause) → Stands event s cause → Receives key deliv cause → Known (on_air s key)
        → Known (after_taking key cause (on_air s key))
    taken_known event s (by_air from home item) stands receives h = by (eq_by_cmp entity_cmp key from) refl
      where
        by : (t : Bool) → eq_by_cmp entity_cmp key from ≡ t
            → Known (if t then record (on_air s key) { radio = record (radio_of s key) { carried = (radio_of s key).carried + 1 } } else on_air s key)
        by false apart = h
        by true refinement =
            let same : key ≡ from = entity_exact key from ((Equal-is (entity_cmp key from)).0 refinement) in
            carried_known (radio_of s key) h item (ap (λ (k : EntityKey). nth (radio_of s k).items (radio_of s k).carried) same ∙ stands.1) (receives refinement)
    taken_known event s (by_ack from home item rest) stands receives h = by (eq_by_cmp entity_cmp key from) refl
      where
        by : (t : Bool) → eq_by_cmp entity_cmp key from ≡ t
            → Known (if t then record (on_air s key) { radio = record { items = rest; carried = (radio_of s key).carried - 1 } } else on_air s key)
        by false apart = h
        by true refinement =
            let same : key ≡ from = entity_exact key from ((Equal-is (entity_cmp key from)).0 refinement) in
            (acked_known (radio_of s key) h item rest (ap (λ (k : EntityKey). (radio_of s k).items) same ∙ stands.1)
            (ap (λ (k : EntityKey). (radio_of s k).carried == 0) same ∙ stands.2)).0
    taken_known event s (by_release gnb who) stands receives h =
        if_known (eq_by_cmp ue_cmp key.ue who) (record { epoch = None; radio = lost_in (on_air s key).epoch (on_air s key).radio }) (on_air s key)
        (lost_known (on_air s key).epoch (on_air s key).radio h) h
    taken_known event s (by_order node order) stands receives h = h
    taken_known event s (by_tick node) stands receives h = h
    taken_known event s (by_octets from to octets) stands receives h = h
    taken_known event s (by_octets_on from octets) stands receives h = h
    taken_known event s (by_attach plan) stands receives h = h
    taken_known event s (by_offer who q sdu) stands receives h = h
    taken_known event s (by_item end item rest) stands receives h = h
    taken_known event s (by_control_message number l to) stands receives h = h

    -- ---- the radio follows its terminal

    module _ (reading : Reading) where
      moved_known : (now : Option ℕ) (a : Air) → Known a → Known (moved_to (plain_world reading) now a)
      moved_known now a h =
          if_known (same_epoch (plain_world reading) a.epoch now) a (record { epoch = now; radio = lost_in a.epoch a.radio }) h (lost_known a.epoch a.radio h)

      followed_known : (node : NodeId) (now : Option ℕ) (a : Air) → Known a → Known (followed (plain_world reading) key node now a)
      followed_known (Ue w) now a h =
          if_known (eq_by_cmp ue_cmp key.ue (record { 0 = w })) (moved_to (plain_world reading) now a) a (moved_known now a h) h
      followed_known (CuCp g) now a h = h
      followed_known (CuUp g k) now a h = h
      followed_known (Du g k) now a h = h
      followed_known Core now a h = h

    -- ---- what is put stands behind all that was carried

    more_known : (a : Air) (item : OnRadio) → Known a → Known (with_item item a)
    more_known a item h = record { known = h.known; waits = _; radio = more_put a.radio h.known h.waits h.radio (item ∷ []); received = h.received }

    put_known : (taken : Option ℕ) (output : RunPut) (a : Air) → Known a → Known (after_put key taken output a)
    put_known taken (radio who q dir epoch tag pdu) a h =
        if_known (eq_by_cmp entity_cmp key (entity who q dir) && is_epoch a.epoch epoch)
        (with_item (record { key = entity who q dir; count = count_beside tag taken; content = pdu }) a) a
        (more_known a (record { key = entity who q dir; count = count_beside tag taken; content = pdu }) h) h
    put_known taken (control to who m) a h = h
    put_known taken (packet to teid who q dir tag load) a h = h
    put_known taken (deliver who q dir count p) a h = h
    put_known taken (dropped reason) a h = h
    put_known taken (held reason) a h = h
    put_known taken (opened teid) a h = h
    put_known taken (closed teid) a h = h
    put_known taken (failed who cause) a h = h
    put_known taken (no reason) a h = h

    puts_known : (taken : Option ℕ) (outputs : List RunPut) (a : Air) → Known a → Known (after_puts key taken outputs a)
    puts_known taken [] a h = h
    puts_known taken (output ∷ outputs) a h = puts_known taken outputs (after_put key taken output a) (put_known taken output a h)

    -- ---- a unit acts; the core puts

    pub known_then : (reading : Reading) (event : Event) (s t : RunState) (cause : RunCause) (outputs : List RunPut) (units : Units (Message Token) Token)
        (lines : List (RunLine (Message Token))) → Stands event s cause → Receives key deliv cause
        → carried_out (plain_world reading) (node_of cause) (count_of cause) (first_of (plain_world reading) cause) outputs units s ≡ goes lines t
        → AreKnown (radio_of s key) deliv → AreKnown (radio_of t key) deliv
    known_then reading event s t cause outputs units lines stands receives is h =
        subst Known (sym (acts_so (plain_world reading) key cause outputs units s t lines is))
        (puts_known (count_of cause) outputs _
        (followed_known reading (node_of cause) (epoch_now (plain_world reading) (record s { units = units }) key.ue) (after_taking key cause (on_air s key))
        (taken_known event s cause stands receives h)))

    pub known_put : (reading : Reading) (s t : RunState) (node : NodeId) (taken : Option ℕ) (outputs : List RunPut) (lines : List (RunLine (Message Token)))
        → (put_out_all (plain_world reading) node taken outputs s next check_spans) ≡ goes lines t
        → AreKnown (radio_of s key) deliv → AreKnown (radio_of t key) deliv
    known_put reading s t node taken outputs lines is h =
        subst Known (sym (puts_so (plain_world reading) key node taken outputs s t lines is)) (puts_known taken outputs (on_air s key) h)

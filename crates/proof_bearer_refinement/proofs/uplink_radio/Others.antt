-- Steps of other units: the radio up of a bearer, and the terminal, stay as they are; a DU carries what stands there next.
use Rattle.std.proofs.Common.{◌≡◌, ℕ, ◌+◌, ◌-◌, Bool, true, false, ◌&&◌, List, [], ◌∷◌, ◌++◌, Option, Some, None, refl, sym, ap, subst, ◌∙◌}
use Rattle.std.specs.Prelude.{if◌then◌else◌, is_some}
use Rattle.std.proofs.lemmas.List.{append-nil}
use Rattle.std.specs.List.{AllByRecursion}
use Rattle.std.specs.Ordering.{eq_by_cmp, is_eq}
use Rattle.std.specs.Cmp.{tied_itself}
use Rattle.gnb_types.specs.declared.names.NodeId.{NodeId}
use Rattle.gnb_types.specs.declared.names.NodeId.TheVariants.{CuCp, CuUp, Du, Core, Ue}
use Rattle.gnb_types.specs.declared.names.UeId.{UeId}
use Rattle.gnb_types.specs.declared.names.BearerId.{BearerId}
use Rattle.gnb_types.specs.declared.keys.EntityKey.{EntityKey}
use Rattle.gnb_types.specs.declared.plans.Plan.{Plan}
use Rattle.gnb_types.specs.Orders.{ue_cmp, entity_cmp}
use Rattle.gnb_types.proofs.OrderLemmas.{ue_total, entity_total}
use Rattle.tables.specs.Tables.{find}
use Rattle.tables.proofs.TableLaws.{find-put-other}
use Rattle.message_types.specs.declared.rrc.Token.{Token}
use Rattle.scenario_text.specs.declared.event.Event.{Event}
use Rattle.unit_defs.specs.Ways.{Message, Pdu, packet_pdu, report_pdu, Load, uplink, Put, control, packet, radio, deliver, dropped, held, opened, closed, failed, no}
use Rattle.unit_defs.specs.Ue.{UeNode, new_ue}
use Rattle.transport_defs.specs.Links.{Radio, silent, is_epoch, nth}
use Rattle.run_defs.specs.Lines.{RunLine}
use Rattle.run_defs.specs.Units.{Units, ue_of}
use Rattle.run_defs.specs.Written.{Written}
use Rattle.run_defs.specs.States.{entity, was_attached}
use Rattle.run_defs.specs.Steps.{epoch_now, count_beside}
use Rattle.run_defs.specs.Runs.{Reading, plain_world}
use Rattle.proof_run_steps.specs.steps.Causes.{by_order, by_tick, by_octets, by_octets_on, by_attach, by_release, by_offer, by_item, by_air, by_ack, by_control_message, Stands, node_of, count_of}
use Rattle.proof_run_steps.proofs.steps.Frames.{HasUnits, units_by, act_units}
use Rattle.proof_run_steps.proofs.plans.Frames.{HasPlans, plans_by, act_plans}
use Rattle.proof_run_steps.specs.radio_steps.Radios.{OnAir, on_air, lost_in, after_taking, with_item, after_puts, moved_to, followed}
use Rattle.proof_run_steps.proofs.radio_steps.Tracks.{acts_so}
use Rattle.bearer_defs.specs.uplink_defs.Models.{Model}
use Rattle.bearer_defs.specs.uplink_defs.Orders as up
use Rattle.proof_node_orders.specs.du_steps.Steps.{order_of}
use Rattle.proof_node_orders.specs.terminal_inputs.Inputs.{Models, packet_in, rest_of, IsShown}
use Rattle.proof_bearer_refinement.specs.uplink_radio.Radio.{RunState, RunCause, OnRadio, IsRadio, IsOnAir, up_key, IsAtTerminal, StandsNext, IsOff, IsOther, Leaves, IsFrameStep}
use Rattle.proof_bearer_refinement.proofs.uplink_radio.Lists.{counts, after_carry, carried_one}
use Rattle.proof_bearer_refinement.proofs.uplink_radio.Taken.{ready_is_du}

abbrev Air : Type 0
Air = OnAir (Written Pdu)

abbrev Puts : Type 0
Puts = List (Put (Message Token) (Written (Load Pdu)) (Written Pdu))

stays_if : (t : Bool) (x : Bool) (a z : Air) → t ≡ false → (if t && x then z else a) ≡ a
stays_if true x a z never = absurd cc
stays_if false x a z never = refl

module _ (key : EntityKey) (taken : Option ℕ) where
  puts_off : (outputs : Puts) (a : Air) → AllByRecursion (IsOff key) outputs → after_puts key taken outputs a ≡ a
  puts_off [] a all = refl
  puts_off (radio who q dir epoch tag pdu ∷ outputs) a all =
      ap (after_puts key taken outputs)
      (stays_if (eq_by_cmp entity_cmp key (entity who q dir)) (is_epoch a.epoch epoch) a
      (with_item (record { key = entity who q dir; count = count_beside tag taken; content = pdu }) a) all.0)
      ∙ puts_off outputs a all.1
  puts_off (control to u m ∷ outputs) a all = puts_off outputs a all.1
  puts_off (packet to teid u b dir tag load ∷ outputs) a all = puts_off outputs a all.1
  puts_off (deliver u b dir count p ∷ outputs) a all = puts_off outputs a all.1
  puts_off (dropped reason ∷ outputs) a all = puts_off outputs a all.1
  puts_off (held reason ∷ outputs) a all = puts_off outputs a all.1
  puts_off (opened teid ∷ outputs) a all = puts_off outputs a all.1
  puts_off (closed teid ∷ outputs) a all = puts_off outputs a all.1
  puts_off (failed u cause ∷ outputs) a all = puts_off outputs a all.1
  puts_off (no reason ∷ outputs) a all = puts_off outputs a all.1

takes_off : (key : EntityKey) (cause : RunCause) (a : Air) → Leaves key cause → after_taking key cause a ≡ a
takes_off key (by_air from home item) a off = ap (λ (t : Bool). if t then record a { radio = record a.radio { carried = a.radio.carried + 1 } } else a) off
takes_off key (by_ack from home item rest) a off =
    ap (λ (t : Bool). if t then record a { radio = record { items = rest; carried = a.radio.carried - 1 } } else a) off
takes_off key (by_release gnb who) a off = ap (λ (t : Bool). if t then record { epoch = None; radio = lost_in a.epoch a.radio } else a) off
takes_off key (by_order node order) a off = refl
takes_off key (by_tick node) a off = refl
takes_off key (by_octets from to octets) a off = refl
takes_off key (by_octets_on end octets) a off = refl
takes_off key (by_attach plan) a off = refl
takes_off key (by_offer who q sdu) a off = refl
takes_off key (by_item end item rest) a off = refl
takes_off key (by_control_message number l to) a off = refl

silent_has : (r : Radio (Written Pdu)) (item : OnRadio) → r ≡ silent → nth r.items r.carried ≡ Some item → ⊥
silent_has r item is found =
    let none : None ≡ Some item = sym (ap (λ (x : Radio (Written Pdu)). nth x.items x.carried) is) ∙ found in absurd cc

module _ (reading : Reading) where
  follows_off : (ue : UeId) (bearer : BearerId) (node : NodeId) (now : Option ℕ) (a : Air) → IsOther ue node
      → followed (plain_world reading) (up_key ue bearer) node now a ≡ a
  follows_off ue bearer (Ue w) now a other = ap (λ (t : Bool). if t then moved_to (plain_world reading) now a else a) other
  follows_off ue bearer (CuCp g) now a other = refl
  follows_off ue bearer (CuUp g k) now a other = refl
  follows_off ue bearer (Du g k) now a other = refl
  follows_off ue bearer Core now a other = refl

  module _ (s t : RunState) (ue : UeId) (bearer : BearerId) where
    abbrev key : EntityKey
    key = up_key ue bearer

    -- where the radio, the terminal and its plan stay
    pub stays_at : (b : Models) → IsAtTerminal reading ue bearer s b → on_air t key ≡ on_air s key → ue_of t.units ue ≡ ue_of s.units ue
        → was_attached t ue ≡ was_attached s ue → IsAtTerminal reading ue bearer t b
    stays_at b refinement same there attached = record {
      terminal = refinement.terminal;
      there = there ∙ refinement.there;
      itself = refinement.itself;
      attached = attached ∙ refinement.attached;
      shown = refinement.shown;
      epoch = ap (λ (a : Air). a.epoch) same ∙ refinement.epoch;
      radio = subst (λ (a : Air). IsOnAir a b.up) (sym same) refinement.radio;
    }

    module _ (cause : RunCause) (outputs : Puts) (units : Units (Message Token) Token) (step : IsFrameStep reading s t ue bearer cause outputs units) where
      air_then : on_air t key ≡ after_taking key cause (on_air s key)
      air_then =
          acts_so (plain_world reading) key cause outputs units s t step.lines step.goes_on
          ∙ puts_off key (count_of cause) outputs
          (followed (plain_world reading) key (node_of cause) (epoch_now (plain_world reading) (record s { units = units }) ue) (after_taking key cause (on_air s key)))
          step.off
          ∙ follows_off ue bearer (node_of cause) (epoch_now (plain_world reading) (record s { units = units }) ue) (after_taking key cause (on_air s key)) step.other

      module _ (comes : (plan : Plan) → cause ≡ by_attach plan → eq_by_cmp ue_cmp ue plan.ue ≡ false) where
        there_then : ue_of t.units ue ≡ ue_of s.units ue
        there_then =
            ap (λ (w : Units (Message Token) Token). ue_of w ue)
            (subst (HasUnits (plain_world reading) {X = RunLine (Message Token)} (units_by (plain_world reading) cause units)) step.goes_on
            (act_units (plain_world reading) cause outputs units s))
            ∙ by cause comes ∙ step.terminal
          where
            by : (c : RunCause) → ((plan : Plan) → c ≡ by_attach plan → eq_by_cmp ue_cmp ue plan.ue ≡ false)
                → ue_of (units_by (plain_world reading) c units) ue ≡ ue_of units ue
            by (by_attach plan) away = find-put-other ue_total units.ues plan.ue (new_ue plan) ue (away plan refl)
            by (by_order node order) away = refl
            by (by_tick node) away = refl
            by (by_octets from w octets) away = refl
            by (by_octets_on end octets) away = refl
            by (by_release gnb who) away = refl
            by (by_offer who q sdu) away = refl
            by (by_item end item rest) away = refl
            by (by_air from home item) away = refl
            by (by_ack from home item rest) away = refl
            by (by_control_message number l w) away = refl

        attached_then : was_attached t ue ≡ was_attached s ue
        attached_then =
            ap (λ (ps : List (UeId × Plan)). is_some (find ue_cmp ps ue))
            (subst (HasPlans (plain_world reading) {X = RunLine (Message Token)} (plans_by (plain_world reading) cause s.plans)) step.goes_on
            (act_plans (plain_world reading) cause outputs units s))
            ∙ by cause comes
          where
            by : (c : RunCause) → ((plan : Plan) → c ≡ by_attach plan → eq_by_cmp ue_cmp ue plan.ue ≡ false)
                → is_some (find ue_cmp (plans_by (plain_world reading) c s.plans) ue) ≡ is_some (find ue_cmp s.plans ue)
            by (by_attach plan) away = ap is_some (find-put-other ue_total s.plans plan.ue plan ue (away plan refl))
            by (by_order node order) away = refl
            by (by_tick node) away = refl
            by (by_octets from w octets) away = refl
            by (by_octets_on end octets) away = refl
            by (by_release gnb who) away = refl
            by (by_offer who q sdu) away = refl
            by (by_item end item rest) away = refl
            by (by_air from home item) away = refl
            by (by_ack from home item rest) away = refl
            by (by_control_message number l w) away = refl

    pub beside_then : (b : Models) → IsAtTerminal reading ue bearer s b → (cause : RunCause) (outputs : Puts) (units : Units (Message Token) Token)
        → Leaves key cause → IsFrameStep reading s t ue bearer cause outputs units → IsAtTerminal reading ue bearer t b
    beside_then b refinement cause outputs units leaves step =
        stays_at b refinement (air_then cause outputs units step ∙ takes_off key cause (on_air s key) leaves)
        (there_then cause outputs units step (λ plan is. subst (Leaves key) is leaves))
        (attached_then cause outputs units step (λ plan is. subst (Leaves key) is leaves))

    -- ---- a DU takes what stands next

    module _ (event : Event) (b : Models) (refinement : IsAtTerminal reading ue bearer s b) (home : NodeId) (item : OnRadio)
        (stands : Stands {M = Message Token} {C = Token} {L = Written (Load Pdu)} {P = Written Pdu} event s (by_air key home item)) where
      abbrev air : Air
      air = on_air s key

      abbrev carried_more : Air
      carried_more = record air { radio = record air.radio { carried = air.radio.carried + 1 } }

      taken_here : after_taking {M = Message Token} {L = Written (Load Pdu)} key (by_air key home item) air ≡ carried_more
      taken_here = ap (λ (e : Bool). if e then carried_more else air) (ap is_eq (tied_itself entity_total key))

      next : IsRadio carried_more.radio (b.up.carried ++ counts (packet_in item.content.says)) (after_carry item.content.says b.up.air)
          × (b.up.air ≡ packet_in item.content.says ++ after_carry item.content.says b.up.air)
      next = carried_one air.radio b.up.carried b.up.air refinement.radio.radio item stands.1

      pub stands_next : StandsNext b.up item.content.says
      stands_next = by item.content.says next.1
        where
          by : (p : Pdu) → b.up.air ≡ packet_in p ++ after_carry p b.up.air → StandsNext b.up p
          by (packet_pdu count sdu) is = is
          by (report_pdu fmc bits) is = tt

      pub other_home : IsOther ue home
      other_home = by home refl
        where
          by : (h : NodeId) → home ≡ h → IsOther ue h
          by (Ue w) is = absurd (ready_is_du s ue (ue_of s.units ue) home stands.0 w is)
          by (CuCp g) is = tt
          by (CuUp g k) is = tt
          by (Du g k) is = tt
          by Core is = tt

      module _ (x teid : ℕ) where
        abbrev later : Model
        later = up.run b.up (order_of x b.up teid (uplink item.content.says))

        seen_by : (p : Pdu) (u : UeNode) → IsShown u bearer b → IsShown u bearer (record b { up = up.run b.up (order_of x b.up teid (uplink p)) })
        unfolding up.run up.after
        seen_by (packet_pdu count sdu) u h = record {
          seen = record { there = h.seen.there; connected = h.seen.connected; epoch = h.seen.epoch };
          sorted = h.sorted;
        }
        seen_by (report_pdu fmc bits) u h = record {
          seen = record { there = h.seen.there; connected = h.seen.connected; epoch = h.seen.epoch };
          sorted = h.sorted;
        }

        on_air_by : (p : Pdu) → IsRadio carried_more.radio (b.up.carried ++ counts (packet_in p)) (after_carry p b.up.air)
            → StandsNext b.up p → IsOnAir carried_more (up.run b.up (order_of x b.up teid (uplink p)))
        unfolding up.run up.after
        on_air_by (packet_pdu count sdu) its stands_so = record {
          radio = its;
          off = λ none. absurd (silent_has air.radio item (refinement.radio.off none) stands.1);
          quiet = λ off. absurd (let none : [] ≡ (count, sdu) ∷ rest_of b.up.air = sym (refinement.radio.quiet off).1 ∙ stands_so in cc);
        }
        on_air_by (report_pdu fmc bits) its stands_so = record {
          radio = record {
            carried = its.carried;
            left = its.left;
            items = its.items;
            so_many = its.so_many;
            known = its.known ∙ append-nil b.up.carried;
            waits = its.waits;
          };
          off = λ none. absurd (silent_has air.radio item (refinement.radio.off none) stands.1);
          quiet = λ off. refinement.radio.quiet off;
        }

        abbrev Of : RunCause
        Of = by_air key home item

        pub carried_then : (outputs : Puts) (units : Units (Message Token) Token) → IsFrameStep reading s t ue bearer (by_air key home item) outputs units
            → IsAtTerminal reading ue bearer t (record b { up = later })
        carried_then outputs units step =
            let same : on_air t key ≡ carried_more = air_then (by_air key home item) outputs units step ∙ taken_here in
            let comes : (plan : Plan) → Of ≡ by_attach plan → eq_by_cmp ue_cmp ue plan.ue ≡ false = λ plan is. absurd cc in
            record {
              terminal = refinement.terminal;
              there = there_then (by_air key home item) outputs units step comes ∙ refinement.there;
              itself = refinement.itself;
              attached = attached_then (by_air key home item) outputs units step comes ∙ refinement.attached;
              shown = seen_by item.content.says refinement.terminal refinement.shown;
              epoch = ap (λ (a : Air). a.epoch) same ∙ refinement.epoch;
              radio = subst (λ (a : Air). IsOnAir a later) (sym same) (on_air_by item.content.says next.0 stands_next);
            }

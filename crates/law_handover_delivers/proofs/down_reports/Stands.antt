-- What stands on tunnels reports only what was carried up, after a step too.
use Rattle.std.proofs.Common.{◌≡◌, ℕ, ◌<◌, ◌≤◌, Bool, true, false, cond, List, [], ◌∷◌, Option, Some, None, sym, ap, subst, ◌∙◌, arith}
use Rattle.std.specs.Prelude.{if◌then◌else◌, unwrap_or}
use Rattle.std.specs.List.{AllByRecursion}
use Rattle.std.specs.Ordering.{eq_by_cmp}
use Rattle.gnb_types.specs.declared.names.NodeId.{NodeId}
use Rattle.gnb_types.specs.declared.names.UeId.{UeId}
use Rattle.gnb_types.specs.declared.names.BearerId.{BearerId}
use Rattle.gnb_types.specs.declared.keys.TunnelEnd.{TunnelEnd}
use Rattle.gnb_types.specs.Orders.{tunnel_cmp}
use Rattle.gnb_types.proofs.OrderLemmas.{tunnel_total}
use Rattle.tables.specs.Tables.{find, put}
use Rattle.tables.proofs.TableLaws.{find-put}
use Rattle.scenario_text.specs.declared.event.Event.{Event}
use Rattle.intervals.proofs.Intervals.{all_append}
use Rattle.unit_defs.specs.Ways.{Pdu, packet_pdu, report_pdu, Load, fresh, numbered, frame, uplink, status, end_marker, control, packet, radio, deliver, dropped, held, opened, closed, failed, no}
use Rattle.run_defs.specs.Steps.{count_beside}
use Rattle.run_defs.specs.States.{entity}
use Rattle.proof_run_steps.specs.steps.Causes.{by_order, by_tick, by_octets, by_octets_on, by_attach, by_release, by_offer, by_item, by_air, by_ack, by_control_message, Stands}
use Rattle.proof_run_steps.specs.tunnel_steps.Standing.{standing, is_end, with_item, after_put, after_puts, after_taking}
use Rattle.proof_bearer_refinement.specs.uplink_radio.Radio.{RunState, RunCause}
use Rattle.law_handover_delivers.specs.down_reports.Reports.{PduIsTrue, PayloadIsTrue, LoadIsTrue, RunItem, ItemIsTrue, StandingIsTrue, RunPut, PutIsTrue, PutsAreTrue}

-- ---- where more was carried up

module _ (reached later : ℕ) (more : reached ≤ later) where
  pub pdu_later : (pdu : Pdu) → PduIsTrue reached pdu → PduIsTrue later pdu
  pdu_later (packet_pdu count sdu) told = tt
  pdu_later (report_pdu fmc bits) told = λ i said. (let low : i < reached = told i said in omega (arith, low, more))

  pub payload_later : (pdu : Option Pdu) → PayloadIsTrue reached pdu → PayloadIsTrue later pdu
  payload_later None told = tt
  payload_later (Some pdu) told = pdu_later pdu told

  load_later : (load : Load Pdu) → LoadIsTrue reached load → LoadIsTrue later load
  load_later (frame poll restart number pdu) told = payload_later pdu told
  load_later (uplink pdu) told = tt
  load_later (status lost delivered) told = tt
  load_later (fresh p) told = tt
  load_later (numbered sn count p) told = tt
  load_later end_marker told = tt

module _ (ue : UeId) (bearer : BearerId) where
  items_later : (reached later : ℕ) → reached ≤ later → (items : List RunItem) → AllByRecursion (ItemIsTrue ue bearer reached) items
      → AllByRecursion (ItemIsTrue ue bearer later) items
  items_later reached later more [] told = tt
  items_later reached later more (item ∷ items) told =
      ((λ own. load_later reached later more item.content.says (told.0 own)), items_later reached later more items told.1)

  pub standing_later : (reached later : ℕ) → reached ≤ later → (o : Option (List RunItem)) → StandingIsTrue ue bearer reached o
      → StandingIsTrue ue bearer later o
  standing_later reached later more None told = tt
  standing_later reached later more (Some items) told = items_later reached later more items told

  module _ (reached : ℕ) where
    abbrev AreTrue : Option (List RunItem) → Type 0
    AreTrue o = StandingIsTrue ue bearer reached o

    -- ---- the oldest item of a tunnel is taken, or lost

    pub taken_told : (event : Event) (s : RunState) (cause : RunCause) → Stands event s cause → ((end : TunnelEnd) → AreTrue (standing s end))
        → (end : TunnelEnd) → AreTrue (after_taking end cause (standing s end))
    taken_told event s (by_item from item rest) stands told end = by (eq_by_cmp tunnel_cmp end from)
      where
        left : AreTrue (Some rest)
        left = (subst AreTrue stands (told from)).1

        by : (t : Bool) → AreTrue (if t then Some rest else standing s end)
        by true = left
        by false = told end
    taken_told event s (by_order node order) stands told end = told end
    taken_told event s (by_tick node) stands told end = told end
    taken_told event s (by_octets from to octets) stands told end = told end
    taken_told event s (by_octets_on from octets) stands told end = told end
    taken_told event s (by_attach plan) stands told end = told end
    taken_told event s (by_release gnb who) stands told end = told end
    taken_told event s (by_offer who q sdu) stands told end = told end
    taken_told event s (by_air from home item) stands told end = told end
    taken_told event s (by_ack from home item rest) stands told end = told end
    taken_told event s (by_control_message number l to) stands told end = told end

    pub lost_told : (s t : RunState) (from : TunnelEnd) (item : RunItem) (rest : List RunItem) → standing s from ≡ Some (item ∷ rest)
        → t.tunnels ≡ put tunnel_cmp s.tunnels from rest → ((end : TunnelEnd) → AreTrue (standing s end)) → (end : TunnelEnd) → AreTrue (standing t end)
    lost_told s t from item rest stands is told end =
        subst AreTrue (sym (ap (λ tunnels. find tunnel_cmp tunnels end) is ∙ find-put tunnel_total s.tunnels from rest end))
        (by (eq_by_cmp tunnel_cmp end from))
      where
        by : (t : Bool) → AreTrue (cond t (Some rest) (standing s end))
        by true = (subst AreTrue stands (told from)).1
        by false = told end

    -- ---- what is put

    module _ (end : TunnelEnd) (node : NodeId) (taken : Option ℕ) where
      with_told : (item : RunItem) → ItemIsTrue ue bearer reached item → (o : Option (List RunItem)) → AreTrue o → AreTrue (with_item item o)
      with_told item tells None told = tt
      with_told item tells (Some items) told = all_append (ItemIsTrue ue bearer reached) items (item ∷ []) told (tells, tt)

      empty_told : (o : Option (List RunItem)) → AreTrue o → AreTrue (Some (unwrap_or o []))
      empty_told None told = tt
      empty_told (Some items) told = told

      if_told : (b : Bool) (x y : Option (List RunItem)) → AreTrue x → AreTrue y → AreTrue (if b then x else y)
      if_told true x y first other = first
      if_told false x y first other = other

      put_told : (output : RunPut) → PutIsTrue ue bearer reached output → (o : Option (List RunItem)) → AreTrue o → AreTrue (after_put end node taken output o)
      put_told (packet to teid who q dir tag load) tells o told =
          if_told (is_end end to teid) _ o (with_told (record { key = entity who q dir; count = count_beside tag taken; content = load }) tells o told) told
      put_told (opened teid) tells o told = if_told (is_end end node teid) (Some (unwrap_or o [])) o (empty_told o told) told
      put_told (closed teid) tells o told = if_told (is_end end node teid) None o tt told
      put_told (control to who message) tells o told = told
      put_told (radio who q dir epoch tag pdu) tells o told = told
      put_told (deliver who q dir count p) tells o told = told
      put_told (dropped reason) tells o told = told
      put_told (held reason) tells o told = told
      put_told (failed who cause) tells o told = told
      put_told (no reason) tells o told = told

      pub puts_told : (outputs : List RunPut) → PutsAreTrue ue bearer reached outputs → (o : Option (List RunItem)) → AreTrue o
          → AreTrue (after_puts end node taken outputs o)
      puts_told [] tell o told = told
      puts_told (output ∷ outputs) tell o told = puts_told outputs tell.1 (after_put end node taken output o) (put_told output tell.0 o told)

-- What stands on the radio down reports only what was carried up, after a step too.
use Rattle.std.proofs.Common.{◌≡◌, ℕ, ◌-◌, ◌≤◌, Bool, true, false, ◌&&◌, List, [], ◌∷◌, Option, Some, None, refl, sym, ap, subst, ◌∙◌}
use Rattle.std.specs.Prelude.{if◌then◌else◌}
use Rattle.std.specs.List.{AllByRecursion}
use Rattle.std.specs.Ordering.{eq_by_cmp}
use Rattle.std.specs.Cmp.{Equal-is}
use Rattle.gnb_types.specs.declared.names.NodeId.{NodeId}
use Rattle.gnb_types.specs.declared.names.NodeId.TheVariants.{CuCp, CuUp, Du, Core, Ue}
use Rattle.gnb_types.specs.declared.names.UeId.{UeId}
use Rattle.gnb_types.specs.declared.names.BearerId.{BearerId}
use Rattle.gnb_types.specs.declared.keys.TunnelEnd.{TunnelEnd}
use Rattle.gnb_types.specs.declared.keys.EntityKey.{EntityKey}
use Rattle.gnb_types.specs.Orders.{ue_cmp, tunnel_cmp, entity_cmp}
use Rattle.tables.specs.Tables.{find, put, at}
use Rattle.gnb_types.proofs.OrderLemmas.{entity_exact}
use Rattle.message_types.specs.declared.rrc.Token.{Token}
use Rattle.scenario_text.specs.declared.event.Event.{Event}
use Rattle.intervals.proofs.Intervals.{all_append}
use Rattle.unit_defs.specs.Ways.{Message, Pdu, control, packet, radio, deliver, dropped, held, opened, closed, failed, no}
use Rattle.transport_defs.specs.Links.{is_epoch}
use Rattle.run_defs.specs.Lines.{RunLine}
use Rattle.run_defs.specs.Units.{Units}
use Rattle.run_defs.specs.Written.{Written}
use Rattle.run_defs.specs.States.{new_state, goes, entity, radio_of, ◌next◌}
use Rattle.run_defs.specs.Steps.{carried_out, check_spans, put_out_all, count_beside, same_epoch, epoch_now}
use Rattle.run_defs.specs.Runs.{Reading, plain_world}
use Rattle.proof_run_steps.specs.steps.Causes.{by_order, by_tick, by_octets, by_octets_on, by_attach, by_release, by_offer, by_item, by_air, by_ack, by_control_message, Stands, node_of, count_of, first_of}
use Rattle.proof_run_steps.specs.tunnel_steps.Standing.{standing, after_taking as tunnel_taking}
use Rattle.proof_run_steps.proofs.tunnel_steps.Tracks.{acts_so as tunnel_acts, puts_so as tunnel_puts_so}
use Rattle.proof_run_steps.specs.radio_steps.Radios.{OnAir, on_air, lost_in, after_taking, with_item, after_put, after_puts, moved_to, followed}
use Rattle.proof_run_steps.proofs.radio_steps.Tracks.{acts_so, puts_so}
use Rattle.proof_bearer_refinement.specs.uplink_radio.Radio.{RunState, RunCause, OnRadio}
use Rattle.proof_bearer_refinement.specs.downlink_radio.Down.{down_key}
use Rattle.law_handover_delivers.specs.down_reports.Reports.{PduIsTrue, RadioIsTrue, ReportsDownAreTrue, StandingIsTrue, RunItem, RunPut, PutIsTrue, PutsAreTrue}
use Rattle.law_handover_delivers.proofs.down_reports.Stands.{pdu_later, standing_later, taken_told, puts_told, lost_told}

abbrev Air : Type 0
Air = OnAir (Written Pdu)

pub air_later : (reached later : ℕ) → reached ≤ later → (items : List OnRadio) → AllByRecursion (λ (item : OnRadio). PduIsTrue reached item.content.says) items
    → AllByRecursion (λ (item : OnRadio). PduIsTrue later item.content.says) items
air_later reached later more [] told = tt
air_later reached later more (item ∷ items) told = (pdu_later reached later more item.content.says told.0, air_later reached later more items told.1)

module _ (ue : UeId) (bearer : BearerId) (reached : ℕ) where
  abbrev key : EntityKey
  key = down_key ue bearer

  if_air : (b : Bool) (x y : Air) → RadioIsTrue reached x → RadioIsTrue reached y → RadioIsTrue reached (if b then x else y)
  if_air true x y first other = first
  if_air false x y first other = other

  lost_air : (o now epoch : Option ℕ) (a : Air) → RadioIsTrue reached a → RadioIsTrue reached (record { epoch = epoch; radio = lost_in o a.radio })
  lost_air None now epoch a told = told
  lost_air (Some e) now epoch a told = tt

  -- ---- what the step takes

  taken_air : (event : Event) (s : RunState) (cause : RunCause) → Stands event s cause → RadioIsTrue reached (on_air s key)
      → RadioIsTrue reached (after_taking key cause (on_air s key))
  taken_air event s (by_air from home item) stands told = if_air (eq_by_cmp entity_cmp key from) _ (on_air s key) told told
  taken_air event s (by_ack from home item rest) stands told = by (eq_by_cmp entity_cmp key from) refl
    where
      by : (t : Bool) → eq_by_cmp entity_cmp key from ≡ t
          → RadioIsTrue reached
          (if t then record (on_air s key) { radio = record { items = rest; carried = (on_air s key).radio.carried - 1 } } else on_air s key)
      by false refinement = told
      by true refinement =
          let same : key ≡ from = entity_exact key from ((Equal-is (entity_cmp key from)).0 refinement) in
          (subst (λ (xs : List OnRadio). AllByRecursion (λ (i : OnRadio). PduIsTrue reached i.content.says) xs)
          (ap (λ (k : EntityKey). (radio_of s k).items) same ∙ stands.1) told).1
  taken_air event s (by_release gnb who) stands told =
      if_air (eq_by_cmp ue_cmp key.ue who) _ (on_air s key) (lost_air (on_air s key).epoch None None (on_air s key) told) told
  taken_air event s (by_order node order) stands told = told
  taken_air event s (by_tick node) stands told = told
  taken_air event s (by_octets from to octets) stands told = told
  taken_air event s (by_octets_on from octets) stands told = told
  taken_air event s (by_attach plan) stands told = told
  taken_air event s (by_offer who q sdu) stands told = told
  taken_air event s (by_item end item rest) stands told = told
  taken_air event s (by_control_message number l to) stands told = told

  -- ---- the radio follows its terminal

  module _ (reading : Reading) where
    moved_air : (now : Option ℕ) (a : Air) → RadioIsTrue reached a → RadioIsTrue reached (moved_to (plain_world reading) now a)
    moved_air now a told = if_air (same_epoch (plain_world reading) a.epoch now) a _ told (lost_air a.epoch now now a told)

    followed_air : (node : NodeId) (now : Option ℕ) (a : Air) → RadioIsTrue reached a → RadioIsTrue reached (followed (plain_world reading) key node now a)
    followed_air (Ue w) now a told = if_air (eq_by_cmp ue_cmp key.ue (record { 0 = w })) _ a (moved_air now a told) told
    followed_air (CuCp g) now a told = told
    followed_air (CuUp g k) now a told = told
    followed_air (Du g k) now a told = told
    followed_air Core now a told = told

  -- ---- what is put

  put_air : (taken : Option ℕ) (output : RunPut) → PutIsTrue ue bearer reached output → (a : Air) → RadioIsTrue reached a
      → RadioIsTrue reached (after_put key taken output a)
  put_air taken (radio who q dir epoch tag pdu) tells a told = by (eq_by_cmp entity_cmp key (entity who q dir)) refl (is_epoch a.epoch epoch)
    where
      item : OnRadio
      item = record { key = entity who q dir; count = count_beside tag taken; content = pdu }

      by : (t : Bool) → eq_by_cmp entity_cmp key (entity who q dir) ≡ t → (e : Bool) → RadioIsTrue reached (if t && e then with_item item a else a)
      by false refinement e = told
      by true refinement false = told
      by true refinement true = all_append (λ (i : OnRadio). PduIsTrue reached i.content.says) a.radio.items (item ∷ []) told (tells refinement, tt)
  put_air taken (control to who m) tells a told = told
  put_air taken (packet to teid who q dir tag load) tells a told = told
  put_air taken (deliver who q dir count p) tells a told = told
  put_air taken (dropped reason) tells a told = told
  put_air taken (held reason) tells a told = told
  put_air taken (opened teid) tells a told = told
  put_air taken (closed teid) tells a told = told
  put_air taken (failed who cause) tells a told = told
  put_air taken (no reason) tells a told = told

  puts_air : (taken : Option ℕ) (outputs : List RunPut) → PutsAreTrue ue bearer reached outputs → (a : Air) → RadioIsTrue reached a
      → RadioIsTrue reached (after_puts key taken outputs a)
  puts_air taken [] tell a told = told
  puts_air taken (output ∷ outputs) tell a told = puts_air taken outputs tell.1 (after_put key taken output a) (put_air taken output tell.0 a told)

  -- ---- the oldest item of a tunnel is lost; the core puts; a unit acts

  pub told_first_lost : (s t : RunState) (from : TunnelEnd) (item : RunItem) (rest : List RunItem) → standing s from ≡ Some (item ∷ rest)
      → t.tunnels ≡ put tunnel_cmp s.tunnels from rest → on_air t key ≡ on_air s key → ReportsDownAreTrue ue bearer reached s
      → ReportsDownAreTrue ue bearer reached t
  told_first_lost s t from item rest stands is same told = record {
    tunnels = lost_told ue bearer reached s t from item rest stands is told.tunnels;
    radio = subst (RadioIsTrue reached) (sym same) told.radio;
  }

  pub told_alike : (s t : RunState) → t.tunnels ≡ s.tunnels → on_air t key ≡ on_air s key → ReportsDownAreTrue ue bearer reached s
      → ReportsDownAreTrue ue bearer reached t
  told_alike s t is same told = record {
    tunnels = λ end. subst (StandingIsTrue ue bearer reached) (sym (ap (λ tunnels. find tunnel_cmp tunnels end) is)) (told.tunnels end);
    radio = subst (RadioIsTrue reached) (sym same) told.radio;
  }

  pub told_put : (reading : Reading) (s t : RunState) (node : NodeId) (taken : Option ℕ) (outputs : List RunPut) (lines : List (RunLine (Message Token)))
      → (put_out_all (plain_world reading) node taken outputs s next check_spans) ≡ goes lines t → ReportsDownAreTrue ue bearer reached s
      → PutsAreTrue ue bearer reached outputs → ReportsDownAreTrue ue bearer reached t
  told_put reading s t node taken outputs lines is told tell = record {
    tunnels = λ end.
        subst (StandingIsTrue ue bearer reached) (sym (tunnel_puts_so (plain_world reading) end node taken outputs s t lines is))
        (puts_told ue bearer reached end node taken outputs tell (standing s end) (told.tunnels end));
    radio =
        subst (RadioIsTrue reached) (sym (puts_so (plain_world reading) key node taken outputs s t lines is))
        (puts_air taken outputs tell (on_air s key) told.radio);
  }

  pub told_then : (reading : Reading) (event : Event) (s t : RunState) (cause : RunCause) (outputs : List RunPut) (units : Units (Message Token) Token)
      (lines : List (RunLine (Message Token))) → Stands event s cause
      → carried_out (plain_world reading) (node_of cause) (count_of cause) (first_of (plain_world reading) cause) outputs units s ≡ goes lines t
      → ReportsDownAreTrue ue bearer reached s → PutsAreTrue ue bearer reached outputs → ReportsDownAreTrue ue bearer reached t
  told_then reading event s t cause outputs units lines stands is told tell = record {
    tunnels = λ end.
        subst (StandingIsTrue ue bearer reached) (sym (tunnel_acts (plain_world reading) end cause outputs units s t lines is))
        (puts_told ue bearer reached end (node_of cause) (count_of cause) outputs tell (tunnel_taking end cause (standing s end))
        (taken_told ue bearer reached event s cause stands told.tunnels end));
    radio =
        subst (RadioIsTrue reached) (sym (acts_so (plain_world reading) key cause outputs units s t lines is))
        (puts_air (count_of cause) outputs tell _
        (followed_air reading (node_of cause) (epoch_now (plain_world reading) (record s { units = units }) key.ue) (after_taking key cause (on_air s key))
        (taken_air event s cause stands told.radio)));
  }

pub told_later : (ue : UeId) (bearer : BearerId) (reached later : ℕ) (s : RunState) → reached ≤ later → ReportsDownAreTrue ue bearer reached s
    → ReportsDownAreTrue ue bearer later s
told_later ue bearer reached later s more told = record {
  tunnels = λ end. standing_later ue bearer reached later more (standing s end) (told.tunnels end);
  radio = air_later reached later more (on_air s (down_key ue bearer)).radio.items told.radio;
}

pub told_at_first : (ue : UeId) (bearer : BearerId) (reached : ℕ) → ReportsDownAreTrue ue bearer reached new_state
unfolding find at
told_at_first ue bearer reached = record { tunnels = λ end. tt; radio = tt }

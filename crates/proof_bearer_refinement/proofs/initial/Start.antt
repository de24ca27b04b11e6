-- The initial state refines the models, and an offered packet is a step from there.
use Rattle.std.proofs.Common.{◌≡◌, ℕ, List, [], ◌∷◌, None, refl, sym, subst}
use Rattle.tables.specs.Shelves.{seen}
use Rattle.tables.specs.Tables.{find, put, without, entry_after, first_entry, at, map_values}
use Rattle.transaction_defs.specs.Callees.{kept_at, newest, verdict, taken, kept_reply, keep, keep_for}
use Rattle.transaction_defs.specs.Callers.{opened_at, is_open, begin, keep_request, is_awaited, close, due, after_tick, rests}
use Rattle.pdcp_defs.specs.Counts.{near_count, count_below}
use Rattle.pdcp_defs.specs.Receivers.{is_duplicate, is_ahead, stored, deliver, received_bits}
use Rattle.pdcp_defs.specs.Senders.{first, has_room, numbered, may_restore, restored, confirmed_to, confirmed_by}
use Rattle.unit_defs.specs.Core.{switch_path, core_acts, CorePath}
use Rattle.unit_defs.specs.CuCpRecords.{act_one, act_all, carry_out}
use Rattle.unit_defs.specs.CuCpRows.{attach, attach_has_tunnels, attach_is_placed, attach_fails, move_begins, move_has_uplinks, move_is_placed, handover_begins, handover, handover_is_acknowledged, handover_is_declined, handover_expires, handover_is_frozen, handover_is_not_frozen, command, cancel, release, handed_over, offer, offer_has_tunnels, offer_is_declined, offer_is_placed, status, xn_cancelled, xn_released, place_is_renewed, is_switched, path_is_switched, completes, completes_again, returns as returns_2, arrives, arrives_again}
use Rattle.unit_defs.specs.CuCp.{answer, reply_received, token_received, control_received, tick, cu_cp_acts}
use Rattle.unit_defs.specs.CuUp.{ended, end_where_over, makes, fits, setup, add_uplinks, switch, freeze, take_status, resume, release as release_2, start, set_up, control_received as control_came_2, take, poll, tick as tick_2, cu_up_acts, new_cu_up}
use Rattle.unit_defs.specs.Du.{replaces, setup as setup_2, modify, release as release_3, relay_down, relay_up, start as start_2, set_up as set_up_2, control_received as control_came_3, take as take_2, pass_up, confirm, tick as tick_3, du_acts}
use Rattle.unit_defs.specs.Static.{cu_up_placed, du_placed, cu_cp_placed}
use Rattle.unit_defs.specs.Transactions.{kind_of, with_instance, waits_at, with_waiting, terminal_rests, begin_request, ask, advance, ask_at_once, replied, replied_late, on_request, on_reply}
use Rattle.unit_defs.specs.Ue.{new_ue, placed, number_each, number_waiting, connect_bearer, obey, arrive, come_back, accept, fail, offer as offer_2, take as take_3, confirm as confirm_2, ue_acts}
use Rattle.unit_defs.specs.CuUpBearers.{made, framed, sent, sent_again, number_each as number_each_2, number_waiting as number_waiting_2, deliver_stored, forwarded_down, forwarded_up, with_uplink, begin_downlink, switched, frozen_to, with_status, resumed}
use Rattle.unit_defs.specs.CuUpItems.{held_reason, took_fresh, took_numbered, took_uplink, took_report, took_delivery_status, uplink_ended, up_ended, took}
use Rattle.unit_defs.specs.CuUpRecords.{reserved, DownlinkTunnel}
use Rattle.transport_defs.specs.Links.{put_control_message, control_message, landed, in_flight_of}
use Rattle.run_defs.specs.Conditions.{rests as rests_2, n3_from}
use Rattle.run_defs.specs.Events.{static, start as start_3, attach as attach_2, offer as offer_3, get, air, ack, give, lose_message, lose_item, pump, tick as tick_4, poll as poll_2, fail as fail_2, arrive as arrive_2, come_back as come_back_2, handover as handover_2, cancel as cancel_2, release as release_4, ask as ask_2, inject_message, inject_item}
use Rattle.run_defs.specs.Home.{reach, fits as fits_2, is_at_home}
use Rattle.run_defs.specs.Runs.{happens, run_from, run, Run, Reading, plain_world}
use Rattle.run_defs.specs.Settling.{round, settle}
use Rattle.run_defs.specs.Steps.{span, check_spans, put_on_tunnel, put_on_radio, put_control, opens, closes, lose_radios, put_out_all, does, step}
use Rattle.gnb_types.specs.declared.names.Gnb.TheVariants.{A}
use Rattle.gnb_types.specs.declared.names.NodeId.TheVariants.{CuUp}
use Rattle.gnb_types.specs.declared.names.Dir.TheVariants.{Dl}
use Rattle.gnb_types.specs.declared.names.SnBits.TheVariants.{Len12}
use Rattle.unit_defs.specs.Ways.{Message}
use Rattle.message_types.specs.declared.rrc.Token.{Token}
use Rattle.scenario_text.specs.declared.event.Event.TheVariants as script
use Rattle.run_defs.specs.Lines.{put_item, tunnel_link, shown}
use Rattle.run_defs.specs.States.{entity}
use Rattle.law_terminals_are_isolated.specs.own_events.Passed.{not_yet as same_state}
use Rattle.bearer_defs.specs.chain_defs.Models as down_models
use Rattle.bearer_defs.specs.chain_defs.Orders as down
use Rattle.bearer_defs.specs.uplink_defs.Models as up_models
use Rattle.proof_cu_up_orders.specs.bearer_orders.Happenings.{Contexts}
use Rattle.proof_cu_up_orders.specs.bearer_orders.Down as downs
use Rattle.proof_cu_up_orders.specs.bearer_orders.Up as ups
use Rattle.proof_cu_up_orders.specs.bearer_orders.Starts.{DownStarts, UpStarts}
use Rattle.proof_cu_up_orders.proofs.bearer_orders.Starts.{set_up_starts}
use Rattle.proof_bearer_refinement.specs.run_bearers.Bearers.{Numbering}
use Rattle.proof_bearer_refinement.specs.refinement_facts.Refinements.{RunItem, IsMirror}
use Rattle.proof_bearer_refinement.specs.du_puts.Worked.{terminal, bearer, plan}
use Rattle.proof_bearer_refinement.specs.core_step.Core.{PathLeads, IsOffer}
use Rattle.proof_bearer_refinement.specs.runs.Steps.{Point, IsRefined, an_offer, Steps, not_yet, further as then_step}
use Rattle.proof_bearer_refinement.specs.runs.Fair.{IsPassed}
use Rattle.proof_bearer_refinement.proofs.runs.Fair.{passed_is_fair}
use Rattle.proof_bearer_refinement.specs.initial.First as its
use Rattle.proof_bearer_refinement.proofs.initial.First.{nothing_stands, empty_mirror, its_model, contexts_are}

module _ (reading : Reading) (n : Numbering) where
  pub starts : (teid : ℕ) × (d : DownlinkTunnel) × DownStarts Len12 64 (its.first n) teid d its_model.0 × UpStarts (its.first n) teid its_model.0
  starts = set_up_starts (new_cu_up {M = Message Token} {C = Token} A 1) plan 1 terminal bearer (its.first n) its_model.0 its_model.1

  abbrev pub begins : Point
  begins = its.start n starts.0 starts.1

  pub refined : IsRefined reading n terminal bearer Len12 64 begins
  refined = record {
    mirrors = λ end o items is there. subst (λ (zs : List RunItem). IsMirror o.kind (begins.down.members o.context) (begins.up.members o.context) end.teid zs)
        (sym (nothing_stands end items there)) (empty_mirror n starts.0 starts.1 o.kind o.context end.teid);
    down = subst (λ (cs : Contexts). downs.Has Len12 64 begins.down cs) (sym (contexts_are n)) starts.2.1;
    up = subst (λ (cs : Contexts). ups.Has begins.up cs) (sym (contexts_are n)) starts.3;
  }

  -- ---- the run

  passed_set_up : IsPassed reading its.set_up
  unfolding seen find put without entry_after first_entry at map_values kept_at newest verdict taken kept_reply keep keep_for opened_at is_open begin keep_request is_awaited close due after_tick rests near_count count_below is_duplicate is_ahead stored deliver received_bits first has_room numbered may_restore restored confirmed_to confirmed_by switch_path core_acts act_one act_all carry_out attach attach_has_tunnels attach_is_placed attach_fails move_begins move_has_uplinks move_is_placed handover_begins handover handover_is_acknowledged handover_is_declined handover_expires handover_is_frozen handover_is_not_frozen command cancel release handed_over offer offer_has_tunnels offer_is_declined offer_is_placed status xn_cancelled xn_released place_is_renewed is_switched path_is_switched completes completes_again returns_2 arrives arrives_again answer reply_received token_received control_received tick cu_cp_acts ended end_where_over makes fits setup add_uplinks switch freeze take_status resume release_2 start set_up control_came_2 take poll tick_2 cu_up_acts replaces setup_2 modify release_3 relay_down relay_up start_2 set_up_2 control_came_3 take_2 pass_up confirm tick_3 du_acts cu_up_placed du_placed cu_cp_placed kind_of with_instance waits_at with_waiting terminal_rests begin_request ask advance ask_at_once replied replied_late on_request on_reply new_ue placed number_each number_waiting connect_bearer obey arrive come_back accept fail offer_2 take_3 confirm_2 ue_acts made framed sent sent_again number_each_2 number_waiting_2 deliver_stored forwarded_down forwarded_up with_uplink begin_downlink switched frozen_to with_status resumed held_reason took_fresh took_numbered took_uplink took_report took_delivery_status uplink_ended up_ended took reserved put_control_message control_message landed in_flight_of rests_2 static start_3 attach_2 offer_3 get air ack give lose_message lose_item pump tick_4 poll_2 fail_2 arrive_2 come_back_2 handover_2 cancel_2 release_4 ask_2 inject_message inject_item reach fits_2 is_at_home happens run_from run Run round settle span check_spans put_on_tunnel put_on_radio put_control opens closes lose_radios put_out_all does step down.run down.after down_models.initial
  passed_set_up = record { events = its.set_up_run; event = script.Start; before = its.set_up; there = refl; passes = same_state its.set_up }

  passed_offer : IsPassed reading (its.with_packet reading)
  unfolding seen find put without entry_after first_entry at map_values kept_at newest verdict taken kept_reply keep keep_for opened_at is_open begin keep_request is_awaited close due after_tick rests near_count count_below is_duplicate is_ahead stored deliver received_bits first has_room numbered may_restore restored confirmed_to confirmed_by switch_path core_acts act_one act_all carry_out attach attach_has_tunnels attach_is_placed attach_fails move_begins move_has_uplinks move_is_placed handover_begins handover handover_is_acknowledged handover_is_declined handover_expires handover_is_frozen handover_is_not_frozen command cancel release handed_over offer offer_has_tunnels offer_is_declined offer_is_placed status xn_cancelled xn_released place_is_renewed is_switched path_is_switched completes completes_again returns_2 arrives arrives_again answer reply_received token_received control_received tick cu_cp_acts ended end_where_over makes fits setup add_uplinks switch freeze take_status resume release_2 start set_up control_came_2 take poll tick_2 cu_up_acts replaces setup_2 modify release_3 relay_down relay_up start_2 set_up_2 control_came_3 take_2 pass_up confirm tick_3 du_acts cu_up_placed du_placed cu_cp_placed kind_of with_instance waits_at with_waiting terminal_rests begin_request ask advance ask_at_once replied replied_late on_request on_reply new_ue placed number_each number_waiting connect_bearer obey arrive come_back accept fail offer_2 take_3 confirm_2 ue_acts made framed sent sent_again number_each_2 number_waiting_2 deliver_stored forwarded_down forwarded_up with_uplink begin_downlink switched frozen_to with_status resumed held_reason took_fresh took_numbered took_uplink took_report took_delivery_status uplink_ended up_ended took reserved put_control_message control_message landed in_flight_of rests_2 static start_3 attach_2 offer_3 get air ack give lose_message lose_item pump tick_4 poll_2 fail_2 arrive_2 come_back_2 handover_2 cancel_2 release_4 ask_2 inject_message inject_item reach fits_2 is_at_home happens run_from run Run round settle span check_spans put_on_tunnel put_on_radio put_control opens closes lose_radios put_out_all does step down.run down.after down_models.initial
  passed_offer = record { events = its.offered_run; event = script.Start; before = its.with_packet reading; there = refl; passes = same_state (its.with_packet reading) }

  abbrev path : CorePath
  path = record { up = CuUp A 1; n3 = n3_from 1 1 1 }

  offer_goes : IsOffer reading its.set_up (its.with_packet reading) terminal bearer (7 ∷ []) path
  unfolding seen find put without entry_after first_entry at map_values kept_at newest verdict taken kept_reply keep keep_for opened_at is_open begin keep_request is_awaited close due after_tick rests near_count count_below is_duplicate is_ahead stored deliver received_bits first has_room numbered may_restore restored confirmed_to confirmed_by switch_path core_acts act_one act_all carry_out attach attach_has_tunnels attach_is_placed attach_fails move_begins move_has_uplinks move_is_placed handover_begins handover handover_is_acknowledged handover_is_declined handover_expires handover_is_frozen handover_is_not_frozen command cancel release handed_over offer offer_has_tunnels offer_is_declined offer_is_placed status xn_cancelled xn_released place_is_renewed is_switched path_is_switched completes completes_again returns_2 arrives arrives_again answer reply_received token_received control_received tick cu_cp_acts ended end_where_over makes fits setup add_uplinks switch freeze take_status resume release_2 start set_up control_came_2 take poll tick_2 cu_up_acts replaces setup_2 modify release_3 relay_down relay_up start_2 set_up_2 control_came_3 take_2 pass_up confirm tick_3 du_acts cu_up_placed du_placed cu_cp_placed kind_of with_instance waits_at with_waiting terminal_rests begin_request ask advance ask_at_once replied replied_late on_request on_reply new_ue placed number_each number_waiting connect_bearer obey arrive come_back accept fail offer_2 take_3 confirm_2 ue_acts made framed sent sent_again number_each_2 number_waiting_2 deliver_stored forwarded_down forwarded_up with_uplink begin_downlink switched frozen_to with_status resumed held_reason took_fresh took_numbered took_uplink took_report took_delivery_status uplink_ended up_ended took reserved put_control_message control_message landed in_flight_of rests_2 static start_3 attach_2 offer_3 get air ack give lose_message lose_item pump tick_4 poll_2 fail_2 arrive_2 come_back_2 handover_2 cancel_2 release_4 ask_2 inject_message inject_item reach fits_2 is_at_home happens run_from run Run round settle span check_spans put_on_tunnel put_on_radio put_control opens closes lose_radios put_out_all does step down.run down.after down_models.initial
  offer_goes = record {
    there = refl;
    lines = put_item (tunnel_link its.n3_end) (shown (entity terminal bearer Dl) None ((plain_world reading).show_item (its.item reading).content)) ∷ [];
    goes_on = refl;
  }

  path_leads : PathLeads n terminal bearer its.set_up begins.down
  unfolding seen find put without entry_after first_entry at map_values kept_at newest verdict taken kept_reply keep keep_for opened_at is_open begin keep_request is_awaited close due after_tick rests near_count count_below is_duplicate is_ahead stored deliver received_bits first has_room numbered may_restore restored confirmed_to confirmed_by switch_path core_acts act_one act_all carry_out attach attach_has_tunnels attach_is_placed attach_fails move_begins move_has_uplinks move_is_placed handover_begins handover handover_is_acknowledged handover_is_declined handover_expires handover_is_frozen handover_is_not_frozen command cancel release handed_over offer offer_has_tunnels offer_is_declined offer_is_placed status xn_cancelled xn_released place_is_renewed is_switched path_is_switched completes completes_again returns_2 arrives arrives_again answer reply_received token_received control_received tick cu_cp_acts ended end_where_over makes fits setup add_uplinks switch freeze take_status resume release_2 start set_up control_came_2 take poll tick_2 cu_up_acts replaces setup_2 modify release_3 relay_down relay_up start_2 set_up_2 control_came_3 take_2 pass_up confirm tick_3 du_acts cu_up_placed du_placed cu_cp_placed kind_of with_instance waits_at with_waiting terminal_rests begin_request ask advance ask_at_once replied replied_late on_request on_reply new_ue placed number_each number_waiting connect_bearer obey arrive come_back accept fail offer_2 take_3 confirm_2 ue_acts made framed sent sent_again number_each_2 number_waiting_2 deliver_stored forwarded_down forwarded_up with_uplink begin_downlink switched frozen_to with_status resumed held_reason took_fresh took_numbered took_uplink took_report took_delivery_status uplink_ended up_ended took reserved put_control_message control_message landed in_flight_of rests_2 static start_3 attach_2 offer_3 get air ack give lose_message lose_item pump tick_4 poll_2 fail_2 arrive_2 come_back_2 handover_2 cancel_2 release_4 ask_2 inject_message inject_item reach fits_2 is_at_home happens run_from run Run round settle span check_spans put_on_tunnel put_on_radio put_control opens closes lose_radios put_out_all does step down.run down.after down_models.initial
  path_leads = record { path = path; teid = 1; there = refl; one = refl; leads = refl }

  pub goes_on : Steps reading n terminal bearer Len12 64 begins (its.after reading n starts.0 starts.1)
  goes_on =
      then_step begins begins (its.after reading n starts.0 starts.1) (not_yet begins) (passed_is_fair reading its.set_up passed_set_up)
      (passed_is_fair reading (its.with_packet reading) passed_offer)
      (an_offer (record {
        who = terminal;
        which = bearer;
        packet = 7 ∷ [];
        path = path;
        offers = offer_goes;
        leads = λ own. path_leads;
        down = refl;
        up = refl;
      }))

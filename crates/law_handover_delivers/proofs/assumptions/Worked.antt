-- Whose the two TEIDs are after the freeze of a worked handover.
use Rattle.std.proofs.Common.{◌≡◌, Option, Some, None, refl, ap}
use Rattle.tables.specs.Shelves.{seen}
use Rattle.tables.specs.Tables.{find, put, without, entry_after, first_entry, at, map_values}
use Rattle.transaction_defs.specs.Callees.{kept_at, newest, verdict, taken, kept_reply, keep, keep_for}
use Rattle.transaction_defs.specs.Callers.{opened_at, is_open, begin, keep_request, is_awaited, close, due, after_tick, rests}
use Rattle.pdcp_defs.specs.Counts.{near_count, count_below}
use Rattle.pdcp_defs.specs.Receivers.{is_duplicate, is_ahead, stored, deliver, received_bits}
use Rattle.pdcp_defs.specs.Senders.{first, has_room, numbered, may_restore, restored, confirmed_to, confirmed_by}
use Rattle.unit_defs.specs.Core.{switch_path, core_acts}
use Rattle.unit_defs.specs.CuCpRecords.{act_one, act_all, carry_out}
use Rattle.unit_defs.specs.CuCpRows.{attach, attach_has_tunnels, attach_is_placed, attach_fails, move_begins, move_has_uplinks, move_is_placed, handover_begins, handover, handover_is_acknowledged, handover_is_declined, handover_expires, handover_is_frozen, handover_is_not_frozen, command, cancel, release, handed_over, offer, offer_has_tunnels, offer_is_declined, offer_is_placed, status, xn_cancelled, xn_released, place_is_renewed, is_switched, path_is_switched, completes, completes_again, returns as returns_2, arrives, arrives_again}
use Rattle.unit_defs.specs.CuCp.{answer, reply_received, token_received, control_received, tick, cu_cp_acts}
use Rattle.unit_defs.specs.CuUp.{ended, end_where_over, makes, fits, setup, add_uplinks, switch, freeze, take_status, resume, release as release_2, start, set_up, control_received as control_came_2, take, poll, tick as tick_2, cu_up_acts}
use Rattle.unit_defs.specs.Du.{replaces, setup as setup_2, modify, release as release_3, relay_down, relay_up, start as start_2, set_up as set_up_2, control_received as control_came_3, take as take_2, pass_up, confirm, tick as tick_3, du_acts}
use Rattle.unit_defs.specs.Static.{cu_up_placed, du_placed, cu_cp_placed}
use Rattle.unit_defs.specs.Transactions.{kind_of, with_instance, waits_at, with_waiting, terminal_rests, begin_request, ask, advance, ask_at_once, replied, replied_late, on_request, on_reply}
use Rattle.unit_defs.specs.Ue.{new_ue, placed, number_each, number_waiting, connect_bearer, obey, arrive, come_back, accept, fail, offer as offer_2, take as take_3, confirm as confirm_2, ue_acts}
use Rattle.unit_defs.specs.CuUpBearers.{made, framed, sent, sent_again, number_each as number_each_2, number_waiting as number_waiting_2, deliver_stored, forwarded_down, forwarded_up, with_uplink, begin_downlink, switched, frozen_to, with_status, resumed}
use Rattle.unit_defs.specs.CuUpItems.{held_reason, took_fresh, took_numbered, took_uplink, took_report, took_delivery_status, uplink_ended, up_ended, took}
use Rattle.unit_defs.specs.CuUpRecords.{reserved, forwarding_down, forwarding_up}
use Rattle.transport_defs.specs.Links.{put_control_message, control_message, landed, in_flight_of}
use Rattle.run_defs.specs.Conditions.{rests as rests_2}
use Rattle.run_defs.specs.Events.{static, start as start_3, attach as attach_2, offer as offer_3, get, air, ack, give, lose_message, lose_item, pump, tick as tick_4, poll as poll_2, fail as fail_2, arrive as arrive_2, come_back as come_back_2, handover as handover_2, cancel as cancel_2, release as release_4, ask as ask_2, inject_message, inject_item}
use Rattle.run_defs.specs.Home.{reach, fits as fits_2, is_at_home}
use Rattle.run_defs.specs.Runs.{happens, run_from, run, Run, Reading, plain_world}
use Rattle.run_defs.specs.Settling.{round, settle}
use Rattle.run_defs.specs.Steps.{span, check_spans, put_on_tunnel, put_on_radio, put_control, opens, closes, lose_radios, put_out_all, does, step}
use Rattle.gnb_types.specs.declared.names.Gnb.TheVariants.{B}
use Rattle.gnb_types.specs.declared.names.NodeId.TheVariants.{CuUp}
use Rattle.run_defs.specs.States.{new_state}
use Rattle.proof_bearer_refinement.specs.cu_up_step.Worked.{terminal, bearer, frozen_run}
use Rattle.proof_run_steps.specs.steps.Reached.{reached}
use Rattle.proof_bearer_refinement.specs.run_bearers.Bearers.{Numbering}
use Rattle.proof_bearer_refinement.specs.refinement_facts.Refinements.{RunState, Owned, owned_on}
use Rattle.law_handover_delivers.specs.assumptions.Worked.{LeadsThere}

-- whose they are in a state
record Ends : Type 0 where
  pub down : Option Owned
  pub up : Option Owned

abbrev ends_in : Numbering → Option RunState → Option Ends
ends_in n None = None
ends_in n (Some s) = Some (record { down = owned_on n terminal bearer s.units (CuUp B 1) 3; up = owned_on n terminal bearer s.units (CuUp B 1) 4 })

abbrev there : Numbering → Ends
there n =
    let to = n.number_of (record { gnb = B; number = 1; instance = 1 }) in
    record { down = Some (record { context = to; kind = forwarding_down }); up = Some (record { context = to; kind = forwarding_up }) }

its_ends : (reading : Reading) (n : Numbering) → ends_in n (reached (plain_world reading) frozen_run new_state) ≡ Some (there n)
unfolding seen find put without entry_after first_entry at map_values kept_at newest verdict taken kept_reply keep keep_for opened_at is_open begin keep_request is_awaited close due after_tick rests near_count count_below is_duplicate is_ahead stored deliver received_bits first has_room numbered may_restore restored confirmed_to confirmed_by switch_path core_acts act_one act_all carry_out attach attach_has_tunnels attach_is_placed attach_fails move_begins move_has_uplinks move_is_placed handover_begins handover handover_is_acknowledged handover_is_declined handover_expires handover_is_frozen handover_is_not_frozen command cancel release handed_over offer offer_has_tunnels offer_is_declined offer_is_placed status xn_cancelled xn_released place_is_renewed is_switched path_is_switched completes completes_again returns_2 arrives arrives_again answer reply_received token_received control_received tick cu_cp_acts ended end_where_over makes fits setup add_uplinks switch freeze take_status resume release_2 start set_up control_came_2 take poll tick_2 cu_up_acts replaces setup_2 modify release_3 relay_down relay_up start_2 set_up_2 control_came_3 take_2 pass_up confirm tick_3 du_acts cu_up_placed du_placed cu_cp_placed kind_of with_instance waits_at with_waiting terminal_rests begin_request ask advance ask_at_once replied replied_late on_request on_reply new_ue placed number_each number_waiting connect_bearer obey arrive come_back accept fail offer_2 take_3 confirm_2 ue_acts made framed sent sent_again number_each_2 number_waiting_2 deliver_stored forwarded_down forwarded_up with_uplink begin_downlink switched frozen_to with_status resumed held_reason took_fresh took_numbered took_uplink took_report took_delivery_status uplink_ended up_ended took reserved put_control_message control_message landed in_flight_of rests_2 static start_3 attach_2 offer_3 get air ack give lose_message lose_item pump tick_4 poll_2 fail_2 arrive_2 come_back_2 handover_2 cancel_2 release_4 ask_2 inject_message inject_item reach fits_2 is_at_home happens run_from run Run round settle span check_spans put_on_tunnel put_on_radio put_control opens closes lose_radios put_out_all does step
its_ends reading n = refl

no_ends : {X : Type 0} (a : Ends) → None ≡ Some a → X
no_ends a is = absurd cc

same_of : (a b : Ends) → Some a ≡ Some b → a ≡ b
same_of a b is = cc

led : (n : Numbering) (o : Option RunState) → ends_in n o ≡ Some (there n) → LeadsThere n o
led n None is = no_ends (there n) is
led n (Some s) is =
    let here : Ends = record { down = owned_on n terminal bearer s.units (CuUp B 1) 3; up = owned_on n terminal bearer s.units (CuUp B 1) 4 } in
    let same : here ≡ there n = same_of here (there n) is in
    record { down = ap (λ (e : Ends). e.down) same; up = ap (λ (e : Ends). e.up) same }

pub worked : (reading : Reading) (n : Numbering) → LeadsThere n (reached (plain_world reading) frozen_run new_state)
worked reading n = led n (reached (plain_world reading) frozen_run new_state) (its_ends reading n)

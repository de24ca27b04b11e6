use Rattle.std.proofs.Common.{◌<◌, refl, arith}
use Rattle.tables.specs.Tables.{find, put, without, at}
use Rattle.pdcp_defs.specs.Receivers.{is_duplicate, is_ahead, stored, deliver}
use Rattle.pdcp_defs.specs.Senders.{first, has_room, numbered, confirmed_to}
use Rattle.unit_defs.specs.Static.{cu_up_placed, du_placed, cu_cp_placed}
use Rattle.unit_defs.specs.Ue.{new_ue, placed, take as take_down, ue_acts}
use Rattle.unit_defs.specs.CuUpRecords.{reserved}
use Rattle.unit_defs.specs.CuUpBearers.{made, framed, sent, number_each, number_waiting}
use Rattle.unit_defs.specs.CuUpItems.{held_reason, took_fresh, took_delivery_status, took}
use Rattle.unit_defs.specs.CuUp.{end_where_over, take, cu_up_acts}
use Rattle.unit_defs.specs.Du.{take as take_frame, confirm, du_acts}
use Rattle.run_defs.specs.Steps.{span, check_spans, put_on_tunnel, put_on_radio, put_out_all, does}
use Rattle.run_defs.specs.Events.{static, offer, get, air, ack}
use Rattle.run_defs.specs.Runs.{happens, run_from, run, Run}
use Rattle.law_octets_say_the_same.proofs.octet_downlink_only.worked_scripts_are_met.Goals as goal

some : 0 < 1
some = omega arith

pub returns-clause-packets : goal.returns-clause-packets
unfolding find put without at is_duplicate is_ahead stored deliver first has_room numbered confirmed_to cu_up_placed du_placed cu_cp_placed new_ue placed take_down ue_acts reserved made framed sent number_each number_waiting held_reason took_fresh took_delivery_status took end_where_over take cu_up_acts take_frame confirm du_acts span check_spans put_on_tunnel put_on_radio put_out_all does static offer get air ack happens run_from run Run
returns-clause-packets c = λ reading. refl

pub returns-clause-script : goal.returns-clause-script
returns-clause-script c = (tt, (some, (some, (tt, (tt, (tt, (tt, (tt, (tt, tt)))))))))

pub returns-clause-confirmed : goal.returns-clause-confirmed
returns-clause-confirmed c = (tt, (some, (some, (tt, (tt, (tt, (tt, (tt, (tt, (tt, (tt, (tt, tt))))))))))))

use Rattle.std.proofs.Common.{refl}
use Rattle.tables.specs.Tables.{find, put, without, at}
use Rattle.pdcp_defs.specs.Senders.{first, has_room, numbered}
use Rattle.unit_defs.specs.Static.{cu_up_placed, du_placed, cu_cp_placed}
use Rattle.unit_defs.specs.Ue.{new_ue, placed}
use Rattle.unit_defs.specs.CuUpRecords.{reserved}
use Rattle.unit_defs.specs.CuUpBearers.{made, framed, sent, number_each, number_waiting}
use Rattle.unit_defs.specs.CuUpItems.{held_reason, took_fresh, took}
use Rattle.unit_defs.specs.CuUp.{end_where_over, take, cu_up_acts}
use Rattle.run_defs.specs.Steps.{span, check_spans, put_on_tunnel, put_out_all, does}
use Rattle.run_defs.specs.Events.{static, offer, get}
use Rattle.run_defs.specs.Runs.{happens, run_from, run, Run}
use Rattle.law_frames_are_numbered.proofs.tunnel_numbers.a_worked_run_numbers_a_tunnel.Goals as goal

pub returns : goal.returns
unfolding find put without at first has_room numbered cu_up_placed du_placed cu_cp_placed new_ue placed reserved made framed sent number_each number_waiting held_reason took_fresh took end_where_over take cu_up_acts span check_spans put_on_tunnel put_out_all does static offer get happens run_from run Run
returns c = λ reading. refl

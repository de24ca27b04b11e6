use Rattle.std.proofs.Common.{refl}
use Rattle.tables.specs.Tables.{find, put}
use Rattle.pdcp.specs.Pdus.{radio_data}
use Rattle.pdcp_defs.specs.Counts.{near_count, count_below}
use Rattle.pdcp_defs.specs.Senders.{first, has_room, numbered, confirmed_to}
use Rattle.pdcp_defs.specs.Receivers.{is_duplicate, stored, deliver}
use Rattle.dup_defs.specs.Senders.{number_waiting, offered, confirmed, leg_is, mode_is}
use Rattle.dup_defs.specs.dup_run_defs.Run.{offers, fails, mends, changes_mode, span}
use Rattle.dup_defs.specs.dup_run_defs.Steps.{drains, steps, script_of}
use Rattle.law_dup.proofs.rows.worked_scripts.Goals as goal

pub returns : goal.returns
unfolding find put radio_data near_count count_below first has_room numbered confirmed_to is_duplicate stored deliver number_waiting offered confirmed leg_is mode_is offers fails mends changes_mode span drains steps script_of
returns c = refl

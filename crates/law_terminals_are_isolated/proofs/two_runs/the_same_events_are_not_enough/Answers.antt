use Rattle.std.proofs.Common.{◌≡◌, ℕ, Option, Some, None, refl, sym, ap, ◌∙◌}
use Rattle.gnb_types.specs.Orders.{ue_cmp}
use Rattle.tables.specs.Tables.{find, put, without, at}
use Rattle.unit_defs.specs.Core.{CorePath}
use Rattle.unit_defs.specs.Messages.{teid_of}
use Rattle.unit_defs.specs.Static.{cu_up_placed, du_placed, cu_cp_placed}
use Rattle.unit_defs.specs.Ue.{new_ue, placed}
use Rattle.unit_defs.specs.CuUpRecords.{reserved}
use Rattle.run_defs.specs.Events.{static}
use Rattle.run_defs.specs.Runs.{Reading, plain_world, happens}
use Rattle.run_defs.specs.States.{new_state}
use Rattle.proof_run_steps.specs.steps.Reached.{reached}
use Rattle.law_terminals_are_isolated.specs.own_events.Events.{RunState}
use Rattle.law_terminals_are_isolated.specs.two_runs.Example.{second, alone, after_another}
use Rattle.law_terminals_are_isolated.proofs.two_runs.the_same_events_are_not_enough.Goals as goal

-- the TEID of the second terminal's path
abbrev path_teid : Option CorePath → ℕ
path_teid None = 0
path_teid (Some path) = teid_of path.n3 (record { 0 = 1 })

abbrev run_teid : Option RunState → ℕ
run_teid None = 0
run_teid (Some z) = path_teid (find ue_cmp z.core.paths second)

first_teid : (reading : Reading) → run_teid (reached (plain_world reading) after_another new_state) ≡ 3
unfolding find put without at cu_up_placed du_placed cu_cp_placed new_ue placed reserved static happens
first_teid reading = refl

other_teid : (reading : Reading) → run_teid (reached (plain_world reading) alone new_state) ≡ 1
unfolding find put without at cu_up_placed du_placed cu_cp_placed new_ue placed reserved static happens
other_teid reading = refl

pub returns-clause-alone : goal.returns-clause-alone
unfolding find put without at cu_up_placed du_placed cu_cp_placed new_ue placed reserved static happens
returns-clause-alone c = λ reading. refl

pub returns-clause-after : goal.returns-clause-after
unfolding find put without at cu_up_placed du_placed cu_cp_placed new_ue placed reserved static happens
returns-clause-after c = λ reading. refl

three_is_one : ◌≡◌ {A = ℕ} 3 1 → ⊥
three_is_one e = absurd cc

pub returns-clause-differ : goal.returns-clause-differ
returns-clause-differ c = λ reading s t e f h.
    three_is_one (sym (first_teid reading) ∙ ap run_teid e ∙ ap path_teid (λ i. (h.core i).path) ∙ sym (ap run_teid f) ∙ other_teid reading)

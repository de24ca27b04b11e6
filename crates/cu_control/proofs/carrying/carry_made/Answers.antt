use Rattle.std.proofs.Common.{ℕ, List, refl, sym, subst}
use Rattle.std.specs.Prelude.{Result}
use Rattle.unit_defs.specs.CuCpRecords.{Row}
use Rattle.unit_defs.specs.CuCp.{by_row}
use Rattle.unit_defs.specs.octet_defs.Codec.{octet_way}
use Rattle.unit_messages.specs.steps.Steps.{step_after, IsStep}
use Rattle.unit_messages.specs.declared.steps.StepError.{StepError}
use Rattle.cu_cp_records.specs.declared.control_actions.row.Row.{Row as MadeRow}
use Rattle.cu_cp_records.specs.control_actions.Rows.{RowGives}
use Rattle.cu_control.proofs.RowSteps.{row_stops}
use Rattle.cu_control.proofs.carrying.carry_made.Goals as goal

pub returns-in-Ok : goal.returns-in-Ok
returns-in-Ok g c = λ wanted given.
    subst
    (λ (w : Row (List ℕ)). IsStep (step_after c.args.outputs.now (by_row (octet_way g.C.MessageCodec.codec) c.args.ue w c.args.record.now))
    c.carry_out.new.outputs c.carry_out.new.record c.carry_out.result)
    (sym (subst (λ (row : Result MadeRow StepError). RowGives wanted row) c.in-Ok.is given)) c.carry_out.ensures

pub returns-in-Err : goal.returns-in-Err
returns-in-Err g c = λ wanted given.
    row_stops (octet_way g.C.MessageCodec.codec) c.args.ue c.args.record.now c.args.record.now c.args.outputs.now c.args.outputs.now wanted wanted
    c.in-Err.error refl (subst (λ (row : Result MadeRow StepError). RowGives wanted row) c.in-Err.is given)

use Rattle.law_handover_delivers.proofs.report_runs.Rest.{set_up_told, octets_told, other_told}
use Rattle.law_handover_delivers.proofs.report_runs.all_else_keeps_reports_true.Goals as goal

pub returns : goal.returns
returns c = record {
  set_up = λ ue bearer deliv plan s told. set_up_told ue bearer deliv plan s told;
  octets = λ reading ue bearer deliv s t reads told. octets_told ue bearer deliv reading s t reads told;
  others = λ reading ue bearer deliv s t fair acts told. other_told ue bearer deliv reading s t fair acts told;
}

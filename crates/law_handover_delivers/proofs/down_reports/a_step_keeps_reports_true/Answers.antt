use Rattle.law_handover_delivers.proofs.down_reports.Airs.{told_later, told_then, told_put}
use Rattle.law_handover_delivers.proofs.down_reports.a_step_keeps_reports_true.Goals as goal

pub returns : goal.returns
returns c = record {
  acts = λ reading event s t ue bearer reached later cause outputs units lines stands is more told tell.
      told_then ue bearer later reading event s t cause outputs units lines stands is (told_later ue bearer reached later s more told) tell;
  puts = λ reading s t ue bearer reached node taken outputs lines is told tell.
      told_put ue bearer reached reading s t node taken outputs lines is told tell;
}

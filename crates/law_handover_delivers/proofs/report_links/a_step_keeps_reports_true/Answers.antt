use Rattle.law_handover_delivers.proofs.report_links.Airs.{told_later, told_then, told_put}
use Rattle.law_handover_delivers.proofs.report_links.a_step_keeps_reports_true.Goals as goal

pub returns : goal.returns
returns c = record {
  acts = λ reading event s t ue bearer deliv later cause outputs units lines stands is more told tell.
      told_then ue bearer later reading event s t cause outputs units lines stands is (told_later ue bearer deliv later s more told) tell;
  puts = λ reading s t ue bearer deliv node taken outputs lines is told tell.
      told_put ue bearer deliv reading s t node taken outputs lines is told tell;
}

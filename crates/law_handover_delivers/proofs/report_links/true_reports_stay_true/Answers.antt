use Rattle.law_handover_delivers.proofs.report_links.Airs.{told_at_first, told_later, told_alike, told_first_lost}
use Rattle.law_handover_delivers.proofs.report_links.true_reports_stay_true.Goals as goal

pub returns : goal.returns
returns c = record {
  first = told_at_first;
  later = λ ue bearer deliv later s more told. told_later ue bearer deliv later s more told;
  alike = λ ue bearer deliv s t is same told. told_alike ue bearer deliv s t is same told;
  lost = λ ue bearer deliv s t end item rest stands is same told. told_first_lost ue bearer deliv s t end item rest stands is same told;
}

use Rattle.law_handover_delivers.proofs.down_reports.Airs.{told_at_first, told_later, told_alike, told_first_lost}
use Rattle.law_handover_delivers.proofs.down_reports.true_reports_stay_true.Goals as goal

pub returns : goal.returns
returns c = record {
  first = told_at_first;
  later = λ ue bearer reached later s more told. told_later ue bearer reached later s more told;
  alike = λ ue bearer reached s t is same told. told_alike ue bearer reached s t is same told;
  lost = λ ue bearer reached s t end item rest stands is same told. told_first_lost ue bearer reached s t end item rest stands is same told;
}

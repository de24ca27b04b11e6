use Rattle.law_handover_delivers.proofs.reports_elsewhere.Cores.{message_keeps, offer_keeps}
use Rattle.law_handover_delivers.proofs.reports_elsewhere.the_core_keeps_reports_true.Goals as goal

pub returns : goal.returns
returns c = record {
  messages = λ reading s t ue bearer deliv number l outputs core fair step told.
      message_keeps reading s t ue bearer deliv number l outputs core fair step told;
  offers = λ reading s t ue bearer deliv who which sdu path step told. offer_keeps reading s t ue bearer deliv who which sdu path step told;
}

use Rattle.law_handover_delivers.proofs.down_report_frames.Carried.{switch_reports, status_reports}
use Rattle.law_handover_delivers.proofs.down_report_frames.kept_orders_report_what_was_carried_up.Goals as goal

pub returns : goal.returns
returns c = record {
  switch = λ u x p du teid came is kept known. switch_reports u came x p du teid is kept known;
  sn_status = λ u x status came kept at bits. status_reports u came x status kept at bits;
}

use Rattle.law_handover_delivers.proofs.report_links.Stands.{is_assumed}
use Rattle.law_handover_delivers.proofs.report_links.a_true_report_is_what_is_assumed.Goals as goal

pub returns : goal.returns
returns c = λ d x kind load told. is_assumed d x kind load told

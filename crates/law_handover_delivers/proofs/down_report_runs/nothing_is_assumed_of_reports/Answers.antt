use Rattle.law_handover_delivers.proofs.down_report_runs.Runs.{as_whole}
use Rattle.law_handover_delivers.proofs.down_report_runs.nothing_is_assumed_of_reports.Goals as goal

pub returns : goal.returns
returns c = λ reading n ue bearer sn quota p q positive before after comes all came told step.
    as_whole reading n ue bearer sn quota positive p q before after comes all came told step

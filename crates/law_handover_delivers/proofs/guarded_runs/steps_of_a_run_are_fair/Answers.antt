use Rattle.law_handover_delivers.proofs.guarded_runs.Passed.{fair_steps}
use Rattle.law_handover_delivers.specs.unused_uplinks.Later as later
use Rattle.law_handover_delivers.specs.assumed_runs.Assuming as assumed
use Rattle.law_handover_delivers.specs.core_path.Paths as paths
use Rattle.law_handover_delivers.specs.report_runs.Steps as reports
use Rattle.law_handover_delivers.specs.whole_runs.Whole as whole
use Rattle.law_handover_delivers.specs.down_report_runs.Steps as down_reports
use Rattle.law_handover_delivers.specs.guarded_runs.Runs as guarded
use Rattle.law_handover_delivers.proofs.guarded_runs.steps_of_a_run_are_fair.Goals as goal

pub returns : goal.returns
returns c = record {
  fresh = λ reading n ue bearer sn quota p q steps.
      fair_steps reading (later.Step reading n ue bearer sn quota) (later.Steps reading n ue bearer sn quota) (λ x. later.not_yet x)
      (λ x y z earlier before after gives step. later.further x y z earlier before after gives step) p q steps;
  assumed = λ reading n ue bearer sn quota p q steps.
      fair_steps reading (assumed.Step reading n ue bearer sn quota) (assumed.Steps reading n ue bearer sn quota) (λ x. assumed.not_yet x)
      (λ x y z earlier before after gives step. assumed.further x y z earlier before after gives step) p q steps;
  paths = λ reading n ue bearer sn quota p q steps.
      fair_steps reading (paths.Step reading n ue bearer sn quota) (paths.Steps reading n ue bearer sn quota) (λ x. paths.not_yet x)
      (λ x y z earlier before after gives step. paths.further x y z earlier before after gives step) p q steps;
  reports = λ reading n ue bearer sn quota p q steps.
      fair_steps reading (reports.Step reading n ue bearer sn quota) (reports.Steps reading n ue bearer sn quota) (λ x. reports.not_yet x)
      (λ x y z earlier before after gives step. reports.further x y z earlier before after gives step) p q steps;
  whole = λ reading n ue bearer sn quota p q steps.
      fair_steps reading (whole.Step reading n ue bearer sn quota) (whole.Steps reading n ue bearer sn quota) (λ x. whole.not_yet x)
      (λ x y z earlier before after gives step. whole.further x y z earlier before after gives step) p q steps;
  down_reports = λ reading n ue bearer sn quota p q steps.
      fair_steps reading (down_reports.Step reading n ue bearer sn quota) (down_reports.Steps reading n ue bearer sn quota) (λ x. down_reports.not_yet x)
      (λ x y z earlier before after gives step. down_reports.further x y z earlier before after gives step) p q steps;
  guarded = λ reading n ue bearer sn quota p q steps.
      fair_steps reading (guarded.Step reading n ue bearer sn quota) (guarded.Steps reading n ue bearer sn quota) (λ x. guarded.not_yet x)
      (λ x y z earlier before after gives step. guarded.further x y z earlier before after gives step) p q steps;
}

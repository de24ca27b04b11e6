-- Steps of a run are steps between fair states.
use Rattle.run_defs.specs.Runs.{Reading}
use Rattle.proof_run_steps.specs.teids.Given.{GiveOnce}
use Rattle.proof_bearer_refinement.specs.runs.Steps.{Point}
use Rattle.proof_bearer_refinement.specs.runs.Fair.{IsFair}
use Rattle.proof_bearer_refinement.proofs.runs.Fair.{passed_is_fair, comes_gives}
use Rattle.law_handover_delivers.specs.guarded_runs.Passed.{PassedSteps, not_yet, further}

module _ (reading : Reading) (Step Steps : Point → Point → Type 0) (none : (p : Point) → Steps p p)
    (more : (p q r : Point) → Steps p q → IsFair q.state → IsFair r.state → GiveOnce q.state.units r.state.units → Step q r → Steps p r) where
  pub fair_steps : (p q : Point) → PassedSteps reading Step p q → Steps p q
  fair_steps p q (not_yet x) = none x
  fair_steps p q (further x y z before passed passed_then comes step) =
      more x y z (fair_steps x y before) (passed_is_fair reading y.state passed) (passed_is_fair reading z.state passed_then)
      (comes_gives reading y.state z.state comes) step

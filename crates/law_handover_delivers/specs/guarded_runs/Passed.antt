-- Steps of a run, one after another: its states are passed by runs from the first one, and each comes from the one before.
use Rattle.run_defs.specs.Runs.{Reading}
use Rattle.proof_bearer_refinement.specs.runs.Steps.{Point}
use Rattle.proof_bearer_refinement.specs.runs.Fair.{IsPassed, Comes}

pub data PassedSteps (reading : Reading) (Step : Point → Point → Type 0) : Point → Point → Type 0 where
  not_yet : (p : Point) → PassedSteps reading Step p p
  further : (p q r : Point) → PassedSteps reading Step p q → IsPassed reading q.state → IsPassed reading r.state → Comes reading q.state r.state
      → Step q r → PassedSteps reading Step p r

-- The core's path after a worked handover to the other gNB, whose CU-UP gave its context instance 1.
use Rattle.std.specs.Prelude.{◌≡◌, Option, Some, None}
use Rattle.gnb_types.specs.declared.names.Gnb.TheVariants.{B}
use Rattle.bearer_defs.specs.chain_defs.Models as down_models
use Rattle.proof_bearer_refinement.specs.run_bearers.Bearers.{Numbering}
use Rattle.proof_bearer_refinement.specs.refinement_facts.Refinements.{RunState}
use Rattle.proof_bearer_refinement.specs.core_step.Core.{PathLeads}
use Rattle.proof_bearer_refinement.specs.du_puts.Worked.{terminal, bearer}

-- it leads there for a model that sends to the target's context
abbrev pub LeadsThere : Numbering → Option RunState → Type 0
LeadsThere n None = ⊥
LeadsThere n (Some s) =
    (d : down_models.Model) → d.path ≡ n.number_of (record { gnb = B; number = 1; instance = 1 }) → PathLeads n terminal bearer s d

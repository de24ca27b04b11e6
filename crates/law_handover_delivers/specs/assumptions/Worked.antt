-- The freeze of a worked handover to the other gNB, whose CU-UP gave its context instance 1 and the TEIDs 1 to 4.
use Rattle.std.specs.Prelude.{Option, Some, None}
use Rattle.gnb_types.specs.declared.names.Gnb.TheVariants.{B}
use Rattle.gnb_types.specs.declared.names.NodeId.TheVariants.{CuUp}
use Rattle.proof_bearer_refinement.specs.cu_up_step.Worked.{terminal, bearer}
use Rattle.proof_bearer_refinement.specs.run_bearers.Bearers.{Numbering}
use Rattle.proof_bearer_refinement.specs.refinement_facts.Refinements.{RunState}
use Rattle.law_handover_delivers.specs.assumptions.Assumed.{FreezeLeads}

abbrev pub LeadsThere : Numbering → Option RunState → Type 0
LeadsThere n None = ⊥
LeadsThere n (Some s) = FreezeLeads n terminal bearer s.units (n.number_of (record { gnb = B; number = 1; instance = 1 })) (CuUp B 1) 3 4

-- What a bearer's model has on uplink tunnels whose TEIDs the CU-UP of its context has not given yet.
use Rattle.std.specs.Prelude.{◌≡◌, ◌≤◌, ℕ, []}
use Rattle.gnb_types.specs.declared.names.Gnb.{Gnb}
use Rattle.gnb_types.specs.declared.names.UeId.{UeId}
use Rattle.gnb_types.specs.declared.names.BearerId.{BearerId}
use Rattle.proof_run_steps.specs.teids.Given.{below}
use Rattle.run_defs.specs.Units.{cu_up_of}
use Rattle.bearer_defs.specs.uplink_defs.Models as up_models
use Rattle.proof_bearer_refinement.specs.run_bearers.Bearers.{Numbering}
use Rattle.proof_bearer_refinement.specs.refinement_facts.Refinements.{RunState}
use Rattle.proof_bearer_refinement.specs.refinement_facts.Asked.{context_at}

-- nothing
abbrev pub UplinksAreFresh : Numbering → UeId → BearerId → RunState → Gnb → ℕ → up_models.Model → Type 0
UplinksAreFresh n ue bearer s gnb number u =
    (teid : ℕ) → below (cu_up_of s.units gnb number).next_teid ≤ teid
    → (u.members (context_at n ue bearer s.units gnb number)).uplink teid ≡ []

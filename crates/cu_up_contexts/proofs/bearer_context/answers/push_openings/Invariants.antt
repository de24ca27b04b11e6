use Rattle.std.proofs.Common.{◌≡◌, ◌++◌, ℕ, map, drop, Some}
use Rattle.std.specs.List.{flat_map}
use Rattle.gnb_types.specs.declared.names.UeId.{UeId}
use Rattle.unit_defs.specs.CuUpRecords.{f1u_uplink}
use Rattle.unit_defs.specs.CuUp.{entries}
use Rattle.cu_up_contexts.specs.bearer_context.Answers.{entry_as}
use Rattle.cu_up_contexts.proofs.bearer_context.answers.push_openings.Given as goal

abbrev pub invariant-loop-teid : goal.invariant-loop-teid
invariant-loop-teid l = (ue : UeId) (context : ℕ)
    → map (entry_as ue context) l.openings
    ++ flat_map (λ teid. entries ue l.id context f1u_uplink (Some teid)) (drop l.teid-index l.teid-items)
    ≡ map (entry_as ue context) l.initial.openings
    ++ flat_map (λ teid. entries ue l.id context f1u_uplink (Some teid)) l.teid-items

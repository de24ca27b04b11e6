use Rattle.std.proofs.Common.{◌≡◌, ◌+◌, ◌++◌, ℕ, map, drop}
use Rattle.std.specs.List.{flat_map}
use Rattle.gnb_types.specs.declared.names.UeId.{UeId}
use Rattle.unit_defs.specs.CuUp.{entries_of}
use Rattle.cu_up_contexts.specs.bearer_context.Bearers.{numbered}
use Rattle.cu_up_contexts.specs.bearer_context.Answers.{entry_as}
use Rattle.cu_up_contexts.proofs.bearer_context.context.Context.openings.Given as goal

abbrev pub invariant-loop-bearer : goal.invariant-loop-bearer
invariant-loop-bearer l = record {
  number : l.number ≡ l.bearer-index + 1;
  all : (ue : UeId) (context : ℕ)
      → map (entry_as ue context) l.openings ++ flat_map (entries_of ue context) (numbered l.number (drop l.bearer-index l.bearer-items))
      ≡ flat_map (entries_of ue context) (numbered 1 l.bearer-items);
}

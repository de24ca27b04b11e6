use Rattle.std.proofs.Common.{◌≡◌, ◌+◌, ◌++◌, drop}
use Rattle.std.specs.List.{flat_map}
use Rattle.unit_defs.specs.Messages.{tunnel_of}
use Rattle.unit_defs.specs.octet_defs.Codec.{Codec}
use Rattle.cu_up_contexts.specs.bearer_context.Bearers.{numbered}
use Rattle.cu_up_contexts.specs.bearer_context.Answers.{teid_of_kind}
use Rattle.cu_up_contexts.proofs.bearer_context.context.Context.tunnels.Given as goal

abbrev pub invariant-loop-bearer : goal.invariant-loop-bearer
invariant-loop-bearer l = record {
  number : l.number ≡ l.bearer-index + 1;
  all : (codec : Codec)
      → l.tunnels ++ flat_map (λ e. tunnel_of e.0 (teid_of_kind codec l.kind e.1)) (numbered l.number (drop l.bearer-index l.bearer-items))
      ≡ flat_map (λ e. tunnel_of e.0 (teid_of_kind codec l.kind e.1)) (numbered 1 l.bearer-items);
}

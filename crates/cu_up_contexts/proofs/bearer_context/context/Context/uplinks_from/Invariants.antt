use Rattle.std.proofs.Common.{◌≡◌, ◌+◌, ◌++◌, drop}
use Rattle.unit_defs.specs.CuUp.{teids_from}
use Rattle.unit_defs.specs.octet_defs.Codec.{Codec, octet_way}
use Rattle.cu_up_contexts.specs.bearer_context.Bearers.{numbered}
use Rattle.cu_up_contexts.proofs.bearer_context.context.Context.uplinks_from.Given as goal

abbrev pub invariant-loop-bearer : goal.invariant-loop-bearer
invariant-loop-bearer l = record {
  number : l.number ≡ l._bearer-index + 1;
  teid : l.teid ≡ l.next + l._bearer-index;
  all : (codec : Codec)
      → l.uplinks ++ teids_from (octet_way codec) l.teid (numbered l.number (drop l._bearer-index l._bearer-items))
      ≡ teids_from (octet_way codec) l.next (numbered 1 l._bearer-items);
}

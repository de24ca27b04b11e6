use Rattle.std.proofs.Common.{◌≡◌, ◌++◌, map, drop}
use Rattle.gnb_types.specs.declared.outputs.Output.TheVariants as outs
use Rattle.unit_defs.specs.Teids.{without_each}
use Rattle.cu_up_contexts.proofs.contexts.tunnels.close_each.Given as goal

abbrev pub invariant-loop-teid : goal.invariant-loop-teid
invariant-loop-teid l = record {
  tunnels : without_each l.tunnels (drop l.teid-index l.teids) ≡ without_each l.initial.tunnels l.teids;
  out :
      l.out ++ map (λ teid. outs.Closed teid) (drop l.teid-index l.teids)
      ≡ l.initial.out ++ map (λ teid. outs.Closed teid) l.teids;
}

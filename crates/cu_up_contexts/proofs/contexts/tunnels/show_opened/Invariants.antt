use Rattle.std.proofs.Common.{◌≡◌, ◌++◌, map, drop}
use Rattle.gnb_types.specs.declared.outputs.Output.TheVariants as outs
use Rattle.cu_up_contexts.proofs.contexts.tunnels.show_opened.Given as goal

abbrev pub invariant-loop-opening : goal.invariant-loop-opening
invariant-loop-opening l =
    l.out ++ map (λ o. outs.Opened o.teid) (drop l.opening-index l.openings)
    ≡ l.initial.out ++ map (λ o. outs.Opened o.teid) l.openings

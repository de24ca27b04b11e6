use Rattle.std.proofs.Common.{◌≡◌, ◌+◌, ◌*◌, map}
use Rattle.std.specs.Prelude.{sum}
use Rattle.unit_defs.specs.CuUpRecords.{blocks_of}
use Rattle.cu_up_contexts.proofs.contexts.contexts.Contexts.fits.Given as goal

abbrev pub invariant-loop-context : goal.invariant-loop-context
invariant-loop-context l =
    l.blocks + sum (map blocks_of l.context-iterator) ≡ 2 * l.count * l.quota + sum (map blocks_of l.initial.context-iterator)

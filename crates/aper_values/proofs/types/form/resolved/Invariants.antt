use Rattle.std.proofs.Common.{◌≡◌, ◌<◌, length}
use Rattle.aper_values.specs.types.Types.{tree}
use Rattle.proof_asn1_modules.proofs.ranks.Ranks.{rank}
use Rattle.aper_values.proofs.types.form.resolved.Given as goal

abbrev pub invariant-loop-next : goal.invariant-loop-next
invariant-loop-next l = record {
  inside : l.id.number < length l.m.nodes;
  same : tree l.m l.fn.id.number ≡ tree l.m l.id.number;
}

abbrev pub decreases-loop-next : goal.decreases-loop-next
decreases-loop-next l = rank l.m l.id.number

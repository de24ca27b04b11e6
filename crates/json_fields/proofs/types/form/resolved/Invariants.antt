use Rattle.std.proofs.Common.{◌≡◌, ◌<◌, length}
use Rattle.proof_asn1_modules.proofs.ranks.Ranks.{rank}
use Rattle.json_defs.specs.type_defs.Types.{named}
use Rattle.json_fields.proofs.types.form.resolved.Given as goal

abbrev pub invariant-loop-next : goal.invariant-loop-next
invariant-loop-next l = record {
  inside : l.id.number < length l.m.nodes;
  same : named l.m l.fn.id.number ≡ named l.m l.id.number;
}

abbrev pub decreases-loop-next : goal.decreases-loop-next
decreases-loop-next l = rank l.m l.id.number

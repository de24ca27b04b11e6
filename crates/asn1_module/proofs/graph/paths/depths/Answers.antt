use Rattle.std.proofs.Common.{List, subst}
use Rattle.asn1_defs.specs.declared.graph.Edge.{Edge}
use Rattle.asn1_defs.specs.Paths.{IsAmong}
use Rattle.asn1_module.proofs.graph.paths.depths.Goals as goal

pub deepen_all-requires-clause-among : goal.deepen_all-requires-clause-among
deepen_all-requires-clause-among c = λ e among.
    subst (λ (es : List Edge). IsAmong e es) c.in_ok-steps.ensures (c.in_ok-some.ensures e (subst (λ (es : List Edge). IsAmong e es) c.deref-2.ensures.value among))

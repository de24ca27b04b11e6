use Rattle.std.proofs.Common.{refl}
use Rattle.asn1_defs.specs.Judgement.{unknown}
use Rattle.asn1_module.proofs.judgement.judge.Goals as goal

pub returns-in-Some : goal.returns-in-Some
returns-in-Some c = unknown (record { place = c.in-Some.place; unknown = cc; is = refl })

use Rattle.std.proofs.Common.{subst}
use Rattle.asn1_defs.specs.Judgement.{sound, deep, IsFirstDeep}
use Rattle.asn1_module.proofs.judgement.judge_finite.Goals as goal

pub returns-in-Some : goal.returns-in-Some
returns-in-Some c = deep (record { known = c.requires.known; finite = c.requires.finite; number = c.in-Some.number; deep = subst (IsFirstDeep c.args.syntax.now) c.in-Some.is c.first_deep.ensures; is = c.fault_at.ensures })

pub returns : goal.returns
returns c = sound (record { known = c.requires.known; finite = c.requires.finite; shallow = subst (IsFirstDeep c.args.syntax.now) c.in-None.is c.first_deep.ensures })

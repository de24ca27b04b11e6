use Rattle.std.proofs.Common.{subst}
use Rattle.asn1_defs.specs.Judgement.{recursive, IsFirstRecursive}
use Rattle.asn1_module.proofs.judgement.judge_known.Goals as goal

pub returns-in-Some : goal.returns-in-Some
returns-in-Some c = recursive (record { known = c.requires.known; number = c.in-Some.number; recursive = subst (IsFirstRecursive c.args.syntax.now) c.in-Some.is c.in_ok-number.ensures; is = c.fault_at.ensures })

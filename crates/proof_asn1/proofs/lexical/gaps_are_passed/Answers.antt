use Rattle.std.proofs.Common.{sym, ◌∙◌}
use Rattle.asn1_tokens.specs.declared.scan.Gap.TheVariants.{Between}
use Rattle.proof_asn1.proofs.lexical.Gaps.{told, gap_passed}
use Rattle.proof_asn1.proofs.lexical.gaps_are_passed.Goals as goal

pub returns : goal.returns
returns c = record { passed = λ text. told Between text; one = λ text a b x y. sym (gap_passed x) ∙ gap_passed y }

-- Rules by their numbers.
use Rattle.std.proofs.Common.{◌≡◌, ◌<◌, ◌≤◌, List, [], ◌∷◌, Option, Some, refl, ap, ◌∙◌, arith}
use Rattle.std.specs.Prelude.{slice_get}
use Rattle.transcript_defs.specs.declared.rule.Rule.{Rule}
use Rattle.transcript_defs.specs.declared.rule.Rule.TheVariants as rules
use Rattle.transcript_defs.specs.Rules.{rule_number}

all_rules : List Rule
all_rules = rules.Form ∷ rules.Form ∷ rules.Wire ∷ rules.Packet ∷ rules.Count ∷ rules.Order ∷ rules.Seen ∷ rules.Spelling ∷ rules.End ∷ []

rule_back : (rule : Rule) → slice_get all_rules (rule_number rule) ≡ Some rule
unfolding all_rules
rule_back rules.Form = refl
rule_back rules.Wire = refl
rule_back rules.Packet = refl
rule_back rules.Count = refl
rule_back rules.Order = refl
rule_back rules.Seen = refl
rule_back rules.Spelling = refl
rule_back rules.End = refl

same_found : {X : Type 0} (o : Option X) (a b : X) → o ≡ Some a → o ≡ Some b → a ≡ b
same_found o a b p q = cc

-- two rules of one number are one
pub one_rule : (a b : Rule) → rule_number a ≡ rule_number b → a ≡ b
one_rule a b same = same_found (slice_get all_rules (rule_number a)) a b (rule_back a) (ap (slice_get all_rules) same ∙ rule_back b)

pub small : (rule : Rule) → (1 ≤ rule_number rule) × (rule_number rule < 9)
small rules.Form = (omega arith, omega arith)
small rules.Wire = (omega arith, omega arith)
small rules.Packet = (omega arith, omega arith)
small rules.Count = (omega arith, omega arith)
small rules.Order = (omega arith, omega arith)
small rules.Seen = (omega arith, omega arith)
small rules.Spelling = (omega arith, omega arith)
small rules.End = (omega arith, omega arith)

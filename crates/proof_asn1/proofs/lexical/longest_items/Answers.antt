use Rattle.proof_asn1.proofs.lexical.LexicalLemmas.{name_longest, number_longest}
use Rattle.proof_asn1.proofs.lexical.longest_items.Goals as goal

pub returns : goal.returns
returns c = record { name = name_longest; number = number_longest }

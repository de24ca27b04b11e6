use Rattle.std.proofs.Common.{sym, ap, ◌∙◌}
use Rattle.asn1_tokens.specs.Scan.{Lexeme}
use Rattle.proof_asn1.proofs.lexical.Items.{item_here}
use Rattle.proof_asn1.proofs.lexical.ItemsRead.{item_read}
use Rattle.proof_asn1.proofs.lexical.items_are_longest.Goals as goal

pub returns : goal.returns
returns c = record {
  all = item_here;
  one = λ text t u a b x y. (ap (λ (found : Lexeme). found.token) (sym (item_read x) ∙ item_read y), ap (λ (found : Lexeme). found.rest) (sym (item_read x) ∙ item_read y));
}

use Rattle.std.proofs.Common.{sym, ◌∙◌}
use Rattle.proof_asn1.proofs.lexical.Streams.{all_items, items_scanned}
use Rattle.proof_asn1.proofs.lexical.items_are_these.Goals as goal

pub returns : goal.returns
returns c = record { all = all_items; one = λ total text a b x y. items_scanned x ∙ sym (items_scanned y) }

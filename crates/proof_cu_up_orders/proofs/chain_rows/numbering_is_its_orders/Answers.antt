use Rattle.std.proofs.Common.{refl}
use Rattle.proof_cu_up_orders.proofs.chain_rows.Numbering.{numbering_kept, numbering_is, pdus_are}
use Rattle.proof_cu_up_orders.proofs.chain_rows.numbering_is_its_orders.Goals as goal

pub returns : goal.returns
returns c = record {
  asked = λ sn quota x s there known unfrozen. numbering_kept sn quota x (s.members x).bearer.waiting s (s.members x) refl there known unfrozen refl;
  became = λ sn quota x s. numbering_is sn quota x (s.members x).bearer.waiting s (s.members x) refl refl;
  pdus = pdus_are;
}

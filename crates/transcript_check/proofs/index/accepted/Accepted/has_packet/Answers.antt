use Rattle.std.proofs.Common.{◌↔◌, IsTrue, List, ℕ, Option, Some, ap, sym, subst}
use Rattle.std.specs.Prelude.{IfOk, option_copied}
use Rattle.gnb_types.specs.declared.keys.EntityKey.{EntityKey}
use Rattle.transcript_defs.specs.Packets.{IsAmong, key_of}
use Rattle.transcript_check.specs.inside.Accepted.{offered_on}
use Rattle.transcript_check.proofs.index.accepted.Accepted.has_packet.Goals as goal

pub returns : goal.returns
returns c =
    subst (λ (p : Option (List ℕ)). IfOk c.has.result (λ has. IsTrue has ↔ IsAmong (offered_on c.args.self.now (key_of c.args.item.now)) p))
    (sym (ap option_copied c.in-Some.is))
    (subst (λ (k : EntityKey). IfOk c.has.result (λ has. IsTrue has ↔ IsAmong (offered_on c.args.self.now k) (Some c.in-Some.packet.now))) c.key_of.ensures
    c.has.ensures)

use Rattle.std.proofs.Common.{List, ℕ, ◌∙◌, ap}
use Rattle.std.proofs.lemmas.Result.{IfOk-weaker}
use Rattle.gtpu.specs.Packets.{gtpu_octets}
use Rattle.link_defs.specs.GPdus.{pdu_with}
use Rattle.link_defs.specs.Layouts.{forwarded_numbered}
use Rattle.link_packets.specs.Parts.{header}
use Rattle.link_packets.proofs.Written.{long_number}
use Rattle.link_packets.proofs.writing.write_forwarded_numbered.Goals as goal

pub returns-in-Len18 : goal.returns-in-Len18
unfolding forwarded_numbered
returns-in-Len18 c = rw c.in-Len18.is (IfOk-weaker c.with_header-in-Len18.result _ _ (λ octets is. is ∙ ap (λ (xs : List ℕ). gtpu_octets (pdu_with c.args.teid (header 130 xs) c.args.packet.now)) (long_number c.args.count c.to_be_bytes.result c.to_be_bytes.ensures)) c.with_header-in-Len18.ensures)

use Rattle.std.proofs.Common.{◌≡◌, List, ℕ, sym, ◌∙◌}
use Rattle.std.proofs.lemmas.Result.{IfOk-weaker}
use Rattle.gtpu.specs.Packets.{gtpu_octets}
use Rattle.link_defs.specs.GPdus.{plain_pdu}
use Rattle.link_defs.specs.Links.{n3_downlink}
use Rattle.link_defs.proofs.Shells.{n3_downlink_is}
use Rattle.link_packets.proofs.writing.write_n3.Goals as goal

pub returns : goal.returns
returns c =
    IfOk-weaker c.plain.result (λ (octets : List ℕ). octets ≡ gtpu_octets (plain_pdu c.args.teid c.args.packet.now)) (λ (octets : List ℕ). octets ≡ n3_downlink c.args.teid c.args.packet.now)
    (λ octets is. is ∙ sym (n3_downlink_is c.args.teid c.args.packet.now)) c.plain.ensures

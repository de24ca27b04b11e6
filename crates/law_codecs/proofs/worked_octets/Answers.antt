use Rattle.std.proofs.Common.{refl}
use Rattle.link_defs.specs.read_defs.Pdus.{pdu_on}
use Rattle.link_defs.specs.read_defs.Items.{item_on}
use Rattle.law_codecs.proofs.worked_octets.Goals as goal

pub returns : goal.returns
unfolding item_on pdu_on
returns c = record { items = refl; no_items = refl; pdus = refl; no_pdus = refl }

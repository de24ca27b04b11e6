use Rattle.link_defs.proofs.Written.{n3_downlink_decodes}
use Rattle.law_links.proofs.n3_downlink_decodes.Goals as goal

pub returns : goal.returns
returns c = n3_downlink_decodes

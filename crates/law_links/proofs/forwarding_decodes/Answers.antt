use Rattle.link_defs.proofs.Written.{forwarded_numbered_decodes, forwarded_fresh_decodes, forwarded_late_decodes}
use Rattle.law_links.proofs.forwarding_decodes.Goals as goal

pub returns : goal.returns
returns c = record { numbered = forwarded_numbered_decodes; fresh = forwarded_fresh_decodes; late = forwarded_late_decodes }

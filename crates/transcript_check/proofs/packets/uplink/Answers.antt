use Rattle.link_packets.specs.Items.{uplink_item}
use Rattle.transcript_check.proofs.AtCuUp.{none_fits, unfit_by}
use Rattle.transcript_check.proofs.packets.uplink.Goals as goal

pub returns-then-is_uplink-clause-only : goal.returns-then-is_uplink-clause-only
returns-then-is_uplink-clause-only c = λ says fits decodes. c.in-Some.ensures.only says decodes

pub returns-else-is_uplink-clause-only : goal.returns-else-is_uplink-clause-only
returns-else-is_uplink-clause-only c = λ says fits decodes.
    none_fits c.args.dir (uplink_item c.in-Some.x) says (unfit_by _ _ c.is_uplink.ensures c.if-is_uplink.false) (c.in-Some.ensures.only says decodes) fits

pub returns-in-None-clause-only : goal.returns-in-None-clause-only
returns-in-None-clause-only c = λ says fits decodes. c.in-None.ensures.only says decodes

use Rattle.link_packets.specs.Items.{forwarded_item}
use Rattle.transcript_check.proofs.AtCuUp.{none_fits, unfit_by}
use Rattle.transcript_check.proofs.packets.forwarded.Goals as goal

pub returns-then-is_forwarded-clause-only : goal.returns-then-is_forwarded-clause-only
returns-then-is_forwarded-clause-only c = λ says fits decodes. c.in-Some.ensures.only says decodes

pub returns-else-is_forwarded-clause-only : goal.returns-else-is_forwarded-clause-only
returns-else-is_forwarded-clause-only c = λ says fits decodes.
    none_fits c.args.dir (forwarded_item c.in-Some.x) says (unfit_by _ _ c.is_forwarded.ensures c.if-is_forwarded.false) (c.in-Some.ensures.only says decodes) fits

pub returns-in-None-clause-only : goal.returns-in-None-clause-only
returns-in-None-clause-only c = λ says fits decodes. c.in-None.ensures.only says decodes

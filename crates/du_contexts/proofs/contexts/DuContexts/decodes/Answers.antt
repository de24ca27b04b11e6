use Rattle.link_packets.specs.Items.{downlink_item}
use Rattle.du_contexts.proofs.Reading.{decodes_there, decodes_not}
use Rattle.du_contexts.proofs.contexts.DuContexts.decodes.Goals as goal

pub returns-in-Some : goal.returns-in-Some
returns-in-Some c = λ codec r lawful.
    decodes_there codec r _ _ _ _ c.args.octets.now c.in-Ok.ensures.ok (downlink_item c.in-Some.field-0) lawful c.in-Some.ensures.found

pub returns-in-None : goal.returns-in-None
returns-in-None c = λ codec r lawful.
    decodes_not codec r _ _ _ _ c.args.octets.now c.in-Ok.ensures.ok lawful (λ item decodes. c.in-None.ensures.only item decodes)

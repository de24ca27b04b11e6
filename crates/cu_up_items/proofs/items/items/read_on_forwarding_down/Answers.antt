use Rattle.std.proofs.Common.{Some, sym, ap, subst, ◌∙◌}
use Rattle.link_defs.specs.Decoding.{Item, forwarding_down}
use Rattle.link_packets.specs.declared.reading.Forwarded.{Forwarded}
use Rattle.link_packets.specs.Items.{forwarded_item}
use Rattle.cu_up_items.specs.items.Items.{IsSizedItem}
use Rattle.cu_up_items.proofs.items.Reading.{reads_some, reads_none, sized_down}
use Rattle.cu_up_items.proofs.items.items.read_on_forwarding_down.Goals as goal

pub returns-in-Some-clause-item : goal.returns-in-Some-clause-item
returns-in-Some-clause-item c = λ codec lawful.
    reads_some codec lawful forwarding_down c.args.sn c.args.octets.now forwarded_item (Some c.in-Some.item) c.in-Some.item (c.in-Some.ensures.found)
    ∙ ap (λ (i : Item). Some i) (sym c.of_forwarded.ensures)

pub returns-in-Some-clause-sized : goal.returns-in-Some-clause-sized
returns-in-Some-clause-sized c =
    subst (λ (i : Item). IsSizedItem i) (sym c.of_forwarded.ensures) (sized_down c.args.sn c.args.octets.now (forwarded_item c.in-Some.item) (c.in-Some.ensures.found))

pub returns-in-None-clause-item : goal.returns-in-None-clause-item
returns-in-None-clause-item c = λ codec lawful.
    reads_none codec lawful forwarding_down c.args.sn c.args.octets.now forwarded_item c.read_forwarding_down.result c.in-None.is (c.read_forwarding_down.ensures.only)

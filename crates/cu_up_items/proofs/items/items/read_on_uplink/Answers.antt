use Rattle.std.proofs.Common.{Some, sym, ap, subst, ◌∙◌}
use Rattle.link_defs.specs.Decoding.{Item, f1u_uplink}
use Rattle.link_packets.specs.declared.reading.F1uUplink.{F1uUplink}
use Rattle.link_packets.specs.Items.{uplink_item}
use Rattle.cu_up_items.specs.items.Items.{IsSizedItem}
use Rattle.cu_up_items.proofs.items.Reading.{reads_some, reads_none, sized_uplink}
use Rattle.cu_up_items.proofs.items.items.read_on_uplink.Goals as goal

pub returns-in-Some-clause-item : goal.returns-in-Some-clause-item
returns-in-Some-clause-item c = λ codec lawful.
    reads_some codec lawful f1u_uplink c.args.sn c.args.octets.now uplink_item (Some c.in-Some.item) c.in-Some.item (c.in-Some.ensures.found)
    ∙ ap (λ (i : Item). Some i) (sym c.of_uplink.ensures)

pub returns-in-Some-clause-sized : goal.returns-in-Some-clause-sized
returns-in-Some-clause-sized c =
    subst (λ (i : Item). IsSizedItem i) (sym c.of_uplink.ensures) (sized_uplink c.args.sn c.args.octets.now (uplink_item c.in-Some.item) (c.in-Some.ensures.found))

pub returns-in-None-clause-item : goal.returns-in-None-clause-item
returns-in-None-clause-item c = λ codec lawful.
    reads_none codec lawful f1u_uplink c.args.sn c.args.octets.now uplink_item c.read_f1u_uplink.result c.in-None.is (c.read_f1u_uplink.ensures.only)

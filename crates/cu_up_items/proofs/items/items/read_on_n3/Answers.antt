use Rattle.std.proofs.Common.{Some, sym, ap, subst, ◌∙◌}
use Rattle.gnb_types.specs.declared.names.SnBits.TheVariants.{Len12}
use Rattle.link_defs.specs.Decoding.{Item, n3}
use Rattle.link_packets.specs.declared.reading.N3.{N3}
use Rattle.link_packets.specs.Items.{n3_item}
use Rattle.cu_up_items.specs.items.Items.{IsSizedItem}
use Rattle.cu_up_items.proofs.items.Reading.{reads_some, reads_none, sized_n3}
use Rattle.cu_up_items.proofs.items.items.read_on_n3.Goals as goal

pub returns-in-Some-clause-item : goal.returns-in-Some-clause-item
returns-in-Some-clause-item c = λ codec sn lawful.
    reads_some codec lawful n3 sn c.args.octets.now n3_item (Some c.in-Some.item) c.in-Some.item (c.in-Some.ensures.found sn)
    ∙ ap (λ (i : Item). Some i) (sym c.of_n3.ensures)

pub returns-in-Some-clause-sized : goal.returns-in-Some-clause-sized
returns-in-Some-clause-sized c =
    subst (λ (i : Item). IsSizedItem i) (sym c.of_n3.ensures) (sized_n3 Len12 c.args.octets.now (n3_item c.in-Some.item) (c.in-Some.ensures.found Len12))

pub returns-in-None-clause-item : goal.returns-in-None-clause-item
returns-in-None-clause-item c = λ codec sn lawful.
    reads_none codec lawful n3 sn c.args.octets.now n3_item c.read_n3.result c.in-None.is (c.read_n3.ensures.only sn)

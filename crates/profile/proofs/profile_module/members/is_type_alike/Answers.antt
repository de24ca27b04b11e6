use Rattle.std.proofs.Common.{length, sym, subst}
use Rattle.asn1_defs.specs.Links.{AreBelow}
use Rattle.profile.proofs.profile_module.Inside.{sequence_below, choice_below}
use Rattle.profile.proofs.profile_module.members.is_type_alike.Goals as goal

pub are_same_parts-requires-clause-a : goal.are_same_parts-requires-clause-a
are_same_parts-requires-clause-a c =
    subst (AreBelow (length c.args.profile.now.nodes)) (sym c.as_slice.ensures)
    (sequence_below c.args.a.number (length c.args.profile.now.nodes) c.definition.result.now c.in-Sequence-Sequence.a c.requires.a c.in-Sequence-Sequence.is-0 c.definition.ensures.inside).0

pub are_same_parts-requires-clause-b : goal.are_same_parts-requires-clause-b
are_same_parts-requires-clause-b c =
    subst (AreBelow (length c.args.module.now.nodes)) (sym c.as_slice-in-Sequence-Sequence.ensures)
    (sequence_below c.args.b.number (length c.args.module.now.nodes) c.definition-2.result.now c.in-Sequence-Sequence.b c.requires.b c.in-Sequence-Sequence.is-1 c.definition-2.ensures.inside).0

pub are_same_additions-requires-clause-a : goal.are_same_additions-requires-clause-a
are_same_additions-requires-clause-a c =
    (sequence_below c.args.a.number (length c.args.profile.now.nodes) c.definition.result.now c.in-Sequence-Sequence.a c.requires.a c.in-Sequence-Sequence.is-0 c.definition.ensures.inside).1

pub are_same_additions-requires-clause-b : goal.are_same_additions-requires-clause-b
are_same_additions-requires-clause-b c =
    (sequence_below c.args.b.number (length c.args.module.now.nodes) c.definition-2.result.now c.in-Sequence-Sequence.b c.requires.b c.in-Sequence-Sequence.is-1 c.definition-2.ensures.inside).1

pub are_same_parts-requires-in-Choice-Choice-clause-a : goal.are_same_parts-requires-in-Choice-Choice-clause-a
are_same_parts-requires-in-Choice-Choice-clause-a c =
    subst (AreBelow (length c.args.profile.now.nodes)) (sym c.as_slice-in-Choice-Choice.ensures)
    (choice_below c.args.a.number (length c.args.profile.now.nodes) c.definition.result.now c.in-Choice-Choice.a c.requires.a c.in-Choice-Choice.is-0 c.definition.ensures.inside).0

pub are_same_parts-requires-in-Choice-Choice-clause-b : goal.are_same_parts-requires-in-Choice-Choice-clause-b
are_same_parts-requires-in-Choice-Choice-clause-b c =
    subst (AreBelow (length c.args.module.now.nodes)) (sym c.as_slice-in-Choice-Choice-2.ensures)
    (choice_below c.args.b.number (length c.args.module.now.nodes) c.definition-2.result.now c.in-Choice-Choice.b c.requires.b c.in-Choice-Choice.is-1 c.definition-2.ensures.inside).0

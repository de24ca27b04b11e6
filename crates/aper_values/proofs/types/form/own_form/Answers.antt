use Rattle.std.proofs.Common.{◌∙◌, sym, ap, length, rules}
use mir.Syntax.{w128}
use mir.Val.{SFits}
use Rattle.aper_values.specs.types.Types.{definition_tree}
use Rattle.aper_values.proofs.types.Follow.{integer_shown, enumerated_shown, container_shown, pdu_shown, sequence_inside, choice_inside}
use Rattle.aper_values.proofs.types.form.own_form.Goals as goal

pub returns-in-Boolean-clause-tree : goal.returns-in-Boolean-clause-tree
returns-in-Boolean-clause-tree c = λ of. ap (definition_tree c.args.m.now.assignments of) (sym c.definition.ensures.at ∙ c.in-Boolean.is)

pub returns-in-Enumerated-clause-tree : goal.returns-in-Enumerated-clause-tree
returns-in-Enumerated-clause-tree c =
    λ of. enumerated_shown of c.args.m.now.assignments _ c.in-Enumerated.names c.len.result c.is_some.result
    (sym c.definition.ensures.at ∙ c.in-Enumerated.is) c.len.ensures c.is_some.ensures

pub returns-in-BitString-clause-tree : goal.returns-in-BitString-clause-tree
returns-in-BitString-clause-tree c =
    λ of. ap (definition_tree c.args.m.now.assignments of) (sym c.definition.ensures.at ∙ c.in-BitString.is)

pub returns-in-OctetString-clause-tree : goal.returns-in-OctetString-clause-tree
returns-in-OctetString-clause-tree c =
    λ of. ap (definition_tree c.args.m.now.assignments of) (sym c.definition.ensures.at ∙ c.in-OctetString.is)

pub returns-in-PrintableString-clause-tree : goal.returns-in-PrintableString-clause-tree
returns-in-PrintableString-clause-tree c =
    λ of. ap (definition_tree c.args.m.now.assignments of) (sym c.definition.ensures.at ∙ c.in-PrintableString.is)

pub returns-in-Sequence-clause-tree : goal.returns-in-Sequence-clause-tree
returns-in-Sequence-clause-tree c = λ of. ap (definition_tree c.args.m.now.assignments of) (sym c.definition.ensures.at ∙ c.in-Sequence.is)

pub returns-in-Choice-clause-tree : goal.returns-in-Choice-clause-tree
returns-in-Choice-clause-tree c = λ of. ap (definition_tree c.args.m.now.assignments of) (sym c.definition.ensures.at ∙ c.in-Choice.is)

pub returns-in-SequenceOf-clause-tree : goal.returns-in-SequenceOf-clause-tree
returns-in-SequenceOf-clause-tree c =
    λ of. ap (definition_tree c.args.m.now.assignments of) (sym c.definition.ensures.at ∙ c.in-SequenceOf.is)

pub returns-in-Integer-clause-tree : goal.returns-in-Integer-clause-tree
returns-in-Integer-clause-tree c =
    let l : SFits w128 c.in-Integer.low = search rules in
    let h : SFits w128 c.in-Integer.high = search rules in
    λ of. integer_shown of c.args.m.now.assignments _ c.in-Integer.low c.in-Integer.high c.in-Integer.extensible l h
    (sym c.definition.ensures.at ∙ c.in-Integer.is)

pub returns-in-IeContainer-clause-tree : goal.returns-in-IeContainer-clause-tree
returns-in-IeContainer-clause-tree c =
    λ of. container_shown of c.args.m.now.assignments _ _ c.element_rows.result.now (sym c.definition.ensures.at ∙ c.in-IeContainer.is)
    c.element_rows.ensures.rows

pub returns-in-Pdu-clause-tree : goal.returns-in-Pdu-clause-tree
returns-in-Pdu-clause-tree c =
    λ of. pdu_shown of c.args.m.now.assignments _ _ c.message_rows.result.now (sym c.definition.ensures.at ∙ c.in-Pdu.is)
    c.message_rows.ensures.rows

pub returns-in-Sequence-clause-inside : goal.returns-in-Sequence-clause-inside
returns-in-Sequence-clause-inside c =
    sequence_inside c.args.id.number
    (length c.args.m.now.nodes) _ c.in-Sequence.members c.requires.inside c.definition.ensures.inside c.in-Sequence.is

pub returns-in-Choice-clause-inside : goal.returns-in-Choice-clause-inside
returns-in-Choice-clause-inside c =
    choice_inside c.args.id.number
    (length c.args.m.now.nodes) _ c.in-Choice.members c.requires.inside c.definition.ensures.inside c.in-Choice.is

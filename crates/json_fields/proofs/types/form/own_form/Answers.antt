use Rattle.std.proofs.Common.{◌∙◌, sym, ap, length, rules}
use mir.Syntax.{w128}
use mir.Val.{SFits}
use Rattle.json_defs.specs.type_defs.Types.{definition_with}
use Rattle.json_fields.proofs.types.Follow.{integer_shown, container_shown, pdu_shown, sequence_inside, choice_inside}
use Rattle.json_fields.proofs.types.form.own_form.Goals as goal

pub returns-in-Boolean-clause-named : goal.returns-in-Boolean-clause-named
returns-in-Boolean-clause-named c = λ of. ap (definition_with c.args.m.now.assignments of) (sym c.definition.ensures.at ∙ c.in-Boolean.is)

pub returns-in-Enumerated-clause-named : goal.returns-in-Enumerated-clause-named
returns-in-Enumerated-clause-named c =
    λ of. ap (definition_with c.args.m.now.assignments of) (sym c.definition.ensures.at ∙ c.in-Enumerated.is)

pub returns-in-BitString-clause-named : goal.returns-in-BitString-clause-named
returns-in-BitString-clause-named c =
    λ of. ap (definition_with c.args.m.now.assignments of) (sym c.definition.ensures.at ∙ c.in-BitString.is)

pub returns-in-OctetString-clause-named : goal.returns-in-OctetString-clause-named
returns-in-OctetString-clause-named c =
    λ of. ap (definition_with c.args.m.now.assignments of) (sym c.definition.ensures.at ∙ c.in-OctetString.is)

pub returns-in-PrintableString-clause-named : goal.returns-in-PrintableString-clause-named
returns-in-PrintableString-clause-named c =
    λ of. ap (definition_with c.args.m.now.assignments of) (sym c.definition.ensures.at ∙ c.in-PrintableString.is)

pub returns-in-Sequence-clause-named : goal.returns-in-Sequence-clause-named
returns-in-Sequence-clause-named c = λ of. ap (definition_with c.args.m.now.assignments of) (sym c.definition.ensures.at ∙ c.in-Sequence.is)

pub returns-in-Choice-clause-named : goal.returns-in-Choice-clause-named
returns-in-Choice-clause-named c = λ of. ap (definition_with c.args.m.now.assignments of) (sym c.definition.ensures.at ∙ c.in-Choice.is)

pub returns-in-SequenceOf-clause-named : goal.returns-in-SequenceOf-clause-named
returns-in-SequenceOf-clause-named c =
    λ of. ap (definition_with c.args.m.now.assignments of) (sym c.definition.ensures.at ∙ c.in-SequenceOf.is)

pub returns-in-Integer-clause-named : goal.returns-in-Integer-clause-named
returns-in-Integer-clause-named c =
    let l : SFits w128 c.in-Integer.low = search rules in
    let h : SFits w128 c.in-Integer.high = search rules in
    λ of. integer_shown of c.args.m.now.assignments _ c.in-Integer.low c.in-Integer.high c.in-Integer.extensible l h
    (sym c.definition.ensures.at ∙ c.in-Integer.is)

pub returns-in-IeContainer-clause-named : goal.returns-in-IeContainer-clause-named
returns-in-IeContainer-clause-named c =
    λ of. container_shown of c.args.m.now.assignments _ _ c.element_rows.result.now (sym c.definition.ensures.at ∙ c.in-IeContainer.is)
    c.element_rows.ensures.rows

pub returns-in-Pdu-clause-named : goal.returns-in-Pdu-clause-named
returns-in-Pdu-clause-named c =
    λ of. pdu_shown of c.args.m.now.assignments _ _ c.message_rows.result.now (sym c.definition.ensures.at ∙ c.in-Pdu.is)
    c.message_rows.ensures.rows

pub returns-in-Sequence-clause-inside : goal.returns-in-Sequence-clause-inside
returns-in-Sequence-clause-inside c =
    sequence_inside c.args.id.number
    (length c.args.m.now.nodes) _ c.in-Sequence.members c.requires.inside c.definition.ensures.inside c.in-Sequence.is

pub returns-in-Choice-clause-inside : goal.returns-in-Choice-clause-inside
returns-in-Choice-clause-inside c =
    choice_inside c.args.id.number
    (length c.args.m.now.nodes) _ c.in-Choice.members c.requires.inside c.definition.ensures.inside c.in-Choice.is

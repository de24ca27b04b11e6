use Rattle.std.proofs.Common.{List, length, refl, sym, ap, ◌∙◌}
use Rattle.asn1_syntax.specs.types.Members.{additions_of}
use Rattle.json_defs.specs.Members.{Text, place_in}
use Rattle.json_fields.proofs.members.Places.{in_root, in_additions, in_neither}
use Rattle.json_fields.proofs.members.names.place_of.Goals as goal

pub returns-in-Some-clause-place : goal.returns-in-Some-clause-place
returns-in-Some-clause-place c =
    in_root c.args.names.now.root (additions_of c.args.names.now.additions) c.args.name.now c.in-Some.place
    (ap (λ (ns : List Text). place_in ns c.args.name.now 0) (sym c.as_slice.ensures) ∙ sym c.in-Some.ensures.place)

pub returns-in-Some-place_in-clause-place : goal.returns-in-Some-place_in-clause-place
returns-in-Some-place_in-clause-place c =
    in_additions c.args.names.now.root (additions_of c.args.names.now.additions) c.args.name.now c.len.result
    c.in-Some-place_in.place c.len.ensures
    (ap (λ (ns : List Text). place_in ns c.args.name.now 0) (sym c.as_slice.ensures) ∙ sym c.in_default.ensures.place)
    (ap (λ (ns : List Text). place_in ns c.args.name.now 0) (ap additions_of c.in-Some-additions.is ∙ sym c.as_slice-2.ensures)
    ∙ sym c.in-Some-place_in.ensures.place)

pub returns-in-None-clause-place : goal.returns-in-None-clause-place
returns-in-None-clause-place c =
    in_neither c.args.names.now.root (additions_of c.args.names.now.additions) c.args.name.now (length c.args.names.now.root) refl
    (ap (λ (ns : List Text). place_in ns c.args.name.now 0) (sym c.as_slice.ensures) ∙ sym c.in_default.ensures.place)
    (ap (λ (ns : List Text). place_in ns c.args.name.now 0) (ap additions_of c.in-Some-additions.is ∙ sym c.as_slice-2.ensures)
    ∙ sym c.in-None.ensures.place)

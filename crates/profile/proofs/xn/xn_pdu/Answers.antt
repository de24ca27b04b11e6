use Rattle.std.proofs.Common.{◌≡◌, subst, sym, ap, ◌∙◌}
use Rattle.std.specs.Prelude.{Option, Some, codes}
use Rattle.std.specs.Option.{IsSome}
use Rattle.asn1_syntax.specs.declared.types.definition.TypeId.{TypeId}
use Rattle.asn1_syntax.specs.declared.assignments.assignment.Syntax.{Syntax}
use Rattle.asn1_defs.specs.Modules.{IsModule}
use Rattle.asn1_defs.specs.Targets.{find_type}
use Rattle.profile.proofs.xn.XnFound.{xn_found, is_there}
use Rattle.profile.proofs.xn.xn_pdu.Goals as goal

pub returns : goal.returns
returns c =
    let is : IsModule c.args.profile.now.syntax = subst (λ (m : Syntax). IsModule m) c.module-module.ensures.syntax c.name-name.ensures.sound in
    let there : find_type (codes "XnAP-PDU") c.args.profile.now.syntax.assignments ≡ Some c.unwrap.result =
    ap (λ (m : Syntax). find_type (codes "XnAP-PDU") m.assignments) (sym c.module-module.ensures.syntax) ∙ sym c.find.ensures.id ∙ c.unwrap.ensures in
    xn_found c.args.profile.now.version c.args.profile.now.syntax is c.module-module.ensures.agrees c.unwrap.result there

pub unwrap-requires : goal.unwrap-requires
unwrap-requires c =
    let there = is_there c.args.profile.now.version c.args.profile.now.syntax c.module-module.ensures.agrees in
    let same = c.find.ensures.id ∙ ap (λ (m : Syntax). find_type (codes "XnAP-PDU") m.assignments) c.module-module.ensures.syntax in
    subst (λ (o : Option TypeId). IsSome o) (sym same) there

use Rattle.asn1_module.proofs.Facts.{find_inside}
use Rattle.asn1_module.proofs.module.Module.find.Goals as goal

pub returns-clause-inside : goal.returns-clause-inside
returns-clause-inside c =
    find_inside c.self.inside.syntax c.args.self.now _ c.args.name.now _ c.self.invariant.0 c.self.view_is c.as_slice.ensures
    c.find_type.ensures

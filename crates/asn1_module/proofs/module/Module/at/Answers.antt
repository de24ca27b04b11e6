use Rattle.asn1_module.proofs.Facts.{at_inside}
use Rattle.asn1_module.proofs.module.Module.at.Goals as goal

pub returns-clause-inside : goal.returns-clause-inside
returns-clause-inside c =
    at_inside c.self.inside.syntax c.args.self.now _ c.args.i _ _ c.self.invariant.0 c.self.view_is c.as_slice.ensures c.nth_type.ensures
    c.unwrap.ensures

use Rattle.asn1_module.proofs.Facts.{ies_inside}
use Rattle.asn1_module.proofs.module.Module.ie_rows.Goals as goal

pub returns-clause-inside : goal.returns-clause-inside
returns-clause-inside c =
    ies_inside (λ rows. rows.now) c.self.inside.syntax c.args.self.now _ c.args.set.now c.find_ie_rows.result c.self.invariant.0
    c.self.view_is c.as_slice.ensures c.find_ie_rows.ensures

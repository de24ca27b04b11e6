use Rattle.asn1_module.proofs.Facts.{procedures_inside}
use Rattle.asn1_module.proofs.module.Module.procedure_rows.Goals as goal

pub returns-clause-inside : goal.returns-clause-inside
returns-clause-inside c =
    procedures_inside (λ rows. rows.now) c.self.inside.syntax c.args.self.now _ c.args.set.now c.find_procedure_rows.result
    c.self.invariant.0 c.self.view_is c.as_slice.ensures c.find_procedure_rows.ensures

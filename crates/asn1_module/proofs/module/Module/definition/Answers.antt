use Rattle.asn1_module.proofs.Facts.{here_inside, here_target}
use Rattle.asn1_module.proofs.module.Module.definition.Goals as goal

pub returns-clause-inside : goal.returns-clause-inside
returns-clause-inside c =
    here_inside c.self.inside.syntax c.args.self.now _ c.args.id.number _ c.self.invariant.0 c.self.view_is c.as_slice.ensures c.requires

pub returns-clause-target : goal.returns-clause-target
returns-clause-target c =
    here_target c.self.inside.syntax c.args.self.now _ c.args.id.number _ c.self.invariant.0 c.self.view_is c.as_slice.ensures c.requires

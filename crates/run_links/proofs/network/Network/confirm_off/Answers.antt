use Rattle.std.proofs.Common.{refl}
use Rattle.run_links.proofs.Carrying.{confirm_makes}
use Rattle.run_links.proofs.network.Network.confirm_off.Goals as goal

pub returns-clause-told : goal.returns-clause-told
returns-clause-told c = λ item rest lines is some. confirm_makes c.args.key c.args.self.now _ item rest lines c.confirm.result c.confirm.ensures refl is some

use Rattle.gnb_types.specs.Orders.{node_cmp}
use Rattle.cu_user.specs.Users.{User}
use Rattle.site.proofs.Each.{looked_up}
use Rattle.site.proofs.unit_set.UnitSet.cu_user.Goals as goal

pub returns : goal.returns
returns c = looked_up node_cmp (λ (x : User). x.up) c.args.self.now.users c.args.name c.get.result c.get.ensures

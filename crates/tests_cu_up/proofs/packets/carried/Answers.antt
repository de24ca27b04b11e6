use Rattle.std.proofs.Common.{ap}
use Rattle.gnb_types.specs.Orders.{ue_cmp}
use Rattle.tables.specs.Tables.{find}
use Rattle.cu_user.specs.Users.{User}
use Rattle.tests_cu_up.proofs.packets.carried.Goals as goal

pub place_static-requires-clause-new : goal.place_static-requires-clause-new
unfolding find
place_static-requires-clause-new c = ap (λ (u : User). find ue_cmp u.up.contexts _) c.new-node.ensures

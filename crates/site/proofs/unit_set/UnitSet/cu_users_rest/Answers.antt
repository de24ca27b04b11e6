use Rattle.std.proofs.Common.{◌∙◌}
use Rattle.site.proofs.Marks.{rest_is}
use Rattle.site.proofs.unit_set.UnitSet.cu_users_rest.Goals as goal

pub returns : goal.returns
returns c = c.rest.ensures ∙ rest_is c.args.self.now.users c.args.ue c.args.bearer

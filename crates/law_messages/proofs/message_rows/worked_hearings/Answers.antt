use Rattle.std.proofs.Common.{refl}
use Rattle.message_defs.specs.F1.{f1_at, f1_from_value}
use Rattle.message_defs.specs.Xn.{xn_at, xn_from_value}
use Rattle.law_messages.proofs.message_rows.worked_hearings.Goals as goal

pub returns : goal.returns
unfolding f1_at f1_from_value xn_at xn_from_value
returns c = record { ignored = refl; rejected = refl; older = refl }

use Rattle.std.proofs.Common.{refl}
use Rattle.unit_defs.specs.Transactions.{kind_of}
use Rattle.law_requests_act_once.proofs.channel_rows.messages_read_well.Goals as goal

pub returns : goal.returns
unfolding kind_of
returns c = record { kinds = λ m. refl; answers_are = λ a b. refl; passes = λ token. (0, refl); overtakes_is = λ m. refl }

use Rattle.gnb_types.specs.declared.names.NodeId.TheVariants.{Core}
use Rattle.unit_defs.specs.Core.{core_acts}
use Rattle.law_requests_act_once.proofs.channel_rows.Tickless.{whole}
use Rattle.law_requests_act_once.proofs.channel_rows.Cores.{core_made}
use Rattle.law_requests_act_once.proofs.channel_rows.the_core_makes_moves.Goals as goal

pub returns : goal.returns
returns g c = λ talk reads net none r at from m sent.
    whole talk Core net (λ s. s.transactions) (core_acts talk.way r from m) none (core_made talk reads net r at from m sent)

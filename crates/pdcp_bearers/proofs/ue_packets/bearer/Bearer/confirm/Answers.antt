use Rattle.std.proofs.Common.{subst}
use Rattle.unit_defs.specs.Ue.{UeBearer, number_waiting}
use Rattle.unit_defs.specs.octet_defs.Codec.{octet_way}
use Rattle.unit_messages.specs.steps.Steps.{step_after, IsStep}
use Rattle.pdcp_bearers.specs.ue_packets.Bearers.{kept, terminal_of}
use Rattle.pdcp_bearers.proofs.ue_packets.RowLemmas.{confirms}
use Rattle.pdcp_bearers.proofs.ue_packets.bearer.Bearer.confirm.Goals as goal

pub returns-clause-step : goal.returns-clause-step
returns-clause-step c = λ codec packet.
    let same = confirms codec c.confirm_to.new.self c.args.self.now.uplink c.args.self.now.downlink.receiver c.args.terminal.now.plan.sn c.args.number
    c.requires.up_sn c.confirm_to.ensures in
    subst
    (λ (b : UeBearer). IsStep (step_after c.args.out.now (number_waiting (octet_way codec) (terminal_of c.args.terminal.now) c.args.bearer b)) c.number_waiting.new.out
    (kept c.number_waiting.new.self) c.number_waiting.result)
    same (c.number_waiting.ensures.step codec)

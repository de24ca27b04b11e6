use Rattle.std.proofs.Common.{◌≡◌, refl, sym, ap, ◌∙◌, subst}
use Rattle.gnb_types.specs.declared.names.SnBits.{SnBits}
use Rattle.pdcp_defs.specs.Counts.{near_count}
use Rattle.pdcp_bearers.specs.ue_bearers.Receivers.{received}
use Rattle.unit_defs.specs.Ue.{UeBearer}
use Rattle.unit_defs.specs.octet_defs.Units.{OctetAnswer}
use Rattle.unit_messages.specs.steps.Steps.{step_after, IsStep}
use Rattle.pdcp_bearers.specs.ue_packets.Bearers.{kept, terminal_of}
use Rattle.pdcp_bearers.proofs.ue_packets.RowLemmas.{with_state, takes_stored}
use Rattle.pdcp_bearers.proofs.ue_packets.bearer.Bearer.take_packet.Goals as goal

pub returns-in-Stored-clause-step : goal.returns-in-Stored-clause-step
returns-in-Stored-clause-step c = λ codec.
    let u = terminal_of c.args.terminal.now in
    let b = kept c.args.self.now in
    let old = c.args.self.now.downlink in
    let is : with_state c.take.result c.take.new.self
    ≡ received old (near_count c.args.terminal.now.plan.sn old.receiver.deliv c.args.number) c.args.packet.now =
    c.take.ensures ∙ ap (λ (k : SnBits). received old (near_count k old.receiver.deliv c.args.number) c.args.packet.now) c.requires.of.down_sn in
    let same = takes_stored codec u c.args.bearer old c.take.new.self (near_count c.args.terminal.now.plan.sn old.receiver.deliv c.args.number) c.args.packet.now b
    refl c.requires.of.down_quota c.take.result c.in-Stored.is is in
    subst (λ (a : OctetAnswer UeBearer). IsStep (step_after c.args.out.now a) c.deliver.new.out (kept c.deliver.new.self) c.deliver.result) (sym same)
    (c.deliver.ensures.step codec)

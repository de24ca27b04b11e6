use Rattle.std.proofs.Common.{ℕ, Bool, List, [], ◌∷◌, ◌++◌, sym, ap, ◌∙◌, subst}
use Rattle.gnb_types.specs.declared.names.Dir.TheVariants.{Ul}
use Rattle.gnb_types.specs.declared.outputs.Output.{Output}
use Rattle.gnb_types.specs.declared.outputs.Output.TheVariants as outs
use Rattle.gnb_types.specs.declared.outputs.Tag.TheVariants.{Absent}
use Rattle.pdcp.specs.Pdus.{report_octets}
use Rattle.unit_defs.specs.Ue.{UeBearer}
use Rattle.unit_messages.specs.steps.Steps.{Step, IsStep}
use Rattle.pdcp_bearers.specs.ue_packets.Bearers.{kept, terminal_of}
use Rattle.pdcp_bearers.proofs.ue_packets.RowLemmas.{connects}
use Rattle.pdcp_bearers.proofs.ue_packets.bearer.Bearer.connect.Goals as goal

pub returns-clause-step : goal.returns-clause-step
returns-clause-step c = λ codec.
    let u = terminal_of c.args.terminal.now in
    let b = kept c.args.self.now in
    let f = c.in_ok-fmc.ensures.ok in
    let report =
    c.in_ok-push.ensures.ok
    ∙ ap (λ (o : Output). c.args.out.now ++ o ∷ [])
    (c.on_air.ensures
    ∙ ap (λ (x : List ℕ). outs.Radio c.args.terminal.now.plan.ue c.args.bearer Ul c.args.terminal.now.epoch Absent x)
    (c.in_ok-pdu.ensures
    ∙ (ap (λ (n : ℕ). report_octets n c.in_ok-fmc.bits) f.0 ∙ ap (λ (bs : List Bool). report_octets b.receiver.deliv bs) f.1))) in
    let same = connects codec u c.args.bearer c.args.out.now b c.push.new.self c.send_unconfirmed.new.out report (c.in_ok-send_unconfirmed.ensures codec) in
    subst (λ (s : Step UeBearer). IsStep s c.number_waiting.new.out (kept c.number_waiting.new.self) c.number_waiting.result) (sym same)
    (c.number_waiting.ensures.step codec)

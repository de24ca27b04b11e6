use Rattle.std.proofs.Common.{List, sym, ap, ◌∙◌}
use Rattle.gnb_types.specs.declared.outputs.Output.{Output}
use Rattle.pdcp_defs.specs.Receivers.{deliver as handed_up}
use Rattle.unit_messages.specs.steps.Steps.{step_after, stepped}
use Rattle.pdcp_bearers.specs.ue_bearers.Receivers.{ReceiverState}
use Rattle.pdcp_bearers.specs.ue_packets.Bearers.{kept, terminal_of}
use Rattle.pdcp_bearers.proofs.ue_packets.RowLemmas.{bearer_of, handing, delivers_one, delivers_none, delivered_facts, not_delivered}
use Rattle.pdcp_bearers.proofs.ue_packets.bearer.Bearer.deliver.Goals as goal

pub loop-count-preserved : goal.loop-count-preserved
loop-count-preserved c =
    let u = terminal_of c.args.terminal.now in
    let l = c.loop-count in
    let of = l.invariant.of in
    let f = delivered_facts _ _ _ c.in-Some.field-0 c.in_ok-count.ensures c.in-Some.is in
    let e = handed_up c.deliver.new.self.receiver in
    record {
      all = λ codec.
          ap (λ (os : List Output). step_after os (handing codec u c.args.bearer (kept l.self) e)) c.in_ok-push.ensures.ok
          ∙ (sym (delivers_one codec u c.args.bearer l.out (kept l.self) (handed_up l.self.downlink.receiver) e c.in-Some.field-0.count c.in-Some.field-0.packet f.1)
          ∙ l.invariant.all codec);
      uplink = l.invariant.uplink;
      of = record {
        up_sn = of.up_sn;
        up_quota = of.up_quota;
        down_sn = ap (λ (d : ReceiverState). d.sn) f.0 ∙ of.down_sn;
        down_quota = ap (λ (d : ReceiverState). d.quota) f.0 ∙ of.down_quota;
      };
    }

pub returns-clause-step : goal.returns-clause-step
returns-clause-step c = λ codec.
    let u = terminal_of c.args.terminal.now in
    let l = c.loop-count in
    let none = not_delivered _ _ _ c.in_ok-count.ensures c.in_default.is in
    sym (l.invariant.all codec)
    ∙ (delivers_none codec u c.args.bearer l.out (kept l.self) (handed_up l.self.downlink.receiver) none.1
    ∙ ap (λ (d : ReceiverState). stepped l.out (bearer_of l.self.uplink d.receiver)) (sym none.0))

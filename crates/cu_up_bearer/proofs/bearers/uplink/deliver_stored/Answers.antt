use Rattle.std.proofs.Common.{List, sym, ap, ◌∙◌}
use Rattle.gnb_types.specs.declared.outputs.Output.{Output}
use Rattle.pdcp_defs.specs.Receivers.{deliver as handed_up}
use Rattle.unit_defs.specs.CuUpRecords.{CuUpBearer}
use Rattle.unit_defs.specs.octet_defs.Units.{OctetAnswer}
use Rattle.unit_messages.specs.steps.Steps.{step_after, stepped}
use Rattle.pdcp_bearers.specs.ue_bearers.Receivers.{ReceiverState}
use Rattle.pdcp_bearers.specs.ue_bearers.Senders.{IsPacket}
use Rattle.cu_up_bearer.specs.bearers.Bearers.{with_receiver}
use Rattle.cu_up_bearer.proofs.bearers.Deliveries.{handing, delivers, delivers_one, delivers_none, delivered_facts, not_delivered, all_kept}
use Rattle.cu_up_bearer.proofs.bearers.uplink.deliver_stored.Goals as goal

pub loop-count-preserved : goal.loop-count-preserved
loop-count-preserved c =
    let l = c.loop-count in
    let of = l.invariant.of in
    let f = delivered_facts _ _ _ c.in-Some.field-0 c.in_ok-count.ensures c.in-Some.is in
    let e = handed_up c.deliver.new.self.receiver in
    record {
      all = λ codec b.
          ap (λ (os : List Output). step_after os (handing codec c.args.at.now b e)) c.in_ok-push.ensures.ok
          ∙ (sym (delivers_one codec c.args.at.now b l.out (handed_up l.receiving.receiver) e c.in-Some.field-0.count c.in-Some.field-0.packet f.1)
          ∙ l.invariant.all codec b);
      of = (
        ap (λ (d : ReceiverState). d.sn) f.0 ∙ of.0,
        ap (λ (d : ReceiverState). d.quota) f.0 ∙ of.1,
        all_kept (λ x. IsPacket x.1) l.receiving.receiver c.deliver.new.self.receiver (c.in-Some.field-0.count, c.in-Some.field-0.packet) f.1 of.2,
      );
    }

pub returns-clause-step : goal.returns-clause-step
returns-clause-step c = λ codec b.
    let l = c.loop-count in
    let none = not_delivered _ _ _ c.in_ok-count.ensures c.in_default.is in
    ap (λ (x : OctetAnswer CuUpBearer). step_after c.args.out.now x) (delivers codec c.args.at.now b c.args.receiving.now)
    ∙ (sym (l.invariant.all codec b)
    ∙ (delivers_none codec c.args.at.now b l.out l.receiving (handed_up l.receiving.receiver) none.1
    ∙ ap (λ (d : ReceiverState). stepped l.out (with_receiver b d)) (sym none.0)))

use Rattle.std.proofs.Common.{sym, ap, ◌∙◌}
use Rattle.unit_defs.specs.Ue.{UeBearer}
use Rattle.unit_defs.specs.octet_defs.Units.{OctetAnswer}
use Rattle.unit_messages.specs.steps.Steps.{step_after, stepped}
use Rattle.pdcp_bearers.specs.ue_bearers.Senders.{SenderState}
use Rattle.pdcp_bearers.specs.ue_packets.Bearers.{kept, terminal_of}
use Rattle.pdcp_bearers.proofs.ue_packets.RowLemmas.{bearer_of, numbers_nothing, numbers_connected, numbers_one, numbers_end, numbers_spent, numbers_keeps, numbered_facts, not_numbered, numbers_fails}
use Rattle.pdcp_bearers.proofs.ue_packets.bearer.Bearer.number_waiting.Goals as goal

pub returns-then-not-is_connected-clause-step : goal.returns-then-not-is_connected-clause-step
returns-then-not-is_connected-clause-step c = λ codec.
    numbers_nothing codec (terminal_of c.args.terminal.now) c.args.bearer (sym c.is_connected.ensures ∙ c.if-not-is_connected.true) c.args.out.now
    (kept c.args.self.now)

pub returns-in_err-count-clause-step : goal.returns-in_err-count-clause-step
returns-in_err-count-clause-step c = λ codec.
    let u = terminal_of c.args.terminal.now in
    let l = c.loop-count in
    let start = ap (λ (a : OctetAnswer UeBearer). step_after c.args.out.now a)
    (numbers_connected codec u c.args.bearer (sym c.is_connected.ensures ∙ c.if-not-is_connected.false) (kept c.args.self.now))
    ∙ sym (l.invariant.all codec) in
    numbers_fails l.self.uplink.sn _ l.self.uplink c.number.new.self c.in_err-count.field-0.0 c.in_err-count.ensures _
    (λ is. start ∙ numbers_spent codec u c.args.bearer l.self.uplink l.self.downlink.receiver l.out l.invariant.of.up_sn l.invariant.of.up_quota is) _ _ _
    c.from_residual.ensures.1

pub loop-count-preserved : goal.loop-count-preserved
loop-count-preserved c =
    let u = terminal_of c.args.terminal.now in
    let l = c.loop-count in
    let of = l.invariant.of in
    let f = numbered_facts _ _ _ _ _ c.in-Some.field-0 c.in_ok-count.ensures c.in-Some.is in
    let k = numbers_keeps l.self.uplink c.number.new.self _ _ f.1 in
    record {
      all = λ codec.
          numbers_one codec u c.args.bearer l.self.uplink l.self.downlink.receiver l.out of.up_sn of.up_quota c.number.new.self _ f.0 _ c.on_air.result
          c.push.new.self f.1 f.2 (cc) c.in_ok-push.ensures.ok
          ∙ l.invariant.all codec;
      of = record { up_sn = k.0 ∙ of.up_sn; up_quota = k.1 ∙ of.up_quota; down_sn = of.down_sn; down_quota = of.down_quota };
    }

pub returns-clause-step : goal.returns-clause-step
returns-clause-step c = λ codec.
    let u = terminal_of c.args.terminal.now in
    let l = c.loop-count in
    let none = not_numbered _ _ _ _ _ c.in_ok-count.ensures c.in_default.is in
    ap (λ (a : OctetAnswer UeBearer). step_after c.args.out.now a)
    (numbers_connected codec u c.args.bearer (sym c.is_connected.ensures ∙ c.if-not-is_connected.false) (kept c.args.self.now))
    ∙ (sym (l.invariant.all codec)
    ∙ (numbers_end codec u c.args.bearer l.self.uplink l.self.downlink.receiver l.out l.invariant.of.up_sn l.invariant.of.up_quota none.0
    ∙ ap (λ (d : SenderState). stepped l.out (bearer_of d l.self.downlink.receiver)) (sym none.1)))

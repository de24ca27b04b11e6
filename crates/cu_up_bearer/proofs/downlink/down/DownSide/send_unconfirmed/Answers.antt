use Rattle.std.proofs.Common.{◌≡◌, ℕ, ◌+◌, List, sym, ap, ◌∙◌}
use Rattle.gnb_types.specs.declared.outputs.Output.{Output}
use Rattle.gnb_types.specs.declared.outputs.Tag.TheVariants.{Own}
use Rattle.unit_defs.specs.CuUpRecords.{CuUpBearer}
use Rattle.unit_defs.specs.CuUpBearers.{sent, sent_again}
use Rattle.unit_defs.specs.octet_defs.Codec.{octet_way}
use Rattle.unit_defs.specs.octet_defs.Units.{OctetAnswer}
use Rattle.unit_messages.specs.steps.Steps.{step_after}
use Rattle.unit_messages.proofs.steps.StepLaws.{step_then}
use Rattle.pdcp_bearers.specs.ue_bearers.Senders.{from_on}
use Rattle.cu_up_bearer.specs.tunnels.Tunnels.{at_as}
use Rattle.cu_up_bearer.specs.declared.downlink.down.DownSide.{DownSide}
use Rattle.cu_up_bearer.specs.downlink.Downlinks.{with_down}
use Rattle.cu_up_bearer.proofs.downlink.Sequels.{nothing_more, step_as, ends_with}
use Rattle.cu_up_bearer.proofs.downlink.Numberings.{side}
use Rattle.cu_up_bearer.proofs.downlink.Resends.{again, again_none, all_from, again_one}
use Rattle.cu_up_bearer.proofs.downlink.down.DownSide.send_unconfirmed.Goals as goal

pub returns-in_err-send-clause-step : goal.returns-in_err-send-clause-step
returns-in_err-send-clause-step c = λ codec b.
    let l = c.loop-count in
    let es = l.self.sending.sender.unconfirmed in
    let rest = from_on (c.in-Some.count + 1) es in
    let now = with_down b l.self in
    step_as _ _ _ _ _
    (ap (λ (xs : List (ℕ × List ℕ)). step_after c.args.out.now (again codec c.args.at.now (with_down b c.args.self.now) xs))
    (sym (all_from c.args.self.now.sending.sender.unconfirmed))
    ∙ sym (l.invariant.all codec b)
    ∙ ap (λ (x : OctetAnswer CuUpBearer). step_after l.out x) (again_one codec c.args.at.now now (from_on l.from es) rest c.in-Some.count c.in-Some.packet.now c.in-Some.ensures.0))
    (ends_with (Unit {0}) (Unit {0}) l.out (sent (octet_way codec) (at_as c.args.at.now) c.in-Some.count c.in-Some.packet.now (Own c.in-Some.count) now)
    (sent_again (octet_way codec) (at_as c.args.at.now) rest) c.send.new.out (with_down b (side l.self.sending c.send.new.self)) c.in_err-send.field-0.0
    (c.in_err-send.ensures codec now) _ _ _ c.from_residual.ensures.1)

pub loop-count-preserved : goal.loop-count-preserved
loop-count-preserved c =
    let l = c.loop-count in
    let es = l.self.sending.sender.unconfirmed in
    let rest = from_on (c.in-Some.count + 1) es in
    record {
      all = λ codec b.
          let now = with_down b l.self in
          sym (ap (λ (x : OctetAnswer CuUpBearer). step_after l.out x)
          (again_one codec c.args.at.now now (from_on l.from es) rest c.in-Some.count c.in-Some.packet.now c.in-Some.ensures.0)
          ∙ step_then l.out c.send.new.out (sent (octet_way codec) (at_as c.args.at.now) c.in-Some.count c.in-Some.packet.now (Own c.in-Some.count) now)
          (sent_again (octet_way codec) (at_as c.args.at.now) rest) (with_down b (side l.self.sending c.send.new.self)) (c.in_ok-send.ensures codec now))
          ∙ l.invariant.all codec b;
      sending = l.invariant.sending;
    }

pub returns-clause-step : goal.returns-clause-step
returns-clause-step c = λ codec b.
    let l = c.loop-count in
    let es = l.self.sending.sender.unconfirmed in
    ap (λ (xs : List (ℕ × List ℕ)). step_after c.args.out.now (again codec c.args.at.now (with_down b c.args.self.now) xs))
    (sym (all_from c.args.self.now.sending.sender.unconfirmed))
    ∙ sym (l.invariant.all codec b)
    ∙ ap (λ (x : OctetAnswer CuUpBearer). step_after l.out x) (again_none codec c.args.at.now (with_down b l.self) (from_on l.from es) c.in_default.ensures)
    ∙ nothing_more l.out (with_down b l.self)

use Rattle.std.proofs.Common.{◌≡◌, ℕ, List, sym, ap, ◌∙◌}
use Rattle.gnb_types.specs.declared.outputs.Tag.TheVariants.{Own}
use Rattle.unit_defs.specs.CuUpRecords.{CuUpBearer}
use Rattle.unit_defs.specs.CuUpBearers.{sent, number_each}
use Rattle.unit_defs.specs.octet_defs.Codec.{octet_way}
use Rattle.unit_defs.specs.octet_defs.Units.{OctetAnswer}
use Rattle.unit_messages.specs.steps.Steps.{step_after, stepped}
use Rattle.unit_messages.proofs.steps.StepLaws.{step_then}
use Rattle.pdcp_bearers.specs.ue_bearers.Senders.{SenderState, numbers, stays, ends, numbering}
use Rattle.cu_up_bearer.specs.tunnels.Tunnels.{at_as}
use Rattle.cu_up_bearer.specs.downlink.Downlinks.{with_down}
use Rattle.cu_up_bearer.proofs.downlink.Sequels.{nothing_more, step_as, ends_with}
use Rattle.cu_up_bearer.proofs.downlink.Numberings.{side, turn_of, counted_facts, not_counted, counts_fail, numbers_keeps}
use Rattle.cu_up_bearer.proofs.downlink.down.DownSide.number_each.Goals as goal

pub returns-in_err-count-clause-step : goal.returns-in_err-count-clause-step
returns-in_err-count-clause-step c = λ codec b.
    let l = c.loop-count in
    counts_fail (numbering l.self.sending) l.self.sending c.give_count.new.self c.in_err-count.field-0.0 c.in_err-count.ensures _
    (λ is. sym (l.invariant.all codec b)
    ∙ ap (λ (x : OctetAnswer CuUpBearer). step_after l.out x)
    (turn_of codec c.args.at.now b l.self.frames l.self.sending l.invariant.of.0 l.invariant.of.1 ends is)) _ _ _
    c.from_residual.ensures.1

pub returns-in_err-send-clause-step : goal.returns-in_err-send-clause-step
returns-in_err-send-clause-step c = λ codec b.
    let l = c.loop-count in
    let new = c.give_count.new.self in
    let f = counted_facts (numbering l.self.sending) l.self.sending new _ c.in-Some.field-0 c.in_ok-count.ensures c.in-Some.is in
    let packet_is : c.in-Some.field-0.packet ≡ c.as_slice.result.now = cc in
    let is = f.0 ∙ ap (λ (p : List ℕ). numbers c.in-Some.field-0.count p new) packet_is in
    let before = with_down b (side new l.self.frames) in
    step_as _ _ _ _ _
    (sym (l.invariant.all codec b)
    ∙ ap (λ (x : OctetAnswer CuUpBearer). step_after l.out x)
    (turn_of codec c.args.at.now b l.self.frames l.self.sending l.invariant.of.0 l.invariant.of.1 (numbers c.in-Some.field-0.count c.as_slice.result.now new) is))
    (ends_with (Unit {0}) (Unit {0}) l.out (sent (octet_way codec) (at_as c.args.at.now) c.in-Some.field-0.count c.as_slice.result.now (Own c.in-Some.field-0.count) before)
    (number_each (octet_way codec) (at_as c.args.at.now) new.waiting) c.send.new.out (with_down b (side new c.send.new.self)) c.in_err-send.field-0.0
    (c.in_err-send.ensures codec before) _ _ _ c.from_residual-in_err-send.ensures.1)

pub loop-count-preserved : goal.loop-count-preserved
loop-count-preserved c =
    let l = c.loop-count in
    let new = c.give_count.new.self in
    let f = counted_facts (numbering l.self.sending) l.self.sending new _ c.in-Some.field-0 c.in_ok-count.ensures c.in-Some.is in
    let packet_is : c.in-Some.field-0.packet ≡ c.as_slice.result.now = cc in
    let is = f.0 ∙ ap (λ (p : List ℕ). numbers c.in-Some.field-0.count p new) packet_is in
    let k = numbers_keeps l.self.sending new _ _ f.0 in
    record {
      all = λ codec b.
          let before = with_down b (side new l.self.frames) in
          sym (ap (λ (x : OctetAnswer CuUpBearer). step_after l.out x)
          (turn_of codec c.args.at.now b l.self.frames l.self.sending l.invariant.of.0 l.invariant.of.1 (numbers c.in-Some.field-0.count c.as_slice.result.now new) is)
          ∙ step_then l.out c.send.new.out (sent (octet_way codec) (at_as c.args.at.now) c.in-Some.field-0.count c.as_slice.result.now (Own c.in-Some.field-0.count) before)
          (number_each (octet_way codec) (at_as c.args.at.now) new.waiting) (with_down b (side new c.send.new.self)) (c.in_ok-send.ensures codec before))
          ∙ l.invariant.all codec b;
      of = (k.0 ∙ l.invariant.of.0, k.1 ∙ l.invariant.of.1);
    }

pub returns-clause-step : goal.returns-clause-step
returns-clause-step c = λ codec b.
    let l = c.loop-count in
    let none = not_counted (numbering l.self.sending) l.self.sending c.give_count.new.self _ c.in_ok-count.ensures c.in_default.is in
    sym (l.invariant.all codec b)
    ∙ ap (λ (x : OctetAnswer CuUpBearer). step_after l.out x)
    (turn_of codec c.args.at.now b l.self.frames l.self.sending l.invariant.of.0 l.invariant.of.1 stays none.0)
    ∙ nothing_more l.out (with_down b l.self)
    ∙ ap (λ (d : SenderState). stepped l.out (with_down b (side d l.self.frames))) (sym none.1)

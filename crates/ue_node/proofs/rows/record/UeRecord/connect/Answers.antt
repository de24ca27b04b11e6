use Rattle.std.proofs.Common.{◌≡◌, List, length, sym, ap, ◌∙◌, subst}
use Rattle.unit_defs.specs.Ue.{connect_each}
use Rattle.unit_defs.specs.octet_defs.Codec.{octet_way}
use Rattle.unit_messages.specs.steps.Steps.{step_after, IsStep}
use Rattle.pdcp_bearers.specs.declared.ue_packets.bearer.Bearer.{Bearer}
use Rattle.pdcp_bearers.specs.declared.ue_packets.terminal.Terminal.{Terminal}
use Rattle.ue_node.specs.rows.Records.{record_of, numbered}
use Rattle.ue_node.specs.declared.rows.record.UeRecord.{UeRecord}
use Rattle.ue_node.proofs.rows.BearerLemmas.{with_all}
use Rattle.ue_node.proofs.rows.RowSteps.{kept_all}
use Rattle.ue_node.proofs.rows.record.UeRecord.connect.Goals as goal

pub returns-clause-step : goal.returns-clause-step
returns-clause-step c = λ codec.
    let r : UeRecord = c.args.self.now in
    let size : length c.connect_each.new.bearers ≡ r.bearers.len =
    c.connect_each.auto.bearers ∙ ap length c.as_mut_slice.ensures.value ∙ sym r.bearers.ok.0 in
    kept_all c.args.out.now c.connect_each.new.out (record_of r) _ codec (connect_each (octet_way codec) (record_of r) (record_of r).bearers)
    (numbered 1 c.connect_each.new.bearers) c.connect_each.result
    (ap (λ (bs : List Bearer). record (record_of r) { bearers = numbered 1 bs }) (sym (with_all r.bearers c.connect_each.new.bearers size)))
    (subst
    (λ (bs : List Bearer). IsStep (step_after c.args.out.now (connect_each (octet_way codec) (record_of r) (numbered 1 bs))) c.connect_each.new.out
    (numbered 1 c.connect_each.new.bearers) c.connect_each.result)
    c.as_mut_slice.ensures.value
    (c.connect_each.ensures.step codec (record_of r)
    (record {
      plan = sym (ap (λ (t : Terminal). t.plan) c.terminal-terminal.ensures);
      state = sym (ap (λ (t : Terminal). t.state) c.terminal-terminal.ensures);
      epoch = sym (ap (λ (t : Terminal). t.epoch) c.terminal-terminal.ensures);
    })))

use Rattle.std.proofs.Common.{ap, ◌∙◌}
use Rattle.gnb_types.specs.declared.inputs.Input.TheVariants as ins
use Rattle.gnb_types.specs.declared.names.Dir.{Dir}
use Rattle.pdcp.specs.Pdus.{content_of}
use Rattle.unit_defs.specs.octet_defs.Units.{ue_steps}
use Rattle.ue_node.specs.rows.Records.{record_of}
use Rattle.ue_node.proofs.Reading.{goes_to, drops_to, confirm_read, confirm_not_read}
use Rattle.ue_node.proofs.inputs.take_confirm.Goals as goal

pub returns-in-Some-clause-step : goal.returns-in-Some-clause-step
returns-in-Some-clause-step c = λ codec ue lawful.
    goes_to c.args.out.now c.confirm.new.out (record_of c.confirm.new.self) c.confirm.result _ _
    (ap (λ (d : Dir). ue_steps codec (record_of c.args.record.now) (ins.Confirm ue c.args.bearer d c.args.octets.now)) c.in-Ul.is
    ∙ confirm_read codec (record_of c.args.record.now) c.args.octets.now ue c.args.bearer lawful (content_of c.in-Some.pdu) c.in-Some.ensures.found)
    (c.confirm.ensures.step codec)

pub returns-in-None-clause-step : goal.returns-in-None-clause-step
returns-in-None-clause-step c = λ codec ue lawful.
    drops_to c.args.out.now c.drop_input-in-None.new.out _ (record_of c.args.record.now) c.drop_input-in-None.result _
    (ap (λ (d : Dir). ue_steps codec (record_of c.args.record.now) (ins.Confirm ue c.args.bearer d c.args.octets.now)) c.in-Ul.is
    ∙ confirm_not_read codec (record_of c.args.record.now) c.args.octets.now ue c.args.bearer lawful c.in-None.ensures.none)
    c.drop_input-in-None.ensures.ok c.drop_input-in-None.ensures.err

use Rattle.std.proofs.Common.{ℕ, List, sym, ap, ◌∙◌}
use Rattle.gnb_types.specs.declared.inputs.Input.{Input}
use Rattle.gnb_types.specs.declared.inputs.Input.TheVariants as ins
use Rattle.unit_defs.specs.Ue.{UeNode, ue_acts}
use Rattle.unit_defs.specs.octet_defs.Codec.{Codec}
use Rattle.unit_defs.specs.octet_defs.Reading.{read_at_ue}
use Rattle.unit_defs.specs.octet_defs.Units.{ue_steps}
use Rattle.ue_node.specs.rows.Records.{record_of}
use Rattle.ue_node.proofs.Reading.{goes_to}
use Rattle.ue_node.proofs.inputs.act.Goals as goal

pub returns-in-Radio-clause-step : goal.returns-in-Radio-clause-step
returns-in-Radio-clause-step g c = λ lawful.
    let codec : Codec = g.C.MessageCodec.codec in
    let u : UeNode = record_of c.args.record.now in
    goes_to c.args.out.now c.take_radio.new.out (record_of c.take_radio.new.record) c.take_radio.result _ _
    (ap (λ (i : Input). ue_steps codec u i) c.in-Radio.is
    ∙ ap (λ (bs : List ℕ). ue_steps codec u (ins.Radio c.in-Radio.ue c.in-Radio.bearer c.in-Radio.dir bs)) (sym c.as_slice-in-Radio.ensures))
    (c.take_radio.ensures.step codec c.in-Radio.ue lawful)

pub returns-in-Confirm-clause-step : goal.returns-in-Confirm-clause-step
returns-in-Confirm-clause-step g c = λ lawful.
    let codec : Codec = g.C.MessageCodec.codec in
    let u : UeNode = record_of c.args.record.now in
    goes_to c.args.out.now c.take_confirm.new.out (record_of c.take_confirm.new.record) c.take_confirm.result _ _
    (ap (λ (i : Input). ue_steps codec u i) c.in-Confirm.is
    ∙ ap (λ (bs : List ℕ). ue_steps codec u (ins.Confirm c.in-Confirm.ue c.in-Confirm.bearer c.in-Confirm.dir bs)) (sym c.as_slice-in-Confirm.ensures))
    (c.take_confirm.ensures.step codec c.in-Confirm.ue lawful)

pub returns-in-Offer-clause-step : goal.returns-in-Offer-clause-step
unfolding ue_steps read_at_ue ue_acts
returns-in-Offer-clause-step g c = λ lawful.
    let codec : Codec = g.C.MessageCodec.codec in
    goes_to c.args.out.now c.offer.new.out (record_of c.offer.new.self) c.offer.result _ _
    (ap (λ (i : Input). ue_steps codec (record_of c.args.record.now) i) c.in-Offer.is)
    (c.offer.ensures.step codec)

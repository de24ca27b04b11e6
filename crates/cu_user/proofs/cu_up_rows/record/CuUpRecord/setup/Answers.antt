use Rattle.std.proofs.Common.{◌≡◌, true, false, sym, subst}
use Rattle.std.specs.Prelude.{Err}
use Rattle.std.proofs.lemmas.Result.{err_from_is_err_and}
use Rattle.unit_defs.specs.Accessors.{cu_up_has_context}
use Rattle.unit_defs.specs.CuUp.{setup, fits}
use Rattle.unit_defs.specs.octet_defs.Codec.{octet_way}
use Rattle.unit_defs.specs.octet_defs.Units.{OctetAnswer}
use Rattle.unit_messages.specs.steps.Steps.{IsStep, step_after}
use Rattle.cu_up_contexts.specs.contexts.Tables.{OctetUp}
use Rattle.cu_user.specs.cu_up_rows.Records.{cu_up_record}
use Rattle.cu_user.proofs.cu_up_rows.BearerSteps.{setup_busy, setup_full, setup_step, setup_stops}
use Rattle.cu_user.proofs.cu_up_rows.record.CuUpRecord.setup.Goals as goal

pub returns-then-has : goal.returns-then-has
returns-then-has g c =
    let r : OctetUp = cu_up_record c.self.inside.gnb c.self.inside.number c.self.inside.is_set_up c.self.inside.contexts c.self.inside.requests in
    let codec = g.C.MessageCodec.codec in
    let has = subst (λ (s : OctetUp). true ≡ cu_up_has_context s c.args.request.ue) c.self.view_is (c.if-has.ensures r) in
    subst (λ (a : OctetAnswer OctetUp). IsStep (step_after c.args.outputs.now a) c.fail_setup.new.outputs c.fail_setup.new.self c.fail_setup.result)
    (sym (setup_busy codec c.args.request.channel c.args.request.ue c.args.request.instance c.args.context.count c.args.context.sn c.args.context.quota c.args.context.target c.args.self.now has)) c.fail_setup.ensures

pub returns-then-not-fits : goal.returns-then-not-fits
returns-then-not-fits g c =
    let r : OctetUp = cu_up_record c.self.inside.gnb c.self.inside.number c.self.inside.is_set_up c.self.inside.contexts c.self.inside.requests in
    let codec = g.C.MessageCodec.codec in
    let has = subst (λ (s : OctetUp). false ≡ cu_up_has_context s c.args.request.ue) c.self.view_is (c.if-has.ensures r) in
    let full = subst (λ (s : OctetUp). false ≡ fits (octet_way codec) c.args.context.count c.args.context.quota s) c.self.view_is (c.if-not-fits.ensures codec r) in
    subst (λ (a : OctetAnswer OctetUp). IsStep (step_after c.args.outputs.now a) c.fail_setup-then-not-fits.new.outputs c.fail_setup-then-not-fits.new.self c.fail_setup-then-not-fits.result)
    (sym (setup_full codec c.args.request.channel c.args.request.ue c.args.request.instance c.args.context.count c.args.context.sn c.args.context.quota c.args.context.target c.args.self.now has full)) c.fail_setup-then-not-fits.ensures

pub returns-in_err-make : goal.returns-in_err-make
returns-in_err-make g c =
    let r : OctetUp = cu_up_record c.self.inside.gnb c.self.inside.number c.self.inside.is_set_up c.self.inside.contexts c.self.inside.requests in
    let codec = g.C.MessageCodec.codec in
    let now : OctetUp = cu_up_record c.self.inside.gnb c.self.inside.number c.self.inside.is_set_up c.make.new.self c.self.inside.requests in
    let p = err_from_is_err_and c.from_residual.result c.from_residual.ensures.1 in
    rw (p.1, p.2)
    (subst (λ (s : OctetUp). IsStep {X = Unit {0}} (step_after c.args.outputs.now (setup (octet_way codec) c.args.request.channel c.args.request.ue c.args.request.instance c.args.context.count c.args.context.sn c.args.context.quota c.args.context.target s))
    c.make.new.out now (Err c.in_err-make.field-0.0)) c.self.view_is
    (setup_stops codec c.args.request.channel c.args.request.ue c.args.request.instance c.args.context.count c.args.context.sn c.args.context.quota c.args.context.target r c.args.outputs.now c.make.new.out c.make.new.out (Unit {0}) (Unit {0}) now now c.in_err-make.field-0.0
    (c.if-has.ensures r) (c.if-not-fits.ensures codec r) (c.in_err-make.ensures codec r)))

pub returns : goal.returns
returns g c =
    let r : OctetUp = cu_up_record c.self.inside.gnb c.self.inside.number c.self.inside.is_set_up c.self.inside.contexts c.self.inside.requests in
    let codec = g.C.MessageCodec.codec in
    let now : OctetUp = cu_up_record c.self.inside.gnb c.self.inside.number c.self.inside.is_set_up c.make.new.self c.self.inside.requests in
    subst (λ (s : OctetUp). IsStep (step_after c.args.outputs.now (setup (octet_way codec) c.args.request.channel c.args.request.ue c.args.request.instance c.args.context.count c.args.context.sn c.args.context.quota c.args.context.target s))
    c.tell_setup.new.outputs c.tell_setup.new.self c.tell_setup.result) c.self.view_is
    (setup_step codec c.args.request.channel c.args.request.ue c.args.request.instance c.args.context.count c.args.context.sn c.args.context.quota c.args.context.target r c.args.outputs.now c.make.new.out c.tell_setup.new.outputs now c.tell_setup.new.self c.tell_setup.result
    (c.if-has.ensures r) (c.if-not-fits.ensures codec r) (c.in_ok-make.ensures codec r) c.tell_setup.ensures)

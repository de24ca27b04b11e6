use Rattle.std.proofs.Common.{◌≡◌, List, [], map, sym, ap, subst, ◌∙◌, rules}
use Rattle.std.specs.Prelude.{Err}
use Rattle.std.proofs.lemmas.Result.{err_from_is_err_and}
use Rattle.unit_defs.specs.CuCpRecords.{act_all}
use Rattle.unit_defs.specs.octet_defs.Codec.{octet_way}
use Rattle.unit_messages.specs.steps.Steps.{step_after, IsStep}
use Rattle.cu_cp_records.specs.declared.control_actions.actions.Action.{Action}
use Rattle.cu_cp_records.specs.control_actions.Rows.{action_as}
use Rattle.cu_control.proofs.steps.Sayings.{all_said, more_said, said_no_more}
use Rattle.cu_control.proofs.steps.carrying.act_all.Goals as goal

pub loop-say-preserved : goal.loop-say-preserved
loop-say-preserved g c =
    let codec = g.C.MessageCodec.codec in
    more_said codec c.args.ue c.loop-say.outputs c.loop-say.«record»
    (step_after c.args.outputs.now (act_all (octet_way codec) c.args.ue (map action_as c.from-left.result.items) c.args.«record».now))
    (map action_as c.loop-say.left.items) c.loop-say.invariant c.act_one.new.outputs c.act_one.new.«record» (action_as c.in-Some.say)
    (map action_as c.pop_front.new.self.items) (ap (λ (xs : List Action). map action_as xs) c.in-Some.ensures.items) c.in_ok-act_one.ensures

pub returns-in_err-act_one : goal.returns-in_err-act_one
returns-in_err-act_one g c =
    let codec = g.C.MessageCodec.codec in
    let p = err_from_is_err_and c.from_residual.result c.from_residual.ensures.1 in
    rw (p.1, p.2)
    (subst
    (λ (xs : List Action). IsStep {X = Unit {0}} (step_after c.args.outputs.now (act_all (octet_way codec) c.args.ue (map action_as xs) c.args.«record».now))
    c.act_one.new.outputs c.act_one.new.«record» (Err c.in_err-act_one.field-0.0))
    (c.from-left.ensures.0 ∙ c.into_vec.ensures)
    (said_no_more codec c.args.ue c.loop-say.outputs c.loop-say.«record»
    (step_after c.args.outputs.now (act_all (octet_way codec) c.args.ue (map action_as c.from-left.result.items) c.args.«record».now))
    (map action_as c.loop-say.left.items) c.loop-say.invariant c.act_one.new.outputs c.act_one.new.«record» (action_as c.in-Some.say)
    (map action_as c.pop_front.new.self.items) (ap (λ (xs : List Action). map action_as xs) c.in-Some.ensures.items) (Unit {0}) (Unit {0})
    c.in_err-act_one.field-0.0 c.in_err-act_one.ensures))

pub returns : goal.returns
returns g c =
    let codec = g.C.MessageCodec.codec in
    let none : c.loop-say.left.items ≡ [] = search rules in
    ap (λ (xs : List Action). step_after c.args.outputs.now (act_all (octet_way codec) c.args.ue (map action_as xs) c.args.«record».now))
    (sym (c.from-left.ensures.0 ∙ c.into_vec.ensures))
    ∙ all_said codec c.args.ue c.loop-say.outputs c.loop-say.«record»
    (step_after c.args.outputs.now (act_all (octet_way codec) c.args.ue (map action_as c.from-left.result.items) c.args.«record».now))
    (map action_as c.loop-say.left.items) c.loop-say.invariant (ap (λ (xs : List Action). map action_as xs) none)

use Rattle.std.proofs.Common.{◌≡◌, true, List, Option, Some, None, sym, subst}
use Rattle.std.specs.Prelude.{Err}
use Rattle.std.proofs.lemmas.Result.{err_from_is_err_and}
use Rattle.gnb_types.specs.declared.plans.SnStatus.{SnStatus}
use Rattle.unit_defs.specs.CuUpRecords.{CuUpContext}
use Rattle.unit_defs.specs.CuUp.{context_of, peer_node}
use Rattle.unit_defs.specs.octet_defs.Codec.{octet_way}
use Rattle.unit_messages.specs.steps.Steps.{stepped, step_after, IsStep}
use Rattle.unit_requests.proofs.Thens.{goes_on, stops}
use Rattle.cu_up_contexts.specs.contexts.Tables.{OctetUp}
use Rattle.cu_up_contexts.specs.contexts.Rows.{frozen_at}
use Rattle.cu_user.specs.cu_up_rows.Records.{cu_up_record}
use Rattle.cu_user.specs.cu_up_rows.Modes.{may_serve, statuses_on}
use Rattle.cu_user.proofs.cu_up_rows.ModeSteps.{telling}
use Rattle.cu_user.proofs.cu_up_rows.record.CuUpRecord.freeze_known.Goals as goal

pub freeze-requires : goal.freeze-requires
freeze-requires g c = λ found is.
    let codec = g.C.MessageCodec.codec in
    let inner : OctetUp = cu_up_record c.self.inside.gnb c.self.inside.number c.self.inside.is_set_up c.self.inside.contexts c.self.inside.requests in
    let known = subst (λ (s : OctetUp). may_serve codec (context_of s c.args.request.ue) ≡ true) (sym c.self.view_is) c.requires in
    subst (λ (o : Option CuUpContext). may_serve codec o ≡ true) is known

pub returns-in_err-freeze : goal.returns-in_err-freeze
returns-in_err-freeze g c =
    let codec = g.C.MessageCodec.codec in
    let r : OctetUp = c.args.self.now in
    let inner : OctetUp = cu_up_record c.self.inside.gnb c.self.inside.number c.self.inside.is_set_up c.self.inside.contexts c.self.inside.requests in
    let now : OctetUp = cu_up_record c.self.inside.gnb c.self.inside.number c.self.inside.is_set_up c.freeze.new.self c.self.inside.requests in
    let p = err_from_is_err_and c.from_residual-in_err-freeze.result c.from_residual-in_err-freeze.ensures.1 in
    rw (p.1, p.2)
    (stops c.args.outputs.now c.freeze.new.out (frozen_at codec c.args.request.ue (peer_node (octet_way codec) c.args.peer) c.args.down.now c.args.up.now r (context_of r c.args.request.ue))
    (telling codec c.args.request.channel c.args.request.ue c.args.request.instance r None (Some (statuses_on codec (context_of r c.args.request.ue)))) (Unit {0}) (Unit {0}) c.freeze.new.out now now c.in_err-freeze.field-0.0
    (subst (λ (s : OctetUp). IsStep {X = Unit {0}} (step_after c.args.outputs.now
    (frozen_at codec c.args.request.ue (peer_node (octet_way codec) c.args.peer) c.args.down.now c.args.up.now s (context_of s c.args.request.ue)))
    c.freeze.new.out now (Err c.in_err-freeze.field-0.0)) c.self.view_is (c.in_err-freeze.ensures codec inner)))

pub returns : goal.returns
returns g c =
    let codec = g.C.MessageCodec.codec in
    let r : OctetUp = c.args.self.now in
    let inner : OctetUp = cu_up_record c.self.inside.gnb c.self.inside.number c.self.inside.is_set_up c.self.inside.contexts c.self.inside.requests in
    let now : OctetUp = cu_up_record c.self.inside.gnb c.self.inside.number c.self.inside.is_set_up c.freeze.new.self c.self.inside.requests in
    goes_on c.args.outputs.now c.freeze.new.out (frozen_at codec c.args.request.ue (peer_node (octet_way codec) c.args.peer) c.args.down.now c.args.up.now r (context_of r c.args.request.ue))
    (telling codec c.args.request.channel c.args.request.ue c.args.request.instance r None (Some (statuses_on codec (context_of r c.args.request.ue)))) c.modified.new.outputs now c.modified.new.self c.modified.result
    (subst (λ (s : OctetUp). step_after c.args.outputs.now
    (frozen_at codec c.args.request.ue (peer_node (octet_way codec) c.args.peer) c.args.down.now c.args.up.now s (context_of s c.args.request.ue)) ≡ stepped c.freeze.new.out now)
    c.self.view_is (c.in_ok-freeze.ensures codec inner))
    (subst (λ (ss : List SnStatus). IsStep (step_after c.freeze.new.out (telling codec c.args.request.channel c.args.request.ue c.args.request.instance r None (Some ss) now))
    c.modified.new.outputs c.modified.new.self c.modified.result) (c.in_ok-statuses.ensures codec) c.modified.ensures)

use Rattle.std.proofs.Common.{◌≡◌, Some, None, sym, ap, ◌∙◌, subst}
use Rattle.pdcp_defs.specs.Counts.{near_count}
use Rattle.um_defs.specs.declared.types.error.UmError.TheVariants as errors
use Rattle.um_defs.specs.Receivers.{refuses}
use Rattle.um.specs.um_pdcp.Entity.{UmState}
use Rattle.pdcp_entities.proofs.NearLemmas.{near_is, near_agrees}
use Rattle.um.proofs.um_pdcp.UmLemmas.{refuses_late, refuses_stored, refuses_ahead, refuses_nothing, refuses_none}
use Rattle.um.proofs.um_pdcp.rx.UmRx.count_of.Goals as goal

pub returns-in_default-clause-err : goal.returns-in_default-clause-err
returns-in_default-clause-err c =
    let t = c.self.inside in
    let none = near_agrees t.sn t.deliv c.args.number None tt c.in_default.ensures.only in
    ap (refuses c.args.self.now.entity)
    (ap (λ (v : UmState). near_count v.sn v.entity.receiver.deliv c.args.number) (sym c.self.view_is) ∙ none)
    ∙ refuses_none c.args.self.now.entity

pub returns-then-count-self-clause-err : goal.returns-then-count-self-clause-err
returns-then-count-self-clause-err c =
    let t = c.self.inside in
    let found = near_is t.sn t.deliv c.args.number c.in-Some.count c.in-Some.ensures.found in
    subst (λ (v : UmState). refuses v.entity (near_count v.sn v.entity.receiver.deliv c.args.number) ≡ Some (errors.Late c.in-Some.count)) c.self.view_is
    (ap (refuses _) found ∙ refuses_late _ c.in-Some.count c.if-count-self.true)

pub returns-then-has-clause-err : goal.returns-then-has-clause-err
returns-then-has-clause-err c =
    let t = c.self.inside in
    let found = near_is t.sn t.deliv c.args.number c.in-Some.count c.in-Some.ensures.found in
    subst (λ (v : UmState). refuses v.entity (near_count v.sn v.entity.receiver.deliv c.args.number) ≡ Some (errors.Duplicate c.in-Some.count)) c.self.view_is
    (ap (refuses _) found ∙ refuses_stored _ c.in-Some.count c.if-count-self.false (sym c.has.ensures ∙ c.if-has.true))

pub returns-then-count-self-ge-ROOM-clause-err : goal.returns-then-count-self-ge-ROOM-clause-err
returns-then-count-self-ge-ROOM-clause-err c =
    let t = c.self.inside in
    let found = near_is t.sn t.deliv c.args.number c.in-Some.count c.in-Some.ensures.found in
    subst (λ (v : UmState). refuses v.entity (near_count v.sn v.entity.receiver.deliv c.args.number) ≡ Some (errors.Ahead c.in-Some.count)) c.self.view_is
    (ap (refuses _) found
    ∙ refuses_ahead _ c.in-Some.count c.if-count-self.false (sym c.has.ensures ∙ c.if-has.false) c.if-count-self-ge-ROOM.true)

pub returns-clause-ok : goal.returns-clause-ok
returns-clause-ok c =
    let t = c.self.inside in
    let found = near_is t.sn t.deliv c.args.number c.in-Some.count c.in-Some.ensures.found in
    subst (λ (v : UmState). (near_count v.sn v.entity.receiver.deliv c.args.number ≡ Some c.in-Some.count) × (refuses v.entity (Some c.in-Some.count) ≡ None)) c.self.view_is
    (found, refuses_nothing _ c.in-Some.count c.if-count-self.false (sym c.has.ensures ∙ c.if-has.false) c.if-count-self-ge-ROOM.false)

use Rattle.std.proofs.Common.{ℕ, Option, None, sym, ap, ◌∙◌, subst}
use Rattle.std.specs.Prelude.{OnOk}
use Rattle.pdcp_defs.specs.Counts.{near_count}
use Rattle.pdcp_entities.proofs.NearLemmas.{near_is, near_agrees}
use Rattle.dup_defs.specs.dup_run_defs.Run.{DupOutcome, received}
use Rattle.dup_bearer.specs.Bearers.{BearerState}
use Rattle.dup_bearer.specs.inside.Parts.{IsPart}
use Rattle.dup_bearer.proofs.BearerLemmas.{is_dropped, is_stored, drops}
use Rattle.dup_bearer.proofs.bearer.Bearer.receive.Goals as goal

pub returns-in_default : goal.returns-in_default
returns-in_default c =
    let t = c.self.inside in
    let old = c.args.self.now in
    let none = ap (λ (v : BearerState). near_count v.sn v.run.receiver.deliv c.args.number) (sym c.self.view_is)
    ∙ near_agrees t.sn t.deliv c.args.number None tt c.in_default.ensures.only in
    drops _ old c.args.lines.now c.push.new.self (ap (λ (o : Option ℕ). received c.args.packet old.run o) none) c.in_ok-push.ensures.ok

pub returns-then-is_duplicate : goal.returns-then-is_duplicate
returns-then-is_duplicate c =
    let t = c.self.inside in
    let old = c.args.self.now in
    let count = c.in-Some.count in
    let found = ap (λ (v : BearerState). near_count v.sn v.run.receiver.deliv c.args.number) (sym c.self.view_is)
    ∙ near_is t.sn t.deliv c.args.number count c.in-Some.ensures.found in
    drops _ old c.args.lines.now c.push-then-is_duplicate.new.self
    (ap (λ (o : Option ℕ). received c.args.packet old.run o) found ∙ is_dropped c.args.packet old.run count (sym c.is_duplicate.ensures ∙ c.if-is_duplicate.true))
    c.in_ok-push-2.ensures.ok

pub returns : goal.returns
returns c =
    let t = c.self.inside in
    let old = c.args.self.now in
    let count = c.in-Some.count in
    let found = ap (λ (v : BearerState). near_count v.sn v.run.receiver.deliv c.args.number) (sym c.self.view_is)
    ∙ near_is t.sn t.deliv c.args.number count c.in-Some.ensures.found in
    let is = ap (λ (o : Option ℕ). received c.args.packet old.run o) found
    ∙ is_stored c.args.packet old.run count (sym c.is_duplicate.ensures ∙ c.if-is_duplicate.false) in
    subst (λ (o : DupOutcome). OnOk c.store.result (IsPart o old c.store.new.self c.args.lines.now c.store.new.lines)) (sym is) c.store.ensures

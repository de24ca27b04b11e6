use Rattle.std.proofs.Common.{◌∙◌, sym, subst}
use Rattle.dup_defs.specs.Senders.{with_leg, puts_on}
use Rattle.dup_bearer.specs.dup_pdcp.Entity.{DupTxState}
use Rattle.dup_bearer.specs.dup_pdcp.inside.Views.{PutsMore}
use Rattle.dup_bearer.proofs.dup_pdcp.NumberLemmas.{leg_down, leg_stays, leg_comes, given_none, given_some}
use Rattle.dup_bearer.proofs.dup_pdcp.tx.DupTx.leg_is.Goals as goal

pub returns-then-not-up : goal.returns-then-not-up
returns-then-not-up c =
    let old = c.args.self.now in
    given_none _ old c.set_leg.new.self (with_leg c.args.leg c.args.up old.entity) c.new-puts.result
    (leg_down c.args.leg c.args.up old.entity c.if-not-up.true) c.new-puts.ensures c.set_leg.ensures

pub returns-then-was_up : goal.returns-then-was_up
returns-then-was_up c =
    let old = c.args.self.now in
    given_none _ old c.set_leg.new.self (with_leg c.args.leg c.args.up old.entity) c.new-puts.result
    (leg_stays c.args.leg c.args.up old.entity c.if-not-up.false (sym c.is_up-was_up.ensures ∙ c.if-was_up.true)) c.new-puts.ensures c.set_leg.ensures

pub returns : goal.returns
returns c =
    let old = c.args.self.now in
    let leg = c.args.leg in
    let after = with_leg leg c.args.up old.entity in
    given_some _ old c.set_leg.new.self after c.new-puts.result c.put_all.new.puts (puts_on after leg after.sender.unconfirmed)
    (leg_comes leg c.args.up old.entity c.if-not-up.false (sym c.is_up-was_up.ensures ∙ c.if-was_up.false)) c.new-puts.ensures
    (subst (λ (v : DupTxState). PutsMore v.sn c.new-puts.result c.put_all.new.puts (puts_on v.entity leg v.entity.sender.unconfirmed)) c.set_leg.ensures c.in_ok-put_all.ensures)
    c.set_leg.ensures

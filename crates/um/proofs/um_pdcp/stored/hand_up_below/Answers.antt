use Rattle.std.proofs.Common.{◌++◌, sym, ap, ◌∙◌, subst}
use Rattle.um_defs.specs.Receivers.{entry, entries}
use Rattle.um.specs.um_pdcp.inside.Stored.{first_below, below}
use Rattle.um.specs.um_pdcp.Stored.{AreGiven}
use Rattle.um.proofs.um_pdcp.StoredLemmas.{given_left, one_below, one_more}
use Rattle.um.proofs.um_pdcp.stored.hand_up_below.Goals as goal

pub returns-in_err-push-clause-given : goal.returns-in_err-push-clause-given
returns-in_err-push-clause-given c = λ given.
    subst AreGiven (sym c.take_below.ensures.rest)
    (given_left (first_below c.args.count c.loop-out.stored) c.loop-out.stored (c.loop-out.invariant.given given))

pub loop-out-preserved : goal.loop-out-preserved
loop-out-preserved c =
    let l = c.loop-out in
    let step = one_below c.args.count l.stored c.take_below.new.stored (entry c.in-Some.out) c.in-Some.ensures.first c.take_below.ensures.rest in
    let left = below c.args.count c.take_below.new.stored in
    record {
      up = ap (λ outs. entries outs ++ left) c.in_ok-push.ensures.ok ∙ (one_more l.outs c.in-Some.out left ∙ (ap (λ es. entries l.outs ++ es) (sym step.0) ∙ l.invariant.up));
      rest = sym step.1 ∙ l.invariant.rest;
      given = λ given. subst AreGiven (sym c.take_below.ensures.rest) (given_left (first_below c.args.count l.stored) l.stored (l.invariant.given given));
    }

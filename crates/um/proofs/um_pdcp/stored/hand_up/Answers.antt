use Rattle.std.proofs.Common.{◌+◌, ◌++◌, sym, ap, ◌∙◌, subst, arith}
use Rattle.pdcp_defs.specs.Receivers.{deliver_from}
use Rattle.um_defs.specs.Receivers.{entry, entries}
use Rattle.um.specs.um_pdcp.inside.Stored.{first_at}
use Rattle.um.specs.um_pdcp.Stored.{AreGiven}
use Rattle.um.proofs.um_pdcp.StoredLemmas.{given_left, given_at, one_up, one_more}
use Rattle.um.proofs.um_pdcp.stored.hand_up.Goals as goal

pub returns-in_err-push-clause-given : goal.returns-in_err-push-clause-given
returns-in_err-push-clause-given c =
    subst AreGiven (sym c.take_at.ensures.rest) (given_left (first_at c.loop-out.next c.loop-out.stored) c.loop-out.stored c.loop-out.invariant.given)

pub overflow_add-next : goal.overflow_add-next
overflow_add-next c =
    let given = given_at c.loop-out.next c.loop-out.stored (entry c.in-Some.out) c.in-Some.ensures.first c.loop-out.invariant.given in
    omega (arith, given)

pub loop-out-preserved : goal.loop-out-preserved
loop-out-preserved c =
    let l = c.loop-out in
    let e = entry c.in-Some.out in
    let up = one_up l.next l.stored c.take_at.new.stored e c.in-Some.ensures.first c.take_at.ensures.rest in
    let left = (deliver_from (l.next + 1) c.take_at.new.stored).packets in
    record {
      up = ap (λ outs. entries outs ++ left) c.in_ok-push.ensures.ok ∙ (one_more l.outs c.in-Some.out left ∙ (ap (λ d. entries l.outs ++ d.packets) (sym up) ∙ l.invariant.up));
      after = ap (λ d. d.after) (sym up) ∙ l.invariant.after;
      given = subst AreGiven (sym c.take_at.ensures.rest) (given_left (first_at l.next l.stored) l.stored l.invariant.given);
      next = omega (arith, given_at l.next l.stored e c.in-Some.ensures.first l.invariant.given);
    }

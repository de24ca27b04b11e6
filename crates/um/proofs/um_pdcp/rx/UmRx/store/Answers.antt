use Rattle.std.proofs.Common.{◌+◌, max, sym, ap, ◌∙◌, subst, arith}
use Rattle.pdcp_defs.specs.Receivers.{stored}
use Rattle.um_defs.specs.Receivers.{kept}
use Rattle.um.specs.um_pdcp.Entity.{UmState, with_entity}
use Rattle.um.specs.um_pdcp.inside.Views.{um_state, um_receiver}
use Rattle.um.specs.um_pdcp.Stored.{AreGiven}
use Rattle.um.proofs.um_pdcp.StoredLemmas.{given_put}
use Rattle.um.proofs.um_pdcp.rx.UmRx.store.Goals as goal

pub invariant_of-self-2 : goal.invariant_of-self-2
invariant_of-self-2 c =
    let i = c.self.invariant in
    record {
      stored = subst AreGiven (sym c.in_ok-put.ensures.ok) (given_put c.self.inside.stored c.args.count c.args.packet i.stored c.requires.given);
      deliv = i.deliv;
      next = omega (arith, c.max-self-inside.ensures, i.next, c.requires.given);
      reord = i.reord;
    }

pub returns-clause-ok : goal.returns-clause-ok
unfolding stored
returns-clause-ok c =
    let t = c.self.inside in
    ap (λ n. um_state t.sn t.ticks (um_receiver t.deliv n t.reord t.left c.put.new.self) t.lacks_memory) c.max-self-inside.ensures
    ∙ (ap (λ es. um_state t.sn t.ticks (um_receiver t.deliv (max t.next (c.args.count + 1)) t.reord t.left es) t.lacks_memory) c.in_ok-put.ensures.ok
    ∙ ap (λ (v : UmState). with_entity v (kept v.entity c.args.count c.args.packet)) c.self.view_is)

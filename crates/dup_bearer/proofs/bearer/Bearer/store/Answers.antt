use Rattle.std.proofs.Common.{◌++◌, ap, ◌∙◌, sym, subst}
use Rattle.pdcp_defs.specs.Receivers.{stored, deliver, deliver_from}
use Rattle.um_defs.specs.Receivers.{entries}
use Rattle.dup_defs.specs.dup_run_defs.Run.{handed_up}
use Rattle.um.specs.um_pdcp.Stored.{AreGiven}
use Rattle.um.proofs.um_pdcp.StoredLemmas.{given_put}
use Rattle.dup_bearer.specs.Bearers.{BearerState}
use Rattle.dup_bearer.specs.inside.Views.{bearer_state}
use Rattle.dup_bearer.specs.inside.Parts.{IsPart}
use Rattle.dup_bearer.proofs.BearerLemmas.{delivers}
use Rattle.dup_bearer.proofs.bearer.Bearer.store.Goals as goal

pub hand_up-requires-clause-given : goal.hand_up-requires-clause-given
hand_up-requires-clause-given c =
    let t = c.self.inside in
    subst AreGiven (sym c.in_ok-put.ensures.ok) (given_put t.stored c.args.count c.args.packet c.self.invariant.given c.requires)

pub returns : goal.returns
returns c =
    let t = c.self.inside in
    let next = c.in_ok-self-inside.field-0 in
    let es = c.hand_up.new.stored in
    let up = c.in_ok-self-inside.ensures.up ∙ ap (λ outs. entries outs ++ (deliver_from t.deliv c.put.new.self).packets) c.new-outs.ensures in
    subst (λ (v : BearerState). IsPart (handed_up v.run (deliver (stored v.run.receiver c.args.count c.args.packet))) v (bearer_state t.sn t.tx t.legs next es)
    c.args.lines.now c.put_delivered.new.lines) c.self.view_is
    (delivers t.sn t.tx t.legs t.deliv next t.stored c.put.new.self es c.args.count c.args.packet (entries c.hand_up.new.outs) c.args.lines.now c.put_delivered.new.lines
    c.in_ok-put.ensures.ok up c.in_ok-self-inside.ensures.after c.in_ok-put_delivered.ensures)

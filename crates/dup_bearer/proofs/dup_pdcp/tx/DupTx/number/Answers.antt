use Rattle.std.proofs.Common.{Option, sym, subst, ap, ◌∙◌}
use Rattle.std.specs.Prelude.{Result}
use Rattle.pdcp_bearers.specs.declared.ue_bearers.sender.Counted.{Counted}
use Rattle.dup_bearer.specs.declared.dup_pdcp.ending.DupEnding.{DupEnding}
use Rattle.dup_bearer.specs.dup_pdcp.Entity.{DupTxState}
use Rattle.dup_bearer.specs.dup_pdcp.inside.Views.{tx_state, marks, IsNumbered, counted_of}
use Rattle.dup_bearer.proofs.dup_pdcp.NumberLemmas.{numbered_as}
use Rattle.dup_bearer.proofs.dup_pdcp.tx.DupTx.number.Goals as goal

pub returns : goal.returns
returns c =
    let t = c.self.inside in
    let m = marks t.mode t.first_up t.second_up in
    let going = c.self.invariant (ap (λ (v : DupTxState). v.ended) c.self.view_is ∙ c.requires) in
    let new = tx_state t.sn t.quota c.give_count-counted.new.self m t.ended in
    subst (λ (r : Result (Option Counted) DupEnding). IsNumbered c.args.self.now new r) (sym c.counted_of.ensures)
    (subst (λ (v : DupTxState). IsNumbered v new (counted_of c.give_count-counted.result)) c.self.view_is
    (numbered_as t.sn t.quota m t.ended t.packets c.give_count-counted.new.self c.give_count-counted.result going.0 going.1 c.give_count-counted.ensures))

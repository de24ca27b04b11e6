use Rattle.std.proofs.Common.{Ok, refl, subst}
use Rattle.dup_defs.specs.declared.types.leg.Leg.TheVariants as legs
use Rattle.dup_defs.specs.Senders.{mode_is, enters}
use Rattle.dup_bearer.specs.dup_pdcp.Entity.{DupTxState}
use Rattle.dup_bearer.specs.dup_pdcp.inside.Views.{tx_state, sender_state, marks, IsGiven}
use Rattle.dup_bearer.proofs.dup_pdcp.PutLemmas.{then_more}
use Rattle.dup_bearer.proofs.dup_pdcp.NumberLemmas.{mode_comes, given_some}
use Rattle.dup_bearer.proofs.dup_pdcp.tx.DupTx.mode_is.Goals as goal

pub returns : goal.returns
returns c =
    let t = c.self.inside in
    let mode = c.args.mode in
    let old = tx_state t.sn t.quota t.packets (marks t.mode t.first_up t.second_up) t.ended in
    let after = sender_state t.packets (marks mode t.first_up t.second_up) in
    let new = tx_state t.sn t.quota t.packets (marks mode t.first_up t.second_up) t.ended in
    subst (λ (v : DupTxState). IsGiven (mode_is mode v.entity) v new (Ok c.enter-2.new.puts)) c.self.view_is
    (given_some _ old new after c.new-puts.result c.enter-2.new.puts _ (mode_comes mode old.entity) c.new-puts.ensures
    (then_more t.sn c.new-puts.result c.enter.new.puts c.enter-2.new.puts (enters t.mode after legs.First) (enters t.mode after legs.Second)
    c.in_ok-enter.ensures c.in_ok-enter-2.ensures) refl)

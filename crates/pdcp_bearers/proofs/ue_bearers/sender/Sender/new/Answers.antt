use Rattle.std.proofs.Common.{◌∙◌, ap, sym, subst, List, ℕ}
use Rattle.pdcp_bearers.specs.ue_bearers.inside.Views.{sender_state, IsSender}
use Rattle.pdcp_bearers.proofs.ue_bearers.KeptLemmas.{begins, begins_seen}
use Rattle.pdcp_bearers.proofs.ue_bearers.sender.Sender.new.Goals as goal

pub invariant_of-result : goal.invariant_of-result
invariant_of-result c =
    subst (λ (w : List (List ℕ)). IsSender c.args.sn c.args.quota c.args.key 0 c.in_ok-pool.pool c.in_ok-tx.tx w) (sym c.new-2.ensures)
    (begins c.args.sn c.args.quota c.args.key c.in_ok-pool.pool c.in_ok-tx.tx c.requires.least c.requires.most c.in_ok-pool.ensures c.in_ok-tx.ensures)

pub returns : goal.returns
returns c =
    ap (λ (w : List (List ℕ)). sender_state c.args.sn c.args.quota c.in_ok-pool.pool c.in_ok-tx.tx w) c.new-2.ensures
    ∙ begins_seen c.args.sn c.args.quota c.in_ok-pool.pool c.in_ok-tx.tx c.in_ok-tx.ensures

use Rattle.std.proofs.Common.{List, ℕ, sym, ap, subst, ◌∙◌}
use Rattle.pdcp_bearers.specs.ue_bearers.inside.Views.{sender_state, IsSender}
use Rattle.pdcp_bearers.proofs.ue_bearers.RestoreLemmas.{kept_cleared, cleared_seen}
use Rattle.pdcp_bearers.proofs.ue_bearers.sender.Sender.clear.Goals as goal

pub invariant_of-self : goal.invariant_of-self
invariant_of-self c =
    let i = c.self.inside in
    subst (λ (w : List (List ℕ)). IsSender i.sn i.quota i.key 0 c.clear.new.pool c.clear.new.self w) (sym c.new.ensures)
    (kept_cleared i.sn i.quota i.key i.held i.pool i.tx i.waiting c.self.invariant c.clear.new.pool c.clear.new.self c.clear.ensures.sender c.clear.ensures.freed
    c.used.ensures.sound)

pub returns : goal.returns
returns c =
    let i = c.self.inside in
    ap (λ (w : List (List ℕ)). sender_state i.sn i.quota c.clear.new.pool c.clear.new.self w) c.new.ensures
    ∙ cleared_seen i.sn i.quota i.pool i.tx i.waiting c.args.self.now c.self.view_is c.clear.new.pool c.clear.new.self c.clear.ensures.sender

use Rattle.std.proofs.Common.{sym, ap, ◌∙◌, ℕ, List, Some}
use Rattle.transport_defs.specs.Links.{Radio}
use Rattle.links.specs.Radios.{uncarried}
use Rattle.links.proofs.links_bag.Entries.{nth_is_get}
use Rattle.links.proofs.radio.RadioQueue.carry.Goals as goal

pub returns-in_default-clause-item : goal.returns-in_default-clause-item
returns-in_default-clause-item c =
    c.in_default.ensures
    ∙ sym (nth_is_get c.self.inside.items.items c.self.inside.carried)
    ∙ ap (λ (r : Radio (List ℕ)). uncarried r) c.self.view_is

pub returns-clause-item : goal.returns-clause-item
returns-clause-item c =
    ap Some c.in_ok-copy.ensures
    ∙ c.in-Some.ensures
    ∙ sym (nth_is_get c.self.inside.items.items c.self.inside.carried)
    ∙ ap (λ (r : Radio (List ℕ)). uncarried r) c.self.view_is

use Rattle.std.proofs.Common.{sym, ap, ◌∙◌, ℕ, List}
use Rattle.transport_defs.specs.Links.{Radio}
use Rattle.links.specs.Radios.{uncarried}
use Rattle.links.proofs.links_bag.Entries.{nth_is_get}
use Rattle.links.proofs.radio.RadioQueue.head.Goals as goal

pub returns : goal.returns
returns c =
    c.item_at.ensures
    ∙ sym (nth_is_get c.self.inside.items.items c.self.inside.carried)
    ∙ ap (λ (r : Radio (List ℕ)). uncarried r) c.self.view_is

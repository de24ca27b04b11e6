use Rattle.std.proofs.Common.{◌≡◌, ◌<◌, ◌∙◌, sym, ap, ℕ, List, arith, length}
use Rattle.std.proofs.Math.ListN.{set}
use Rattle.gnb_types.specs.declared.names.UeId.{UeId}
use Rattle.transport_defs.specs.Links.{connect}
use Rattle.links.specs.inside.Epochs.{entries}
use Rattle.links.proofs.EpochLemmas.{connected_entries}
use Rattle.links.proofs.epochs.Epochs.connect.Goals as goal

pub returns : goal.returns
returns c =
    let near : c.args.ue.0 < length c.self.inside.epochs.items = omega arith in
    ap (λ (i : ℕ). entries 0 (set c.self.inside.epochs.items i c.args.epoch)) c.from.ensures
    ∙ connected_entries c.self.inside.epochs.items c.args.ue c.args.epoch near
    ∙ ap (λ (m : List (UeId × ℕ)). connect m c.args.ue c.args.epoch) c.self.view_is

use Rattle.std.proofs.Common.{◌≡◌, ◌<◌, ◌∙◌, sym, ap, ℕ, List, Option, None, arith, length, get_or}
use Rattle.gnb_types.specs.declared.names.UeId.{UeId}
use Rattle.gnb_types.specs.Orders.{ue_cmp}
use Rattle.tables.specs.Tables.{find}
use Rattle.links.proofs.EpochLemmas.{epoch_read}
use Rattle.links.proofs.epochs.Epochs.of.Goals as goal

pub returns : goal.returns
returns c =
    let near : c.args.ue.0 < length c.self.inside.epochs.items = omega arith in
    epoch_read c.self.inside.epochs.items c.args.ue c.index.result.now near
    (c.index.ensures ∙ ap (λ (i : ℕ). get_or c.self.inside.epochs.items i c.index.result.now) c.from.ensures)
    ∙ ap (λ (m : List (UeId × ℕ)). find ue_cmp m c.args.ue) c.self.view_is

use Rattle.std.proofs.Common.{ap, ◌∙◌}
use Rattle.links.specs.inside.Epochs.{entries}
use Rattle.links.proofs.EpochLemmas.{none_connected}
use Rattle.links.proofs.epochs.Epochs.new.Goals as goal

pub returns : goal.returns
returns c = ap (entries 0) c.in_ok-epochs.ensures.items ∙ none_connected 256 0

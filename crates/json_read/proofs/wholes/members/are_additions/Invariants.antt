use Rattle.std.proofs.Common.{◌≡◌, drop}
use Rattle.serde_json.specs.View.{items_view}
use Rattle.json_defs.specs.Demands.{any_told}
use Rattle.json_read.proofs.wholes.members.are_additions.Given as goal

abbrev pub invariant-loop-item : goal.invariant-loop-item
invariant-loop-item l = any_told (items_view (drop l.item-index l.items)) ≡ any_told (items_view l.items)

use Rattle.std.proofs.Common.{◌≡◌, ℕ, ◌≤◌, drop, length}
use Rattle.serde_json.specs.Data.{Data, Items}
use Rattle.aper_values.specs.Views.{options_view}
use Rattle.json_defs.specs.Named.{Named}
use Rattle.json_defs.specs.shown_defs.Printed.{components_shown}
use Rattle.json_defs.specs.type_defs.Types.{parts_with}
use Rattle.values_json.specs.order.Listed.{by_name, AreComponents, AreWithin}
use Rattle.values_json.proofs.order.members_by_name.Given as goal

abbrev pub invariant-loop-i : goal.invariant-loop-i
invariant-loop-i l = (l.i ≤ length l.parts) × (l.i ≤ length l.values)
    × ((of : ℕ → Named) (ds : Items) (at : ℕ → Data) → AreComponents of l.parts l.values at → by_name at ds l.members.entries
    ≡ components_shown (parts_with of (drop l.i l.parts)) (options_view (drop l.i l.values)))
    × AreWithin (length l.values) l.members.entries

abbrev pub decreases-loop-i : goal.decreases-loop-i
decreases-loop-i l = l.i

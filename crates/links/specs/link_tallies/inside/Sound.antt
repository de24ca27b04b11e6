-- Internal: the tables of COUNTs are in order, and each COUNT that has an entry is shown.
use Rattle.std.specs.Prelude.{◌≡◌, ◌<◌, ℕ, Some}
use Rattle.std.specs.Ordering.{nat_cmp}
use Rattle.gnb_types.specs.declared.keys.EntityKey.{EntityKey}
use Rattle.gnb_types.specs.Orders.{entity_cmp}
use Rattle.tables.specs.Tables.{find, IsSorted}
use Rattle.links.specs.declared.link_tallies.tallies.Tally.{Tally}
use Rattle.links.specs.link_tallies.Tallies.{Tallies}

pub record IsSound (tally : Tally) : Type 0 where
  pub sorted : IsSorted nat_cmp tally.shown
  pub shown : (c times : ℕ) → find nat_cmp tally.shown c ≡ Some times → 0 < times

abbrev pub AreSound : Tallies → Type 0
AreSound t = (key : EntityKey) (tally : Tally) → find entity_cmp t key ≡ Some tally → IsSound tally

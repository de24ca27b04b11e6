-- The members of each object in the order of their keys, octet by octet, each key once: as `serde_json`'s map has them.
use Rattle.std.specs.Prelude.{◌≡◌, ℕ, List}
use Rattle.std.specs.Ordering.{nat_cmp}
use Rattle.std.proofs.Common.{Less}
use Rattle.std.specs.Cmp.Lexicographic.{slice_cmp}
use Rattle.serde_json.specs.Data.{Data, null, boolean, number, string, array, object, Items, no_items, item, Members, no_members, member}

-- the key is before the first of these
abbrev pub IsBefore : List ℕ → Members → Type 0
IsBefore key no_members = Unit {0}
IsBefore key (member k d ms) = slice_cmp nat_cmp key k ≡ Less

abbrev mutual
  pub IsOrdered : Data → Type 0
  IsOrdered null = Unit {0}
  IsOrdered (boolean b) = Unit {0}
  IsOrdered (number n) = Unit {0}
  IsOrdered (string s) = Unit {0}
  IsOrdered (array ds) = AreOrdered ds
  IsOrdered (object ms) = AreMembersOrdered ms

  pub AreOrdered : Items → Type 0
  AreOrdered no_items = Unit {0}
  AreOrdered (item d ds) = IsOrdered d × AreOrdered ds

  pub AreMembersOrdered : Members → Type 0
  AreMembersOrdered no_members = Unit {0}
  AreMembersOrdered (member k d ms) = IsBefore k ms × IsOrdered d × AreMembersOrdered ms

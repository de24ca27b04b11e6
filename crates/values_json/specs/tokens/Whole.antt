-- Trees in which each number is an integer of 64 bits, signed or unsigned.
use Rattle.std.specs.Prelude.{◌≡◌, ◌<◌, ◌^◌, ℕ, negsuc}
use Rattle.serde_json.specs.Data.{Num, unsigned, negative, float, Data, null, boolean, number, string, array, object, Items, no_items, item, Members, no_members, member}

abbrev pub IsInteger : Num → Type 0
IsInteger (unsigned n) = n < 2 ^ 64
IsInteger (negative z) = (n : ℕ) × (z ≡ negsuc n) × (n < 2 ^ 63)
IsInteger (float x) = ⊥

abbrev mutual
  pub IsWhole : Data → Type 0
  IsWhole null = Unit {0}
  IsWhole (boolean b) = Unit {0}
  IsWhole (number n) = IsInteger n
  IsWhole (string s) = Unit {0}
  IsWhole (array ds) = AreWhole ds
  IsWhole (object ms) = AreMembersWhole ms

  pub AreWhole : Items → Type 0
  AreWhole no_items = Unit {0}
  AreWhole (item d ds) = IsWhole d × AreWhole ds

  pub AreMembersWhole : Members → Type 0
  AreMembersWhole no_members = Unit {0}
  AreMembersWhole (member k d ms) = IsWhole d × AreMembersWhole ms

-- Two trees that differ in nothing but the case of hexadecimal digits and in how an integer is kept.
use Rattle.std.specs.Prelude.{◌≡◌, ◌⊎◌, ℕ, List, Some}
use Rattle.gnb_types.specs.Hex.{read_hex}
use Rattle.serde_json.specs.Data.{Data, null, boolean, number, string, array, object, Items, no_items, item, Members, no_members, member}
use Rattle.serde_json.specs.Find.{as_integer}

-- the same text, or digits of the same octets
abbrev pub AreSameText : List ℕ → List ℕ → Type 0
AreSameText s r = (s ≡ r) ⊎ ((os : List ℕ) × (read_hex s ≡ Some os) × (read_hex r ≡ Some os))

abbrev mutual
  pub Alike : Data → Data → Type 0
  Alike null null = Unit {0}
  Alike (boolean b) (boolean c) = b ≡ c
  Alike (number n) (number m) = as_integer n ≡ as_integer m
  Alike (string s) (string r) = AreSameText s r
  Alike (array ds) (array es) = AreItemsAlike ds es
  Alike (object ms) (object ns) = AreMembersAlike ms ns
  Alike d e = ⊥

  pub AreItemsAlike : Items → Items → Type 0
  AreItemsAlike no_items no_items = Unit {0}
  AreItemsAlike (item d ds) (item e es) = Alike d e × AreItemsAlike ds es
  AreItemsAlike ds es = ⊥

  pub AreMembersAlike : Members → Members → Type 0
  AreMembersAlike no_members no_members = Unit {0}
  AreMembersAlike (member k d ms) (member l e ns) = (k ≡ l) × Alike d e × AreMembersAlike ms ns
  AreMembersAlike ms ns = ⊥

-- Values of types, on some way to them: a way has no bits, and an encoder knows none.
use Rattle.std.specs.Prelude.{ℕ, ◌≤◌, Option, Some, None}
use Rattle.asn1_syntax.specs.declared.types.definition.TypeId.{TypeId}
use Rattle.aper_defs.specs.Trees.{Tree, Parts, Rows, Procedures}
use Rattle.aper_defs.specs.Values.{Value, Values, Options, Ies, no_values, value, no_ies, ie}
use Rattle.aper_defs.specs.Fields.{Path}
use Rattle.aper_defs.specs.Layouts.{layout}
use Rattle.aper_defs.specs.Membership.{Has, HasComponents, HasAdditions, HasRow, HasBody, FitsOpen, IsRaw}

pub record IsValue (t : Tree) (v : Value) : Type 0 where
  pub path : Path
  pub has : Has path t v

-- one whose complete encoding fits an open type
pub record FitsInside (t : Tree) (v : Value) : Type 0 where
  pub path : Path
  pub has : Has path t v
  pub fits : FitsOpen path (layout path t v)

pub record AreComponents (parts : Parts) (vs : Options) : Type 0 where
  pub path : Path
  pub has : HasComponents path parts vs

pub record AreNamed (parts : Parts) (more : Options) : Type 0 where
  pub path : Path
  pub has : HasAdditions path parts more

-- the body of an information element with an id
pub record IsBody (rows : Rows) (id : ℕ) (v : Value) : Type 0 where
  pub path : Path
  pub has : HasRow path rows id v

-- the body of a message
pub record IsMessage (procedures : Procedures) (index code : ℕ) (v : Value) : Type 0 where
  pub path : Path
  pub has : HasBody path procedures index code v

-- one of the type that a row gives, or raw where none does
abbrev pub IsInside : (ℕ → Tree) → Option TypeId → Value → Type 0
IsInside of (Some id) v = FitsInside (of id.number) v
IsInside of None v = IsRaw v

-- members of a type
abbrev pub AreMembers : Tree → Values → Type 0
AreMembers t no_values = Unit {0}
AreMembers t (value v others) = IsValue t v × AreMembers t others

-- bodies of information elements
abbrev pub AreBodies : Rows → Ies → Type 0
AreBodies rows no_ies = Unit {0}
AreBodies rows (ie id criticality v others) = (criticality ≤ 2) × IsBody rows id v × AreBodies rows others

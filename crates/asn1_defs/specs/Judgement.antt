-- What is wrong with a module whose text is in the grammar: a name that isn't known, an assignment that reaches itself, or one
-- that nests too deep. The first of these that there is, at its first place.
use Rattle.std.specs.Prelude.{◌≡◌, ℕ, ◌+◌, ◌<◌, List, [], ◌∷◌, ◌++◌, length, replicate, slice_get, Option, Some, None}
use Rattle.asn1_syntax.specs.declared.types.definition.Definition.{Definition}
use Rattle.asn1_syntax.specs.declared.types.definition.Definition.TheVariants as types
use Rattle.asn1_syntax.specs.declared.types.definition.Node.{Node}
use Rattle.asn1_syntax.specs.declared.types.fault.Fault.{Fault}
use Rattle.asn1_syntax.specs.declared.types.fault.ModuleReason.{ModuleReason}
use Rattle.asn1_syntax.specs.declared.types.fault.ModuleReason.TheVariants as reasons
use Rattle.asn1_syntax.specs.declared.assignments.assignment.Assignment.{Assignment}
use Rattle.asn1_syntax.specs.declared.assignments.assignment.Syntax.{Syntax}
use Rattle.asn1_defs.specs.Names.{first_unknown}
use Rattle.asn1_defs.specs.Graph.{vertex_count, edges_of}
use Rattle.asn1_defs.specs.Paths.{Leads, Nests, IsFirst}

-- SEQUENCE, CHOICE, SEQUENCE OF, a container and a PDU count one level each
abbrev pub weight_of : Definition → ℕ
weight_of (types.Sequence members) = 1
weight_of (types.Choice members) = 1
weight_of (types.SequenceOf size element) = 1
weight_of (types.IeContainer set) = 1
weight_of (types.Pdu set) = 1
weight_of _ = 0

unfoldable pub node_weights : List Node → List ℕ
node_weights [] = []
node_weights (node ∷ nodes) = weight_of node.definition ∷ node_weights nodes

-- the weights of types and of assignments, which have none
abbrev pub weights_of : Syntax → List ℕ
weights_of s = node_weights s.nodes ++ replicate (length s.assignments) 0

-- an assignment reaches itself
abbrev pub IsRecursive : Syntax → ℕ → Type 0
IsRecursive s number = Leads (vertex_count s) (edges_of s) (length s.nodes + number) (length s.nodes + number)

-- types stand more than sixty deep in an assignment
abbrev pub IsTooDeep : Syntax → ℕ → Type 0
IsTooDeep s number = (d : ℕ) × Nests (vertex_count s) (edges_of s) (weights_of s) (length s.nodes + number) d × (60 < d)

abbrev pub IsFirstRecursive : Syntax → Option ℕ → Type 0
IsFirstRecursive s found = IsFirst (IsRecursive s) (length s.assignments) found

abbrev pub IsFirstDeep : Syntax → Option ℕ → Type 0
IsFirstDeep s found = IsFirst (IsTooDeep s) (length s.assignments) found

-- a fault at the name of an assignment
pub record IsAt (s : Syntax) (number : ℕ) (reason : ModuleReason) (fault : Fault) : Type 0 where
  pub assignment : Assignment
  pub there : slice_get s.assignments number ≡ Some assignment
  pub is : fault ≡ record { place = assignment.place; reason = reason }

-- a name that isn't known
pub record HasUnknown (s : Syntax) (fault : Fault) : Type 0 where
  pub place : ℕ
  pub unknown : first_unknown s.assignments s.nodes ≡ Some place
  pub is : fault ≡ record { place = place; reason = reasons.Unknown }

pub record HasRecursive (s : Syntax) (fault : Fault) : Type 0 where
  pub known : first_unknown s.assignments s.nodes ≡ None
  pub number : ℕ
  pub recursive : IsFirstRecursive s (Some number)
  pub is : IsAt s number reasons.Recursive fault

pub record HasDeep (s : Syntax) (fault : Fault) : Type 0 where
  pub known : first_unknown s.assignments s.nodes ≡ None
  pub finite : IsFirstRecursive s None
  pub number : ℕ
  pub deep : IsFirstDeep s (Some number)
  pub is : IsAt s number reasons.Deep fault

-- nothing is wrong
pub record IsSound (s : Syntax) : Type 0 where
  pub known : first_unknown s.assignments s.nodes ≡ None
  pub finite : IsFirstRecursive s None
  pub shallow : IsFirstDeep s None

-- what is wrong, if something is
pub data Judged (s : Syntax) : Option Fault → Type 0 where
  sound : IsSound s → Judged s None
  unknown : {fault : Fault} → HasUnknown s fault → Judged s (Some fault)
  recursive : {fault : Fault} → HasRecursive s fault → Judged s (Some fault)
  deep : {fault : Fault} → HasDeep s fault → Judged s (Some fault)

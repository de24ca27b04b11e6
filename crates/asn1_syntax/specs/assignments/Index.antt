-- The numbers of assignments by their names. A module's assignments are numbered in the text's order, from 0.
use Rattle.std.specs.Prelude.{◌≡◌, ℕ, List, Option, position}
use Rattle.std.specs.Ordering.{nat_cmp}
use Rattle.std.specs.Cmp.Lexicographic.{slice_cmp}
use Rattle.std.specs.BTreeMap.{get_by}
use Rattle.asn1_tokens.specs.Words.{is_text}
use Rattle.asn1_syntax.specs.declared.assignments.assignment.Assignment.{Assignment}
use Rattle.asn1_syntax.specs.declared.assignments.index.NameIndex.{NameIndex}

-- the number of the assignment of a name, the first one's where there are more
abbrev pub number_of : List ℕ → List Assignment → Option ℕ
number_of name assignments = position (λ other. is_text other.name name) assignments

-- the number under which an index has a name
abbrev pub numbered : NameIndex → List ℕ → Option ℕ
numbered index name = get_by (λ k. slice_cmp nat_cmp name k.items) index.numbers

-- an index of these assignments
abbrev pub Indexes : NameIndex → List Assignment → Type 0
Indexes index assignments = (name : List ℕ) → numbered index name ≡ number_of name assignments

use Rattle.std.proofs.Common.{◌≡◌, ℕ, List, take}
use Rattle.asn1_syntax.specs.assignments.Index.{numbered, number_of}
use Rattle.asn1_syntax.proofs.assignments.index.index_of.Given as goal

abbrev pub invariant-loop-number : goal.invariant-loop-number
invariant-loop-number l = (name : List ℕ) → numbered l.index name ≡ number_of name (take l.number l.assignments)

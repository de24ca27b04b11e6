-- What is so of each module that was read.
use Rattle.std.specs.Prelude.{ℕ, ◌≤◌, List, length}
use Rattle.asn1_syntax.specs.declared.assignments.assignment.Syntax.{Syntax}
use Rattle.asn1_defs.specs.Texts.{IsTextOf}
use Rattle.asn1_defs.specs.Judgement.{IsSound}
use Rattle.asn1_defs.specs.Links.{IsLinked}
use Rattle.asn1_defs.specs.Targets.{type_ids}

-- What is so of each module: it is a text's, it has at most a thousand types, its numbers are those of its types, and nothing is wrong
-- with it.
pub record IsModule (m : Syntax) : Type 0 where
  pub text : List ℕ
  pub is : IsTextOf text m
  pub types : length (type_ids m.assignments) ≤ 1000
  pub linked : IsLinked m
  pub sound : IsSound m

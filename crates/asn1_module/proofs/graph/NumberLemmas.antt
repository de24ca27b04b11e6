-- The numbers of the names in types, one for each type.
use Rattle.std.proofs.Common.{◌≡◌, ℕ, zero, suc, ◌+◌, ◌<◌, List, [], ◌∷◌, length, get_or, Bool, ltb, refl, sym, ap, ◌∙◌, subst, arith}
use Rattle.std.specs.Prelude.{Option, Some, None, IfSome, position}
use Rattle.std.specs.List.{position_or_len}
use Rattle.std.proofs.lemmas.Bool.{ltb-true}
use Rattle.gnb_types.proofs.Choices.{by_choice}
use Rattle.asn1_tokens.specs.Words.{is_text}
use Rattle.asn1_syntax.specs.declared.types.definition.Node.{Node}
use Rattle.asn1_syntax.specs.declared.types.definition.Definition.{Definition}
use Rattle.asn1_syntax.specs.declared.assignments.assignment.Assignment.{Assignment}
use Rattle.asn1_syntax.specs.declared.assignments.index.NameIndex.{NameIndex}
use Rattle.asn1_syntax.specs.assignments.Index.{number_of, numbered, Indexes}
use Rattle.asn1_defs.specs.Numbers.{name_in, number_by, number_in, all_numbers}

pub length-all_numbers : (assignments : List Assignment) (nodes : List Node) → length (all_numbers assignments nodes) ≡ length nodes
unfolding all_numbers
length-all_numbers assignments [] = refl
length-all_numbers assignments (node ∷ nodes) = ap suc (length-all_numbers assignments nodes)

pub number_there : (assignments : List Assignment) (nodes : List Node) (i : ℕ) (d : Option ℕ) (node : Node) → i < length nodes
    → get_or (all_numbers assignments nodes) i d ≡ number_in assignments (get_or nodes i node).definition
unfolding all_numbers
number_there assignments [] i d node lt = absurd (omega arith)
number_there assignments (n ∷ nodes) zero d node lt = refl
number_there assignments (n ∷ nodes) (suc i) d node lt = number_there assignments nodes i d node (omega arith)

-- the same of targets that are these numbers
pub target_there : (assignments : List Assignment) (nodes : List Node) (targets : List (Option ℕ)) (i : ℕ) (d : Option ℕ) (node : Node) → targets ≡ all_numbers assignments nodes → i < length nodes
    → get_or targets i d ≡ number_in assignments (get_or nodes i node).definition
target_there assignments nodes targets i d node is lt =
    ap (λ (xs : List (Option ℕ)). get_or xs i d) is ∙ number_there assignments nodes i d node lt

pub targets_long : (assignments : List Assignment) (nodes : List Node) (targets : List (Option ℕ)) (i : ℕ) → targets ≡ all_numbers assignments nodes → i < length nodes → i < length targets
targets_long assignments nodes targets i is lt =
    omega (arith, ap (λ (xs : List (Option ℕ)). length xs) is, length-all_numbers assignments nodes)

-- by an index as by a search
pub by_index : (index : NameIndex) (assignments : List Assignment) (definition : Definition) → Indexes index assignments
    → number_by (numbered index) (name_in definition) ≡ number_in assignments definition
by_index index assignments definition indexes = go (name_in definition)
  where
    go : (o : Option (List ℕ)) → number_by (numbered index) o ≡ number_by (λ (name : List ℕ). number_of name assignments) o
    go None = refl
    go (Some name) = indexes name

-- a place of a list, and so the number of a name, stands inside it
position_fits : {X : Type 0} (base limit : ℕ) (test : X → Bool) (xs : List X) → base + length xs < limit → IfSome (position test xs) (λ n. base + n < limit)
position_fits base limit test xs fits =
    by_choice (λ (o : Option ℕ). IfSome o (λ n. base + n < limit)) (ltb (position_or_len test xs) (length xs)) (Some (position_or_len test xs)) None
    (λ inner. omega (arith, ltb-true _ _ inner, fits)) (λ _. tt)

pub number_fits : (base limit : ℕ) (assignments : List Assignment) (definition : Definition) (target : Option ℕ) → base + length assignments < limit → target ≡ number_in assignments definition
    → IfSome target (λ n. base + n < limit)
number_fits base limit assignments definition target fits is =
    subst (λ (o : Option ℕ). IfSome o (λ n. base + n < limit)) (sym is) (go (name_in definition))
  where
    go : (o : Option (List ℕ)) → IfSome (number_by (λ (name : List ℕ). number_of name assignments) o) (λ n. base + n < limit)
    go None = tt
    go (Some name) = position_fits base limit (λ (a : Assignment). is_text a.name name) assignments fits

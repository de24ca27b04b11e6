-- One item decides which production of a part is meant.
use Rattle.std.proofs.Common.{◌≡◌, ℕ, ◌+◌, List, [], ◌∷◌, Bool, true, false, cond, ◌||◌, ◌&&◌, refl, sym, ap, ◌∙◌, arith, Option, Some, None}
use Rattle.std.specs.Prelude.{◌==◌, not}
use Rattle.std.proofs.lemmas.Bool.{eqb-true}
use Rattle.asn1_tokens.specs.declared.token.Word.TheVariants as words
use Rattle.asn1_tokens.specs.declared.token.Sign.TheVariants as signs
use Rattle.asn1_tokens.specs.declared.token.Token.{Token}
use Rattle.asn1_tokens.specs.declared.token.Token.TheVariants as tokens
use Rattle.asn1_tokens.specs.Words.{word_number, sign_number}
use Rattle.asn1_defs.specs.Grammar.{Terminal, AnUpper, ALower, ANumber, ACriticality, APresence, TheWord, TheSign, fits, Part, Symbol, Item, Whole, productions, Module, Assignments, Meaning, IeRows, MoreIeRows, ProcedureRows, MoreProcedureRows, SuccessfulOutcome, UnsuccessfulOutcome, AType, Mark, OptionalSize, HighSize, SequenceRest, FirstComponent, NextComponent, AfterComponent, AfterAddition, OptionalWord, NextAlternative, AfterAlternative, AfterAlternativeAddition, NextName, AfterName, AfterNameAddition}

-- ---- classes of items, by which terminals are apart

abbrev pub class : Terminal → ℕ
class AnUpper = 0
class ALower = 1
class ACriticality = 1
class APresence = 1
class ANumber = 2
class (TheWord w) = 10 + word_number w
class (TheSign s) = 100 + sign_number s

abbrev pub class_of : Token → ℕ
class_of (tokens.Upper name) = 0
class_of (tokens.Lower name) = 1
class_of (tokens.Number value) = 2
class_of (tokens.Word w) = 10 + word_number w
class_of (tokens.Sign s) = 100 + sign_number s
class_of tokens.OutOfProfile = 3
class_of tokens.Nothing = 3
class_of tokens.EndOfText = 3

pub fits-class : (k : Terminal) (t : Token) → fits k t ≡ true → class_of t ≡ class k
fits-class AnUpper (tokens.Upper name) h = refl
fits-class ALower (tokens.Lower name) h = refl
fits-class ACriticality (tokens.Lower name) h = refl
fits-class APresence (tokens.Lower name) h = refl
fits-class ANumber (tokens.Number value) h = refl
fits-class (TheWord w) (tokens.Word found) h = ap (λ (n : ℕ). 10 + n) (eqb-true (word_number found) (word_number w) h)
fits-class (TheSign s) (tokens.Sign found) h = ap (λ (n : ℕ). 100 + n) (eqb-true (sign_number found) (sign_number s) h)
fits-class _ _ h = cc

abbrev pub is_apart : Terminal → Terminal → Bool
is_apart k j = not (class k == class j)

pub not_both : (k j : Terminal) (t : Token) → is_apart k j ≡ true → fits k t ≡ true → fits j t ≡ true → ⊥
not_both k j t apart h g = go (class k == class j) refl apart
  where
    same : class k ≡ class j
    same = sym (fits-class k t h) ∙ fits-class j t g

    go : (b : Bool) → (class k == class j) ≡ b → not b ≡ true → ⊥
    go true e a = cc
    go false e a = grind (arith, same)

-- ---- which production an item begins

-- the item begins this production
abbrev pub is_begun : List Symbol → Token → Bool
is_begun [] t = false
is_begun (Item k ∷ b) t = fits k t
is_begun (Whole n ∷ b) t = false

abbrev pub has_empty : List (List Symbol) → Bool
has_empty [] = false
has_empty ([] ∷ bodies) = true
has_empty ((s ∷ b) ∷ bodies) = has_empty bodies

abbrev pub empty_of : List (List Symbol) → Option (List Symbol)
empty_of [] = None
empty_of ([] ∷ bodies) = Some []
empty_of ((s ∷ b) ∷ bodies) = empty_of bodies

abbrev pub pick : Option (List Symbol) → List (List Symbol) → Token → Option (List Symbol)
pick other [] t = other
pick other (body ∷ bodies) t = cond (is_begun body t) (Some body) (pick other bodies t)

-- the production that the item begins, or else the empty one
unfoldable pub chosen : Part → Token → Option (List Symbol)
chosen n t = pick (empty_of (productions n)) (productions n) t

abbrev pub heads : List (List Symbol) → List Terminal
heads [] = []
heads ([] ∷ bodies) = heads bodies
heads ((Item k ∷ b) ∷ bodies) = k ∷ heads bodies
heads ((Whole n ∷ b) ∷ bodies) = heads bodies

abbrev pub all_apart : Terminal → List Terminal → Bool
all_apart k [] = true
all_apart k (j ∷ js) = is_apart k j && all_apart k js

-- no such item begins what these symbols spell
abbrev pub avoids : Terminal → List Symbol → Bool
avoids k [] = true
avoids k (Item j ∷ symbols) = is_apart k j
avoids k (Whole n ∷ symbols) = all_apart k (heads (productions n)) && cond (has_empty (productions n)) (avoids k symbols) true

-- the items that may go on with a part where it could also end
abbrev pub tails : Part → List Terminal
tails Meaning = TheSign signs.LeftParenthesis ∷ []
tails AType = TheSign signs.LeftParenthesis ∷ []
tails SequenceRest = TheSign signs.LeftParenthesis ∷ []
tails OptionalSize = TheSign signs.LeftParenthesis ∷ []
tails Mark = TheSign signs.Comma ∷ []
tails HighSize = TheSign signs.Range ∷ []
tails SuccessfulOutcome = TheWord words.Successful ∷ TheSign signs.LeftParenthesis ∷ []
tails UnsuccessfulOutcome = TheWord words.Unsuccessful ∷ TheSign signs.LeftParenthesis ∷ []
tails OptionalWord = TheWord words.Optional ∷ []
tails _ = []

abbrev pub all_avoid : List Terminal → List Symbol → Bool
all_avoid [] symbols = true
all_avoid (k ∷ ks) symbols = avoids k symbols && all_avoid ks symbols

-- behind each part stands nothing that could as well go on with it
abbrev pub is_clear : List Symbol → Bool
is_clear [] = true
is_clear (Item k ∷ symbols) = is_clear symbols
is_clear (Whole n ∷ symbols) = all_avoid (tails n) symbols && is_clear symbols

-- ---- the same of a production, whose own tails are these

abbrev pub is_in : Terminal → List Terminal → Bool
is_in k [] = false
is_in k (j ∷ js) = (class k == class j) || is_in k js

abbrev pub all_in : List Terminal → List Terminal → Bool
all_in [] js = true
all_in (k ∷ ks) js = is_in k js && all_in ks js

abbrev pub avoids_within : List Terminal → Terminal → List Symbol → Bool
avoids_within ends k [] = is_in k ends
avoids_within ends k (Item j ∷ b) = is_apart k j
avoids_within ends k (Whole n ∷ b) = all_apart k (heads (productions n)) && cond (has_empty (productions n)) (avoids_within ends k b) true

abbrev pub all_avoid_within : List Terminal → List Terminal → List Symbol → Bool
all_avoid_within ends [] b = true
all_avoid_within ends (k ∷ ks) b = avoids_within ends k b && all_avoid_within ends ks b

abbrev pub is_clear_within : List Terminal → List Symbol → Bool
is_clear_within ends [] = true
is_clear_within ends (Item k ∷ b) = is_clear_within ends b
is_clear_within ends (Whole n ∷ b) = all_avoid_within ends (tails n) b && is_clear_within ends b

abbrev pub all_clear : List Terminal → List (List Symbol) → Bool
all_clear ends [] = true
all_clear ends (b ∷ bodies) = is_clear_within ends b && all_clear ends bodies

-- each production begins with an item or is empty, and no two begin with the same
abbrev pub are_told_apart : List (List Symbol) → Bool
are_told_apart [] = true
are_told_apart ([] ∷ bodies) = are_told_apart bodies
are_told_apart ((Item k ∷ b) ∷ bodies) = all_apart k (heads bodies) && are_told_apart bodies
are_told_apart ((Whole n ∷ b) ∷ bodies) = false

abbrev pub is_predictable : Part → Bool
is_predictable n = are_told_apart (productions n) && (all_clear (tails n) (productions n) && cond (has_empty (productions n)) (all_in (heads (productions n)) (tails n)) true)

-- one item decides in each part of the grammar
pub predictable : (n : Part) → is_predictable n ≡ true
unfolding productions
predictable Module = refl
predictable Assignments = refl
predictable Meaning = refl
predictable IeRows = refl
predictable MoreIeRows = refl
predictable ProcedureRows = refl
predictable MoreProcedureRows = refl
predictable SuccessfulOutcome = refl
predictable UnsuccessfulOutcome = refl
predictable AType = refl
predictable Mark = refl
predictable OptionalSize = refl
predictable HighSize = refl
predictable SequenceRest = refl
predictable FirstComponent = refl
predictable NextComponent = refl
predictable AfterComponent = refl
predictable AfterAddition = refl
predictable OptionalWord = refl
predictable NextAlternative = refl
predictable AfterAlternative = refl
predictable AfterAlternativeAddition = refl
predictable NextName = refl
predictable AfterName = refl
predictable AfterNameAddition = refl

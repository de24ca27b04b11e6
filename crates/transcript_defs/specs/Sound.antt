-- Sound texts: every line is one of a transcript and keeps each rule, and the text ends as a run does. A text that isn't sound has a
-- first place at which a rule is broken, and the least rule of that place.
use Rattle.std.specs.Prelude.{◌≡◌, ℕ, ◌+◌, ◌<◌, List, [], ◌∷◌, ◌++◌, length, map, reverse}
use Rattle.std.specs.List.{AllByRecursion}
use Rattle.transcript_defs.specs.declared.line.TextLine.{TextLine}
use Rattle.transcript_defs.specs.declared.rule.Rule.{Rule}
use Rattle.transcript_defs.specs.Lines.{text_of, IsProper, IsLineOf}
use Rattle.transcript_defs.specs.Rules.{Spelling, AtPlace, a_line, no_line, the_end, Keeps, IsFinished, rule_number}

-- each of these lines, the newest first, keeps every rule after the lines before it
abbrev pub AreSound : Spelling → List TextLine → Type 0
AreSound encode [] = Unit {0}
AreSound encode (line ∷ past) = AreSound encode past × ((rule : Rule) → Keeps encode rule past (a_line line))

-- the texts of these lines, the oldest first
abbrev pub texts_of : List TextLine → List (List ℕ)
texts_of past = map text_of (reverse past)

-- what stands at the front of these texts
abbrev pub Stands : List (List ℕ) → AtPlace → Type 0
Stands [] the_end = Unit {0}
Stands (text ∷ rest) (a_line line) = IsLineOf text line
Stands (text ∷ rest) no_line = (line : TextLine) → IsLineOf text line → ⊥
Stands texts place = ⊥

-- Texts that are a sound transcript; its lines, the newest first, are `past`.
pub record Sound (encode : Spelling) (texts : List (List ℕ)) : Type 0 where
  pub past : List TextLine
  pub texts_are : texts ≡ texts_of past
  pub proper : AllByRecursion IsProper past
  pub sound : AreSound encode past
  pub finished : IsFinished past

-- Texts whose first broken rule is this one, at this place, counted from 1: the lines before it keep all rules, and what
-- stands there breaks this rule and keeps those before it. At the end of the texts the place is one past the last.
pub record IsUnsound (encode : Spelling) (texts : List (List ℕ)) (place : ℕ) (rule : Rule) : Type 0 where
  pub past : List TextLine
  pub rest : List (List ℕ)
  pub texts_are : texts ≡ texts_of past ++ rest
  pub proper : AllByRecursion IsProper past
  pub sound : AreSound encode past
  pub place_is : place ≡ length past + 1
  pub at : AtPlace
  pub stands : Stands rest at
  pub broken : Keeps encode rule past at → ⊥
  pub least : (other : Rule) → rule_number other < rule_number rule → Keeps encode other past at

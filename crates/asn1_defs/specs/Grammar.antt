-- The grammar of modules, as productions over lexical items (X.680, clauses 13 and 16 to 29; X.681, 12.3 for the object sets in
-- their fixed notation). A name has its own form here alone: what it refers to, and the bounds of numbers, are no part of it.
use Rattle.std.specs.Prelude.{List, [], ◌∷◌, Bool, true, false, Option, Some, None, codes, ◌||◌, ℕ}
use Rattle.asn1_tokens.specs.declared.token.Word.{Word}
use Rattle.asn1_tokens.specs.declared.token.Word.TheVariants as words
use Rattle.asn1_tokens.specs.declared.token.Sign.{Sign}
use Rattle.asn1_tokens.specs.declared.token.Sign.TheVariants as signs
use Rattle.asn1_tokens.specs.declared.token.Token.{Token}
use Rattle.asn1_tokens.specs.declared.token.Token.TheVariants as tokens
use Rattle.asn1_tokens.specs.Words.{all_words, is_word, is_sign, is_text}
use Rattle.asn1_syntax.specs.types.Shapes.{Shape, Alone, BoundsFollow, NamesFollow, StringFollows, TextSizeFollows, shape_of}

-- what a lexical item must be at its place
pub data Terminal : Type 0 where
  AnUpper : Terminal
  ALower : Terminal
  ANumber : Terminal
  ACriticality : Terminal
  APresence : Terminal
  TheWord : Word → Terminal
  TheSign : Sign → Terminal

abbrev pub is_criticality : List ℕ → Bool
is_criticality name = is_text name (codes "reject") || (is_text name (codes "ignore") || is_text name (codes "notify"))

abbrev pub is_presence : List ℕ → Bool
is_presence name = is_text name (codes "mandatory") || is_text name (codes "optional")

abbrev pub fits_lower : Terminal → List ℕ → Bool
fits_lower ALower name = true
fits_lower ACriticality name = is_criticality name
fits_lower APresence name = is_presence name
fits_lower _ name = false

abbrev pub fits_upper : Terminal → Bool
fits_upper AnUpper = true
fits_upper _ = false

abbrev pub fits_number : Terminal → Bool
fits_number ANumber = true
fits_number _ = false

abbrev pub fits_word : Terminal → Word → Bool
fits_word (TheWord word) found = is_word found word
fits_word _ found = false

abbrev pub fits_sign : Terminal → Sign → Bool
fits_sign (TheSign sign) found = is_sign found sign
fits_sign _ found = false

-- the item is such a one
abbrev pub fits : Terminal → Token → Bool
fits terminal (tokens.Upper name) = fits_upper terminal
fits terminal (tokens.Lower name) = fits_lower terminal name
fits terminal (tokens.Number value) = fits_number terminal
fits terminal (tokens.Word found) = fits_word terminal found
fits terminal (tokens.Sign found) = fits_sign terminal found
fits terminal tokens.OutOfProfile = false
fits terminal tokens.Nothing = false
fits terminal tokens.EndOfText = false

-- the parts of a module's text
pub data Part : Type 0 where
  Module : Part
  Assignments : Part
  Meaning : Part
  IeRows : Part
  MoreIeRows : Part
  ProcedureRows : Part
  MoreProcedureRows : Part
  SuccessfulOutcome : Part
  UnsuccessfulOutcome : Part
  AType : Part
  Mark : Part
  OptionalSize : Part
  HighSize : Part
  SequenceRest : Part
  FirstComponent : Part
  NextComponent : Part
  AfterComponent : Part
  AfterAddition : Part
  OptionalWord : Part
  NextAlternative : Part
  AfterAlternative : Part
  AfterAlternativeAddition : Part
  NextName : Part
  AfterName : Part
  AfterNameAddition : Part

pub data Symbol : Type 0 where
  Item : Terminal → Symbol
  Whole : Part → Symbol

abbrev pub word : Word → Symbol
word w = Item (TheWord w)

abbrev pub sign : Sign → Symbol
sign s = Item (TheSign s)

-- `{`, `}`, `(`, `)` and a comma
abbrev pub open_brace : Symbol
open_brace = sign signs.LeftBrace

abbrev pub close_brace : Symbol
close_brace = sign signs.RightBrace

abbrev pub open_bracket : Symbol
open_bracket = sign signs.LeftParenthesis

abbrev pub close_bracket : Symbol
close_bracket = sign signs.RightParenthesis

abbrev pub comma : Symbol
comma = sign signs.Comma

abbrev pub ellipsis : Symbol
ellipsis = sign signs.Ellipsis

-- `(SIZE (n))`, `(SIZE (lo..hi))`, with or without `, ...`
abbrev pub size : List Symbol → List Symbol
size rest = open_bracket ∷ word words.Size ∷ open_bracket ∷ Item ANumber ∷ Whole HighSize ∷ Whole Mark ∷ close_bracket ∷ close_bracket ∷ rest

-- `{{Set}}`
abbrev pub set_name : List Symbol
set_name = open_brace ∷ open_brace ∷ Item AnUpper ∷ close_brace ∷ close_brace ∷ []

-- `, ...}` behind the last row of a set
abbrev pub set_end : List Symbol
set_end = comma ∷ ellipsis ∷ close_brace ∷ []

-- what follows the word of a type of this shape
abbrev pub behind_word : Shape → List Symbol
behind_word (Alone definition) = []
behind_word BoundsFollow = open_bracket ∷ Item ANumber ∷ sign signs.Range ∷ Item ANumber ∷ Whole Mark ∷ close_bracket ∷ []
behind_word NamesFollow = open_brace ∷ Item ALower ∷ Whole AfterName ∷ []
behind_word (StringFollows kind) = word words.String ∷ Whole OptionalSize ∷ []
behind_word (TextSizeFollows kind) = Whole OptionalSize ∷ []

-- the words that begin a type without another one inside, each with what follows it, and then other sequences
abbrev pub beside_simple : Word → Option Shape → List (List Symbol) → List (List Symbol)
beside_simple w None others = others
beside_simple w (Some shape) others = (word w ∷ behind_word shape) ∷ others

abbrev pub simple_types : List Word → List (List Symbol) → List (List Symbol)
simple_types [] others = others
simple_types (w ∷ ws) others = beside_simple w (shape_of w) (simple_types ws others)

-- What a part consists of: one of these sequences.
unfoldable pub productions : Part → List (List Symbol)
productions Module =
    (Item AnUpper ∷ word words.Definitions ∷ word words.Automatic ∷ word words.Tags ∷ sign signs.Assignment ∷ word words.Begin ∷ Whole Assignments ∷ []) ∷ []
productions Assignments =
    (word words.End ∷ [])
    ∷ (Item AnUpper ∷ Whole Meaning ∷ Whole Assignments ∷ []) ∷ []
productions Meaning =
    (word words.ProtocolIes ∷ sign signs.Assignment ∷ open_brace ∷ Whole IeRows ∷ [])
    ∷ (word words.ElementaryProcedure ∷ sign signs.Assignment ∷ open_brace ∷ Whole ProcedureRows ∷ [])
    ∷ (sign signs.Assignment ∷ Whole AType ∷ []) ∷ []
productions IeRows =
    (open_brace ∷ word words.Id ∷ Item ANumber ∷ word words.Criticality ∷ Item ACriticality ∷ word words.Type ∷ Whole AType ∷ word words.Presence ∷ Item APresence ∷ close_brace ∷ Whole MoreIeRows ∷ []) ∷ []
productions MoreIeRows = (sign signs.Bar ∷ Whole IeRows ∷ []) ∷ set_end ∷ []
productions ProcedureRows =
    (open_brace ∷ word words.Initiating ∷ word words.Message ∷ Whole AType ∷ Whole SuccessfulOutcome ∷ Whole UnsuccessfulOutcome ∷ word words.Procedure ∷ word words.Code ∷ Item ANumber ∷ word words.Criticality ∷ Item ACriticality ∷ close_brace ∷ Whole MoreProcedureRows ∷ []) ∷ []
productions MoreProcedureRows = (sign signs.Bar ∷ Whole ProcedureRows ∷ []) ∷ set_end ∷ []
productions SuccessfulOutcome = (word words.Successful ∷ word words.Outcome ∷ Whole AType ∷ []) ∷ [] ∷ []
productions UnsuccessfulOutcome = (word words.Unsuccessful ∷ word words.Outcome ∷ Whole AType ∷ []) ∷ [] ∷ []
productions AType =
    simple_types all_words
    ((word words.Sequence ∷ Whole SequenceRest ∷ [])
    ∷ (word words.Choice ∷ open_brace ∷ Item ALower ∷ Whole AType ∷ Whole AfterAlternative ∷ [])
    ∷ (word words.ProtocolIeContainer ∷ set_name)
    ∷ (word words.ProtocolPdu ∷ set_name)
    ∷ (Item AnUpper ∷ []) ∷ [])
productions Mark = (comma ∷ ellipsis ∷ []) ∷ [] ∷ []
productions OptionalSize = size [] ∷ [] ∷ []
productions HighSize = (sign signs.Range ∷ Item ANumber ∷ []) ∷ [] ∷ []
productions SequenceRest =
    (open_brace ∷ Whole FirstComponent ∷ [])
    ∷ size (word words.Of ∷ Whole AType ∷ [])
    ∷ (word words.Of ∷ Whole AType ∷ []) ∷ []
productions FirstComponent =
    (close_brace ∷ [])
    ∷ (ellipsis ∷ Whole AfterAddition ∷ [])
    ∷ (Item ALower ∷ Whole AType ∷ Whole OptionalWord ∷ Whole AfterComponent ∷ []) ∷ []
productions NextComponent =
    (ellipsis ∷ Whole AfterAddition ∷ [])
    ∷ (Item ALower ∷ Whole AType ∷ Whole OptionalWord ∷ Whole AfterComponent ∷ []) ∷ []
productions AfterComponent = (comma ∷ Whole NextComponent ∷ []) ∷ (close_brace ∷ []) ∷ []
productions AfterAddition =
    (comma ∷ Item ALower ∷ Whole AType ∷ Whole OptionalWord ∷ Whole AfterAddition ∷ [])
    ∷ (close_brace ∷ []) ∷ []
productions OptionalWord = (word words.Optional ∷ []) ∷ [] ∷ []
productions NextAlternative =
    (ellipsis ∷ Whole AfterAlternativeAddition ∷ [])
    ∷ (Item ALower ∷ Whole AType ∷ Whole AfterAlternative ∷ []) ∷ []
productions AfterAlternative = (comma ∷ Whole NextAlternative ∷ []) ∷ (close_brace ∷ []) ∷ []
productions AfterAlternativeAddition =
    (comma ∷ Item ALower ∷ Whole AType ∷ Whole AfterAlternativeAddition ∷ [])
    ∷ (close_brace ∷ []) ∷ []
productions NextName =
    (ellipsis ∷ Whole AfterNameAddition ∷ [])
    ∷ (Item ALower ∷ Whole AfterName ∷ []) ∷ []
productions AfterName = (comma ∷ Whole NextName ∷ []) ∷ (close_brace ∷ []) ∷ []
productions AfterNameAddition = (comma ∷ Item ALower ∷ Whole AfterNameAddition ∷ []) ∷ (close_brace ∷ []) ∷ []

-- Internal: reading from left to right, with the first fault that is met.
use Rattle.std.specs.Prelude.{◌≡◌, ℕ, zero, suc, List, Bool, Option, Some, None, Result, Ok, Err, if◌then◌else◌, ℤ}
use Rattle.asn1_tokens.specs.declared.token.Word.{Word}
use Rattle.asn1_tokens.specs.declared.token.Sign.{Sign}
use Rattle.asn1_tokens.specs.declared.token.Token.{Token}
use Rattle.asn1_tokens.specs.declared.token.Token.TheVariants as tokens
use Rattle.asn1_tokens.specs.Stream.{first_token, first_place, others}
use Rattle.asn1_syntax.specs.declared.types.fault.ModuleReason.{ModuleReason}
use Rattle.asn1_syntax.specs.declared.types.fault.Fault.{Fault}
use Rattle.asn1_syntax.specs.declared.types.fault.ReadError.{ReadError}
use Rattle.asn1_syntax.specs.declared.types.fault.ReadError.TheVariants as errors
use Rattle.asn1_syntax.specs.types.Reading.{Left, reason_of, begins_with, begins_with_sign}

infixl 10 ◌>>=◌
abbrev pub ◌>>=◌ : {A B : Type 0} → Result A Fault → (A → Result B Fault) → Result B Fault
(Ok x) >>= f = f x
(Err e) >>= f = Err e

-- What a function returned, seen by view, is what reading gives, unless memory ran out.
abbrev pub Fails : {Y : Type 0} → ReadError → Result Y Fault → Type 0
Fails errors.Memory read = Unit {0}
Fails (errors.Fault f) read = read ≡ Err f

abbrev pub Gives : {X Y : Type 0} → (X → Y) → Result X ReadError → Result Y Fault → Type 0
Gives view (Ok x) read = read ≡ Ok (view x)
Gives view (Err e) read = Fails e read

-- a fault at the first item
abbrev pub fault_at : ModuleReason → Left → Fault
fault_at reason ts = record { place = (first_place ts).start; reason = reason }

-- the first item can't stand here
unfoldable pub unexpected : Left → Fault
unexpected ts = fault_at (reason_of (first_token ts)) ts

-- the word that stands first, if a word does
abbrev pub word_in : Token → Option Word
word_in (tokens.Word word) = Some word
word_in (tokens.Upper name) = None
word_in (tokens.Lower name) = None
word_in (tokens.Number value) = None
word_in (tokens.Sign sign) = None
word_in tokens.OutOfProfile = None
word_in tokens.Nothing = None
word_in tokens.EndOfText = None

abbrev pub first_word : Left → Option Word
first_word ts = word_in (first_token ts)

-- a word, a sign
unfoldable pub word_at : Word → Left → Result Left Fault
word_at word ts = if begins_with word ts then Ok (others ts) else Err (unexpected ts)

unfoldable pub sign_at : Sign → Left → Result Left Fault
sign_at sign ts = if begins_with_sign sign ts then Ok (others ts) else Err (unexpected ts)

-- a name of upper form, a name of lower form, a number
abbrev pub upper_of : Token → Left → Result (List ℕ × Left) Fault
upper_of (tokens.Upper name) ts = Ok (name, others ts)
upper_of (tokens.Lower name) ts = Err (unexpected ts)
upper_of (tokens.Word word) ts = Err (unexpected ts)
upper_of (tokens.Number value) ts = Err (unexpected ts)
upper_of (tokens.Sign sign) ts = Err (unexpected ts)
upper_of tokens.OutOfProfile ts = Err (unexpected ts)
upper_of tokens.Nothing ts = Err (unexpected ts)
upper_of tokens.EndOfText ts = Err (unexpected ts)

unfoldable pub upper_at : Left → Result (List ℕ × Left) Fault
upper_at ts = upper_of (first_token ts) ts

abbrev pub lower_of : Token → Left → Result (List ℕ × Left) Fault
lower_of (tokens.Lower name) ts = Ok (name, others ts)
lower_of (tokens.Upper name) ts = Err (unexpected ts)
lower_of (tokens.Word word) ts = Err (unexpected ts)
lower_of (tokens.Number value) ts = Err (unexpected ts)
lower_of (tokens.Sign sign) ts = Err (unexpected ts)
lower_of tokens.OutOfProfile ts = Err (unexpected ts)
lower_of tokens.Nothing ts = Err (unexpected ts)
lower_of tokens.EndOfText ts = Err (unexpected ts)

unfoldable pub lower_at : Left → Result (List ℕ × Left) Fault
lower_at ts = lower_of (first_token ts) ts

abbrev pub number_of : Token → Left → Result (ℤ × Left) Fault
number_of (tokens.Number value) ts = Ok (value, others ts)
number_of (tokens.Lower name) ts = Err (unexpected ts)
number_of (tokens.Upper name) ts = Err (unexpected ts)
number_of (tokens.Word word) ts = Err (unexpected ts)
number_of (tokens.Sign sign) ts = Err (unexpected ts)
number_of tokens.OutOfProfile ts = Err (unexpected ts)
number_of tokens.Nothing ts = Err (unexpected ts)
number_of tokens.EndOfText ts = Err (unexpected ts)

unfoldable pub number_at : Left → Result (ℤ × Left) Fault
number_at ts = number_of (first_token ts) ts

-- Turns that each change a state, until one ends the list, in at most that many.
unfoldable pub repeat_at : {S : Type 0} → (S → Left → Result (Bool × S × Left) Fault) → ℕ → S → Left → Result (S × Left) Fault
repeat_at turn zero state ts = Err (unexpected ts)
repeat_at turn (suc turns) state ts = do
  t ← turn state ts
  if t.0 then repeat_at turn turns t.1 t.2 else Ok (t.1, t.2)

-- What a reader of words answers.
use Rattle.std.specs.Prelude.{◌≡◌, ℕ, List, [], Option, Some, None, Result, Ok, Err}
use denote.Ref.{Bor}
use Rattle.scenario_text.specs.declared.script_words.reason.TextReason.{TextReason}
use Rattle.scenario_text.specs.declared.script_words.reason.TextError.{TextError}
use Rattle.scenario_text.specs.declared.script_words.reason.TextError.TheVariants.{Refused, Memory}
use Rattle.scenario_text.specs.script_words.Forms.{words}

-- what a reader answered, seen by view, is what the grammar says
abbrev pub Gives : {X Y : Type 0} → (X → Y) → Result X TextReason → Result Y TextReason → Type 0
Gives view (Ok x) read = read ≡ Ok (view x)
Gives view (Err reason) read = read ≡ Err reason

-- the same of a reader that may run out of memory
abbrev pub GivesOrMemory : {X Y : Type 0} → (X → Y) → Result X TextError → Result Y TextReason → Type 0
GivesOrMemory view (Ok x) read = read ≡ Ok (view x)
GivesOrMemory view (Err (Refused reason)) read = read ≡ Err reason
GivesOrMemory view (Err Memory) read = Unit {0}

-- the words of what a reader still has before it
abbrev pub words_left : Option (Bor (List ℕ)) → List (List ℕ)
words_left None = []
words_left (Some text) = words text.now

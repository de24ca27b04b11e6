-- What a call of a link comes to: it gives a value and leaves the link in a state, or it refuses and changes nothing.
use Rattle.std.specs.Prelude.{◌≡◌, Result, Ok, Err}
use Rattle.std.specs.Borrow.{Bor}
use Rattle.links.specs.declared.links_bag.error.LinkError.{LinkError}
use Rattle.links.specs.declared.links_bag.error.LinkError.TheVariants as errors

pub data Answer (A S : Type 0) : Type 0 where
  gives : (value : A) (after : S) → Answer A S
  refuses : (error : LinkError) → Answer A S

-- the answer of a call that changed old into new. Any call may be out of memory, and then has changed nothing
abbrev pub Answers : {A S : Type 0} → Answer A S → S → S → Result A LinkError → Type 0
Answers answer old new (Ok value) = answer ≡ gives value new
Answers answer old new (Err errors.Memory) = new ≡ old
Answers answer old new (Err error) = (answer ≡ refuses error) × (new ≡ old)

-- the same of a call that takes no memory
abbrev pub AnswersSurely : {A S : Type 0} → Answer A S → S → S → Result A LinkError → Type 0
AnswersSurely answer old new (Ok value) = answer ≡ gives value new
AnswersSurely answer old new (Err error) = (answer ≡ refuses error) × (new ≡ old)

-- the same of a call that only looks
abbrev pub Shows : {A S : Type 0} → Answer A S → S → Result (Bor A) LinkError → Type 0
Shows answer now (Ok shown) = answer ≡ gives shown.now now
Shows answer now (Err error) = answer ≡ refuses error

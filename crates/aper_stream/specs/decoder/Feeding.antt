-- What a decoder that is fed in pieces answers, and what it is at then.
use Rattle.std.specs.Prelude.{◌≡◌, ℕ, ◌-◌, ◌≤◌, List, ◌++◌, length, Result, Ok, Err}
use Rattle.asn1_syntax.specs.declared.types.definition.TypeId.{TypeId}
use Rattle.asn1_syntax.specs.declared.assignments.assignment.Syntax.{Syntax}
use Rattle.aper_defs.specs.Trees.{Tree}
use Rattle.aper_defs.specs.Reading.{Fault}
use Rattle.aper_defs.specs.feeding_defs.Feeding.{stage, whole, cut, wrong}
use Rattle.aper_values.specs.types.Types.{tree}
use Rattle.aper_frames.specs.Paths.{path_view}
use Rattle.aper_values.specs.declared.value.Value.{Value}
use Rattle.aper_values.specs.Views.{view}
use Rattle.aper_decode.specs.declared.error.DecodeError.{DecodeError}
use Rattle.aper_decode.specs.declared.error.DecodeError.TheVariants as errors
use Rattle.aper_decode.specs.Decoding.{Decodes}
use Rattle.aper_stream.specs.declared.decoder.decoder.Step.{Step}
use Rattle.aper_stream.specs.declared.decoder.decoder.Step.TheVariants as steps

-- what a decoder is at: the octets that it keeps, after which more are awaited; the value; the refusal; or out of memory.
pub data Feeding : Type 0 where
  reading : (kept : List ℕ) → Feeding
  there : (v : Value) → Feeding
  refused : (fault : Fault) → Feeding
  failed : Feeding

-- A decoder as its callers see it: a type of a module, and what it is at.
pub record Decoding : Type 0 where
  pub types : Syntax
  pub id : TypeId
  pub now : Feeding

abbrev pub tree_of : Decoding → Tree
tree_of d = tree d.types d.id.number

-- The value is there, and ends after so many octets of the piece.
pub record Completes (t : Tree) (kept piece : List ℕ) (used : ℕ) (after : Feeding) : Type 0 where
  pub value : Value
  pub size : ℕ
  pub is : stage t (kept ++ piece) ≡ whole (view value) size
  pub used_is : used ≡ size - length kept
  pub within : used ≤ length piece
  pub at : after ≡ there value

-- More octets are awaited.
pub record Awaits (t : Tree) (kept piece : List ℕ) (after : Feeding) : Type 0 where
  pub fault : Fault
  pub is : stage t (kept ++ piece) ≡ cut fault
  pub at : after ≡ reading (kept ++ piece)

-- One more piece, while octets are awaited: the value is there, or more octets are awaited, or those that are there are wrong.
abbrev pub Reads : Tree → (kept piece : List ℕ) → (after : Feeding) → Result Step DecodeError → Type 0
Reads t kept piece after (Ok steps.More) = Awaits t kept piece after
Reads t kept piece after (Ok (steps.Done used)) = Completes t kept piece used after
Reads t kept piece after (Err (errors.Refused bit reason path)) =
    let fault : Fault = record { bit = bit; reason = reason; path = path_view path.items } in
    (stage t (kept ++ piece) ≡ wrong fault) × (after ≡ refused fault)
Reads t kept piece after (Err errors.Memory) = after ≡ failed

-- after the value
abbrev pub StaysThere : Value → (after : Feeding) → Result Step DecodeError → Type 0
StaysThere v after result = (result ≡ Ok (steps.Done 0)) × (after ≡ there v)

-- after a refusal
abbrev pub StaysRefused : Fault → (after : Feeding) → Result Step DecodeError → Type 0
StaysRefused fault after (Ok step) = ⊥
StaysRefused fault after (Err (errors.Refused bit reason path)) =
    (fault ≡ record { bit = bit; reason = reason; path = path_view path.items }) × (after ≡ refused fault)
StaysRefused fault after (Err errors.Memory) = after ≡ failed

abbrev pub Feeds : Tree → Feeding → (piece : List ℕ) → (after : Feeding) → Result Step DecodeError → Type 0
Feeds t (reading kept) piece after result = Reads t kept piece after result
Feeds t (there v) piece after result = StaysThere v after result
Feeds t (refused fault) piece after result = StaysRefused fault after result
Feeds t failed piece after result = (result ≡ Err errors.Memory) × (after ≡ failed)

-- the same refusal, unless memory runs out
abbrev pub RefusesStill : Fault → Result Value DecodeError → Type 0
RefusesStill fault (Ok v) = ⊥
RefusesStill fault (Err (errors.Refused bit reason path)) =
    fault ≡ record { bit = bit; reason = reason; path = path_view path.items }
RefusesStill fault (Err errors.Memory) = Unit {0}

-- The end of all pieces: what the octets that are kept give as a whole.
abbrev pub Finishes : Tree → Feeding → Result Value DecodeError → Type 0
Finishes t (reading kept) result = Decodes t kept result
Finishes t (there v) result = result ≡ Ok v
Finishes t (refused fault) result = RefusesStill fault result
Finishes t failed result = result ≡ Err errors.Memory

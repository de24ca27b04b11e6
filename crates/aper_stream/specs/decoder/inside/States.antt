-- Internal: a decoder's fields as they are seen, and what a piece does to them.
use Rattle.std.specs.Prelude.{◌≡◌, ℕ, ◌-◌, ◌/◌, ◌<◌, ◌≤◌, List, [], ◌++◌, length, take, Result, Ok, Err}
use Rattle.asn1_syntax.specs.declared.assignments.assignment.Syntax.{Syntax}
use Rattle.asn1_syntax.specs.declared.types.definition.TypeId.{TypeId}
use Rattle.aper_defs.specs.declared.reason.Reason.{Reason}
use Rattle.aper_defs.specs.declared.reason.Reason.TheVariants as reasons
use Rattle.aper_defs.specs.Trees.{Tree}
use Rattle.aper_defs.specs.Values as seen
use Rattle.aper_defs.specs.Reading.{Fault}
use Rattle.aper_defs.specs.feeding_defs.Feeding.{stage, whole, cut, wrong}
use Rattle.aper_frames.specs.declared.frame.Frame.{Frame}
use Rattle.aper_frames.specs.Frames.{path_of}
use Rattle.aper_frames.specs.Paths.{path_view}
use Rattle.aper_values.specs.types.Types.{tree}
use Rattle.aper_values.specs.declared.value.Value.{Value}
use Rattle.aper_values.specs.Views.{view}
use Rattle.aper_decode.specs.declared.error.DecodeError.{DecodeError}
use Rattle.aper_decode.specs.declared.error.DecodeError.TheVariants as errors
use Rattle.aper_decode.specs.Turns.{IsRefusal}
use Rattle.aper_stream.specs.declared.decoder.decoder.Decoder.TheInside.{Inside}
use Rattle.aper_stream.specs.declared.decoder.decoder.Reader.{Reader}
use Rattle.aper_stream.specs.declared.decoder.decoder.State.{State}
use Rattle.aper_stream.specs.declared.decoder.decoder.State.TheVariants as states
use Rattle.aper_stream.specs.declared.decoder.decoder.Step.{Step}
use Rattle.aper_stream.specs.declared.decoder.decoder.Step.TheVariants as steps
use Rattle.aper_stream.specs.declared.steps.step.Next.{Next}
use Rattle.aper_stream.specs.declared.decoder.turns.End.{End}
use Rattle.aper_stream.specs.declared.decoder.turns.End.TheVariants as ends
use Rattle.aper_stream.specs.decoder.Feeding.{Feeding, reading, there, refused, failed, Decoding, Finishes}
use Rattle.aper_stream.specs.decoder.inside.Reading.{Stands, IsReadingAt, IsEnd, StandsThen}

abbrev pub state_view : State → List ℕ → List Frame → Feeding
state_view (states.Reading next) kept fs = reading kept
state_view (states.Done v used) kept fs = there v
state_view (states.Refused bit reason) kept fs = refused (record { bit = bit; reason = reason; path = path_of fs })
state_view states.Failed kept fs = failed

abbrev pub type_of : Reader → Tree
type_of r = tree r.module.now r.id.number

abbrev pub decoding_of : Inside → Decoding
decoding_of d = record { types = d.reader.module.now; id = d.reader.id; now = state_view d.state d.reader.kept.items d.reader.frames }

-- what is looked at
abbrev pub front : List ℕ → List ℕ
front octets = take 131073 octets

-- before the first octet
pub record IsNew (m : Syntax) (id : TypeId) (r : Reader) : Type 0 where
  pub module_is : r.module.now ≡ m
  pub id_is : r.id ≡ id
  pub kept : r.kept.items ≡ []
  pub place : r.spot.place ≡ 0
  pub spans : r.spot.spans.items ≡ []
  pub frames : r.frames ≡ []

-- ---- what holds between two pieces
pub record IsFed (r : Reader) (next : Next) : Type 0 where
  pub reading : IsReadingAt r.module.now (type_of r) (front r.kept.items) r.spot next r.frames
  pub stands : Stands r.module.now (length (front r.kept.items)) r.spot next r.frames

abbrev pub IsStateSound : Reader → State → Type 0
IsStateSound r (states.Reading next) = IsFed r next
IsStateSound r (states.Done v used) = Unit {0}
IsStateSound r (states.Refused bit reason) = Unit {0}
IsStateSound r states.Failed = Unit {0}

pub record IsSound (d : Inside) : Type 0 where
  pub inside : d.reader.id.number < length d.reader.module.now.nodes
  pub state : IsStateSound d.reader d.state

-- ---- what a piece does
abbrev pub IsSameType : Reader → Reader → Type 0
IsSameType old new = (new.module.now ≡ old.module.now) × (new.id ≡ old.id)

pub record PieceEnds (r : Reader) (end : End) : Type 0 where
  pub is : IsEnd r.module.now (type_of r) (front r.kept.items) r.spot r.frames end
  pub stands : StandsThen r.module.now (length (front r.kept.items)) r.spot r.frames end

pub record Cuts (old : Reader) (piece : List ℕ) (new : Reader) (next : Next) : Type 0 where
  pub fault : Fault
  pub is : stage (type_of old) (old.kept.items ++ piece) ≡ cut fault
  pub kept : new.kept.items ≡ old.kept.items ++ piece
  pub fed : IsFed new next

pub record Ends (old : Reader) (piece : List ℕ) (v : Value) (used : ℕ) : Type 0 where
  pub size : ℕ
  pub is : stage (type_of old) (old.kept.items ++ piece) ≡ whole (view v) size
  pub used_is : used ≡ size - length old.kept.items
  pub within : used ≤ length piece

abbrev pub ReadsPiece : Reader → List ℕ → Reader → State → Type 0
ReadsPiece old piece new (states.Reading next) = Cuts old piece new next
ReadsPiece old piece new (states.Done v used) = Ends old piece v used
ReadsPiece old piece new (states.Refused bit reason) =
    let fault : Fault = record { bit = bit; reason = reason; path = path_of new.frames } in
    stage (type_of old) (old.kept.items ++ piece) ≡ wrong fault
ReadsPiece old piece new states.Failed = Unit {0}

-- where a field is wrong, or octets end
abbrev pub IsStateOf : ℕ → Reason → Next → State → Type 0
IsStateOf bit reason next (states.Reading n) = (reason ≡ reasons.Truncated) × (n ≡ next)
IsStateOf bit reason next (states.Refused b r) = (b ≡ bit) × (r ≡ reason) × (reason ≡ reasons.Truncated → ⊥)
IsStateOf bit reason next (states.Done w used) = ⊥
IsStateOf bit reason next states.Failed = ⊥

abbrev pub IsStateThere : ℕ → Value → ℕ → State → Type 0
IsStateThere before v place (states.Done w used) = (w ≡ v) × (used ≡ place / 8 - before)
IsStateThere before v place (states.Reading n) = ⊥
IsStateThere before v place (states.Refused b r) = ⊥
IsStateThere before v place states.Failed = ⊥

-- where turns ended, after so many octets of the pieces before
abbrev pub StateAfter : ℕ → End → State → Type 0
StateAfter before (ends.Whole v place) state = IsStateThere before v place state
StateAfter before (ends.Wrong bit reason next) state = IsStateOf bit reason next state

abbrev pub Advances : Reader → State → List ℕ → Reader → State → Type 0
Advances old (states.Reading next) piece new state = IsSameType old new × ReadsPiece old piece new state
Advances old (states.Done v used) piece new state = (new ≡ old) × (state ≡ states.Done v 0)
Advances old (states.Refused bit reason) piece new state = (new ≡ old) × (state ≡ states.Refused bit reason)
Advances old states.Failed piece new state = (new ≡ old) × (state ≡ states.Failed)

-- ---- what is answered
abbrev pub AnswersRefusal : (bit : ℕ) → Fault → Result Step DecodeError → Type 0
AnswersRefusal bit fault (Ok step) = ⊥
AnswersRefusal bit fault (Err e) = IsRefusal bit fault.reason fault.path e

abbrev pub Answers : Reader → State → Result Step DecodeError → Type 0
Answers r (states.Reading next) result = result ≡ Ok steps.More
Answers r (states.Done v used) result = result ≡ Ok (steps.Done used)
Answers r (states.Refused bit reason) result = AnswersRefusal bit (record { bit = bit; reason = reason; path = path_of r.frames }) result
Answers r states.Failed result = result ≡ Err errors.Memory

abbrev pub UnlessFailed : State → Result Step DecodeError → State → Type 0
UnlessFailed before (Err errors.Memory) after = after ≡ states.Failed
UnlessFailed before (Err (errors.Refused bit reason path)) after = after ≡ before
UnlessFailed before (Ok step) after = after ≡ before

abbrev pub FinishesState : Reader → State → Result Value DecodeError → Type 0
FinishesState r state result = Finishes (type_of r) (state_view state r.kept.items r.frames) result

-- ---- where no octets come any more
-- what is answered gives this, unless memory runs out
abbrev pub Gives : Result seen.Value Fault → Result Value DecodeError → Type 0
Gives found (Ok v) = found ≡ Ok (view v)
Gives found (Err (errors.Refused bit reason path)) =
    found ≡ Err (record { bit = bit; reason = reason; path = path_view path.items })
Gives found (Err errors.Memory) = Unit {0}

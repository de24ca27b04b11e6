-- What is left to be asked, and what a turn does, whatever octets come after those that are there.
use Rattle.std.specs.Prelude.{◌≡◌, ℕ, suc, ◌<◌, List, Result, Ok, Err}
use Rattle.asn1_syntax.specs.declared.assignments.assignment.Syntax.{Syntax}
use Rattle.aper_defs.specs.Trees.{Tree}
use Rattle.aper_defs.specs.Values as seen
use Rattle.aper_defs.specs.Fields.{closing, end, octet}
use Rattle.aper_defs.specs.Questions.{Prog, ask, take, done}
use Rattle.aper_defs.specs.Asking.{asks}
use Rattle.aper_defs.specs.Reading.{Cursor, run}
use Rattle.proof_aper.specs.pieces.Onto.{onto}
use Rattle.aper_cursor.specs.declared.error.Unanswered.{Unanswered}
use Rattle.aper_cursor.specs.declared.error.Unanswered.TheVariants as unanswered
use Rattle.aper_cursor.specs.asking.Going.{fault_at}
use Rattle.aper_values.specs.Views.{view}
use Rattle.aper_frames.specs.declared.frame.Frame.{Frame}
use Rattle.aper_frames.specs.Frames.{path_of, next_of, options_before, after_components, elements_left, asked_inside, asked_unknown}
use Rattle.aper_decode.specs.Heavy.{weighed}
use Rattle.aper_stream.specs.resuming.Weights.{weight_left}
use Rattle.aper_stream.specs.declared.resuming.turn.Progress.{Progress}
use Rattle.aper_stream.specs.declared.resuming.turn.Progress.TheVariants.{Next, Whole}
use Rattle.aper_stream.specs.declared.resuming.pending.Pending.{Pending}
use Rattle.aper_stream.specs.declared.resuming.pending.Pending.TheVariants as pendings
use Rattle.aper_stream.specs.declared.resuming.pending.Stopped.{Stopped}
use Rattle.aper_stream.specs.declared.resuming.pending.Stopped.TheVariants as stops

-- what is still asked
abbrev pub left : (ℕ → Tree) → Pending → List Frame → Prog
left of (pendings.Read id) fs = asks (path_of fs) (of id.number) (next_of of fs)
left of (pendings.Made v) fs = next_of of fs (view v)
left of (pendings.Marks c) fs = options_before c.made.items (after_components of c (path_of fs) (next_of of fs)) seen.no_options
left of (pendings.Head e) fs = elements_left of (record e { left = suc e.left }) (path_of fs) (next_of of fs)
left of (pendings.Inside f id) fs = asked_inside of f id fs
left of (pendings.Unknown f) fs = asked_unknown of f fs
left of (pendings.Octets count) fs = take (path_of fs) octet count (λ os. next_of of fs (seen.raw os))
left of (pendings.Closing v) fs = ask (path_of fs) closing (λ m. ask (path_of fs) end (λ z. next_of of fs (view v)))
left of (pendings.Ending v) fs = ask (path_of fs) closing (λ m. done (view v))

-- Over the same octets, whatever octets come after them, what is asked at the old place is asked as what is left then at the new one. Or
-- it is refused at the new place, on the way to the value that is read.
abbrev pub Resumes : ((ℕ → Tree) → Prog) → Cursor → Cursor → List Frame → Result Pending Unanswered → Type 0
Resumes all old new fs (Ok pending) =
    (new.octets ≡ old.octets)
    × ((of : ℕ → Tree) (more : List ℕ) → run (all of) (onto more old) ≡ run (left of pending fs) (onto more new))
Resumes all old new fs (Err (unanswered.Wrong reason)) = (of : ℕ → Tree) → run (all of) old ≡ Err (fault_at new reason (path_of fs))
Resumes all old new fs (Err unanswered.Memory) = Unit {0}

-- A refusal leaves the values around the one that is read as they were.
abbrev pub Keeps : (before fs : List Frame) → Result Pending Unanswered → Type 0
Keeps before fs (Ok pending) = Unit {0}
Keeps before fs (Err (unanswered.Wrong reason)) = fs ≡ before
Keeps before fs (Err unanswered.Memory) = Unit {0}

-- the same of a turn that hands back what it was given
abbrev pub TurnsBy : (ℕ → Tree) → Pending → Cursor → Cursor → (before fs : List Frame) → Result Pending Stopped → Type 0
TurnsBy of pending old new before fs (Ok next) =
    (new.octets ≡ old.octets)
    × ((more : List ℕ) → run (left of pending before) (onto more old) ≡ run (left of next fs) (onto more new))
TurnsBy of pending old new before fs (Err (stops.Wrong reason back)) =
    (run (left of pending before) old ≡ Err (fault_at new reason (path_of before))) × (fs ≡ before) × (back ≡ pending)
TurnsBy of pending old new before fs (Err stops.Memory) = Unit {0}

abbrev pub Turns : Pending → Cursor → Cursor → (before fs : List Frame) → Result Pending Stopped → Type 0
Turns pending old new before fs result = (of : ℕ → Tree) → TurnsBy of pending old new before fs result

abbrev pub handed_back : Unanswered → Pending → Stopped
handed_back (unanswered.Wrong reason) pending = stops.Wrong reason pending
handed_back unanswered.Memory pending = stops.Memory

-- What is asked is what is left, inside the same values.
abbrev pub IsLeft : (List Frame → (ℕ → Tree) → Prog) → Pending → Type 0
IsLeft all pending = (fs : List Frame) (of : ℕ → Tree) → all fs of ≡ left of pending fs

-- ---- turns
abbrev pub IsPendingInside : ℕ → Pending → Type 0
IsPendingInside n (pendings.Read id) = id.number < n
IsPendingInside n (pendings.Made v) = Unit {0}
IsPendingInside n (pendings.Marks c) = Unit {0}
IsPendingInside n (pendings.Head e) = Unit {0}
IsPendingInside n (pendings.Inside f id) = Unit {0}
IsPendingInside n (pendings.Unknown f) = Unit {0}
IsPendingInside n (pendings.Octets count) = Unit {0}
IsPendingInside n (pendings.Closing v) = Unit {0}
IsPendingInside n (pendings.Ending v) = Unit {0}

-- A turn leads to another one, or it is the end of the whole value; or it hands back what it was given, refused at the new place on the
-- way to the value that is read.
abbrev pub TakesTurn : (ℕ → Tree) → Pending → Cursor → Cursor → (before fs : List Frame) → Result Progress Stopped → Type 0
TakesTurn of pending old new before fs (Ok (Next next)) =
    (new.octets ≡ old.octets)
    × ((more : List ℕ) → run (left of pending before) (onto more old) ≡ run (left of next fs) (onto more new))
TakesTurn of pending old new before fs (Ok (Whole v)) =
    (more : List ℕ) → run (left of pending before) (onto more old) ≡ Ok (view v, onto more new)
TakesTurn of pending old new before fs (Err (stops.Wrong reason back)) =
    (run (left of pending before) old ≡ Err (fault_at new reason (path_of before))) × (fs ≡ before) × (back ≡ pending)
TakesTurn of pending old new before fs (Err stops.Memory) = Unit {0}

-- Less is left, whatever types outside the module weigh.
abbrev pub Lessens : Syntax → Pending → (before fs : List Frame) → Result Progress Stopped → Type 0
Lessens m pending before fs (Ok (Next next)) =
    (other : ℕ) → weight_left (weighed m other) next fs < weight_left (weighed m other) pending before
Lessens m pending before fs (Ok (Whole v)) = Unit {0}
Lessens m pending before fs (Err e) = Unit {0}

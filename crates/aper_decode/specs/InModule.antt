-- Internal: steps by the types of one module, of which simple values are read in place.
use Rattle.std.specs.Prelude.{◌≡◌, ℕ, ◌+◌, ◌-◌, ◌<◌, ◌≤◌, List, ◌∷◌, Result, Ok, Err}
use Rattle.asn1_syntax.specs.declared.assignments.assignment.Syntax.{Syntax}
use Rattle.asn1_syntax.specs.declared.types.definition.Component.{Component}
use Rattle.aper_defs.specs.Trees.{Tree}
use Rattle.aper_defs.specs.Fields.{Path}
use Rattle.aper_defs.specs.Fields as fields
use Rattle.aper_defs.specs.Questions.{Prog}
use Rattle.aper_defs.specs.Reading.{Cursor, run}
use Rattle.aper_cursor.specs.declared.error.Unanswered.{Unanswered}
use Rattle.aper_cursor.specs.declared.error.Unanswered.TheVariants.{Wrong, Memory}
use Rattle.aper_cursor.specs.asking.Going.{fault_at}
use Rattle.aper_frames.specs.declared.frame.Components.{Components}
use Rattle.aper_frames.specs.declared.frame.Members.{Members}
use Rattle.aper_frames.specs.declared.frame.Frame.{Frame}
use Rattle.aper_frames.specs.declared.frame.Frame.TheVariants as frames
use Rattle.aper_frames.specs.declared.frame.Turn.{Turn}
use Rattle.aper_frames.specs.Frames.{component_after, path_of, next_of}
use Rattle.aper_frames.specs.Steps.{left}
use Rattle.aper_frames.specs.Weights.{components_weight, turn_weight, frames_weight}
use Rattle.aper_decode.specs.Heavy.{weighed}

-- `Steps` by these types alone.
abbrev pub StepsIn : (ℕ → Tree) → Prog → Cursor → Cursor → List Frame → Result Turn Unanswered → Type 0
StepsIn of all old new fs (Ok turn) = run all old ≡ run (left of turn fs) new
StepsIn of all old new fs (Err (Wrong reason)) = run all old ≡ Err (fault_at new reason (path_of fs))
StepsIn of all old new fs (Err Memory) = Unit {0}

-- What is left to be read is of types of the module: it weighs no more than some number, whatever other types weigh.
pub record IsOfModule (m : Syntax) (weight : (ℕ → ℕ) → ℕ) : Type 0 where
  pub most : ℕ
  pub bounded : (other : ℕ) → weight (weighed m other) ≤ most

-- Less is left than this, whatever types outside the module weigh: a type of the module weighs what its form does.
abbrev pub LighterIn : Syntax → ((ℕ → ℕ) → ℕ) → List Frame → Result Turn Unanswered → Type 0
LighterIn m weight fs (Ok turn) = (other : ℕ) → turn_weight (weighed m other) turn + frames_weight (weighed m other) fs < weight (weighed m other)
LighterIn m weight fs (Err e) = Unit {0}

-- A member is read, and the others after it.
abbrev pub among : Members → List Frame → List Frame
among m fs = frames.Member (record m { left = m.left - 1 }) ∷ fs

-- A component is read, and others after it.
pub record IsAround (part : Component) (others : Components) (old new : List Frame) : Type 0 where
  pub path : path_of new ≡ fields.component part.name ∷ path_of old
  pub next : (of : ℕ → Tree) → next_of of new ≡ component_after of others (path_of old) (next_of of old)
  pub weight : (w : ℕ → ℕ) → frames_weight w new ≡ components_weight w others + frames_weight w old

-- Internal: how much is left to be read, by the weights of types. Each step of a decoder lessens it, whatever the types weigh: so the
-- decoder's loop ends, and reads types of its module alone.
use Rattle.std.specs.Prelude.{ℕ, ◌+◌, ◌*◌, ◌<◌, List, [], ◌∷◌, length, Option, Some, None, Result, Ok, Err}
use Rattle.asn1_syntax.specs.declared.types.definition.TypeId.{TypeId}
use Rattle.asn1_syntax.specs.declared.types.definition.Component.{Component}
use Rattle.asn1_syntax.specs.declared.assignments.assignment.IeRow.{IeRow}
use Rattle.asn1_syntax.specs.declared.assignments.assignment.ProcedureRow.{ProcedureRow}
use Rattle.aper_cursor.specs.declared.error.Unanswered.{Unanswered}
use Rattle.aper_frames.specs.declared.frame.Components.{Components}
use Rattle.aper_frames.specs.declared.frame.Additions.{Additions}
use Rattle.aper_frames.specs.declared.frame.Members.{Members}
use Rattle.aper_frames.specs.declared.frame.Elements.{Elements}
use Rattle.aper_frames.specs.declared.frame.Frame.{Frame}
use Rattle.aper_frames.specs.declared.frame.Frame.TheVariants as frames
use Rattle.aper_frames.specs.declared.frame.Turn.{Turn}
use Rattle.aper_frames.specs.declared.frame.Turn.TheVariants as turns
use Rattle.aper_frames.specs.declared.parts.Addition.{Addition}
use Rattle.aper_frames.specs.declared.parts.Addition.TheVariants as additions

-- ---- what forms of types hold: components or alternatives, rows of sets, and procedures
abbrev pub part_weight : (ℕ → ℕ) → Option Component → ℕ
part_weight w None = 0
part_weight w (Some part) = 3 + w part.definition.number

abbrev pub parts_weight : (ℕ → ℕ) → List Component → ℕ
parts_weight w [] = 0
parts_weight w (part ∷ parts) = part_weight w (Some part) + parts_weight w parts

abbrev pub rows_weight : (ℕ → ℕ) → List IeRow → ℕ
rows_weight w [] = 0
rows_weight w (row ∷ rows) = w row.definition.number + rows_weight w rows

abbrev pub outcome_weight : (ℕ → ℕ) → Option TypeId → ℕ
outcome_weight w None = 0
outcome_weight w (Some id) = w id.number

abbrev pub procedures_weight : (ℕ → ℕ) → List ProcedureRow → ℕ
procedures_weight w [] = 0
procedures_weight w (row ∷ rows) =
    w row.initiating.number + outcome_weight w row.successful + outcome_weight w row.unsuccessful + procedures_weight w rows

-- ---- forms of types: at most 64 additions, and at most 65,535 members or elements
abbrev pub sequence_weight : (ℕ → ℕ) → (root additions : List Component) → ℕ
sequence_weight w root additions = parts_weight w root + parts_weight w additions + 194

abbrev pub choice_weight : (ℕ → ℕ) → (root additions : List Component) → ℕ
choice_weight w root additions = parts_weight w root + parts_weight w additions + 3

abbrev pub list_weight : (ℕ → ℕ) → (count : ℕ) → TypeId → ℕ
list_weight w count element = count * (2 + w element.number) + 1

abbrev pub container_weight : (ℕ → ℕ) → (count : ℕ) → List IeRow → ℕ
container_weight w count rows = count * (4 + rows_weight w rows) + 1

abbrev pub message_weight : (ℕ → ℕ) → List ProcedureRow → ℕ
message_weight w rows = procedures_weight w rows + 3

-- ---- what is left of a value after the one inside it
abbrev pub components_weight : (ℕ → ℕ) → Components → ℕ
components_weight w c = sequence_weight w c.left.now c.additions.now

abbrev pub additions_weight : (ℕ → ℕ) → Additions → ℕ
additions_weight w a = parts_weight w a.left.now + 3 * length a.there + 1

abbrev pub members_weight : (ℕ → ℕ) → Members → ℕ
members_weight w m = list_weight w m.left m.element

abbrev pub elements_weight : (ℕ → ℕ) → Elements → ℕ
elements_weight w e = container_weight w e.left e.rows.now

abbrev pub frame_weight : (ℕ → ℕ) → Frame → ℕ
frame_weight w (frames.Component f) = components_weight w f.others
frame_weight w (frames.Addition f) = additions_weight w f.others
frame_weight w (frames.Alternative f) = 1
frame_weight w (frames.Member m) = members_weight w m
frame_weight w (frames.Element f) = elements_weight w f.others
frame_weight w (frames.Body f) = 1
frame_weight w frames.Open = 1

abbrev pub frames_weight : (ℕ → ℕ) → List Frame → ℕ
frames_weight w [] = 0
frames_weight w (f ∷ fs) = frame_weight w f + frames_weight w fs

-- ---- steps
abbrev pub turn_weight : (ℕ → ℕ) → Turn → ℕ
turn_weight w (turns.Read id) = w id.number
turn_weight w (turns.Made v) = 0

-- the contents of an open type, around a value of a type or of what isn't known
abbrev pub contents_weight : (ℕ → ℕ) → Option TypeId → ℕ
contents_weight w None = 1
contents_weight w (Some id) = 2 + w id.number

-- the next addition
abbrev pub addition_weight : (ℕ → ℕ) → Addition → ℕ
addition_weight w (additions.Named part) = 3 + part_weight w (Some part.now)
addition_weight w additions.Unnamed = 3
addition_weight w additions.End = 0

-- Less is left than this.
abbrev pub Lighter : ((ℕ → ℕ) → ℕ) → List Frame → Result Turn Unanswered → Type 0
Lighter weight fs (Ok turn) = (w : ℕ → ℕ) → turn_weight w turn + frames_weight w fs < weight w
Lighter weight fs (Err e) = Unit {0}

-- The turns of a decoder, and the end of a whole value.
use Rattle.std.proofs.Common.{◌≡◌, ℕ, ◌+◌, ◌*◌, ◌<◌, ◌≤◌, ◌==◌, cond, List, [], length, Bool, true, false, Ok, Err, sym, ap, ◌∙◌, arith}
use Rattle.asn1_syntax.specs.declared.types.definition.TypeId.{TypeId}
use Rattle.asn1_syntax.specs.declared.assignments.assignment.Syntax.{Syntax}
use Rattle.aper_defs.specs.declared.reason.Reason.{Reason}
use Rattle.aper_defs.specs.declared.reason.Reason.TheVariants as reasons
use Rattle.aper_defs.specs.Trees.{Tree}
use Rattle.aper_defs.specs.Fields.{closing}
use Rattle.aper_defs.specs.Questions.{ask, done}
use Rattle.aper_defs.specs.Asking.{asks_whole}
use Rattle.aper_defs.specs.Reading.{Cursor, run, read, goes_on, answered_at, only}
use Rattle.proof_aper.proofs.answers.Standing.{answered}
use Rattle.aper_cursor.specs.declared.error.Unanswered.{Unanswered}
use Rattle.aper_cursor.specs.declared.error.Unanswered.TheVariants.{Wrong, Memory}
use Rattle.aper_cursor.specs.asking.Going.{fault_at}
use Rattle.aper_values.specs.declared.value.Value.{Value}
use Rattle.aper_values.specs.Views.{view}
use Rattle.aper_values.specs.declared.types.form.Form.{Form}
use Rattle.aper_values.specs.types.Types.{tree}
use Rattle.aper_values.specs.types.Forms.{form_tree, IsFormInside}
use Rattle.aper_frames.specs.declared.frame.Frame.{Frame}
use Rattle.aper_frames.specs.declared.frame.Turn.{Turn}
use Rattle.aper_frames.specs.declared.frame.Turn.TheVariants as turns
use Rattle.aper_frames.specs.Steps.{left}
use Rattle.aper_frames.specs.Weights.{frames_weight, turn_weight}
use Rattle.aper_decode.specs.Forms.{form_weight}
use Rattle.aper_decode.specs.Heavy.{heavy, weighed}
use Rattle.aper_decode.specs.InModule.{IsOfModule}
use Rattle.aper_decode.specs.Turns.{IsTurnInside, TakesTurn, ReadsValue}
use Rattle.aper_decode.proofs.HeavyLemmas.{weighed_inside, form_weighed, is_inside}

-- after the beginning of a value
module _ (m : Syntax) (id : TypeId) (form : Form) (is : tree m id.number ≡ form_tree (tree m) form) where
  pub begun_lighter : (turn : Turn) (before fs : List Frame) → id.number < length m.nodes → IsFormInside (length m.nodes) form
      → ((other : ℕ) → turn_weight (weighed m other) turn + frames_weight (weighed m other) fs
      < form_weight (weighed m other) form + frames_weight (weighed m other) before) → (other : ℕ)
      → turn_weight (weighed m other) turn + frames_weight (weighed m other) fs
      < turn_weight (weighed m other) (turns.Read id) + frames_weight (weighed m other) before
  begun_lighter turn before fs within inside lighter other =
      omega (arith, lighter other, form_weighed m other id.number form within is inside)

-- what a form of a type of a module holds is of the module
pub form_of_module : (m : Syntax) (id : ℕ) (form : Form) → id < length m.nodes → tree m id ≡ form_tree (tree m) form
    → IsFormInside (length m.nodes) form → IsOfModule m (λ w. form_weight w form)
form_of_module m id form within is inside = record {
  most = heavy (tree m id);
  bounded = λ other. omega (arith, form_weighed m other id form within is inside, weighed_inside m other id within);
}

-- What the loop keeps: the whole is asked as it was, and no more is left than there was at first, whatever types outside weigh.
pub record IsTurn (m : Syntax) (whole : ℕ) (first : Cursor) (turn : Turn) (fs : List Frame) (c : Cursor) : Type 0 where
  pub same : run (asks_whole (tree m whole)) first ≡ run (left (tree m) turn fs) c
  pub least : (other : ℕ) → turn_weight (weighed m other) turn + frames_weight (weighed m other) fs ≤ heavy (tree m whole)

-- how much is left
unfoldable pub turn_left : Syntax → Turn → List Frame → ℕ
turn_left m turn fs = turn_weight (weighed m 0) turn + frames_weight (weighed m 0) fs

pub first_turn : (m : Syntax) (first : Cursor) (id : TypeId) (fs : List Frame) → id.number < length m.nodes → fs ≡ []
    → IsTurn m id.number first (turns.Read id) fs first
first_turn m first id fs within none = record {
  same = ap (λ gs. run (left (tree m) (turns.Read id) gs) first) (sym none);
  least = λ other. omega (arith, ap (frames_weight (weighed m other)) none, weighed_inside m other id.number within);
}

module _ (m : Syntax) (whole : ℕ) (first : Cursor) (turn : Turn) (fs : List Frame) (c : Cursor) (t : IsTurn m whole first turn fs c) where
  -- the type that is to be read is one of the module
  pub turn_inside : IsTurnInside (length m.nodes) turn
  turn_inside = inside turn t.least
    where
      inside : (x : Turn) → ((other : ℕ) → turn_weight (weighed m other) x + frames_weight (weighed m other) fs ≤ heavy (tree m whole))
          → IsTurnInside (length m.nodes) x
      inside (turns.Read id) least = is_inside m id.number (heavy (tree m whole)) (λ other. omega (arith, least other))
      inside (turns.Made v) least = tt

  -- and so are those inside the frames
  pub turn_frames : IsOfModule m (λ w. frames_weight w fs)
  turn_frames = record { most = heavy (tree m whole); bounded = λ other. omega (arith, t.least other) }

  pub next_turn : (next : Turn) (gs : List Frame) (d : Cursor) → run (left (tree m) turn fs) c ≡ run (left (tree m) next gs) d
      → ((other : ℕ) → turn_weight (weighed m other) next + frames_weight (weighed m other) gs
      < turn_weight (weighed m other) turn + frames_weight (weighed m other) fs)
      → IsTurn m whole first next gs d
  next_turn next gs d asked lighter = record { same = t.same ∙ asked; least = λ other. omega (arith, lighter other, t.least other) }

  pub turn_refused : (gs : List Frame) (d : Cursor) (e : Unanswered)
      → TakesTurn (tree m) (run (left (tree m) turn fs) c) d gs (Err e) → ReadsValue (tree m whole) first d gs (Err e)
  turn_refused gs d (Wrong reason) asked = t.same ∙ asked
  turn_refused gs d Memory asked = tt

pub turn_lessens : (m : Syntax) (turn next : Turn) (fs gs : List Frame)
    → ((other : ℕ) → turn_weight (weighed m other) next + frames_weight (weighed m other) gs
    < turn_weight (weighed m other) turn + frames_weight (weighed m other) fs)
    → turn_left m next gs < turn_left m turn fs
unfolding turn_left
turn_lessens m turn next fs gs lighter = lighter 0

-- ---- a whole value, after its last field
module _ (t : Tree) (v : Value) (first old new : Cursor) (is : run (asks_whole t) first ≡ run (ask [] closing (λ m. done (view v))) old) where
  pub closes_wrong : (reason : Reason) → read closing old ≡ Err reason → new ≡ old
      → only (run (asks_whole t) first) ≡ Err (fault_at new reason [])
  unfolding run
  closes_wrong reason wrong stays =
      ap only (is ∙ ap (λ r. goes_on [] old r (λ n. run (done (view v)) (answered_at closing n old))) wrong)
      ∙ ap (λ (c : Cursor). Err (fault_at c reason [])) (sym stays)

  closed : (n : ℕ) → read closing old ≡ Ok n → new ≡ answered_at closing n old → run (asks_whole t) first ≡ Ok (view v, new)
  unfolding run
  closed n right moves =
      is ∙ answered [] closing (λ m. done (view v)) old n right ∙ ap (λ (c : Cursor). Ok (view v, c)) (sym moves)

  pub closes : (n : ℕ) → read closing old ≡ Ok n → new ≡ answered_at closing n old → (new.place == 8 * length new.octets) ≡ true
      → only (run (asks_whole t) first) ≡ Ok (view v)
  closes n right moves ends =
      ap only (closed n right moves)
      ∙ ap (λ (b : Bool). cond b (Ok (view v)) (Err (record { bit = new.place; reason = reasons.Tail; path = [] }))) ends

  pub leaves_tail : (n : ℕ) → read closing old ≡ Ok n → new ≡ answered_at closing n old → (new.place == 8 * length new.octets) ≡ false
      → only (run (asks_whole t) first) ≡ Err (fault_at new reasons.Tail [])
  leaves_tail n right moves ends =
      ap only (closed n right moves)
      ∙ ap (λ (b : Bool). cond b (Ok (view v)) (Err (record { bit = new.place; reason = reasons.Tail; path = [] }))) ends

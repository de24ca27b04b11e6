-- Steps that leave less to be read.
use Rattle.std.proofs.Common.{◌≡◌, ℕ, ◌+◌, ◌<◌, ◌≤◌, List, [], ◌∷◌, length, Bool, Some, Result, Ok, Err, ap, ◌∙◌, arith}
use Rattle.asn1_syntax.specs.declared.types.definition.TypeId.{TypeId}
use Rattle.asn1_syntax.specs.declared.types.definition.Component.{Component}
use Rattle.aper_cursor.specs.declared.error.Unanswered.{Unanswered}
use Rattle.aper_values.specs.declared.value.Value.{Value}
use Rattle.aper_frames.specs.declared.frame.Components.{Components}
use Rattle.aper_frames.specs.declared.frame.Additions.{Additions}
use Rattle.aper_frames.specs.declared.frame.Frame.{Frame}
use Rattle.aper_frames.specs.declared.frame.Frame.TheVariants as frames
use Rattle.aper_frames.specs.declared.frame.Turn.{Turn}
use Rattle.aper_frames.specs.declared.frame.Turn.TheVariants as turns
use Rattle.aper_frames.specs.declared.parts.Addition.{Addition}
use Rattle.aper_frames.specs.declared.parts.Addition.TheVariants as additions
use Rattle.aper_frames.specs.Frames.{IsNamed}
use Rattle.aper_frames.specs.Weights.{part_weight, parts_weight, components_weight, additions_weight, addition_weight, frame_weight, frames_weight, contents_weight, Lighter}

-- ---- a value inside one more frame, or in an open type inside one
pub read_lighter : (f : Frame) (fs more : List Frame) (id : TypeId) (weight : (ℕ → ℕ) → ℕ) → more ≡ f ∷ fs
    → ((w : ℕ → ℕ) → w id.number + frame_weight w f + frames_weight w fs < weight w) → Lighter weight more (Ok (turns.Read id))
read_lighter f fs more id weight e less = λ w. omega (arith, ap (frames_weight w) e, less w)

pub made_lighter : (f : Frame) (fs more : List Frame) (v : Value) (weight : (ℕ → ℕ) → ℕ) → more ≡ f ∷ fs
    → ((w : ℕ → ℕ) → frame_weight w f + frames_weight w fs < weight w) → Lighter weight more (Ok (turns.Made v))
made_lighter f fs more v weight e less = λ w. omega (arith, ap (frames_weight w) e, less w)

pub inside_lighter : (f : Frame) (fs some more : List Frame) (id : TypeId) → some ≡ f ∷ fs → more ≡ frames.Open ∷ some
    → Lighter (λ w. contents_weight w (Some id) + frame_weight w f + frames_weight w fs) more (Ok (turns.Read id))
inside_lighter f fs some more id one two = λ w. omega (arith, ap (frames_weight w) two, ap (frames_weight w) one)

-- a step that is allowed more
pub lighter_than : (r : Result Turn Unanswered) (fs : List Frame) (some more : (ℕ → ℕ) → ℕ) → ((w : ℕ → ℕ) → some w ≤ more w)
    → Lighter some fs r → Lighter more fs r
lighter_than (Ok turn) fs some more less h = λ w. omega (arith, less w, h w)
lighter_than (Err e) fs some more less h = tt

-- ---- the next component, and the next addition
pub component_taken : (w : ℕ → ℕ) (a n : Components) (q : Component) → a.left.now ≡ q ∷ n.left.now → n.additions.now ≡ a.additions.now
    → part_weight w (Some q) + components_weight w n ≤ components_weight w a
component_taken w a n q left added = omega (arith, ap (parts_weight w) left, ap (parts_weight w) added)

pub components_ended : (w : ℕ → ℕ) (a n : Components) → a.left.now ≡ [] → n.left.now ≡ [] → n.additions.now ≡ a.additions.now
    → components_weight w n ≤ components_weight w a
components_ended w a n left none added = omega (arith, ap (parts_weight w) left, ap (parts_weight w) none, ap (parts_weight w) added)

pub addition_taken : (w : ℕ → ℕ) (a n : Additions) (x : Addition) (b : Bool) (there : List Bool) → IsNamed a.left.now n.left.now x
    → a.there ≡ b ∷ there → n.there ≡ there → addition_weight w x + additions_weight w n ≤ additions_weight w a
addition_taken w a n (additions.Named q) b there left marks rest =
    let count : length a.there ≡ length there + 1 = ap length marks ∙ omega arith in
    omega (arith, ap (parts_weight w) left, count, ap length rest)
addition_taken w a n additions.Unnamed b there left marks rest =
    let count : length a.there ≡ length there + 1 = ap length marks ∙ omega arith in
    omega (arith, ap (parts_weight w) left.0, ap (parts_weight w) left.1, count, ap length rest)
addition_taken w a n additions.End b there left marks rest = absurd left

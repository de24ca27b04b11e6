-- Internal: how much is left to be read, by the weights of types, twice as finely as in `Weights` of aper_frames.
use Rattle.std.specs.Prelude.{ℕ, ◌+◌, ◌*◌, ◌<◌, List, Result, Ok, Err}
use Rattle.aper_frames.specs.declared.frame.Frame.{Frame}
use Rattle.aper_frames.specs.Weights.{parts_weight, rows_weight, frame_weight, frames_weight}
use Rattle.aper_stream.specs.declared.resuming.pending.Pending.{Pending}
use Rattle.aper_stream.specs.declared.resuming.pending.Pending.TheVariants as pendings

abbrev pub pending_weight : (ℕ → ℕ) → Pending → ℕ
pending_weight w (pendings.Read id) = 2 * w id.number
pending_weight w (pendings.Made v) = 1
pending_weight w (pendings.Marks c) = 2 * (parts_weight w c.additions.now + 193) + 1
pending_weight w (pendings.Head e) = 2 * ((e.left + 1) * (4 + rows_weight w e.rows.now)) + 1
pending_weight w (pendings.Inside f id) = 2 * (frame_weight w f + w id.number) + 3
pending_weight w (pendings.Unknown f) = 2 * frame_weight w f + 3
pending_weight w (pendings.Octets count) = 2
pending_weight w (pendings.Closing v) = 2
pending_weight w (pendings.Ending v) = 0

abbrev pub weight_left : (ℕ → ℕ) → Pending → List Frame → ℕ
weight_left w pending fs = pending_weight w pending + 2 * frames_weight w fs

-- Less is left than this.
abbrev pub Lightens : {E : Type 0} → ((ℕ → ℕ) → ℕ) → List Frame → Result Pending E → Type 0
Lightens {E} weight fs (Ok pending) = (w : ℕ → ℕ) → weight_left w pending fs < weight w
Lightens {E} weight fs (Err e) = Unit {0}

-- Steps of an initiator, and which replies it takes. Each reply that is taken closes its request.
use Rattle.std.specs.Prelude.{◌==◌, ℕ, ◌+◌, ◌&&◌, if◌then◌else◌, List, [], ◌∷◌, ◌++◌, Option}
use Rattle.gnb_types.specs.declared.keys.Channel.{Channel}
use Rattle.transaction_defs.specs.Callers.{Caller, Begin, begun, running, spent, begin, keep_request, is_awaited, close, after_tick}
use Rattle.transaction_defs.specs.Applied.{Request, is_same}

pub data Step (M : Type 0) : Type 0 where
  begins : (channel : Channel) (deadline : Option ℕ) → Step M
  keeps_request : (channel : Channel) (request : M) → Step M
  replies : (channel : Channel) (instance : ℕ) → Step M
  closes : (channel : Channel) → Step M
  ticks : Step M

abbrev pub begun_or : {M : Type 0} → Caller M → Begin M → Caller M
begun_or r (begun instance after) = after
begun_or r running = r
begun_or r spent = r

unfoldable pub after_step : {M : Type 0} → Caller M → Step M → Caller M
after_step r (begins c deadline) = begun_or r (begin r c deadline)
after_step r (keeps_request c request) = keep_request r c request
after_step r (replies c instance) = if is_awaited r c instance then close r c else r
after_step r (closes c) = close r c
after_step r ticks = after_tick r

unfoldable pub taken_by : {M : Type 0} → Caller M → Step M → List Request
taken_by r (replies c instance) = if is_awaited r c instance then (c, instance) ∷ [] else []
taken_by r (begins c deadline) = []
taken_by r (keeps_request c request) = []
taken_by r (closes c) = []
taken_by r ticks = []

-- the replies that are taken
unfoldable pub taken_replies : {M : Type 0} → Caller M → List (Step M) → List Request
taken_replies r [] = []
taken_replies r (step ∷ steps) = taken_by r step ++ taken_replies (after_step r step) steps

-- how often the channel and the instance are in the list
unfoldable pub times : List Request → Channel → ℕ → ℕ
times [] c instance = 0
times (r ∷ rs) c instance = (if is_same c r.0 && r.1 == instance then 1 else 0) + times rs c instance

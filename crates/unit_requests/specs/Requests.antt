-- What the calls on requests and replies give, against the words of the definitions.
use Rattle.std.specs.Prelude.{◌≡◌, ℕ, List, [], ◌∷◌, Option, Some, None, Result, Ok, Err}
use Rattle.gnb_types.specs.declared.keys.Channel.{Channel}
use Rattle.gnb_types.specs.declared.items.Memory.{Memory}
use Rattle.gnb_types.specs.declared.outputs.Output.{Output}
use Rattle.gnb_types.specs.declared.outputs.Output.TheVariants.{Control}
use Rattle.transaction_defs.specs.Callers.{Caller, Begin, begun, running, spent}
use Rattle.transaction_defs.specs.Callees.{taken, verdict}
use Rattle.transaction_defs.specs.Callees as callees
use Rattle.transactions.specs.declared.callee.Verdict.{Verdict}
use Rattle.transactions.specs.declared.callee.Verdict.TheVariants.{New, Again, Stale}
use Rattle.unit_defs.specs.Ways.{instances_spent}
use Rattle.unit_defs.specs.Transactions.{Transactions, Waiting, Asked, waits_at, with_waiting}
use Rattle.unit_messages.specs.declared.steps.StepError.{StepError}
use Rattle.unit_messages.specs.declared.steps.StepError.TheVariants as errors
use Rattle.unit_messages.specs.steps.Steps.{Step, stepped, stopped}

-- what is kept of requests and replies, with their octets
abbrev pub Kept : Type 0
Kept = Transactions (List ℕ) (List ℕ)

-- A request was asked for: all outputs so far, what is kept then, and the instance that it got; or the counter is spent. Out of memory
-- nothing is said.
abbrev pub AskGives : Step (Asked (List ℕ) (List ℕ)) → List Output → Kept → Result (Option ℕ) StepError → Type 0
AskGives step outputs after (Ok awaited) = step ≡ stepped outputs (record { transactions = after; awaited = awaited })
AskGives step outputs after (Err (errors.Spent counter)) = step ≡ stopped counter
AskGives step outputs after (Err errors.Memory) = Unit {0}

-- A request was opened, with this instance; or one is open; or the counter is spent. Out of memory nothing is said.
abbrev pub OpenGives : Begin (List ℕ) → Caller (List ℕ) → Result (Option ℕ) StepError → Type 0
OpenGives b after (Ok (Some instance)) = b ≡ begun instance after
OpenGives b after (Ok None) = b ≡ running
OpenGives b after (Err (errors.Spent counter)) = (b ≡ spent) × (counter ≡ instances_spent)
OpenGives b after (Err errors.Memory) = Unit {0}

-- what waits longest is out; where nothing waits all is as before
abbrev pub TakesWaiting : Kept → Channel → Kept → Option (Waiting (List ℕ)) → Type 0
TakesWaiting before c after (Some w) = (ws : List (Waiting (List ℕ))) × (waits_at before c ≡ w ∷ ws) × (after ≡ with_waiting before c ws)
TakesWaiting before c after None = (waits_at before c ≡ []) × (after ≡ before)

-- a request of another node came: it is new, and taken; or it is the newest again, or a lower one, and nothing changes
abbrev pub AcceptGives : Kept → Channel → ℕ → Kept → Result Verdict Memory → Type 0
AcceptGives before c instance after (Ok New) =
    (verdict before.callee c instance ≡ callees.new) × (after ≡ record before { callee = taken before.callee c instance })
AcceptGives before c instance after (Ok Again) = (verdict before.callee c instance ≡ callees.again) × (after ≡ before)
AcceptGives before c instance after (Ok Stale) = (verdict before.callee c instance ≡ callees.stale) × (after ≡ before)
AcceptGives before c instance after (Err e) = after ≡ before

-- a kept reply is put again
abbrev pub outputs_again : Channel → Option (List ℕ) → List Output
outputs_again c None = []
outputs_again c (Some kept) = Control c.peer c.ue kept ∷ []

-- The answers of calls, of those that the definitions give.
use Rattle.std.specs.Prelude.{◌≡◌, ℕ, List, Result, Ok, Err, Bool, true, false}
use Rattle.transaction_defs.specs.Callers.{Caller, Begin, begun, running, spent, repeats, expires}
use Rattle.transaction_defs.specs.Callers as callers
use Rattle.transaction_defs.specs.Callees.{new, again, stale}
use Rattle.transaction_defs.specs.Callees as callees
use Rattle.transactions.specs.declared.caller.BeginError.{BeginError}
use Rattle.transactions.specs.declared.caller.BeginError.TheVariants as errors
use Rattle.transactions.specs.declared.caller.Reply.{Reply}
use Rattle.transactions.specs.declared.caller.Reply.TheVariants as replies
use Rattle.transactions.specs.declared.caller.Due.{Due}
use Rattle.transactions.specs.declared.caller.Due.TheVariants.{Repeat, Expired}
use Rattle.transactions.specs.declared.callee.Verdict.{Verdict}
use Rattle.transactions.specs.declared.callee.Verdict.TheVariants.{New, Again, Stale}

-- ---- an initiator

-- what `begin` answers, and leaves: memory can run out only where a request would be begun
abbrev pub BeginGives : {M : Type 0} → Begin M → Caller M → Result ℕ BeginError → Type 0
BeginGives b after (Ok instance) = b ≡ begun instance after
BeginGives b after (Err errors.Running) = b ≡ running
BeginGives b after (Err errors.Spent) = b ≡ spent
BeginGives (begun instance next) after (Err errors.Memory) = Unit {0}
BeginGives b after (Err errors.Memory) = ⊥

abbrev pub reply_as : Bool → Reply
reply_as true = replies.Taken
reply_as false = replies.Stale

abbrev pub due_as : callers.Due (List ℕ) → Due
due_as (repeats channel request) = Repeat channel request
due_as (expires channel) = Expired channel

-- ---- a responder

abbrev pub verdict_as : callees.Verdict → Verdict
verdict_as new = New
verdict_as again = Again
verdict_as stale = Stale

-- Internal: what is due of an open request, as the rows have it.
use Rattle.std.specs.Prelude.{ℕ, List}
use Rattle.transaction_defs.specs.Callers as rows
use Rattle.transactions.specs.declared.caller.Due.{Due}
use Rattle.transactions.specs.declared.caller.Due.TheVariants.{Repeat, Expired}

abbrev pub due_in : Due → rows.Due (List ℕ)
due_in (Repeat channel request) = rows.repeats channel request
due_in (Expired channel) = rows.expires channel

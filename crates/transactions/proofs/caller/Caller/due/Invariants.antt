use Rattle.std.proofs.Common.{◌≡◌, ◌++◌}
use Rattle.std.specs.Prelude.{map}
use Rattle.std.specs.List.{flat_map}
use Rattle.transaction_defs.specs.Callers.{due_of}
use Rattle.transactions.specs.Answers.{due_as}
use Rattle.transactions.proofs.caller.Caller.due.Given as goal

abbrev pub invariant-loop-channel : goal.invariant-loop-channel
invariant-loop-channel l =
    l.due ++ map due_as (flat_map due_of l.channel-iterator) ≡ map due_as (flat_map due_of l.initial.channel-iterator)

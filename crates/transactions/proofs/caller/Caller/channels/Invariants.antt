use Rattle.std.proofs.Common.{◌≡◌, ◌++◌}
use Rattle.std.specs.Map.{keys_of}
use Rattle.transactions.proofs.caller.Caller.channels.Given as goal

abbrev pub invariant-loop-channel : goal.invariant-loop-channel
invariant-loop-channel l = l.channels ++ keys_of l.channel-iterator ≡ keys_of l.initial.channel-iterator

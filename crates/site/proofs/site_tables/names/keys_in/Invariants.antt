use Rattle.std.proofs.Common.{◌≡◌, ◌++◌}
use Rattle.std.specs.Map.{keys_of}
use Rattle.site.proofs.site_tables.names.keys_in.Given as goal

-- the keys so far, and those to come, are all
abbrev pub invariant-loop-key : goal.invariant-loop-key
invariant-loop-key g l = l.keys ++ keys_of l.key-iterator ≡ keys_of l.initial.key-iterator

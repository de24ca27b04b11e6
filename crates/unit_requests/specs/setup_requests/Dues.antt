-- What an open request puts at a tick.
use Rattle.std.specs.Prelude.{List, [], ◌∷◌}
use Rattle.gnb_types.specs.declared.outputs.Output.{Output}
use Rattle.gnb_types.specs.declared.outputs.Output.TheVariants as outs
use Rattle.transactions.specs.declared.caller.Due.{Due}
use Rattle.transactions.specs.declared.caller.Due.TheVariants.{Repeat, Expired}

-- it is put again, or nothing is
abbrev pub put_again : Due → List Output
put_again (Repeat channel request) = outs.Control channel.peer channel.ue request ∷ []
put_again (Expired channel) = []

use Rattle.std.proofs.Common.{◌≡◌, drop}
use Rattle.aper_defs.specs.Membership.{some_present}
use Rattle.aper_values.specs.Views.{options_view}
use Rattle.aper.proofs.measuring.heads.is_some_there.Given as goal

abbrev pub invariant-loop-addition : goal.invariant-loop-addition
invariant-loop-addition l = some_present (options_view (drop l.addition-index l.additions)) ≡ some_present (options_view l.additions)

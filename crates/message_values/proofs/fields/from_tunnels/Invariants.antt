use Rattle.std.proofs.Common.{◌≡◌, take}
use Rattle.std.specs.Prelude.{map}
use Rattle.aper_values.specs.Views.{view}
use Rattle.message_defs.specs.Fields.{from_tunnel}
use Rattle.message_values.proofs.fields.from_tunnels.Given as goal

abbrev pub invariant-loop-tunnel : goal.invariant-loop-tunnel
invariant-loop-tunnel l = map view l.members.items ≡ map from_tunnel (take l.tunnel-index l.tunnels)

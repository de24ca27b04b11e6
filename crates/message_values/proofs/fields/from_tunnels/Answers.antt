use Rattle.std.proofs.Common.{◌≡◌, List, sym, ap, ◌∙◌, arith}
use Rattle.std.specs.Prelude.{map}
use Rattle.std.proofs.lemmas.List.{take_all}
use Rattle.aper_defs.specs.Values as seen
use Rattle.aper_values.specs.Views.{values_of}
use Rattle.message_defs.specs.Fields.{from_tunnel}
use Rattle.message_values.proofs.Shapes.{each_written}
use Rattle.message_values.proofs.fields.from_tunnels.Goals as goal

as_list : List seen.Value → seen.Value
as_list vs = seen.list (values_of vs)

pub returns : goal.returns
unfolding as_list
returns c =
    c.listed.ensures
    ∙ ap as_list (c.loop-tunnel.invariant ∙ ap (map from_tunnel) (take_all c.loop-tunnel.tunnel-index c.args.tunnels.now (omega arith)))
    ∙ sym (ap (λ vs. seen.list vs) (each_written from_tunnel c.args.tunnels.now))

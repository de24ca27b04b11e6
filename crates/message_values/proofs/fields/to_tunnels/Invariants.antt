use Rattle.std.proofs.Common.{◌≡◌, ◌++◌, drop}
use Rattle.std.specs.List.{All}
use Rattle.aper_values.specs.Views.{values_view, view}
use Rattle.message_defs.specs.Fields.{to_each, to_tunnel}
use Rattle.message_values.specs.Parts.{members_in}
use Rattle.message_values.specs.Fitting.{IsTunnel}
use Rattle.message_values.proofs.fields.to_tunnels.Given as goal

abbrev pub invariant-loop-member : goal.invariant-loop-member
invariant-loop-member l = record {
  all : All IsTunnel (to_each to_tunnel (values_view (drop l.member-index l.member-items)));
  read : l.tunnels ++ to_each to_tunnel (values_view (drop l.member-index l.member-items)) ≡ to_each to_tunnel (members_in (view l.value));
}

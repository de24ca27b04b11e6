-- Internal: the home of the terminal of a radio, or why nothing can be carried or confirmed there.
use Rattle.std.specs.Prelude.{Option, Some, None, Result, Ok, Err, if◌then◌else◌}
use Rattle.gnb_types.specs.declared.names.NodeId.{NodeId}
use Rattle.gnb_types.specs.declared.keys.EntityKey.{EntityKey}
use Rattle.gnb_types.specs.declared.reasons.RefuseReason.{RefuseReason}
use Rattle.gnb_types.specs.declared.reasons.RefuseReason.TheVariants.{NoBearer, NoRadio}
use Rattle.run_defs.specs.States.{has_bearer}
use Rattle.run_defs.specs.Conditions.{ready_home}
use Rattle.run_links.specs.Networks.{OctetState}

abbrev pub home_in : Option NodeId → Result NodeId RefuseReason
home_in None = Err NoRadio
home_in (Some home) = Ok home

abbrev pub home_at : OctetState → EntityKey → Result NodeId RefuseReason
home_at s key = if has_bearer s key.ue key.bearer then home_in (ready_home s key.ue) else Err NoBearer

use Rattle.std.proofs.Common.{◌≡◌, List, sym, ap, ◌∙◌, arith}
use Rattle.std.specs.Prelude.{map}
use Rattle.std.proofs.lemmas.List.{take_all}
use Rattle.aper_defs.specs.Values as seen
use Rattle.aper_values.specs.Views.{values_of}
use Rattle.message_defs.specs.Fields.{from_status}
use Rattle.message_values.proofs.Shapes.{each_written}
use Rattle.message_values.proofs.fields.from_statuses.Goals as goal

as_list : List seen.Value → seen.Value
as_list vs = seen.list (values_of vs)

pub returns : goal.returns
unfolding as_list
returns c =
    c.listed.ensures
    ∙ ap as_list (c.loop-status.invariant ∙ ap (map from_status) (take_all c.loop-status.status-index c.args.statuses.now (omega arith)))
    ∙ sym (ap (λ vs. seen.list vs) (each_written from_status c.args.statuses.now))
